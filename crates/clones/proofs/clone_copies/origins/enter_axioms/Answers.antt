use Rattle.std.proofs.Common.{◌≡◌, ◌∷◌, ◌+◌, ℕ, nat_eq, cond, List, Some, drop, sym, ap, ◌∙◌}
use Rattle.std.proofs.lemmas.List.{at_drop_more}
use Rattle.indexmap.specs.IndexMap.{get}
use Rattle.theory_states.specs.declared.states.AxiomAt.{AxiomAt}
use Rattle.clones.specs.clone_copies.Origins.{Axioms, with_axioms}
use Rattle.clones.proofs.clone_copies.origins.enter_axioms.Goals as goal
use Rattle.tasks.proofs.outside.Passed.{no_ok}

pub loop-it-preserved : goal.loop-it-preserved
loop-it-preserved c =
    let xs = c.args.axioms.now in
    let i = c.loop-it.it-index in
    let a = c.it-item.result in
    let f : Axioms = get nat_eq c.loop-it.places in
    let more : Axioms → Axioms = with_axioms (drop (i + 1) xs) in
    let vars = c.in_ok-names.ensures ∙ c.as_slice.ensures in
    let step : get nat_eq c.insert.new.self ≡ (λ q. cond (nat_eq a.decl q) (Some a.vars) (f q)) = λ j q. (c.in_ok-insert.ensures.updates.0 q ∙ ap (λ (v : List (List ℕ)). cond (nat_eq a.decl q) (Some v) (f q)) vars) j in
    ap more step ∙ (ap (λ (b : AxiomAt). with_axioms (b ∷ drop (i + 1) xs) f) c.it-item.is ∙ (sym (at_drop_more (λ (ys : List AxiomAt). with_axioms ys f) xs i a c.loop-it-test.true) ∙ c.loop-it.invariant))

pub returns-in_err-names : goal.returns-in_err-names
returns-in_err-names c = no_ok _ _ c.from_residual.result c.from_residual.ensures.1

pub returns-in_err-insert : goal.returns-in_err-insert
returns-in_err-insert c = no_ok _ _ c.from_residual-in_err-insert.result c.from_residual-in_err-insert.ensures.1
