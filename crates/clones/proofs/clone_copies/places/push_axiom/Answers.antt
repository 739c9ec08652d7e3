use Rattle.std.proofs.Common.{◌≡◌, ◌∷◌, ◌++◌, [], ℕ, List, length, ap, ◌∙◌}
use Rattle.tasks.specs.Meaning.{declaration_at}
use Rattle.theory_states.specs.declared.states.AxiomAt.{AxiomAt}
use Rattle.theory_states.specs.States.{StateTree, with_declaration}
use Rattle.theory_states.specs.Meaning.{state_at}
use Rattle.clones.specs.clone_copies.Places.{axiom_at}
use Rattle.clones.proofs.clone_copies.Pushed.{axiom_pushed, axiom_held}
use Rattle.clones.proofs.clone_copies.places.push_axiom.Goals as goal
use Rattle.tasks.proofs.outside.Passed.{no_ok}

pub push_decl-requires : goal.push_decl-requires
push_decl-requires c = c.requires.held.opened.visible

pub returns-clause-state : goal.returns-clause-state
returns-clause-state c =
    let s = c.args.store.now in
    let x = c.args.typed.now in
    let o = c.args.open.now in
    let y = c.push_decl.new.typed in
    let p = c.push_decl.new.open in
    let d = declaration_at s c.args.copy in
    let vars = c.args.vars.now in
    let e : state_at s y p ≡ with_declaration d (state_at s x o) = c.in_ok-place.ensures.state s in
    let old : p.axioms ≡ o.axioms = ap (λ (t : StateTree). t.opened.axioms) e in
    let it : axiom_at c.in_ok-place.place c.in_ok-vars.vars ≡ axiom_at (length x.decls) vars = ap (λ (k : ℕ). axiom_at k c.in_ok-vars.vars) c.in_ok-place.ensures.place ∙ ap (axiom_at (length x.decls)) c.in_ok-vars.ensures in
    axiom_pushed s x y o p d c.push.new.self vars e (c.in_ok-push.ensures.ok ∙ (ap (λ (as_ : List AxiomAt). as_ ++ axiom_at c.in_ok-place.place c.in_ok-vars.vars ∷ []) old ∙ ap (λ (a : AxiomAt). o.axioms ++ a ∷ []) it))

pub returns-clause-held : goal.returns-clause-held
returns-clause-held c = axiom_held c.args.store.now c.push_decl.new.typed c.push_decl.new.open c.push.new.self (c.in_ok-place.ensures.held c.args.store.now c.requires.held c.requires.copy_held)

pub returns-in_err-vars-clause-state : goal.returns-in_err-vars-clause-state
returns-in_err-vars-clause-state c = no_ok _ _ c.from_residual-in_err-vars.result c.from_residual-in_err-vars.ensures.1

pub returns-in_err-vars-clause-held : goal.returns-in_err-vars-clause-held
returns-in_err-vars-clause-held c = no_ok _ _ c.from_residual-in_err-vars.result c.from_residual-in_err-vars.ensures.1

pub returns-in_err-place-clause-state : goal.returns-in_err-place-clause-state
returns-in_err-place-clause-state c = no_ok _ _ c.from_residual.result c.from_residual.ensures.1

pub returns-in_err-place-clause-held : goal.returns-in_err-place-clause-held
returns-in_err-place-clause-held c = no_ok _ _ c.from_residual.result c.from_residual.ensures.1

pub returns-in_err-push-clause-state : goal.returns-in_err-push-clause-state
returns-in_err-push-clause-state c = no_ok _ _ c.from_residual-in_err-push.result c.from_residual-in_err-push.ensures.1

pub returns-in_err-push-clause-held : goal.returns-in_err-push-clause-held
returns-in_err-push-clause-held c = no_ok _ _ c.from_residual-in_err-push.result c.from_residual-in_err-push.ensures.1
