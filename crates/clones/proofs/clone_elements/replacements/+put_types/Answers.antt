use Rattle.std.proofs.Common.{◌≡◌, ◌∷◌, suc, List, All, length, ap, subst, ◌∙◌, arith}
use Rattle.std.proofs.lemmas.Result.{on_ok_weaker}
use Rattle.tasks.specs.trees.Tree.{Tree}
use Rattle.tasks.specs.trees.Node.{tree_at}
use Rattle.open_types.specs.Drafts.{HoldsType}
use Rattle.clones.specs.Meaning.{map_at}
use Rattle.clones.specs.declared.clone_elements.replacements.TypeFor.{TypeFor}
use Rattle.clones.specs.clone_elements.Replacements.{with_type, with_mapped_types}
use Rattle.clones.specs.clone_elements.Meaning.{type_pairs_at, TypeForHeld}
use Rattle.clones.proofs.clone_elements.replacements.+put_types.Goals as goal
use Rattle.tasks.proofs.outside.Passed.{no_ok}

first_held : (s : List Tree) (ps qs : List TypeFor) (p : TypeFor) → ps ≡ p ∷ qs → All (TypeForHeld s) ps → HoldsType s p.ty
first_held s ps qs p e h = let g : All (TypeForHeld s) (p ∷ qs) = subst (All (TypeForHeld s)) e h in g 0 p (omega arith)

rest_held : (s : List Tree) (ps qs : List TypeFor) (p : TypeFor) → ps ≡ p ∷ qs → All (TypeForHeld s) ps → All (TypeForHeld s) qs
rest_held s ps qs p e h = let g : All (TypeForHeld s) (p ∷ qs) = subst (All (TypeForHeld s)) e h in λ k d l. g (suc k) d (omega arith)

pub add_type-requires-clause-held : goal.add_type-requires-clause-held
add_type-requires-clause-held t c = (first_held c.args.store.now c.args.types.now c.in-Some.rest.now c.in-Some.first.now c.in-Some.ensures.cases.0 c.requires).held

pub add_type-requires-clause-kind : goal.add_type-requires-clause-kind
add_type-requires-clause-kind t c = (first_held c.args.store.now c.args.types.now c.in-Some.rest.now c.in-Some.first.now c.in-Some.ensures.cases.0 c.requires).kind

pub put_types-requires : goal.put_types-requires
put_types-requires t c = (omega (arith, ap length c.in-Some.ensures.cases.0), rest_held c.args.store.now c.args.types.now c.in-Some.rest.now c.in-Some.first.now c.in-Some.ensures.cases.0 c.requires)

pub returns-clause-is : goal.returns-clause-is
returns-clause-is t c =
    let s = c.args.store.now in
    let p = c.in-Some.first.now in
    let here : map_at s c.add_type.new.self ≡ with_type p.symbol (tree_at s p.ty) (map_at s c.args.morphism.now) = λ i. record { symbols = λ k. c.in_ok-add_type.ensures.symbols s k i; types = λ k. c.in_ok-add_type.ensures.types k i } in
    rw c.in-Some.ensures.cases.0 (on_ok_weaker c.put_types.result (λ h. h ∙ ap (with_mapped_types (type_pairs_at s c.in-Some.rest.now)) here) c.put_types.ensures.is)

pub returns-clause-held : goal.returns-clause-held
returns-clause-held t c = on_ok_weaker c.put_types.result (λ h m. h (c.in_ok-add_type.ensures.held m)) c.put_types.ensures.held

pub returns-in_err-add_type-clause-is : goal.returns-in_err-add_type-clause-is
returns-in_err-add_type-clause-is t c = no_ok _ _ c.from_residual.result c.from_residual.ensures.1

pub returns-in_err-add_type-clause-held : goal.returns-in_err-add_type-clause-held
returns-in_err-add_type-clause-held t c = no_ok _ _ c.from_residual.result c.from_residual.ensures.1
