use Rattle.std.proofs.Common.{◌≡◌, ◌∷◌, List, All, subst, arith, length, ◌<◌}
use Rattle.trees.specs.Tree.{Tree}
use Rattle.open_types.specs.declared.locals.Local.{Local}
use Rattle.open_types.specs.Drafts.{HoldsType}
use Rattle.open_types.proofs.Growing.{type_grows}
use Rattle.open_types.proofs.bound.+quantify.Goals as goal

first_held : (s : List Tree) (xs ys : List Local) (y : Local) → xs ≡ y ∷ ys → All (λ (l : Local). HoldsType s l.ty) xs → HoldsType s y.ty
first_held s xs ys y e h =
    let k = subst (All (λ (l : Local). HoldsType s l.ty)) e h in
    k 0 y (let m : 0 < length (y ∷ ys) = omega arith in m)

pub make-requires-clause-fits : goal.make-requires-clause-fits
make-requires-clause-fits t c =
    let h = first_held c.args.store.now c.args.bound.now c.in-Some.rest.now c.in-Some.first.now c.in-Some.ensures.cases.0 c.requires.bound in
    (((type_grows _ _ c.quantify.ensures.grows c.in-Some.first.now.ty h).kind, c.in_ok-inner.ensures.formula), tt)

pub make-requires-else-all-clause-fits : goal.make-requires-else-all-clause-fits
make-requires-else-all-clause-fits t c =
    let h = first_held c.args.store.now c.args.bound.now c.in-Some.rest.now c.in-Some.first.now c.in-Some.ensures.cases.0 c.requires.bound in
    (((type_grows _ _ c.quantify.ensures.grows c.in-Some.first.now.ty h).kind, c.in_ok-inner.ensures.formula), tt)
