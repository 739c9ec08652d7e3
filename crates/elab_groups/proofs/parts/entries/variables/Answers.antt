use Rattle.std.proofs.Common.{◌≡◌, ℕ, ◌+◌, ◌++◌, ◌∷◌, [], List, ap, sym, ◌∙◌, arith, add-one}
use Rattle.tasks.specs.trees.Tree.{Tree, Leaf, HTyVar}
use Rattle.tasks.specs.trees.Node.{tree_at}
use Rattle.tasks.specs.trees.Sorts.{sort_of}
use Rattle.tasks.proofs.trees.Nodes.{Grows_trans}
use Rattle.tasks.specs.Meaning.{trees_at}
use Rattle.tasks.specs.Equations.{type_variables}
use Rattle.open_types.specs.Drafts.{HoldsType}
use Rattle.open_types.proofs.Growing.{types_more, types_stay}
use Rattle.open_types.proofs.Taking.{mapped_more, variables_more as variables_last}
use Rattle.elab_groups.proofs.parts.entries.variables.Goals as goal

pub loop-number-preserved : goal.loop-number-preserved
loop-number-preserved c =
    let s1 = c.loop-number.store in
    let s2 = c.add.new.self in
    let n = c.loop-number.number in
    let ids = c.loop-number.types.items in
    let ty = c.in_ok-ty.ty in
    let g = c.in_ok-ty.ensures.grows in
    let inv = c.loop-number.invariant in
    let t : tree_at s2 ty ≡ Leaf (HTyVar n) = c.in_ok-ty.ensures.tree in
    let h : HoldsType s2 ty = record { held = c.in_ok-ty.ensures.held; kind = ap sort_of t } in
    let z : 0 + n ≡ n = omega arith in
    let last : type_variables 0 (n + 1) ≡ type_variables 0 n ++ Leaf (HTyVar n) ∷ [] = ap (type_variables 0) (add-one n) ∙ (variables_last 0 n ∙ ap (λ (k : ℕ). type_variables 0 n ++ Leaf (HTyVar k) ∷ []) z) in
    let old : trees_at s2 ids ≡ type_variables 0 n = types_stay s1 s2 g ids inv.1 ∙ inv.2 in
    let all : trees_at s2 (ids ++ ty ∷ []) ≡ type_variables 0 (n + 1) = mapped_more s2 ids ty ∙ (ap (λ (ts : List Tree). ts ++ tree_at s2 ty ∷ []) old ∙ (ap (λ (x : Tree). type_variables 0 n ++ x ∷ []) t ∙ sym last)) in
    (Grows_trans _ s1 s2 inv.0 g, rw c.in_ok-push.ensures.items (types_more s1 s2 g ids ty inv.1 h), rw c.in_ok-push.ensures.items all)
