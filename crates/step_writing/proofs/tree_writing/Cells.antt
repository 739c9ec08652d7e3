-- A list of trees is made of its members.
use Rattle.std.proofs.Common.{◌≡◌, [], sym, refl, ap}
use Rattle.tasks.specs.trees.declared.Sort.{Sort}
use Rattle.tasks.specs.trees.declared.Sort.TheVariants.{List as ListSort}
use Rattle.tasks.specs.trees.Tree.{Tree, Leaf, One, Two, Three, Head, HEnd, HCell, HArm, HLet, HCase, HIf, HNum, HTrue, HFalse, HBound, HParam, HNot, HPatAny, HPatVar, HPatAlias}
use Rattle.tasks.specs.trees.Sorts.{leaf_sort, one_sort, two_sort, three_sort, yield, sort_of, WellSorted}
use Rattle.tasks.specs.Typing.{members}
use Rattle.step_lines.specs.tree_lines.Named.{cells}

leaf_no_list : (h : Head) → leaf_sort h ≡ ListSort → ⊥
leaf_no_list (HNum z) e = absurd (cc)
leaf_no_list HTrue e = absurd (cc)
leaf_no_list HFalse e = absurd (cc)
leaf_no_list _ e = absurd (cc)

one_no_list : (h : Head) → one_sort h ≡ ListSort → ⊥
one_no_list (HBound i) e = absurd (cc)
one_no_list (HParam n) e = absurd (cc)
one_no_list HNot e = absurd (cc)
one_no_list HPatAny e = absurd (cc)
one_no_list HPatVar e = absurd (cc)
one_no_list HPatAlias e = absurd (cc)
one_no_list _ e = absurd (cc)

two_no_list : (h : Head) (a b : Sort) → (a ≡ ListSort → ⊥) → (b ≡ ListSort → ⊥) → two_sort h a b ≡ ListSort → ⊥
two_no_list HCell a b p q e = p e
two_no_list HLet a b p q e = q e
two_no_list HCase a b p q e = q e
two_no_list HArm a b p q e = q e
two_no_list _ a b p q e = absurd (cc)

three_no_list : (h : Head) (b : Sort) → (b ≡ ListSort → ⊥) → three_sort h b ≡ ListSort → ⊥
three_no_list HIf b q e = q e
three_no_list _ b q e = absurd (cc)

no_list : (e : Tree) → yield e ≡ ListSort → ⊥
no_list (Leaf h) e = leaf_no_list h e
no_list (One h a) e = one_no_list h e
no_list (Two h a b) e = two_no_list h (yield a) (yield b) (no_list a) (no_list b) e
no_list (Three h a b c) e = three_no_list h (yield b) (no_list b) e

leaf_cells : (h : Head) → sort_of (Leaf h) ≡ ListSort → WellSorted (Leaf h) → cells [] ≡ Leaf h
leaf_cells HEnd e w = refl
leaf_cells HCell e w = absurd w
leaf_cells _ e w = absurd (cc)

one_cells : (h : Head) (a : Tree) → sort_of (One h a) ≡ ListSort → WellSorted (One h a) → cells [] ≡ One h a
one_cells HEnd a e w = absurd w.0
one_cells HCell a e w = absurd w.0
one_cells _ a e w = absurd (cc)

two_cells : (h : Head) (a b : Tree) → sort_of (Two h a b) ≡ ListSort → WellSorted (Two h a b) → (sort_of b ≡ ListSort → cells (members b) ≡ b) → cells (members (Two h a b)) ≡ Two h a b
two_cells HEnd a b e w k = absurd w.0.0
two_cells HCell a b e w k = ap (λ x. Two HCell a x) (k w.0.0.1.0)
two_cells HLet a b e w k = absurd (no_list b e)
two_cells HCase a b e w k = absurd (no_list b e)
two_cells _ a b e w k = absurd (cc)

three_cells : (h : Head) (a b c : Tree) → sort_of (Three h a b c) ≡ ListSort → WellSorted (Three h a b c) → cells [] ≡ Three h a b c
three_cells HEnd a b c e w = absurd w.0
three_cells HCell a b c e w = absurd w.0
three_cells HIf a b c e w = absurd (no_list b e)
three_cells _ a b c e w = absurd (cc)

pub is_cells : (e : Tree) → WellSorted e → sort_of e ≡ ListSort → e ≡ cells (members e)
is_cells (Leaf h) w e = sym (leaf_cells h e w)
is_cells (One h a) w e = sym (one_cells h a e w)
is_cells (Two h a b) w e = sym (two_cells h a b e w (λ k. sym (is_cells b w.2 k)))
is_cells (Three h a b c) w e = sym (three_cells h a b c e w)
