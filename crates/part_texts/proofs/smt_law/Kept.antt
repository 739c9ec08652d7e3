-- Trees as a reader takes them have the sorts, the types and the lists of the old ones.
use Rattle.std.proofs.Common.{◌≡◌, List, [], ◌∷◌, length, Option, option_map, refl, ap, ◌∙◌, arith}
use Rattle.tasks.specs.trees.declared.Sort.{Sort}
use Rattle.tasks.specs.trees.Tree.{Tree, Leaf, One, Two, Three, Head, HCell, HArm, HBound, HParam, HNum, HFun, HJoin, HLet, HIf, HCase, HPatAny, HPatVar, HPatCon, HPatAlias}
use Rattle.tasks.specs.trees.Sorts.{two_sort, three_sort, yield, top_sort, sort_of, leaf_type, one_type, two_type, three_type, yield_type, top_type, type_of}
use Rattle.tasks.specs.Typing.{members}
use Rattle.tasks.specs.Equations.{cells}
use Rattle.part_texts.specs.smt_law.Reading.{read_head, tree_as_read}

-- ---- sorts
two_kept : (h : Head) (x y : Sort) → two_sort (read_head h) x y ≡ two_sort h x y
two_kept (HJoin op) x y = refl
two_kept _ x y = refl

top_kept : (h : Head) (x : Sort) → top_sort (read_head h) x ≡ top_sort h x
top_kept (HJoin op) x = refl
top_kept _ x = refl

pub yield_kept : (e : Tree) → yield (tree_as_read e) ≡ yield e
yield_kept (Leaf h) = refl
yield_kept (One h a) = refl
yield_kept (Two h a b) = two_kept h (yield (tree_as_read a)) (yield (tree_as_read b)) ∙ (λ i. two_sort h (yield_kept a i) (yield_kept b i))
yield_kept (Three h a b c) = ap (three_sort h) (yield_kept b)

pub sort_kept : (e : Tree) → sort_of (tree_as_read e) ≡ sort_of e
sort_kept (Leaf h) = refl
sort_kept (One h a) = refl
sort_kept (Two h a b) = top_kept h (yield (tree_as_read (Two h a b))) ∙ ap (top_sort h) (yield_kept (Two h a b))
sort_kept (Three h a b c) = ap (λ s. top_sort h (three_sort h s)) (yield_kept b)

-- ---- types
abbrev read_type : Option Tree → Option Tree
read_type t = option_map tree_as_read t

leaf_type_kept : (h : Head) → leaf_type h ≡ read_type (leaf_type h)
leaf_type_kept (HNum z) = refl
leaf_type_kept _ = refl

one_type_kept : (h : Head) (a : Tree) (t : Option Tree) → one_type h (tree_as_read a) (read_type t) ≡ read_type (one_type h a t)
one_type_kept (HBound i) a t = refl
one_type_kept (HParam n) a t = refl
one_type_kept HPatAny a t = refl
one_type_kept HPatVar a t = refl
one_type_kept HPatAlias a t = refl
one_type_kept _ a t = refl

two_type_kept : (h : Head) (s t : Option Tree) → two_type (read_head h) (read_type s) (read_type t) ≡ read_type (two_type h s t)
two_type_kept HCell s t = refl
two_type_kept HLet s t = refl
two_type_kept HCase s t = refl
two_type_kept HArm s t = refl
two_type_kept (HJoin op) s t = refl
two_type_kept _ s t = refl

three_type_kept : (h : Head) (t : Option Tree) (c : Tree) → three_type h (read_type t) (tree_as_read c) ≡ read_type (three_type h t c)
three_type_kept (HFun f) t c = refl
three_type_kept HIf t c = refl
three_type_kept (HPatCon k) t c = refl
three_type_kept _ t c = refl

top_type_kept : (h : Head) (t : Option Tree) → top_type h (read_type t) ≡ read_type (top_type h t)
top_type_kept HCell t = refl
top_type_kept HArm t = refl
top_type_kept _ t = refl

top_read_kept : (h : Head) (t : Option Tree) → top_type (read_head h) (read_type t) ≡ read_type (top_type h t)
top_read_kept HCell t = refl
top_read_kept HArm t = refl
top_read_kept (HJoin op) t = refl
top_read_kept _ t = refl

yield_type_kept : (e : Tree) → yield_type (tree_as_read e) ≡ read_type (yield_type e)
yield_type_kept (Leaf h) = leaf_type_kept h
yield_type_kept (One h a) = ap (one_type h (tree_as_read a)) (yield_type_kept a) ∙ one_type_kept h a (yield_type a)
yield_type_kept (Two h a b) = (λ i. two_type (read_head h) (yield_type_kept a i) (yield_type_kept b i)) ∙ two_type_kept h (yield_type a) (yield_type b)
yield_type_kept (Three h a b c) = ap (λ t. three_type h t (tree_as_read c)) (yield_type_kept b) ∙ three_type_kept h (yield_type b) c

pub type_kept : (e : Tree) → type_of (tree_as_read e) ≡ option_map tree_as_read (type_of e)
type_kept (Leaf h) = ap (top_type h) (yield_type_kept (Leaf h)) ∙ top_type_kept h (yield_type (Leaf h))
type_kept (One h a) = ap (top_type h) (yield_type_kept (One h a)) ∙ top_type_kept h (yield_type (One h a))
type_kept (Two h a b) = ap (top_type (read_head h)) (yield_type_kept (Two h a b)) ∙ top_read_kept h (yield_type (Two h a b))
type_kept (Three h a b c) = ap (top_type h) (yield_type_kept (Three h a b c)) ∙ top_type_kept h (yield_type (Three h a b c))

-- ---- lists
pub members_cells : (es : List Tree) → members (cells es) ≡ es
members_cells [] = refl
members_cells (e ∷ es) = ap (λ z. e ∷ z) (members_cells es)

pub as_many_members : (e : Tree) → length (members (tree_as_read e)) ≡ length (members e)
as_many_members (Leaf h) = refl
as_many_members (One h a) = refl
as_many_members (Two HCell a b) = let n = as_many_members b in omega (arith, n)
as_many_members (Two (HJoin op) a b) = refl
as_many_members (Two _ a b) = refl
as_many_members (Three h a b c) = refl
