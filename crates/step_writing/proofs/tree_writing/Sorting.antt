-- What a tree is by its sort, and the lines of its parts where all marked trees of lesser numbers have lines.
use Rattle.std.proofs.Common.{◌≡◌, ℕ, ◌<◌, Bool, true, false, List, length, get_or, slice_get, All, Option, Some, inl, inr, refl, sym, ap, subst, ◌∙◌, arith}
use Rattle.std.specs.Option.{option_and_then}
use Rattle.std.proofs.lemmas.List.Elements.{All-cons, All-nil}
use Rattle.tasks.specs.trees.declared.Sort.{Sort}
use Rattle.tasks.specs.trees.declared.Sort.TheVariants as sort
use Rattle.tasks.specs.trees.Tree.{Tree, Leaf, One, Two, Three, Head, head_of, HEnd, HTyVar, HTyRigid, HTyApp, HCell, HBound, HParam, HNum, HFun, HPred, HEq, HTrue, HFalse, HNot, HJoin, HForall, HExists, HLet, HIf, HCase, HArm, HPatAny, HPatVar, HPatCon, HPatAlias}
use Rattle.tasks.specs.trees.Sorts.{top_sort, yield, sort_of, WellSorted, IsList, IsExpression}
use Rattle.tasks.specs.Typing.{members}
use Rattle.name_tables.specs.declared.name_entries.names.NameEntry.{NameEntry}
use Rattle.step_writing.specs.declared.tree_writing.writer.LineKind.{LineKind}
use Rattle.step_writing.specs.declared.tree_writing.writer.LineKind.TheVariants as kind
use Rattle.step_writing.specs.tree_writing.Referring.{HasLine}
use Rattle.step_writing.specs.tree_writing.Naming.{TypeSpelt, TypeLines}
use Rattle.step_writing.specs.tree_writing.Branches.{BranchLines}
use Rattle.step_writing.specs.tree_writing.Used.{IsNamed, HasPatternForm, IsWritable, NodeLines}
use Rattle.step_writing.specs.tree_writing.Parts.{IsMarked, HasMark, ChildrenMarked}
use Rattle.step_writing.specs.tree_writing.Whole.{kind_of_sort, IsOfKind, TopNamed, KindLines}
use Rattle.step_writing.proofs.tree_writing.Partly.{rest_list}
use Rattle.step_writing.proofs.tree_writing.BranchesBack.{leaf_arm, one_arm, two_is_arm, three_arm}
use Rattle.tasks.proofs.trees.Types.{expression_yield}

-- what an expression yields is one
yield_same : (h : Head) (y : Sort) → IsExpression (top_sort h y) → top_sort h y ≡ y
yield_same HEnd y (inl e) = absurd (cc)
yield_same HEnd y (inr e) = absurd (cc)
yield_same HCell y (inl e) = absurd (cc)
yield_same HCell y (inr e) = absurd (cc)
yield_same HArm y (inl e) = absurd (cc)
yield_same HArm y (inr e) = absurd (cc)
yield_same _ y e = refl

-- so is what a branch yields, and a list of branches
branch_yield : (x : Tree) → WellSorted x → sort_of x ≡ sort.Branch → IsExpression (yield x)
branch_yield (Leaf h) w e = absurd (leaf_arm h w e)
branch_yield (One h a) w e = absurd (one_arm h a w e)
branch_yield (Two h a b) w e = let is = two_is_arm h a b w e in of_arm (subst (λ (x : Head). WellSorted (Two x a b)) is w) (sym is) where
  of_arm : WellSorted (Two HArm a b) → HArm ≡ h → IsExpression (yield (Two h a b))
  of_arm v is = subst (λ (x : Head). IsExpression (yield (Two x a b))) is (expression_yield b v.0.0.1)
branch_yield (Three h a b c) w e = absurd (three_arm h a b c w e)

cell_yield : (a rest : Tree) → WellSorted (Two HCell a rest) → IsList sort.Branch (Two HCell a rest) → IsExpression (yield (Two HCell a rest))
cell_yield a rest w l = branch_yield a w.1 (rest_list sort.Branch a rest w l).0

branches_yield : (b : Tree) → WellSorted b → IsList sort.Branch b → head_of b ≡ HCell → IsExpression (yield b)
branches_yield (Leaf h) w l e = absurd (subst (λ (x : Head). WellSorted (Leaf x)) e w)
branches_yield (One h a) w l e = absurd ((subst (λ (x : Head). WellSorted (One x a)) e w).0)
branches_yield (Two h a b) w l e = subst (λ (x : Head). IsExpression (yield (Two x a b))) (sym e) (cell_yield a b (subst (λ (x : Head). WellSorted (Two x a b)) e w) (subst (λ (x : Head). IsList sort.Branch (Two x a b)) e l))
branches_yield (Three h a b c) w l e = absurd ((subst (λ (x : Head). WellSorted (Three x a b c)) e w).0)

-- a term or a formula, by a test
abbrev is_expression : Sort → Bool
is_expression sort.Term = true
is_expression sort.Formula = true
is_expression _ = false

tested : (x : Sort) → IsExpression x → is_expression x ≡ true
tested x (inl e) = ap is_expression e
tested x (inr e) = ap is_expression e

sorted_yield : (x : Sort) → IsExpression x → (x ≡ sort.Kind → ⊥) × (x ≡ sort.Pattern → ⊥)
sorted_yield x (inl e) = (λ k. let f : sort.Term ≡ sort.Kind = sym e ∙ k in absurd (cc), λ k. let f : sort.Term ≡ sort.Pattern = sym e ∙ k in absurd (cc))
sorted_yield x (inr e) = (λ k. let f : sort.Formula ≡ sort.Kind = sym e ∙ k in absurd (cc), λ k. let f : sort.Formula ≡ sort.Pattern = sym e ∙ k in absurd (cc))

-- a tree with two children is no type and no pattern
two_other : (h : Head) (a b : Tree) → WellSorted (Two h a b) → (sort_of (Two h a b) ≡ sort.Kind → ⊥) × (sort_of (Two h a b) ≡ sort.Pattern → ⊥)
two_other HEnd a b w = absurd w.0.0
two_other HCell a b w = (λ e. absurd (cc), λ e. absurd (cc))
two_other HArm a b w = (λ e. absurd (cc), λ e. absurd (cc))
two_other HLet a b w = sorted_yield (yield b) (expression_yield b w.0.0.1)
two_other HCase a b w = sorted_yield (yield b) (branches_yield b w.2 w.0.0.1 w.0.1)
two_other _ a b w = (λ e. absurd (cc), λ e. absurd (cc))

three_type : (h : Head) (a b c : Tree) → WellSorted (Three h a b c) → sort_of (Three h a b c) ≡ sort.Kind → ⊥
three_type (HFun k) a b c w e = absurd (cc)
three_type HIf a b c w e = (sorted_yield (yield b) (expression_yield b w.0.1)).0 e
three_type (HPatCon k) a b c w e = absurd (cc)
three_type _ a b c w e = absurd w.0

module _ (table : List NameEntry) where
  leaf_type : (h : Head) → WellSorted (Leaf h) → sort_of (Leaf h) ≡ sort.Kind → TopNamed table (Leaf h) → TypeSpelt table (Leaf h)
  leaf_type (HTyRigid k) w e n = n
  leaf_type (HTyVar j) w e n = n
  leaf_type HEnd w e n = absurd (cc)
  leaf_type (HNum z) w e n = absurd (cc)
  leaf_type HTrue w e n = absurd (cc)
  leaf_type HFalse w e n = absurd (cc)
  leaf_type _ w e n = absurd w

  one_type : (h : Head) (a : Tree) → WellSorted (One h a) → sort_of (One h a) ≡ sort.Kind → TopNamed table (One h a) → TypeSpelt table (One h a)
  one_type (HTyApp k) a w e n = n
  one_type (HBound i) a w e n = absurd (cc)
  one_type (HParam k) a w e n = absurd (cc)
  one_type HNot a w e n = absurd (cc)
  one_type HPatAny a w e n = absurd (cc)
  one_type HPatVar a w e n = absurd (cc)
  one_type HPatAlias a w e n = absurd (cc)
  one_type _ a w e n = absurd w.0

  pub is_type : (e : Tree) → WellSorted e → sort_of e ≡ sort.Kind → TopNamed table e → TypeSpelt table e
  is_type (Leaf h) w e n = leaf_type h w e n
  is_type (One h a) w e n = one_type h a w e n
  is_type (Two h a b) w e n = absurd ((two_other h a b w).0 e)
  is_type (Three h a b c) w e n = absurd (three_type h a b c w e)

  two_is_named : (h : Head) (a b : Tree) → TopNamed table (Two h a b) → IsNamed table (Two h a b)
  two_is_named (HPred k) a b n = n
  two_is_named _ a b n = tt

  three_is_named : (h : Head) (a b c : Tree) → TopNamed table (Three h a b c) → IsNamed table (Three h a b c)
  three_is_named (HFun k) a b c n = n
  three_is_named (HPatCon k) a b c n = n
  three_is_named _ a b c n = tt

  pub is_named : (e : Tree) → TopNamed table e → IsNamed table e
  is_named (Leaf h) n = tt
  is_named (One h a) n = tt
  is_named (Two h a b) n = two_is_named h a b n
  is_named (Three h a b c) n = three_is_named h a b c n

leaf_pattern : (h : Head) → sort_of (Leaf h) ≡ sort.Pattern → ⊥
leaf_pattern HEnd e = absurd (cc)
leaf_pattern HCell e = absurd (cc)
leaf_pattern HArm e = absurd (cc)
leaf_pattern (HNum z) e = absurd (cc)
leaf_pattern HTrue e = absurd (cc)
leaf_pattern HFalse e = absurd (cc)
leaf_pattern _ e = absurd (cc)

one_pattern : (h : Head) (a : Tree) → sort_of (One h a) ≡ sort.Pattern → HasPatternForm (One h a)
one_pattern HPatAny a e = tt
one_pattern HPatVar a e = tt
one_pattern HPatAlias a e = tt
one_pattern HEnd a e = absurd (cc)
one_pattern HCell a e = absurd (cc)
one_pattern HArm a e = absurd (cc)
one_pattern (HBound i) a e = absurd (cc)
one_pattern (HParam k) a e = absurd (cc)
one_pattern HNot a e = absurd (cc)
one_pattern _ a e = absurd (cc)

three_pattern : (h : Head) (a b c : Tree) → WellSorted (Three h a b c) → sort_of (Three h a b c) ≡ sort.Pattern → HasPatternForm (Three h a b c)
three_pattern (HPatCon k) a b c w e = tt
three_pattern (HFun k) a b c w e = absurd (cc)
three_pattern HIf a b c w e = absurd ((sorted_yield (yield b) (expression_yield b w.0.1)).1 e)
three_pattern _ a b c w e = absurd w.0

pub is_pattern : (e : Tree) → WellSorted e → sort_of e ≡ sort.Pattern → HasPatternForm e
is_pattern (Leaf h) w e = absurd (leaf_pattern h e)
is_pattern (One h a) w e = one_pattern h a e
is_pattern (Two h a b) w e = absurd ((two_other h a b w).1 e)
is_pattern (Three h a b c) w e = three_pattern h a b c w e

leaf_writable : (h : Head) → is_expression (sort_of (Leaf h)) ≡ true → IsWritable (Leaf h)
leaf_writable (HNum z) e = tt
leaf_writable HTrue e = tt
leaf_writable HFalse e = tt
leaf_writable HEnd e = absurd (cc)
leaf_writable HCell e = absurd (cc)
leaf_writable HArm e = absurd (cc)
leaf_writable _ e = absurd (cc)

one_writable : (h : Head) (a : Tree) → is_expression (sort_of (One h a)) ≡ true → IsWritable (One h a)
one_writable (HBound i) a e = tt
one_writable (HParam k) a e = tt
one_writable HNot a e = tt
one_writable HEnd a e = absurd (cc)
one_writable HCell a e = absurd (cc)
one_writable HArm a e = absurd (cc)
one_writable HPatAny a e = absurd (cc)
one_writable HPatVar a e = absurd (cc)
one_writable HPatAlias a e = absurd (cc)
one_writable _ a e = absurd (cc)

two_writable : (h : Head) (a b : Tree) → WellSorted (Two h a b) → is_expression (sort_of (Two h a b)) ≡ true → IsWritable (Two h a b)
two_writable (HPred k) a b w e = tt
two_writable HEq a b w e = tt
two_writable (HJoin o) a b w e = tt
two_writable HForall a b w e = tt
two_writable HExists a b w e = tt
two_writable HLet a b w e = tt
two_writable HCase a b w e = tt
two_writable HCell a b w e = absurd (cc)
two_writable HArm a b w e = absurd (cc)
two_writable _ a b w e = absurd w.0.0

three_writable : (h : Head) (a b c : Tree) → WellSorted (Three h a b c) → is_expression (sort_of (Three h a b c)) ≡ true → IsWritable (Three h a b c)
three_writable (HFun k) a b c w e = tt
three_writable HIf a b c w e = tt
three_writable (HPatCon k) a b c w e = absurd (cc)
three_writable _ a b c w e = absurd w.0

writable : (e : Tree) → WellSorted e → is_expression (sort_of e) ≡ true → IsWritable e
writable (Leaf h) w e = leaf_writable h e
writable (One h a) w e = one_writable h a e
writable (Two h a b) w e = two_writable h a b w e
writable (Three h a b c) w e = three_writable h a b c w e

-- what kinds say of sorts
sort_kind : (x : Sort) → kind_of_sort x ≡ Some kind.Type → x ≡ sort.Kind
sort_kind sort.Kind e = refl
sort_kind _ e = absurd (cc)

pub type_sort : (e : Tree) → IsOfKind kind.Type e → sort_of e ≡ sort.Kind
type_sort e k = sort_kind (sort_of e) k

sort_pattern : (x : Sort) → kind_of_sort x ≡ Some kind.Pattern → x ≡ sort.Pattern
sort_pattern sort.Pattern e = refl
sort_pattern _ e = absurd (cc)

pub pattern_sort : (e : Tree) → IsOfKind kind.Pattern e → sort_of e ≡ sort.Pattern
pattern_sort e k = sort_pattern (sort_of e) k

sort_expression : (x : Sort) → kind_of_sort x ≡ Some kind.Expression → is_expression x ≡ true
sort_expression sort.Term e = refl
sort_expression sort.Formula e = refl
sort_expression _ e = absurd (cc)

pub is_writable : (e : Tree) → WellSorted e → IsOfKind kind.Expression e → IsWritable e
is_writable e w k = writable e w (sort_expression (sort_of e) k)

pub expression_kind : (e : Tree) → IsExpression (sort_of e) → IsOfKind kind.Expression e
expression_kind e (inl k) = ap kind_of_sort k
expression_kind e (inr k) = ap kind_of_sort k

-- the trees that are marked below a number have lines
module _ (s : List Tree) (marks : List Bool) (numbers : List (Option ℕ)) (i : ℕ) (held : (j : ℕ) → IsMarked marks j → j < length s)
    (children : (j : ℕ) → IsMarked marks j → ChildrenMarked s marks j (get_or s j (Leaf HEnd)))
    (there : (j : ℕ) (k : LineKind) → j < i → IsMarked marks j → IsOfKind k (get_or s j (Leaf HEnd)) → (n : ℕ) × (slice_get numbers j ≡ Some (Some n))) where
  pub own_line : (e : Tree) (k : LineKind) → HasMark s marks i e → IsOfKind k e → HasLine s numbers e
  own_line e k m o =
      let n = there m.id.0 k m.below m.mark (subst (IsOfKind k) (sym m.is) o) in
      record { id = m.id; held = held m.id.0 m.mark; is = m.is; number = n.0; line = ap (option_and_then (λ (x : Option ℕ). x)) n.1 }

  higher : (j : ℕ) (e : Tree) → j < i → HasMark s marks j e → HasMark s marks i e
  higher j e lt m = record { id = m.id; below = omega (arith, m.below, lt); is = m.is; mark = m.mark }

  both_higher : (h : Head) (a b : Tree) → HasMark s marks i (Two h a b) → HasMark s marks i a × HasMark s marks i b
  both_higher h a b m =
      let c : HasMark s marks m.id.0 a × HasMark s marks m.id.0 b = subst (ChildrenMarked s marks m.id.0) m.is (children m.id.0 m.mark) in
      (higher m.id.0 a m.below c.0, higher m.id.0 b m.below c.1)

  two_members : (k : LineKind) (x : Sort) (h : Head) (a b : Tree) → kind_of_sort x ≡ Some k → HasMark s marks i (Two h a b) → WellSorted (Two h a b) → IsList x (Two h a b)
      → (HasMark s marks i b → IsList x b → All (HasLine s numbers) (members b)) → All (HasLine s numbers) (members (Two h a b))
  two_members k x HCell a b e m w l rest =
      let p = rest_list x a b w l in
      let c = both_higher HCell a b m in
      All-cons (HasLine s numbers) a (members b) (own_line a k c.0 (ap kind_of_sort p.0 ∙ e)) (rest c.1 p.1)
  two_members k x _ a b e m w l rest = All-nil (HasLine s numbers)

  members_lines : (k : LineKind) (x : Sort) (e : Tree) → kind_of_sort x ≡ Some k → HasMark s marks i e → WellSorted e → IsList x e → All (HasLine s numbers) (members e)
  members_lines k x (Leaf h) e m w l = All-nil (HasLine s numbers)
  members_lines k x (One h a) e m w l = All-nil (HasLine s numbers)
  members_lines k x (Two h a b) e m w l = two_members k x h a b e m w l (λ n p. members_lines k x b e n w.2 p)
  members_lines k x (Three h a b c) e m w l = All-nil (HasLine s numbers)

  arm_lines : (h : Head) (p b rest : Tree) → HasMark s marks i (Two h p b) → WellSorted (Two h p b) → BranchLines s numbers rest → BranchLines s numbers (Two HCell (Two h p b) rest)
  arm_lines HArm p b rest m w l = let c = both_higher HArm p b m in (own_line p kind.Pattern c.0 (ap kind_of_sort w.0.0.0), own_line b kind.Expression c.1 (expression_kind b w.0.0.1), l)
  arm_lines _ p b rest m w l = tt

  cell_lines : (a rest : Tree) → HasMark s marks i a → WellSorted a → BranchLines s numbers rest → BranchLines s numbers (Two HCell a rest)
  cell_lines (Leaf h) rest m w l = tt
  cell_lines (One h a) rest m w l = tt
  cell_lines (Two h a b) rest m w l = arm_lines h a b rest m w l
  cell_lines (Three h a b c) rest m w l = tt

  two_branches : (h : Head) (a b : Tree) → HasMark s marks i (Two h a b) → WellSorted (Two h a b) → (HasMark s marks i b → BranchLines s numbers b) → BranchLines s numbers (Two h a b)
  two_branches HCell a b m w rest = let c = both_higher HCell a b m in cell_lines a b c.0 w.1 (rest c.1)
  two_branches _ a b m w rest = tt

  branch_lines : (e : Tree) → HasMark s marks i e → WellSorted e → BranchLines s numbers e
  branch_lines (Leaf h) m w = tt
  branch_lines (One h a) m w = tt
  branch_lines (Two h a b) m w = two_branches h a b m w (λ n. branch_lines b n w.2)
  branch_lines (Three h a b c) m w = tt

  one_type_lines : (h : Head) (a : Tree) → WellSorted (One h a) → sort_of (One h a) ≡ sort.Kind → HasMark s marks i a → TypeLines s numbers (One h a)
  one_type_lines (HTyApp k) a w e m = members_lines kind.Type sort.Kind a refl m w.1 w.0
  one_type_lines (HBound j) a w e m = absurd (cc)
  one_type_lines (HParam k) a w e m = absurd (cc)
  one_type_lines HNot a w e m = absurd (cc)
  one_type_lines HPatAny a w e m = absurd (cc)
  one_type_lines HPatVar a w e m = absurd (cc)
  one_type_lines HPatAlias a w e m = absurd (cc)
  one_type_lines _ a w e m = absurd w.0

  type_lines : (e : Tree) → WellSorted e → sort_of e ≡ sort.Kind → ChildrenMarked s marks i e → TypeLines s numbers e
  type_lines (Leaf h) w e m = tt
  type_lines (One h a) w e m = one_type_lines h a w e m
  type_lines (Two h a b) w e m = tt
  type_lines (Three h a b c) w e m = tt

  one_lines : (h : Head) (a : Tree) → WellSorted (One h a) → (sort_of (One h a) ≡ sort.Kind → ⊥) → HasMark s marks i a → HasLine s numbers a
  one_lines (HTyApp k) a w e m = absurd (e refl)
  one_lines (HBound j) a w e m = own_line a kind.Type m (ap kind_of_sort w.0.0)
  one_lines (HParam k) a w e m = own_line a kind.Type m (ap kind_of_sort w.0)
  one_lines HNot a w e m = own_line a kind.Expression m (ap kind_of_sort w.0)
  one_lines HPatAny a w e m = own_line a kind.Type m (ap kind_of_sort w.0)
  one_lines HPatVar a w e m = own_line a kind.Type m (ap kind_of_sort w.0)
  one_lines HPatAlias a w e m = own_line a kind.Pattern m (ap kind_of_sort w.0)
  one_lines _ a w e m = absurd w.0

  two_node_lines : (h : Head) (a b : Tree) (k : LineKind) → IsOfKind k (Two h a b) → WellSorted (Two h a b) → HasMark s marks i a → HasMark s marks i b → NodeLines s numbers (Two h a b)
  two_node_lines (HPred p) a b k o w m n = (members_lines kind.Type sort.Kind a refl m w.1 w.0.0.0, members_lines kind.Expression sort.Term b refl n w.2 w.0.0.1)
  two_node_lines HEq a b k o w m n = (own_line a kind.Expression m (ap kind_of_sort w.0.0.0), own_line b kind.Expression n (ap kind_of_sort w.0.0.1))
  two_node_lines (HJoin p) a b k o w m n = (own_line a kind.Expression m (ap kind_of_sort w.0.0.0), own_line b kind.Expression n (ap kind_of_sort w.0.0.1))
  two_node_lines HForall a b k o w m n = (own_line a kind.Type m (ap kind_of_sort w.0.0.0), own_line b kind.Expression n (ap kind_of_sort w.0.0.1))
  two_node_lines HExists a b k o w m n = (own_line a kind.Type m (ap kind_of_sort w.0.0.0), own_line b kind.Expression n (ap kind_of_sort w.0.0.1))
  two_node_lines HLet a b k o w m n = (own_line a kind.Expression m (ap kind_of_sort w.0.0.0), own_line b kind.Expression n (expression_kind b w.0.0.1))
  two_node_lines HCase a b k o w m n = (own_line a kind.Expression m (ap kind_of_sort w.0.0.0), branch_lines b n w.2)
  two_node_lines HCell a b k o w m n = absurd (cc)
  two_node_lines HArm a b k o w m n = absurd (cc)
  two_node_lines _ a b k o w m n = absurd w.0.0

  three_node_lines : (h : Head) (a b c : Tree) → WellSorted (Three h a b c) → HasMark s marks i a → HasMark s marks i b → HasMark s marks i c → NodeLines s numbers (Three h a b c)
  three_node_lines (HFun f) a b c w m n o = (members_lines kind.Type sort.Kind a refl m w.1 w.0.0, members_lines kind.Expression sort.Term b refl n w.2 w.0.1)
  three_node_lines (HPatCon f) a b c w m n o = (members_lines kind.Type sort.Kind a refl m w.1 w.0.0, members_lines kind.Pattern sort.Pattern b refl n w.2 w.0.1)
  three_node_lines HIf a b c w m n o = (own_line a kind.Expression m (ap kind_of_sort w.0.0), own_line b kind.Expression n (expression_kind b w.0.1), own_line c kind.Expression o (ap kind_of_sort w.0.2 ∙ expression_kind b w.0.1))
  three_node_lines _ a b c w m n o = absurd w.0

  node_lines : (e : Tree) (k : LineKind) → IsOfKind k e → (sort_of e ≡ sort.Kind → ⊥) → WellSorted e → ChildrenMarked s marks i e → NodeLines s numbers e
  node_lines (Leaf h) k o t w m = tt
  node_lines (One h a) k o t w m = one_lines h a w t m
  node_lines (Two h a b) k o t w m = two_node_lines h a b k o w m.0 m.1
  node_lines (Three h a b c) k o t w m = three_node_lines h a b c w m.0 m.1 m.2

  pub kind_lines : (k : LineKind) (e : Tree) → IsOfKind k e → WellSorted e → ChildrenMarked s marks i e → KindLines s numbers k e
  kind_lines kind.Type e o w m = type_lines e w (type_sort e o) m
  kind_lines kind.Pattern e o w m = node_lines e kind.Pattern o (λ t. let f : Some kind.Type ≡ Some kind.Pattern = sym (ap kind_of_sort t) ∙ o in absurd (cc)) w m
  kind_lines kind.Expression e o w m = node_lines e kind.Expression o (λ t. let f : Some kind.Type ≡ Some kind.Expression = sym (ap kind_of_sort t) ∙ o in absurd (cc)) w m
