-- A change that puts terms for bound variables and parameters, and types for type variables, keeps
-- sorts.
use Rattle.std.proofs.Common.{◌≡◌, ◌≢◌, ℕ, ◌+◌, inl, inr, None, Some, refl, ap, ◌∙◌, sym}
use Rattle.trees.specs.declared.Sort.{Sort}
use Rattle.trees.specs.declared.Sort.TheVariants.{Kind, Term, Pattern, List}
use Rattle.trees.specs.Tree.{Tree, Leaf, One, Two, Three, Head, HTyVar, HEnd, HCell, HArm, HBound, HParam, HPatVar, HPatAlias, HPatCon, HCase, head_of, pat_vars, one_vars, two_vars, three_vars, binders_over}
use Rattle.trees.specs.Binding.{Change, change, leaf_by, one_by}
use Rattle.trees.specs.Sorts.{leaf_sort, one_sort, three_sort, yield, top_sort, sort_of, two_first, first_sort, Fits, CaseHasBranch, IsList}
use Rattle.trees.specs.Facts.{PutsSorts}
use Rattle.trees.specs.laws.Changes.{PutsTerms}

pub top_term : (h : Head) (s : Sort) → top_sort h s ≡ Term → s ≡ Term
top_term HEnd s e = absurd (cc)
top_term HCell s e = absurd (cc)
top_term HArm s e = absurd (cc)
top_term _ s e = e

pub top_kind : (h : Head) (s : Sort) → top_sort h s ≡ Kind → s ≡ Kind
top_kind HEnd s e = absurd (cc)
top_kind HCell s e = absurd (cc)
top_kind HArm s e = absurd (cc)
top_kind _ s e = e

one_no_vars : (h : Head) (n : ℕ) (a : Tree) → sort_of (One h a) ≢ Pattern → one_vars h n ≡ 0
one_no_vars HPatVar n a e = absurd (e refl)
one_no_vars HPatAlias n a e = absurd (e refl)
one_no_vars _ n a e = refl

two_no_vars : (h : Head) (m n : ℕ) (a b : Tree) → sort_of (Two h a b) ≢ List → two_vars h m n ≡ 0
two_no_vars HCell m n a b e = absurd (e refl)
two_no_vars _ m n a b e = refl

three_no_vars : (h : Head) (n : ℕ) (a b c : Tree) → sort_of (Three h a b c) ≢ Pattern
    → three_vars h n ≡ 0
three_no_vars (HPatCon k) n a b c e = absurd (e refl)
three_no_vars _ n a b c e = refl

two_no_first : (h : Head) (a b : Tree) → sort_of (Two h a b) ≢ List → first_sort (Two h a b) ≡ None
two_no_first HCell a b e = absurd (e refl)
two_no_first _ a b e = refl

-- what is no list has no first member
pub first_sort_none : (t : Tree) → sort_of t ≢ List → first_sort t ≡ None
first_sort_none (Leaf h) l = refl
first_sort_none (One h a) l = refl
first_sort_none (Two h a b) l = two_no_first h a b l
first_sort_none (Three h a b c) l = refl

-- the empty list is a list of anything
pub IsList_end : (s : Sort) (e : Tree) → e ≡ Leaf HEnd → IsList s e
IsList_end s e h = rw h (refl, inl refl)

-- a cell is a list of what its first member is
pub IsList_cell : (s : Sort) (a b e : Tree) → e ≡ Two HCell a b → sort_of a ≡ s → IsList s e
IsList_cell s a b e h k = rw h (refl, inr (ap Some k))

-- what is no pattern and no list binds no variable as a pattern
pub pat_vars_none : (t : Tree) → sort_of t ≢ Pattern → sort_of t ≢ List → pat_vars t ≡ 0
pat_vars_none (Leaf h) p l = refl
pat_vars_none (One h a) p l = one_no_vars h (pat_vars a) a p
pat_vars_none (Two h a b) p l = two_no_vars h (pat_vars a) (pat_vars b) a b l
pat_vars_none (Three h a b c) p l = three_no_vars h (pat_vars b) a b c p

pub term_no_vars : (t : Tree) → sort_of t ≡ Term → pat_vars t ≡ 0
term_no_vars t e = pat_vars_none t (λ p. cc) (λ l. cc)

pub kind_no_vars : (t : Tree) → sort_of t ≡ Kind → pat_vars t ≡ 0
kind_no_vars t e = pat_vars_none t (λ p. cc) (λ l. cc)

module _ (f : Change) (p : PutsSorts f) where
  pub puts_terms : PutsTerms f
  puts_terms = record {
    bound = λ d i ty. term_no_vars (f.bound d i ty) (p.bound d i ty);
    param = λ d n ty. term_no_vars (f.param d n ty) (p.param d n ty);
    ty_var = λ j. kind_no_vars (f.ty_var j) (p.ty_var j);
  }

  leaf_yield : (h : Head) → yield (leaf_by f h) ≡ leaf_sort h
  leaf_yield (HTyVar j) = top_kind (head_of (f.ty_var j)) (yield (f.ty_var j)) (p.ty_var j)
  leaf_yield _ = refl

  one_yield : (d : ℕ) (h : Head) (x : Tree) → yield (one_by f d h x) ≡ one_sort h
  one_yield d (HBound i) x =
      top_term (head_of (f.bound d i x)) (yield (f.bound d i x)) (p.bound d i x)
  one_yield d (HParam n) x =
      top_term (head_of (f.param d n x)) (yield (f.param d n x)) (p.param d n x)
  one_yield d _ x = refl

  pub yield-change : (d : ℕ) (e : Tree) → yield (change f d e) ≡ yield e
  yield-change d (Leaf h) = leaf_yield h
  yield-change d (One h a) = one_yield d h (change f d a)
  yield-change d (Two h a b) = cc (yield-change d a, yield-change (d + binders_over h a) b)
  yield-change d (Three h a b c) = ap (three_sort h) (yield-change d b)

  leaf_top : (h : Head) → sort_of (leaf_by f h) ≡ sort_of (Leaf h)
  leaf_top (HTyVar j) = p.ty_var j
  leaf_top _ = refl

  one_top : (d : ℕ) (h : Head) (x a : Tree) → sort_of (one_by f d h x) ≡ sort_of (One h a)
  one_top d (HBound i) x a = p.bound d i x
  one_top d (HParam n) x a = p.param d n x
  one_top d _ x a = refl

  pub sort_of-change : (d : ℕ) (e : Tree) → sort_of (change f d e) ≡ sort_of e
  sort_of-change d (Leaf h) = leaf_top h
  sort_of-change d (One h a) = one_top d h (change f d a) a
  sort_of-change d (Two h a b) =
      ap (top_sort h) (cc (yield-change d a, yield-change (d + binders_over h a) b))
  sort_of-change d (Three h a b c) = ap (λ s. top_sort h (three_sort h s)) (yield-change d b)

  leaf_first : (h : Head) → first_sort (leaf_by f h) ≡ None
  leaf_first (HTyVar j) = first_sort_none (f.ty_var j)
      (λ l. let k : Kind ≡ List = sym (p.ty_var j) ∙ l in cc)
  leaf_first _ = refl

  one_first : (d : ℕ) (h : Head) (x : Tree) → first_sort (one_by f d h x) ≡ None
  one_first d (HBound i) x = first_sort_none (f.bound d i x)
      (λ l. let k : Term ≡ List = sym (p.bound d i x) ∙ l in cc)
  one_first d (HParam n) x = first_sort_none (f.param d n x)
      (λ l. let k : Term ≡ List = sym (p.param d n x) ∙ l in cc)
  one_first d _ x = refl

  pub first_sort-change : (d : ℕ) (e : Tree) → first_sort (change f d e) ≡ first_sort e
  first_sort-change d (Leaf h) = leaf_first h
  first_sort-change d (One h a) = one_first d h (change f d a)
  first_sort-change d (Two h a b) = ap (two_first h) (sort_of-change d a)
  first_sort-change d (Three h a b c) = refl

  leaf_cell : (h : Head) → h ≡ HCell → head_of (leaf_by f h) ≡ HCell
  leaf_cell (HTyVar j) e = absurd (cc)
  leaf_cell h e = e

  one_cell : (d : ℕ) (h : Head) (x : Tree) → h ≡ HCell → head_of (one_by f d h x) ≡ HCell
  one_cell d (HBound i) x e = absurd (cc)
  one_cell d (HParam n) x e = absurd (cc)
  one_cell d h x e = e

  cell-change : (d : ℕ) (e : Tree) → head_of e ≡ HCell → head_of (change f d e) ≡ HCell
  cell-change d (Leaf h) e = leaf_cell h e
  cell-change d (One h a) e = one_cell d h (change f d a) e
  cell-change d (Two h a b) e = e
  cell-change d (Three h a b c) e = e

  branch_kept : (d : ℕ) (h : Head) (b : Tree) → CaseHasBranch h b → CaseHasBranch h (change f d b)
  branch_kept d HCase b t = cell-change d b t
  branch_kept d _ b t = tt

  -- changed children fit where the children do
  pub one_fits : (d : ℕ) (h : Head) (a : Tree) → Fits (One h a) → Fits (One h (change f d a))
  one_fits d h a t = rw (sort_of-change d a, first_sort-change d a) t

  pub two_fits : (d c : ℕ) (h : Head) (a b : Tree) → Fits (Two h a b)
      → Fits (Two h (change f d a) (change f c b))
  two_fits d c h a b t = (
    rw (
      sort_of-change d a,
      first_sort-change d a,
      sort_of-change c b,
      first_sort-change c b,
    ) t.0,
    branch_kept c h b t.1,
  )

  pub three_fits : (d : ℕ) (h : Head) (a b c : Tree) → Fits (Three h a b c)
      → Fits (Three h (change f d a) (change f d b) (change f d c))
  three_fits d h a b c t = rw (
    sort_of-change d a,
    first_sort-change d a,
    sort_of-change d b,
    first_sort-change d b,
    sort_of-change d c,
  ) t
