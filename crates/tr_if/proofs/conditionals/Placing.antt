-- Another expression in the place of the first conditional: sorts stay.
use Rattle.std.proofs.Common.{◌≡◌, ℕ, ◌+◌, ◌<◌, Option, Some, None, IfSome, subst, refl, sym, ap, ◌∙◌, arith}
use Rattle.trees.specs.Tree.{Tree, Leaf, One, Two, Three, HCell, HFun, HPred, HEq, HIf, head_of, size}
use Rattle.trees.specs.Sorts.{Fits, sort_of, first_sort, IsExpression}
use Rattle.evidence.proofs.images.Images.{expression_sort, expression_first}
use Rattle.tr_if.specs.conditionals.Conditionals.{earlier, first_if, one_changed, replace_first}
use Rattle.tr_if.specs.conditionals.lemmas.Cases.{place_count}

-- the first conditional is an `if`
if_of_two : (a b w : Tree) (o : Option Tree) → first_if a ≡ o → (first_if a ≡ Some w → head_of w ≡ HIf) → (first_if b ≡ Some w → head_of w ≡ HIf) → earlier o (first_if b) ≡ Some w → head_of w ≡ HIf
if_of_two a b w (Some x) m left right q = left (m ∙ q)
if_of_two a b w None m left right q = right q

pub first_is_if : (e w : Tree) → first_if e ≡ Some w → head_of w ≡ HIf
first_is_if (Leaf h) w q = absurd (cc)
first_is_if (One h a) w q = absurd (cc)
first_is_if (Two (HPred p) types args) w q = first_is_if args w q
first_is_if (Two HEq a b) w q = if_of_two a b w (first_if a) refl (first_is_if a w) (first_is_if b w) q
first_is_if (Two HCell a b) w q = if_of_two a b w (first_if a) refl (first_is_if a w) (first_is_if b w) q
first_is_if (Two _ a b) w q = absurd (cc)
first_is_if (Three HIf c a b) w q = let r : Three HIf c a b ≡ w = cc in sym (ap head_of r)
first_is_if (Three (HFun f) types args ty) w q = first_is_if args w q
first_is_if (Three _ a b c) w q = absurd (cc)

-- ---- sorts
module _ (x : Tree) (kx : IsExpression (sort_of x)) where
  abbrev pub OfItsSort : Option Tree → Type 0
  OfItsSort o = IfSome o (λ w. sort_of w ≡ sort_of x)

  pub record KeepsSorts (e made : Tree) : Type 0 where
    pub sort : sort_of made ≡ sort_of e
    pub first : first_sort made ≡ first_sort e

  cell_sorts : (a b : Tree) (o : Option Tree) → first_if a ≡ o → OfItsSort (earlier o (first_if b)) → (OfItsSort (first_if a) → KeepsSorts a (replace_first a x)) → KeepsSorts (Two HCell a b) (one_changed o HCell a b (replace_first a x) (replace_first b x))
  cell_sorts a b (Some w) m q k = record { sort = refl; first = ap Some ((k (subst OfItsSort (sym m) q)).sort) }
  cell_sorts a b None m q k = record { sort = refl; first = refl }

  equation_sorts : (a b : Tree) (o : Option Tree) → KeepsSorts (Two HEq a b) (one_changed o HEq a b (replace_first a x) (replace_first b x))
  equation_sorts a b (Some w) = record { sort = refl; first = refl }
  equation_sorts a b None = record { sort = refl; first = refl }

  pub place_sorts : (e : Tree) → OfItsSort (first_if e) → KeepsSorts e (replace_first e x)
  place_sorts (Leaf h) q = record { sort = refl; first = refl }
  place_sorts (One h a) q = record { sort = refl; first = refl }
  place_sorts (Two (HPred p) types args) q = record { sort = refl; first = refl }
  place_sorts (Two HEq a b) q = equation_sorts a b (first_if a)
  place_sorts (Two HCell a b) q = cell_sorts a b (first_if a) refl q (place_sorts a)
  place_sorts (Two _ a b) q = record { sort = refl; first = refl }
  place_sorts (Three HIf c a b) q = record { sort = sym q; first = expression_first x kx }
  place_sorts (Three (HFun f) types args ty) q = record { sort = refl; first = refl }
  place_sorts (Three _ a b c) q = record { sort = refl; first = refl }

-- ---- nodes over a child of the same sort
pub function_fits : (f : ℕ) (types args made ty : Tree) → sort_of made ≡ sort_of args → first_sort made ≡ first_sort args → Fits (Three (HFun f) types args ty) → Fits (Three (HFun f) types made ty)
function_fits f types args made ty s r w = rw (s, r) w

pub predicate_fits : (p : ℕ) (types args made : Tree) → sort_of made ≡ sort_of args → first_sort made ≡ first_sort args → Fits (Two (HPred p) types args) → Fits (Two (HPred p) types made)
predicate_fits p types args made s r w = rw (s, r) w

pub equation_fits : (a b m n : Tree) → sort_of m ≡ sort_of a → sort_of n ≡ sort_of b → Fits (Two HEq a b) → Fits (Two HEq m n)
equation_fits a b m n s r w = rw (s, r) w

pub cell_fits : (a b m n : Tree) → sort_of m ≡ sort_of a → sort_of n ≡ sort_of b → first_sort n ≡ first_sort b → Fits (Two HCell a b) → Fits (Two HCell m n)
cell_fits a b m n s r t w = rw (s, r, t) w

-- ---- the parts of the first conditional, in its place
module _ (e c a b : Tree) (q : first_if e ≡ Some (Three HIf c a b)) (w : Fits (Three HIf c a b)) where
  pub then_sort : IfSome (first_if e) (λ z. sort_of z ≡ sort_of a)
  then_sort = subst (λ (o : Option Tree). IfSome o (λ z. sort_of z ≡ sort_of a)) (sym q) (expression_sort a w.1)

  pub else_sort : IfSome (first_if e) (λ z. sort_of z ≡ sort_of b)
  else_sort = subst (λ (o : Option Tree). IfSome o (λ z. sort_of z ≡ sort_of b)) (sym q) (expression_sort a w.1 ∙ sym w.2)

  pub else_expression : IsExpression (sort_of b)
  else_expression = subst IsExpression (sym w.2) w.1

  pub then_smaller : size (replace_first e a) < size e
  then_smaller = let r : size (replace_first e a) + (size c + size a + size b + 1) ≡ size e + size a = place_count (Three HIf c a b) a e q in omega (arith, r)

  pub else_smaller : size (replace_first e b) < size e
  else_smaller = let r : size (replace_first e b) + (size c + size a + size b + 1) ≡ size e + size b = place_count (Three HIf c a b) b e q in omega (arith, r)
