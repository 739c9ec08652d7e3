-- Laws that are looked for in lists one after another.
use Rattle.std.specs.Prelude.{min}
use Rattle.std.proofs.Common.{◌≡◌, ℕ, ◌+◌, ◌<◌, zero, suc, List, [], ◌∷◌, ◌++◌, length, map, slice_get, All, Some, refl, sym, ap, ◌∙◌, arith}
use Rattle.std.proofs.lemmas.List.{map-append, length-map}
use Rattle.std.proofs.lemmas.List.Elements.{All-cons, All-nil}
use Rattle.trees.specs.Tree.{Tree}
use Rattle.trees.specs.Node.{tree_at, trees_at}
use Rattle.tasks.specs.declared.declaration.Con.{Con}
use Rattle.tasks.specs.Task.{ConstructorTree}
use Rattle.tasks.specs.Meaning.{con_at, cons_at}
use Rattle.declarations.proofs.Places.{slice_left, slice_right}
use Rattle.tr_algebraic.specs.declared.algebraic_forms.origins.LawKind.{LawKind}
use Rattle.tr_algebraic.specs.declared.algebraic_forms.origins.LawSearch.{LawSearch}
use Rattle.tr_algebraic.specs.declared.algebraic_forms.origins.LawSearch.TheVariants.{Here, After}
use Rattle.tr_algebraic.specs.algebraic_forms.Formulas.{projection_laws, distinctness_law}
use Rattle.tr_algebraic.specs.algebraic_forms.Groups.{LawTree, law}
use Rattle.tr_algebraic.specs.algebraic_forms.Search.{kinds_of_laws, IsLawSearch, AreAll}

-- a member that is one of so many
pub all_here : (ks : List LawKind) (kind : LawKind) (k : ℕ) → All (λ z. z ≡ kind) ks → k < length ks → slice_get ks k ≡ Some kind
all_here [] kind k a l = absurd (omega arith)
all_here (z ∷ ks) kind zero a l = ap (λ (y : LawKind). Some y) (a 0 z (omega arith))
all_here (z ∷ ks) kind (suc k) a l = all_here ks kind k (λ i d m. a (suc i) d (omega arith)) (omega arith)

-- laws of one kind
pub of_kind : (kind : LawKind) (vars : ℕ) (es : List Tree) → AreAll (kinds_of_laws (map (law kind vars) es)) (length es) kind
of_kind kind vars es = record { count = length-map (map (law kind vars) es) (λ (x : LawTree). x.kind) ∙ length-map es (law kind vars); each = by es }
  where
    by : (fs : List Tree) → All (λ z. z ≡ kind) (kinds_of_laws (map (law kind vars) fs))
    by [] = All-nil (λ z. z ≡ kind)
    by (e ∷ fs) = All-cons (λ z. z ≡ kind) kind (kinds_of_laws (map (law kind vars) fs)) refl (by fs)

pub projections_count : (type vars : ℕ) (c : ConstructorTree) (ps : List ℕ) (types : List Tree) → length (projection_laws type vars c ps types) ≡ min (length ps) (length types)
projections_count type vars c [] types = omega arith
projections_count type vars c (p ∷ ps) [] = omega arith
projections_count type vars c (p ∷ ps) (ty ∷ types) = omega (arith, projections_count type vars c ps types)

-- there, in the first list
pub search_here : (xs ys zs : List LawKind) (k : ℕ) (kind : LawKind) → zs ≡ xs ++ ys → slice_get xs k ≡ Some kind → IsLawSearch zs k (Here kind)
search_here xs ys zs k kind q e = slice_left xs ys zs k kind q e

-- or in the others
pub search_after : (xs ys zs : List LawKind) (k left : ℕ) (r : LawSearch) → zs ≡ xs ++ ys → length xs + left ≡ k → IsLawSearch ys left r → IsLawSearch zs k r
search_after xs ys zs k left (Here kind) q e h = ap (λ (z : List LawKind). slice_get z k) q ∙ slice_right xs ys k left e ∙ h
search_after xs ys zs k left (After m) q e h = omega (arith, ap length q, length-of xs ys, e, h)
  where
    length-of : (as_ bs : List LawKind) → length (as_ ++ bs) ≡ length as_ + length bs
    length-of [] bs = omega arith
    length-of (a ∷ as_) bs = omega (arith, length-of as_ bs)

pub kinds_joined : (xs ys : List LawTree) → kinds_of_laws (xs ++ ys) ≡ kinds_of_laws xs ++ kinds_of_laws ys
kinds_joined xs ys = map-append (λ (x : LawTree). x.kind) xs ys

-- ---- of one kind
pub of_these : (kind : LawKind) (vars : ℕ) (es : List Tree) (many : ℕ) → length es ≡ many → AreAll (kinds_of_laws (map (law kind vars) es)) many kind
of_these kind vars es many e = let h = of_kind kind vars es in record { count = h.count ∙ e; each = h.each }

pub kinds_after : (kind : LawKind) (vars : ℕ) (as_ bs : List Tree) → kinds_of_laws (map (law kind vars) (as_ ++ bs)) ≡ kinds_of_laws (map (law kind vars) as_) ++ kinds_of_laws (map (law kind vars) bs)
kinds_after kind vars as_ bs = ap kinds_of_laws (map-append (law kind vars) as_ bs) ∙ kinds_joined (map (law kind vars) as_) (map (law kind vars) bs)

pub projections_of : (s : List Tree) (type vars : ℕ) (c : Con) (many : ℕ) → many ≡ min (length c.projections) (length c.fields) → length (projection_laws type vars (con_at s c) c.projections (trees_at s c.fields)) ≡ many
projections_of s type vars c many e = projections_count type vars (con_at s c) c.projections (trees_at s c.fields) ∙ ap (min (length c.projections)) (length-map c.fields (tree_at s)) ∙ sym e

pub differences_of : (s : List Tree) (type vars : ℕ) (c : ConstructorTree) (rest : List Con) (many : ℕ) → many ≡ length rest → length (map (distinctness_law type vars c) (cons_at s rest)) ≡ many
differences_of s type vars c rest many e = length-map (cons_at s rest) (distinctness_law type vars c) ∙ length-map rest (con_at s) ∙ sym e
