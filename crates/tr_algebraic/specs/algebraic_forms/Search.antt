-- A law that is looked for in a list of laws, by its place: it is there, with its kind, or so many
-- are left after them.
use Rattle.std.specs.Prelude.{◌≡◌, ℕ, ◌+◌, List, map, length, slice_get, All, Some}
use Rattle.tr_algebraic.specs.declared.algebraic_forms.origins.LawKind.{LawKind}
use Rattle.tr_algebraic.specs.declared.algebraic_forms.origins.LawSearch.{LawSearch}
use Rattle.tr_algebraic.specs.declared.algebraic_forms.origins.LawSearch.TheVariants.{Here, After}
use Rattle.tr_algebraic.specs.algebraic_forms.Groups.{LawTree}

abbrev pub kinds_of_laws : List LawTree → List LawKind
kinds_of_laws xs = map (λ (x : LawTree). x.kind) xs

abbrev pub IsLawSearch : List LawKind → ℕ → LawSearch → Type 0
IsLawSearch ks k (Here kind) = slice_get ks k ≡ Some kind
IsLawSearch ks k (After left) = length ks + left ≡ k

-- so many, each this one
pub record AreAll (ks : List LawKind) (many : ℕ) (kind : LawKind) : Type 0 where
  pub count : length ks ≡ many
  pub each : All (λ k. k ≡ kind) ks
