-- What the first column of a table tells of its type.
use Rattle.std.proofs.Common.{◌≡◌, ℕ, List, [], ◌∷◌, Option, Some, None, refl, sym, ap, ◌∙◌, subst}
use Rattle.trees.specs.Tree.{Tree, One, Three, HTyApp, HPatAny, HPatVar, HPatCon}
use Rattle.tasks.specs.Task.{SymbolTree}
use Rattle.checks.specs.match_cover.Shapes.{Builds, without_aliases}
use Rattle.checks.specs.match_cover.Tables.{BareFits, TableFits, symbol_of_type, told, or_told, column_told}
use Rattle.checks.proofs.match_cover.Splitting.{MeetsAll, PlainColumn}

-- a type symbol at some arguments
pub record IsOf (h : ℕ) (t : Tree) : Type 0 where
  pub arguments : Tree
  pub is : t ≡ One (HTyApp h) arguments

symbol_is : (h : ℕ) (t : Tree) → symbol_of_type t ≡ Some h → IsOf h t
symbol_is h (One (HTyApp k) a) e = let s : k ≡ h = cc in record { arguments = a; is = ap (λ j. One (HTyApp j) a) s }
symbol_is h _ e = absurd (cc)

bare_is : (symbols : List SymbolTree) (h : ℕ) (t b : Tree) → BareFits symbols t b → told b ≡ Some h → IsOf h t
bare_is symbols h t (Three (HPatCon c) types parts type) x e = subst (IsOf h) x.0 (symbol_is h type e)
bare_is symbols h t _ x e = absurd (cc)

or_cases : (symbols : List SymbolTree) (h : ℕ) (t : Tree) (a b : Option ℕ) → (a ≡ Some h → IsOf h t) → (b ≡ Some h → IsOf h t) → or_told a b ≡ Some h → IsOf h t
or_cases symbols h t None b f g e = g e
or_cases symbols h t (Some k) b f g e = f e

pub column_is : (symbols : List SymbolTree) (h : ℕ) (t : Tree) (ts : List Tree) (rows : List (List Tree)) → TableFits symbols (t ∷ ts) rows → column_told rows ≡ Some h → IsOf h t
column_is symbols h t ts [] x e = absurd (cc)
column_is symbols h t ts ([] ∷ rows) x e = absurd x.0
column_is symbols h t ts ((p ∷ row) ∷ rows) x e =
    or_cases symbols h t (told (without_aliases p)) (column_told rows) (bare_is symbols h t (without_aliases p) x.0.0) (column_is symbols h t ts rows x.1) e

no_symbol : (symbols : List SymbolTree) (t : Tree) (k : ℕ) → symbol_of_type t ≡ None → Builds symbols t k → ⊥
no_symbol symbols (One (HTyApp h) a) k e b = cc
no_symbol symbols _ k e b = b

bare_plain : (symbols : List SymbolTree) (t b : Tree) → BareFits symbols t b → told b ≡ None → MeetsAll symbols t b
bare_plain symbols t (Three (HPatCon c) types parts type) x e = λ k ss i. absurd (no_symbol symbols t k (ap symbol_of_type (sym x.0) ∙ e) i.0)
bare_plain symbols t (One HPatAny a) x e = λ k ss i. tt
bare_plain symbols t (One HPatVar a) x e = λ k ss i. tt
bare_plain symbols t _ x e = absurd x

first_none : (a b : Option ℕ) → or_told a b ≡ None → a ≡ None
first_none None b e = refl
first_none (Some k) b e = absurd (cc)

rest_none : (a b : Option ℕ) → or_told a b ≡ None → b ≡ None
rest_none None b e = e
rest_none (Some k) b e = absurd (cc)

pub column_plain : (symbols : List SymbolTree) (t : Tree) (ts : List Tree) (rows : List (List Tree)) → TableFits symbols (t ∷ ts) rows → column_told rows ≡ None → PlainColumn symbols t rows
column_plain symbols t ts [] x e = tt
column_plain symbols t ts ([] ∷ rows) x e = absurd x.0
column_plain symbols t ts ((p ∷ row) ∷ rows) x e =
    (bare_plain symbols t (without_aliases p) x.0.0 (first_none (told (without_aliases p)) (column_told rows) e), column_plain symbols t ts rows x.1 (rest_none (told (without_aliases p)) (column_told rows) e))
