-- What was found without a fault over several tasks.
use Rattle.std.specs.Prelude.{◌≡◌, ℕ, Bool, not, ◌&&◌, ◌==◌, List, [], map, get_or}
use Rattle.std.specs.List.{list_any}
use Rattle.trees.specs.Tree.{Tree, above_ty_vars}
use Rattle.drivers.specs.declared.driver_items.kinds.Syntax.{Syntax}
use Rattle.drivers.specs.driver_items.Syntaxes.{syntax_of}
use Rattle.name_tables.specs.Occurrences.{Occurrence, occurrences}
use Rattle.name_tables.specs.Seen.{occurrence_at, has}
use Rattle.printed_problems.specs.declared.checks.Checker.{Checker}
use Rattle.printed_problems.specs.declared.checked.Checked.{Checked}
use Rattle.printed_problems.specs.Faults.{has_forms}
use Rattle.printed_problems.specs.Checks.{Pass, HaveForms}

-- the things at these places
abbrev pub keys_at : List (ℕ × ℕ) → List ℕ → List (ℕ × ℕ)
keys_at keys places = map (λ place. get_or keys place (0, 0)) places

-- whether one of these things is among what occurs
abbrev pub any_occurs : List Tree → List Occurrence → List (ℕ × ℕ) → Bool
any_occurs s os keys = list_any (λ (key : ℕ × ℕ). has os (occurrence_at s key)) keys

-- whether a formula has no fault where these things are the interpreted symbols without a template
abbrev pub is_faultless : Syntax → List Tree → List (ℕ × ℕ) → Tree → Bool
is_faultless p s bare e =
    has_forms p e && ((above_ty_vars e == 0) && not (any_occurs s (occurrences e) bare))

-- terms with all forms, and formulas without a fault where those things are bare
pub record IsChecked (p : Syntax) (s : List Tree) (k : Checked) : Type 0 where
  pub formed : HaveForms p s k.formed.keys
  pub faultless : Pass (is_faultless p s k.bare.items) s k.faultless.keys

-- what serves for the bare things of a task
pub record AreChecked (c : Checker) (k : Checked) : Type 0 where
  pub is : IsChecked (syntax_of c.driver.now.printer) c.store.now k
  pub bare : k.bare.items ≡ keys_at c.things.now c.bare.now

pub record IsEmptyChecked (k : Checked) : Type 0 where
  pub formed : k.formed.keys ≡ []
  pub faultless : k.faultless.keys ≡ []

-- it is for these bare things, and what was right stays so
pub record TurnsTo (old : Checked) (things : List (ℕ × ℕ)) (new : Checked) : Type 0 where
  pub bare : new.bare.items ≡ things
  pub stays : (p : Syntax) (s : List Tree) → IsChecked p s old → IsChecked p s new
