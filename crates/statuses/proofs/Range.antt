-- The number of `stress` is from 1 to 200.
use Rattle.std.proofs.Common.{◌≡◌, ℕ, ◌≤◌, ◌==◌, Bool, true, false, cond, List, [], ◌∷◌, length, Option, Some, None, subst, refl, rules, tests}
use Rattle.std.specs.Prelude.{ℤ, pos, negsuc, codes, nat_le, ◌&&◌}
use Rattle.std.specs.Str.{bytes_eq}
use Rattle.std.specs.Option.{option_map}
use Rattle.word_tables.specs.integers.Integers.{integer}
use Rattle.statuses.specs.declared.words.Command.{Command}
use Rattle.statuses.specs.declared.words.Command.TheVariants.{Print, Names, Check, Lift, Stress}
use Rattle.statuses.specs.Words.{CommandRow, command_rows, fits_row, command_among, command_named, command_of, stress_of, from_1_to_200, is_plain_word, all_plain}

-- a number that is from 1 to 200
abbrev InRange : Option Command → Type 0
InRange (Some (Stress n)) = (1 ≤ n) × (n ≤ 200)
InRange _ = Unit {0}

either : (b : Bool) (c d : Option Command) → InRange c → InRange d → InRange (cond b c d)
either true c d x y = x
either false c d x y = y

parts_in_range : (b : Bool) (n : ℕ) → (nat_le 1 n && nat_le n 200) ≡ b → InRange (option_map Stress (cond b (Some n) None))
parts_in_range true n is = search (rules, tests)
parts_in_range false n is = tt

of_integer : (z : Option ℤ) → InRange (option_map Stress (from_1_to_200 z))
of_integer None = tt
of_integer (Some (pos n)) = parts_in_range (nat_le 1 n && nat_le n 200) n refl
of_integer (Some (negsuc n)) = tt

of_operands : (operands : List (List ℕ)) → InRange (stress_of operands)
of_operands [] = tt
of_operands (number ∷ []) = of_integer (integer number)
of_operands (a ∷ b ∷ more) = tt

of_row : (row : CommandRow) (n : ℕ) → InRange (Some row.command) → InRange (cond (fits_row row n) (Some row.command) None)
of_row row n h = either (fits_row row n) (Some row.command) None h tt

of_name : (name : List ℕ) (operands : List (List ℕ)) → InRange (command_named name operands)
of_name name operands =
    let n = length operands in
    either (bytes_eq name (codes "stress")) (stress_of operands) (command_among command_rows name n) (of_operands operands)
    (either (bytes_eq name (codes "print")) _ _ (either (4 == n) (Some Print) None tt tt)
    (either (bytes_eq name (codes "names")) _ _ (either (4 == n) (Some Names) None tt tt)
    (either (bytes_eq name (codes "check")) _ _ (either (4 == n) (Some Check) None tt tt)
    (either (bytes_eq name (codes "lift")) _ _ (either (nat_le 4 n) (Some Lift) None tt tt) tt))))

of_words : (words : List (List ℕ)) → InRange (command_of words)
of_words [] = tt
of_words (program ∷ []) = tt
of_words (program ∷ name ∷ operands) = either (is_plain_word name && all_plain operands) (command_named name operands) None (of_name name operands) tt

pub stress_range : (words : List (List ℕ)) (n : ℕ) → command_of words ≡ Some (Stress n) → (1 ≤ n) × (n ≤ 200)
stress_range words n is = subst InRange is (of_words words)
