-- The files of `stress` by their names, and how many lines its refutations have.
use Rattle.std.specs.Prelude.{ℕ, zero, suc, ◌+◌, ◌==◌, if◌then◌else◌, List, [], ◌∷◌, ◌++◌, map, Some, None, String, Vec, string_bytes, codes, decimal}
use Rattle.std.specs.List.{count_by}
use Rattle.std.specs.Str.{bytes_eq}
use Rattle.std.specs.declared.alloc.Global.{Global}
use Rattle.outside.specs.State.{Files}
use Rattle.stress_gen.specs.Texts.{filled, source_text, refutation_text}

-- line feeds
abbrev pub feeds : List ℕ → ℕ
feeds bytes = count_by (λ c. c == 10) bytes

abbrev pub driver_text : List ℕ
driver_text = codes "printer \"smtv2\"\ntransformation \"split_goal_right\"\n"

-- the refutations of parts 1 to n; the name of each is its number
abbrev pub refutation_files : ℕ → List (List ℕ × List ℕ)
refutation_files zero = []
refutation_files (suc j) = refutation_files j ++ (decimal (suc j), refutation_text (suc j)) ∷ []

abbrev pub refutation_names : ℕ → List (List ℕ)
refutation_names zero = []
refutation_names (suc j) = refutation_names j ++ decimal (suc j) ∷ []

-- how many lines they have
abbrev pub refutation_lines : ℕ → ℕ
refutation_lines zero = 0
refutation_lines (suc j) = refutation_lines j + feeds (refutation_text (suc j))

-- the file of the first pair with the name
abbrev pub file_among : List (List ℕ × List ℕ) → Files
file_among [] name = None
file_among (file ∷ files) name = if bytes_eq file.0 name then Some file.1 else file_among files name

abbrev pub pair_of_file : String Global × Vec ℕ Global → List ℕ × List ℕ
pair_of_file pair = (string_bytes pair.0, pair.1.items)

abbrev pub files_of : List (String Global × Vec ℕ Global) → List (List ℕ × List ℕ)
files_of files = map pair_of_file files

-- the source with n parts, the driver, and the refutations
abbrev pub stress_files : ℕ → Files
stress_files n = file_among ((codes "stress.why", source_text n) ∷ (codes "plain.drv", driver_text)
    ∷ refutation_files n)

-- what is written where all n parts are lifted
abbrev pub accepted_text : ℕ → List ℕ
accepted_text n = filled (codes "parts %\nlines %\naccepted\n") (n ∷ refutation_lines n ∷ [])
