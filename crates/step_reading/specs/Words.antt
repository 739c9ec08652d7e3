-- The lines of a step file, and the words of a line.
use Rattle.std.specs.Prelude.{ℕ, ◌==◌, if◌then◌else◌, List, [], ◌∷◌}
use Rattle.std.specs.List.{slice_split, onto_first}

-- each line ends at a line feed, the last one optionally so
abbrev pub lines_of : List ℕ → List (List ℕ)
lines_of [] = []
lines_of (c ∷ cs) = if c == 10 then [] ∷ lines_of cs else onto_first c (lines_of cs)

-- the words between single spaces
abbrev pub words_in_line : List ℕ → List (List ℕ)
words_in_line line = slice_split (λ c. c == 32) line

-- the bytes between line feeds
abbrev pub line_parts : List ℕ → List (List ℕ)
line_parts bytes = slice_split (λ c. c == 10) bytes

abbrev pub all_but_last : List (List ℕ) → List (List ℕ)
all_but_last [] = []
all_but_last (x ∷ []) = []
all_but_last (x ∷ y ∷ more) = x ∷ all_but_last (y ∷ more)

-- the lines that a line feed has ended; what is after the last line feed is the unfinished line
abbrev pub ended_lines : List ℕ → List (List ℕ)
ended_lines bytes = all_but_last (line_parts bytes)
