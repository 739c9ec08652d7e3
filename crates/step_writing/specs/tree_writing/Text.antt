-- The text of lines, by their words.
use Rattle.std.specs.Prelude.{ℕ, List, [], ◌∷◌, ◌++◌}
use Rattle.step_lines.specs.tree_lines.Words.{LineWord}

-- words, each after a space
abbrev pub spaced : List LineWord → List ℕ
spaced [] = []
spaced (w ∷ ws) = 32 ∷ (w ++ spaced ws)

-- a line of words, with its line feed
abbrev pub line_text : LineWord → List LineWord → List ℕ
line_text w ws = w ++ spaced ws ++ 10 ∷ []

-- lines, each with its line feed
abbrev pub whole_text : List (List ℕ) → List ℕ
whole_text [] = []
whole_text (l ∷ ls) = l ++ (10 ∷ whole_text ls)
