-- S-expressions (SMT-LIB 2.6, section 3.2): a word, or a list of expressions in parentheses, with
-- single blanks between them.
use Rattle.std.specs.Prelude.{◌≡◌, ℕ, ◌<◌, ◌==◌, ◌||◌, Bool, true, false, List, [], ◌∷◌, ◌++◌, length}
use Rattle.std.specs.List.{list_any, flat_map}

-- an expression, or the members of a list
pub data Sexp : Type 0 where
  SexpWord : List ℕ → Sexp
  Group : Sexp → Sexp
  Nothing : Sexp
  Then : Sexp → Sexp → Sexp

-- the text of an expression; that of members, the first of which is after `(`, and that of members
-- each after a blank
pub record SexpText : Type 0 where
  pub text : List ℕ
  pub first : List ℕ
  pub later : List ℕ

abbrev pub written_sexp : Sexp → SexpText
written_sexp (SexpWord w) = record { text = w; first = []; later = [] }
written_sexp (Group s) =
    record { text = 40 ∷ (written_sexp s).first ++ 41 ∷ []; first = []; later = [] }
written_sexp Nothing = record { text = []; first = []; later = [] }
written_sexp (Then a rest) = record {
  text = [];
  first =
      (written_sexp a).text ++ (written_sexp rest).later;
  later =
      32 ∷ (written_sexp a).text ++ (written_sexp rest).later;
}

abbrev pub write_sexp : Sexp → List ℕ
write_sexp s = (written_sexp s).text

-- a blank, a line feed or a parenthesis
abbrev pub breaks : ℕ → Bool
breaks c = (c == 10) || ((c == 32) || ((c == 40) || (c == 41)))

-- a word of some bytes, none of which breaks it
pub record IsWord (w : List ℕ) : Type 0 where
  pub some : 0 < length w
  pub whole : list_any breaks w ≡ false

-- whether it is an expression of such words, and whether it is a list of these
pub record Proper : Type 1 where
  pub one : Type 0
  pub list : Type 0

abbrev pub proper : Sexp → Proper
proper (SexpWord w) = record { one = IsWord w; list = ⊥ }
proper (Group s) = record { one = (proper s).list; list = ⊥ }
proper Nothing = record { one = ⊥; list = Unit {0} }
proper (Then a rest) = record { one = ⊥; list = (proper a).one × (proper rest).list }

abbrev pub IsOne : Sexp → Type 0
IsOne s = (proper s).one

abbrev pub IsProperList : Sexp → Type 0
IsProperList s = (proper s).list

-- what may be after an expression
abbrev pub Ends : List ℕ → Type 0
Ends [] = Unit {0}
Ends (c ∷ cs) = breaks c ≡ true

-- expressions, each on a line
abbrev pub lines : List Sexp → List ℕ
lines ss = flat_map (λ s. write_sexp s ++ 10 ∷ []) ss

abbrev pub AllOne : List Sexp → Type 0
AllOne [] = Unit {0}
AllOne (s ∷ ss) = IsOne s × AllOne ss
