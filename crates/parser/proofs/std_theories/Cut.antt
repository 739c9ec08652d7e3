-- The tokens of a text, cut one after another by computation: of a text with neither comments, attributes, `||` nor literals with a
-- radix letter.
use Rattle.std.specs.Prelude.{ℕ, zero, suc, ◌+◌, ◌&&◌, ◌||◌, not, nat_eq, nat_le, Bool, true, false, if◌then◌else◌, List, [], ◌∷◌, take, drop, length, Option, Some, None, option_map, get_or}
use Rattle.std.specs.List.{prefix_len}
use Rattle.tokens_why.specs.declared.token.Token.{Token}
use Rattle.tokens_why.specs.declared.token.TokenKind.{TokenKind}
use Rattle.tokens_why.specs.declared.token.TokenKind.TheVariants.{TyVar, Int, StarName}
use Rattle.tokens_why.specs.Bytes.{is_lower, is_word_byte, is_operator_byte}
use Rattle.tokens_why.specs.Gap.{byte_in, has_pair, has_star_name, opens_comment, opens_attribute, gap}
use Rattle.tokens_why.specs.Literal.{is_digit_or_line, literal_value, greatest}
use Rattle.tokens_why.specs.Longest.{based_radix}
use Rattle.tokens_why.specs.Strings.{word_kind, run_kind, mark_kind, lead_of}
use Rattle.tokens_why.specs.declared.longest.Lead.{Lead}
use Rattle.tokens_why.specs.declared.longest.Lead.TheVariants.{Letter, Quote, Digit, Sign, Mark}

-- how many bytes the token in front takes, and its kind
abbrev pub Front : Type 0
Front = ℕ × TokenKind

abbrev pub front_by : Lead → List ℕ → Option Front
front_by Letter bs = let n = 1 + prefix_len is_word_byte (drop 1 bs) in Some (n, word_kind (take n bs))
front_by Quote bs = if is_lower (get_or bs 1 0) && not (nat_eq (get_or bs 1 0) 95) then Some (2 + prefix_len is_word_byte (drop 2 bs), TyVar) else None
front_by Digit bs = if nat_eq (based_radix bs) 0 then Some (1 + prefix_len (is_digit_or_line 10) (drop 1 bs), Int) else None
front_by Sign bs = let n = 1 + prefix_len is_operator_byte (drop 1 bs) in Some (n, run_kind (take n bs))
front_by Mark bs = if has_star_name bs then Some (3, StarName) else (if has_pair 124 124 bs then None else option_map (λ k. (1, k)) (mark_kind (get_or bs 0 0)))

abbrev pub front : List ℕ → Option Front
front bs = if opens_comment bs || opens_attribute bs then None else front_by (lead_of (byte_in bs 0)) bs

abbrev pub is_int : TokenKind → Bool
is_int Int = true
is_int _ = false

abbrev pub fits : TokenKind → List ℕ → Bool
fits k w = if is_int k then nat_le (literal_value w) greatest else true

abbrev pub token : ℕ → Front → Token
token at f = record { kind = f.1; start = at; end = at + f.0 }

-- the tokens of what is left of a text from a place on
abbrev pub then_cut : (List ℕ → ℕ → Option (List Token)) → List ℕ → ℕ → Option Front → Option (List Token)
then_cut rest bs at None = None
then_cut rest bs at (Some f) = if fits f.1 (take f.0 bs) then option_map (λ ts. token at f ∷ ts) (rest (drop f.0 bs) (at + f.0)) else None

abbrev pub cut_front : ℕ → (List ℕ → ℕ → Option (List Token)) → List ℕ → ℕ → Option (List Token)
cut_front end rest [] at = if nat_eq at end then Some [] else None
cut_front end rest (a ∷ bs) at = then_cut rest (a ∷ bs) at (front (a ∷ bs))

-- at most so many
abbrev pub cut : ℕ → ℕ → List ℕ → ℕ → Option (List Token)
cut end zero bs at = None
cut end (suc n) bs at = let g = gap bs 0 in cut_front end (cut end n) (drop g bs) (at + g)

abbrev pub tokens_of : List ℕ → Option (List Token)
tokens_of text = cut (length text) (suc (length text)) text 0
