-- Turns of the loops through a text: strings, gaps and tokens at a place.
use Rattle.std.proofs.Common.{◌≡◌, ℕ, zero, suc, ◌+◌, ◌-◌, ◌<◌, ◌≤◌, Bool, true, false, not, ◌&&◌, nat_eq, cond, List, [], ◌∷◌, ◌++◌, length, take, drop, get_or, map, slice_range, Option, Some, None, refl, sym, ap, ◌∙◌, arith, length-drop}
use Rattle.std.proofs.lemmas.List.{drop-drop, drop_more, map-append}
use Rattle.drivers.specs.declared.driver_tokens.terminal.DriverTerminal.{DriverTerminal}
use Rattle.drivers.specs.declared.driver_tokens.token.DriverToken.{DriverToken}
use Rattle.tokens_why.specs.Gap.{one_more, at_from}
use Rattle.drivers.specs.driver_tokens.Strings.{quoted}
use Rattle.drivers.specs.driver_tokens.Tokens.{DriverLexeme, driver_lexeme, gap_length, token_length, after_gap, lexed, lexeme_in, driver_terminal_of}

-- passing over bytes
lexed-pass : (bs : List ℕ) (at n : ℕ) → n ≤ length bs → lexed bs at n ≡ lexed (drop n bs) (at + n) 0
lexed-pass bs at zero le = ap (λ v. lexed bs v 0) (omega arith)
lexed-pass [] at (suc n) le = absurd (omega arith)
lexed-pass (a ∷ bs) at (suc n) le = lexed-pass bs (at + 1) n (omega arith) ∙ ap (λ v. lexed (drop n bs) v 0) (omega arith)

gap-front : (bs : List ℕ) (at n : ℕ) → gap_length bs ≡ n → 0 < n → n ≤ length bs → lexed bs at 0 ≡ lexed (drop n bs) (at + n) 0
gap-front bs at zero e lt le = absurd (omega arith)
gap-front [] at (suc n) e lt le = absurd (omega arith)
gap-front (a ∷ bs) at (suc n) e lt le =
    ap (λ v. after_gap v (token_length (a ∷ bs)) at (a ∷ bs) (λ k. lexed bs (at + 1) k)) e
    ∙ lexed-pass bs (at + 1) n (omega arith)
    ∙ ap (λ v. lexed (drop n bs) v 0) (omega arith)

token-front : (bs : List ℕ) (at n : ℕ) → gap_length bs ≡ 0 → token_length bs ≡ n → 0 < n → n ≤ length bs → lexed bs at 0 ≡ driver_lexeme at (take n bs) ∷ lexed (drop n bs) (at + n) 0
token-front bs at zero g e lt le = absurd (omega arith)
token-front [] at (suc n) g e lt le = absurd (omega arith)
token-front (a ∷ bs) at (suc n) g e lt le =
    ap (λ v. after_gap v (token_length (a ∷ bs)) at (a ∷ bs) (λ k. lexed bs (at + 1) k)) g
    ∙ ap (λ v. after_gap 0 v at (a ∷ bs) (λ k. lexed bs (at + 1) k)) e
    ∙ ap (λ v. driver_lexeme at (take (suc n) (a ∷ bs)) ∷ v) (lexed-pass bs (at + 1) n (omega arith) ∙ ap (λ v. lexed (drop n bs) v 0) (omega arith))

none-front : (bs : List ℕ) (at : ℕ) → 0 < length bs → gap_length bs ≡ 0 → token_length bs ≡ 0 → lexed bs at 0 ≡ driver_lexeme at [] ∷ []
none-front [] at lt g e = absurd (omega arith)
none-front (a ∷ bs) at lt g e =
    ap (λ v. after_gap v (token_length (a ∷ bs)) at (a ∷ bs) (λ k. lexed bs (at + 1) k)) g
    ∙ ap (λ v. after_gap 0 v at (a ∷ bs) (λ k. lexed bs (at + 1) k)) e

-- a gap at a place of a text
pub gap-turn : (text : List ℕ) (i n : ℕ) → n ≡ gap_length (drop i text) → 0 < n → i + n ≤ length text → lexed (drop i text) i 0 ≡ lexed (drop (i + n) text) (i + n) 0
gap-turn text i n e lt le =
    gap-front (drop i text) i n (sym e) lt (omega (arith, length-drop i text))
    ∙ ap (λ v. lexed v (i + n) 0) (drop-drop n i text)

-- a token at a place of a text
pub token-turn : (text : List ℕ) (i n j : ℕ) → n ≡ gap_length (drop i text) → n ≤ 0 → j ≡ i + token_length (drop i text) → i < j → j ≤ length text → lexed (drop i text) i 0 ≡ driver_lexeme i (slice_range text i j) ∷ lexed (drop j text) j 0
token-turn text i n j g z e lt le =
    let k : token_length (drop i text) ≡ j - i = omega arith in
    let there : i + (j - i) ≡ j = omega arith in
    token-front (drop i text) i (j - i) (omega arith) k (omega arith) (omega (arith, length-drop i text))
    ∙ ap (λ v. driver_lexeme i (slice_range text i j) ∷ lexed v (i + (j - i)) 0) (drop-drop (j - i) i text)
    ∙ ap (λ v. driver_lexeme i (slice_range text i j) ∷ lexed (drop v text) v 0) there

-- no token at a place of a text
pub none-turn : (text : List ℕ) (i n j : ℕ) → i < length text → n ≡ gap_length (drop i text) → n ≤ 0 → j ≡ i + token_length (drop i text) → j ≡ i → lexed (drop i text) i 0 ≡ driver_lexeme i (slice_range text i j) ∷ []
none-turn text i n j lt g z e same =
    let k : token_length (drop i text) ≡ 0 = omega arith in
    let none : j - i ≡ 0 = omega arith in
    none-front (drop i text) i (omega (arith, length-drop i text)) (omega arith) k
    ∙ ap (λ v. driver_lexeme i (take v (drop i text)) ∷ []) (sym none)

-- strings: one byte more
quote-byte : (a : ℕ) (bs : List ℕ) (e : Bool) → quoted e (a ∷ bs) ≡ cond (nat_eq a 34 && not e) (Some 1) (one_more (quoted (nat_eq a 92 && not e) bs))
quote-byte a bs true = by_bools (nat_eq a 34) (nat_eq a 92)
  where
    by_bools : (x y : Bool) → one_more (quoted false bs) ≡ cond (x && false) (Some 1) (one_more (quoted (y && false) bs))
    by_bools true true = refl
    by_bools true false = refl
    by_bools false true = refl
    by_bools false false = refl
quote-byte a bs false = by_bools (nat_eq a 34) (nat_eq a 92)
  where
    by_bools : (x y : Bool) → cond x (Some 1) (one_more (quoted y bs)) ≡ cond (x && true) (Some 1) (one_more (quoted (y && true) bs))
    by_bools true true = refl
    by_bools true false = refl
    by_bools false true = refl
    by_bools false false = refl

from-one : (i : ℕ) (r : Option ℕ) → at_from i (one_more r) ≡ at_from (i + 1) r
from-one i None = refl
from-one i (Some n) = ap Some (omega arith)

-- at a place of a text, after `start` bytes
pub quote-turn : (text : List ℕ) (i : ℕ) (e x : Bool) → i < length text → x ≡ (nat_eq (get_or text i 0) 34 && not e) → at_from i (quoted e (drop i text)) ≡ cond x (Some (i + 1)) (at_from (i + 1) (quoted (nat_eq (get_or text i 0) 92 && not e) (drop (i + 1) text)))
quote-turn text i e x lt h =
    ap (λ v. at_from i (quoted e v)) (drop_more text i 0 lt)
    ∙ ap (at_from i) (quote-byte (get_or text i 0) (drop (i + 1) text) e)
    ∙ ap (λ v. at_from i (cond v (Some 1) (one_more (quoted (nat_eq (get_or text i 0) 92 && not e) (drop (i + 1) text))))) (sym h)
    ∙ by_bool x
  where
    by_bool : (x : Bool) → at_from i (cond x (Some 1) (one_more (quoted (nat_eq (get_or text i 0) 92 && not e) (drop (i + 1) text)))) ≡ cond x (Some (i + 1)) (at_from (i + 1) (quoted (nat_eq (get_or text i 0) 92 && not e) (drop (i + 1) text)))
    by_bool true = refl
    by_bool false = from-one i _

abbrev lexed_as : DriverTerminal → ℕ → List ℕ → DriverLexeme
lexed_as x at text = record { terminal = x; at = at; text = text }

-- a token at the end of those that were found
pub found-turn : (text : List ℕ) (found more : List DriverToken) (x : DriverTerminal) (i j : ℕ) → more ≡ found ++ record { terminal = x; start = i; end = j } ∷ [] → x ≡ driver_terminal_of (slice_range text i j) → map (lexeme_in text) more ≡ map (lexeme_in text) found ++ driver_lexeme i (slice_range text i j) ∷ []
found-turn text found more x i j e k =
    ap (map (lexeme_in text)) e
    ∙ map-append (lexeme_in text) found (record { terminal = x; start = i; end = j } ∷ [])
    ∙ ap (λ v. map (lexeme_in text) found ++ lexed_as v i (slice_range text i j) ∷ []) k
