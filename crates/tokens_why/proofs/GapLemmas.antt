-- Steps over what is between tokens, at a place of a text.
use Rattle.tokens_why.proofs.Common.{◌≡◌, ℕ, zero, suc, ◌+◌, ◌-◌, ◌<◌, ◌≤◌, Bool, true, false, ◌&&◌, nat_eq, List, [], ◌∷◌, length, drop, Option, Some, None, refl, sym, ap, ◌∙◌, arith, length-drop, nat_tests, get_or-drop, drop-drop, byte_in, has_pair, has_star_name, comment, one_more, at_from, gap_piece, gap, next}

-- after the end there is no byte
pub past : (text : List ℕ) (i : ℕ) → length text ≤ i → byte_in text i ≡ 256
past [] i le = refl
past (a ∷ text) zero le = absurd (omega arith)
past (a ∷ text) (suc i) le = past text i (omega arith)

-- where a byte is found the text goes on
pub within : (text : List ℕ) (i x : ℕ) → x < 256 → nat_eq (byte_in text i) x ≡ true → i < length text
within text i x lt e = let p = λ (le : length text ≤ i). let q = past text i le in let r : 256 ≡ x = grind (arith, nat_tests) in let n : ⊥ = omega arith in n in omega arith

-- a byte of the rest of a text is one of the text
pub byte-drop : (text : List ℕ) (i k : ℕ) → byte_in (drop i text) k ≡ byte_in text (i + k)
byte-drop text i k = get_or-drop i text k 256

pub and-left : (a b : Bool) → (a && b) ≡ true → a ≡ true
and-left true b e = refl
and-left false b e = cc

pub and-right : (a b : Bool) → (a && b) ≡ true → b ≡ true
and-right true b e = e
and-right false b e = cc

pair-within : (text : List ℕ) (i x y : ℕ) → y < 256 → has_pair x y (drop i text) ≡ true → i + 2 ≤ length text
pair-within text i x y lt e =
    let s : nat_eq (byte_in text (i + 1)) y ≡ true = ap (λ v. nat_eq v y) (sym (byte-drop text i 1)) ∙ and-right (nat_eq (byte_in (drop i text) 0) x) _ e in
    let w = within text (i + 1) y lt s in
    omega arith

at-zero : (o : Option ℕ) → at_from 0 o ≡ o
at-zero None = refl
at-zero (Some n) = ap Some (omega arith)

one-from : (p : ℕ) (o : Option ℕ) → one_more (at_from p o) ≡ at_from (suc p) o
one-from p None = refl
one-from p (Some n) = ap Some (omega arith)

from-from : (i p : ℕ) (o : Option ℕ) → at_from i (at_from p o) ≡ at_from (i + p) o
from-from i p None = refl
from-from i p (Some n) = ap Some (omega arith)

comment-pass : (bs : List ℕ) (d p : ℕ) → p ≤ length bs → comment bs d p ≡ at_from p (comment (drop p bs) d 0)
comment-pass bs d zero le = sym (at-zero (comment bs d 0))
comment-pass [] d (suc p) le = absurd (omega arith)
comment-pass (a ∷ bs) d (suc p) le = ap one_more (comment-pass bs d p (omega arith)) ∙ one-from p _

-- from a place on, some bytes are passed over
pub comment-start : (text : List ℕ) (i d p : ℕ) → i + p ≤ length text → at_from i (comment (drop i text) d p) ≡ at_from (i + p) (comment (drop (i + p) text) d 0)
comment-start text i d p le =
    ap (at_from i) (comment-pass (drop i text) d p (omega (arith, length-drop i text)))
    ∙ from-from i p _
    ∙ ap (λ v. at_from (i + p) (comment v d 0)) (drop-drop p i text)

-- one byte and some more are passed over
step : (text : List ℕ) (i d e p : ℕ) → i + 1 + p ≤ length text → comment (drop i text) d 0 ≡ one_more (comment (drop 1 (drop i text)) e p) → at_from i (comment (drop i text) d 0) ≡ at_from (i + 1 + p) (comment (drop (i + 1 + p) text) e 0)
step text i d e p le is =
    ap (at_from i) is
    ∙ ap (λ v. at_from i (one_more (comment v e p))) (drop-drop 1 i text)
    ∙ from-one i _
    ∙ comment-start text (i + 1) e p le
  where
    from-one : (i : ℕ) (o : Option ℕ) → at_from i (one_more o) ≡ at_from (i + 1) o
    from-one i None = refl
    from-one i (Some n) = ap Some (omega arith)

star-list : (bs : List ℕ) (d : ℕ) → has_star_name bs ≡ true → comment bs (suc d) 0 ≡ one_more (comment (drop 1 bs) (suc d) 2)
star-list [] d e = cc
star-list (a ∷ bs) d e = rw e refl

open-list : (bs : List ℕ) (d : ℕ) → has_star_name bs ≡ false → has_pair 40 42 bs ≡ true → comment bs (suc d) 0 ≡ one_more (comment (drop 1 bs) (suc (suc d)) 1)
open-list [] d n e = cc
open-list (a ∷ bs) d n e = rw (n, e) refl

no-star : (bs : List ℕ) → has_pair 40 42 bs ≡ false → has_star_name bs ≡ false
no-star bs e = rw e refl

close-list : (bs : List ℕ) (d : ℕ) → has_pair 40 42 bs ≡ false → has_pair 42 41 bs ≡ true → comment bs (suc d) 0 ≡ one_more (comment (drop 1 bs) d 1)
close-list [] d n e = cc
close-list (a ∷ bs) d n e = rw (no-star (a ∷ bs) n, n, e) refl

plain-list : (bs : List ℕ) (d : ℕ) → 0 < length bs → has_pair 40 42 bs ≡ false → has_pair 42 41 bs ≡ false → comment bs (suc d) 0 ≡ one_more (comment (drop 1 bs) (suc d) 0)
plain-list [] d lt n e = absurd (omega arith)
plain-list (a ∷ bs) d lt n e = rw (no-star (a ∷ bs) n, n, e) refl

-- the turns of the loop through a comment
pub turn-star : (text : List ℕ) (i d : ℕ) → 0 < d → has_pair 40 42 (drop i text) ≡ true → nat_eq (byte_in text (i + 2)) 41 ≡ true → (i + 3 ≤ length text) × (at_from i (comment (drop i text) d 0) ≡ at_from (i + 3) (comment (drop (i + 3) text) d 0))
turn-star text i zero lt p b = absurd (omega arith)
turn-star text i (suc d) lt p b =
    let w = within text (i + 2) 41 (omega arith) b in
    let third : nat_eq (byte_in (drop i text) 2) 41 ≡ true = ap (λ v. nat_eq v 41) (byte-drop text i 2) ∙ b in
    let star : has_star_name (drop i text) ≡ true = rw (p, third) refl in
    let e = step text i (suc d) (suc d) 2 (omega arith) (star-list (drop i text) d star) in
    let q : i + 1 + 2 ≡ i + 3 = omega arith in
    (omega arith, e ∙ ap (λ v. at_from v (comment (drop v text) (suc d) 0)) q)

pub turn-open : (text : List ℕ) (i d : ℕ) → 0 < d → has_pair 40 42 (drop i text) ≡ true → nat_eq (byte_in text (i + 2)) 41 ≡ false → (i + 2 ≤ length text) × (at_from i (comment (drop i text) d 0) ≡ at_from (i + 2) (comment (drop (i + 2) text) (d + 1) 0))
turn-open text i zero lt p b = absurd (omega arith)
turn-open text i (suc d) lt p b =
    let w = pair-within text i 40 42 (omega arith) p in
    let third : nat_eq (byte_in (drop i text) 2) 41 ≡ false = ap (λ v. nat_eq v 41) (byte-drop text i 2) ∙ b in
    let star : has_star_name (drop i text) ≡ false = rw (p, third) refl in
    let e = step text i (suc d) (suc (suc d)) 1 (omega arith) (open-list (drop i text) d star p) in
    let q : i + 1 + 1 ≡ i + 2 = omega arith in
    let r : suc (suc d) ≡ suc d + 1 = omega arith in
    (w, e ∙ ap (λ v. at_from v (comment (drop v text) (suc (suc d)) 0)) q ∙ ap (λ v. at_from (i + 2) (comment (drop (i + 2) text) v 0)) r)

pub turn-close : (text : List ℕ) (i d : ℕ) → 0 < d → has_pair 40 42 (drop i text) ≡ false → has_pair 42 41 (drop i text) ≡ true → (i + 2 ≤ length text) × (at_from i (comment (drop i text) d 0) ≡ at_from (i + 2) (comment (drop (i + 2) text) (d - 1) 0))
turn-close text i zero lt n p = absurd (omega arith)
turn-close text i (suc d) lt n p =
    let w = pair-within text i 42 41 (omega arith) p in
    let e = step text i (suc d) d 1 (omega arith) (close-list (drop i text) d n p) in
    let q : i + 1 + 1 ≡ i + 2 = omega arith in
    let r : d ≡ suc d - 1 = omega arith in
    (w, e ∙ ap (λ v. at_from v (comment (drop v text) d 0)) q ∙ ap (λ v. at_from (i + 2) (comment (drop (i + 2) text) v 0)) r)

pub turn-plain : (text : List ℕ) (i d : ℕ) → 0 < d → i < length text → has_pair 40 42 (drop i text) ≡ false → has_pair 42 41 (drop i text) ≡ false → at_from i (comment (drop i text) d 0) ≡ at_from (i + 1) (comment (drop (i + 1) text) d 0)
turn-plain text i zero lt le n p = absurd (omega arith)
turn-plain text i (suc d) lt le n p =
    let e = step text i (suc d) (suc d) 0 (omega arith) (plain-list (drop i text) d (omega (arith, length-drop i text)) n p) in
    let q : i + 1 + 0 ≡ i + 1 = omega arith in
    e ∙ ap (λ v. at_from v (comment (drop v text) (suc d) 0)) q

pub closed : (bs : List ℕ) (d : ℕ) → d ≡ 0 → comment bs d 0 ≡ Some 0
closed [] zero e = refl
closed (a ∷ bs) zero e = refl
closed bs (suc d) e = absurd (omega arith)

gap-pass : (bs : List ℕ) (p : ℕ) → p ≤ length bs → gap bs p ≡ p + gap (drop p bs) 0
gap-pass bs zero le = omega arith
gap-pass [] (suc p) le = absurd (omega arith)
gap-pass (a ∷ bs) (suc p) le = let ih = gap-pass bs p (omega arith) in omega arith

gap-step : (bs : List ℕ) (n : ℕ) → gap_piece bs ≡ suc n → suc n ≤ length bs → gap bs 0 ≡ suc n + gap (drop (suc n) bs) 0
gap-step [] n e le = cc
gap-step (a ∷ bs) n e le = let ih = gap-pass bs n (omega arith) in rw (gap, e) (omega (arith, ih))

pub next-step : (text : List ℕ) (at n : ℕ) → gap_piece (drop at text) ≡ n → 0 < n → at + n ≤ length text → next text at ≡ next text (at + n)
next-step text at zero e lt le = absurd (omega arith)
next-step text at (suc n) e lt le =
    let g = gap-step (drop at text) n e (omega (arith, length-drop at text)) in
    let h : gap (drop (suc n) (drop at text)) 0 ≡ gap (drop (at + suc n) text) 0 = ap (λ v. gap v 0) (drop-drop (suc n) at text) in
    omega (arith, g, h)
