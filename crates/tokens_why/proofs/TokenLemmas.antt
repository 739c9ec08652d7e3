-- Type variables, literals and marks at a place of a text.
use Rattle.tokens_why.proofs.Common.{◌≡◌, ℕ, zero, suc, ◌+◌, ◌-◌, ◌<◌, ◌≤◌, Bool, true, false, ◌&&◌, nat_eq, if◌then◌else◌, List, [], ◌∷◌, length, take, drop, get_or, Some, None, refl, sym, ap, ◌∙◌, subst, arith, length-drop, prefix_len, eqb-true, is_letter, is_lower, is_digit, is_operator_byte, is_word_byte, byte_in, has_star_name, has_pair, is_digit_of, is_digit_or_line, radix_of, is_literal, IsLongestToken, HasNone, based_radix, kind_of, string_kind_by, lead_of, is_variable_name, marks_kind, mark_kind, TokenKind}
use Rattle.tokens_why.specs.declared.longest.Lead.{Lead}
use Rattle.tokens_why.specs.declared.longest.Lead.TheVariants.{Letter, Quote, Digit, Sign, Mark}
use Rattle.tokens_why.specs.declared.token.TokenKind.TheVariants.{TyVar, Int, StarName, OrOr}
use Rattle.tokens_why.proofs.GapLemmas.{byte-drop, within, and-left, and-right}
use Rattle.tokens_why.proofs.Lists.{get_or-default}
use Rattle.tokens_why.proofs.LongestLemmas.{IsSpan, span-at, none-at, head-at, moved, name-empty, name-span, based-span, decimal-span, marks-longer}

pub by-lead : (a : ℕ) (l : Lead) → lead_of a ≡ l → (cs : List ℕ) → kind_of (a ∷ cs) ≡ string_kind_by l a cs
by-lead a l e cs = ap (λ v. string_kind_by v a cs) e

-- type variables
pub no-name : (text : List ℕ) (start : ℕ) → start < length text → lead_of (byte_in text start) ≡ Quote → length text ≤ start + 1 → HasNone (drop start text)
no-name text start lt lead le =
    none-at text start is_variable_name (λ _. TyVar) lt (by-lead (byte_in text start) Quote lead) (λ m _. name-empty _ m (omega (arith, length-drop (start + 1) text)))

second : (text : List ℕ) (start : ℕ) → start + 1 < length text → drop (start + 1) text ≡ get_or text (start + 1) 0 ∷ drop (start + 2) text
second text start lt =
    let p : start + 1 + 1 ≡ start + 2 = omega arith in
    head-at text (start + 1) lt
    ∙ ap (λ v. v ∷ drop (start + 1 + 1) text) (get_or-default text (start + 1) 256 0 lt)
    ∙ ap (λ v. get_or text (start + 1) 0 ∷ drop v text) p

pub no-variable : (text : List ℕ) (start : ℕ) → start < length text → lead_of (byte_in text start) ≡ Quote → start + 1 < length text → ((m : ℕ) → m ≤ length (get_or text (start + 1) 0 ∷ drop (start + 2) text) → is_variable_name (take m (get_or text (start + 1) 0 ∷ drop (start + 2) text)) ≡ false) → HasNone (drop start text)
no-variable text start lt lead le h =
    none-at text start is_variable_name (λ _. TyVar) lt (by-lead (byte_in text start) Quote lead)
    (subst (λ (v : List ℕ). (m : ℕ) → m ≤ length v → is_variable_name (take m v) ≡ false) (sym (second text start le)) h)

pub variable-at : (text : List ℕ) (start end : ℕ) → start < length text → lead_of (byte_in text start) ≡ Quote → start + 1 < length text → is_lower (get_or text (start + 1) 0) ≡ true → (get_or text (start + 1) 0 ≡ 95 → start + 2 < end) → end ≡ start + 2 + prefix_len is_word_byte (drop (start + 2) text) → IsLongestToken (drop start text) (end - start) TyVar
variable-at text start end lt lead le low more e =
    let n = prefix_len is_word_byte (drop (start + 2) text) in
    let named : IsSpan is_variable_name (get_or text (start + 1) 0 ∷ drop (start + 2) text) (suc n) = name-span (get_or text (start + 1) 0) (drop (start + 2) text) low (λ h. let m = more h in omega arith) in
    span-at text start end (suc n) is_variable_name (λ _. TyVar) TyVar lt (omega arith) (by-lead (byte_in text start) Quote lead)
    (subst (λ v. IsSpan is_variable_name v (suc n)) (sym (second text start le)) named) refl

-- literals
digit-from : (l q d o : Bool) → (if l then Letter else (if q then Quote else (if d then Digit else (if o then Sign else Mark)))) ≡ Digit → d ≡ true
digit-from true q d o e = cc
digit-from false true d o e = cc
digit-from false false true o e = refl
digit-from false false false true e = cc
digit-from false false false false e = cc

pub decimal-at : (text : List ℕ) (start end radix : ℕ) → start < length text → lead_of (byte_in text start) ≡ Digit → radix ≡ based_radix (drop start text) → radix ≡ 0 → end ≡ start + 1 + prefix_len (is_digit_or_line 10) (drop (start + 1) text) → IsLongestToken (drop start text) (end - start) Int
decimal-at text start end radix lt lead is none e =
    let a = byte_in text start in
    let digit : is_digit a ≡ true = digit-from (is_letter a) (nat_eq a 39) (is_digit a) (is_operator_byte a) lead in
    let plain : based_radix (a ∷ drop (start + 1) text) ≡ 0 = ap based_radix (sym (head-at text start lt)) ∙ sym is ∙ none in
    span-at text start end _ (λ cs. is_literal (a ∷ cs)) (λ _. Int) Int lt e (by-lead a Digit lead) (decimal-span a (drop (start + 1) text) digit plain) refl

pub record IsBased (bs : List ℕ) : Type 0 where
  pub zero_is : nat_eq (byte_in bs 0) 48 ≡ true
  pub digit : is_digit_of (radix_of (byte_in bs 1)) (byte_in bs 2) ≡ true
  pub radix : based_radix bs ≡ radix_of (byte_in bs 1)

based-from : (b c : Bool) (r : ℕ) → 0 < (if b && c then r else 0) → (b ≡ true) × (c ≡ true) × ((if b && c then r else 0) ≡ r)
based-from true true r lt = (refl, refl, refl)
based-from true false r lt = absurd (omega arith)
based-from false c r lt = absurd (omega arith)

based-is : (bs : List ℕ) → 0 < based_radix bs → IsBased bs
based-is bs lt = let f = based-from (nat_eq (byte_in bs 0) 48) (is_digit_of (radix_of (byte_in bs 1)) (byte_in bs 2)) (radix_of (byte_in bs 1)) lt in record { zero_is = f.0; digit = f.1; radix = f.2 }

third : (text : List ℕ) (start : ℕ) → start + 3 ≤ length text → drop (start + 1) text ≡ byte_in text (start + 1) ∷ byte_in text (start + 2) ∷ drop (start + 3) text
third text start le =
    let p : start + 1 + 1 ≡ start + 2 = omega arith in
    let q : start + 2 + 1 ≡ start + 3 = omega arith in
    head-at text (start + 1) (omega arith)
    ∙ ap (λ v. byte_in text (start + 1) ∷ drop v text) p
    ∙ ap (λ v. byte_in text (start + 1) ∷ v) (head-at text (start + 2) (omega arith))
    ∙ ap (λ v. byte_in text (start + 1) ∷ byte_in text (start + 2) ∷ drop v text) q

pub based-at : (text : List ℕ) (start end radix : ℕ) → start < length text → lead_of (byte_in text start) ≡ Digit → radix ≡ based_radix (drop start text) → 0 < radix → start + 3 ≤ length text → end ≡ start + 3 + prefix_len (is_digit_or_line radix) (drop (start + 3) text) → IsLongestToken (drop start text) (end - start) Int
based-at text start end radix lt lead is some le e =
    let a = byte_in text start in
    let x = byte_in text (start + 1) in
    let d = byte_in text (start + 2) in
    let ds = drop (start + 3) text in
    let b = based-is (drop start text) (subst (λ v. 0 < v) is some) in
    let zero_at : start + 0 ≡ start = omega arith in
    let zero_is : nat_eq a 48 ≡ true = ap (λ v. nat_eq v 48) (sym (byte-drop text start 0 ∙ ap (byte_in text) zero_at)) ∙ b.zero_is in
    let r : radix ≡ radix_of x = is ∙ b.radix ∙ ap radix_of (byte-drop text start 1) in
    let digit : is_digit_of (radix_of x) d ≡ true = ap (λ v. is_digit_of (radix_of v) d) (sym (byte-drop text start 1)) ∙ ap (is_digit_of (radix_of (byte_in (drop start text) 1))) (sym (byte-drop text start 2)) ∙ b.digit in
    let n = prefix_len (is_digit_or_line (radix_of x)) ds in
    let e' : end ≡ start + 3 + n = e ∙ ap (λ v. start + 3 + prefix_len (is_digit_or_line v) ds) r in
    let spans : IsSpan (λ cs. is_literal (a ∷ cs)) (x ∷ d ∷ ds) (suc (suc n)) = based-span a x d ds zero_is (λ h. let z : radix ≡ 0 = r ∙ h in let n : ⊥ = omega arith in n) digit in
    span-at text start end (suc (suc n)) (λ cs. is_literal (a ∷ cs)) (λ _. Int) Int lt (omega arith) (by-lead a Digit lead)
    (subst (λ v. IsSpan (λ cs. is_literal (a ∷ cs)) v (suc (suc n))) (sym (third text start le)) spans) refl

-- marks
star-longest : (a b c : ℕ) (bs : List ℕ) → lead_of a ≡ Mark → has_star_name (a ∷ b ∷ c ∷ bs) ≡ true → IsLongestToken (a ∷ b ∷ c ∷ bs) 3 StarName
star-longest a b c bs lead s = record {
  some = omega arith;
  within = omega arith;
  kind = by-lead a Mark lead (b ∷ c ∷ []) ∙ rw s refl;
  longest = longest;
}
  where
    longest : (m : ℕ) → 3 < m → m ≤ length (a ∷ b ∷ c ∷ bs) → kind_of (take m (a ∷ b ∷ c ∷ bs)) ≡ None
    longest zero lt le = absurd (omega arith)
    longest (suc zero) lt le = absurd (omega arith)
    longest (suc (suc zero)) lt le = absurd (omega arith)
    longest (suc (suc (suc zero))) lt le = absurd (omega arith)
    longest (suc (suc (suc (suc m)))) lt le = by-lead a Mark lead (b ∷ c ∷ take (suc m) bs) ∙ past bs m (omega arith)
      where
        past : (bs : List ℕ) (m : ℕ) → suc m ≤ length bs → marks_kind (a ∷ b ∷ c ∷ take (suc m) bs) ≡ None
        past [] m le = absurd (omega arith)
        past (d ∷ bs) m le = refl

star-shape : (bs : List ℕ) → 2 < length bs → lead_of (byte_in bs 0) ≡ Mark → has_star_name bs ≡ true → IsLongestToken bs 3 StarName
star-shape [] lt lead s = absurd (omega arith)
star-shape (a ∷ []) lt lead s = absurd (omega arith)
star-shape (a ∷ b ∷ []) lt lead s = absurd (omega arith)
star-shape (a ∷ b ∷ c ∷ bs) lt lead s = star-longest a b c bs lead s

bars-longest : (a b : ℕ) (bs : List ℕ) → lead_of a ≡ Mark → has_pair 124 124 (a ∷ b ∷ bs) ≡ true → IsLongestToken (a ∷ b ∷ bs) 2 OrOr
bars-longest a b bs lead s = record {
  some = omega arith;
  within = omega arith;
  kind = by-lead a Mark lead (b ∷ []) ∙ rw s refl;
  longest = longest;
}
  where
    bar : a ≡ 124
    bar = eqb-true a 124 (and-left (nat_eq a 124) (nat_eq b 124) s)

    past : (bs : List ℕ) (m : ℕ) → suc m ≤ length bs → marks_kind (a ∷ b ∷ take (suc m) bs) ≡ None
    past [] m le = absurd (omega arith)
    past (c ∷ bs) zero le = ap (λ v. marks_kind (v ∷ b ∷ c ∷ [])) bar
    past (c ∷ []) (suc m) le = absurd (omega arith)
    past (c ∷ d ∷ bs) (suc m) le = refl

    longest : (m : ℕ) → 2 < m → m ≤ length (a ∷ b ∷ bs) → kind_of (take m (a ∷ b ∷ bs)) ≡ None
    longest zero lt le = absurd (omega arith)
    longest (suc zero) lt le = absurd (omega arith)
    longest (suc (suc zero)) lt le = absurd (omega arith)
    longest (suc (suc (suc m))) lt le = by-lead a Mark lead (b ∷ take (suc m) bs) ∙ past bs m (omega arith)

bars-shape : (bs : List ℕ) → 1 < length bs → lead_of (byte_in bs 0) ≡ Mark → has_pair 124 124 bs ≡ true → IsLongestToken bs 2 OrOr
bars-shape [] lt lead s = absurd (omega arith)
bars-shape (a ∷ []) lt lead s = absurd (omega arith)
bars-shape (a ∷ b ∷ bs) lt lead s = bars-longest a b bs lead s

lead-at : (text : List ℕ) (start : ℕ) → lead_of (byte_in text start) ≡ Mark → lead_of (byte_in (drop start text) 0) ≡ Mark
lead-at text start lead = let z : start + 0 ≡ start = omega arith in ap lead_of (byte-drop text start 0 ∙ ap (byte_in text) z) ∙ lead

pub star-at : (text : List ℕ) (start : ℕ) → lead_of (byte_in text start) ≡ Mark → has_star_name (drop start text) ≡ true → (start + 3 ≤ length text) × IsLongestToken (drop start text) (start + 3 - start) StarName
star-at text start lead s =
    let w = within (drop start text) 2 41 (omega arith) (and-right (has_pair 40 42 (drop start text)) _ s) in
    let size : 3 ≡ start + 3 - start = omega arith in
    (omega (arith, length-drop start text), subst (λ n. IsLongestToken (drop start text) n StarName) size (star-shape (drop start text) w (lead-at text start lead) s))

pub bars-at : (text : List ℕ) (start : ℕ) → lead_of (byte_in text start) ≡ Mark → has_pair 124 124 (drop start text) ≡ true → (start + 2 ≤ length text) × IsLongestToken (drop start text) (start + 2 - start) OrOr
bars-at text start lead s =
    let w = within (drop start text) 1 124 (omega arith) (and-right (nat_eq (byte_in (drop start text) 0) 124) _ s) in
    let size : 2 ≡ start + 2 - start = omega arith in
    (omega (arith, length-drop start text), subst (λ n. IsLongestToken (drop start text) n OrOr) size (bars-shape (drop start text) w (lead-at text start lead) s))

mark-longest : (a : ℕ) (bs : List ℕ) (k : TokenKind) → lead_of a ≡ Mark → has_star_name (a ∷ bs) ≡ false → has_pair 124 124 (a ∷ bs) ≡ false → mark_kind a ≡ Some k → IsLongestToken (a ∷ bs) 1 k
mark-longest a bs k lead s p e = record {
  some = omega arith;
  within = omega arith;
  kind = by-lead a Mark lead [] ∙ e;
  longest = longest;
}
  where
    longest : (m : ℕ) → 1 < m → m ≤ length (a ∷ bs) → kind_of (take m (a ∷ bs)) ≡ None
    longest zero lt le = absurd (omega arith)
    longest (suc m) lt le = by-lead a Mark lead (take m bs) ∙ marks-longer a bs (suc m) s p lt le

mark-none : (a : ℕ) (bs : List ℕ) → lead_of a ≡ Mark → has_star_name (a ∷ bs) ≡ false → has_pair 124 124 (a ∷ bs) ≡ false → mark_kind a ≡ None → HasNone (a ∷ bs)
mark-none a bs lead s p e zero le = refl
mark-none a bs lead s p e (suc zero) le = by-lead a Mark lead [] ∙ e
mark-none a bs lead s p e (suc (suc m)) le = by-lead a Mark lead (take (suc m) bs) ∙ marks-longer a bs (suc (suc m)) s p (omega arith) le

pub mark-at : (text : List ℕ) (start : ℕ) (k : TokenKind) → start < length text → lead_of (byte_in text start) ≡ Mark → has_star_name (drop start text) ≡ false → has_pair 124 124 (drop start text) ≡ false → mark_kind (get_or text start 0) ≡ Some k → IsLongestToken (drop start text) (start + 1 - start) k
mark-at text start k lt lead s p e =
    let h = head-at text start lt in
    let size : 1 ≡ start + 1 - start = omega arith in
    moved _ _ _ _ _ _ (sym h) size refl (mark-longest (byte_in text start) (drop (start + 1) text) k lead (ap has_star_name (sym h) ∙ s) (ap (has_pair 124 124) (sym h) ∙ p) (ap mark_kind (get_or-default text start 256 0 lt) ∙ e))

pub no-mark : (text : List ℕ) (start : ℕ) → start < length text → lead_of (byte_in text start) ≡ Mark → has_star_name (drop start text) ≡ false → has_pair 124 124 (drop start text) ≡ false → mark_kind (get_or text start 0) ≡ None → HasNone (drop start text)
no-mark text start lt lead s p e =
    let h = head-at text start lt in
    subst HasNone (sym h) (mark-none (byte_in text start) (drop (start + 1) text) lead (ap has_star_name (sym h) ∙ s) (ap (has_pair 124 124) (sym h) ∙ p) (ap mark_kind (get_or-default text start 256 0 lt) ∙ e))
