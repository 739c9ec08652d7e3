-- What is cut from a text are its tokens.
use Rattle.std.proofs.Common.{◌≡◌, ℕ, zero, suc, ◌+◌, ◌-◌, ◌<◌, ◌≤◌, ◌||◌, ◌&&◌, nat_eq, nat_le, not, Bool, true, false, if◌then◌else◌, List, [], ◌∷◌, length, take, drop, get_or, slice_range, Option, Some, None, option_map, refl, sym, ap, subst, ◌∙◌, arith}
use Rattle.std.specs.List.{list_all, prefix_len}
use Rattle.std.proofs.lemmas.Bool.{eqb-true}
use Rattle.std.proofs.lemmas.Bool.Decides.{nat_tests}
use Rattle.std.proofs.lemmas.List.{drop-drop, length-drop}
use Rattle.tokens_why.specs.declared.longest.Lead.{Lead}
use Rattle.tokens_why.specs.declared.longest.Lead.TheVariants.{Letter, Quote, Digit, Sign, Mark}
use Rattle.tokens_why.specs.declared.token.Token.{Token}
use Rattle.tokens_why.specs.declared.token.TokenKind.{TokenKind}
use Rattle.tokens_why.specs.declared.token.TokenKind.TheVariants.{TyVar, Int, StarName}
use Rattle.tokens_why.specs.Bytes.{is_lower, is_word_byte, is_operator_byte}
use Rattle.tokens_why.specs.Gap.{byte_in, has_pair, has_star_name, opens_comment, opens_attribute, gap, next}
use Rattle.tokens_why.specs.Literal.{is_digit_or_line, literal_value, greatest}
use Rattle.tokens_why.specs.Longest.{IsLongestToken, based_radix}
use Rattle.tokens_why.specs.Strings.{kind_of, word_kind, run_kind, mark_kind, lead_of}
use Rattle.tokens_why.specs.Tokens.{IsToken, LiteralFits, whole, Reads, AreTokens}
use Rattle.tokens_why.proofs.LongestLemmas.{span-at, class-span}
use Rattle.tokens_why.proofs.TokenLemmas.{by-lead, variable-at, decimal-at, star-at, mark-at}
use Rattle.parser.proofs.std_theories.Cut.{Front, front_by, front, is_int, fits, token, then_cut, cut_front, cut, tokens_of}
use Rattle.plain_laws.proofs.Bools.{and_both as both, negated}

-- ---- the token in front
abbrev Is : List ℕ → Front → Type 0
Is bs f = IsLongestToken bs f.0 f.1

found : (bs : List ℕ) (x f : Front) → Some x ≡ Some f → Is bs x → Is bs f
found bs x f e h = let same : x ≡ f = cc in subst (Is bs) same h

at_zero : (bs : List ℕ) (n : ℕ) (k : TokenKind) → IsLongestToken (drop 0 bs) (n - 0) k → IsLongestToken bs n k
at_zero bs n k h = let e : n - 0 ≡ n = omega arith in subst (λ m. IsLongestToken bs m k) e h

sliced : {A : Type 0} (bs : List ℕ) (n : ℕ) (k : List ℕ → A) → k (take n bs) ≡ k (slice_range bs 0 n)
sliced bs n k = let e : n ≡ n - 0 = omega arith in ap (λ m. k (take m bs)) e

module _ (bs : List ℕ) (some : 0 < length bs) where
  letter_front : lead_of (byte_in bs 0) ≡ Letter → (f : Front) → front_by Letter bs ≡ Some f → Is bs f
  letter_front l f e =
      let n = 1 + prefix_len is_word_byte (drop 1 bs) in
      found bs (n, word_kind (take n bs)) f e
      (at_zero bs n (word_kind (take n bs)) (span-at bs 0 n _ (list_all is_word_byte) word_kind (word_kind (take n bs)) some refl (by-lead (byte_in bs 0) Letter l) (class-span is_word_byte _) (sliced bs n word_kind)))

  sign_front : lead_of (byte_in bs 0) ≡ Sign → (f : Front) → front_by Sign bs ≡ Some f → Is bs f
  sign_front l f e =
      let n = 1 + prefix_len is_operator_byte (drop 1 bs) in
      found bs (n, run_kind (take n bs)) f e
      (at_zero bs n (run_kind (take n bs)) (span-at bs 0 n _ (list_all is_operator_byte) run_kind (run_kind (take n bs)) some refl (by-lead (byte_in bs 0) Sign l) (class-span is_operator_byte _) (sliced bs n run_kind)))

  digit_front : lead_of (byte_in bs 0) ≡ Digit → (f : Front) → front_by Digit bs ≡ Some f → Is bs f
  digit_front l f e = at (nat_eq (based_radix bs) 0) refl e
    where
      at : (b : Bool) → nat_eq (based_radix bs) 0 ≡ b → (if b then Some (1 + prefix_len (is_digit_or_line 10) (drop 1 bs), Int) else None) ≡ Some f → Is bs f
      at true q e =
          let n = 1 + prefix_len (is_digit_or_line 10) (drop 1 bs) in
          found bs (n, Int) f e (at_zero bs n Int (decimal-at bs 0 n (based_radix bs) some l refl (eqb-true (based_radix bs) 0 q) refl))
      at false q e = absurd (cc)

  quote_front : lead_of (byte_in bs 0) ≡ Quote → (f : Front) → front_by Quote bs ≡ Some f → Is bs f
  quote_front l f e = at (is_lower (get_or bs 1 0) && not (nat_eq (get_or bs 1 0) 95)) refl e
    where
      past : (cs : List ℕ) → is_lower (get_or cs 1 0) ≡ true → 1 < length cs
      past [] q = absurd (cc)
      past (a ∷ []) q = absurd (cc)
      past (a ∷ b ∷ cs) q = omega arith

      at : (b : Bool) → (is_lower (get_or bs 1 0) && not (nat_eq (get_or bs 1 0) 95)) ≡ b → (if b then Some (2 + prefix_len is_word_byte (drop 2 bs), TyVar) else None) ≡ Some f → Is bs f
      at true q e =
          let n = 2 + prefix_len is_word_byte (drop 2 bs) in
          let m = both (is_lower (get_or bs 1 0)) (not (nat_eq (get_or bs 1 0) 95)) q in
          let other = negated (nat_eq (get_or bs 1 0) 95) m.1 in
          found bs (n, TyVar) f e (at_zero bs n TyVar (variable-at bs 0 n some l (past bs m.0) m.0 (λ i. let n : ⊥ = grind (arith, nat_tests) in absurd n) refl))
      at false q e = absurd (cc)

  mark_front : lead_of (byte_in bs 0) ≡ Mark → (f : Front) → front_by Mark bs ≡ Some f → Is bs f
  mark_front l f e = star (has_star_name bs) refl e
    where
      one : has_star_name bs ≡ false → has_pair 124 124 bs ≡ false → (o : Option TokenKind) → mark_kind (get_or bs 0 0) ≡ o → option_map (λ k. (1, k)) o ≡ Some f → Is bs f
      one s p None q e = absurd (cc)
      one s p (Some k) q e = found bs (1, k) f e (mark-at bs 0 k some l s p q)

      pair : has_star_name bs ≡ false → (b : Bool) → has_pair 124 124 bs ≡ b → (if b then None else option_map (λ k. (1, k)) (mark_kind (get_or bs 0 0))) ≡ Some f → Is bs f
      pair s true p e = absurd (cc)
      pair s false p e = one s p (mark_kind (get_or bs 0 0)) refl e

      star : (b : Bool) → has_star_name bs ≡ b → (if b then Some (3, StarName) else (if has_pair 124 124 bs then None else option_map (λ k. (1, k)) (mark_kind (get_or bs 0 0)))) ≡ Some f → Is bs f
      star true s e = found bs (3, StarName) f e (star-at bs 0 l s).1
      star false s e = pair s (has_pair 124 124 bs) refl e

  lead_front : (x : Lead) → lead_of (byte_in bs 0) ≡ x → (f : Front) → front_by x bs ≡ Some f → Is bs f
  lead_front Letter l f e = letter_front l f e
  lead_front Quote l f e = quote_front l f e
  lead_front Digit l f e = digit_front l f e
  lead_front Sign l f e = sign_front l f e
  lead_front Mark l f e = mark_front l f e

-- and no comment or attribute is there
record IsFront (bs : List ℕ) (f : Front) : Type 0 where
  opens : (opens_comment bs || opens_attribute bs) ≡ false
  longest : IsLongestToken bs f.0 f.1

is_front : (bs : List ℕ) → 0 < length bs → (f : Front) → front bs ≡ Some f → IsFront bs f
is_front bs some f e = at (opens_comment bs || opens_attribute bs) refl e
  where
    at : (b : Bool) → (opens_comment bs || opens_attribute bs) ≡ b → (if b then None else front_by (lead_of (byte_in bs 0)) bs) ≡ Some f → IsFront bs f
    at true q e = absurd (cc)
    at false q e = record { opens = q; longest = lead_front bs some (lead_of (byte_in bs 0)) refl f e }

-- ---- a token of the text
module _ (text : List ℕ) where
  placed : (at : ℕ) (bs : List ℕ) (f : Front) → drop at text ≡ bs → IsFront bs f → IsToken text (token at f)
  placed at bs f e h =
      let size : (at + f.0) - at ≡ f.0 = omega arith in
      record {
        begins = ap (λ v. opens_comment v || opens_attribute v) e ∙ h.opens;
        some = omega (arith, h.longest.some);
        within = inside;
        kind = ap kind_of (ap (λ v. take ((at + f.0) - at) v) e ∙ ap (λ m. take m bs) size) ∙ h.longest.kind;
        longest = λ end l u. ap kind_of (ap (λ v. take (end - at) v) e) ∙ h.longest.longest (end - at) (omega arith) (omega (arith, l, u, ap length e, length-drop at text));
      }
    where
      inside : at + f.0 ≤ length text
      inside = let l = length-drop at text in let m = h.longest.within in let n = h.longest.some in let k = ap length e in omega (arith, l, m, n, k)

  fits_token : (at : ℕ) (bs : List ℕ) (f : Front) → drop at text ≡ bs → fits f.1 (take f.0 bs) ≡ true → LiteralFits text (token at f)
  fits_token at bs f e h = λ i. low (is_int f.1) (ap is_int i) h
    where
      same : slice_range text at (at + f.0) ≡ take f.0 bs
      same = let size : (at + f.0) - at ≡ f.0 = omega arith in ap (λ v. take ((at + f.0) - at) v) e ∙ ap (λ m. take m bs) size

      small : nat_le (literal_value (take f.0 bs)) greatest ≡ true → literal_value (take f.0 bs) ≤ greatest
      small q = grind (arith, nat_tests)

      low : (b : Bool) → b ≡ true → (if b then nat_le (literal_value (take f.0 bs)) greatest else true) ≡ true → literal_value (slice_range text at (at + f.0)) ≤ greatest
      low true q h = let P : List ℕ → Type 0 = λ w. literal_value w ≤ greatest in subst P (sym same) (small h)
      low false q h = absurd (cc)

  moved : (at n : ℕ) (bs : List ℕ) → drop at text ≡ bs → drop (at + n) text ≡ drop n bs
  moved at n bs e = sym (drop-drop n at text) ∙ ap (drop n) e

  abbrev Rest : Type 0
  Rest = List ℕ → ℕ → Option (List Token)

  -- what is cut of the rest of the text is read
  IsReadBy : Rest → Type 0
  IsReadBy rest = (bs : List ℕ) (at : ℕ) → drop at text ≡ bs → (ts : List Token) → rest bs at ≡ Some ts → Reads text whole at ts

  same_tokens : (at : ℕ) (us ts : List Token) → Some us ≡ Some ts → Reads text whole at us → Reads text whole at ts
  same_tokens at us ts e r = let same : us ≡ ts = cc in subst (Reads text whole at) same r

  read_token : (at start : ℕ) (f : Front) (bs : List ℕ) (o : Option (List Token)) → next text at ≡ start → drop start text ≡ bs → IsFront bs f → fits f.1 (take f.0 bs) ≡ true
      → ((us : List Token) → o ≡ Some us → Reads text whole (start + f.0) us) → (ts : List Token) → option_map (λ us. token start f ∷ us) o ≡ Some ts → Reads text whole at ts
  read_token at start f bs None i d h k more ts e = absurd (cc)
  read_token at start f bs (Some us) i d h k more ts e = same_tokens at (token start f ∷ us) ts e (sym i, placed start bs f d h, fits_token start bs f d k, more us refl)

  read_fitting : (at start : ℕ) (f : Front) (bs : List ℕ) (rest : Rest) → IsReadBy rest → next text at ≡ start → drop start text ≡ bs → IsFront bs f → (b : Bool) → fits f.1 (take f.0 bs) ≡ b
      → (ts : List Token) → (if b then option_map (λ us. token start f ∷ us) (rest (drop f.0 bs) (start + f.0)) else None) ≡ Some ts → Reads text whole at ts
  unfolding IsReadBy
  read_fitting at start f bs rest more i d h true k ts e = read_token at start f bs (rest (drop f.0 bs) (start + f.0)) i d h k (λ us q. more (drop f.0 bs) (start + f.0) (moved start f.0 bs d) us q) ts e
  read_fitting at start f bs rest more i d h false k ts e = absurd (cc)

  read_front : (at start : ℕ) (bs : List ℕ) (rest : Rest) → IsReadBy rest → next text at ≡ start → drop start text ≡ bs → 0 < length bs → (o : Option Front) → front bs ≡ o
      → (ts : List Token) → then_cut rest bs start o ≡ Some ts → Reads text whole at ts
  read_front at start bs rest more i d some None q ts e = absurd (cc)
  read_front at start bs rest more i d some (Some f) q ts e = read_fitting at start f bs rest more i d (is_front bs some f q) (fits f.1 (take f.0 bs)) refl ts e

  read_end : (at start : ℕ) → next text at ≡ start → (b : Bool) → nat_eq start (length text) ≡ b → (ts : List Token) → (if b then Some [] else None) ≡ Some ts → Reads text whole at ts
  read_end at start i true q ts e = same_tokens at [] ts e (i ∙ eqb-true start (length text) q)
  read_end at start i false q ts e = absurd (cc)

  read_from : (at start : ℕ) (bs : List ℕ) (rest : Rest) → IsReadBy rest → next text at ≡ start → drop start text ≡ bs → (ts : List Token) → cut_front (length text) rest bs start ≡ Some ts → Reads text whole at ts
  read_from at start [] rest more i d ts e = read_end at start i (nat_eq start (length text)) refl ts e
  read_from at start (a ∷ bs) rest more i d ts e = read_front at start (a ∷ bs) rest more i d (omega arith) (front (a ∷ bs)) refl ts e

  reads : (n : ℕ) → IsReadBy (cut (length text) n)
  unfolding IsReadBy
  reads zero bs at d ts e = absurd (cc)
  reads (suc n) bs at d ts e = read_from at (at + gap bs 0) (drop (gap bs 0) bs) (cut (length text) n) (reads n) (ap (λ v. at + gap v 0) d) (moved at (gap bs 0) bs d) ts e

pub are_tokens : (text : List ℕ) (ts : List Token) → tokens_of text ≡ Some ts → AreTokens text ts
unfolding IsReadBy
are_tokens text ts e = reads text (suc (length text)) text 0 refl ts e
