-- The tokens of a text up to a place, as a source.
use Rattle.parser.proofs.parse_terms.Common.{◌≡◌, ℕ, ◌+◌, zero, suc, false, List, [], ◌∷◌, length, map, take, drop, slice_get, Option, Some, None, refl, sym, ap, ◌∙◌, subst, arith, length-map, length-take, Token, AreTokens, Reads, whole, Lexeme, lexeme, SyntaxTree, read, lexemes_from}
use Rattle.std.specs.List.{take-map}
use Rattle.grammar.specs.declared.symbols.Symbol.TheVariants as s
use Rattle.grammar.specs.recognise.Expressions.{EndsAt, IsLongestTreeAt}
use Rattle.parser.specs.parse_terms.Whole.{IsReadExpression}
use Rattle.parser.specs.parse_terms.Texts.{HasText, HasTexts}

texts_from : (text : List ℕ) (at : ℕ) (ts : List Token) → Reads text whole at ts → HasTexts text ts
texts_from text at [] r i k e = absurd (cc)
texts_from text at (t ∷ ts) r zero k e =
    let same : t ≡ k = cc in
    subst (HasText text) same (record { ordered = (let l = r.1.some in omega (arith, l)); within = r.1.within; kind = r.1.kind; fits = r.2 })
texts_from text at (t ∷ ts) r (suc i) k e = texts_from text t.end ts r.3 i k e

-- the tokens of a text are those of their texts
pub has_texts : (text : List ℕ) (ts : List Token) → AreTokens text ts → HasTexts text ts
has_texts text ts r = texts_from text 0 ts r

taken : (n : ℕ) (ts : List Token) (i : ℕ) (k : Token) → slice_get (take n ts) i ≡ Some k → slice_get ts i ≡ Some k
taken zero ts i k e = absurd (cc)
taken (suc n) [] i k e = e
taken (suc n) (t ∷ ts) zero k e = e
taken (suc n) (t ∷ ts) (suc i) k e = taken n ts i k e

pub front_texts : (text : List ℕ) (ts : List Token) (n : ℕ) → AreTokens text ts → HasTexts text (take n ts)
front_texts text ts n r i k e = has_texts text ts r i k (taken n ts i k e)

-- what comes after a place of the tokens before another
front : (f : Token → Lexeme) (i n : ℕ) (ts : List Token) → drop i (map f (take (i + n) ts)) ≡ take n (map f (drop i ts))
front f zero n ts = let e : zero + n ≡ n = omega arith in ap (λ v. map f (take v ts)) e ∙ sym (take-map f n ts)
front f (suc i) n [] = let e : suc i + n ≡ suc (i + n) = omega arith in ap (λ v. drop (suc i) (map f (take v []))) e ∙ nothing n
  where
    nothing : (n : ℕ) → ◌≡◌ {A = List Lexeme} [] (take n [])
    nothing zero = refl
    nothing (suc n) = refl
front f (suc i) n (t ∷ ts) = let e : suc i + n ≡ suc (i + n) = omega arith in ap (λ v. drop (suc i) (map f (take v (t ∷ ts)))) e ∙ front f i n ts

abbrev value_or : SyntaxTree → Option (SyntaxTree × Unit {0}) → SyntaxTree
value_or e None = e
value_or e (Some v) = v.0

module _ (text : List ℕ) (ts : List Token) (from to : ℕ) (h : EndsAt text ts from to) where
  abbrev pub cut : List Lexeme
  cut = map (lexeme text) (take to ts)

  reads_cut : read (lexemes_from cut from) from false (s.Expr 0 ∷ []) ≡ Some (h.tree, tt)
  reads_cut = ap (λ v. read (lexemes_from (map (lexeme text) (take v ts)) from) from false (s.Expr 0 ∷ [])) h.longest.end ∙ ap (λ v. read v from false (s.Expr 0 ∷ [])) (front (lexeme text) from h.longest.count ts) ∙ h.reads

  pub is_cut : IsReadExpression cut from
  is_cut = record {
    within = (let n : length cut ≡ length (take to ts) = length-map (take to ts) (lexeme text) in let m = length-take to ts in let w = h.within in let e = h.longest.end in omega (arith, n, m, w, e));
    value = (h.tree, tt);
    reads = reads_cut;
  }

  pub longest_cut : (e : SyntaxTree) → read (lexemes_from cut from) from false (s.Expr 0 ∷ []) ≡ Some (e, tt) → IsLongestTreeAt text ts from e to
  longest_cut e x = subst (λ v. IsLongestTreeAt text ts from v to) (ap (value_or e) (sym reads_cut ∙ x)) h.longest
