-- What the table's machine decides, said of trees.
use Rattle.grammar.proofs.recognise.Common.{zero, suc, ◌≡◌, ℕ, ◌+◌, ◌≤◌, ◌<◌, Bool, true, false, List, [], ◌∷◌, ◌++◌, Some, None, length, map, take, drop, get_or, slice_get, refl, sym, ap, ◌∙◌, subst, arith, Terminal, Token, kind_by, terminal_of, accepts, Lexeme, mark, rest, terminals, IsLevel, IsPlacedTree, write, write_file, IsLevelFile, PlacedFile, Begins, IsOf, Whole, whole_expr, whole_file, tree_accepted, read_accepted, only_read, least_fault, may_stand, may_not_stand, longest_read, none_read, proper_by, proper_rest, terminals_append, value_or, IsShallow, IsTooDeep, terminals_of}
use Rattle.std.proofs.lemmas.List.{length-map}
use Rattle.tokens_why.specs.declared.terminal.Terminal.TheVariants as t
use Rattle.tokens_why.specs.declared.token.TokenKind.{TokenKind}
use Rattle.tokens_why.proofs.KindLemmas.{terminal_of-kind_by}
use Rattle.grammar.specs.declared.symbols.Symbol.{Symbol}
use Rattle.grammar.specs.declared.symbols.Symbol.TheVariants as s
use Rattle.grammar.specs.Ends as ends
use Rattle.grammar.specs.reading.Row.{Val}
use Rattle.grammar.specs.reading.Values.{read}
use Rattle.grammar.proofs.reading.Good.{AllProper}
use Rattle.grammar.proofs.reading.Samples.{fits, is_token, string}
use Rattle.grammar.specs.declared.recognise.fault.SyntaxFault.TheVariants as f
use Rattle.grammar.specs.recognise.Expressions.{EndsAt, IsFaultAt}
use Rattle.grammar.specs.recognise.Sources.{begins_program, IsProgramDecl, IsSyntaxRefusal, IsSource}
use Rattle.grammar.specs.recognise.Completions.{AreStrings, CompletesWith, spelled_lexemes}
use Rattle.grammar.proofs.recognise.SpanLemmas.{rest_terminals}

-- Two right trees of the same tokens, with their places, are one.
pub one : (a : Symbol) (i : ℕ) (is placed : Val a → Type 0) (write : Val a → List Lexeme) (w : Whole a i is placed write) (xs : List Lexeme) (t u : Val a) → IsOf is write xs t → placed t → IsOf is write xs u → placed u → t ≡ u
one a i is placed write w xs t u p q g h = ap (value_or a t) (sym (w.reads t p.right q) ∙ ap (λ ys. read ys i false (a ∷ [])) (p.tokens ∙ sym g.tokens) ∙ w.reads u g.right h)

-- No tokens are no expression, so one ends among them.
within_tokens : (from : ℕ) (ts : List Token) (n : ℕ) → ends.IsLongest (s.Expr 0 ∷ []) (terminals_of (drop from ts)) (length (terminals_of (drop from ts))) (Some n) → from + n ≤ length ts
within_tokens zero ts n h = let l : length (terminals_of ts) ≡ length ts = length-map ts (λ k. terminal_of k.kind) in omega (arith, h.0, l)
within_tokens (suc i) [] n h =
    let none : n ≡ 0 = omega (arith, h.0) in
    let clash : false ≡ true = subst (λ m. accepts (s.Expr 0 ∷ []) (take m []) ≡ true) none h.1 in
    cc
within_tokens (suc i) (k ∷ ts) n h = let l = within_tokens i ts n h in omega (arith, l)

module _ (text : List ℕ) (ts : List Token) (from : ℕ) where
  abbrev tokens : List Lexeme
  tokens = rest text ts from

  abbrev kinds : List Terminal
  kinds = terminals_of (drop from ts)

  pub ends_at : (n : ℕ) → ends.IsLongest (s.Expr 0 ∷ []) kinds (length kinds) (Some n) → EndsAt text ts from (from + n)
  ends_at n h = let r = longest_read (s.Expr 0) from IsLevel (IsPlacedTree from) write (whole_expr from) tokens n (proper_rest text ts from) (subst (λ v. ends.IsLongest (s.Expr 0 ∷ []) v (length v) (Some n)) (sym (rest_terminals text ts from)) h) in
      record { tree = r.0; within = within_tokens from ts n h; longest = record { count = n; end = refl; is = r.2 }; reads = r.1 }

  pub fault_at : (n : ℕ) (b : Bool) → ends.IsLongest (s.Expr 0 ∷ []) kinds (length kinds) None → ends.IsFault (s.Expr 0 ∷ []) kinds t.OtherWord n b → IsFaultAt text ts from (from + n)
  fault_at n b h k = let z = least_fault (s.Expr 0) from IsLevel (IsPlacedTree from) write (whole_expr from) tokens t.OtherWord n b (proper_rest text ts from) (subst (λ v. ends.IsFault (s.Expr 0 ∷ []) v t.OtherWord n b) (sym (rest_terminals text ts from)) k) in
      record {
        count = n;
        place = refl;
        high = z.high;
        none = none_read (s.Expr 0) from IsLevel (IsPlacedTree from) write (whole_expr from) tokens (subst (λ v. ends.IsLongest (s.Expr 0 ∷ []) v (length v) None) (sym (rest_terminals text ts from)) h);
        begins = z.begins;
        stops = z.stops;
      }

-- the token at a place, by its terminal
token_of : (xs : List Lexeme) (i : ℕ) (d : Terminal) → i < length (terminals xs) → (x : Lexeme) × (slice_get xs i ≡ Some x) × (x.terminal ≡ get_or (terminals xs) i d)
token_of [] i d l = absurd (omega (arith, l))
token_of (x ∷ xs) zero d l = (x, refl, refl)
token_of (x ∷ xs) (suc i) d l = token_of xs i d (omega (arith, l))

some_within : (xs : List Lexeme) (i : ℕ) (x : Lexeme) → slice_get xs i ≡ Some x → i < length (terminals xs)
some_within [] i x e = cc
some_within (y ∷ xs) zero x e = omega arith
some_within (y ∷ xs) (suc i) x e = let l = some_within xs i x e in omega (arith, l)

module _ (text : List ℕ) (ts : List Token) (found : List Terminal) (same : terminals_of ts ≡ found) where
  abbrev source : List Lexeme
  source = rest text ts 0

  is_found : terminals source ≡ found
  is_found = rest_terminals text ts 0 ∙ same

  pub is_source : accepts (s.File ∷ []) found ≡ true → IsSource source
  is_source h = let r = read_accepted s.File 0 IsLevelFile (PlacedFile 0) write_file (whole_file 0) source (ap (accepts (s.File ∷ [])) is_found ∙ h) in
      record { file = r.0; only = only_read s.File 0 IsLevelFile (PlacedFile 0) write_file (whole_file 0) source r.0 (proper_rest text ts 0) r.1; reads = r.1 }

  is_shallow : IsShallow found → IsShallow (terminals source)
  is_shallow h = subst IsShallow (sym is_found) h

  pub is_too_deep : (i : ℕ) → IsTooDeep found i → IsTooDeep (terminals source) i
  is_too_deep i h = subst (λ v. IsTooDeep v i) (sym is_found) h

  module _ (i : ℕ) (b : Bool) (shallow : IsShallow found) (h : ends.IsFault (s.File ∷ []) found t.ScopeWord i b) where
    fault : ends.IsFault (s.File ∷ []) (terminals source) t.ScopeWord i b
    fault = subst (λ v. ends.IsFault (s.File ∷ []) v t.ScopeWord i b) (sym is_found) h

    pub refusal_program : b ≡ true → i < length found → begins_program (get_or found i t.Lident) ≡ true → IsSyntaxRefusal source (f.ProgramDecl i)
    refusal_program e l p =
        let k = token_of source i t.Lident (subst (λ v. i < length v) (sym is_found) l) in (
          is_shallow shallow,
          least_fault s.File 0 IsLevelFile (PlacedFile 0) write_file (whole_file 0) source t.ScopeWord i b (proper_rest text ts 0) fault,
          record {
            token = k.0;
            is = k.1;
            program = ap begins_program (k.2 ∙ ap (λ v. get_or v i t.Lident) is_found) ∙ p;
            scope = may_stand s.File 0 IsLevelFile (PlacedFile 0) write_file (whole_file 0) source (mark t.ScopeWord) i b (proper_rest text ts 0) refl fault e;
          },
        )

    pub refusal_syntax : (IsProgramDecl source i → ⊥) → IsSyntaxRefusal source (f.Syntax i)
    refusal_syntax n = (is_shallow shallow, least_fault s.File 0 IsLevelFile (PlacedFile 0) write_file (whole_file 0) source t.ScopeWord i b (proper_rest text ts 0) fault, n)

    pub no_scope : b ≡ false → IsProgramDecl source i → ⊥
    no_scope e p = may_not_stand s.File 0 IsLevelFile (PlacedFile 0) write_file (whole_file 0) source (mark t.ScopeWord) i b fault e p.scope

    pub no_word : i < length found → begins_program (get_or found i t.Lident) ≡ false → IsProgramDecl source i → ⊥
    no_word l e p =
        let k = token_of source i t.Lident (subst (λ v. i < length v) (sym is_found) l) in
        let one : Some p.token ≡ Some k.0 = sym p.is ∙ k.1 in
        let at : begins_program k.0.terminal ≡ false = ap begins_program (k.2 ∙ ap (λ v. get_or v i t.Lident) is_found) ∙ e in
        let here : p.token ≡ k.0 = cc in
        let clash : true ≡ false = sym p.program ∙ ap (λ (v : Lexeme). begins_program v.terminal) here ∙ at in
        cc

    pub beyond : length found ≤ i → IsProgramDecl source i → ⊥
    beyond l p = let within = some_within source i p.token p.is in let n : length (terminals source) ≡ length found = ap length is_found in absurd (omega (arith, within, n, l))

-- what completes tokens, as a text can have it
are_strings : (ys : List Terminal) → AreStrings (map kind_by ys) (map string ys)
are_strings [] = tt
are_strings (y ∷ ys) = (record { is = is_token y; fits = fits y }, are_strings ys)

spelled_terminals : (ys : List Terminal) → terminals (spelled_lexemes (map kind_by ys) (map string ys)) ≡ ys
spelled_terminals [] = refl
spelled_terminals (y ∷ ys) = ap (λ v. v ∷ terminals (spelled_lexemes (map kind_by ys) (map string ys))) (terminal_of-kind_by y) ∙ ap (λ v. y ∷ v) (spelled_terminals ys)

proper_spelled : (xs : List Lexeme) (ys : List Terminal) → AllProper xs → AllProper (xs ++ spelled_lexemes (map kind_by ys) (map string ys))
proper_spelled [] [] h = tt
proper_spelled [] (y ∷ ys) h = (proper_by (terminal_of (kind_by y)) (string y), proper_spelled [] ys tt)
proper_spelled (x ∷ xs) ys h = (h.0, proper_spelled xs ys h.1)

module _ (a : Symbol) (i : ℕ) (is placed : Val a → Type 0) (write : Val a → List Lexeme) (w : Whole a i is placed write) (xs : List Lexeme) (found : List Terminal) (same : terminals xs ≡ found) where
  pub completed : AllProper xs → (ks : List TokenKind) (ys : List Terminal) → accepts (a ∷ []) (found ++ ys) ≡ true → ks ≡ map kind_by ys → CompletesWith is write xs ks
  completed p ks ys h e =
      let more = spelled_lexemes (map kind_by ys) (map string ys) in
      let r = read_accepted a i is placed write w (xs ++ more) (ap (accepts (a ∷ [])) (terminals_append xs more ∙ ap (λ v. v ++ terminals more) same ∙ ap (λ v. found ++ v) (spelled_terminals ys)) ∙ h) in
      subst (CompletesWith is write xs) (sym e) (record { strings = map string ys; are = are_strings ys; tree = r.0; of = (only_read a i is placed write w (xs ++ more) r.0 (proper_spelled xs ys p) r.1).of })

  pub completable : Begins is write xs → (ys : List Terminal) × (accepts (a ∷ []) (found ++ ys) ≡ true)
  completable b = (terminals b.following, ap (λ v. accepts (a ∷ []) (v ++ terminals b.following)) (sym same) ∙ ap (accepts (a ∷ [])) (sym (ap terminals b.of.tokens ∙ terminals_append xs b.following)) ∙ tree_accepted a i is placed write w b.tree b.of.right)
