-- The texts of tokens, and the names that they make.
use Rattle.parser.proofs.parse_terms.Common.{◌≡◌, ℕ, ◌<◌, ◌≤◌, Bool, true, false, not, ◌&&◌, cond, nat_eq, zero, suc, get_or, List, [], ◌∷◌, ◌++◌, ◌+◌, length, None, Some, slice_get, refl, sym, ap, ◌∙◌, get_or-map, length-map, Terminal, Token, greatest, literal_value, text_of, same, same_true, Name, Lexeme, Word, lexeme, name, said, called, infix_op, lower, prefix_op, upper, op, op_by, own_of, plain_own, Source, CanRead, beyond, nowhere, terminal_at, token_at, IsUpperName, IsTextAt, lexemes}
use Rattle.std.proofs.lemmas.Option.{get_or_from_slice_get}
use Rattle.tokens_why.specs.declared.terminal.Terminal.TheVariants as t
use Rattle.tokens_why.specs.declared.token.TokenKind.{TokenKind}
use Rattle.tokens_why.specs.declared.token.TokenKind.TheVariants as tk
use Rattle.tokens_why.specs.Terminals.{string_terminal, terminal_if, terminal_of, level_terminal}
use Rattle.tokens_why.specs.Reserved.{reserved_terminals}
use Rattle.surface.specs.declared.names.Style.TheVariants as style
use Rattle.grammar.specs.declared.symbols.Symbol.TheVariants as s
use Rattle.parser.proofs.parse_terms.NamesRead.{UpperScopes, upper_scopes_done, upper_scopes_more, upper_scopes_start, upper_scopes_within, upper_there, upper_words}

-- the lexeme of a token
pub lexeme_at : (z : Source) (i : ℕ) (k : Token) → i < length z.tokens.now → slice_get z.tokens.now i ≡ Some k → token_at (lexemes z) i ≡ lexeme z.text.now k
lexeme_at z i k h e = get_or-map (lexeme z.text.now) z.tokens.now i k nowhere h ∙ ap (lexeme z.text.now) (get_or_from_slice_get z.tokens.now i k k e)

pub inside : (z : Source) (i : ℕ) → i < length (lexemes z) → i < length z.tokens.now
inside z i h = rw (length-map z.tokens.now (lexeme z.text.now)) at h

pub upto : (z : Source) (i : ℕ) → i ≤ length (lexemes z) → i ≤ length z.tokens.now
upto z i h = rw (length-map z.tokens.now (lexeme z.text.now)) at h

pub text_there : (z : Source) (i : ℕ) (k : Token) (w : Word) → i < length z.tokens.now → slice_get z.tokens.now i ≡ Some k → w ≡ text_of z.text.now k → IsTextAt (lexemes z) i w
text_there z i k w h e g = let l = lexeme_at z i k h e in let x = z.texts i k e in record {
  terminal = ap string_terminal g ∙ ap terminal_if x.kind ∙ ap (λ v. v.terminal) (sym l);
  says = ap (λ v. said v.terminal w) l ∙ ap (said (terminal_of k.kind)) g ∙ ap (λ v. v.text) (sym l);
}

abbrev none_int : List Terminal → Bool
none_int [] = true
none_int (x ∷ xs) = not (same t.Int x) && none_int xs

word_other : (xs : List Terminal) (i : ℕ) → none_int xs ≡ true → get_or xs i t.OtherWord ≡ t.Int → ⊥
word_other [] i h e = cc
word_other (x ∷ xs) zero h e = by_first (same t.Int x) refl h
  where
    by_first : (b : Bool) → same t.Int x ≡ b → (not b && none_int xs) ≡ true → ⊥
    by_first true q h = cc
    by_first false q h = let f : false ≡ true = sym q ∙ ap (same t.Int) e in cc
word_other (x ∷ xs) (suc i) h e = word_other xs i (following (not (same t.Int x)) h) e
  where
    following : (b : Bool) → (b && none_int xs) ≡ true → none_int xs ≡ true
    following true h = h
    following false h = cc

level_other : (l : ℕ) → level_terminal l ≡ t.Int → ⊥
level_other l e = by_test (nat_eq l 1) (nat_eq l 2) (nat_eq l 3) e
  where
    by_test : (a b d : Bool) → cond a t.Operator1 (cond b t.Operator2 (cond d t.Operator3 t.Operator4)) ≡ t.Int → ⊥
    by_test true b d e = cc
    by_test false true d e = cc
    by_test false false true e = cc
    by_test false false false e = cc

int_kind : (k : TokenKind) → terminal_of k ≡ t.Int → k ≡ tk.Int
int_kind tk.Int e = refl
int_kind (tk.Operator l true) e = cc
int_kind (tk.Operator l false) e = absurd (level_other l e)
int_kind (tk.Reserved i) e = absurd (word_other reserved_terminals i refl e)
int_kind _ e = cc

pub value_there : (z : Source) (i : ℕ) (k : Token) → i < length z.tokens.now → slice_get z.tokens.now i ≡ Some k → same t.Int (terminal_at (lexemes z) i) ≡ true → (literal_value (text_of z.text.now k) ≤ greatest) × ((literal_value (text_of z.text.now k) ∷ []) ≡ (token_at (lexemes z) i).text)
value_there z i k h e n = let l = lexeme_at z i k h e in let x : terminal_of k.kind ≡ t.Int = ap (λ v. v.terminal) (sym l) ∙ sym (same_true t.Int (terminal_at (lexemes z) i) n) in
    ((z.texts i k e).fits (int_kind k.kind x), sym (ap (λ y. said y (text_of z.text.now k)) x) ∙ ap (λ v. v.text) (sym l))

-- what a text that is at a token names
module _ {xs : List Lexeme} {i : ℕ} {w : Word} (h : IsTextAt xs i w) where
  at_terminal : (x : Terminal) → same x (terminal_at xs i) ≡ true → string_terminal w ≡ x
  at_terminal x e = h.terminal ∙ sym (same_true x (terminal_at xs i) e)

  says_of : (x : Terminal) → same x (terminal_at xs i) ≡ true → said x w ≡ (token_at xs i).text
  says_of x e = ap (λ y. said y w) (same_true x (terminal_at xs i) e) ∙ h.says

  pub lower_own : same t.Lident (terminal_at xs i) ≡ true → own_of style.Plain w ≡ lower (token_at xs i).text
  lower_own e = ap (λ x. plain_own x w) (at_terminal t.Lident e) ∙ ap lower (says_of t.Lident e)

  pub lower_word : same t.Lident (terminal_at xs i) ≡ true → own_of style.Plain w ≡ lower w
  lower_word e = ap (λ x. plain_own x w) (at_terminal t.Lident e)

  pub upper_own : same t.Uident (terminal_at xs i) ≡ true → own_of style.Plain w ≡ upper (token_at xs i).text
  upper_own e = ap (λ x. plain_own x w) (at_terminal t.Uident e) ∙ ap upper (says_of t.Uident e)

  pub upper_word : same t.Uident (terminal_at xs i) ≡ true → own_of style.Plain w ≡ upper w
  upper_word e = ap (λ x. plain_own x w) (at_terminal t.Uident e)

  pub lower_text : same t.Lident (terminal_at xs i) ≡ true → w ≡ (token_at xs i).text
  lower_text e = says_of t.Lident e

  pub upper_text : same t.Uident (terminal_at xs i) ≡ true → w ≡ (token_at xs i).text
  upper_text e = says_of t.Uident e

  pub variable_text : same t.TyVar (terminal_at xs i) ≡ true → w ≡ (token_at xs i).text
  variable_text e = says_of t.TyVar e

  pub infix_own : own_of style.Infix w ≡ infix_op (terminal_at xs i) (token_at xs i).text
  infix_own = ap (λ x. infix_op x (said x w)) h.terminal ∙ ap (infix_op (terminal_at xs i)) h.says

  pub prefix_own : own_of style.Prefix w ≡ prefix_op (terminal_at xs i) (token_at xs i).text
  prefix_own = ap (λ x. prefix_op x (said x w)) h.terminal ∙ ap (prefix_op (terminal_at xs i)) h.says

  pub operator_there : op_by style.Plain i w ≡ op i (terminal_at xs i) (token_at xs i).text
  operator_there = ap (λ x. op i x (said x w)) h.terminal ∙ ap (op i (terminal_at xs i)) h.says

-- The words that were read of a constructor's name, the last one apart.
pub record UpperWords (xs : List Lexeme) (i : ℕ) (qs : List Word) (last : Word) (j : ℕ) : Type 0 where
  pub words : List Word
  pub spelled : qs ++ last ∷ [] ≡ (token_at xs i).text ∷ words
  pub own : own_of style.Plain last ≡ upper last
  pub is : UpperScopes xs (i + 1) words j

pub upper_words_start : (xs : List Lexeme) (i : ℕ) (w : Word) → same t.Uident (terminal_at xs i) ≡ true → IsTextAt xs i w → CanRead xs s.Quids (i + 1) → UpperWords xs i [] w (i + 1)
upper_words_start xs i w e h c = record { words = []; spelled = ap (λ v. v ∷ []) (upper_text h e); own = upper_word h e; is = upper_scopes_start c }

pub upper_words_within : (xs : List Lexeme) (i : ℕ) (qs : List Word) (last : Word) (j : ℕ) → UpperWords xs i qs last j → same t.Dot (terminal_at xs j) ≡ true → j + 1 < length xs
upper_words_within xs i qs last j g e = upper_scopes_within xs (i + 1) g.words j g.is e

pub upper_words_more : (xs : List Lexeme) (i : ℕ) (qs : List Word) (last : Word) (j : ℕ) (w : Word) → UpperWords xs i qs last j → same t.Dot (terminal_at xs j) ≡ true → IsTextAt xs (j + 1) w → UpperWords xs i (qs ++ last ∷ []) w (j + 1 + 1)
upper_words_more xs i qs last j w g e h = let u = upper_there xs (i + 1) g.words j g.is e in record {
  words = g.words ++ (token_at xs (j + 1)).text ∷ [];
  spelled = ap (λ vs. vs ++ w ∷ []) g.spelled ∙ ap (λ v. (token_at xs i).text ∷ (g.words ++ v ∷ [])) (upper_text h u);
  own = upper_word h u;
  is = upper_scopes_more xs (i + 1) g.words j g.is e;
}

pub upper_words_done : (xs : List Lexeme) (i : ℕ) (qs : List Word) (last : Word) (j : ℕ) → UpperWords xs i qs last j → same t.Dot (terminal_at xs j) ≡ false → IsUpperName xs i (called i qs (own_of style.Plain last)) j
upper_words_done xs i qs last j g e = let p = upper_words qs last (token_at xs i).text g.words g.spelled in record {
  following = beyond g.words None;
  named = ap (λ d. called i d.scopes (upper d.last)) p ∙ ap (called i qs) (sym g.own);
  is = upper_scopes_done xs (i + 1) g.words j g.is e;
}

-- a name that was made of a token
pub named_there : (xs : List Lexeme) (i : ℕ) (n : Name) → n.at ≡ i → IsTextAt xs i n.text → same t.Lident (terminal_at xs i) ≡ true → n ≡ name i (token_at xs i).text
named_there xs i n p h e = ap (λ j. name j n.text) p ∙ ap (name i) (lower_text h e)
