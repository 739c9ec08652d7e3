-- The tokens of a text that are names of type variables have their quotes.
use Rattle.std.proofs.Common.{◌≡◌, ℕ, ◌&&◌, ◌||◌, nat_eq, zero, suc, Bool, true, false, if◌then◌else◌, codes, List, [], ◌∷◌, drop, get_or, All, Option, Some, None, refl, sym, ap, ◌∙◌}
use Rattle.std.specs.List.{list_any, list_all}
use Rattle.std.proofs.lemmas.Bool.{eqb-true}
use Rattle.std.proofs.lemmas.List.Elements.{All-nil, All-cons, All-map, All-drop}
use Rattle.elab_groups.specs.tokens_why.Common.{is_same_word, place_in_words}
use Rattle.elab_groups.specs.tokens_why.declared.token.Token.{Token}
use Rattle.elab_groups.specs.tokens_why.declared.token.TokenKind.{TokenKind}
use Rattle.elab_groups.specs.tokens_why.Bytes.{is_digit, is_upper, is_letter, is_word_byte, is_operator_byte}
use Rattle.elab_groups.specs.tokens_why.Literal.{is_literal}
use Rattle.elab_groups.specs.tokens_why.Reserved.{reserved_words, reserved_terminals}
use Rattle.elab_groups.specs.tokens_why.Strings.{letters_kind, placed_kind, word_kind, level, is_prefix_word, run_kind, mark_kind, marks_kind, only, lead_of, string_kind_by, kind_of}
use Rattle.elab_groups.specs.tokens_why.Terminals.{terminal_of, level_terminal}
use Rattle.elab_groups.specs.tokens_why.Tokens.{text_of, Stop, whole, Reads, AreTokens}
use Rattle.elab_groups.specs.tokens_why.declared.token.TokenKind.TheVariants as k
use Rattle.elab_groups.specs.tokens_why.declared.terminal.Terminal.{Terminal}
use Rattle.elab_groups.specs.tokens_why.declared.terminal.Terminal.TheVariants as t
use Rattle.elab_groups.specs.tokens_why.declared.longest.Lead.{Lead}
use Rattle.elab_groups.specs.tokens_why.declared.longest.Lead.TheVariants.{Letter, Quote, Digit, Sign, Mark}
use Rattle.elab_groups.specs.tasks.Valid.{IsQuoted}
use Rattle.elab_groups.specs.surface.Lexeme.{Word, said, lexeme, rest}
use Rattle.elaboration_laws.specs.Quoted.{QuotedAs, IsQuotedLexeme}

-- ---- kinds other than that of type variables
abbrev is_var : TokenKind → Bool
is_var k.TyVar = true
is_var _ = false

abbrev opt_var : Option TokenKind → Bool
opt_var None = false
opt_var (Some x) = is_var x

abbrev No : Option TokenKind → Type 0
No o = opt_var o ≡ false

either : (b : Bool) (x y : TokenKind) → is_var x ≡ false → is_var y ≡ false → is_var (if b then x else y) ≡ false
either true x y p q = p
either false x y p q = q

either_opt : (b : Bool) (x y : Option TokenKind) → No x → No y → No (if b then x else y)
either_opt true x y p q = p
either_opt false x y p q = q

only_no : (b : Bool) (x : TokenKind) → is_var x ≡ false → No (only b x)
only_no true x p = p
only_no false x p = refl

letters_no : (bs : List ℕ) → is_var (letters_kind bs) ≡ false
letters_no [] = refl
letters_no (a ∷ bs) = either (is_upper a) k.Uident _ refl (either (is_same_word (a ∷ bs) (codes "_")) k.Wild k.Lident refl refl)

placed_no : (o : Option ℕ) (bs : List ℕ) → is_var (placed_kind o bs) ≡ false
placed_no (Some i) bs = refl
placed_no None bs = letters_no bs

run_no : (bs : List ℕ) → is_var (run_kind bs) ≡ false
run_no bs =
    either (is_same_word bs (codes "->")) k.Arrow _ refl (either (is_same_word bs (codes "<->")) k.Equiv _ refl (either (is_same_word bs (codes "/\\")) k.Conj _ refl (either (is_same_word bs (codes "\\/")) k.Disj _ refl
    (either (is_same_word bs (codes "&&")) k.AndAnd _ refl (either (is_same_word bs (codes "=")) k.Equal _ refl (either (is_same_word bs (codes "-")) k.Minus (k.Operator (level bs) (is_prefix_word bs)) refl refl))))))

mark_no : (b : ℕ) → No (mark_kind b)
mark_no b =
    either_opt (nat_eq b 40) (Some k.LParen) _ refl (either_opt (nat_eq b 41) (Some k.RParen) _ refl (either_opt (nat_eq b 91) (Some k.LBrack) _ refl (either_opt (nat_eq b 93) (Some k.RBrack) _ refl
    (either_opt (nat_eq b 123) (Some k.LBrace) _ refl (either_opt (nat_eq b 125) (Some k.RBrace) _ refl (either_opt (nat_eq b 44) (Some k.Comma) _ refl (either_opt (nat_eq b 46) (Some k.Dot) _ refl
    (either_opt (nat_eq b 58) (Some k.Colon) _ refl (either_opt (nat_eq b 59) (Some k.Semi) _ refl (either_opt (nat_eq b 124) (Some k.Bar) None refl refl))))))))))

marks_no : (bs : List ℕ) → No (marks_kind bs)
marks_no [] = refl
marks_no (a ∷ []) = mark_no a
marks_no (a ∷ b ∷ []) = either_opt (nat_eq a 124 && nat_eq b 124) (Some k.OrOr) None refl refl
marks_no (a ∷ b ∷ c ∷ []) = either_opt ((nat_eq a 40 && nat_eq b 42) && nat_eq c 41) (Some k.StarName) None refl refl
marks_no (a ∷ b ∷ c ∷ d ∷ bs) = refl

none_var : (o : Option TokenKind) → No o → o ≡ Some k.TyVar → ⊥
none_var o n q = let z : opt_var o ≡ true = ap opt_var q in let u : true ≡ false = sym z ∙ n in cc

-- ---- a quote leads
lead_quote : (a : ℕ) → lead_of a ≡ Quote → a ≡ 39
lead_quote a q = one (is_letter a) (nat_eq a 39) (is_digit a) (is_operator_byte a) refl q
  where
    one : (b c d e : Bool) → nat_eq a 39 ≡ c → (if b then Letter else (if c then Quote else (if d then Digit else (if e then Sign else Mark)))) ≡ Quote → a ≡ 39
    one true c d e z h = absurd (cc)
    one false true d e z h = eqb-true a 39 z
    one false false true e z h = absurd (cc)
    one false false false true z h = absurd (cc)
    one false false false false z h = absurd (cc)

lead_var : (l : Lead) (a : ℕ) (bs : List ℕ) → lead_of a ≡ l → string_kind_by l a bs ≡ Some k.TyVar → a ≡ 39
lead_var Letter a bs l q = absurd (none_var (string_kind_by Letter a bs) (only_no (list_all is_word_byte bs) (word_kind (a ∷ bs)) (placed_no (place_in_words (a ∷ bs) reserved_words) (a ∷ bs))) q)
lead_var Quote a bs l q = lead_quote a l
lead_var Digit a bs l q = absurd (none_var (string_kind_by Digit a bs) (only_no (is_literal (a ∷ bs)) k.Int refl) q)
lead_var Sign a bs l q = absurd (none_var (string_kind_by Sign a bs) (only_no (list_all is_operator_byte bs) (run_kind (a ∷ bs)) (run_no (a ∷ bs))) q)
lead_var Mark a bs l q = absurd (none_var (string_kind_by Mark a bs) (marks_no (a ∷ bs)) q)

word_quoted : (w : Word) → kind_of w ≡ Some k.TyVar → IsQuoted w
word_quoted [] q = absurd (cc)
word_quoted (a ∷ bs) q = lead_var (lead_of a) a bs refl q

-- ---- terminals
abbrev names_var : Terminal → Bool
names_var t.TyVar = true
names_var _ = false

free : (x : Terminal) (w : Word) → names_var x ≡ false → QuotedAs x w
free t.TyVar w q = absurd (let u : true ≡ false = q in cc)
free _ w q = tt

each_free : (xs : List Terminal) → list_any names_var xs ≡ false → (i : ℕ) → names_var (get_or xs i t.OtherWord) ≡ false
each_free [] q i = refl
each_free (x ∷ xs) q i = of (names_var x) refl q i (λ h j. each_free xs h j)
  where
    of : (b : Bool) → names_var x ≡ b → (b || list_any names_var xs) ≡ false → (i : ℕ) → (list_any names_var xs ≡ false → (j : ℕ) → names_var (get_or xs j t.OtherWord) ≡ false) → names_var (get_or (x ∷ xs) i t.OtherWord) ≡ false
    of true z h i f = absurd (let u : true ≡ false = h in cc)
    of false z h zero f = z
    of false z h (suc i) f = f h i

level_free : (l : ℕ) → names_var (level_terminal l) ≡ false
level_free l = of (nat_eq l 1) (nat_eq l 2) (nat_eq l 3)
  where
    of : (b c d : Bool) → names_var (if b then t.Operator1 else (if c then t.Operator2 else (if d then t.Operator3 else t.Operator4))) ≡ false
    of true c d = refl
    of false true d = refl
    of false false true = refl
    of false false false = refl

kind_quoted : (x : TokenKind) (w : Word) → kind_of w ≡ Some x → QuotedAs (terminal_of x) (said (terminal_of x) w)
kind_quoted k.TyVar w q = word_quoted w q
kind_quoted (k.Reserved i) w q = let x = get_or reserved_terminals i t.OtherWord in free x (said x w) (each_free reserved_terminals refl i)
kind_quoted (k.Operator l true) w q = tt
kind_quoted (k.Operator l false) w q = free (level_terminal l) (said (level_terminal l) w) (level_free l)
kind_quoted _ w q = tt

reads_quoted : (text : List ℕ) (stop : Stop) (at : ℕ) (ts : List Token) → Reads text stop at ts → All (λ (x : Token). IsQuotedLexeme (lexeme text x)) ts
reads_quoted text stop at [] h = All-nil (λ (x : Token). IsQuotedLexeme (lexeme text x))
reads_quoted text stop at (x ∷ ts) h = All-cons (λ (y : Token). IsQuotedLexeme (lexeme text y)) x ts (kind_quoted x.kind (text_of text x) h.1.kind) (reads_quoted text stop x.end ts h.3)

pub tokens_quoted : (text : List ℕ) (ts : List Token) (i : ℕ) → AreTokens text ts → All IsQuotedLexeme (rest text ts i)
tokens_quoted text ts i h = All-map IsQuotedLexeme (lexeme text) (drop i ts) (All-drop (λ (x : Token). IsQuotedLexeme (lexeme text x)) i ts (reads_quoted text whole 0 ts h))
