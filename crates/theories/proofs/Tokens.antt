-- The tokens of a text are names, but for integers.
use Rattle.std.proofs.Common.{◌≡◌, ℕ, ◌<◌, ◌&&◌, ◌||◌, nat_eq, not, Bool, true, false, if◌then◌else◌, codes, List, [], ◌∷◌, drop, All, Option, Some, None, refl, subst, ap, ◌∙◌, arith}
use Rattle.std.specs.List.{list_all}
use Rattle.std.proofs.lemmas.Bool.{eqb-true, and_from as joins}
use Rattle.std.proofs.lemmas.Bool.Decides.{nat_tests}
use Rattle.std.proofs.lemmas.List.Elements.{All-nil, All-cons, All-map, All-drop}
use Rattle.surface.specs.tokens_why.declared.token.Token.{Token}
use Rattle.surface.specs.tokens_why.declared.token.TokenKind.{TokenKind}
use Rattle.surface.specs.tokens_why.declared.token.TokenKind.TheVariants as k
use Rattle.surface.specs.tokens_why.declared.terminal.Terminal.{Terminal}
use Rattle.surface.specs.tokens_why.declared.terminal.Terminal.TheVariants as t
use Rattle.surface.specs.tokens_why.declared.longest.Lead.{Lead}
use Rattle.surface.specs.tokens_why.declared.longest.Lead.TheVariants.{Letter, Quote, Digit, Sign, Mark}
use Rattle.surface.specs.tokens_why.Bytes.{is_digit, is_letter, is_lower, is_word_byte, is_operator_byte, is_one_of}
use Rattle.surface.specs.tokens_why.Literal.{is_literal}
use Rattle.surface.specs.tokens_why.Strings.{word_kind, run_kind, mark_kind, marks_kind, is_variable_name, only, lead_of, string_kind_by, kind_of}
use Rattle.surface.specs.tokens_why.Terminals.{terminal_of}
use Rattle.surface.specs.tokens_why.Tokens.{text_of, Stop, whole, Reads, AreTokens}
use Rattle.surface.specs.Lexeme.{Word, said, lexeme, rest}
use Rattle.tasks.specs.Words.{IsScopedName}
use Rattle.theories.specs.Lexemes.{SaysWord, IsWordLexeme, AreWordLexemes}
use Rattle.theories.proofs.Words.{all_to, implied, is_number_byte, is_part_byte, empty_name, part}
use Rattle.tasks.proofs.plain_laws.Bools.{and_both as both, negated}

-- ---- bytes of words and operators
letter_low : (c : ℕ) → is_letter c ≡ true → c < 128
letter_low c e = grind (arith, nat_tests)

word_low : (c : ℕ) → is_word_byte c ≡ true → c < 128
word_low c e = grind (arith, nat_tests)

lower_low : (c : ℕ) → is_lower c ≡ true → c < 128
lower_low c e = grind (arith, nat_tests)

letter_part : (c : ℕ) → is_letter c ≡ true → is_part_byte c ≡ true
letter_part c e = implied is_letter is_part_byte refl c (letter_low c e) e

letter_no_number : (c : ℕ) → is_letter c ≡ true → is_number_byte c ≡ false
letter_no_number c e = negated (is_number_byte c) (implied is_letter (λ x. not (is_number_byte x)) refl c (letter_low c e) e)

word_part : (c : ℕ) → is_word_byte c ≡ true → is_part_byte c ≡ true
word_part c e = implied is_word_byte is_part_byte refl c (word_low c e) e

lower_part : (c : ℕ) → is_lower c ≡ true → is_part_byte c ≡ true
lower_part c e = implied is_lower is_part_byte refl c (lower_low c e) e

one_of : (q : ℕ → Bool) (cs : List ℕ) (c : ℕ) → list_all q cs ≡ true → is_one_of cs c ≡ true → q c ≡ true
one_of q [] c h e = absurd (cc)
one_of q (x ∷ xs) c h e =
    let b = both (q x) (list_all q xs) h in
    at (nat_eq c x) refl e b.0 (λ d. one_of q xs c b.1 d)
  where
    at : (b : Bool) → nat_eq c x ≡ b → (b || is_one_of xs c) ≡ true → q x ≡ true → (is_one_of xs c ≡ true → q c ≡ true) → q c ≡ true
    at true i e h more = ap q (eqb-true c x i) ∙ h
    at false i e h more = more e

operator_part : (c : ℕ) → is_operator_byte c ≡ true → is_part_byte c ≡ true
operator_part c e = one_of is_part_byte (codes "!$&?@^#=<>~+-*/\\%") c refl e

operator_no_number : (c : ℕ) → is_operator_byte c ≡ true → is_number_byte c ≡ false
operator_no_number c e = negated (is_number_byte c) (one_of (λ x. not (is_number_byte x)) (codes "!$&?@^#=<>~+-*/\\%") c refl e)

-- ---- what a terminal says of a word
said_word : (x : Terminal) (w : Word) → IsScopedName w → SaysWord x (said x w)
said_word t.Lident w h = h
said_word t.Uident w h = h
said_word t.TyVar w h = h
said_word t.Int w h = tt
said_word t.Operator1 w h = h
said_word t.Operator2 w h = h
said_word t.Operator3 w h = h
said_word t.Operator4 w h = h
said_word t.PrefixOperator w h = h
said_word _ w h = empty_name

abbrev SaysIn : Option TokenKind → Type 0
SaysIn None = Unit {0}
SaysIn (Some x) = (w : Word) → SaysWord (terminal_of x) (said (terminal_of x) w)

either : (b : Bool) (x y : Option TokenKind) → SaysIn x → SaysIn y → SaysIn (if b then x else y)
either true x y p q = p
either false x y p q = q

mark_says : (b : ℕ) → SaysIn (mark_kind b)
mark_says b =
    let no = empty_name in
    either (nat_eq b 40) (Some k.LParen) _ (λ w. no) (either (nat_eq b 41) (Some k.RParen) _ (λ w. no) (either (nat_eq b 91) (Some k.LBrack) _ (λ w. no) (either (nat_eq b 93) (Some k.RBrack) _ (λ w. no)
    (either (nat_eq b 123) (Some k.LBrace) _ (λ w. no) (either (nat_eq b 125) (Some k.RBrace) _ (λ w. no) (either (nat_eq b 44) (Some k.Comma) _ (λ w. no) (either (nat_eq b 46) (Some k.Dot) _ (λ w. no)
    (either (nat_eq b 58) (Some k.Colon) _ (λ w. no) (either (nat_eq b 59) (Some k.Semi) _ (λ w. no) (either (nat_eq b 124) (Some k.Bar) None (λ w. no) tt))))))))))

marks_says : (bs : List ℕ) → SaysIn (marks_kind bs)
marks_says [] = tt
marks_says (a ∷ []) = mark_says a
marks_says (a ∷ b ∷ []) = either (nat_eq a 124 && nat_eq b 124) (Some k.OrOr) None (λ w. empty_name) tt
marks_says (a ∷ b ∷ c ∷ []) = either ((nat_eq a 40 && nat_eq b 42) && nat_eq c 41) (Some k.StarName) None (λ w. empty_name) tt
marks_says (a ∷ b ∷ c ∷ d ∷ bs) = tt

some_says : (o : Option TokenKind) (x : TokenKind) → o ≡ Some x → SaysIn o → (w : Word) → SaysWord (terminal_of x) (said (terminal_of x) w)
some_says o x q h = let r : SaysIn (Some x) = subst SaysIn q h in r

-- ---- the first byte of a token
only_true : (b : Bool) (y x : TokenKind) → only b y ≡ Some x → b ≡ true
only_true true y x q = refl
only_true false y x q = absurd (cc)

only_kind : (b : Bool) (y x : TokenKind) → only b y ≡ Some x → y ≡ x
only_kind true y x q = cc
only_kind false y x q = absurd (cc)

abbrev lead_by : Bool → Bool → Bool → Bool → Lead
lead_by b c d e = if b then Letter else (if c then Quote else (if d then Digit else (if e then Sign else Mark)))

lead_letter : (b c d e : Bool) → lead_by b c d e ≡ Letter → b ≡ true
lead_letter true c d e q = refl
lead_letter false true d e q = absurd (cc)
lead_letter false false true e q = absurd (cc)
lead_letter false false false true q = absurd (cc)
lead_letter false false false false q = absurd (cc)

lead_quote : (b c d e : Bool) → lead_by b c d e ≡ Quote → c ≡ true
lead_quote true c d e q = absurd (cc)
lead_quote false true d e q = refl
lead_quote false false true e q = absurd (cc)
lead_quote false false false true q = absurd (cc)
lead_quote false false false false q = absurd (cc)

lead_sign : (b c d e : Bool) → lead_by b c d e ≡ Sign → e ≡ true
lead_sign true c d e q = absurd (cc)
lead_sign false true d e q = absurd (cc)
lead_sign false false true e q = absurd (cc)
lead_sign false false false true q = refl
lead_sign false false false false q = absurd (cc)

variable_part : (bs : List ℕ) → is_variable_name bs ≡ true → list_all is_part_byte bs ≡ true
variable_part [] q = refl
variable_part (a ∷ bs) q =
    let m = both (is_lower a && list_all is_word_byte bs) _ q in
    let n = both (is_lower a) (list_all is_word_byte bs) m.0 in
    joins (is_part_byte a) (list_all is_part_byte bs) (lower_part a n.0) (all_to is_word_byte is_part_byte word_part bs n.1)

lead_says : (l : Lead) (a : ℕ) (bs : List ℕ) (x : TokenKind) → lead_of a ≡ l → string_kind_by l a bs ≡ Some x → SaysWord (terminal_of x) (said (terminal_of x) (a ∷ bs))
lead_says Letter a bs x l q =
    let first = lead_letter (is_letter a) (nat_eq a 39) (is_digit a) (is_operator_byte a) l in
    said_word (terminal_of x) (a ∷ bs) (part a bs (letter_no_number a first) (letter_part a first) (all_to is_word_byte is_part_byte word_part bs (only_true (list_all is_word_byte bs) (word_kind (a ∷ bs)) x q)))
lead_says Quote a bs x l q =
    let i = eqb-true a 39 (lead_quote (is_letter a) (nat_eq a 39) (is_digit a) (is_operator_byte a) l) in
    said_word (terminal_of x) (a ∷ bs) (part a bs (ap is_number_byte i) (ap is_part_byte i) (variable_part bs (only_true (is_variable_name bs) k.TyVar x q)))
lead_says Digit a bs x l q = subst (λ (y : TokenKind). SaysWord (terminal_of y) (said (terminal_of y) (a ∷ bs))) (only_kind (is_literal (a ∷ bs)) k.Int x q) tt
lead_says Sign a bs x l q =
    let first = lead_sign (is_letter a) (nat_eq a 39) (is_digit a) (is_operator_byte a) l in
    said_word (terminal_of x) (a ∷ bs) (part a bs (operator_no_number a first) (operator_part a first) (all_to is_operator_byte is_part_byte operator_part bs (only_true (list_all is_operator_byte bs) (run_kind (a ∷ bs)) x q)))
lead_says Mark a bs x l q = some_says (marks_kind (a ∷ bs)) x q (marks_says (a ∷ bs)) (a ∷ bs)

kind_says : (w : Word) (x : TokenKind) → kind_of w ≡ Some x → SaysWord (terminal_of x) (said (terminal_of x) w)
kind_says [] x q = absurd (cc)
kind_says (a ∷ bs) x q = lead_says (lead_of a) a bs x refl q

-- ---- of a text
abbrev IsWordToken : List ℕ → Token → Type 0
IsWordToken text x = IsWordLexeme (lexeme text x)

reads_words : (text : List ℕ) (stop : Stop) (at : ℕ) (ts : List Token) → Reads text stop at ts → All (IsWordToken text) ts
reads_words text stop at [] h = All-nil (IsWordToken text)
reads_words text stop at (x ∷ ts) h = All-cons (IsWordToken text) x ts (kind_says (text_of text x) x.kind h.1.kind) (reads_words text stop x.end ts h.3)

pub tokens_words : (text : List ℕ) (ts : List Token) (i : ℕ) → AreTokens text ts → AreWordLexemes (rest text ts i)
tokens_words text ts i h = All-map IsWordLexeme (lexeme text) (drop i ts) (All-drop (IsWordToken text) i ts (reads_words text whole 0 ts h))
