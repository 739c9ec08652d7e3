-- The strings of each kind of token (Why3 manual, "Lexical conventions").
use Rattle.std.specs.Prelude.{ℕ, Bool, true, false, not, ◌&&◌, nat_eq, if◌then◌else◌, List, [], ◌∷◌, Option, Some, None, codes}
use Rattle.tokens_why.specs.Common.{list_any, list_all, place_in_words, is_same_word, TokenKind, Lident, Uident, Wild, TyVar, Int, StarName, LParen, RParen, LBrack, RBrack, LBrace, RBrace, Comma, Dot, Colon, Semi, Bar, Arrow, Equiv, Conj, AndAnd, Disj, OrOr, Equal, Minus, Operator, Reserved}
use Rattle.tokens_why.specs.Bytes.{is_digit, is_upper, is_lower, is_letter, is_word_byte, is_one_of, is_operator_byte}
use Rattle.tokens_why.specs.Literal.{is_literal}
use Rattle.tokens_why.specs.Reserved.{reserved_words}
use Rattle.tokens_why.specs.declared.longest.Lead.{Lead}
use Rattle.tokens_why.specs.declared.longest.Lead.TheVariants.{Letter, Quote, Digit, Sign, Mark}

-- a word: `_` alone, a reserved word, or an identifier
abbrev pub letters_kind : List ℕ → TokenKind
letters_kind [] = Wild
letters_kind (a ∷ bs) =
    if is_upper a then Uident else (if is_same_word (a ∷ bs) (codes "_") then Wild else Lident)

abbrev pub placed_kind : Option ℕ → List ℕ → TokenKind
placed_kind (Some i) bs = Reserved i
placed_kind None bs = letters_kind bs

abbrev pub word_kind : List ℕ → TokenKind
word_kind bs = placed_kind (place_in_words bs reserved_words) bs

-- the name of a type variable, after its quote: reserved words too, and not `_`
abbrev pub is_variable_name : List ℕ → Bool
is_variable_name [] = false
is_variable_name (a ∷ bs) =
    is_lower a && list_all is_word_byte bs && not (is_same_word (a ∷ bs) (codes "_"))

abbrev pub is_relation : ℕ → Bool
is_relation = is_one_of (codes "=<>~")

abbrev pub is_sum : ℕ → Bool
is_sum = is_one_of (codes "+-")

abbrev pub is_product : ℕ → Bool
is_product = is_one_of (codes "*/\\%")

-- 1 is the loosest level
abbrev pub level : List ℕ → ℕ
level bs = if list_any is_relation bs then 1
    else (if list_any is_sum bs then 2 else (if list_any is_product bs then 3 else 4))

abbrev pub is_prefix_word : List ℕ → Bool
is_prefix_word [] = false
is_prefix_word (a ∷ bs) = nat_eq (level (a ∷ bs)) 4 && is_one_of (codes "!?") a

-- a run of operator characters: a connective, `=`, `-` or another operator
abbrev pub run_kind : List ℕ → TokenKind
run_kind bs = if is_same_word bs (codes "->") then Arrow
    else (if is_same_word bs (codes "<->") then Equiv
    else (if is_same_word bs (codes "/\\") then Conj
    else (if is_same_word bs (codes "\\/") then Disj
    else (if is_same_word bs (codes "&&") then AndAnd
    else (if is_same_word bs (codes "=") then Equal
    else (if is_same_word bs (codes "-") then Minus
    else Operator (level bs) (is_prefix_word bs)))))))

abbrev pub mark_kind : ℕ → Option TokenKind
mark_kind b = if nat_eq b 40 then Some LParen
    else (if nat_eq b 41 then Some RParen
    else (if nat_eq b 91 then Some LBrack
    else (if nat_eq b 93 then Some RBrack
    else (if nat_eq b 123 then Some LBrace
    else (if nat_eq b 125 then Some RBrace
    else (if nat_eq b 44 then Some Comma
    else (if nat_eq b 46 then Some Dot
    else (if nat_eq b 58 then Some Colon
    else (if nat_eq b 59 then Some Semi
    else (if nat_eq b 124 then Some Bar else None))))))))))

-- the other tokens: one mark, `||`, or `(*)`
abbrev pub marks_kind : List ℕ → Option TokenKind
marks_kind (a ∷ []) = mark_kind a
marks_kind (a ∷ b ∷ []) = if nat_eq a 124 && nat_eq b 124 then Some OrOr else None
marks_kind (a ∷ b ∷ c ∷ []) =
    if nat_eq a 40 && nat_eq b 42 && nat_eq c 41 then Some StarName else None
marks_kind _ = None

abbrev pub only : Bool → TokenKind → Option TokenKind
only true k = Some k
only false k = None

-- what the first byte of a token says of it
abbrev pub lead_of : ℕ → Lead
lead_of b = if is_letter b then Letter
    else (if nat_eq b 39 then Quote
    else (if is_digit b then Digit
    else (if is_operator_byte b then Sign else Mark)))

abbrev pub string_kind_by : Lead → ℕ → List ℕ → Option TokenKind
string_kind_by Letter a bs = only (list_all is_word_byte bs) (word_kind (a ∷ bs))
string_kind_by Quote a bs = only (is_variable_name bs) TyVar
string_kind_by Digit a bs = only (is_literal (a ∷ bs)) Int
string_kind_by Sign a bs = only (list_all is_operator_byte bs) (run_kind (a ∷ bs))
string_kind_by Mark a bs = marks_kind (a ∷ bs)

-- the kind of the token that a whole string is, if it is one
abbrev pub kind_of : List ℕ → Option TokenKind
kind_of [] = None
kind_of (a ∷ bs) = string_kind_by (lead_of a) a bs
