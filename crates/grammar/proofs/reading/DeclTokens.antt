-- How the tokens of declarations are grouped.
use Rattle.grammar.proofs.reading.Common.{◌≡◌, ℕ, ◌+◌, List, [], ◌∷◌, ◌++◌, refl, sym, ap, ◌∙◌, append_assoc, Terminal, Lexeme, Word, lx, mark, past, HasSome, path_from, write_path}
use Rattle.tokens_why.specs.declared.terminal.Terminal.TheVariants as t
use Rattle.grammar.proofs.reading.Reading.{past-append}

pub begins : (x : Terminal) (w : Word) (xs ys : List Lexeme) → w ≡ [] → xs ≡ ys → lx x w ∷ xs ≡ mark x ∷ ys
begins x w xs ys p e = ap (λ v. lx x v ∷ xs) p ∙ ap (λ v. mark x ∷ v) e

pub two_tokens : (a b xs ys zs : List Lexeme) → xs ≡ a ++ ys → ys ≡ b ++ zs → xs ≡ (a ++ b) ++ zs
two_tokens a b xs ys zs e d = e ∙ ap (λ v. a ++ v) d ∙ sym (append_assoc a b zs)

-- after a token that is written as a mark
pub marked_tokens : (x : Terminal) (w : Word) (xs ys zs : List Lexeme) → xs ≡ lx x w ∷ ys → w ≡ [] → ys ≡ zs → xs ≡ mark x ∷ zs
marked_tokens x w xs ys zs e p d = e ∙ begins x w ys zs p d

pub three_past : (a b c : List Lexeme) (i : ℕ) → past i ((a ++ b) ++ c) ≡ past (past (past i a) b) c
three_past a b c i = past-append (a ++ b) c i ∙ ap (λ n. past n c) (past-append a b i)

pub three_row : (a b c : List Lexeme) (i : ℕ) → past i (a ++ (b ++ c)) ≡ past (past (past i a) b) c
three_row a b c i = past-append a (b ++ c) i ∙ past-append b c (past i a)

pub member_row : (a b c d e : List Lexeme) (x : Lexeme) → a ++ (b ++ (c ++ (x ∷ (d ++ e)))) ≡ (a ++ (b ++ (c ++ (x ∷ d)))) ++ e
member_row a b c d e x = sym (simp append_assoc)

pub member_past : (a b c d : List Lexeme) (x : Lexeme) (i : ℕ) → past i (a ++ (b ++ (c ++ (x ∷ d)))) ≡ past (past (past (past i a) b) c + 1) d
member_past a b c d x i = three_row a b (c ++ (x ∷ d)) i ∙ past-append c (x ∷ d) (past (past i a) b)

pub function_row : (a b c d e : List Lexeme) (x : Lexeme) → a ++ (b ++ (x ∷ (c ++ (d ++ e)))) ≡ (a ++ (b ++ (x ∷ (c ++ d)))) ++ e
function_row a b c d e x = sym (simp append_assoc)

pub function_past : (a b c d : List Lexeme) (x : Lexeme) (i : ℕ) → past i (a ++ (b ++ (x ∷ (c ++ d)))) ≡ past (past (past (past i a) b + 1) c) d
function_past a b c d x i = three_row a b (x ∷ (c ++ d)) i ∙ past-append c d (past (past i a) b + 1)

pub constant_row : (a c d e : List Lexeme) (x : Lexeme) → a ++ (x ∷ (c ++ (d ++ e))) ≡ (a ++ (x ∷ (c ++ d))) ++ e
constant_row a c d e x = sym (simp append_assoc)

pub constant_past : (a c d : List Lexeme) (x : Lexeme) (i : ℕ) → past i (a ++ (x ∷ (c ++ d))) ≡ past (past (past i a + 1) c) d
constant_past a c d x i = past-append a (x ∷ (c ++ d)) i ∙ past-append c d (past i a + 1)

pub clause_row : (a b c d : List Lexeme) (x : Lexeme) → a ++ (x ∷ (b ++ (c ++ d))) ≡ ((a ++ (x ∷ b)) ++ c) ++ d
clause_row a b c d x = sym (simp append_assoc)

pub clone_row : (a b c d : List Lexeme) → (a ++ (b ++ c)) ++ d ≡ a ++ (b ++ (c ++ d))
clone_row a b c d = simp append_assoc

pub path_row : (w : Word) (ws : List Word) → HasSome ws → path_from w ws ≡ lx t.Lident w ∷ mark t.Dot ∷ write_path ws
path_row w [] h = elim h [ ]
path_row w (v ∷ ws) h = refl

pub alg_whole : (a b c ys : List Lexeme) → ((a ++ (mark t.Equal ∷ b)) ++ c) ++ ys ≡ a ++ (mark t.Equal ∷ (b ++ (c ++ ys)))
alg_whole a b c ys = simp append_assoc

pub fields_whole : (a b c ys : List Lexeme) → (a ++ (b ++ (c ++ (mark t.RBrace ∷ [])))) ++ ys ≡ a ++ (b ++ (c ++ (mark t.RBrace ∷ ys)))
fields_whole a b c ys = simp append_assoc
