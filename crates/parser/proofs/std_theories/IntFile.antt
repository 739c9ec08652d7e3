-- The file of int.Int begins with eight declarations of functions and predicates on integers.
use Rattle.std.proofs.Common.{◌≡◌, ℕ, false, List, [], ◌∷◌, codes, Option, Some, None, refl, sym, ap, subst, ◌∙◌}
use Rattle.tokens_why.specs.declared.token.Token.{Token}
use Rattle.tokens_why.specs.declared.terminal.Terminal.TheVariants as t
use Rattle.surface.specs.Lexeme.{Lexeme, rest, at}
use Rattle.surface.specs.Forms.{SyntaxForm, Called, called, lower, infix_op, prefix_op, star, composed, no_forms}
use Rattle.surface.specs.Declarations.{ParamGroup, SyntaxDeclaration, SyntaxDeclarations, function_decl, predicate_decl, no_decls, more_decls, SyntaxTheory}
use Rattle.surface.specs.declared.declarations.File.{File}
use Rattle.surface.specs.SurfaceDeclarations.{file_of}
use Rattle.grammar.specs.recognise.Common.{read}
use Rattle.grammar.specs.recognise.Sources.{IsOnlyFile}
use Rattle.grammar.proofs.recognise.Common.{whole_file}
use Rattle.grammar.specs.declared.symbols.Symbol.TheVariants as symbol
use Rattle.parser.specs.std_theories.Library.{IsFileOfText, int_int}
use Rattle.parser.proofs.std_theories.Readings.{one_tokens}
use Rattle.parser.proofs.std_theories.Cut.{tokens_of}
use Rattle.parser.proofs.std_theories.CutTokens.{are_tokens}

-- ---- the first declarations
abbrev pub int_form : ℕ → SyntaxForm
int_form i = composed (at i) (called i [] (lower (codes "int"))) no_forms

abbrev pub int_param : ℕ → ParamGroup
int_param i = record { names = []; of_type = int_form i }

abbrev pub int_function : ℕ → Called → List ParamGroup → ℕ → SyntaxDeclaration
int_function i c ps r = function_decl (at i) c ps (int_form r) None []

abbrev pub int_predicate : ℕ → Called → List ParamGroup → SyntaxDeclaration
int_predicate i c ps = predicate_decl (at i) c ps None []

abbrev pub int_declarations : SyntaxDeclarations → SyntaxDeclarations
int_declarations ds =
    more_decls (int_function 2 (called 3 [] (prefix_op t.Minus [])) (int_param 7 ∷ []) 9)
    (more_decls (int_function 10 (called 11 [] (infix_op t.Operator2 (codes "+"))) (int_param 14 ∷ int_param 15 ∷ []) 17)
    (more_decls (int_function 18 (called 19 [] (infix_op t.Minus [])) (int_param 22 ∷ int_param 23 ∷ []) 25)
    (more_decls (int_function 26 (called 27 [] star) (int_param 28 ∷ int_param 29 ∷ []) 31)
    (more_decls (int_predicate 32 (called 33 [] (infix_op t.Operator1 (codes "<"))) (int_param 36 ∷ int_param 37 ∷ []))
    (more_decls (int_predicate 38 (called 39 [] (infix_op t.Operator1 (codes "<="))) (int_param 42 ∷ int_param 43 ∷ []))
    (more_decls (int_predicate 44 (called 45 [] (infix_op t.Operator1 (codes ">"))) (int_param 48 ∷ int_param 49 ∷ []))
    (more_decls (int_predicate 50 (called 51 [] (infix_op t.Operator1 (codes ">="))) (int_param 54 ∷ int_param 55 ∷ [])) ds)))))))

-- ---- the file
abbrev tokens_in : Option (List Token) → List Token
tokens_in None = []
tokens_in (Some ts) = ts

abbrev int_tokens : List Token
int_tokens = tokens_in (tokens_of int_int)

abbrev file_in : Option (List SyntaxTheory × Unit {0}) → List SyntaxTheory
file_in None = []
file_in (Some v) = v.0

abbrev int_read : Option (List SyntaxTheory × Unit {0})
int_read = read (rest int_int int_tokens 0) 0 false (symbol.File ∷ [])

-- a theory that begins with these declarations
abbrev after_one : SyntaxDeclarations → SyntaxDeclarations
after_one no_decls = no_decls
after_one (more_decls d ds) = ds

abbrev after_eight : SyntaxDeclarations → SyntaxDeclarations
after_eight ds = after_one (after_one (after_one (after_one (after_one (after_one (after_one (after_one ds)))))))

pub record IsIntTheory (h : SyntaxTheory) : Type 0 where
  pub others : SyntaxDeclarations
  pub is : h.decls ≡ int_declarations others

-- a file of one such theory
abbrev pub IsIntFile : List SyntaxTheory → Type 0
IsIntFile [] = ⊥
IsIntFile (h ∷ []) = IsIntTheory h
IsIntFile (h ∷ k ∷ hs) = ⊥

abbrev theory_in : List SyntaxTheory → SyntaxDeclarations
theory_in [] = no_decls
theory_in (h ∷ hs) = h.decls

read_is_int : IsIntFile (file_in int_read)
read_is_int = record { others = after_eight (theory_in (file_in int_read)); is = refl }

file_read : (xs : List Lexeme) (f : List SyntaxTheory) → IsOnlyFile xs f → read xs 0 false (symbol.File ∷ []) ≡ Some (f, tt)
file_read xs f h = ap (λ ys. read ys 0 false (symbol.File ∷ [])) (sym h.of.tokens) ∙ (whole_file 0).reads f h.of.right h.placed

pub int_file : (f : File) → IsFileOfText int_int f → IsIntFile (file_of f)
int_file f h =
    let same : h.tokens ≡ int_tokens = one_tokens int_int h.tokens int_tokens h.are (are_tokens int_int int_tokens refl) in
    let found : int_read ≡ Some (file_of f, tt) = ap (λ (ts : List Token). read (rest int_int ts 0) 0 false (symbol.File ∷ [])) (sym same) ∙ file_read (rest int_int h.tokens 0) (file_of f) h.only in
    subst IsIntFile (ap file_in found) read_is_int
