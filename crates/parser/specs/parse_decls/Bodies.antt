-- What is read as a definition and its members.
use Rattle.std.specs.Prelude.{ℕ, ◌+◌, List, ◌∷◌, Option}
use Rattle.parser.specs.parse_decls.Common.{Lexeme, SyntaxForm, SyntaxDeclaration, Member, more_decls, BodyPart, Begun}
use Rattle.grammar.specs.declared.symbols.Symbol.TheVariants as s
use Rattle.surface.specs.Trees.{SyntaxTree}

-- What is read as declarations has this one first, and goes on as declarations.
abbrev pub IsDecl : List Lexeme → ℕ → SyntaxDeclaration → ℕ → Type 0
IsDecl xs i d j =
    Begun xs 1 (λ k. s.Decls ∷ k) i (λ k. s.Decls ∷ k) (λ k us. (more_decls d us.0, us.1)) j

-- What is read as a value before other declarations is this one, or none.
abbrev pub IsReadValue : List Lexeme → ℕ → Option SyntaxTree → ℕ → Type 0
IsReadValue xs i v j =
    Begun xs 0 (λ k. s.Value ∷ s.Decls ∷ k) i (λ k. s.Decls ∷ k) (λ k us. (v, us)) j

abbrev pub body_part : Option SyntaxTree → List Member → BodyPart
body_part e ds = record { definition = e; members = ds }

-- What is read after a member's parameters has this result type, or none, and then an equality
-- sign, the body and others.
abbrev pub IsResult : List Lexeme → ℕ → Option SyntaxForm → ℕ → Type 0
IsResult xs i f j = Begun xs 1 (λ k. s.Member ∷ k) i (λ k. s.Expr 0 ∷ s.Members ∷ k)
    (λ k us. (record { result = f; body = us.0; others = us.1.0 }, us.1.1)) (j + 1)

-- What is read after `with` is this member, and then others.
abbrev pub IsReadMember : List Lexeme → ℕ → Member → ℕ → Type 0
IsReadMember xs i d j = Begun xs 1 (λ k. s.Op ∷ s.Params ∷ s.Member ∷ k) i (λ k. s.Members ∷ k)
    (λ k us. (
      d.name,
      (
        d.params,
        (record { result = d.result; body = d.body; others = us.0 }, us.1),
      ),
    )) j
