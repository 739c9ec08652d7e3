-- What is read as type variables, constructors, records and algebraic types.
use Rattle.std.specs.Prelude.{ℕ, ◌+◌, ◌≡◌, Bool, false, true, not, ◌&&◌, ◌||◌, List, [], ◌∷◌}
use Rattle.parser.specs.parse_decls.Common.{Terminal, same, Name, Lexeme, name, ParamGroup, Algebraic, Constructor, AlgPart, ConPart, FieldsPart, RecordPart, Begun, begins_atype, terminal_at, token_at}
use Rattle.tokens_why.specs.declared.terminal.Terminal.TheVariants as t
use Rattle.grammar.specs.declared.symbols.Symbol.TheVariants as s

-- Type variables side by side, each at its token.
abbrev pub AreTypeVariablesAt : List Lexeme → ℕ → List Name → ℕ → Type 0
AreTypeVariablesAt xs i [] j = i ≡ j
AreTypeVariablesAt xs i (n ∷ ns) j =
    (same t.TyVar (terminal_at xs i) ≡ true) × (n ≡ name i (token_at xs i).text)
    × AreTypeVariablesAt xs (i + 1) ns j

-- All of the type variables that stand side by side.
pub record IsReadNames (xs : List Lexeme) (i : ℕ) (ns : List Name) (j : ℕ) : Type 0 where
  pub names : AreTypeVariablesAt xs i ns j
  pub ends : same t.TyVar (terminal_at xs j) ≡ false

-- after an equality sign constructors begin, and no type
abbrev pub begins_constructor : Terminal → Terminal → Bool
begins_constructor x y = same t.Bar x || (same t.Uident x && not (same t.Dot y))

-- the same, or the fields of a record
abbrev pub begins_algebraic : Terminal → Terminal → Bool
begins_algebraic x y = same t.LBrace x || begins_constructor x y

abbrev pub fields_part : List ParamGroup → List Constructor → List Algebraic → FieldsPart
fields_part fs cs as_ = record { fields = fs; constructors = cs; others = as_ }

abbrev pub con_part : Bool → List Constructor → List ParamGroup → Bool → List Algebraic → ConPart
con_part b cs ps semi as_ =
    record { bar = b; constructors = cs; fields = ps; semi = semi; others = as_ }

abbrev pub record_part : List ParamGroup → Bool → List Algebraic → RecordPart
record_part ps semi as_ = record { fields = ps; semi = semi; others = as_ }

abbrev pub alg_part : List Name → ConPart → AlgPart
alg_part vs c = record { vars = vs; con = c }

abbrev pub constructor_at : List Lexeme → ℕ → List ParamGroup → Constructor
constructor_at xs i fs = record { name = name i (token_at xs i).text; fields = fs }

-- What is read after a constructor's name has these fields, and then no more.
pub record IsConstructor (xs : List Lexeme) (i : ℕ) (c : Constructor) (j : ℕ) : Type 0 where
  pub fields : List ParamGroup
  pub spelled : constructor_at xs i fields ≡ c
  pub ends : begins_atype (terminal_at xs j) ≡ false
  pub is : Begun xs 0 (λ k. s.Fields ∷ k) (i + 1) (λ k. s.Fields ∷ k)
      (λ k us. (fields_part fields us.0.constructors us.0.others, us.1)) j

-- What is read after the name of the first of constructors has these, and then other types.
pub record IsConstructors (xs : List Lexeme) (i : ℕ) (cs : List Constructor) (j : ℕ) : Type 0 where
  pub fields : List ParamGroup
  pub others : List Constructor
  pub spelled : constructor_at xs i fields ∷ others ≡ cs
  pub is : Begun xs 0 (λ k. s.Fields ∷ k) (i + 1) (λ k. s.Algs ∷ k)
      (λ k us. (fields_part fields others us.0, us.1)) j

-- What is read after the brace of a record has these fields, a semicolon after them or not, and
-- then other types.
pub record IsRecord (xs : List Lexeme) (i : ℕ) (ps : List ParamGroup) (semi : Bool)
    (j : ℕ) : Type 0 where
  pub first : ParamGroup
  pub others : List ParamGroup
  pub spelled : first ∷ others ≡ ps
  pub is : Begun xs 1 (λ k. s.RecordField ∷ s.RecordRest ∷ k) i (λ k. s.Algs ∷ k)
      (λ k us. (first, (record_part others semi us.0, us.1))) j

-- What is read after an equality sign is these constructors, a bar before them or not, or these
-- fields of a record, a semicolon after them or not, and then other types.
abbrev pub IsCon : List Lexeme → ℕ → Bool → List Constructor → List ParamGroup → Bool → ℕ → Type 0
IsCon xs i b cs ps semi j = Begun xs 1 (λ k. s.Con ∷ k) i (λ k. s.Algs ∷ k)
    (λ k us. (con_part b cs ps semi us.0, us.1)) j

-- What is read after an equality sign makes of a name and variables this algebraic type.
pub record IsReadBody (xs : List Lexeme) (i : ℕ) (n : Name) (vs : List Name) (a : Algebraic)
    (j : ℕ) : Type 0 where
  pub name : a.name ≡ n
  pub vars : a.vars ≡ vs
  pub is : IsCon xs i a.bar a.constructors a.fields a.semi j

-- What is read as a type's name and the rest of it is this algebraic type.
abbrev pub IsReadAlgebraic : List Lexeme → ℕ → Algebraic → ℕ → Type 0
IsReadAlgebraic xs i a j =
    Begun xs 1 (λ k. s.Take t.Lident ∷ s.Algvars ∷ k) i (λ k. s.Algs ∷ k)
    (λ k us. (
      a.name,
      (alg_part a.vars (con_part a.bar a.constructors a.fields a.semi us.0), us.1),
    )) j
