-- What is read as clauses and inductive predicates.
use Rattle.std.specs.Prelude.{ℕ, ◌≡◌, Bool, false, List, ◌∷◌}
use Rattle.parser.specs.parse_decls.Common.{same, Name, Lexeme, Clause, Inductive, ClausePart, ClausesPart, Begun, terminal_at}
use Rattle.tokens_why.specs.declared.terminal.Terminal.TheVariants as t
use Rattle.grammar.specs.declared.symbols.Symbol.TheVariants as s

abbrev pub clauses_part : List Clause → List Inductive → ClausesPart
clauses_part cs ds = record { clauses = cs; others = ds }

abbrev pub clause_part : Bool → ClausesPart → ClausePart
clause_part b p = record { bar = b; rest = p }

-- What is read as a proposition's name and what comes after it is this clause, and then others.
pub record IsClause (xs : List Lexeme) (i : ℕ) (c : Clause) (j : ℕ) : Type 0 where
  pub colon : Name
  pub is : Begun xs 1 (λ k. s.Ident ∷ s.Take t.Colon ∷ s.Expr 0 ∷ s.Clauses ∷ k) i
      (λ k. s.Clauses ∷ k) (λ k us. (c.name, (colon, (c.prop, us)))) j

-- What is read after a predicate's equality sign has these clauses, a bar before them or not, and
-- then other predicates.
pub record IsClauses (xs : List Lexeme) (i : ℕ) (b : Bool) (cs : List Clause) (j : ℕ) : Type 0 where
  pub last : same t.Bar (terminal_at xs j) ≡ false
  pub is : Begun xs 1 (λ k. s.Clause ∷ k) i (λ k. s.Clauses ∷ k)
      (λ k us. (clause_part b (clauses_part cs us.0.others), us.1)) j

-- What is read as a predicate's name and what comes after it is this predicate, and then others.
pub record IsReadInductive (xs : List Lexeme) (i : ℕ) (d : Inductive) (j : ℕ) : Type 0 where
  pub equal : Name
  pub last : same t.Bar (terminal_at xs j) ≡ false
  pub is : Begun xs 1 (λ k. s.Op ∷ s.Params ∷ s.Take t.Equal ∷ s.Clause ∷ k) i (λ k. s.Clauses ∷ k)
      (λ k us. (
        d.name,
        (
          d.params,
          (equal, (clause_part d.bar (clauses_part d.clauses us.0.others), us.1)),
        ),
      )) j
