-- The facts of a task, in the order of its declarations: its propositions, the equations of its
-- definitions, and of an inductive group the clauses and then the inversion formulas. Each has a
-- name by which it is cited.
use Rattle.std.specs.Prelude.{ℕ, ◌+◌, List, [], ◌∷◌, ◌++◌, map}
use Rattle.trees.specs.Tree.{Tree}
use Rattle.tasks.specs.declared.facts.Fact.{Fact}
use Rattle.tasks.specs.declared.facts.Fact.TheVariants.{Proposition, Equation, Clause, Inversion}
use Rattle.tasks.specs.Task.{SymbolTree, symbol_or, DefinitionTree, InductiveTree, BodyTree, Defines, Induces, Says, DeclarationTree, TaskTree}
use Rattle.tasks.specs.Inversion.{inversion}

-- a fact with its number of type variables; of an equation, a clause or an inversion that of its
-- symbol
pub record FactTree : Type 0 where
  pub name : Fact
  pub vars : ℕ
  pub formula : Tree

abbrev pub equation_fact : List SymbolTree → DefinitionTree → FactTree
equation_fact symbols d = record {
  name = Equation d.symbol;
  vars =
      (symbol_or symbols d.symbol).vars;
  formula = d.equation;
}

-- the clauses of a predicate from a number on
abbrev pub clause_facts : ℕ → ℕ → ℕ → List Tree → List FactTree
clause_facts k vars n [] = []
clause_facts k vars n (c ∷ cs) =
    record { name = Clause k n; vars = vars; formula = c } ∷ clause_facts k vars (n + 1) cs

abbrev pub all_clause_facts : List SymbolTree → List InductiveTree → List FactTree
all_clause_facts symbols [] = []
all_clause_facts symbols (i ∷ is) =
    clause_facts i.symbol (symbol_or symbols i.symbol).vars 0 i.clauses
    ++ all_clause_facts symbols is

abbrev pub inversion_fact : List SymbolTree → InductiveTree → FactTree
inversion_fact symbols i =
    record {
      name = Inversion i.symbol;
      vars = (symbol_or symbols i.symbol).vars;
      formula =
          inversion i.symbol (symbol_or symbols i.symbol) i.clauses;
    }

-- the facts of a declaration, where so many propositions are before it
abbrev pub body_facts : List SymbolTree → ℕ → ℕ → BodyTree → List FactTree
body_facts symbols n vars (Defines ds) = map (equation_fact symbols) ds
body_facts symbols n vars (Induces is) =
    all_clause_facts symbols is ++ map (inversion_fact symbols) is
body_facts symbols n vars (Says a) = record { name = Proposition n; vars = vars; formula = a } ∷ []
body_facts symbols n vars _ = []

abbrev pub said_in : BodyTree → ℕ
said_in (Says a) = 1
said_in _ = 0

abbrev pub facts_from : List SymbolTree → ℕ → List DeclarationTree → List FactTree
facts_from symbols n [] = []
facts_from symbols n (d ∷ ds) =
    body_facts symbols n d.vars d.body ++ facts_from symbols (n + said_in d.body) ds

abbrev pub facts : TaskTree → List FactTree
facts t = facts_from t.symbols 0 t.decls
