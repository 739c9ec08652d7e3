-- Copies of declarations and entries under a map of symbols: a declaration keeps its kind, and a
-- clause, an equation and a proposition keep their form (Why3 manual, "theory cloning"). A copy
-- belongs to the theory that clones, under a longer name.
use Rattle.std.specs.Prelude.{List, ◌++◌, map, ℕ}
use Rattle.std.specs.Option.{option_map}
use Rattle.trees.specs.Tree.{Tree}
use Rattle.trees.specs.Node.{Holds}
use Rattle.tasks.specs.declared.declaration.Def.{Def}
use Rattle.tasks.specs.Task.{SymbolTree, DefinitionTree, InductiveTree, ConstructorTree, AlgebraicTree, BodyTree, MakesType, Makes, Defines, Induces, Constructs, Says, DeclarationTree}
use Rattle.clones.specs.Mapped.{Map, mapped}

abbrev pub definition_mapped : Map → DefinitionTree → DefinitionTree
definition_mapped m d = record { symbol = m.symbols d.symbol; equation = mapped m d.equation }

abbrev pub inductive_mapped : Map → InductiveTree → InductiveTree
inductive_mapped m i = record { symbol = m.symbols i.symbol; clauses = map (mapped m) i.clauses }

abbrev pub con_mapped : Map → ConstructorTree → ConstructorTree
con_mapped m c = record {
  symbol = m.symbols c.symbol;
  fields =
      map (mapped m) c.fields;
  projections = map m.symbols c.projections;
}

abbrev pub algebraic_mapped : Map → AlgebraicTree → AlgebraicTree
algebraic_mapped m a = record { symbol = m.symbols a.symbol; cons = map (con_mapped m) a.cons }

abbrev pub body_mapped : Map → BodyTree → BodyTree
body_mapped m (MakesType k) = MakesType (m.symbols k)
body_mapped m (Makes k) = Makes (m.symbols k)
body_mapped m (Defines ds) = Defines (map (definition_mapped m) ds)
body_mapped m (Induces is) = Induces (map (inductive_mapped m) is)
body_mapped m (Constructs ts) = Constructs (map (algebraic_mapped m) ts)
body_mapped m (Says a) = Says (mapped m a)

-- the scopes of the copy are before the name
abbrev pub declaration_copied : Map → List ℕ → List ℕ → DeclarationTree → DeclarationTree
declaration_copied m theory within d =
    record { theory = theory; name = within ++ d.name; vars = d.vars; body = body_mapped m d.body }

abbrev pub entry_copied : Map → List ℕ → List ℕ → SymbolTree → SymbolTree
entry_copied m theory within e =
    record {
      theory = theory;
      name = within ++ e.name;
      kind = e.kind;
      vars = e.vars;
      args =
          map (mapped m) e.args;
      result = option_map (mapped m) e.result;
    }

-- the equation of a definition is held
abbrev pub DefHeld : List Tree → Def → Type 0
DefHeld s d = Holds s d.equation
