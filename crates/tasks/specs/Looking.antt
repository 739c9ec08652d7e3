-- What code has of the declarations of a task: what a symbol is made as, and the index by which it
-- is found.
use Rattle.std.specs.Prelude.{◌≡◌, ℕ, ◌+◌, ◌<◌, Bool, if◌then◌else◌, List, [], ◌∷◌, ◌++◌, map, length, get_or, slice_get, All, IfSome}
use Rattle.trees.specs.declared.TermId.{TermId}
use Rattle.trees.specs.Tree.{Tree}
use Rattle.trees.specs.Node.{tree_at, Holds}
use Rattle.tasks.specs.declared.declaration.Body.{Body}
use Rattle.tasks.specs.declared.declaration.Body.TheVariants.{TypeSymbol, Symbol, Defs, Inductives, Algebraics, Prop}
use Rattle.tasks.specs.declared.declaration.Def.{Def}
use Rattle.tasks.specs.declared.declaration.Ind.{Ind}
use Rattle.tasks.specs.declared.declaration.Con.{Con}
use Rattle.tasks.specs.declared.declaration.Alg.{Alg}
use Rattle.tasks.specs.declared.declaration.Decl.{Decl}
use Rattle.tasks.specs.declared.task.Task.{Task}
use Rattle.tasks.specs.declared.proposition.Proposition.{Proposition as StoredProposition}
use Rattle.tasks.specs.declared.facts.Fact.{Fact}
use Rattle.tasks.specs.declared.facts.Fact.TheVariants.{Proposition, Equation, Clause, Inversion}
use Rattle.tasks.specs.declared.roles.Role.{Role}
use Rattle.tasks.specs.declared.roles.Role.TheVariants as role
use Rattle.tasks.specs.declared.lookup.Index.{Index}
use Rattle.tasks.specs.declared.lookup.Lookup.{Lookup}
use Rattle.tasks.specs.Task.{SymbolTree, made_by, props_of}
use Rattle.tasks.specs.Roles.{RoleTree, maker, PlainRole, DefinedRole, InductiveRole, AlgebraicRole, ConstructorRole, ProjectionRole}
use Rattle.tasks.specs.Facts.{FactTree, facts_from}
use Rattle.tasks.specs.Meaning.{trees_at, con_at, cons_at, body_at, declarations_at, proposition_at, ConHeld, TaskHeld}

abbrev pub role_at : List Tree → Role → RoleTree
role_at s role.Plain = PlainRole
role_at s (role.Defined e) = DefinedRole (tree_at s e)
role_at s (role.Inductive cs) = InductiveRole (trees_at s cs.now)
role_at s (role.Algebraic cs) = AlgebraicRole (cons_at s cs.now)
role_at s (role.Constructor c) = ConstructorRole (con_at s c.now)
role_at s (role.Projection c n) = ProjectionRole (con_at s c.now) n

abbrev pub RoleHeld : List Tree → Role → Type 0
RoleHeld s role.Plain = Unit {0}
RoleHeld s (role.Defined e) = Holds s e
RoleHeld s (role.Inductive cs) = All (Holds s) cs.now
RoleHeld s (role.Algebraic cs) = All (ConHeld s) cs.now
RoleHeld s (role.Constructor c) = ConHeld s c.now
RoleHeld s (role.Projection c n) = ConHeld s c.now

-- the symbols that a stored body makes, in order
abbrev pub made_cons : List Con → List ℕ
made_cons [] = []
made_cons (c ∷ cs) = (c.symbol ∷ c.projections) ++ made_cons cs

abbrev pub made_types : List Alg → List ℕ
made_types [] = []
made_types (a ∷ ts) = (a.symbol ∷ made_cons a.cons) ++ made_types ts

abbrev pub made_in : Body → List ℕ
made_in (TypeSymbol k) = k ∷ []
made_in (Symbol k) = k ∷ []
made_in (Defs ds) = map (λ (d : Def). d.symbol) ds
made_in (Inductives is) = map (λ (i : Ind). i.symbol) is
made_in (Algebraics ts) = made_types ts
made_in (Prop a) = []

-- they are those of its tree over any store
abbrev pub AreMadeBy : Body → List ℕ → Type 0
AreMadeBy b ks = (s : List Tree) → ks ≡ made_by (body_at s b)

-- a list by number has this value at the numbers that pass a test, and stays elsewhere
pub record SetsWhere (old new : List ℕ) (also : ℕ → Bool) (value : ℕ) : Type 0 where
  pub as_long : length new ≡ length old
  pub each : (k d : ℕ) → k < length old
      → get_or new k d ≡ (if also k then value else get_or old k d)

-- at each entry the place of the first declaration that makes it, or their number
abbrev pub AreMakers : List Decl → List ℕ → Type 0
AreMakers ds makers = (s : List Tree) (k : ℕ) → k < length makers
    → slice_get (declarations_at s ds) (get_or makers k 0) ≡ maker (declarations_at s ds) k

-- the names of facts of a stored body
abbrev pub stored_clause_facts : ℕ → ℕ → List TermId → List Fact
stored_clause_facts k n [] = []
stored_clause_facts k n (c ∷ cs) = Clause k n ∷ stored_clause_facts k (n + 1) cs

abbrev pub all_clause_names : List Ind → List Fact
all_clause_names [] = []
all_clause_names (i ∷ is) = stored_clause_facts i.symbol 0 i.clauses ++ all_clause_names is

abbrev pub fact_names : ℕ → Body → List Fact
fact_names n (Defs ds) = map (λ (d : Def). Equation d.symbol) ds
fact_names n (Inductives is) = all_clause_names is ++ map (λ (i : Ind). Inversion i.symbol) is
fact_names n (Prop a) = Proposition n ∷ []
fact_names n _ = []

abbrev pub fact_name : FactTree → Fact
fact_name f = f.name

-- the proposition that a stored declaration says, if it does
abbrev pub stored_said_in : Decl → Body → List StoredProposition
stored_said_in d (Prop a) = record { vars = d.vars; formula = a } ∷ []
stored_said_in d _ = []

-- the propositions, and the names of the facts, whatever the store
abbrev pub AreProps : List Decl → List StoredProposition → Type 0
AreProps ds ps = (s : List Tree) → map (proposition_at s) ps ≡ props_of (declarations_at s ds)

abbrev pub AreFacts : List Decl → List Fact → Type 0
AreFacts ds fs = (s : List Tree) (symbols : List SymbolTree)
    → fs ≡ map fact_name (facts_from symbols 0 (declarations_at s ds))

-- an index of a task
pub record IsIndexOf (i : Index) (t : Task) : Type 0 where
  pub makers : AreMakers t.decls i.makers.items
  pub props : AreProps t.decls i.props.items
  pub facts : AreFacts t.decls i.facts.items

-- a look-up of a task whose numbers are held, and whose index, if there is one, is the task's
pub record LookupHeld (s : List Tree) (l : Lookup) : Type 0 where
  pub task : TaskHeld s l.task.now
  pub index : IfSome l.index (λ i. IsIndexOf i.now l.task.now)
