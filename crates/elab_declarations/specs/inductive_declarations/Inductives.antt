-- Groups of inductive predicates: what each makes, and its first fault of names (Why3 manual,
-- "inductive predicates"). The predicates of a group see each other, their clauses are closed
-- formulas, and all type equations are one list.
use Rattle.std.specs.Prelude.{◌≡◌, ℕ, suc, Bool, true, List, [], ◌∷◌, ◌++◌, map, take, drop, length, Option, Some, None}
use Rattle.tasks.specs.trees.Tree.{Tree}
use Rattle.tasks.specs.Task.{SymbolTree, InductiveTree, Induces, DeclarationTree}
use Rattle.tasks.specs.declared.signature.Signature.{Signature}
use Rattle.name_resolution.specs.scopes.Names.{NamesOf, ScopeNames, with_entry}
use Rattle.name_resolution.specs.scopes.declared.Table.TheVariants.{Symbols, Propositions}
use Rattle.surface.specs.Lexeme.{Word}
use Rattle.name_resolution.specs.declared.NamingFault.{NamingFault}
use Rattle.name_resolution.specs.Faults.{first_of}
use Rattle.name_resolution.specs.Where.{Where, NamesTree}
use Rattle.name_resolution.specs.variables.Seen.{SeenTree, seen}
use Rattle.open_types.specs.Patterns.{Notes}
use Rattle.elab_groups.specs.declared.parts.ElabFault.{ElabFault}
use Rattle.elab_groups.specs.declared.parts.made.Elaborated.{Elaborated}
use Rattle.elab_groups.specs.parts.Elaborated.{unseen}
use Rattle.elab_groups.specs.parts.Declarations.{TokenName, InductiveClause, InductivePredicate, GroupMember, params_seen, signature_variables, clause_variables, made_by_inductives, made_fault, inductives_fault}
use Rattle.elab_groups.specs.parts.Outcomes.{Setting, Outcome, tuples_wanting, declared_in, IsRefusalFor, IsElaboratedAs}
use Rattle.elab_groups.specs.members.Members.{SignatureTree, member_entries, member_made, inside_group}
use Rattle.elab_groups.specs.Groups.{most_variables, bodies_pieces, pieces_notes, BodiesSolved}
use Rattle.elab_declarations.specs.NewNames.{name_made}

-- ---- what is seen: of each predicate its parameters, then its clauses
abbrev pub clauses_seen : SeenTree → List InductiveClause → SeenTree
clauses_seen s [] = s
clauses_seen s (c ∷ cs) = clauses_seen (seen s c.prop) cs

abbrev pub inductives_seen : SeenTree → List InductivePredicate → SeenTree
inductives_seen s [] = s
inductives_seen s (d ∷ ds) = inductives_seen (clauses_seen (params_seen s d.params) d.clauses) ds

-- ---- predicates and clauses as members of a group: a predicate without a definition, and a
-- formula without parameters
abbrev pub as_member : InductivePredicate → GroupMember
as_member d = record { called = d.called; params = d.params; result = None; body = None }

abbrev pub as_members : List InductivePredicate → List GroupMember
as_members ds = map as_member ds

abbrev pub formula : TokenName → InductiveClause → GroupMember
formula p c = record { called = p; params = []; result = None; body = Some c.prop }

abbrev pub formula_members_of : InductivePredicate → List GroupMember
formula_members_of d = map (formula d.called) d.clauses

abbrev pub formula_members : List InductivePredicate → List GroupMember
formula_members [] = []
formula_members (d ∷ ds) = formula_members_of d ++ formula_members ds

-- a clause has its own type variables, those of its predicate first
abbrev pub clause_signature : InductivePredicate → InductiveClause → SignatureTree
clause_signature d c = record { vars = clause_variables d c; args = []; result = None }

abbrev pub clause_signatures : List InductivePredicate → List SignatureTree
clause_signatures [] = []
clause_signatures (d ∷ ds) = map (clause_signature d) d.clauses ++ clause_signatures ds

-- ---- names: each predicate's stands for its entry, those of its clauses for the declaration's
-- number
abbrev pub with_clauses : {A : Type 0} → ℕ → List InductiveClause → NamesOf A → NamesOf A
with_clauses n [] names = names
with_clauses n (c ∷ cs) names =
    with_clauses n cs (with_entry Propositions c.called.name n true names)

abbrev pub with_inductives : {A : Type 0} → ℕ → ℕ → List InductivePredicate → NamesOf A → NamesOf A
with_inductives n k [] names = names
with_inductives n k (d ∷ ds) names =
    with_inductives n (suc k) ds
    (with_clauses n d.clauses (with_entry Symbols d.called.name k true names))

-- ---- a group where it is: the entries of its tuples, then those of its predicates
abbrev pub before_inductives : Setting → List InductivePredicate → List SymbolTree
before_inductives c ds = c.symbols ++ tuples_wanting c (inductives_seen unseen ds)

abbrev pub inductives_scope : Setting → List InductivePredicate → NamesTree
inductives_scope c ds = with_inductives c.decl (length (before_inductives c ds)) ds c.scope

abbrev pub within_inductives : Setting → List InductivePredicate → Where
within_inductives c ds =
    inside_group c (before_inductives c ds) (as_members ds) (inductives_scope c ds)

-- the clauses of predicates, whose entries stand from a place on, among the formulas of a group in
-- order
abbrev pub induced : ℕ → List InductivePredicate → List Tree → List InductiveTree
induced k [] bs = []
induced k (d ∷ ds) bs = record { symbol = k; clauses = take (length d.clauses) bs }
    ∷ induced (suc k) ds (drop (length d.clauses) bs)

-- it has the name and the number of type variables of its first predicate
abbrev pub inductive_decls : Word → Word → List InductivePredicate → ℕ → List Tree
    → List DeclarationTree
inductive_decls theory within [] k bs = []
inductive_decls theory within (d ∷ ds) k bs =
    record {
      theory = theory;
      name = within ++ d.called.name;
      vars =
          length (signature_variables d.params None);
      body = Induces (induced k (d ∷ ds) bs);
    } ∷ []

pub record IsInductiveGroup (c : Setting) (ds : List InductivePredicate)
    (o : Outcome) : Type 0 where
  pub clauses : List Tree
  pub solved : BodiesSolved (within_inductives c ds) (formula_members ds) (clause_signatures ds)
      clauses o.matches
  pub symbols : o.symbols ≡ tuples_wanting c (inductives_seen unseen ds)
      ++ member_entries c (before_inductives c ds) (as_members ds)
  pub scope : o.scope ≡ inductives_scope c ds
  pub decls : o.decls ≡ inductive_decls c.theory c.within ds
      (length (before_inductives c ds)) clauses
  pub rigid : o.rigid ≡ []

-- the first fault of the names that it uses
abbrev pub inductives_used : Setting → List InductivePredicate → Option NamingFault
inductives_used c ds = inductives_fault (within_inductives c ds) ds

-- of those that it makes, and then of those that it uses
abbrev pub inductive_group_fault : Setting → List InductivePredicate → Option NamingFault
inductive_group_fault c ds =
    first_of (made_fault (declared_in c.scope) [] (made_by_inductives ds)) (inductives_used c ds)

abbrev pub inductive_notes : Setting → List InductivePredicate → Notes
inductive_notes c ds = pieces_notes
    (bodies_pieces (within_inductives c ds) (formula_members ds) (clause_signatures ds))

abbrev pub IsInductiveElaborated : Setting → List InductivePredicate → Signature → List Tree
    → Signature → ScopeNames → Elaborated → Type 0
IsInductiveElaborated c ds g s' g' scope' made =
    IsElaboratedAs (IsInductiveGroup c ds) (inductive_group_fault c ds) c.symbols g s' g'
    scope' made

abbrev pub IsInductiveRefusal : Setting → List InductivePredicate → ElabFault → Type 0
IsInductiveRefusal c ds f = IsRefusalFor c.decl (inductive_group_fault c ds)
    (most_variables (clause_signatures ds)) (inductive_notes c ds) f

-- ---- names that are made, told predicate by predicate: what each table of the scope declared, and
-- the names of both tables that
-- the group made before
abbrev pub clauses_made : (Word → Bool) → List Word → List InductiveClause → Option NamingFault
clauses_made declared before [] = None
clauses_made declared before (c ∷ cs) =
    first_of (name_made (declared c.called.name) before c.called)
    (clauses_made declared (before ++ c.called.name ∷ []) cs)

abbrev pub clause_names : List InductiveClause → List Word
clause_names cs = map (λ (c : InductiveClause). c.called.name) cs

abbrev pub inductive_made : (Word → Bool) → (Word → Bool) → List Word → List Word
    → InductivePredicate → Option NamingFault
inductive_made symbol proposition before named d =
    first_of (member_made symbol before d.called d.params)
    (clauses_made proposition named d.clauses)

abbrev pub inductives_made : (Word → Bool) → (Word → Bool) → List Word → List Word
    → List InductivePredicate → Option NamingFault
inductives_made symbol proposition before named [] = None
inductives_made symbol proposition before named (d ∷ ds) =
    first_of (inductive_made symbol proposition before named d)
    (inductives_made symbol proposition (before ++ d.called.name ∷ [])
    (named ++ clause_names d.clauses) ds)
