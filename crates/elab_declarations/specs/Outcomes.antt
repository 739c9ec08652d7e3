-- What the elaboration of each kind of declaration gives, or its first fault (Why3 manual, "logical
-- declarations").
use Rattle.std.specs.Prelude.{◌≡◌, ℕ, ◌+◌, true, false, All, List, [], ◌∷◌, ◌++◌, map, length, Option, Some, None}
use Rattle.tasks.specs.trees.Tree.{Tree}
use Rattle.tasks.specs.trees.Binding.{inst_types}
use Rattle.tasks.specs.Task.{MakesType, Says}
use Rattle.tasks.specs.Rigid.{rigid_symbol}
use Rattle.tasks.specs.Meaning.{symbols_at, declarations_at, DeclHeld}
use Rattle.tasks.specs.declared.signature.Signature.{Signature}
use Rattle.name_resolution.specs.scopes.Names.{ScopeNames, with_entry, with_name}
use Rattle.name_resolution.specs.scopes.declared.Table.TheVariants.{Types, Propositions}
use Rattle.name_resolution.specs.scopes.declared.Referent.TheVariants as stands
use Rattle.surface.specs.Lexeme.{Word}
use Rattle.surface.specs.Declarations.{SyntaxDeclaration, use_decl, clone_decl, scope_decl}
use Rattle.surface.specs.declared.declarations.PropKind.{PropKind}
use Rattle.surface.specs.declared.declarations.PropKind.TheVariants as kind
use Rattle.name_resolution.specs.Abstract.{TypeExpression, Expression}
use Rattle.name_resolution.specs.Naming.{scope_at}
use Rattle.name_resolution.specs.declared.NamingFault.{NamingFault}
use Rattle.name_resolution.specs.Faults.{first_of, fault, form_fault}
use Rattle.elab_groups.specs.name_resolution.variables.Seen.{SeenTree, seen, form_seen}
use Rattle.elab_groups.specs.name_resolution.declared.variables.variables.Seen.{Seen as SeenCode}
use Rattle.elab_groups.specs.open_types.Patterns.{Notes, no_notes}
use Rattle.elab_groups.specs.open_types.Pieces.{NotedTree, piece, type_at}
use Rattle.elab_groups.specs.open_types.Drafts.{match_at, MatchHeld}
use Rattle.elab_groups.specs.declared.parts.ElabFault.{ElabFault}
use Rattle.elab_groups.specs.declared.parts.made.Elaborated.{Elaborated}
use Rattle.elab_groups.specs.declared.parts.made.Place.{Place}
use Rattle.elab_groups.specs.parts.Elaborated.{IsSolved, unseen}
use Rattle.elab_groups.specs.parts.Entries.{type_entry, wanting_tuples, IsExtended}
use Rattle.elab_groups.specs.parts.Declarations.{TokenName, Declaration, abstract_type, alias, algebraic, member_group, inductive, proposition_declaration, words, made_names, made_fault, types_fault}
use Rattle.elab_declarations.specs.type_declarations.Algebraics.{inside_types, group_outcome}
use Rattle.elab_groups.specs.Groups.{IsGroup, group_used, group_notes, group_signatures, most_variables}
use Rattle.elab_declarations.specs.inductive_declarations.Inductives.{clause_signatures, IsInductiveGroup, inductives_used, inductive_notes}
use Rattle.elab_groups.specs.parts.Outcomes.{Setting, Outcome, over, around, tuples_wanting, where_tuples_are, full_name, declared_in, setting, IsRefusalFor, IsElaboratedAs}
pub use Rattle.elab_groups.specs.parts.Outcomes.{rigid_types}

-- ---- a type symbol without a definition
abbrev pub type_outcome : Setting → TokenName → ℕ → Outcome
type_outcome c x n =
    let k = length c.symbols in
    record {
      symbols = type_entry c.theory (full_name c x) n ∷ [];
      scope = with_entry Types x.name k true c.scope;
      decls = record { theory = c.theory; name = full_name c x; vars = n; body = MakesType k } ∷ [];
      rigid = [];
      matches = [];
    }

-- ---- an alias, which is no declaration and no entry
abbrev pub alias_seen : TypeExpression → SeenTree
alias_seen f = form_seen unseen f

abbrev pub aliased_type : Setting → List TokenName → TypeExpression → Tree
aliased_type c vs f =
    type_at (over (c.symbols ++ tuples_wanting c (alias_seen f)) c.scope (words vs)) f

-- its name stands for its type
abbrev pub alias_outcome : Setting → TokenName → List TokenName → TypeExpression → Outcome
alias_outcome c x vs f = record {
  symbols = tuples_wanting c (alias_seen f);
  scope =
      with_name Types x.name (stands.Alias (length vs) (aliased_type c vs f)) true c.scope;
  decls = [];
  rigid = [];
  matches = [];
}

-- ---- propositions
abbrev pub proposition_seen : Expression → SeenTree
proposition_seen e = seen unseen e

abbrev pub proposition_piece : Setting → Expression → NotedTree
proposition_piece c e =
    piece (where_tuples_are c (proposition_seen e)) [] (length (proposition_seen e).vars) None e

-- an axiom has no rigid type variables
abbrev pub rigid_names : PropKind → List Word → List Word
rigid_names kind.Axiom vs = []
rigid_names kind.Lemma vs = vs
rigid_names kind.Goal vs = vs

-- so many entries from a place on
abbrev pub entry_numbers : ℕ → List Word → List ℕ
entry_numbers k [] = []
entry_numbers k (v ∷ vs) = k ∷ entry_numbers (k + 1) vs

-- a goal has its rigid types, an axiom and a lemma stay schematic
abbrev pub said_as : PropKind → List ℕ → Tree → Tree
said_as kind.Goal ks e = inst_types e (rigid_types ks)
said_as kind.Axiom ks e = e
said_as kind.Lemma ks e = e

abbrev pub schematic : PropKind → List Word → ℕ
schematic kind.Goal vs = 0
schematic kind.Axiom vs = length vs
schematic kind.Lemma vs = length vs

pub record IsProposition (c : Setting) (k : PropKind) (x : TokenName) (e : Expression)
    (o : Outcome) : Type 0 where
  pub formula : Tree
  pub solved : IsSolved (length (proposition_seen e).vars) (proposition_piece c e) formula o.matches
  pub symbols : o.symbols ≡ tuples_wanting c (proposition_seen e)
      ++ map rigid_symbol (rigid_names k (proposition_seen e).vars)
  pub scope : o.scope ≡ with_entry Propositions x.name c.decl true c.scope
  pub rigid : o.rigid ≡ entry_numbers (length (c.symbols ++ tuples_wanting c (proposition_seen e)))
      (rigid_names k (proposition_seen e).vars)
  pub decls : o.decls ≡ record {
    theory = c.theory;
    name = full_name c x;
    vars =
        schematic k (proposition_seen e).vars;
    body = Says (said_as k o.rigid formula);
  } ∷ []

-- ---- all
-- a type with or without a definition
abbrev pub type_declaration : TokenName → List TokenName → Option TypeExpression → Declaration
type_declaration x vs None = abstract_type x vs
type_declaration x vs (Some f) = alias x vs f

-- the declarations of a source that are elaborated: all but a `use`, a `clone` and a `scope`
abbrev pub IsLogical : SyntaxDeclaration → Type 0
IsLogical (use_decl a l p n) = ⊥
IsLogical (clone_decl a l p n es) = ⊥
IsLogical (scope_decl a n ds) = ⊥
IsLogical _ = Unit {0}

abbrev pub IsOutcome : Setting → Declaration → Outcome → Type 0
IsOutcome c (abstract_type x vs) o = o ≡ type_outcome c x (length vs)
IsOutcome c (alias x vs f) o = o ≡ alias_outcome c x vs f
IsOutcome c (proposition_declaration k x e) o = IsProposition c k x e o
IsOutcome c (algebraic ts) o = o ≡ group_outcome c ts
IsOutcome c (member_group ms) o = IsGroup c ms o
IsOutcome c (inductive ds) o = IsInductiveGroup c ds o

-- the first fault of the names that it uses
abbrev pub used_fault : Setting → Declaration → Option NamingFault
used_fault c (alias x vs f) = form_fault (around c (words vs)) false f
used_fault c (proposition_declaration k x e) = fault (around c []) true [] true e
used_fault c (algebraic ts) = types_fault (inside_types c ts) ts
used_fault c (member_group ms) = group_used c ms
used_fault c (inductive ds) = inductives_used c ds
used_fault c _ = None

-- of those that it makes, and then of those that it uses
abbrev pub names_fault : Setting → Declaration → Option NamingFault
names_fault c d = first_of (made_fault (declared_in c.scope) [] (made_names d)) (used_fault c d)

-- the notes of its type equations, and the number of its own type variables
abbrev pub notes_of : Setting → Declaration → Notes
notes_of c (proposition_declaration k x e) = (proposition_piece c e).notes
notes_of c (member_group ms) = group_notes c ms
notes_of c (inductive ds) = inductive_notes c ds
notes_of c _ = no_notes

abbrev pub rigid_of : Setting → Declaration → ℕ
rigid_of c (proposition_declaration k x e) = length (proposition_seen e).vars
rigid_of c (member_group ms) = most_variables (group_signatures c ms)
rigid_of c (inductive ds) = most_variables (clause_signatures ds)
rigid_of c _ = 0

-- its first fault
abbrev pub IsRefusal : Setting → Declaration → ElabFault → Type 0
IsRefusal c d f = IsRefusalFor c.decl (names_fault c d) (rigid_of c d) (notes_of c d) f

-- it is elaborated
abbrev pub IsElaborated : Setting → Declaration → Signature → List Tree → Signature → ScopeNames
    → Elaborated → Type 0
IsElaborated c d g s' g' scope' made =
    IsElaboratedAs (IsOutcome c d) (names_fault c d) c.symbols g s' g' scope' made

-- ---- the parts of a proposition
abbrev pub solved_piece : List Tree → Signature → ScopeNames → SeenCode → Expression → NotedTree
solved_piece s g names seen' e =
    piece (over (symbols_at s g.symbols ++ wanting_tuples (symbols_at s g.symbols) seen'.widths)
    (scope_at s names) seen'.vars) [] (length seen'.vars) None e

-- a proposition is made but for its name in the scope
pub record IsTypedProposition (p : Place) (s : List Tree) (g : Signature) (names : ScopeNames)
    (k : PropKind) (x : Word) (e : Expression) (s' : List Tree) (g' : Signature)
    (made : Elaborated) : Type 0 where
  pub extended : IsExtended s g s' g'
      (wanting_tuples (symbols_at s g.symbols) (proposition_seen e).widths
      ++ map rigid_symbol (rigid_names k (proposition_seen e).vars))
  pub formula : Tree
  pub solved : IsSolved (length (proposition_seen e).vars)
      (proposition_piece (setting p s g names) e) formula (map (match_at s') made.matches)
  pub rigid : made.rigid ≡ entry_numbers
      (length (symbols_at s g.symbols
      ++ wanting_tuples (symbols_at s g.symbols) (proposition_seen e).widths))
      (rigid_names k (proposition_seen e).vars)
  pub decls : declarations_at s' made.decls
      ≡ record {
        theory = p.theory.now;
        name = p.within.now ++ x;
        vars =
            schematic k (proposition_seen e).vars;
        body = Says (said_as k made.rigid formula);
      } ∷ []
  pub decls_held : All (DeclHeld s') made.decls
  pub matches_held : All (MatchHeld s') made.matches
