-- Groups of functions, predicates and constants: what each makes, without a definition or with one
-- (Why3 manual, "logical declarations"). All type equations of a group are one list.
use Rattle.std.specs.Prelude.{◌≡◌, ℕ, suc, max, List, [], ◌∷◌, ◌++◌, map, reverse, length, Option, Some, None}
use Rattle.tasks.specs.trees.Tree.{Tree, Leaf, HEnd}
use Rattle.tasks.specs.Task.{SymbolTree, DefinitionTree, BodyTree, Makes, Defines, DeclarationTree}
use Rattle.tasks.specs.Equations.{cells, type_variables, bound_variables, for_all, equated}
use Rattle.tasks.specs.declared.signature.SymbolKind.TheVariants.{Function, Predicate}
use Rattle.tasks.specs.declared.signature.Signature.{Signature}
use Rattle.open_types.specs.unify_types.Assigned.{assign}
use Rattle.open_types.specs.unify_types.Pairs.{IsSolution}
use Rattle.name_resolution.specs.scopes.Names.{ScopeNames}
use Rattle.name_resolution.specs.surface.Lexeme.{Word}
use Rattle.name_resolution.specs.Abstract.{Expression}
use Rattle.name_resolution.specs.declared.NamingFault.{NamingFault}
use Rattle.name_resolution.specs.Faults.{first_of}
use Rattle.name_resolution.specs.Where.{Where, NamesTree}
use Rattle.open_types.specs.Patterns.{Notes, no_notes, follow, LocalTree, local}
use Rattle.open_types.specs.Pieces.{NotedTree, piece, bare_piece, unknown_after}
use Rattle.elab_groups.specs.declared.parts.ElabFault.{ElabFault}
use Rattle.elab_groups.specs.declared.parts.made.Elaborated.{Elaborated}
use Rattle.elab_groups.specs.parts.Elaborated.{IsDetermined, AreMatches, unseen}
use Rattle.elab_groups.specs.parts.Declarations.{GroupMember, with_vars, made_by_members, made_fault}
use Rattle.elab_groups.specs.parts.Outcomes.{Setting, Outcome, tuples_wanting, declared_in, IsRefusalFor, IsElaboratedAs}
use Rattle.elab_groups.specs.members.Members.{SignatureTree, words_of_parameters, members_seen, signature_trees, member_entries, with_members, inside_group, members_fault}

-- ---- bodies
-- the variables of these names and types
abbrev pub typed_locals : List Word → List Tree → List LocalTree
typed_locals [] ts = []
typed_locals (x ∷ xs) [] = []
typed_locals (x ∷ xs) (t ∷ ts) = local x t ∷ typed_locals xs ts

-- a member without a body has nothing
abbrev pub body_piece : Where → List LocalTree → ℕ → Option Tree → Option Expression → NotedTree
body_piece w ls n t None = bare_piece (Leaf HEnd)
body_piece w ls n t (Some e) = piece w ls n t e

-- under its parameters, with its own type variables, where a value of its result's type is due, or
-- a formula
abbrev pub member_piece : Where → ℕ → GroupMember → SignatureTree → NotedTree
member_piece w n m g = body_piece (with_vars w g.vars)
    (reverse (typed_locals (words_of_parameters m.params) g.args)) n g.result m.body

-- one counter of unknowns goes through all bodies
abbrev pub member_pieces : Where → ℕ → List GroupMember → List SignatureTree → List NotedTree
member_pieces w n [] gs = []
member_pieces w n (m ∷ ms) [] = []
member_pieces w n (m ∷ ms) (g ∷ gs) =
    let p = member_piece w n m g in
    p ∷ member_pieces w (unknown_after n p) ms gs

abbrev pub most_variables : List SignatureTree → ℕ
most_variables [] = 0
most_variables (g ∷ gs) = max (length g.vars) (most_variables gs)

-- their unknowns come after the type variables of each member
abbrev pub bodies_pieces : Where → List GroupMember → List SignatureTree → List NotedTree
bodies_pieces w ms gs = member_pieces w (most_variables gs) ms gs

abbrev pub pieces_notes : List NotedTree → Notes
pieces_notes [] = no_notes
pieces_notes (p ∷ ps) = follow p.notes (pieces_notes ps)

abbrev pub pieces_trees : List NotedTree → List Tree
pieces_trees ps = map (λ (p : NotedTree). p.tree) ps

-- trees and matches over the unknowns of notes, at every solution of their equations
pub record AreSolved (rigid : ℕ) (ns : Notes) (open_ : List Tree) (trees : List Tree)
    (ms : List (ℕ × List Tree)) : Type 0 where
  pub determined : IsDetermined rigid ns
  pub trees_are : (f : ℕ → Tree) → IsSolution rigid f ns.equations
      → map (assign rigid f) open_ ≡ trees
  pub matches : AreMatches rigid ns ms

abbrev pub BodiesSolved : Where → List GroupMember → List SignatureTree → List Tree
    → List (ℕ × List Tree) → Type 0
BodiesSolved w ms gs trees matches =
    AreSolved (most_variables gs) (pieces_notes (bodies_pieces w ms gs))
    (pieces_trees (bodies_pieces w ms gs)) trees matches

-- ---- definitions
abbrev pub or_end : Option Tree → Tree
or_end None = Leaf HEnd
or_end (Some e) = e

-- a symbol on its parameters with its body: an equation for a function, an equivalence for a
-- predicate
abbrev pub inner_equation : ℕ → SignatureTree → Option Tree → Tree → Tree
inner_equation k g None body =
    or_end (equated Predicate k (cells (type_variables 0 (length g.vars)))
    (cells (bound_variables g.args)) None body)
inner_equation k g (Some t) body =
    or_end (equated Function k (cells (type_variables 0 (length g.vars)))
    (cells (bound_variables g.args)) (Some t) body)

abbrev pub definitions : ℕ → List SignatureTree → List Tree → List DefinitionTree
definitions k [] bs = []
definitions k (g ∷ gs) [] = []
definitions k (g ∷ gs) (b ∷ bs) =
    record { symbol = k; equation = for_all g.args (inner_equation k g g.result b) }
    ∷ definitions (suc k) gs bs

-- a group defines its members, or makes the only one, which has no body
abbrev pub group_body : Option Expression → ℕ → List SignatureTree → List Tree → BodyTree
group_body None k gs bs = Makes k
group_body (Some e) k gs bs = Defines (definitions k gs bs)

-- it has the name and the number of type variables of its first member
abbrev pub group_decls : Word → Word → List GroupMember → ℕ → List SignatureTree → List Tree
    → List DeclarationTree
group_decls theory within [] k gs bs = []
group_decls theory within (m ∷ ms) k [] bs = []
group_decls theory within (m ∷ ms) k (g ∷ gs) bs =
    record {
      theory = theory;
      name = within ++ m.called.name;
      vars = length g.vars;
      body =
          group_body m.body k (g ∷ gs) bs;
    } ∷ []

-- ---- a group where it is: the entries of its tuples, then those of its members
abbrev pub group_tuples : Setting → List GroupMember → List SymbolTree
group_tuples c ms = tuples_wanting c (members_seen unseen ms)

abbrev pub before_group : Setting → List GroupMember → List SymbolTree
before_group c ms = c.symbols ++ group_tuples c ms

abbrev pub group_signatures : Setting → List GroupMember → List SignatureTree
group_signatures c ms = signature_trees c (before_group c ms) ms

abbrev pub group_scope : Setting → List GroupMember → NamesTree
group_scope c ms = with_members (length (before_group c ms)) ms c.scope

-- what names mean in its bodies
abbrev pub within_group : Setting → List GroupMember → Where
within_group c ms = inside_group c (before_group c ms) ms (group_scope c ms)

pub record IsGroup (c : Setting) (ms : List GroupMember) (o : Outcome) : Type 0 where
  pub bodies : List Tree
  pub solved : BodiesSolved (within_group c ms) ms (group_signatures c ms) bodies o.matches
  pub symbols : o.symbols ≡ group_tuples c ms ++ member_entries c (before_group c ms) ms
  pub scope : o.scope ≡ group_scope c ms
  pub decls : o.decls ≡ group_decls c.theory c.within ms (length (before_group c ms))
      (group_signatures c ms) bodies
  pub rigid : o.rigid ≡ []

-- the first fault of the names that it uses
abbrev pub group_used : Setting → List GroupMember → Option NamingFault
group_used c ms = members_fault (within_group c ms) ms

-- of those that it makes, and then of those that it uses
abbrev pub group_fault : Setting → List GroupMember → Option NamingFault
group_fault c ms =
    first_of (made_fault (declared_in c.scope) [] (made_by_members ms)) (group_used c ms)

-- the notes of its type equations
abbrev pub group_notes : Setting → List GroupMember → Notes
group_notes c ms = pieces_notes (bodies_pieces (within_group c ms) ms (group_signatures c ms))

abbrev pub IsGroupElaborated : Setting → List GroupMember → Signature → List Tree → Signature
    → ScopeNames → Elaborated → Type 0
IsGroupElaborated c ms g s' g' scope' made =
    IsElaboratedAs (IsGroup c ms) (group_fault c ms) c.symbols g s' g' scope' made

abbrev pub IsGroupRefusal : Setting → List GroupMember → ElabFault → Type 0
IsGroupRefusal c ms f = IsRefusalFor c.decl (group_fault c ms)
    (most_variables (group_signatures c ms)) (group_notes c ms) f
