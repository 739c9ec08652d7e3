-- When the bodies of a group have types, each by itself, and their trees then (rank-1
-- polymorphism).
use Rattle.std.specs.Prelude.{◌≡◌, ℕ, ◌+◌, ◌<◌, List, [], ◌∷◌, map, reverse, length, get_or, slice_get, Option, Some, None, IfSome}
use Rattle.std.specs.List.{AllByRecursion}
use Rattle.elab_groups.specs.trees.Tree.{Tree, Leaf, HEnd}
use Rattle.elab_groups.specs.tasks.Vocabulary.{Vocabulary}
use Rattle.elab_groups.specs.open_types.unify_types.Assigned.{assign}
use Rattle.elab_groups.specs.open_types.unify_types.Pairs.{IsKind, IsSolution}
use Rattle.elab_groups.specs.name_resolution.Abstract.{Expression}
use Rattle.elab_groups.specs.name_resolution.Where.{Where}
use Rattle.elab_groups.specs.open_types.Patterns.{LocalTree}
use Rattle.elab_groups.specs.open_types.Pieces.{NotedTree}
use Rattle.elab_groups.specs.parts.Declarations.{GroupMember, with_vars}
use Rattle.elab_groups.specs.members.Members.{SignatureTree, words_of_parameters}
use Rattle.elab_groups.specs.Groups.{typed_locals, pieces_notes, pieces_trees}
use Rattle.elaboration_laws.specs.Typed.{IsNamedExpression}
use Rattle.elaboration_laws.specs.Typings.{Choice, Both, IsTyping, tokens, chosen_types, HasOwnTypes}

-- the variables of a member's body, which are its parameters
abbrev pub body_locals : GroupMember → SignatureTree → List LocalTree
body_locals m g = reverse (typed_locals (words_of_parameters m.params) g.args)

-- a member without a body has nothing
abbrev pub IsBodyTyping : Where → List LocalTree → Option Tree → Option Expression → Tree
    → List Choice → Type 0
IsBodyTyping w ls t None e cs = (e ≡ Leaf HEnd) × (cs ≡ [])
IsBodyTyping w ls t (Some a) e cs = IsTyping w ls t a e cs

abbrev pub AreBodyTypings : Where → List GroupMember → List SignatureTree → List Tree
    → List Choice → Type 0
AreBodyTypings w [] gs es cs = (es ≡ []) × (cs ≡ [])
AreBodyTypings w (m ∷ ms) [] es cs = (es ≡ []) × (cs ≡ [])
AreBodyTypings w (m ∷ ms) (g ∷ gs) es cs =
    Both (λ e c. IsBodyTyping (with_vars w g.vars) (body_locals m g) g.result m.body e c)
    (λ ys c. AreBodyTypings w ms gs ys c) (λ e ys. e ∷ ys) es cs

-- the bodies of a group have these trees where types are chosen so
pub record ElaborateTo (w : Where) (ms : List GroupMember) (gs : List SignatureTree)
    (es : List Tree) (cs : List Choice) : Type 0 where
  pub typings : AreBodyTypings w ms gs es cs
  pub types : AllByRecursion (λ (c : Choice). IsKind c.type) cs

-- each body's names are there, and its signature has the member's own type variables alone
abbrev pub AreNamedBodies : Vocabulary → Where → ℕ → List GroupMember → List SignatureTree → Type 0
AreNamedBodies v w rigid [] gs = Unit {0}
AreNamedBodies v w rigid (m ∷ ms) [] = Unit {0}
AreNamedBodies v w rigid (m ∷ ms) (g ∷ gs) =
    HasOwnTypes (with_vars w g.vars) rigid (body_locals m g) g.result
    × IfSome m.body (IsNamedExpression v (with_vars w g.vars) (body_locals m g) g.result)
    × AreNamedBodies v w rigid ms gs

-- pieces at a solution by types of their equations, whose unknowns have the types that are chosen,
-- in order
pub record ArePiecesAt (rigid : ℕ) (ps : List NotedTree) (es : List Tree)
    (cs : List Choice) : Type 0 where
  pub assigned : ℕ → Tree
  pub solution : IsSolution rigid assigned (pieces_notes ps).equations
  pub trees : map (assign rigid assigned) (pieces_trees ps) ≡ es
  pub takers : (pieces_notes ps).takers ≡ tokens cs
  pub types : (j : ℕ) (d : Choice) → j < length cs → assigned (rigid + j) ≡ (get_or cs j d).type

-- there are typings, and the trees of all typings are these trees
pub record AreOnlyTypings (w : Where) (ms : List GroupMember) (gs : List SignatureTree)
    (es : List Tree) : Type 0 where
  pub chosen : List Choice
  pub typings : ElaborateTo w ms gs es chosen
  pub only : (xs : List Tree) (cs : List Choice) → ElaborateTo w ms gs xs cs → xs ≡ es

-- the node of the first choice in which typings differ: two typings differ in it, and all agree in
-- the earlier ones
pub record AreFirstDifferent (w : Where) (ms : List GroupMember) (gs : List SignatureTree)
    (token : ℕ) : Type 0 where
  pub place : ℕ
  pub first_trees : List Tree
  pub second_trees : List Tree
  pub first : List Choice
  pub second : List Choice
  pub first_are : ElaborateTo w ms gs first_trees first
  pub second_are : ElaborateTo w ms gs second_trees second
  pub node : slice_get (tokens first) place ≡ Some token
  pub differ : slice_get (chosen_types first) place ≡ slice_get (chosen_types second) place → ⊥
  pub before : (xs ys : List Tree) (cs ds : List Choice) → ElaborateTo w ms gs xs cs
      → ElaborateTo w ms gs ys ds → (j : ℕ) → j < place
      → slice_get (chosen_types cs) j ≡ slice_get (chosen_types ds) j
