-- The first conditional of an open atom at an environment, by numbers in a draft.
use Rattle.std.specs.Prelude.{◌≡◌, ℕ, ◌<◌, ◌≤◌, List, [], ◌∷◌, length, All, Some}
use Rattle.tasks.specs.trees.declared.TermId.{TermId}
use Rattle.tasks.specs.trees.declared.Sort.TheVariants.{Term, Formula}
use Rattle.tasks.specs.trees.Tree.{Tree, head_of, loose, size, above_params}
use Rattle.tasks.specs.trees.Node.{tree_at, trees_at, Holds}
use Rattle.tasks.specs.trees.Binding.{inst, inst_many}
use Rattle.tasks.specs.trees.Sorts.{sort_of, type_of, IsExpression}
use Rattle.tasks.specs.Vocabulary.{of_task}
use Rattle.tasks.specs.Typing.{TypedUnder}
use Rattle.tasks.specs.Valid.{IsGround}
use Rattle.evidence.specs.Drafts.{DraftTree}
use Rattle.evidence.specs.images.Open.{IsEnvironment, IsOpenUnder}
use Rattle.congruence.specs.Conditionals.{IsConditional, IsIfAt}
use Rattle.tr_if.specs.conditionals.Conditionals.{implications, first_if, replace_first, cases_over}
use Rattle.tr_if.specs.conditionals.Laws.{is_atom_head}
use Rattle.walking.specs.Places.{types_for, IsInstanceAt}
use Rattle.tr_if.specs.Values.{IsPlacedTerm}
use Rattle.tr_if.specs.declared.places.OpenAtom.{OpenAtom}
use Rattle.tr_if.specs.declared.firsts.FirstCase.{FirstCase}
use Rattle.tr_if.specs.declared.values.PlacedTerm.{PlacedTerm}

-- what an open expression needs to have an instance at an environment
pub record IsOpenAt (d : DraftTree) (env : List TermId) (e : TermId) (fresh : ℕ) : Type 0 where
  pub env_held : All (Holds d.trees) env
  pub held : Holds d.trees e
  pub sort : IsExpression (sort_of (tree_at d.trees e))
  pub own : above_params (tree_at d.trees e) ≤ length d.task.params
  pub order : length d.task.params ≤ fresh
  pub around : IsEnvironment d.task (types_for (trees_at d.trees env)) (trees_at d.trees env) fresh
  pub shape : IsOpenUnder d.task (types_for (trees_at d.trees env)) (tree_at d.trees e) fresh

-- an atom and its instance
pub record IsAtomAt (d : DraftTree) (env : List TermId) (a : OpenAtom) (fresh : ℕ) : Type 0 where
  pub place : IsInstanceAt d env a.formula a.left fresh
  pub atom : is_atom_head (head_of (tree_at d.trees a.formula))

-- the number of the first conditional
pub record IsFirstOf (d : DraftTree) (a : Tree) (w : TermId) : Type 0 where
  pub held : Holds d.trees w
  pub first : first_if a ≡ Some (tree_at d.trees w)

-- an open term of the type of a conditional
pub record IsPartFor (d : DraftTree) (env : List TermId) (w part : TermId)
    (fresh : ℕ) : Type 0 where
  pub place : IsOpenAt d env part fresh
  pub term : sort_of (tree_at d.trees part) ≡ Term
  pub type : type_of (tree_at d.trees part) ≡ type_of (tree_at d.trees w)

-- A formula with a hole, the variable 0: with the instance of a term in it, it is the instance of
-- the atom that has the term in the place of its first conditional.
pub record IsHoleOf (d : DraftTree) (env : List TermId) (a w : Tree) (hole : TermId) : Type 0 where
  pub held : Holds d.trees hole
  pub ty : Tree
  pub type : type_of w ≡ Some ty
  pub sort : sort_of (tree_at d.trees hole) ≡ Formula
  pub typed : TypedUnder (of_task d.task) (ty ∷ []) (tree_at d.trees hole)
  pub ground : IsGround (tree_at d.trees hole)
  pub fills : (z : Tree) → loose (inst_many z (trees_at d.trees env)) ≡ 0
      → inst (tree_at d.trees hole) (inst_many z (trees_at d.trees env))
      ≡ inst_many (replace_first a z) (trees_at d.trees env)

abbrev pub then_terms : OpenAtom → FirstCase → PlacedTerm
then_terms a k = record {
  hole = k.hole;
  left = a.left;
  right = k.first.left;
  old =
      k.at.whole;
  new = k.at.then_part;
}

abbrev pub else_terms : OpenAtom → FirstCase → PlacedTerm
else_terms a k = record {
  hole = k.hole;
  left = a.left;
  right = k.second.left;
  old =
      k.at.whole;
  new = k.at.else_part;
}

-- an atom by cases on its first conditional
pub record IsFirstCase (d : DraftTree) (env : List TermId) (a : OpenAtom) (fresh : ℕ)
    (k : FirstCase) : Type 0 where
  pub condition : IsInstanceAt d env k.condition k.at.condition fresh
  pub at : IsConditional d k.at
  pub is : IsIfAt d k.at
  pub first : IsAtomAt d env k.first fresh
  pub second : IsAtomAt d env k.second fresh
  pub then_placed : IsPlacedTerm d (then_terms a k)
  pub else_placed : IsPlacedTerm d (else_terms a k)
  pub cases : cases_over (tree_at d.trees a.formula) (λ u. u)
      ≡ implications (tree_at d.trees k.condition)
      (cases_over (tree_at d.trees k.first.formula) (λ u. u))
      (cases_over (tree_at d.trees k.second.formula) (λ u. u))
  pub first_smaller : size (tree_at d.trees k.first.formula) < size (tree_at d.trees a.formula)
  pub second_smaller : size (tree_at d.trees k.second.formula) < size (tree_at d.trees a.formula)
