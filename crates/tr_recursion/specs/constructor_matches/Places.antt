-- What closed terms are put into, with these terms there, by numbers in a draft.
use Rattle.std.specs.Prelude.{◌≡◌, ℕ, List, ◌∷◌, ◌++◌, All}
use Rattle.trees.specs.declared.TermId.{TermId}
use Rattle.trees.specs.declared.Sort.TheVariants.{Term}
use Rattle.trees.specs.Tree.{Tree, Three, HFun}
use Rattle.trees.specs.Node.{tree_at, trees_at, Holds}
use Rattle.trees.specs.Binding.{inst_many}
use Rattle.trees.specs.Sorts.{sort_of}
use Rattle.tasks.specs.Equations.{cells}
use Rattle.tasks.specs.Vocabulary.{of_task}
use Rattle.tasks.specs.Typing.{TypedUnder}
use Rattle.tasks.specs.Valid.{IsGround}
use Rattle.evidence.specs.Drafts.{DraftTree}
use Rattle.congruence.specs.tasks.typed_trees.instances.Instances.{AreFor}
use Rattle.congruence.specs.Alike.{IsClosedAt, ArePair}
use Rattle.congruence.specs.Applications.{IsSymbolHeld}
use Rattle.congruence.specs.declared.applications.SymbolAt.TheVariants as symbol
use Rattle.tr_recursion.specs.declared.constructor_matches.replacing.Around.{Around}
use Rattle.tr_recursion.specs.declared.constructor_matches.replacing.Around.TheVariants.{Application, Open}
use Rattle.tr_recursion.specs.constructor_matches.Fields.{AreEach, IsFieldPair}

-- a function at types, of a type, on a list of arguments
abbrev pub applied_to : List Tree → ℕ → TermId → TermId → List Tree → Tree
applied_to s f types ty us = Three (HFun f) (tree_at s types) (cells us) (tree_at s ty)

abbrev pub with_terms : List Tree → Around → List Tree → Tree
with_terms s (Application f types ty) us = applied_to s f types ty us
with_terms s (Open e) us = inst_many (tree_at s e) us

-- the number of a closed term
pub record IsHeldTerm (d : DraftTree) (id : TermId) : Type 0 where
  pub closed : IsClosedAt d id
  pub term : sort_of (tree_at d.trees id) ≡ Term

abbrev pub AreClosedTerms : DraftTree → List TermId → Type 0
AreClosedTerms d ids = All (IsHeldTerm d) ids

-- an open tree, and closed terms for its variables
pub record IsOpenTree (d : DraftTree) (e : TermId) (us : List Tree) : Type 0 where
  pub held : Holds d.trees e
  pub types : List Tree
  pub typed : TypedUnder (of_task d.task) types (tree_at d.trees e)
  pub ground : IsGround (tree_at d.trees e)
  pub terms : AreFor (of_task d.task) types us

abbrev pub IsAround : DraftTree → Around → List Tree → Type 0
IsAround d (Application f types ty) us = IsSymbolHeld d.trees (symbol.Function f types ty)
IsAround d (Open e) us = IsOpenTree d e us

-- terms there, one of which is of the sort and type of another term
pub record CanReplaceOne (d : DraftTree) (around : Around) (before : List TermId)
    (left a b : TermId) (following : List TermId) : Type 0 where
  pub around_held : IsAround d around
      (trees_at d.trees before ++ tree_at d.trees a ∷ trees_at d.trees following)
  pub before_terms : AreClosedTerms d before
  pub after_terms : AreClosedTerms d following
  pub whole : IsClosedAt d left
  pub pair : ArePair d a b
  pub term : sort_of (tree_at d.trees a) ≡ Term
  pub is : tree_at d.trees left
      ≡ with_terms d.trees around
      (trees_at d.trees before ++ tree_at d.trees a ∷ trees_at d.trees following)

-- terms there, the last of which are projections of a constructor's application
pub record CanReplaceProjections (d : DraftTree) (around : Around) (before : List TermId)
    (left : TermId) (terms fields : List TermId) : Type 0 where
  pub around_held : IsAround d around (trees_at d.trees before ++ trees_at d.trees terms)
  pub before_terms : AreClosedTerms d before
  pub whole : IsClosedAt d left
  pub is : tree_at d.trees left
      ≡ with_terms d.trees around (trees_at d.trees before ++ trees_at d.trees terms)
  pub pairs : AreEach (IsFieldPair d) terms fields
