-- Evidence that two closed expressions are alike.
use Rattle.std.specs.Prelude.{◌≡◌, ℕ, [], ◌∷◌, Some}
use Rattle.trees.specs.declared.TermId.{TermId}
use Rattle.trees.specs.declared.Sort.TheVariants.{Term, Formula}
use Rattle.trees.specs.Tree.{Tree}
use Rattle.trees.specs.Binding.{inst}
use Rattle.trees.specs.Node.{tree_at, Holds}
use Rattle.trees.specs.Sorts.{sort_of, type_of}
use Rattle.tasks.specs.Task.{TaskTree, neg}
use Rattle.tasks.specs.Vocabulary.{of_task}
use Rattle.tasks.specs.Typing.{TypedUnder}
use Rattle.tasks.specs.Valid.{IsGround}
use Rattle.rules.specs.Forms.{equal}
use Rattle.rules.specs.Rows.{IsTemplate}
use Rattle.kernel.specs.Right.{IsGroundExpression}
use Rattle.evidence.specs.Drafts.{DraftTree, Refutes}
use Rattle.congruence.specs.declared.alike.AlikeBy.{AlikeBy}
use Rattle.congruence.specs.declared.alike.AlikeBy.TheVariants as alike

-- the number of a closed term or formula of the draft's task
pub record IsClosedAt (d : DraftTree) (id : TermId) : Type 0 where
  pub held : Holds d.trees id
  pub ground : IsGroundExpression d.task (tree_at d.trees id)

-- the two halves of an equivalence
pub record HasHalves (d : DraftTree) (l r : Tree) (i j : ℕ) : Type 0 where
  pub there : Refutes d i (l ∷ neg r ∷ [])
  pub back : Refutes d j (r ∷ neg l ∷ [])

-- What evidence shows of two trees: that they are one; that two terms are equal, by a step that
-- refutes the negation; that two formulas are equivalent, by a step for each half.
abbrev pub Shows : DraftTree → AlikeBy → Tree → Tree → Type 0
Shows d alike.Same l r = l ≡ r
Shows d (alike.Terms k) l r = (sort_of l ≡ Term) × Refutes d k (neg (equal l r) ∷ [])
Shows d (alike.Formulas i j) l r = (sort_of l ≡ Formula) × HasHalves d l r i j

-- two closed expressions of one sort and type
pub record ArePair (d : DraftTree) (l r : TermId) : Type 0 where
  pub left : IsClosedAt d l
  pub right : IsClosedAt d r
  pub sort : sort_of (tree_at d.trees r) ≡ sort_of (tree_at d.trees l)
  pub type : type_of (tree_at d.trees r) ≡ type_of (tree_at d.trees l)

-- The number of a tree with a hole, the variable 0, and two closed expressions that differ there
-- alone: by terms `a` and `b`.
pub record IsHole (d : DraftTree) (hole l r a b : TermId) (ty : Tree) : Type 0 where
  pub held : Holds d.trees hole
  pub sort : sort_of (tree_at d.trees hole) ≡ sort_of (tree_at d.trees l)
  pub typed : TypedUnder (of_task d.task) (ty ∷ []) (tree_at d.trees hole)
  pub ground : IsGround (tree_at d.trees hole)
  pub left : tree_at d.trees l ≡ inst (tree_at d.trees hole) (tree_at d.trees a)
  pub right : tree_at d.trees r ≡ inst (tree_at d.trees hole) (tree_at d.trees b)

-- a formula with the variable 0 open, at the type of this term
abbrev pub TemplateFor : TaskTree → Tree → Tree → Type 0
TemplateFor t a e = (ty : Tree) × ((type_of a ≡ Some ty) × IsTemplate t ty e)

-- the negation of an equation of a term with itself
abbrev pub IsIrreflexive : Tree → Type 0
IsIrreflexive e = (x : Tree) × (e ≡ neg (equal x x))

-- such a tree at the type of the term `a`
abbrev pub HoleAt : DraftTree → (hole l r a b : TermId) → Type 0
HoleAt d hole l r a b =
    (ty : Tree) × ((type_of (tree_at d.trees a) ≡ Some ty) × IsHole d hole l r a b ty)
