-- What steps that refute what was introduced from a goal are to refute.
use Rattle.std.specs.Prelude.{◌≡◌, ℕ, List, [], ◌∷◌, ◌++◌, length}
use Rattle.trees.specs.declared.Op.TheVariants.{Imp}
use Rattle.trees.specs.declared.TermId.{TermId}
use Rattle.trees.specs.Tree.{Tree, Two, HJoin, HForall}
use Rattle.trees.specs.declared.Sort.TheVariants.{Kind}
use Rattle.trees.specs.Sorts.{sort_of}
use Rattle.trees.specs.Node.{tree_at, Holds}
use Rattle.tasks.specs.Task.{TaskTree, neg}
use Rattle.rules.specs.Trees.{RuleTree, RNotForall, RNotImp}
use Rattle.rules.specs.Rows.{IsRuleRow}
use Rattle.evidence.specs.Drafts.{DraftTree, Refutes}
use Rattle.tr_introduce.specs.declared.openings.Beginning.{Beginning}
use Rattle.tr_introduce.specs.declared.openings.Beginning.TheVariants as begins
use Rattle.tr_introduce.specs.declared.refuting.Opening.{Opening}
use Rattle.tr_introduce.specs.declared.refuting.Opening.TheVariants as opens_at
use Rattle.tr_introduce.specs.Introduce.{introduced, judgement_sequent, prefix}
pub use Rattle.tasks.specs.typed_trees.instances.Instances.{AreParamsBelow}

-- a step refutes what is introduced from the goal over these locals, where parameters count from
-- this number
pub record EndsDraftAt (d : DraftTree) (end : ℕ) (front : List Tree) (goal : Tree)
    (number : ℕ) : Type 0 where
  pub params : List Tree
  pub as_many : length params ≡ number
  pub refutes : Refutes d end
      (judgement_sequent (introduced (record { params = params; locals = front; goal = goal })))

-- the rule on the negation of a quantifier, or on that of an implication
abbrev pub negation_rule : Opening → ℕ → RuleTree
negation_rule (opens_at.Universal number) i = RNotForall i number
negation_rule opens_at.Implication i = RNotImp i

-- the rule adds these formulas to a front with the negation of a goal
abbrev pub Opens : TaskTree → List Tree → Tree → RuleTree → List Tree → Type 0
Opens t front goal rule added =
    IsRuleRow t (front ++ neg goal ∷ []) rule (((front ++ neg goal ∷ []) ++ added) ∷ [])

-- what a formula begins with
abbrev pub IsBeginning : List Tree → TermId → Beginning → Type 0
IsBeginning s goal (begins.Universal ty body) =
    (tree_at s goal ≡ Two HForall (tree_at s ty) (tree_at s body)) × Holds s ty × Holds s body
    × (sort_of (tree_at s ty) ≡ Kind)
IsBeginning s goal (begins.Implication a b) =
    (tree_at s goal ≡ Two (HJoin Imp) (tree_at s a) (tree_at s b)) × Holds s a × Holds s b
IsBeginning s goal begins.Neither = prefix (tree_at s goal) ≡ 0
