-- What steps by each rule ask of the steps before them.
use Rattle.std.specs.Prelude.{◌≡◌, ℕ, ◌+◌, zero, suc, List, [], ◌∷◌, ◌++◌, map, slice_get, All, Option, Some, IsSomeAnd}
use Rattle.trees.specs.declared.Op.{Op}
use Rattle.trees.specs.declared.Op.TheVariants.{And, AndThen, Or, OrElse, Imp, Iff}
use Rattle.trees.specs.Tree.{Tree}
use Rattle.trees.specs.Facts.{Each}
use Rattle.tasks.specs.Task.{TaskTree}
use Rattle.tasks.specs.Valid.{IsTypeOver}
use Rattle.rules.specs.Trees.{RuleTree, RAnd, RNotAnd, RAndThen, RNotAndThen, ROr, RNotOr, ROrElse, RNotOrElse, RImp, RNotImp, RIff, RNotIff, rule_trees, rule_types}
use Rattle.rules.specs.Forms.{negated, connected}
use Rattle.rules.specs.Rows.{IsRuleRow, where_true, where_false}
use Rattle.kernel.specs.Right.{IsGroundExpression}
use Rattle.evidence.specs.Drafts.{DraftTree, RefuteAll}

-- the terms, formulas and types that a rule names are those of the task
pub record NamesOwn (t : TaskTree) (r : RuleTree) : Type 0 where
  pub trees : Each (IsGroundExpression t) (rule_trees r)
  pub types : All (IsTypeOver t 0) (rule_types r)

-- steps, by number, refute what a rule adds to a sequent
pub record RefuteAdded (d : DraftTree) (sequent : List Tree) (r : RuleTree)
    (premises : List ℕ) : Type 0 where
  pub sequents : List (List Tree)
  pub refuted : RefuteAll d premises sequents
  pub row : IsRuleRow d.task sequent r sequents

-- the rule that takes a connective apart, and the one that takes its negation apart
abbrev pub holding_rule : Op → ℕ → RuleTree
holding_rule And i = RAnd i
holding_rule AndThen i = RAndThen i
holding_rule Or i = ROr i
holding_rule OrElse i = ROrElse i
holding_rule Imp i = RImp i
holding_rule Iff i = RIff i

abbrev pub failing_rule : Op → ℕ → RuleTree
failing_rule And i = RNotAnd i
failing_rule AndThen i = RNotAndThen i
failing_rule Or i = RNotOr i
failing_rule OrElse i = RNotOrElse i
failing_rule Imp i = RNotImp i
failing_rule Iff i = RNotIff i

-- steps refute a sequent with each list of formulas after it
abbrev pub RefuteAfter : DraftTree → List Tree → List ℕ → List (List Tree) → Type 0
RefuteAfter d sequent premises added = RefuteAll d premises (map (λ x. sequent ++ x) added)

-- the formula is a connective, and steps refute what it gives where it holds, or where its negation
-- holds
abbrev pub RefuteHolding : DraftTree → List Tree → Op → Option Tree → List ℕ → Type 0
RefuteHolding d sequent op f premises =
    IsSomeAnd (connected f) (λ p.
    (p.0 ≡ op) × RefuteAfter d sequent premises (where_true op p.1 p.2))

abbrev pub RefuteFailing : DraftTree → List Tree → Op → Option Tree → List ℕ → Type 0
RefuteFailing d sequent op f premises =
    IsSomeAnd (connected f) (λ p.
    (p.0 ≡ op) × RefuteAfter d sequent premises (where_false op p.1 p.2))

-- one formula of a list is the negation of another
abbrev pub Clash : List Tree → ℕ → ℕ → Type 0
Clash es i j = IsSomeAnd (negated (slice_get es j)) (λ a. slice_get es i ≡ Some a)

-- so many numbers from this one on
abbrev pub counted : ℕ → ℕ → List ℕ
counted from zero = []
counted from (suc n) = from ∷ counted (from + 1) n
