-- What rules and steps in a store stand for, and what is tried of a rule at a step. That their
-- numbers are held is said apart.
use Rattle.std.specs.Prelude.{◌≡◌, ℕ, ◌<◌, List, [], map, length, All}
use Rattle.trees.specs.declared.TermId.{TermId}
use Rattle.trees.specs.Tree.{Tree, loose}
use Rattle.trees.specs.Node.{tree_at, Holds}
use Rattle.tasks.specs.Task.{TaskTree}
use Rattle.tasks.specs.Meaning.{trees_at, task_at}
use Rattle.tasks.specs.Looking.{LookupHeld}
use Rattle.rules.specs.declared.rule.Step.{Step}
use Rattle.rules.specs.declared.rule.Rule.{Rule}
use Rattle.rules.specs.declared.rule.Rule.TheVariants.{False, NotTrue, Clash, Irrefl, Distinct, Linear, NotNot, And, NotAnd, AndThen, NotAndThen, Or, NotOr, OrElse, NotOrElse, Imp, NotImp, Iff, NotIff, Forall, NotForall, Exists, NotExists, Cut, Keep, Refl, Replace, LetDef, IfDef, MatchDef, Fact, Def, Clause, Inv, Case, Inject, Project, Trichotomy, Bound}
use Rattle.rules.specs.declared.tried.Tried.{Tried}
use Rattle.rules.specs.Trees.{RuleTree, RFalse, RNotTrue, RClash, RIrrefl, RDistinct, RLinear, RNotNot, RAnd, RNotAnd, RAndThen, RNotAndThen, ROr, RNotOr, ROrElse, RNotOrElse, RImp, RNotImp, RIff, RNotIff, RForall, RNotForall, RExists, RNotExists, RCut, RKeep, RRefl, RReplace, RLetDef, RIfDef, RMatchDef, RFact, RDef, RClause, RInv, RCase, RInject, RProject, RTrichotomy, RBound, StepTree, sequents}
use Rattle.rules.specs.Rows.{IsRuleRow}
pub use Rattle.linear_leaf.specs.Uses.{pair_at}

abbrev pub rule_at : List Tree → Rule → RuleTree
rule_at s (False i) = RFalse i
rule_at s (NotTrue i) = RNotTrue i
rule_at s (Clash i j) = RClash i j
rule_at s (Irrefl i) = RIrrefl i
rule_at s (Distinct i) = RDistinct i
rule_at s (Linear uses) = RLinear uses
rule_at s (NotNot i) = RNotNot i
rule_at s (And i) = RAnd i
rule_at s (NotAnd i) = RNotAnd i
rule_at s (AndThen i) = RAndThen i
rule_at s (NotAndThen i) = RNotAndThen i
rule_at s (Or i) = ROr i
rule_at s (NotOr i) = RNotOr i
rule_at s (OrElse i) = ROrElse i
rule_at s (NotOrElse i) = RNotOrElse i
rule_at s (Imp i) = RImp i
rule_at s (NotImp i) = RNotImp i
rule_at s (Iff i) = RIff i
rule_at s (NotIff i) = RNotIff i
rule_at s (Forall i e) = RForall i (tree_at s e)
rule_at s (NotForall i n) = RNotForall i n
rule_at s (Exists i n) = RExists i n
rule_at s (NotExists i e) = RNotExists i (tree_at s e)
rule_at s (Cut e) = RCut (tree_at s e)
rule_at s (Keep places) = RKeep places
rule_at s (Refl e) = RRefl (tree_at s e)
rule_at s (Replace i j e) = RReplace i j (tree_at s e)
rule_at s (LetDef e) = RLetDef (tree_at s e)
rule_at s (IfDef e) = RIfDef (tree_at s e)
rule_at s (MatchDef e) = RMatchDef (tree_at s e)
rule_at s (Fact k types) = RFact k (trees_at s types)
rule_at s (Def k types) = RDef k (trees_at s types)
rule_at s (Clause k c types) = RClause k c (trees_at s types)
rule_at s (Inv k types) = RInv k (trees_at s types)
rule_at s (Case e) = RCase (tree_at s e)
rule_at s (Inject i) = RInject i
rule_at s (Project e) = RProject (tree_at s e)
rule_at s (Trichotomy a b) = RTrichotomy (tree_at s a) (tree_at s b)
rule_at s (Bound e n) = RBound (tree_at s e) n

-- the types that a rule names
abbrev pub types_in : Rule → List TermId
types_in (Fact k types) = types
types_in (Def k types) = types
types_in (Clause k c types) = types
types_in (Inv k types) = types
types_in _ = []

-- the numbers in a rule are held
abbrev pub RuleHeld : List Tree → Rule → Type 0
RuleHeld s (Forall i e) = Holds s e
RuleHeld s (NotExists i e) = Holds s e
RuleHeld s (Cut e) = Holds s e
RuleHeld s (Refl e) = Holds s e
RuleHeld s (Replace i j e) = Holds s e
RuleHeld s (LetDef e) = Holds s e
RuleHeld s (IfDef e) = Holds s e
RuleHeld s (MatchDef e) = Holds s e
RuleHeld s (Fact k types) = All (Holds s) types
RuleHeld s (Def k types) = All (Holds s) types
RuleHeld s (Clause k c types) = All (Holds s) types
RuleHeld s (Inv k types) = All (Holds s) types
RuleHeld s (Case e) = Holds s e
RuleHeld s (Project e) = Holds s e
RuleHeld s (Trichotomy a b) = Holds s a × Holds s b
RuleHeld s (Bound e n) = Holds s e
RuleHeld s _ = Unit {0}

abbrev pub step_at : List Tree → Step → StepTree
step_at s st =
    record { sequent = trees_at s st.sequent; rule = rule_at s st.rule; premises = st.premises }

abbrev pub steps_at : List Tree → List Step → List StepTree
steps_at s steps = map (step_at s) steps

pub record StepHeld (s : List Tree) (st : Step) : Type 0 where
  pub sequent : All (Holds s) st.sequent
  pub rule : RuleHeld s st.rule

abbrev pub StepsHeld : List Tree → List Step → Type 0
StepsHeld s steps = All (StepHeld s) steps

-- the sequent at which a rule is tried, and those of its premises
abbrev pub sequent_of : Tried → List Tree
sequent_of x = trees_at x.store.now x.sequent.now

abbrev pub premises_of : Tried → List (List Tree)
premises_of x = sequents (steps_at x.store.now x.before.now) x.premises.now

-- the task for which it is tried
abbrev pub task_of : Tried → TaskTree
task_of x = task_at x.store.now x.look.now.task.now

-- the row of a rule holds there
abbrev pub RowOf : Tried → RuleTree → Type 0
RowOf x r = IsRuleRow (task_of x) (sequent_of x) r (premises_of x)

-- the numbers are held, the sequent is closed, and the premises are earlier steps
pub record TriedHeld (x : Tried) : Type 0 where
  pub look : LookupHeld x.store.now x.look.now
  pub sequent : All (Holds x.store.now) x.sequent.now
  pub closed : All (λ a. loose (tree_at x.store.now a) ≡ 0) x.sequent.now
  pub before : StepsHeld x.store.now x.before.now
  pub earlier : All (λ k. k < length x.before.now) x.premises.now

abbrev pub no_id : TermId
no_id = record { 0 = 0 }

abbrev pub PairHeld : List Tree → TermId × TermId → Type 0
PairHeld s p = Holds s p.0 × Holds s p.1

-- a function's symbol, types and arguments
abbrev pub applied_at : List Tree → ℕ × TermId × TermId → ℕ × Tree × Tree
applied_at s p = (p.0, tree_at s p.1, tree_at s p.2)

abbrev pub AppliedHeld : List Tree → ℕ × TermId × TermId → Type 0
AppliedHeld s p = Holds s p.1 × Holds s p.2
