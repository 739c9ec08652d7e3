-- Rules and steps in trees: what clauses speak of, in place of numbers in a store.
use Rattle.std.specs.Prelude.{ℕ, ℤ, List, [], ◌∷◌, map, get_or}
use Rattle.trees.specs.Tree.{Tree}

-- a rule of the tableau calculus, with its places and trees, in the order of the table
pub data RuleTree : Type 0 where
  RFalse : ℕ → RuleTree
  RNotTrue : ℕ → RuleTree
  RClash : ℕ → ℕ → RuleTree
  RIrrefl : ℕ → RuleTree
  RDistinct : ℕ → RuleTree
  RLinear : List (ℕ × ℤ) → RuleTree
  RNotNot : ℕ → RuleTree
  RAnd : ℕ → RuleTree
  RNotAnd : ℕ → RuleTree
  RAndThen : ℕ → RuleTree
  RNotAndThen : ℕ → RuleTree
  ROr : ℕ → RuleTree
  RNotOr : ℕ → RuleTree
  ROrElse : ℕ → RuleTree
  RNotOrElse : ℕ → RuleTree
  RImp : ℕ → RuleTree
  RNotImp : ℕ → RuleTree
  RIff : ℕ → RuleTree
  RNotIff : ℕ → RuleTree
  RForall : ℕ → Tree → RuleTree
  RNotForall : ℕ → ℕ → RuleTree
  RExists : ℕ → ℕ → RuleTree
  RNotExists : ℕ → Tree → RuleTree
  RCut : Tree → RuleTree
  RKeep : List ℕ → RuleTree
  RRefl : Tree → RuleTree
  RReplace : ℕ → ℕ → Tree → RuleTree
  RLetDef : Tree → RuleTree
  RIfDef : Tree → RuleTree
  RMatchDef : Tree → RuleTree
  RFact : ℕ → List Tree → RuleTree
  RDef : ℕ → List Tree → RuleTree
  RClause : ℕ → ℕ → List Tree → RuleTree
  RInv : ℕ → List Tree → RuleTree
  RCase : Tree → RuleTree
  RInject : ℕ → RuleTree
  RProject : Tree → RuleTree
  RTrichotomy : Tree → Tree → RuleTree
  RBound : Tree → ℤ → RuleTree

-- the terms and formulas that a rule names, but for the template of `replace`, which is open
abbrev pub rule_trees : RuleTree → List Tree
rule_trees (RForall i t) = t ∷ []
rule_trees (RNotExists i t) = t ∷ []
rule_trees (RCut a) = a ∷ []
rule_trees (RRefl t) = t ∷ []
rule_trees (RLetDef e) = e ∷ []
rule_trees (RIfDef e) = e ∷ []
rule_trees (RMatchDef e) = e ∷ []
rule_trees (RCase t) = t ∷ []
rule_trees (RProject e) = e ∷ []
rule_trees (RTrichotomy a b) = a ∷ b ∷ []
rule_trees (RBound t n) = t ∷ []
rule_trees _ = []

-- the types that a rule names
abbrev pub rule_types : RuleTree → List Tree
rule_types (RFact k types) = types
rule_types (RDef k types) = types
rule_types (RClause k c types) = types
rule_types (RInv k types) = types
rule_types _ = []

-- a sequent, the rule that refutes it, and the earlier steps that the rule takes
pub record StepTree : Type 0 where
  pub sequent : List Tree
  pub rule : RuleTree
  pub premises : List ℕ

-- is where a list has no step
abbrev pub no_step : StepTree
no_step = record { sequent = []; rule = RKeep []; premises = [] }

abbrev pub step_or : List StepTree → ℕ → StepTree
step_or steps k = get_or steps k no_step

-- the sequents of premises
abbrev pub sequents : List StepTree → List ℕ → List (List Tree)
sequents before premises = map (λ k. (step_or before k).sequent) premises
