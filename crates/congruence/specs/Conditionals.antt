-- Conditionals: an expression that is alike one thing where a condition holds, and another where it
-- doesn't. An `if` is one, and a `match` with more branches than one, by the test of its first
-- pattern.
use Rattle.std.specs.Prelude.{◌≡◌, ℕ, [], ◌∷◌}
use Rattle.trees.specs.declared.TermId.{TermId}
use Rattle.trees.specs.Tree.{Tree, Leaf, Two, Three, HEnd, HCell, HArm, HCase, HIf, head_of}
use Rattle.trees.specs.Node.{tree_at}
use Rattle.trees.specs.Binding.{inst_many}
use Rattle.tasks.specs.Task.{TaskTree, neg}
use Rattle.tasks.specs.MatchTests.{test, bind}
use Rattle.rules.specs.Forms.{alike}
use Rattle.evidence.specs.Drafts.{DraftTree, Refutes, IsFormulaAt}
use Rattle.congruence.specs.declared.conditionals.Conditional.{Conditional}
use Rattle.congruence.specs.declared.conditionals.CaseValues.{CaseValues}
use Rattle.congruence.specs.declared.cases.Case.{Case}
use Rattle.congruence.specs.declared.cases.CaseLinks.{CaseLinks}
use Rattle.congruence.specs.Alike.{IsClosedAt, ArePair, Shows}

-- numbers of a closed expression, of a formula, and of two expressions of its sort and type
pub record IsConditional (d : DraftTree) (k : Conditional) : Type 0 where
  pub whole : IsClosedAt d k.whole
  pub condition : IsFormulaAt d k.condition
  pub then_part : ArePair d k.whole k.then_part
  pub else_part : ArePair d k.whole k.else_part

-- a `match` with more than one branch: its first pattern's test, the first body at the pattern's
-- terms, and the `match` with the other branches
pub record IsMatchCases (t : TaskTree) (e c a b : Tree) : Type 0 where
  pub scrutinee : Tree
  pub pattern : Tree
  pub body : Tree
  pub rest : Tree
  pub is : e ≡ Two HCase scrutinee (Two HCell (Two HArm pattern body) rest)
  pub more : head_of rest ≡ HCell
  pub condition : c ≡ test t pattern scrutinee
  pub first : a ≡ inst_many body (bind t pattern scrutinee)
  pub others : b ≡ Two HCase scrutinee rest

-- the numbers are those of an `if` and its parts
abbrev pub IsIfAt : DraftTree → Conditional → Type 0
IsIfAt d k = tree_at d.trees k.whole
    ≡ Three HIf (tree_at d.trees k.condition) (tree_at d.trees k.then_part)
    (tree_at d.trees k.else_part)

-- the numbers are those of a `match` with more branches than one
abbrev pub IsMatchAt : DraftTree → Conditional → Type 0
IsMatchAt d k = IsMatchCases d.task (tree_at d.trees k.whole) (tree_at d.trees k.condition)
    (tree_at d.trees k.then_part) (tree_at d.trees k.else_part)

-- a `match` with one branch, and its body at the pattern's terms
pub record IsLastBranch (t : TaskTree) (e x : Tree) : Type 0 where
  pub scrutinee : Tree
  pub pattern : Tree
  pub body : Tree
  pub is : e ≡ Two HCase scrutinee (Two HCell (Two HArm pattern body) (Leaf HEnd))
  pub first : x ≡ inst_many body (bind t pattern scrutinee)

-- steps that show, under the condition and under its negation, which part the whole is alike
pub record HasValues (d : DraftTree) (k : Conditional) (v : CaseValues) : Type 0 where
  pub then_value : Refutes d v.then_value
      (tree_at d.trees k.condition
      ∷ neg (alike (tree_at d.trees k.whole) (tree_at d.trees k.then_part)) ∷ [])
  pub else_value : Refutes d v.else_value
      (neg (tree_at d.trees k.condition)
      ∷ neg (alike (tree_at d.trees k.whole) (tree_at d.trees k.else_part)) ∷ [])

-- the conditions of two conditionals are equivalent, and their parts alike
pub record AreLinked (d : DraftTree) (l r : Conditional) (w : CaseLinks) : Type 0 where
  pub condition : Shows d w.condition (tree_at d.trees l.condition) (tree_at d.trees r.condition)
  pub then_part : Shows d w.then_part (tree_at d.trees l.then_part) (tree_at d.trees r.then_part)
  pub else_part : Shows d w.else_part (tree_at d.trees l.else_part) (tree_at d.trees r.else_part)

-- an expression is alike a part under a hypothesis, by a step
pub record IsCase (d : DraftTree) (k : Case) : Type 0 where
  pub pair : ArePair d k.whole k.part
  pub hypothesis : IsFormulaAt d k.hypothesis
  pub value : Refutes d k.value
      (tree_at d.trees k.hypothesis
      ∷ neg (alike (tree_at d.trees k.whole) (tree_at d.trees k.part)) ∷ [])

-- steps by which the whole gives another formula under the hypothesis, and the part gives the whole
pub record HasCaseHalves (d : DraftTree) (k : Case) (other : TermId) (i j : ℕ) : Type 0 where
  pub there : Refutes d i (tree_at d.trees k.hypothesis ∷ tree_at d.trees k.whole
      ∷ neg (tree_at d.trees other) ∷ [])
  pub back : Refutes d j (tree_at d.trees k.hypothesis ∷ tree_at d.trees k.part
      ∷ neg (tree_at d.trees k.whole) ∷ [])
