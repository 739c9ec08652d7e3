-- The facts of a task with other parts.
use Rattle.std.specs.Prelude.{IsSomeAnd}
use Rattle.std.proofs.Common.{Option, ◌≡◌, List, length, refl, subst}
use Rattle.tasks.specs.trees.Tree.{Tree}
use Rattle.tasks.specs.trees.Binding.{inst_types}
use Rattle.tasks.specs.declared.facts.Fact.{Fact}
use Rattle.tasks.specs.declared.facts.Fact.TheVariants as fact
use Rattle.tasks.specs.Task.{TaskTree, PropositionTree}
use Rattle.evidence.specs.Facts.{fact_named, IsFact}
use Rattle.evidence.specs.task_parts.Parts.{task_with}

-- a fact that another task has by another name
pub fact_renamed : (from u t : TaskTree) (name old : Fact) (types : List Tree) (formula : Tree) → fact_named u name ≡ fact_named t old → IsFact from u name types formula → IsFact from t old types formula
fact_renamed from u t name old types formula e f = record {
  said = subst (λ (o : Option PropositionTree). IsSomeAnd o (λ p. (length types ≡ p.vars) × (formula ≡ inst_types p.formula types))) e f.said;
  ground = f.ground;
}

-- where the declarations stay, the facts do
pub named_kept : (t : TaskTree) (params locals : List Tree) (goal : Tree) (name : Fact) → fact_named (task_with t t.decls params locals goal) name ≡ fact_named t name
named_kept t params locals goal (fact.Proposition k) = refl
named_kept t params locals goal (fact.Equation k) = refl
named_kept t params locals goal (fact.Clause k c) = refl
named_kept t params locals goal (fact.Inversion k) = refl
