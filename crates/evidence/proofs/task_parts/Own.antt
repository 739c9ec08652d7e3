-- What a valid task gives: its parameters are below their number.
use Rattle.std.proofs.Common.{◌≡◌, ℕ, ◌≤◌, length, All, sym, ap, subst, ◌∙◌, arith}
use Rattle.std.proofs.lemmas.List.{length-map}
use Rattle.std.proofs.lemmas.List.Elements.{All-weaker}
use Rattle.tasks.specs.trees.Tree.{Tree, above_params}
use Rattle.tasks.specs.trees.Node.{tree_at}
use Rattle.tasks.specs.declared.task.Task.{Task}
use Rattle.tasks.specs.Task.{TaskTree}
use Rattle.tasks.specs.Valid.{IsFormula}
use Rattle.tasks.specs.Meaning.{trees_at}
use Rattle.evidence.specs.Drafts.{DraftTree}
use Rattle.evidence.specs.Stages.{IsOwnTask}
use Rattle.tasks.specs.typed_trees.instances.Instances.{AreParamsBelow}
use Rattle.tasks.proofs.KeptInstances.{parameters_within}

pub own_count : (d : DraftTree) (from : Task) → IsOwnTask d from → length d.task.params ≡ length from.params
own_count d from o = sym (ap (λ (t : TaskTree). length t.params) o.is) ∙ length-map from.params (tree_at d.trees)

pub own_below : (d : DraftTree) (from : Task) (n : ℕ) → n ≡ length from.params → IsOwnTask d from → AreParamsBelow n (trees_at d.trees from.locals) (tree_at d.trees from.goal)
own_below d from n q o =
    let k : length d.task.params ≡ n = own_count d from o ∙ sym q in
    let l : All (λ e. above_params e ≤ n) d.task.locals = All-weaker (IsFormula d.task d.task.params 0) (λ e. above_params e ≤ n) (λ e f. omega (arith, k, parameters_within d.task.params e f.parameters)) d.task.locals o.valid.locals in
    let g : above_params d.task.goal ≤ n = omega (arith, k, parameters_within d.task.params d.task.goal o.valid.goal.parameters) in
    record {
      front = subst (All (λ e. above_params e ≤ n)) (sym (ap (λ (t : TaskTree). t.locals) o.is)) l;
      goal = subst (λ (e : Tree). above_params e ≤ n) (sym (ap (λ (t : TaskTree). t.goal) o.is)) g;
    }
