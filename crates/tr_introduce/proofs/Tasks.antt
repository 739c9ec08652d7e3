-- What a valid task, the facts of what it becomes, and the end of its part give.
use Rattle.std.proofs.Common.{◌≡◌, ℕ, List, [], ◌∷◌, length, get_or, sym, ap, subst, ◌∙◌}
use Rattle.trees.specs.Tree.{Tree}
use Rattle.trees.specs.Node.{tree_at}
use Rattle.tasks.specs.declared.task.Task.{Task}
use Rattle.tasks.specs.declared.facts.Fact.{Fact}
use Rattle.tasks.specs.Task.{TaskTree}
use Rattle.tasks.specs.Meaning.{trees_at}
use Rattle.evidence.specs.Drafts.{DraftTree, Refutes}
use Rattle.evidence.specs.Facts.{IsFact}
use Rattle.evidence.specs.Stages.{Gives, IsAmong, IsOwnTask, EndIn, limited_gives}
use Rattle.evidence.proofs.task_parts.One.{among_one, end_of_one}
use Rattle.evidence.proofs.task_parts.Facts.{fact_renamed, named_kept}
use Rattle.evidence.proofs.task_parts.Own.{own_count}
use Rattle.tr_introduce.specs.Introduce.{Judgement, introduced, judgement_of, introduced_task, introduce_equation, judgement_sequent}
use Rattle.tr_introduce.specs.Steps.{EndsDraftAt}

abbrev own_judgement : List Tree → List Tree → Tree → Judgement
own_judgement params locals goal = record { params = params; locals = locals; goal = goal }

-- the tasks that the equation gives
pub one_introduced : (t : TaskTree) (ts : List TaskTree) → Gives introduce_equation t ts → ts ≡ introduced_task t ∷ []
one_introduced t ts e = limited_gives (introduced_task t ∷ []) ts e

pub own_end : (d : DraftTree) (from : Task) (n : ℕ) (ends : List ℕ) (tasks : List TaskTree) → n ≡ length from.params → IsOwnTask d from → Gives introduce_equation d.task tasks → EndIn d ends tasks
    → EndsDraftAt d (get_or ends 0 0) (trees_at d.trees from.locals) (tree_at d.trees from.goal) n
own_end d from n ends tasks q o g u =
    let r = end_of_one d ends tasks (introduced_task d.task) (one_introduced d.task tasks g) u in
    let j : judgement_of d.task ≡ record { params = d.task.params; locals = trees_at d.trees from.locals; goal = tree_at d.trees from.goal } =
    ap (λ (ls : List Tree). own_judgement d.task.params ls d.task.goal) (sym (ap (λ (t : TaskTree). t.locals) o.is))
    ∙ ap (own_judgement d.task.params (trees_at d.trees from.locals)) (sym (ap (λ (t : TaskTree). t.goal) o.is)) in
    record {
      params = d.task.params;
      as_many = own_count d from o ∙ sym q;
      refutes = subst (Refutes d (get_or ends 0 0)) (ap (λ (z : Judgement). judgement_sequent (introduced z)) j) r;
    }

-- a fact of the task is one of the old task
pub fact_kept : (from t : TaskTree) (name : Fact) (types : List Tree) (formula : Tree) → IsAmong (Gives introduce_equation from) t → IsFact from t name types formula → IsFact from from name types formula
fact_kept from t name types formula a =
    let j = introduced (judgement_of from) in
    among_one (λ z. IsFact from z name types formula → IsFact from from name types formula) (Gives introduce_equation from) (introduced_task from) t a (one_introduced from a.tasks a.is)
    (λ f. fact_renamed from (introduced_task from) from name name types formula (named_kept from j.params j.locals j.goal name) f)
