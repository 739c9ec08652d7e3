-- What a valid task and the ends of its parts give.
use Rattle.std.specs.Prelude.{Ok}
use Rattle.std.proofs.Common.{◌≡◌, ℕ, ◌<◌, List, [], ◌∷◌, ◌++◌, length, map, get_or, All, sym, ap, subst, ◌∙◌, arith}
use Rattle.std.proofs.lemmas.List.{get_or-map, length-map}
use Rattle.std.proofs.lemmas.List.Elements.{All-map}
use Rattle.trees.specs.Tree.{Tree, Leaf, HEnd}
use Rattle.trees.specs.Node.{tree_at}
use Rattle.tasks.specs.declared.task.Task.{Task}
use Rattle.tasks.specs.declared.facts.Fact.{Fact}
use Rattle.tasks.specs.Task.{TaskTree, neg, start}
use Rattle.tasks.specs.Meaning.{trees_at}
use Rattle.tasks.specs.Copying.{with_goal}
use Rattle.evidence.specs.Drafts.{DraftTree, Refutes}
use Rattle.evidence.specs.Facts.{IsFact}
use Rattle.evidence.proofs.task_parts.Facts.{fact_renamed, named_kept}
use Rattle.tr_split.specs.parts.Kept.{parts_are_split}
use Rattle.evidence.specs.Stages.{Gives, IsAmong, IsOwnTask, EndIn, no_task, start_of}
use Rattle.tr_split.specs.parts.Split.{split, split_task}
use Rattle.tr_split.specs.parts.Glue.{EndsOfParts}

starts_at : (t : TaskTree) (es : List Tree) (i : ℕ) → i < length es → start_of (map (with_goal t) es) i ≡ t.locals ++ neg (get_or es i (Leaf HEnd)) ∷ []
starts_at t es i h = ap start (get_or-map (with_goal t) es i (Leaf HEnd) no_task h)

task_ends : (d : DraftTree) (ends : List ℕ) (tasks : List TaskTree) → tasks ≡ split_task d.task → EndIn d ends tasks → EndsOfParts d ends d.task.locals (split d.task.goal)
task_ends d ends tasks e u =
    let es = split d.task.goal in
    let n : length tasks ≡ length es = ap length e ∙ length-map es (with_goal d.task) in
    record {
      as_many = u.as_many ∙ n;
      each = λ i h. subst (λ (z : List Tree). Refutes d (get_or ends i 0) z) (ap (λ (ts : List TaskTree). start_of ts i) e ∙ starts_at d.task es i h) (u.each i (omega arith));
    }

pub own_ends : (d : DraftTree) (from : Task) (ends : List ℕ) (tasks : List TaskTree) → IsOwnTask d from → tasks ≡ split_task d.task → EndIn d ends tasks → EndsOfParts d ends (trees_at d.trees from.locals) (split (tree_at d.trees from.goal))
own_ends d from ends tasks o e u =
    let l : d.task.locals ≡ trees_at d.trees from.locals = sym (ap (λ (t : TaskTree). t.locals) o.is) in
    let g : d.task.goal ≡ tree_at d.trees from.goal = sym (ap (λ (t : TaskTree). t.goal) o.is) in
    subst (λ (z : Tree). EndsOfParts d ends (trees_at d.trees from.locals) (split z)) g (subst (λ (z : List Tree). EndsOfParts d ends z (split d.task.goal)) l (task_ends d ends tasks e u))

-- a fact of a task of the split is one of the old task
pub fact_kept : (from t : TaskTree) (name : Fact) (types : List Tree) (formula : Tree) → IsAmong (Gives (λ z. Ok (split_task z)) from) t → IsFact from t name types formula → IsFact from from name types formula
fact_kept from t name types formula a =
    let P : TaskTree → Type 0 = λ z. IsFact from z name types formula → IsFact from from name types formula in
    let said : (e : Tree) → P (with_goal from e) = λ e. fact_renamed from (with_goal from e) from name name types formula (named_kept from from.params from.locals e name) in
    let all : All P a.tasks = subst (All P) (sym (parts_are_split from a.tasks a.is)) (All-map P (with_goal from) (split from.goal) (λ k z h. said _)) in
    subst P a.there (all a.place no_task a.within)
