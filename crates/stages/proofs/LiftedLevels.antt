-- A derivation of each task of a level, level by level, from the last one to the first.
use Rattle.std.proofs.Common.{◌≡◌, ◌∙◌, ◌<◌, ◌≤◌, ◌+◌, ℕ, List, [], ◌∷◌, ◌++◌, length, map, get_or, take, ap, refl, sym, subst, arith}
use Rattle.std.proofs.lemmas.List.{length-append, length-map, length-take-le, take_all}
use Rattle.tasks.specs.trees.Tree.{Tree}
use Rattle.tasks.specs.trees.Node.{Grows}
use Rattle.tasks.proofs.trees.Nodes.{Grows_refl, Grows_trans}
use Rattle.tasks.specs.declared.task.Task.{Task}
use Rattle.tasks.specs.Task.{TaskTree}
use Rattle.tasks.specs.Meaning.{tasks_at}
use Rattle.tasks.proofs.Growth.{tasks_later, tasks_held_later}
use Rattle.kernel.specs.rules.declared.rule.Step.{Step}
use Rattle.kernel.specs.rules.Trees.{StepTree}
use Rattle.evidence.specs.Stages.{StageEquation, PartsClose, PartsHeld, parts_at}
use Rattle.stages.specs.declared.task_levels.Level.{Level}
use Rattle.stages.specs.declared.task_levels.TaskLevels.{TaskLevels}
use Rattle.stages.specs.declared.lifting.PartSteps.{PartSteps}
use Rattle.stages.specs.declared.transformations.transformation.Transformation.{Transformation}
use Rattle.stages.specs.transformations.Transformations.{equation_of}
use Rattle.stages.specs.Steps.{AreTasks}
use Rattle.stages.specs.Lifted.{ListsHaveSequents, AreDerived}
use Rattle.stages.specs.Levels.{BecomeEach, IsCarried, IsRefutedLevel, carried_from, level_at, levels_at}
use Rattle.stages.proofs.CarriedTasks.{carried_alone, carried_before, last_are, last_become, tasks_kept}
use Rattle.stages.proofs.Levels.{equations_more, levels_length}
use Rattle.stages.proofs.Sequents.{have_own, lists_through}

-- the tasks before the stages that are left are carried there, and lists derive the tasks after those stages
pub record IsLiftedSoFar (stages : List Transformation) (s0 : List Tree) (c : TaskLevels) (parts : List (List Step)) (s : List Tree) (levels : List Level) (made : List Task) (lists : List (List Step)) : Type 0 where
  pub grows : Grows s0 s
  pub within : length levels ≤ length stages
  pub carried : IsCarried (map equation_of (take (length levels) stages)) s0 (carried_from s0 c) levels made
  pub held : PartsHeld s lists
  pub close : PartsClose (tasks_at s0 made) (parts_at s lists)
  pub sequents : ListsHaveSequents (parts_at s lists) (parts_at s0 parts)

-- before the last level
pub lifted_none : (stages : List Transformation) (s : List Tree) (c : TaskLevels) (parts : List (List Step)) → IsCarried (map equation_of stages) s (carried_from s c) c.levels.items c.tasks.items → PartsHeld s parts
    → PartsClose (tasks_at s c.tasks.items) (parts_at s parts) → IsLiftedSoFar stages s c parts s c.levels.items c.tasks.items parts
lifted_none stages s c parts h ph close =
    let n = levels_length (map equation_of stages) (levels_at s c.levels.items) (tasks_at s c.tasks.items) h.become in
    let m : length c.levels.items ≡ length stages = omega (arith, n, length-map stages equation_of, length-map c.levels.items (level_at s)) in
    record {
      grows = Grows_refl s;
      within = omega (arith, m);
      carried = subst (λ (xs : List Transformation). IsCarried (map equation_of xs) s (carried_from s c) c.levels.items c.tasks.items) (sym (take_all (length c.levels.items) stages (omega (arith, m)))) h;
      held = ph;
      close = close;
      sequents = have_own (parts_at s parts);
    }

-- the last level of those that are left
module _ (stages : List Transformation) (s0 : List Tree) (c : TaskLevels) (parts : List (List Step)) (s : List Tree) (all levels : List Level) (l : Level) (made : List Task) (lists : List (List Step)) (is : all ≡ levels ++ l ∷ [])
    (far : IsLiftedSoFar stages s0 c parts s all made lists) (x : Transformation) (at : x ≡ get_or stages (length levels) x) where
  many : length all ≡ length levels + 1
  many = ap length is ∙ length-append levels (l ∷ [])

  pub stage_within : length levels < length stages
  stage_within = let w = far.within in omega (arith, w, many)

  abbrev es : List StageEquation
  es = map equation_of (take (length levels) stages)

  as_many : length es ≡ length levels
  as_many = length-map (take (length levels) stages) equation_of ∙ length-take-le (length levels) stages (omega (arith, stage_within))

  whole : IsCarried (es ++ equation_of x ∷ []) s0 (carried_from s0 c) (levels ++ l ∷ []) made
  whole =
      let counted = subst (λ (n : ℕ). IsCarried (map equation_of (take n stages)) s0 (carried_from s0 c) all made) many far.carried in
      let split = subst (λ (z : List StageEquation). IsCarried z s0 (carried_from s0 c) all made) (equations_more stages (length levels) x at stage_within) counted in
      subst (λ (z : List Level). IsCarried (es ++ equation_of x ∷ []) s0 (carried_from s0 c) z made) is split

  level_held : AreTasks s0 l.tasks.items
  level_held = last_are es (equation_of x) s0 (carried_from s0 c) levels l made as_many whole

  level_same : tasks_at s l.tasks.items ≡ tasks_at s0 l.tasks.items
  level_same = tasks_later s0 s far.grows l.tasks.items level_held.held

  made_same : tasks_at s made ≡ tasks_at s0 made
  made_same = tasks_later s0 s far.grows made whole.are.held

  -- the lists refute what its tasks become
  pub level_refuted : IsRefutedLevel (equation_of x) s l.tasks.items l.counts.items made lists
  level_refuted = record {
    are = tasks_kept s0 s l.tasks.items far.grows level_held;
    made_held = tasks_held_later s0 s far.grows made whole.are.held;
    become = subst (λ (z : List TaskTree). BecomeEach (equation_of x) z l.counts.items (tasks_at s made)) (sym level_same)
        (subst (λ (z : List TaskTree). BecomeEach (equation_of x) (tasks_at s0 l.tasks.items) l.counts.items z) (sym made_same) (last_become es (equation_of x) s0 (carried_from s0 c) levels l made as_many whole));
    parts_held = far.held;
    close = subst (λ (z : List TaskTree). PartsClose z (parts_at s lists)) (sym made_same) far.close;
  }

  -- and is one level more
  pub lifted_more : (p : PartSteps) → AreDerived s (tasks_at s l.tasks.items) (parts_at s lists) p → IsLiftedSoFar stages s0 c parts p.store levels l.tasks.items p.lists.items
  lifted_more p d = record {
    grows = Grows_trans s0 s p.store far.grows d.grows;
    within = omega (arith, stage_within);
    carried = carried_before es (equation_of x) s0 (carried_from s0 c) levels l made as_many whole;
    held = d.held;
    close = subst (λ (z : List TaskTree). PartsClose z (parts_at p.store p.lists.items)) level_same d.close;
    sequents = lists_through (parts_at p.store p.lists.items) (parts_at s lists) (parts_at s0 parts) d.sequents far.sequents;
  }

-- where no level is left
pub lifted_all : (stages : List Transformation) (s0 : List Tree) (c : TaskLevels) (parts : List (List Step)) (p : PartSteps) (levels : List Level) (made : List Task) → length levels ≡ 0
    → IsLiftedSoFar stages s0 c parts p.store levels made p.lists.items → AreDerived s0 (carried_from s0 c ∷ []) (parts_at s0 parts) p
lifted_all stages s0 c parts p [] made none far = record {
  grows = far.grows;
  held = far.held;
  close = subst (λ (z : List TaskTree). PartsClose z (parts_at p.store p.lists.items)) (carried_alone (map equation_of (take 0 stages)) s0 c made far.carried) far.close;
  sequents = far.sequents;
}
lifted_all stages s0 c parts p (l ∷ ls) made none far = absurd (omega (arith, none))
