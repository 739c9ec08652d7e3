-- Where the task at an earlier set of instances is too large, so is the task in the end: a walk may answer at once.
use Rattle.std.proofs.Common.{◌≡◌, ◌<◌, ℕ, false, nat_le, List, [], ◌∷◌, Option, Some, None, Result, Ok, Err, IfErr, IsErrAnd, refl, sym, subst, ap, ◌∙◌, arith}
use Rattle.std.proofs.lemmas.Bool.Decides.{nat_tests}
use Rattle.tasks.specs.Task.{TaskTree, nodes}
use Rattle.evidence.specs.declared.stage.StageFault.{StageFault}
use Rattle.evidence.specs.declared.stage.StageFault.TheVariants as fault
use Rattle.evidence.specs.Stages.{Misplaced, TooLarge, IsStageFault, stage_answer, stage_equation}
use Rattle.name_tables.specs.Occurrences.{Occurrence}
use Rattle.tr_discriminate.specs.wanted_instances.Discriminated.{last_set, discriminated_at, discriminated_task, misplaced_from}
use Rattle.tr_discriminate.specs.wanted_instances.Growing.{GoesOn}
use Rattle.tr_discriminate.proofs.wanted_instances.Nodes.{task_more}
use Rattle.tr_discriminate.specs.instance_sets.Sets.{IsLargeAtSet}
use Rattle.tr_discriminate.specs.Equation.{unless_misplaced, discriminate_equation}

false_than : (n m : ℕ) → m < n → nat_le n m ≡ false
false_than n m l = grind (arith, nat_tests)

large : (u : TaskTree) → 1048576 < nodes u → stage_answer (Ok (u ∷ [])) ≡ Err TooLarge
large u l =
    let e : nat_le (nodes u) 1048576 ≡ false = false_than (nodes u) 1048576 l in
    rw e refl

-- a set that the last one goes on from, as the first two are, and the empty one
pub early : (t : TaskTree) (s : List Occurrence) → GoesOn s (last_set t) → 1048576 < nodes (discriminated_at s t) → misplaced_from 0 t.decls ≡ None → stage_equation discriminate_equation t ≡ Err TooLarge
early t s g l n =
    let more = task_more s (last_set t) g t in
    ap (λ (o : Option ℕ). stage_answer (unless_misplaced o (discriminated_task t))) n ∙ large (discriminated_task t) (omega (arith, more, l))

-- the fault of a stage
pub large_fault : (t : TaskTree) → misplaced_from 0 t.decls ≡ None → (f : StageFault) → IsLargeAtSet t f → IsStageFault (stage_equation discriminate_equation t) f
large_fault t none fault.Memory x = tt
large_fault t none (fault.Misplaced decl) x = absurd x
large_fault t none fault.TooLarge x = early t x.set x.goes x.large none

pub misplaced_fault : (t : TaskTree) (decl : ℕ) → misplaced_from 0 t.decls ≡ Some decl → stage_equation discriminate_equation t ≡ Err (Misplaced decl)
misplaced_fault t decl e = ap (λ (o : Option ℕ). stage_answer (unless_misplaced o (discriminated_task t))) e

pub placed_tasks : (t : TaskTree) (ts : List TaskTree) → misplaced_from 0 t.decls ≡ None → ts ≡ discriminated_task t ∷ [] → discriminate_equation t ≡ Ok ts
placed_tasks t ts none e = ap (λ (o : Option ℕ). unless_misplaced o (discriminated_task t)) none ∙ ap (λ (z : List TaskTree). Ok z) (sym e)

-- a fault that is passed on
pub fault_there : {T : Type 0} (r : Result T StageFault) (f : StageFault) (Q : StageFault → Type 0) → IsErrAnd r (λ (e : StageFault). e ≡ f) → Q f → IfErr r Q
fault_there (Ok v) f Q h q = tt
fault_there (Err e) f Q h q = subst Q (sym h) q
