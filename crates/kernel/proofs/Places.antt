-- Steps of a list, in trees.
use Rattle.std.proofs.Common.{◌≡◌, ◌↔◌, ℕ, ◌<◌, ◌-◌, ◌==◌, Bool, false, IsTrue, List, Some, slice_get, length, map, get_or, take, sym, ap, ◌∙◌, arith}
use Rattle.std.proofs.lemmas.Bool.Decides.{nat_tests}
use Rattle.std.proofs.lemmas.List.{take-map, get_or-map, length-map}
use Rattle.std.proofs.lemmas.Option.{slice_get-get_or}
use Rattle.trees.specs.Tree.{Tree}
use Rattle.tasks.specs.Task.{TaskTree, start}
use Rattle.tasks.specs.Meaning.{trees_at}
use Rattle.rules.specs.declared.rule.Step.{Step}
use Rattle.rules.specs.Trees.{StepTree, no_step, step_or}
use Rattle.kernel.specs.Right.{IsRight, last_starts}
use Rattle.rules.specs.Meaning.{step_at, steps_at}

pub step_or-at : (s : List Tree) (steps : List Step) (i : ℕ) (x : Step) → x ≡ get_or steps i x → i < length steps → step_or (steps_at s steps) i ≡ step_at s x
step_or-at s steps i x e h = get_or-map (step_at s) steps i x no_step h ∙ ap (step_at s) (sym e)

pub right_moved : (t : TaskTree) (s : List Tree) (steps : List Step) (i : ℕ) (b : List Step) (x : Step) (r : Bool) → b ≡ take i steps → x ≡ get_or steps i x → i < length steps
    → IsTrue r ↔ IsRight t (steps_at s b) (step_at s x) → IsTrue r ↔ IsRight t (take i (steps_at s steps)) (step_or (steps_at s steps) i)
right_moved t s steps i b x r e f h q =
    let e1 : take i (steps_at s steps) ≡ steps_at s b = take-map (step_at s) i steps ∙ ap (steps_at s) (sym e) in
    let e2 = step_or-at s steps i x f h in
    rw (e1, e2) q

pub starts_moved : (t : TaskTree) (s : List Tree) (steps : List Step) (n : ℕ) (x : Step) (r : Bool) → n ≡ length steps → x ≡ get_or steps (n - 1) x → 0 < n
    → IsTrue r ↔ (trees_at s x.sequent ≡ start t) → IsTrue r ↔ last_starts t (steps_at s steps)
starts_moved t s steps n x r e f h q =
    let qs = map (λ (st : StepTree). st.sequent) (steps_at s steps) in
    let l : length (steps_at s steps) ≡ n = length-map steps (step_at s) ∙ sym e in
    let m : length qs ≡ length (steps_at s steps) = length-map (steps_at s steps) (λ (st : StepTree). st.sequent) in
    let a : slice_get qs (n - 1) ≡ Some (get_or qs (n - 1) (no_step.sequent)) = slice_get-get_or qs (n - 1) (no_step.sequent) (omega arith) in
    let b : get_or qs (n - 1) (no_step.sequent) ≡ (step_or (steps_at s steps) (n - 1)).sequent = get_or-map (λ (st : StepTree). st.sequent) (steps_at s steps) (n - 1) no_step (no_step.sequent) (omega arith) in
    let k : step_or (steps_at s steps) (n - 1) ≡ step_at s x = step_or-at s steps (n - 1) x f (omega arith) in
    let all : slice_get qs (length (steps_at s steps) - 1) ≡ Some (trees_at s x.sequent) = rw l (a ∙ ap (λ (z : List Tree). Some z) b ∙ ap (λ (z : StepTree). Some z.sequent) k) in
    rw all q

pub nonempty : (n : ℕ) (r : Bool) → r ≡ (n == 0) → r ≡ false → 0 < n
nonempty n r e f = let g : (n == 0) ≡ false = sym e ∙ f in grind (arith, nat_tests)
