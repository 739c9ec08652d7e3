-- A draft stays one as its store grows and right steps are put at its end.
use Rattle.std.proofs.Common.{◌≡◌, ℕ, ◌+◌, nat_eq, cond, Bool, true, false, List, [], ◌∷◌, ◌++◌, length, Some, Result, Ok, Err, IfOk, refl, sym, ap, subst, ◌∙◌, arith}
use Rattle.std.proofs.lemmas.Bool.Decides.{nat_tests}
use Rattle.std.specs.Map.{lookup}
use Rattle.std.proofs.lemmas.List.{map-append, length-append}
use Rattle.std.proofs.lemmas.List.Elements.{All-push}
use Rattle.std.specs.declared.alloc.AllocError.{AllocError}
use Rattle.trees.specs.declared.TermId.{TermId}
use Rattle.trees.specs.Tree.{Tree}
use Rattle.trees.specs.Node.{tree_at, Holds, Grows}
use Rattle.trees.proofs.Nodes.{Grows_refl}
use Rattle.tasks.specs.declared.task.Task.{Task}
use Rattle.tasks.specs.Task.{neg}
use Rattle.tasks.specs.Meaning.{task_at}
use Rattle.tasks.specs.Valid.{IsValid}
use Rattle.tasks.proofs.Growth.{task_later, task_held_later}
use Rattle.rules.specs.declared.rule.Step.{Step}
use Rattle.rules.specs.Trees.{StepTree}
use Rattle.kernel.specs.Right.{IsRight, AreRight}
use Rattle.rules.specs.Meaning.{step_at, steps_at, StepHeld}
use Rattle.kernel.proofs.Growth.{right_more, steps_later, steps_held_later}
use Rattle.evidence.specs.Drafts.{DraftTree, Extends, AddsTrees, Refutes}
use Rattle.evidence.specs.Inside.{AreLemmas, IsDraft, draft_at}
use Rattle.evidence.specs.Laws.{AddsTrees_extends}
use Rattle.evidence.proofs.Rules.{refutes_later}
use Rattle.tasks.proofs.plain_laws.Options.{same_some as some_same}

steps_pushed : (s : List Tree) (list : List Step) (st : Step) → steps_at s (list ++ st ∷ []) ≡ steps_at s list ++ step_at s st ∷ []
steps_pushed s list st = map-append (step_at s) list (st ∷ [])

-- what is remembered stays right as the draft grows
lemmas_later : (d d1 : DraftTree) (es : List (ℕ × ℕ)) → Extends d d1 → AreLemmas d es → AreLemmas d1 es
lemmas_later d d1 es x h a k found =
    let p = h a k found in
    let e : tree_at d1.trees a ≡ tree_at d.trees a = x.trees.same a.0 p.0 in
    (omega (arith, p.0, x.trees.longer), subst (λ (z : Tree). Refutes d1 k (neg z ∷ [])) (sym e) (refutes_later d d1 x k _ p.1))

pub draft_pushed : (s : List Tree) (t : Task) (list : List Step) (es : List (ℕ × ℕ)) (st : Step) (d : DraftTree) → draft_at s t list ≡ d → IsDraft s t list es
    → StepHeld d.trees st → IsRight d.task d.steps (step_at d.trees st) → IsDraft s t (list ++ st ∷ []) es
draft_pushed s t list es st d is inv =
    let P : DraftTree → Type 0 = λ x. StepHeld x.trees st → IsRight x.task x.steps (step_at x.trees st) → IsDraft s t (list ++ st ∷ []) es in
    let x : Extends (draft_at s t list) (draft_at s t (list ++ st ∷ [])) = record { trees = Grows_refl s; task = refl; more = step_at s st ∷ []; steps = steps_pushed s list st } in
    subst P is (λ h r. record {
      task = inv.task;
      valid = inv.valid;
      held = All-push (StepHeld s) list st inv.held h;
      right = rw (steps_pushed s list st) (right_more (task_at s t) (steps_at s list) (step_at s st) inv.right r);
      lemmas_refute = lemmas_later (draft_at s t list) (draft_at s t (list ++ st ∷ [])) es x inv.lemmas_refute;
    })

adds : (s s' : List Tree) (t : Task) (list : List Step) (es : List (ℕ × ℕ)) → Grows s s' → IsDraft s t list es → AddsTrees (draft_at s t list) (draft_at s' t list)
adds s s' t list es g inv = record { trees = g; task = task_later s s' g t inv.task; steps = steps_later s s' g list inv.held }

pub draft_later : (s s' : List Tree) (t : Task) (list : List Step) (es : List (ℕ × ℕ)) → Grows s s' → IsDraft s t list es → IsDraft s' t list es
draft_later s s' t list es g inv =
    let Q : AreRight (task_at s' t) (steps_at s' list) = rw (task_later s s' g t inv.task, steps_later s s' g list inv.held) inv.right in
    let v : IsValid (task_at s' t) = rw (task_later s s' g t inv.task) inv.valid in
    record {
      task = task_held_later s s' g t inv.task;
      valid = v;
      held = steps_held_later s s' g list inv.held;
      right = Q;
      lemmas_refute = lemmas_later (draft_at s t list) (draft_at s' t list) es (AddsTrees_extends _ _ (adds s s' t list es g inv)) inv.lemmas_refute;
    }

pub draft_adds : (s s' : List Tree) (t : Task) (list : List Step) (es : List (ℕ × ℕ)) (d : DraftTree) → draft_at s t list ≡ d → Grows s s' → IsDraft s t list es → AddsTrees d (draft_at s' t list)
draft_adds s s' t list es d is g inv = subst (λ (x : DraftTree). AddsTrees x (draft_at s' t list)) is (adds s s' t list es g inv)

pub lemma_more : (d : DraftTree) (es fs : List (ℕ × ℕ)) (a : TermId) (k : ℕ) → AreLemmas d es → Holds d.trees a → Refutes d k (neg (tree_at d.trees a) ∷ [])
    → ((q : ℕ) → lookup (nat_eq q) fs ≡ cond (nat_eq a.0 q) (Some k) (lookup (nat_eq q) es)) → AreLemmas d fs
lemma_more d es fs a k h held r up b j found = at (nat_eq a.0 b.0) refl (sym (up b.0) ∙ found)
  where
    at : (c : Bool) → nat_eq a.0 b.0 ≡ c → cond c (Some k) (lookup (nat_eq b.0) es) ≡ Some j → Holds d.trees b × Refutes d j (neg (tree_at d.trees b) ∷ [])
    at true same' there =
        let number : a.0 ≡ b.0 = grind (arith, nat_tests, same') in
        let value : k ≡ j = some_same k j there in
        rw (← number, ← value) (held, r)
    at false same' there = h b j there

pub draft_remembers : (s : List Tree) (t : Task) (list : List Step) (es fs : List (ℕ × ℕ)) (d : DraftTree) (a : TermId) (k : ℕ) → draft_at s t list ≡ d → IsDraft s t list es
    → Holds d.trees a → Refutes d k (neg (tree_at d.trees a) ∷ [])
    → ((q : ℕ) → lookup (nat_eq q) fs ≡ cond (nat_eq a.0 q) (Some k) (lookup (nat_eq q) es)) → IsDraft s t list fs
draft_remembers s t list es fs d a k is inv =
    let P : DraftTree → Type 0 = λ x. Holds x.trees a → Refutes x k (neg (tree_at x.trees a) ∷ [])
    → ((q : ℕ) → lookup (nat_eq q) fs ≡ cond (nat_eq a.0 q) (Some k) (lookup (nat_eq q) es)) → IsDraft s t list fs in
    subst P is (λ h r up. record {
      task = inv.task;
      valid = inv.valid;
      held = inv.held;
      right = inv.right;
      lemmas_refute = lemma_more (draft_at s t list) es fs a k inv.lemmas_refute h r up;
    })

-- a step that was put at the end is the last
pub pushed_last : (r : Result ℕ AllocError) (d d1 : DraftTree) (st : StepTree) → IfOk r (λ k. k ≡ length d.steps) → IfOk r (λ _. d1 ≡ record d { steps = d.steps ++ st ∷ [] }) → IfOk r (λ k. length d1.steps ≡ k + 1)
pushed_last (Ok k) d d1 st n e = ap (λ (z : DraftTree). length z.steps) e ∙ length-append d.steps (st ∷ []) ∙ ap (λ (z : ℕ). z + 1) (sym n)
pushed_last (Err x) d d1 st n e = tt
