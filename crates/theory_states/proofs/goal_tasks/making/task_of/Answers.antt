use Rattle.std.proofs.Common.{◌≡◌, ℕ, true, false, List, map, drop, reverse, Option, Some, None, IsNone, IsSomeAnd, refl, sym, ap, subst, ◌∙◌}
use Rattle.std.specs.List.{find}
use Rattle.trees.specs.Tree.{Tree}
use Rattle.tasks.specs.declared.declaration.Decl.{Decl}
use Rattle.tasks.specs.Meaning.{task_at}
use Rattle.theory_states.specs.declared.goal_tasks.theories.GoalAt.{GoalAt}
use Rattle.theory_states.specs.declared.goal_tasks.theories.Theory.{Theory}
use Rattle.theory_states.specs.goal_tasks.Theories.{GoalTree, KnownTheoryTree, TheoriesTree, has_path, has_name, theory_named, goal_named}
use Rattle.theory_states.specs.goal_tasks.Tasks.{task_for}
use Rattle.theory_states.specs.goal_tasks.Meaning.{goal_at, theory_at, theories_at}
use Rattle.theory_states.proofs.goal_tasks.making.task_of.Goals as goal

no : {P Q : Type 0} → (P → ⊥) → (Q → ⊥) → (P → Q) × (Q → P)
no f g = (λ p. absurd (f p), λ q. absurd (g q))

unknown : {X : Type 0} (o : Option X) → o ≡ None → IsNone o
unknown {X} o e = subst (λ (z : Option X). IsNone z) (sym e) refl

known : {X : Type 0} (o : Option X) (x : X) → o ≡ Some x → IsNone o → ⊥
known {X} o x e n = let h : true ≡ false = subst (λ (z : Option X). IsNone z) e n in cc

somewhere : {X : Type 0} (P : X → Type 0) (o : Option X) (x : X) → o ≡ Some x → P x → IsSomeAnd o P
somewhere {X} P o x e h = subst (λ (z : Option X). IsSomeAnd z P) (sym e) h

there : {X : Type 0} (P : X → Type 0) (o : Option X) (x : X) → o ≡ Some x → IsSomeAnd o P → P x
there {X} P o x e h = subst (λ (z : Option X). IsSomeAnd z P) e h

nowhere : {X : Type 0} (P : X → Type 0) (o : Option X) → o ≡ None → IsSomeAnd o P → ⊥
nowhere {X} P o e h = subst (λ (z : Option X). IsSomeAnd z P) e h

-- what is found of theories and goals, by names in code
theory_is : (all : TheoriesTree) (p q : List ℕ) (o : Option KnownTheoryTree) → p ≡ q → o ≡ find (has_path p) (drop all.embedded all.list) → theory_named all q ≡ o
theory_is all p q o e f = ap (theory_named all) (sym e) ∙ sym f

goal_is : (s : List Tree) (ds : List Decl) (t : Theory) (gs : List GoalAt) (p q : List ℕ) (o : Option GoalTree) → gs ≡ t.goals → p ≡ q → o ≡ find (has_name p) (reverse (map (goal_at s) gs)) → goal_named (theory_at s ds t) q ≡ o
goal_is s ds t gs p q o g e f = ap (goal_named (theory_at s ds t)) (sym e) ∙ ap (λ (z : List GoalAt). find (has_name p) (reverse (map (goal_at s) z))) (sym g) ∙ sym f

pub returns-in_default-clause-task : goal.returns-in_default-clause-task
returns-in_default-clause-task c = tt

pub returns-in_default-clause-no_theory : goal.returns-in_default-clause-no_theory
returns-in_default-clause-no_theory c =
    let all = theories_at c.args.store.now c.args.all.now in
    let none = theory_is all c.as_bytes.result.now c.args.theory.now None c.as_bytes.ensures.value c.in_default.ensures.tree in
    (λ _. unknown (theory_named all c.args.theory.now) none, λ _. refl)

pub returns-in_default-clause-no_goal : goal.returns-in_default-clause-no_goal
returns-in_default-clause-no_goal c =
    let all = theories_at c.args.store.now c.args.all.now in
    let none = theory_is all c.as_bytes.result.now c.args.theory.now None c.as_bytes.ensures.value c.in_default.ensures.tree in
    no (λ e. cc) (nowhere (λ (t : KnownTheoryTree). IsNone (goal_named t c.args.goal.now)) (theory_named all c.args.theory.now) none)

pub returns-in_default-find_goal-clause-task : goal.returns-in_default-find_goal-clause-task
returns-in_default-find_goal-clause-task c = tt

pub returns-in_default-find_goal-clause-no_theory : goal.returns-in_default-find_goal-clause-no_theory
returns-in_default-find_goal-clause-no_theory c =
    let s = c.args.store.now in
    let all = theories_at s c.args.all.now in
    let t = theory_at s c.args.all.now.decls c.in-Some.found.now in
    let some = theory_is all c.as_bytes.result.now c.args.theory.now (Some t) c.as_bytes.ensures.value c.in-Some.ensures.tree in
    no (λ e. cc) (known (theory_named all c.args.theory.now) t some)

pub returns-in_default-find_goal-clause-no_goal : goal.returns-in_default-find_goal-clause-no_goal
returns-in_default-find_goal-clause-no_goal c =
    let s = c.args.store.now in
    let all = theories_at s c.args.all.now in
    let ds = c.args.all.now.decls in
    let it = c.in-Some.found.now in
    let some = theory_is all c.as_bytes.result.now c.args.theory.now (Some (theory_at s ds it)) c.as_bytes.ensures.value c.in-Some.ensures.tree in
    let none = goal_is s ds it c.as_slice.result.now c.as_bytes-2.result.now c.args.goal.now None c.as_slice.ensures c.as_bytes-2.ensures.value c.in_default-find_goal.ensures.tree in
    (λ _. somewhere (λ (t : KnownTheoryTree). IsNone (goal_named t c.args.goal.now)) (theory_named all c.args.theory.now) (theory_at s ds it) some (unknown (goal_named (theory_at s ds it) c.args.goal.now) none), λ _. refl)

pub make_task-requires-clause-held : goal.make_task-requires-clause-held
make_task-requires-clause-held c = c.requires.held

pub make_task-requires-clause-tuples : goal.make_task-requires-clause-tuples
make_task-requires-clause-tuples c = c.requires.tuples

pub make_task-requires-clause-theory_held : goal.make_task-requires-clause-theory_held
make_task-requires-clause-theory_held c = c.in-Some.ensures.held

pub make_task-requires-clause-goal_held : goal.make_task-requires-clause-goal_held
make_task-requires-clause-goal_held c = c.in-Some-find_goal.ensures.held

pub returns-in-Ok-clause-task : goal.returns-in-Ok-clause-task
returns-in-Ok-clause-task c =
    let s = c.args.store.now in
    let all = theories_at s c.args.all.now in
    let ds = c.args.all.now.decls in
    let it = c.in-Some.found.now in
    let at = goal_at s c.in-Some-find_goal.at.now in
    let some = theory_is all c.as_bytes.result.now c.args.theory.now (Some (theory_at s ds it)) c.as_bytes.ensures.value c.in-Some.ensures.tree in
    let here = goal_is s ds it c.as_slice.result.now c.as_bytes-2.result.now c.args.goal.now (Some at) c.as_slice.ensures c.as_bytes-2.ensures.value c.in-Some-find_goal.ensures.tree in
    let made = task_at s c.in-Ok.task in
    somewhere (λ (t : KnownTheoryTree). IsSomeAnd (goal_named t c.args.goal.now) (λ (g : GoalTree). made ≡ task_for all t g)) (theory_named all c.args.theory.now) (theory_at s ds it) some
    (somewhere (λ (g : GoalTree). made ≡ task_for all (theory_at s ds it) g) (goal_named (theory_at s ds it) c.args.goal.now) at here c.in-Ok.ensures.tree)

pub returns-in-Ok-clause-no_theory : goal.returns-in-Ok-clause-no_theory
returns-in-Ok-clause-no_theory c =
    let s = c.args.store.now in
    let all = theories_at s c.args.all.now in
    let t = theory_at s c.args.all.now.decls c.in-Some.found.now in
    let some = theory_is all c.as_bytes.result.now c.args.theory.now (Some t) c.as_bytes.ensures.value c.in-Some.ensures.tree in
    no (λ e. cc) (known (theory_named all c.args.theory.now) t some)

pub returns-in-Ok-clause-no_goal : goal.returns-in-Ok-clause-no_goal
returns-in-Ok-clause-no_goal c =
    let s = c.args.store.now in
    let all = theories_at s c.args.all.now in
    let ds = c.args.all.now.decls in
    let it = c.in-Some.found.now in
    let at = goal_at s c.in-Some-find_goal.at.now in
    let some = theory_is all c.as_bytes.result.now c.args.theory.now (Some (theory_at s ds it)) c.as_bytes.ensures.value c.in-Some.ensures.tree in
    let here = goal_is s ds it c.as_slice.result.now c.as_bytes-2.result.now c.args.goal.now (Some at) c.as_slice.ensures c.as_bytes-2.ensures.value c.in-Some-find_goal.ensures.tree in
    no (λ e. cc) (λ h. known (goal_named (theory_at s ds it) c.args.goal.now) at here (there (λ (t : KnownTheoryTree). IsNone (goal_named t c.args.goal.now)) (theory_named all c.args.theory.now) (theory_at s ds it) some h))

pub returns-in-Err-clause-no_theory : goal.returns-in-Err-clause-no_theory
returns-in-Err-clause-no_theory c =
    let s = c.args.store.now in
    let all = theories_at s c.args.all.now in
    let t = theory_at s c.args.all.now.decls c.in-Some.found.now in
    let some = theory_is all c.as_bytes.result.now c.args.theory.now (Some t) c.as_bytes.ensures.value c.in-Some.ensures.tree in
    no (λ e. cc) (known (theory_named all c.args.theory.now) t some)

pub returns-in-Err-clause-no_goal : goal.returns-in-Err-clause-no_goal
returns-in-Err-clause-no_goal c =
    let s = c.args.store.now in
    let all = theories_at s c.args.all.now in
    let ds = c.args.all.now.decls in
    let it = c.in-Some.found.now in
    let at = goal_at s c.in-Some-find_goal.at.now in
    let some = theory_is all c.as_bytes.result.now c.args.theory.now (Some (theory_at s ds it)) c.as_bytes.ensures.value c.in-Some.ensures.tree in
    let here = goal_is s ds it c.as_slice.result.now c.as_bytes-2.result.now c.args.goal.now (Some at) c.as_slice.ensures c.as_bytes-2.ensures.value c.in-Some-find_goal.ensures.tree in
    no (λ e. cc) (λ h. known (goal_named (theory_at s ds it) c.args.goal.now) at here (there (λ (t : KnownTheoryTree). IsNone (goal_named t c.args.goal.now)) (theory_named all c.args.theory.now) (theory_at s ds it) some h))
