-- Full bodies in a store that grows: they stay full bodies, and their rule stays the same.
use Rattle.std.proofs.Common.{◌≡◌, List, [], ◌∷◌, Option, Some, None, subst, refl, sym, ap, ◌∙◌, arith}
use Rattle.trees.specs.declared.TermId.{TermId}
use Rattle.trees.specs.Tree.{Tree}
use Rattle.trees.specs.Node.{tree_at, Grows}
use Rattle.tasks.specs.declared.task.Task.{Task}
use Rattle.tasks.specs.Task.{TaskTree}
use Rattle.tasks.specs.Meaning.{task_at}
use Rattle.tasks.specs.Valid.{IsValid}
use Rattle.tasks.specs.Vocabulary.{Vocabulary, of_task}
use Rattle.tasks.proofs.Growth.{task_held_later, task_later}
use Rattle.inlining.specs.images.Images.{image}
use Rattle.inlining.specs.FullBodies.{use_rule}
use Rattle.inlining.proofs.Bodies.{IsBody}
use Rattle.tr_inline.specs.declared.full_bodies.uses.FullBody.{FullBody}
use Rattle.tr_inline.specs.full_bodies.FullBodies.{rule_after, rule_in, rule_over_bodies, IsFull, AreFullBodies, AreReady}

full_later : (s t : List Tree) (e : Tree) (o : Option TermId) → Grows s t → IsFull s e o
    → IsFull t e o
full_later s t e (Some id) w h = (omega (arith, h.0, w.longer), w.same id.0 h.0 ∙ h.1)
full_later s t e None w h = h

pub bodies_later : (s t : List Tree) (v : Vocabulary) (f : Tree → Tree) (bodies : List FullBody)
    → Grows s t → AreFullBodies s v f bodies → AreFullBodies t v f bodies
bodies_later s t v f [] w r = tt
bodies_later s t v f (b ∷ bs) w r =
    let e : tree_at s b.body ≡ tree_at t b.body = sym (w.same b.body.0 r.0.0) in
    let rest : AreFullBodies t v (use_rule b.symbol (image f (tree_at t b.body)) f) bs =
    subst (λ (z : Tree). AreFullBodies t v (use_rule b.symbol (image f z) f) bs) e
    (bodies_later s t v (use_rule b.symbol (image f (tree_at s b.body)) f) bs w r.1) in (
      (
        omega (arith, r.0.0, w.longer),
        subst (IsBody v b.symbol) e r.0.1,
        subst
            (λ (z : Tree). IsFull t (image f z) b.full) e
            (full_later s t (image f (tree_at s b.body)) b.full w r.0.2),
      ),
      rest,
    )

pub ready_later : (s t : List Tree) (task : Task) (bodies : List FullBody) → Grows s t
    → AreReady s task bodies → AreReady t task bodies
ready_later s t task bodies w r =
    let e : task_at t task ≡ task_at s task = task_later s t w task r.held in
    record {
      held = task_held_later s t w task r.held;
      valid = subst IsValid (sym e) r.valid;
      bodies_are = subst (λ (z : TaskTree). AreFullBodies t (of_task z) (λ y. y) bodies) (sym e)
          (bodies_later s t (of_task (task_at s task)) (λ y. y) bodies w r.bodies_are);
    }

pub after_later : (s t : List Tree) (v : Vocabulary) (f : Tree → Tree) (bodies : List FullBody)
    → Grows s t → AreFullBodies s v f bodies → rule_after t f bodies ≡ rule_after s f bodies
after_later s t v f [] w r = refl
after_later s t v f (b ∷ bs) w r =
    ap (λ (z : Tree). rule_after t (use_rule b.symbol (image f z) f) bs) (w.same b.body.0 r.0.0)
    ∙ after_later s t v (use_rule b.symbol (image f (tree_at s b.body)) f) bs w r.1

pub rule_later : (s t : List Tree) (task : Task) (bodies : List FullBody) → Grows s t
    → AreReady s task bodies → rule_over_bodies t task bodies ≡ rule_over_bodies s task bodies
rule_later s t task bodies w r =
    let e : task_at t task ≡ task_at s task = task_later s t w task r.held in
    let q = after_later s t (of_task (task_at s task)) (λ z. z) bodies w r.bodies_are in
    ap (λ (z : TaskTree). rule_in (rule_after t (λ y. y) bodies) z) e
    ∙ ap (λ (f : Tree → Tree). rule_in f (task_at s task)) q
