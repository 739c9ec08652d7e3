use Rattle.tasks.specs.Task.{TaskTree}
use Rattle.images.specs.Images.{image}
use Rattle.evidence.specs.Laws.{AddsTrees_trans}
use Rattle.walking.proofs.rewriting.Mapped.{own_decl, decls_pushed}
use Rattle.walking.proofs.rewriting.Loops.{can_now, decl_more}
use Rattle.tr_algebraic.proofs.draft_images.changing.image_decls.Goals as goal

pub image_decl-requires-clause-can : goal.image_decl-requires-clause-can
image_decl-requires-clause-can g c =
    can_now (λ t z. Unit {0}) (λ t s s1 w r. r) (λ (t : TaskTree). image (g.R.TaskRule.rule c.args.rule.now t)) c.args.draft.now.trees c.loop-decl.draft.trees c.loop-decl.invariant.grows.trees c.args.task.now c.requires.can

pub image_decl-requires-clause-decl_held : goal.image_decl-requires-clause-decl_held
image_decl-requires-clause-decl_held g c =
    let can1 = can_now (λ t z. Unit {0}) (λ t s s1 w r. r) (λ (t : TaskTree). image (g.R.TaskRule.rule c.args.rule.now t)) c.args.draft.now.trees c.loop-decl.draft.trees c.loop-decl.invariant.grows.trees c.args.task.now c.requires.can in
    (own_decl (λ t z. Unit {0}) c.loop-decl.draft.trees c.args.task.now c.loop-decl.decl-index c.decl-item.result can1 (rw c.as_slice-decl-items.ensures at c.loop-decl-test.true) (rw c.as_slice-decl-items.ensures at c.decl-item.is)).0

pub image_decl-requires-clause-decl_valid : goal.image_decl-requires-clause-decl_valid
image_decl-requires-clause-decl_valid g c =
    let can1 = can_now (λ t z. Unit {0}) (λ t s s1 w r. r) (λ (t : TaskTree). image (g.R.TaskRule.rule c.args.rule.now t)) c.args.draft.now.trees c.loop-decl.draft.trees c.loop-decl.invariant.grows.trees c.args.task.now c.requires.can in
    (own_decl (λ t z. Unit {0}) c.loop-decl.draft.trees c.args.task.now c.loop-decl.decl-index c.decl-item.result can1 (rw c.as_slice-decl-items.ensures at c.loop-decl-test.true) (rw c.as_slice-decl-items.ensures at c.decl-item.is)).1

pub loop-decl-preserved : goal.loop-decl-preserved
loop-decl-preserved g c =
    let d = c.args.draft.now in
    let d1 = c.loop-decl.draft in
    let d2 = c.image_decl.new.draft in
    let l = rw c.as_slice-decl-items.ensures at c.loop-decl-test.true in
    let q = rw c.as_slice-decl-items.ensures at c.decl-item.is in
    record {
      grows = AddsTrees_trans d d1 d2 c.loop-decl.invariant.grows c.in_ok-made.ensures.grows;
      held = (decls_pushed d1.trees d2.trees c.in_ok-made.ensures.grows.trees c.loop-decl.decls c.in_ok-made.made c.push.new.self c.in_ok-push.ensures.ok c.loop-decl.invariant.held c.in_ok-made.ensures.held).0;
      made = decl_more (λ t z. Unit {0}) (λ t s s1 w r. r) (λ (t : TaskTree). image (g.R.TaskRule.rule c.args.rule.now t)) d.trees d1.trees c.loop-decl.invariant.grows.trees c.args.task.now c.requires.can c.loop-decl.decl-index c.decl-item.result l q d2.trees c.in_ok-made.ensures.grows.trees c.loop-decl.decls c.push.new.self c.in_ok-made.made
          c.loop-decl.invariant.held c.in_ok-made.ensures.held c.in_ok-push.ensures.ok c.in_ok-made.ensures.decl c.loop-decl.invariant.made;
    }
