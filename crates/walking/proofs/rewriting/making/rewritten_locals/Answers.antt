use Rattle.std.proofs.Common.{get_or}
use Rattle.tasks.specs.trees.declared.TermId.{TermId}
use Rattle.tasks.proofs.trees.Nodes.{Grows_trans}
use Rattle.walking.proofs.rewriting.Starts.{read_local}
use Rattle.walking.proofs.rewriting.Faults.{err_passed}
use Rattle.walking.proofs.rewriting.Mapped.{own_local, ids_pushed}
use Rattle.walking.proofs.rewriting.Loops.{can_now, local_fault, local_more}
use Rattle.walking.proofs.rewriting.making.rewritten_locals.Goals as goal

pub image_of-requires-clause-can : goal.image_of-requires-clause-can
image_of-requires-clause-can g c = can_now (g.F.RewriteFormulas.Ready c.args.rewrite.now) (g.met.F.RewriteFormulas.stays_ready c.args.rewrite.now) (g.F.RewriteFormulas.function c.args.rewrite.now) c.args.store.now c.loop-local.store c.loop-local.invariant.grows c.args.task.now c.requires.can

pub image_of-requires-clause-formula : goal.image_of-requires-clause-formula
image_of-requires-clause-formula g c =
    let can1 = can_now (g.F.RewriteFormulas.Ready c.args.rewrite.now) (g.met.F.RewriteFormulas.stays_ready c.args.rewrite.now) (g.F.RewriteFormulas.function c.args.rewrite.now) c.args.store.now c.loop-local.store c.loop-local.invariant.grows c.args.task.now c.requires.can in
    let z : TermId = record { 0 = 0 } in
    let items = c.as_slice-local-items.result.now in
    let l = rw c.as_slice-local-items.ensures at c.loop-local-test.true in
    own_local (g.F.RewriteFormulas.Ready c.args.rewrite.now) c.loop-local.store c.args.task.now c.loop-local.local-index (get_or items c.loop-local.local-index z) can1 l (read_local c.args.task.now.locals items c.loop-local.local-index z c.as_slice-local-items.ensures l)

pub returns-in_err-made-clause-fault : goal.returns-in_err-made-clause-fault
returns-in_err-made-clause-fault g c =
    let z : TermId = record { 0 = 0 } in
    let items = c.as_slice-local-items.result.now in
    let l = rw c.as_slice-local-items.ensures at c.loop-local-test.true in
    err_passed c.from_residual.result c.in_err-made.field-0.0 _ c.from_residual.ensures.1
    (local_fault (g.F.RewriteFormulas.Ready c.args.rewrite.now) (g.met.F.RewriteFormulas.stays_ready c.args.rewrite.now) (g.F.RewriteFormulas.function c.args.rewrite.now) c.args.store.now c.loop-local.store c.loop-local.invariant.grows c.args.task.now c.requires.can c.loop-local.local-index (get_or items c.loop-local.local-index z) l
    (read_local c.args.task.now.locals items c.loop-local.local-index z c.as_slice-local-items.ensures l) c.in_err-made.field-0.0 c.in_err-made.ensures.fault)

pub loop-local-preserved : goal.loop-local-preserved
loop-local-preserved g c =
    let s = c.args.store.now in
    let s1 = c.loop-local.store in
    let s2 = c.image_of.new.store in
    let z : TermId = record { 0 = 0 } in
    let items = c.as_slice-local-items.result.now in
    let l = rw c.as_slice-local-items.ensures at c.loop-local-test.true in
    let q = read_local c.args.task.now.locals items c.loop-local.local-index z c.as_slice-local-items.ensures l in
    record {
      grows = Grows_trans s s1 s2 c.loop-local.invariant.grows c.in_ok-made.ensures.grows;
      held = (ids_pushed s1 s2 c.in_ok-made.ensures.grows c.loop-local.locals c.in_ok-made.made c.push.new.self c.in_ok-push.ensures.ok c.loop-local.invariant.held c.in_ok-made.ensures.held).0;
      made = local_more (g.F.RewriteFormulas.Ready c.args.rewrite.now) (g.met.F.RewriteFormulas.stays_ready c.args.rewrite.now) (g.F.RewriteFormulas.function c.args.rewrite.now) s s1 c.loop-local.invariant.grows c.args.task.now c.requires.can c.loop-local.local-index (get_or items c.loop-local.local-index z) l q s2 c.in_ok-made.ensures.grows c.loop-local.locals c.push.new.self c.in_ok-made.made
          c.loop-local.invariant.held c.in_ok-made.ensures.held c.in_ok-push.ensures.ok c.in_ok-made.ensures.tree c.loop-local.invariant.made;
    }
