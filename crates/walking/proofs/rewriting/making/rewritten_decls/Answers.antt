use Rattle.std.proofs.Common.{◌∙◌}
use Rattle.tasks.proofs.trees.Nodes.{Grows_trans}
use Rattle.walking.proofs.rewriting.Mapped.{own_decl, decls_pushed}
use Rattle.walking.proofs.rewriting.Faults.{err_passed}
use Rattle.walking.proofs.rewriting.Loops.{can_now, decl_fault, decl_more}
use Rattle.walking.proofs.rewriting.making.rewritten_decls.Goals as goal

pub rewritten_decl-requires-clause-can : goal.rewritten_decl-requires-clause-can
rewritten_decl-requires-clause-can g c = can_now (g.F.RewriteFormulas.Ready c.args.rewrite.now) (g.met.F.RewriteFormulas.stays_ready c.args.rewrite.now) (g.F.RewriteFormulas.function c.args.rewrite.now) c.args.store.now c.loop-decl.store c.loop-decl.invariant.grows c.args.task.now c.requires.can

pub rewritten_decl-requires-clause-decl_held : goal.rewritten_decl-requires-clause-decl_held
rewritten_decl-requires-clause-decl_held g c =
    let can1 = can_now (g.F.RewriteFormulas.Ready c.args.rewrite.now) (g.met.F.RewriteFormulas.stays_ready c.args.rewrite.now) (g.F.RewriteFormulas.function c.args.rewrite.now) c.args.store.now c.loop-decl.store c.loop-decl.invariant.grows c.args.task.now c.requires.can in
    (own_decl (g.F.RewriteFormulas.Ready c.args.rewrite.now) c.loop-decl.store c.args.task.now c.loop-decl.decl-index c.decl-item.result can1 (rw c.as_slice-decl-items.ensures at c.loop-decl-test.true) (rw c.as_slice-decl-items.ensures at c.decl-item.is)).0

pub rewritten_decl-requires-clause-decl_valid : goal.rewritten_decl-requires-clause-decl_valid
rewritten_decl-requires-clause-decl_valid g c =
    let can1 = can_now (g.F.RewriteFormulas.Ready c.args.rewrite.now) (g.met.F.RewriteFormulas.stays_ready c.args.rewrite.now) (g.F.RewriteFormulas.function c.args.rewrite.now) c.args.store.now c.loop-decl.store c.loop-decl.invariant.grows c.args.task.now c.requires.can in
    (own_decl (g.F.RewriteFormulas.Ready c.args.rewrite.now) c.loop-decl.store c.args.task.now c.loop-decl.decl-index c.decl-item.result can1 (rw c.as_slice-decl-items.ensures at c.loop-decl-test.true) (rw c.as_slice-decl-items.ensures at c.decl-item.is)).1

pub returns-in_err-made-clause-fault : goal.returns-in_err-made-clause-fault
returns-in_err-made-clause-fault g c =
    err_passed c.from_residual.result c.in_err-made.field-0.0 _ c.from_residual.ensures.1
    (decl_fault (g.F.RewriteFormulas.Ready c.args.rewrite.now) (g.met.F.RewriteFormulas.stays_ready c.args.rewrite.now) (g.F.RewriteFormulas.function c.args.rewrite.now) c.args.store.now c.loop-decl.store c.loop-decl.invariant.grows c.args.task.now c.requires.can c.loop-decl.decl-index c.decl-item.result
    (rw c.as_slice-decl-items.ensures at c.loop-decl-test.true) (rw c.as_slice-decl-items.ensures at c.decl-item.is) c.in_err-made.field-0.0 c.in_err-made.ensures.fault)

pub loop-decl-preserved : goal.loop-decl-preserved
loop-decl-preserved g c =
    let s = c.args.store.now in
    let s1 = c.loop-decl.store in
    let s2 = c.rewritten_decl.new.store in
    let l = rw c.as_slice-decl-items.ensures at c.loop-decl-test.true in
    let q = rw c.as_slice-decl-items.ensures at c.decl-item.is in
    record {
      grows = Grows_trans s s1 s2 c.loop-decl.invariant.grows c.in_ok-made.ensures.grows;
      held = (decls_pushed s1 s2 c.in_ok-made.ensures.grows c.loop-decl.decls c.in_ok-made.made c.push.new.self c.in_ok-push.ensures.ok c.loop-decl.invariant.held c.in_ok-made.ensures.held).0;
      made = decl_more (g.F.RewriteFormulas.Ready c.args.rewrite.now) (g.met.F.RewriteFormulas.stays_ready c.args.rewrite.now) (g.F.RewriteFormulas.function c.args.rewrite.now) s s1 c.loop-decl.invariant.grows c.args.task.now c.requires.can c.loop-decl.decl-index c.decl-item.result l q s2 c.in_ok-made.ensures.grows c.loop-decl.decls c.push.new.self c.in_ok-made.made
          c.loop-decl.invariant.held c.in_ok-made.ensures.held c.in_ok-push.ensures.ok c.in_ok-made.ensures.decl c.loop-decl.invariant.made;
    }
