use Rattle.stages.proofs.Listed.{removed_step}
use Rattle.stages.proofs.listing.push_all_removed.Goals as goal

pub loop-decl-preserved : goal.loop-decl-preserved
loop-decl-preserved c = λ s. removed_step s c.args.paths.now c.args.decls.now c.loop-decl.decl-index c.decl-item.result c.loop-decl.names.items c.push_removed.new.names.items _ c.decl-item.is c.loop-decl-test.true
    (c.in_ok-push_removed.ensures s) (c.loop-decl.invariant s)
