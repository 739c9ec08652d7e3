use Rattle.std.proofs.Common.{◌∙◌}
use Rattle.tasks.proofs.trees.Nodes.{Grows_trans}
use Rattle.tr_discriminate.proofs.instance_sets.Puts.{puts_as, puts_all, fault_passed, instance_of, all_instances, instance_more, instance_fault, types_later}
use Rattle.tr_discriminate.proofs.instance_sets.instances.push_instances.Goals as goal

pub push_instance-requires-clause-types : goal.push_instance-requires-clause-types
push_instance-requires-clause-types c =
    types_later c.args.store.now c.loop-types.store c.loop-types.invariant.grows c.args.assignments.now c.requires.types c.loop-types.types-index c.types-item.result c.loop-types-test.true c.types-item.is c.as_slice.result.now c.as_slice.ensures

pub returns-in_err-next-clause-fault : goal.returns-in_err-next-clause-fault
returns-in_err-next-clause-fault c =
    fault_passed c.from_residual.result c.in_err-next.field-0.0 _ c.from_residual.ensures.1
    (instance_fault c.args.store.now c.loop-types.store c.loop-types.invariant.grows c.args.decls.now c.loop-types.decls c.args.allowed c.loop-types.left c.args.saying.now.decl.now c.args.saying.now.formula c.requires.formula c.args.assignments.now c.requires.types c.loop-types.types-index c.types-item.result
    c.loop-types-test.true c.types-item.is c.as_slice.result.now c.as_slice.ensures c.loop-types.invariant.puts c.in_err-next.field-0.0 c.in_err-next.ensures.fault)

pub loop-types-preserved : goal.loop-types-preserved
loop-types-preserved c =
    let s = c.args.store.now in
    let s1 = c.loop-types.store in
    let s2 = c.push_instance.new.store in
    record {
      grows = Grows_trans s s1 s2 c.loop-types.invariant.grows c.in_ok-next.ensures.grows;
      puts = instance_more s s1 c.loop-types.invariant.grows c.args.decls.now c.loop-types.decls c.push_instance.new.decls c.args.allowed c.loop-types.left c.in_ok-next.next s2 c.args.saying.now.decl.now c.args.saying.now.formula c.requires.formula c.args.assignments.now c.requires.types c.loop-types.types-index
          c.types-item.result c.loop-types-test.true c.types-item.is c.as_slice.result.now c.as_slice.ensures c.loop-types.invariant.puts c.in_ok-next.ensures.puts;
    }

pub returns-clause-puts : goal.returns-clause-puts
returns-clause-puts c =
    let s = c.args.store.now in
    let put = instance_of s c.args.saying.now.decl.now c.args.saying.now.formula in
    puts_as s c.loop-types.store c.args.decls.now c.loop-types.decls c.args.allowed c.loop-types.left _ _
    (puts_all put c.args.assignments.now c.loop-types.types-index c.loop-types-test.false ∙ all_instances s c.args.saying.now.decl.now c.args.saying.now.formula c.args.assignments.now) c.loop-types.invariant.puts
