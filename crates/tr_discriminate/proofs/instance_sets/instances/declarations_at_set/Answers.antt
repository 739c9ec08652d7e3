use Rattle.std.proofs.Common.{[], ◌∙◌, sym, subst}
use Rattle.tasks.proofs.trees.Nodes.{Grows_trans}
use Rattle.tasks.specs.Meaning.{declarations_at, task_at, DeclHeld}
use Rattle.name_tables.specs.Seen.{seen_occurrences}
use Rattle.tr_discriminate.specs.instance_sets.Made.{IsRanked}
use Rattle.tr_discriminate.proofs.instance_sets.Puts.{puts_all, all_placed, placed_of, place_more, place_fault, fault_passed}
use Rattle.tr_discriminate.proofs.instance_sets.Ready.{all_ready, ready_here, ranked_later, seen_later}
use Rattle.tr_discriminate.proofs.instance_sets.instances.declarations_at_set.Goals as goal

pub push_in_place-requires-clause-ranked : goal.push_in_place-requires-clause-ranked
push_in_place-requires-clause-ranked c =
    let s = c.args.store.now in
    let r : IsRanked s c.args.set.now c.as_slice-ranks.result.now = record { held = c.requires.set_held; types_are = rw (c.as_slice-ranks.ensures.keys) c.in_ok-types.ensures } in
    ranked_later s c.loop-decl.store c.loop-decl.invariant.grows c.args.set.now c.as_slice-ranks.result.now r

pub push_in_place-requires-clause-decl : goal.push_in_place-requires-clause-decl
push_in_place-requires-clause-decl c =
    let s = c.args.store.now in
    let t = c.args.task.now in
    let l = rw c.as_slice-decl-items.ensures at c.loop-decl-test.true in
    let q = rw c.as_slice-decl-items.ensures at c.decl-item.is in
    (ready_here s c.loop-decl.store c.loop-decl.invariant.grows c.args.set.now c.requires.set_held t.decls c.requires.held.decls (all_ready (task_at s t) c.requires.valid (seen_occurrences s c.args.set.now) c.requires.goes (declarations_at s t.decls) c.requires.valid.decls) c.loop-decl.decl-index c.decl-item.result l q).1.0

pub push_in_place-requires-clause-ready : goal.push_in_place-requires-clause-ready
push_in_place-requires-clause-ready c =
    let s = c.args.store.now in
    let t = c.args.task.now in
    let l = rw c.as_slice-decl-items.ensures at c.loop-decl-test.true in
    let q = rw c.as_slice-decl-items.ensures at c.decl-item.is in
    (ready_here s c.loop-decl.store c.loop-decl.invariant.grows c.args.set.now c.requires.set_held t.decls c.requires.held.decls (all_ready (task_at s t) c.requires.valid (seen_occurrences s c.args.set.now) c.requires.goes (declarations_at s t.decls) c.requires.valid.decls) c.loop-decl.decl-index c.decl-item.result l q).1.1

pub returns-in_err-next-clause-fault : goal.returns-in_err-next-clause-fault
returns-in_err-next-clause-fault c =
    let s = c.args.store.now in
    let s1 = c.loop-decl.store in
    let t = c.args.task.now in
    let set = c.args.set.now in
    let l = rw c.as_slice-decl-items.ensures at c.loop-decl-test.true in
    let q = rw c.as_slice-decl-items.ensures at c.decl-item.is in
    fault_passed c.from_residual-in_err-next.result c.in_err-next.field-0.0 _ c.from_residual-in_err-next.ensures.1
    (place_fault s s1 c.loop-decl.invariant.grows [] c.loop-decl.decls 1048576 c.loop-decl.left (seen_occurrences s1 set) (seen_occurrences s set) (seen_later s s1 c.loop-decl.invariant.grows set c.requires.set_held) t.decls c.loop-decl.decl-index c.decl-item.result
    (subst (DeclHeld s) (sym q) (c.requires.held.decls c.loop-decl.decl-index c.decl-item.result l)) l q c.loop-decl.invariant.puts c.in_err-next.field-0.0 c.in_err-next.ensures.fault)

pub loop-decl-preserved : goal.loop-decl-preserved
loop-decl-preserved c =
    let s = c.args.store.now in
    let s1 = c.loop-decl.store in
    let s2 = c.push_in_place.new.store in
    let t = c.args.task.now in
    let set = c.args.set.now in
    let l = rw c.as_slice-decl-items.ensures at c.loop-decl-test.true in
    let q = rw c.as_slice-decl-items.ensures at c.decl-item.is in
    record {
      grows = Grows_trans s s1 s2 c.loop-decl.invariant.grows c.in_ok-next.ensures.grows;
      puts = place_more s s1 c.loop-decl.invariant.grows [] c.loop-decl.decls c.push_in_place.new.decls 1048576 c.loop-decl.left c.in_ok-next.next s2 (seen_occurrences s1 set) (seen_occurrences s set) (seen_later s s1 c.loop-decl.invariant.grows set c.requires.set_held) t.decls c.loop-decl.decl-index c.decl-item.result
          (subst (DeclHeld s) (sym q) (c.requires.held.decls c.loop-decl.decl-index c.decl-item.result l)) l q c.loop-decl.invariant.puts c.in_ok-next.ensures.puts;
    }

pub returns-clause-decls : goal.returns-clause-decls
returns-clause-decls c =
    let s = c.args.store.now in
    let t = c.args.task.now in
    let o = seen_occurrences s c.args.set.now in
    let l = rw c.as_slice-decl-items.ensures at c.loop-decl-test.false in
    c.loop-decl.invariant.puts.are ∙ puts_all (placed_of s o) t.decls c.loop-decl.decl-index l ∙ all_placed s o t.decls
