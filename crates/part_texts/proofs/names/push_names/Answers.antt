use Rattle.tasks.specs.Meaning.{symbols_at}
use Rattle.part_texts.specs.Names.{entry_line, part_head}
use Rattle.part_texts.proofs.Parted.{flat_step, flat_done}
use Rattle.part_texts.proofs.names.push_names.Goals as goal

pub loop-entry-preserved : goal.loop-entry-preserved
loop-entry-preserved c = λ s. flat_step (entry_line (symbols_at s c.args.sig.now.symbols) c.args.names.now) c.args.names.now c.loop-entry.entry-index c.entry-item.result c.loop-entry.out.items c.push_entry.new.out.items _
    c.entry-item.is c.loop-entry-test.true (c.in_ok-push_entry.ensures s) (c.loop-entry.invariant s)

pub returns : goal.returns
returns c = λ s. flat_done (entry_line (symbols_at s c.args.sig.now.symbols) c.args.names.now) c.args.names.now c.loop-entry.entry-index c.args.out.now.items (part_head c.args.part c.args.parts) c.push_head.new.out.items c.loop-entry.out.items
    c.loop-entry-test.false c.in_ok-push_head.ensures (c.loop-entry.invariant s)
