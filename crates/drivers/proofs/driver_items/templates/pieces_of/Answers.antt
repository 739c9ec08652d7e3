use Rattle.drivers.proofs.driver_items.Pieces.{byte-more, byte-ends}
use Rattle.drivers.proofs.driver_items.templates.pieces_of.Goals as goal

pub loop-byte-preserved : goal.loop-byte-preserved
loop-byte-preserved c =
    let l = c.loop-byte in
    let n = c.take_byte.new in
    byte-more c.args.template.now l.byte-index _ l.percent l.pieces n.pieces l.literal.items n.literal.items _ c.loop-byte-test.true l.invariant c.in-Some.next (rw c.in-Some.is at c.in_ok-next.ensures)

pub returns-in-None : goal.returns-in-None
returns-in-None c =
    let l = c.loop-byte in
    let n = c.take_byte.new in
    byte-ends c.args.template.now l.byte-index _ l.percent l.pieces n.pieces l.literal.items n.literal.items _ c.loop-byte-test.true l.invariant (rw c.in-None.is at c.in_ok-next.ensures)
