use Rattle.drivers.proofs.driver_items.Pieces.{plain-byte, escaped-byte, refused-byte}
use Rattle.drivers.proofs.driver_items.templates.take_byte.Goals as goal

pub returns-then-not-percent : goal.returns-then-not-percent
returns-then-not-percent c = plain-byte c.args.percent _ c.args.byte c.args.pieces.now c.args.literal.now.items c.take_plain.new.literal.items c.if-not-percent.true c.in_ok-take_plain.ensures

pub returns-then-stands : goal.returns-then-stands
returns-then-stands c = escaped-byte c.args.percent _ c.args.byte c.args.pieces.now c.take_escaped.new.pieces c.args.literal.now.items c.take_escaped.new.literal.items c.if-not-percent.false c.if-stands.true c.in_ok-stands.ensures

pub returns-else-stands : goal.returns-else-stands
returns-else-stands c = refused-byte c.args.percent _ c.args.byte c.args.pieces.now c.take_escaped.new.pieces c.args.literal.now.items c.take_escaped.new.literal.items c.if-not-percent.false c.if-stands.false c.in_ok-stands.ensures
