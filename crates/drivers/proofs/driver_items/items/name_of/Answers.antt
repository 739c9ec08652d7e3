use Rattle.std.proofs.Common.{◌∙◌, arith}
use Rattle.drivers.proofs.driver_items.Naming.{whole-name, all-bytes}
use Rattle.drivers.proofs.driver_items.items.name_of.Goals as goal

pub returns : goal.returns
returns c =
    let text = c.args.text.now in
    let ts = c.args.tokens.now in
    let name = c.loop-token.name.items in
    c.from_vec.ensures ∙ whole-name text ts name c.push_line.new.name.items (all-bytes text ts name c.loop-token.token-index (omega arith) c.loop-token.invariant) c.in_ok-push_line.ensures
