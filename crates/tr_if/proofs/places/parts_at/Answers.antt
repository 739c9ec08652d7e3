use Rattle.std.proofs.Common.{subst}
use Rattle.tasks.specs.trees.Node.{tree_at}
use Rattle.congruence.proofs.CaseParts.{if_parts}
use Rattle.tr_if.specs.conditionals.Held.{AreIfParts}
use Rattle.walking.proofs.Places.{place_closed}
use Rattle.tr_if.proofs.places.parts_at.Goals as goal

pub returns-clause-parts : goal.returns-clause-parts
returns-clause-parts c =
    let d = c.args.draft.now in
    let left = c.args.left in
    let k = c.if_parts-parts.result in
    let ip = subst (λ s. AreIfParts s (tree_at s left) k) c.store.ensures c.if_parts-parts.ensures in
    if_parts d (record { whole = left; condition = k.condition; then_part = k.then_part; else_part = k.else_part }) (place_closed d c.args.env.now c.args.e left c.args.fresh c.requires.place) ip.is ip.condition ip.then_part ip.else_part
