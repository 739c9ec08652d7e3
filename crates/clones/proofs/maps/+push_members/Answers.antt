use Rattle.std.proofs.Common.{◌≡◌, rules, arith}
use Rattle.trees.specs.declared.Sort.TheVariants.{Kind}
use Rattle.trees.specs.Node.{tree_at, Holds}
use Rattle.trees.specs.Sorts.{sort_of, IsList}
use Rattle.trees.specs.binders.Visits.{HoldTypes}
use Rattle.clones.proofs.Steps.{cell_kinds, held_push}
use Rattle.clones.proofs.maps.+push_members.Goals as goal

pub push_members-requires : goal.push_members-requires
push_members-requires t c =
    let s = c.args.store.now in
    let k : (sort_of (tree_at s c.in-Cell.first) ≡ Kind) × IsList Kind (tree_at s c.in-Cell.rest) = cell_kinds (tree_at s c.args.list) _ _ c.in-Cell.ensures.tree c.in-Cell.ensures.fits c.requires.types in
    let first : Holds s c.in-Cell.first = omega (arith, c.in-Cell.ensures.below.0, c.requires.held) in
    let rest : Holds s c.in-Cell.rest = omega (arith, c.in-Cell.ensures.below.1, c.requires.held) in
    let out : HoldTypes s c.push.new.self.items = held_push s c.args.out.now.items _ c.in-Cell.first c.in_ok-push-in-Cell.ensures.items c.requires.out_held first k.0 in
    search rules
