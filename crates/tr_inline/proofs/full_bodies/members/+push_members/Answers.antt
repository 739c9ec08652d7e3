use Rattle.std.proofs.Common.{rules, ◌≡◌, sym, subst, arith}
use Rattle.trees.specs.Node.{tree_at, Holds}
use Rattle.trees.specs.Sorts.{sort_of, IsList}
use Rattle.trees.specs.binders.Visits.{AreHeldOfSort}
use Rattle.tr_inline.proofs.full_bodies.ListMembers.{held_push, cell_parts}
use Rattle.tr_inline.proofs.full_bodies.members.+push_members.Goals as goal

pub push_members-requires : goal.push_members-requires
push_members-requires t c =
    let s = c.args.store.now in
    let first = c.in-Cell.first in
    let rest = c.in-Cell.rest in
    let p : (sort_of (tree_at s first) ≡ c.args.sort) × IsList c.args.sort (tree_at s rest) = cell_parts c.args.sort (tree_at s c.args.list) (tree_at s first) (tree_at s rest) c.in-Cell.ensures.tree c.in-Cell.ensures.fits c.requires.list in
    let held_first : Holds s first = omega (arith, c.in-Cell.ensures.below.0, c.requires.held) in
    let held_rest : Holds s rest = omega (arith, c.in-Cell.ensures.below.1, c.requires.held) in
    let k : AreHeldOfSort c.args.sort s c.push.new.self.items = subst (AreHeldOfSort c.args.sort s) (sym c.in_ok-push-in-Cell.ensures.items) (held_push c.args.sort s c.args.made.now.items first c.requires.made held_first p.0) in
    search rules
