use Rattle.std.proofs.Common.{arith}
use Rattle.trees.specs.declared.Sort.TheVariants.{Term}
use Rattle.trees.specs.Node.{tree_at}
use Rattle.trees.specs.binders.Visits.{HoldTerms}
use Rattle.images.proofs.match_terms.Growing.{list_cell, held_after}
use Rattle.tr_recursion.proofs.constructor_matches.fields.+push_terms.Goals as goal

pub push_terms-requires : goal.push_terms-requires
push_terms-requires t c =
    let s = c.args.store.now in
    let n = c.in-Cell.ensures in
    let h = c.requires.list in
    let k = list_cell Term (tree_at s c.args.list) (tree_at s c.in-Cell.first) (tree_at s c.in-Cell.rest) n.tree n.fits c.requires.sort in
    let out : HoldTerms s c.push.new.self.items = rw c.in_ok-push-in-Cell.ensures.items (held_after Term s c.args.terms.now.items c.in-Cell.first c.requires.terms (omega (arith, n.below.0, h)) k.0) in
    (omega (arith, n.below.1), (omega (arith, n.below.1, h), (k.1, out)))
