use Rattle.std.proofs.Common.{subst, arith}
use Rattle.trees.specs.declared.Sort.TheVariants.{Term}
use Rattle.trees.specs.binders.Visits.{HoldTerms}
use Rattle.images.proofs.match_terms.Growing.{held_after}
use Rattle.tr_recursion.proofs.constructor_matches.fields.+push_bound.Goals as goal

pub push_bound-requires : goal.push_bound-requires
push_bound-requires t c =
    let s = c.args.store.now in
    let n = c.in-Cell.ensures in
    let own = subst (HoldTerms s) c.in-Some.ensures.cases.0 c.requires.own in
    let terms : HoldTerms s c.push.new.self.items = rw c.in_ok-push-in-PatVar.ensures.items (held_after Term s c.args.terms.now.items c.in-Some.term.now c.requires.terms own.0.0 own.0.1) in
    (omega (arith, n.below.1), (omega (arith, n.below.1, c.requires.patterns), (own.1, terms)))
