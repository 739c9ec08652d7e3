use Rattle.std.proofs.Common.{◌≡◌, rules, arith}
use Rattle.trees.specs.declared.Sort.TheVariants.{Term}
use Rattle.trees.specs.Node.{tree_at, Holds}
use Rattle.trees.specs.Sorts.{sort_of, IsList}
use Rattle.open_types.proofs.Fielding.{cell_terms, term_push}
use Rattle.open_types.proofs.records.+push_terms.Goals as goal

pub push_terms-requires : goal.push_terms-requires
push_terms-requires t c =
    let s = c.args.store.now in
    let k : (sort_of (tree_at s c.in-Cell.first) ≡ Term) × IsList Term (tree_at s c.in-Cell.rest) = cell_terms (tree_at s c.args.list) _ _ c.in-Cell.ensures.tree c.in-Cell.ensures.fits c.requires.terms in
    let first : Holds s c.in-Cell.first = omega (arith, c.in-Cell.ensures.below.0, c.requires.held) in
    let rest : Holds s c.in-Cell.rest = omega (arith, c.in-Cell.ensures.below.1, c.requires.held) in
    let out = term_push s c.args.out.now.items _ c.in-Cell.first c.in_ok-push-in-Cell.ensures.items c.requires.out_held first k.0 in
    search rules
