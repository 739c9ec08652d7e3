use Rattle.std.proofs.Common.{◌≡◌, ◌∷◌, [], ◌++◌, replicate, ap, sym, ◌∙◌, rules}
use Rattle.trees.specs.Node.{tree_at}
use Rattle.tasks.specs.Meaning.{trees_at}
use Rattle.checks.specs.match_cover.Tables.{opened}
use Rattle.checks.proofs.match_cover.Tables.{opened_none, trees_repeated}
use Rattle.checks.proofs.match_cover.patterns.parts.Goals as goal

pub returns-in_ok-vec-in-None-clause-tree : goal.returns-in_ok-vec-in-None-clause-tree
returns-in_ok-vec-in-None-clause-tree c =
    let s = c.args.store.now in
    let inner = c.bare_pattern-inner.result in
    let items : c.in_ok-vec-in-None.field-0.items ≡ replicate c.args.arity inner = search rules in
    λ row. ap (λ y. (y ++ row) ∷ []) (ap (trees_at s) items ∙ trees_repeated s c.args.arity inner)
    ∙ sym (opened_none c.args.con c.args.arity (tree_at s inner) row (sym c.in-None.ensures.tree))
    ∙ ap (λ p. opened c.args.con c.args.arity p row) c.bare_pattern-inner.ensures.tree
