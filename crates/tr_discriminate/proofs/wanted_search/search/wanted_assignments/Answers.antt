use Rattle.std.proofs.Common.{◌+◌, ◌++◌, List, map, take, ap, ◌∙◌}
use Rattle.trees.specs.declared.TermId.{TermId}
use Rattle.trees.specs.Node.{tree_at, trees_at}
use Rattle.name_tables.specs.Seen.{seen_occurrences}
use Rattle.tr_discriminate.specs.wanted_instances.Search.{found_from}
use Rattle.tr_discriminate.specs.wanted_search.Search.{key_type, assignments_at}
use Rattle.tr_discriminate.proofs.wanted_search.Finding.{starts}
use Rattle.tr_discriminate.proofs.wanted_search.search.wanted_assignments.Goals as goal

pub returns-clause-are : goal.returns-clause-are
returns-clause-are c =
    let s = c.args.store.now in
    let a = tree_at s c.args.formula in
    let most = c.args.most in
    let vars = c.args.vars in
    let instances = seen_occurrences s c.args.set.now in
    let types = map (key_type s) c.args.types.now in
    c.in_ok-find.ensures.found.are
    ∙ ap (λ (z : List (List TermId)). take (most + 1) (assignments_at s z ++ found_from instances types a (trees_at s c.new-known.result.items) vars)) c.new-found.ensures.items
    ∙ ap (λ (z : List TermId). take (most + 1) (found_from instances types a (trees_at s z) vars)) c.new-known.ensures.items
    ∙ ap (take (most + 1)) (starts s c.args.set.now c.args.types.now a vars c.requires.types)
