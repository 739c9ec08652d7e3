use Rattle.std.proofs.Common.{◌≡◌, ap, ◌∙◌, subst}
use Rattle.trees.specs.Node.{tree_at}
use Rattle.tasks.specs.Equations.{cells, type_variables}
use Rattle.checks.specs.decl_checks.Clauses.{rule, conclusion, IsOfPredicate}
use Rattle.checks.proofs.decl_checks.Nodes.{stand_each, below_each, own_each}
use Rattle.checks.proofs.decl_checks.clauses.has_form.Goals as goal

pub returns-then-is_of_predicate : goal.returns-then-is_of_predicate
returns-then-is_of_predicate c =
    let s = c.args.store.now in
    let e = tree_at s c.args.clause in
    let group = c.args.group.now in
    let vars = c.args.vars in
    let types = cells (type_variables 0 vars) in
    let last : tree_at s c.conclusion-last.result ≡ conclusion (rule e) = c.conclusion-last.ensures.tree ∙ ap conclusion c.rule.ensures.tree in
    let own = subst (IsOfPredicate c.args.symbol types) last (c.is_of_predicate.ensures.0 c.if-is_of_predicate.true) in (
      λ t. (let n = c.each_passes.ensures.0 t in record { conclusion = own; uses = stand_each group types vars e n; variables = below_each group types vars e n }),
      λ f. c.each_passes.ensures.1 (own_each group types vars e f.uses f.variables),
    )
