use Rattle.std.proofs.Common.{rules, ◌∙◌, length}
use Rattle.trees.specs.Node.{tree_at, Holds}
use Rattle.rules.proofs.fact_rules.Lists.{not_empty}
use Rattle.rules.proofs.fact_rules.Cells.{all_rest, more_clauses}
use Rattle.rules.proofs.fact_rules.parts.+is_given_by_any.Goals as goal
use Rattle.tasks.proofs.Declared.{no}

pub is_given_by_any-requires : goal.is_given_by_any-requires
is_given_by_any-requires t c = (
  search rules,
  (
    c.requires.types_held,
    (c.requires.args_held, (all_rest (Holds c.args.store.now) c.args.clauses.now c.in-Some.rest.now c.in-Some.first.now c.in-Some.ensures.cases.0 c.requires.clauses_held, search rules)),
  ),
)

pub returns-in-None-sides : goal.returns-in-None-sides
returns-in-None-sides t c =
    let s = c.args.store.now in
    let more = more_clauses s c.args.types.now c.args.args.now c.args.clauses.now c.in-Some.rest.now c.in-Some.first.now (tree_at s c.args.made) c.in-Some.ensures.cases.0
    (not_empty (length c.in-Some.rest.now) c.is_empty.result c.is_empty.ensures c.if-is_empty.false) in
    no (λ h. c.in-None-sides.ensures.none _ _ (h ∙ more))
