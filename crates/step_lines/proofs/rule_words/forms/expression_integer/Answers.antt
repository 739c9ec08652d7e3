use Rattle.std.proofs.Common.{rules, FitsSigned}
use Rattle.std.specs.Int.{w128}
use Rattle.std.proofs.lemmas.Int.{to_z-of_z}
use Rattle.step_lines.specs.rule_words.Arguments.{expression_in, integer_in}
use Rattle.step_lines.proofs.rule_words.Making.{two_made}
use Rattle.step_lines.proofs.rule_words.forms.expression_integer.Goals as goal

pub returns-in_ok-integer-in-len2-clause-rule : goal.returns-in_ok-integer-in-len2-clause-rule
returns-in_ok-integer-in-len2-clause-rule c f =
    let n = c.in_ok-integer-in-len2.field-0 in
    let g : FitsSigned w128 n = search rules in
    rw (to_z-of_z w128 n g) (two_made expression_in integer_in f c.args.store.now c.args.args.now _ _ _ c.in-len2.len_at_least c.in-len2.len_below (c.in_ok-expression-in-len2.ensures.tree c.args.store.now) (c.in_ok-integer-in-len2.ensures c.args.store.now))
