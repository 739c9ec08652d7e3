use Rattle.std.proofs.Common.{Contains}
use Rattle.checks.proofs.decl_checks.Firsts.{all_next}
use Rattle.checks.proofs.decl_checks.values.+are_among.Goals as goal

pub returns-then-is_among : goal.returns-then-is_among
returns-then-is_among t c =
    all_next (Contains c.args.list.now) c.in-Some.first.now c.in-Some.rest.now c.args.numbers.now c.are_among.result c.in-Some.ensures.cases.0
    (c.is_among.ensures.among.0 c.if-is_among.true) c.are_among.ensures
