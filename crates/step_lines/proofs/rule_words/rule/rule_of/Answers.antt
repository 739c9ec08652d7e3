use Rattle.std.proofs.Common.{◌≡◌, List, Option, sym, ap, ◌∙◌}
use Rattle.rules.specs.Trees.{RuleTree, RAnd, RAndThen, RCase, RClash, RCut, RDistinct, RExists, RFalse, RForall, RIfDef, RIff, RImp, RInject, RIrrefl, RLetDef, RMatchDef, RNotAnd, RNotAndThen, RNotExists, RNotForall, RNotIff, RNotImp, RNotNot, RNotOr, RNotOrElse, RNotTrue, ROr, ROrElse, RProject, RRefl, RReplace, RTrichotomy}
use Rattle.step_lines.specs.declared.rule_words.name.RuleName.{RuleName}
use Rattle.step_lines.specs.rule_words.Arguments.{ArgumentTree, arguments_at}
use Rattle.step_lines.specs.rule_words.Rules.{rule_from}
use Rattle.step_lines.proofs.rule_words.rule.rule_of.Goals as goal

said : (n m : RuleName) (args : List ArgumentTree) (o : Option RuleTree) → n ≡ m → o ≡ rule_from m args → o ≡ rule_from n args
said n m args o e h = h ∙ sym (ap (λ (k : RuleName). rule_from k args) e)

pub returns-in-Some-clause-rule : goal.returns-in-Some-clause-rule
returns-in-Some-clause-rule c = said c.args.name _ (arguments_at c.args.store.now c.args.arguments.now) _ c.in-And.is (c.in-Some.ensures RAnd)

pub returns-in-Some-clause-held : goal.returns-in-Some-clause-held
returns-in-Some-clause-held c = tt

pub returns-in-None-clause-rule : goal.returns-in-None-clause-rule
returns-in-None-clause-rule c = said c.args.name _ (arguments_at c.args.store.now c.args.arguments.now) _ c.in-And.is (c.in-None.ensures RAnd)

pub returns-in-None-clause-held : goal.returns-in-None-clause-held
returns-in-None-clause-held c = tt

pub returns-in-Some-one_number-clause-rule : goal.returns-in-Some-one_number-clause-rule
returns-in-Some-one_number-clause-rule c = said c.args.name _ (arguments_at c.args.store.now c.args.arguments.now) _ c.in-AndThen.is (c.in-Some-one_number.ensures RAndThen)

pub returns-in-Some-one_number-clause-held : goal.returns-in-Some-one_number-clause-held
returns-in-Some-one_number-clause-held c = tt

pub returns-in-None-one_number-clause-rule : goal.returns-in-None-one_number-clause-rule
returns-in-None-one_number-clause-rule c = said c.args.name _ (arguments_at c.args.store.now c.args.arguments.now) _ c.in-AndThen.is (c.in-None-one_number.ensures RAndThen)

pub returns-in-None-one_number-clause-held : goal.returns-in-None-one_number-clause-held
returns-in-None-one_number-clause-held c = tt

pub returns-in-Some-one_expression-clause-rule : goal.returns-in-Some-one_expression-clause-rule
returns-in-Some-one_expression-clause-rule c = said c.args.name _ (arguments_at c.args.store.now c.args.arguments.now) _ c.in-Case.is (c.in-Some-one_expression.ensures.rule RCase)

pub returns-in-Some-one_expression-clause-held : goal.returns-in-Some-one_expression-clause-held
returns-in-Some-one_expression-clause-held c = c.in-Some-one_expression.ensures.held

pub returns-in-None-one_expression-clause-rule : goal.returns-in-None-one_expression-clause-rule
returns-in-None-one_expression-clause-rule c = said c.args.name _ (arguments_at c.args.store.now c.args.arguments.now) _ c.in-Case.is (c.in-None-one_expression.ensures.rule RCase)

pub returns-in-None-one_expression-clause-held : goal.returns-in-None-one_expression-clause-held
returns-in-None-one_expression-clause-held c = tt

pub returns-in-Some-two_numbers-clause-rule : goal.returns-in-Some-two_numbers-clause-rule
returns-in-Some-two_numbers-clause-rule c = said c.args.name _ (arguments_at c.args.store.now c.args.arguments.now) _ c.in-Clash.is (c.in-Some-two_numbers.ensures RClash)

pub returns-in-Some-two_numbers-clause-held : goal.returns-in-Some-two_numbers-clause-held
returns-in-Some-two_numbers-clause-held c = tt

pub returns-in-None-two_numbers-clause-rule : goal.returns-in-None-two_numbers-clause-rule
returns-in-None-two_numbers-clause-rule c = said c.args.name _ (arguments_at c.args.store.now c.args.arguments.now) _ c.in-Clash.is (c.in-None-two_numbers.ensures RClash)

pub returns-in-None-two_numbers-clause-held : goal.returns-in-None-two_numbers-clause-held
returns-in-None-two_numbers-clause-held c = tt

pub returns-in-Some-one_expression-2-clause-rule : goal.returns-in-Some-one_expression-2-clause-rule
returns-in-Some-one_expression-2-clause-rule c = said c.args.name _ (arguments_at c.args.store.now c.args.arguments.now) _ c.in-Cut.is (c.in-Some-one_expression-2.ensures.rule RCut)

pub returns-in-Some-one_expression-2-clause-held : goal.returns-in-Some-one_expression-2-clause-held
returns-in-Some-one_expression-2-clause-held c = c.in-Some-one_expression-2.ensures.held

pub returns-in-None-one_expression-2-clause-rule : goal.returns-in-None-one_expression-2-clause-rule
returns-in-None-one_expression-2-clause-rule c = said c.args.name _ (arguments_at c.args.store.now c.args.arguments.now) _ c.in-Cut.is (c.in-None-one_expression-2.ensures.rule RCut)

pub returns-in-None-one_expression-2-clause-held : goal.returns-in-None-one_expression-2-clause-held
returns-in-None-one_expression-2-clause-held c = tt

pub returns-in-Some-one_number-2-clause-rule : goal.returns-in-Some-one_number-2-clause-rule
returns-in-Some-one_number-2-clause-rule c = said c.args.name _ (arguments_at c.args.store.now c.args.arguments.now) _ c.in-Distinct.is (c.in-Some-one_number-2.ensures RDistinct)

pub returns-in-Some-one_number-2-clause-held : goal.returns-in-Some-one_number-2-clause-held
returns-in-Some-one_number-2-clause-held c = tt

pub returns-in-None-one_number-2-clause-rule : goal.returns-in-None-one_number-2-clause-rule
returns-in-None-one_number-2-clause-rule c = said c.args.name _ (arguments_at c.args.store.now c.args.arguments.now) _ c.in-Distinct.is (c.in-None-one_number-2.ensures RDistinct)

pub returns-in-None-one_number-2-clause-held : goal.returns-in-None-one_number-2-clause-held
returns-in-None-one_number-2-clause-held c = tt

pub returns-in-Some-two_numbers-2-clause-rule : goal.returns-in-Some-two_numbers-2-clause-rule
returns-in-Some-two_numbers-2-clause-rule c = said c.args.name _ (arguments_at c.args.store.now c.args.arguments.now) _ c.in-Exists.is (c.in-Some-two_numbers-2.ensures RExists)

pub returns-in-Some-two_numbers-2-clause-held : goal.returns-in-Some-two_numbers-2-clause-held
returns-in-Some-two_numbers-2-clause-held c = tt

pub returns-in-None-two_numbers-2-clause-rule : goal.returns-in-None-two_numbers-2-clause-rule
returns-in-None-two_numbers-2-clause-rule c = said c.args.name _ (arguments_at c.args.store.now c.args.arguments.now) _ c.in-Exists.is (c.in-None-two_numbers-2.ensures RExists)

pub returns-in-None-two_numbers-2-clause-held : goal.returns-in-None-two_numbers-2-clause-held
returns-in-None-two_numbers-2-clause-held c = tt

pub returns-in-Some-one_number-3-clause-rule : goal.returns-in-Some-one_number-3-clause-rule
returns-in-Some-one_number-3-clause-rule c = said c.args.name _ (arguments_at c.args.store.now c.args.arguments.now) _ c.in-False.is (c.in-Some-one_number-3.ensures RFalse)

pub returns-in-Some-one_number-3-clause-held : goal.returns-in-Some-one_number-3-clause-held
returns-in-Some-one_number-3-clause-held c = tt

pub returns-in-None-one_number-3-clause-rule : goal.returns-in-None-one_number-3-clause-rule
returns-in-None-one_number-3-clause-rule c = said c.args.name _ (arguments_at c.args.store.now c.args.arguments.now) _ c.in-False.is (c.in-None-one_number-3.ensures RFalse)

pub returns-in-None-one_number-3-clause-held : goal.returns-in-None-one_number-3-clause-held
returns-in-None-one_number-3-clause-held c = tt

pub returns-in-Some-number_expression-clause-rule : goal.returns-in-Some-number_expression-clause-rule
returns-in-Some-number_expression-clause-rule c = said c.args.name _ (arguments_at c.args.store.now c.args.arguments.now) _ c.in-Forall.is (c.in-Some-number_expression.ensures.rule RForall)

pub returns-in-Some-number_expression-clause-held : goal.returns-in-Some-number_expression-clause-held
returns-in-Some-number_expression-clause-held c = c.in-Some-number_expression.ensures.held

pub returns-in-None-number_expression-clause-rule : goal.returns-in-None-number_expression-clause-rule
returns-in-None-number_expression-clause-rule c = said c.args.name _ (arguments_at c.args.store.now c.args.arguments.now) _ c.in-Forall.is (c.in-None-number_expression.ensures.rule RForall)

pub returns-in-None-number_expression-clause-held : goal.returns-in-None-number_expression-clause-held
returns-in-None-number_expression-clause-held c = tt

pub returns-in-Some-one_expression-3-clause-rule : goal.returns-in-Some-one_expression-3-clause-rule
returns-in-Some-one_expression-3-clause-rule c = said c.args.name _ (arguments_at c.args.store.now c.args.arguments.now) _ c.in-IfDef.is (c.in-Some-one_expression-3.ensures.rule RIfDef)

pub returns-in-Some-one_expression-3-clause-held : goal.returns-in-Some-one_expression-3-clause-held
returns-in-Some-one_expression-3-clause-held c = c.in-Some-one_expression-3.ensures.held

pub returns-in-None-one_expression-3-clause-rule : goal.returns-in-None-one_expression-3-clause-rule
returns-in-None-one_expression-3-clause-rule c = said c.args.name _ (arguments_at c.args.store.now c.args.arguments.now) _ c.in-IfDef.is (c.in-None-one_expression-3.ensures.rule RIfDef)

pub returns-in-None-one_expression-3-clause-held : goal.returns-in-None-one_expression-3-clause-held
returns-in-None-one_expression-3-clause-held c = tt

pub returns-in-Some-one_number-4-clause-rule : goal.returns-in-Some-one_number-4-clause-rule
returns-in-Some-one_number-4-clause-rule c = said c.args.name _ (arguments_at c.args.store.now c.args.arguments.now) _ c.in-Iff.is (c.in-Some-one_number-4.ensures RIff)

pub returns-in-Some-one_number-4-clause-held : goal.returns-in-Some-one_number-4-clause-held
returns-in-Some-one_number-4-clause-held c = tt

pub returns-in-None-one_number-4-clause-rule : goal.returns-in-None-one_number-4-clause-rule
returns-in-None-one_number-4-clause-rule c = said c.args.name _ (arguments_at c.args.store.now c.args.arguments.now) _ c.in-Iff.is (c.in-None-one_number-4.ensures RIff)

pub returns-in-None-one_number-4-clause-held : goal.returns-in-None-one_number-4-clause-held
returns-in-None-one_number-4-clause-held c = tt

pub returns-in-Some-one_number-5-clause-rule : goal.returns-in-Some-one_number-5-clause-rule
returns-in-Some-one_number-5-clause-rule c = said c.args.name _ (arguments_at c.args.store.now c.args.arguments.now) _ c.in-Imp.is (c.in-Some-one_number-5.ensures RImp)

pub returns-in-Some-one_number-5-clause-held : goal.returns-in-Some-one_number-5-clause-held
returns-in-Some-one_number-5-clause-held c = tt

pub returns-in-None-one_number-5-clause-rule : goal.returns-in-None-one_number-5-clause-rule
returns-in-None-one_number-5-clause-rule c = said c.args.name _ (arguments_at c.args.store.now c.args.arguments.now) _ c.in-Imp.is (c.in-None-one_number-5.ensures RImp)

pub returns-in-None-one_number-5-clause-held : goal.returns-in-None-one_number-5-clause-held
returns-in-None-one_number-5-clause-held c = tt

pub returns-in-Some-one_number-6-clause-rule : goal.returns-in-Some-one_number-6-clause-rule
returns-in-Some-one_number-6-clause-rule c = said c.args.name _ (arguments_at c.args.store.now c.args.arguments.now) _ c.in-Inject.is (c.in-Some-one_number-6.ensures RInject)

pub returns-in-Some-one_number-6-clause-held : goal.returns-in-Some-one_number-6-clause-held
returns-in-Some-one_number-6-clause-held c = tt

pub returns-in-None-one_number-6-clause-rule : goal.returns-in-None-one_number-6-clause-rule
returns-in-None-one_number-6-clause-rule c = said c.args.name _ (arguments_at c.args.store.now c.args.arguments.now) _ c.in-Inject.is (c.in-None-one_number-6.ensures RInject)

pub returns-in-None-one_number-6-clause-held : goal.returns-in-None-one_number-6-clause-held
returns-in-None-one_number-6-clause-held c = tt

pub returns-in-Some-one_number-7-clause-rule : goal.returns-in-Some-one_number-7-clause-rule
returns-in-Some-one_number-7-clause-rule c = said c.args.name _ (arguments_at c.args.store.now c.args.arguments.now) _ c.in-Irrefl.is (c.in-Some-one_number-7.ensures RIrrefl)

pub returns-in-Some-one_number-7-clause-held : goal.returns-in-Some-one_number-7-clause-held
returns-in-Some-one_number-7-clause-held c = tt

pub returns-in-None-one_number-7-clause-rule : goal.returns-in-None-one_number-7-clause-rule
returns-in-None-one_number-7-clause-rule c = said c.args.name _ (arguments_at c.args.store.now c.args.arguments.now) _ c.in-Irrefl.is (c.in-None-one_number-7.ensures RIrrefl)

pub returns-in-None-one_number-7-clause-held : goal.returns-in-None-one_number-7-clause-held
returns-in-None-one_number-7-clause-held c = tt

pub returns-in-Some-one_expression-4-clause-rule : goal.returns-in-Some-one_expression-4-clause-rule
returns-in-Some-one_expression-4-clause-rule c = said c.args.name _ (arguments_at c.args.store.now c.args.arguments.now) _ c.in-LetDef.is (c.in-Some-one_expression-4.ensures.rule RLetDef)

pub returns-in-Some-one_expression-4-clause-held : goal.returns-in-Some-one_expression-4-clause-held
returns-in-Some-one_expression-4-clause-held c = c.in-Some-one_expression-4.ensures.held

pub returns-in-None-one_expression-4-clause-rule : goal.returns-in-None-one_expression-4-clause-rule
returns-in-None-one_expression-4-clause-rule c = said c.args.name _ (arguments_at c.args.store.now c.args.arguments.now) _ c.in-LetDef.is (c.in-None-one_expression-4.ensures.rule RLetDef)

pub returns-in-None-one_expression-4-clause-held : goal.returns-in-None-one_expression-4-clause-held
returns-in-None-one_expression-4-clause-held c = tt

pub returns-in-Some-one_expression-5-clause-rule : goal.returns-in-Some-one_expression-5-clause-rule
returns-in-Some-one_expression-5-clause-rule c = said c.args.name _ (arguments_at c.args.store.now c.args.arguments.now) _ c.in-MatchDef.is (c.in-Some-one_expression-5.ensures.rule RMatchDef)

pub returns-in-Some-one_expression-5-clause-held : goal.returns-in-Some-one_expression-5-clause-held
returns-in-Some-one_expression-5-clause-held c = c.in-Some-one_expression-5.ensures.held

pub returns-in-None-one_expression-5-clause-rule : goal.returns-in-None-one_expression-5-clause-rule
returns-in-None-one_expression-5-clause-rule c = said c.args.name _ (arguments_at c.args.store.now c.args.arguments.now) _ c.in-MatchDef.is (c.in-None-one_expression-5.ensures.rule RMatchDef)

pub returns-in-None-one_expression-5-clause-held : goal.returns-in-None-one_expression-5-clause-held
returns-in-None-one_expression-5-clause-held c = tt

pub returns-in-Some-one_number-8-clause-rule : goal.returns-in-Some-one_number-8-clause-rule
returns-in-Some-one_number-8-clause-rule c = said c.args.name _ (arguments_at c.args.store.now c.args.arguments.now) _ c.in-NotAnd.is (c.in-Some-one_number-8.ensures RNotAnd)

pub returns-in-Some-one_number-8-clause-held : goal.returns-in-Some-one_number-8-clause-held
returns-in-Some-one_number-8-clause-held c = tt

pub returns-in-None-one_number-8-clause-rule : goal.returns-in-None-one_number-8-clause-rule
returns-in-None-one_number-8-clause-rule c = said c.args.name _ (arguments_at c.args.store.now c.args.arguments.now) _ c.in-NotAnd.is (c.in-None-one_number-8.ensures RNotAnd)

pub returns-in-None-one_number-8-clause-held : goal.returns-in-None-one_number-8-clause-held
returns-in-None-one_number-8-clause-held c = tt

pub returns-in-Some-one_number-9-clause-rule : goal.returns-in-Some-one_number-9-clause-rule
returns-in-Some-one_number-9-clause-rule c = said c.args.name _ (arguments_at c.args.store.now c.args.arguments.now) _ c.in-NotAndThen.is (c.in-Some-one_number-9.ensures RNotAndThen)

pub returns-in-Some-one_number-9-clause-held : goal.returns-in-Some-one_number-9-clause-held
returns-in-Some-one_number-9-clause-held c = tt

pub returns-in-None-one_number-9-clause-rule : goal.returns-in-None-one_number-9-clause-rule
returns-in-None-one_number-9-clause-rule c = said c.args.name _ (arguments_at c.args.store.now c.args.arguments.now) _ c.in-NotAndThen.is (c.in-None-one_number-9.ensures RNotAndThen)

pub returns-in-None-one_number-9-clause-held : goal.returns-in-None-one_number-9-clause-held
returns-in-None-one_number-9-clause-held c = tt

pub returns-in-Some-number_expression-2-clause-rule : goal.returns-in-Some-number_expression-2-clause-rule
returns-in-Some-number_expression-2-clause-rule c = said c.args.name _ (arguments_at c.args.store.now c.args.arguments.now) _ c.in-NotExists.is (c.in-Some-number_expression-2.ensures.rule RNotExists)

pub returns-in-Some-number_expression-2-clause-held : goal.returns-in-Some-number_expression-2-clause-held
returns-in-Some-number_expression-2-clause-held c = c.in-Some-number_expression-2.ensures.held

pub returns-in-None-number_expression-2-clause-rule : goal.returns-in-None-number_expression-2-clause-rule
returns-in-None-number_expression-2-clause-rule c = said c.args.name _ (arguments_at c.args.store.now c.args.arguments.now) _ c.in-NotExists.is (c.in-None-number_expression-2.ensures.rule RNotExists)

pub returns-in-None-number_expression-2-clause-held : goal.returns-in-None-number_expression-2-clause-held
returns-in-None-number_expression-2-clause-held c = tt

pub returns-in-Some-two_numbers-3-clause-rule : goal.returns-in-Some-two_numbers-3-clause-rule
returns-in-Some-two_numbers-3-clause-rule c = said c.args.name _ (arguments_at c.args.store.now c.args.arguments.now) _ c.in-NotForall.is (c.in-Some-two_numbers-3.ensures RNotForall)

pub returns-in-Some-two_numbers-3-clause-held : goal.returns-in-Some-two_numbers-3-clause-held
returns-in-Some-two_numbers-3-clause-held c = tt

pub returns-in-None-two_numbers-3-clause-rule : goal.returns-in-None-two_numbers-3-clause-rule
returns-in-None-two_numbers-3-clause-rule c = said c.args.name _ (arguments_at c.args.store.now c.args.arguments.now) _ c.in-NotForall.is (c.in-None-two_numbers-3.ensures RNotForall)

pub returns-in-None-two_numbers-3-clause-held : goal.returns-in-None-two_numbers-3-clause-held
returns-in-None-two_numbers-3-clause-held c = tt

pub returns-in-Some-one_number-10-clause-rule : goal.returns-in-Some-one_number-10-clause-rule
returns-in-Some-one_number-10-clause-rule c = said c.args.name _ (arguments_at c.args.store.now c.args.arguments.now) _ c.in-NotIff.is (c.in-Some-one_number-10.ensures RNotIff)

pub returns-in-Some-one_number-10-clause-held : goal.returns-in-Some-one_number-10-clause-held
returns-in-Some-one_number-10-clause-held c = tt

pub returns-in-None-one_number-10-clause-rule : goal.returns-in-None-one_number-10-clause-rule
returns-in-None-one_number-10-clause-rule c = said c.args.name _ (arguments_at c.args.store.now c.args.arguments.now) _ c.in-NotIff.is (c.in-None-one_number-10.ensures RNotIff)

pub returns-in-None-one_number-10-clause-held : goal.returns-in-None-one_number-10-clause-held
returns-in-None-one_number-10-clause-held c = tt

pub returns-in-Some-one_number-11-clause-rule : goal.returns-in-Some-one_number-11-clause-rule
returns-in-Some-one_number-11-clause-rule c = said c.args.name _ (arguments_at c.args.store.now c.args.arguments.now) _ c.in-NotImp.is (c.in-Some-one_number-11.ensures RNotImp)

pub returns-in-Some-one_number-11-clause-held : goal.returns-in-Some-one_number-11-clause-held
returns-in-Some-one_number-11-clause-held c = tt

pub returns-in-None-one_number-11-clause-rule : goal.returns-in-None-one_number-11-clause-rule
returns-in-None-one_number-11-clause-rule c = said c.args.name _ (arguments_at c.args.store.now c.args.arguments.now) _ c.in-NotImp.is (c.in-None-one_number-11.ensures RNotImp)

pub returns-in-None-one_number-11-clause-held : goal.returns-in-None-one_number-11-clause-held
returns-in-None-one_number-11-clause-held c = tt

pub returns-in-Some-one_number-12-clause-rule : goal.returns-in-Some-one_number-12-clause-rule
returns-in-Some-one_number-12-clause-rule c = said c.args.name _ (arguments_at c.args.store.now c.args.arguments.now) _ c.in-NotNot.is (c.in-Some-one_number-12.ensures RNotNot)

pub returns-in-Some-one_number-12-clause-held : goal.returns-in-Some-one_number-12-clause-held
returns-in-Some-one_number-12-clause-held c = tt

pub returns-in-None-one_number-12-clause-rule : goal.returns-in-None-one_number-12-clause-rule
returns-in-None-one_number-12-clause-rule c = said c.args.name _ (arguments_at c.args.store.now c.args.arguments.now) _ c.in-NotNot.is (c.in-None-one_number-12.ensures RNotNot)

pub returns-in-None-one_number-12-clause-held : goal.returns-in-None-one_number-12-clause-held
returns-in-None-one_number-12-clause-held c = tt

pub returns-in-Some-one_number-13-clause-rule : goal.returns-in-Some-one_number-13-clause-rule
returns-in-Some-one_number-13-clause-rule c = said c.args.name _ (arguments_at c.args.store.now c.args.arguments.now) _ c.in-NotOr.is (c.in-Some-one_number-13.ensures RNotOr)

pub returns-in-Some-one_number-13-clause-held : goal.returns-in-Some-one_number-13-clause-held
returns-in-Some-one_number-13-clause-held c = tt

pub returns-in-None-one_number-13-clause-rule : goal.returns-in-None-one_number-13-clause-rule
returns-in-None-one_number-13-clause-rule c = said c.args.name _ (arguments_at c.args.store.now c.args.arguments.now) _ c.in-NotOr.is (c.in-None-one_number-13.ensures RNotOr)

pub returns-in-None-one_number-13-clause-held : goal.returns-in-None-one_number-13-clause-held
returns-in-None-one_number-13-clause-held c = tt

pub returns-in-Some-one_number-14-clause-rule : goal.returns-in-Some-one_number-14-clause-rule
returns-in-Some-one_number-14-clause-rule c = said c.args.name _ (arguments_at c.args.store.now c.args.arguments.now) _ c.in-NotOrElse.is (c.in-Some-one_number-14.ensures RNotOrElse)

pub returns-in-Some-one_number-14-clause-held : goal.returns-in-Some-one_number-14-clause-held
returns-in-Some-one_number-14-clause-held c = tt

pub returns-in-None-one_number-14-clause-rule : goal.returns-in-None-one_number-14-clause-rule
returns-in-None-one_number-14-clause-rule c = said c.args.name _ (arguments_at c.args.store.now c.args.arguments.now) _ c.in-NotOrElse.is (c.in-None-one_number-14.ensures RNotOrElse)

pub returns-in-None-one_number-14-clause-held : goal.returns-in-None-one_number-14-clause-held
returns-in-None-one_number-14-clause-held c = tt

pub returns-in-Some-one_number-15-clause-rule : goal.returns-in-Some-one_number-15-clause-rule
returns-in-Some-one_number-15-clause-rule c = said c.args.name _ (arguments_at c.args.store.now c.args.arguments.now) _ c.in-NotTrue.is (c.in-Some-one_number-15.ensures RNotTrue)

pub returns-in-Some-one_number-15-clause-held : goal.returns-in-Some-one_number-15-clause-held
returns-in-Some-one_number-15-clause-held c = tt

pub returns-in-None-one_number-15-clause-rule : goal.returns-in-None-one_number-15-clause-rule
returns-in-None-one_number-15-clause-rule c = said c.args.name _ (arguments_at c.args.store.now c.args.arguments.now) _ c.in-NotTrue.is (c.in-None-one_number-15.ensures RNotTrue)

pub returns-in-None-one_number-15-clause-held : goal.returns-in-None-one_number-15-clause-held
returns-in-None-one_number-15-clause-held c = tt

pub returns-in-Some-one_number-16-clause-rule : goal.returns-in-Some-one_number-16-clause-rule
returns-in-Some-one_number-16-clause-rule c = said c.args.name _ (arguments_at c.args.store.now c.args.arguments.now) _ c.in-Or.is (c.in-Some-one_number-16.ensures ROr)

pub returns-in-Some-one_number-16-clause-held : goal.returns-in-Some-one_number-16-clause-held
returns-in-Some-one_number-16-clause-held c = tt

pub returns-in-None-one_number-16-clause-rule : goal.returns-in-None-one_number-16-clause-rule
returns-in-None-one_number-16-clause-rule c = said c.args.name _ (arguments_at c.args.store.now c.args.arguments.now) _ c.in-Or.is (c.in-None-one_number-16.ensures ROr)

pub returns-in-None-one_number-16-clause-held : goal.returns-in-None-one_number-16-clause-held
returns-in-None-one_number-16-clause-held c = tt

pub returns-in-Some-one_number-17-clause-rule : goal.returns-in-Some-one_number-17-clause-rule
returns-in-Some-one_number-17-clause-rule c = said c.args.name _ (arguments_at c.args.store.now c.args.arguments.now) _ c.in-OrElse.is (c.in-Some-one_number-17.ensures ROrElse)

pub returns-in-Some-one_number-17-clause-held : goal.returns-in-Some-one_number-17-clause-held
returns-in-Some-one_number-17-clause-held c = tt

pub returns-in-None-one_number-17-clause-rule : goal.returns-in-None-one_number-17-clause-rule
returns-in-None-one_number-17-clause-rule c = said c.args.name _ (arguments_at c.args.store.now c.args.arguments.now) _ c.in-OrElse.is (c.in-None-one_number-17.ensures ROrElse)

pub returns-in-None-one_number-17-clause-held : goal.returns-in-None-one_number-17-clause-held
returns-in-None-one_number-17-clause-held c = tt

pub returns-in-Some-one_expression-6-clause-rule : goal.returns-in-Some-one_expression-6-clause-rule
returns-in-Some-one_expression-6-clause-rule c = said c.args.name _ (arguments_at c.args.store.now c.args.arguments.now) _ c.in-Project.is (c.in-Some-one_expression-6.ensures.rule RProject)

pub returns-in-Some-one_expression-6-clause-held : goal.returns-in-Some-one_expression-6-clause-held
returns-in-Some-one_expression-6-clause-held c = c.in-Some-one_expression-6.ensures.held

pub returns-in-None-one_expression-6-clause-rule : goal.returns-in-None-one_expression-6-clause-rule
returns-in-None-one_expression-6-clause-rule c = said c.args.name _ (arguments_at c.args.store.now c.args.arguments.now) _ c.in-Project.is (c.in-None-one_expression-6.ensures.rule RProject)

pub returns-in-None-one_expression-6-clause-held : goal.returns-in-None-one_expression-6-clause-held
returns-in-None-one_expression-6-clause-held c = tt

pub returns-in-Some-one_expression-7-clause-rule : goal.returns-in-Some-one_expression-7-clause-rule
returns-in-Some-one_expression-7-clause-rule c = said c.args.name _ (arguments_at c.args.store.now c.args.arguments.now) _ c.in-Refl.is (c.in-Some-one_expression-7.ensures.rule RRefl)

pub returns-in-Some-one_expression-7-clause-held : goal.returns-in-Some-one_expression-7-clause-held
returns-in-Some-one_expression-7-clause-held c = c.in-Some-one_expression-7.ensures.held

pub returns-in-None-one_expression-7-clause-rule : goal.returns-in-None-one_expression-7-clause-rule
returns-in-None-one_expression-7-clause-rule c = said c.args.name _ (arguments_at c.args.store.now c.args.arguments.now) _ c.in-Refl.is (c.in-None-one_expression-7.ensures.rule RRefl)

pub returns-in-None-one_expression-7-clause-held : goal.returns-in-None-one_expression-7-clause-held
returns-in-None-one_expression-7-clause-held c = tt

pub returns-in-Some-numbers_expression-clause-rule : goal.returns-in-Some-numbers_expression-clause-rule
returns-in-Some-numbers_expression-clause-rule c = said c.args.name _ (arguments_at c.args.store.now c.args.arguments.now) _ c.in-Replace.is (c.in-Some-numbers_expression.ensures.rule RReplace)

pub returns-in-Some-numbers_expression-clause-held : goal.returns-in-Some-numbers_expression-clause-held
returns-in-Some-numbers_expression-clause-held c = c.in-Some-numbers_expression.ensures.held

pub returns-in-None-numbers_expression-clause-rule : goal.returns-in-None-numbers_expression-clause-rule
returns-in-None-numbers_expression-clause-rule c = said c.args.name _ (arguments_at c.args.store.now c.args.arguments.now) _ c.in-Replace.is (c.in-None-numbers_expression.ensures.rule RReplace)

pub returns-in-None-numbers_expression-clause-held : goal.returns-in-None-numbers_expression-clause-held
returns-in-None-numbers_expression-clause-held c = tt

pub returns-in-Some-two_expressions-clause-rule : goal.returns-in-Some-two_expressions-clause-rule
returns-in-Some-two_expressions-clause-rule c = said c.args.name _ (arguments_at c.args.store.now c.args.arguments.now) _ c.in-Trichotomy.is (c.in-Some-two_expressions.ensures.rule RTrichotomy)

pub returns-in-Some-two_expressions-clause-held : goal.returns-in-Some-two_expressions-clause-held
returns-in-Some-two_expressions-clause-held c = (c.in-Some-two_expressions.ensures.first, c.in-Some-two_expressions.ensures.second)

pub returns-in-None-two_expressions-clause-rule : goal.returns-in-None-two_expressions-clause-rule
returns-in-None-two_expressions-clause-rule c = said c.args.name _ (arguments_at c.args.store.now c.args.arguments.now) _ c.in-Trichotomy.is (c.in-None-two_expressions.ensures.rule RTrichotomy)

pub returns-in-None-two_expressions-clause-held : goal.returns-in-None-two_expressions-clause-held
returns-in-None-two_expressions-clause-held c = tt
