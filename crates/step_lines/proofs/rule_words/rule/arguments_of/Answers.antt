use Rattle.std.proofs.Common.{◌≡◌, IfOk, Result, Vec, Global, sym, subst}
use Rattle.std.specs.declared.alloc.AllocError.{AllocError}
use Rattle.rules.specs.declared.rule.Rule.{Rule}
use Rattle.step_lines.specs.declared.rule_words.argument.Argument.{Argument}
use Rattle.step_lines.specs.rule_words.Written.{name_and_arguments}
use Rattle.step_lines.proofs.rule_words.rule.arguments_of.Goals as goal

of_rule : (r q : Rule) (o : Result (Vec Argument Global) AllocError) → r ≡ q → IfOk o (λ v. v.items ≡ (name_and_arguments q).arguments) → IfOk o (λ v. v.items ≡ (name_and_arguments r).arguments)
of_rule r q o e h = subst (λ (x : Rule). IfOk o (λ v. v.items ≡ (name_and_arguments x).arguments)) (sym e) h

pub returns-in-And : goal.returns-in-And
returns-in-And c = of_rule c.args.rule.now _ c.copy_of.result c.in-And.is c.copy_of.ensures

pub returns-in-AndThen : goal.returns-in-AndThen
returns-in-AndThen c = of_rule c.args.rule.now _ c.copy_of-in-AndThen.result c.in-AndThen.is c.copy_of-in-AndThen.ensures

pub returns-in-Case : goal.returns-in-Case
returns-in-Case c = of_rule c.args.rule.now _ c.copy_of-in-Case.result c.in-Case.is c.copy_of-in-Case.ensures

pub returns-in-Clash : goal.returns-in-Clash
returns-in-Clash c = of_rule c.args.rule.now _ c.copy_of-in-Clash.result c.in-Clash.is c.copy_of-in-Clash.ensures

pub returns-in-Clause : goal.returns-in-Clause
returns-in-Clause c = of_rule c.args.rule.now _ c.type_arguments.result c.in-Clause.is (rw c.as_slice.ensures at c.type_arguments.ensures)

pub returns-in-Cut : goal.returns-in-Cut
returns-in-Cut c = of_rule c.args.rule.now _ c.copy_of-in-Cut.result c.in-Cut.is c.copy_of-in-Cut.ensures

pub returns-in-Def : goal.returns-in-Def
returns-in-Def c = of_rule c.args.rule.now _ c.type_arguments-in-Def.result c.in-Def.is (rw c.as_slice-in-Def.ensures at c.type_arguments-in-Def.ensures)

pub returns-in-Distinct : goal.returns-in-Distinct
returns-in-Distinct c = of_rule c.args.rule.now _ c.copy_of-in-Distinct.result c.in-Distinct.is c.copy_of-in-Distinct.ensures

pub returns-in-Exists : goal.returns-in-Exists
returns-in-Exists c = of_rule c.args.rule.now _ c.copy_of-in-Exists.result c.in-Exists.is c.copy_of-in-Exists.ensures

pub returns-in-Fact : goal.returns-in-Fact
returns-in-Fact c = of_rule c.args.rule.now _ c.type_arguments-in-Fact.result c.in-Fact.is (rw c.as_slice-in-Fact.ensures at c.type_arguments-in-Fact.ensures)

pub returns-in-False : goal.returns-in-False
returns-in-False c = of_rule c.args.rule.now _ c.copy_of-in-False.result c.in-False.is c.copy_of-in-False.ensures

pub returns-in-Forall : goal.returns-in-Forall
returns-in-Forall c = of_rule c.args.rule.now _ c.copy_of-in-Forall.result c.in-Forall.is c.copy_of-in-Forall.ensures

pub returns-in-IfDef : goal.returns-in-IfDef
returns-in-IfDef c = of_rule c.args.rule.now _ c.copy_of-in-IfDef.result c.in-IfDef.is c.copy_of-in-IfDef.ensures

pub returns-in-Iff : goal.returns-in-Iff
returns-in-Iff c = of_rule c.args.rule.now _ c.copy_of-in-Iff.result c.in-Iff.is c.copy_of-in-Iff.ensures

pub returns-in-Imp : goal.returns-in-Imp
returns-in-Imp c = of_rule c.args.rule.now _ c.copy_of-in-Imp.result c.in-Imp.is c.copy_of-in-Imp.ensures

pub returns-in-Inject : goal.returns-in-Inject
returns-in-Inject c = of_rule c.args.rule.now _ c.copy_of-in-Inject.result c.in-Inject.is c.copy_of-in-Inject.ensures

pub returns-in-Inv : goal.returns-in-Inv
returns-in-Inv c = of_rule c.args.rule.now _ c.type_arguments-in-Inv.result c.in-Inv.is (rw c.as_slice-in-Inv.ensures at c.type_arguments-in-Inv.ensures)

pub returns-in-Irrefl : goal.returns-in-Irrefl
returns-in-Irrefl c = of_rule c.args.rule.now _ c.copy_of-in-Irrefl.result c.in-Irrefl.is c.copy_of-in-Irrefl.ensures

pub returns-in-Keep : goal.returns-in-Keep
returns-in-Keep c = of_rule c.args.rule.now _ c.number_arguments.result c.in-Keep.is (rw c.as_slice-in-Keep.ensures at c.number_arguments.ensures)

pub returns-in-LetDef : goal.returns-in-LetDef
returns-in-LetDef c = of_rule c.args.rule.now _ c.copy_of-in-LetDef.result c.in-LetDef.is c.copy_of-in-LetDef.ensures

pub returns-in-Linear : goal.returns-in-Linear
returns-in-Linear c = of_rule c.args.rule.now _ c.pair_arguments.result c.in-Linear.is (rw c.as_slice-in-Linear.ensures at c.pair_arguments.ensures)

pub returns-in-MatchDef : goal.returns-in-MatchDef
returns-in-MatchDef c = of_rule c.args.rule.now _ c.copy_of-in-MatchDef.result c.in-MatchDef.is c.copy_of-in-MatchDef.ensures

pub returns-in-NotAnd : goal.returns-in-NotAnd
returns-in-NotAnd c = of_rule c.args.rule.now _ c.copy_of-in-NotAnd.result c.in-NotAnd.is c.copy_of-in-NotAnd.ensures

pub returns-in-NotAndThen : goal.returns-in-NotAndThen
returns-in-NotAndThen c = of_rule c.args.rule.now _ c.copy_of-in-NotAndThen.result c.in-NotAndThen.is c.copy_of-in-NotAndThen.ensures

pub returns-in-NotExists : goal.returns-in-NotExists
returns-in-NotExists c = of_rule c.args.rule.now _ c.copy_of-in-NotExists.result c.in-NotExists.is c.copy_of-in-NotExists.ensures

pub returns-in-NotForall : goal.returns-in-NotForall
returns-in-NotForall c = of_rule c.args.rule.now _ c.copy_of-in-NotForall.result c.in-NotForall.is c.copy_of-in-NotForall.ensures

pub returns-in-NotIff : goal.returns-in-NotIff
returns-in-NotIff c = of_rule c.args.rule.now _ c.copy_of-in-NotIff.result c.in-NotIff.is c.copy_of-in-NotIff.ensures

pub returns-in-NotImp : goal.returns-in-NotImp
returns-in-NotImp c = of_rule c.args.rule.now _ c.copy_of-in-NotImp.result c.in-NotImp.is c.copy_of-in-NotImp.ensures

pub returns-in-NotNot : goal.returns-in-NotNot
returns-in-NotNot c = of_rule c.args.rule.now _ c.copy_of-in-NotNot.result c.in-NotNot.is c.copy_of-in-NotNot.ensures

pub returns-in-NotOr : goal.returns-in-NotOr
returns-in-NotOr c = of_rule c.args.rule.now _ c.copy_of-in-NotOr.result c.in-NotOr.is c.copy_of-in-NotOr.ensures

pub returns-in-NotOrElse : goal.returns-in-NotOrElse
returns-in-NotOrElse c = of_rule c.args.rule.now _ c.copy_of-in-NotOrElse.result c.in-NotOrElse.is c.copy_of-in-NotOrElse.ensures

pub returns-in-NotTrue : goal.returns-in-NotTrue
returns-in-NotTrue c = of_rule c.args.rule.now _ c.copy_of-in-NotTrue.result c.in-NotTrue.is c.copy_of-in-NotTrue.ensures

pub returns-in-Or : goal.returns-in-Or
returns-in-Or c = of_rule c.args.rule.now _ c.copy_of-in-Or.result c.in-Or.is c.copy_of-in-Or.ensures

pub returns-in-OrElse : goal.returns-in-OrElse
returns-in-OrElse c = of_rule c.args.rule.now _ c.copy_of-in-OrElse.result c.in-OrElse.is c.copy_of-in-OrElse.ensures

pub returns-in-Project : goal.returns-in-Project
returns-in-Project c = of_rule c.args.rule.now _ c.copy_of-in-Project.result c.in-Project.is c.copy_of-in-Project.ensures

pub returns-in-Refl : goal.returns-in-Refl
returns-in-Refl c = of_rule c.args.rule.now _ c.copy_of-in-Refl.result c.in-Refl.is c.copy_of-in-Refl.ensures

pub returns-in-Replace : goal.returns-in-Replace
returns-in-Replace c = of_rule c.args.rule.now _ c.copy_of-in-Replace.result c.in-Replace.is c.copy_of-in-Replace.ensures

pub returns-in-Trichotomy : goal.returns-in-Trichotomy
returns-in-Trichotomy c = of_rule c.args.rule.now _ c.copy_of-in-Trichotomy.result c.in-Trichotomy.is c.copy_of-in-Trichotomy.ensures
