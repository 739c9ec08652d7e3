use Rattle.std.proofs.Common.{◌≡◌, sym, ap}
use Rattle.rules.specs.declared.rule.Rule.{Rule}
use Rattle.step_lines.specs.rule_words.Written.{name_and_arguments}
use Rattle.step_lines.proofs.rule_words.rule.name_of.Goals as goal

its_name : (r q : Rule) → r ≡ q → (name_and_arguments q).name ≡ (name_and_arguments r).name
its_name r q e = sym (ap (λ (x : Rule). (name_and_arguments x).name) e)

pub returns-in-And : goal.returns-in-And
returns-in-And c = its_name c.args.rule.now _ c.in-And.is

pub returns-in-AndThen : goal.returns-in-AndThen
returns-in-AndThen c = its_name c.args.rule.now _ c.in-AndThen.is

pub returns-in-Bound : goal.returns-in-Bound
returns-in-Bound c = its_name c.args.rule.now _ c.in-Bound.is

pub returns-in-Case : goal.returns-in-Case
returns-in-Case c = its_name c.args.rule.now _ c.in-Case.is

pub returns-in-Clash : goal.returns-in-Clash
returns-in-Clash c = its_name c.args.rule.now _ c.in-Clash.is

pub returns-in-Clause : goal.returns-in-Clause
returns-in-Clause c = its_name c.args.rule.now _ c.in-Clause.is

pub returns-in-Cut : goal.returns-in-Cut
returns-in-Cut c = its_name c.args.rule.now _ c.in-Cut.is

pub returns-in-Def : goal.returns-in-Def
returns-in-Def c = its_name c.args.rule.now _ c.in-Def.is

pub returns-in-Distinct : goal.returns-in-Distinct
returns-in-Distinct c = its_name c.args.rule.now _ c.in-Distinct.is

pub returns-in-Exists : goal.returns-in-Exists
returns-in-Exists c = its_name c.args.rule.now _ c.in-Exists.is

pub returns-in-Fact : goal.returns-in-Fact
returns-in-Fact c = its_name c.args.rule.now _ c.in-Fact.is

pub returns-in-False : goal.returns-in-False
returns-in-False c = its_name c.args.rule.now _ c.in-False.is

pub returns-in-Forall : goal.returns-in-Forall
returns-in-Forall c = its_name c.args.rule.now _ c.in-Forall.is

pub returns-in-IfDef : goal.returns-in-IfDef
returns-in-IfDef c = its_name c.args.rule.now _ c.in-IfDef.is

pub returns-in-Iff : goal.returns-in-Iff
returns-in-Iff c = its_name c.args.rule.now _ c.in-Iff.is

pub returns-in-Imp : goal.returns-in-Imp
returns-in-Imp c = its_name c.args.rule.now _ c.in-Imp.is

pub returns-in-Inject : goal.returns-in-Inject
returns-in-Inject c = its_name c.args.rule.now _ c.in-Inject.is

pub returns-in-Inv : goal.returns-in-Inv
returns-in-Inv c = its_name c.args.rule.now _ c.in-Inv.is

pub returns-in-Irrefl : goal.returns-in-Irrefl
returns-in-Irrefl c = its_name c.args.rule.now _ c.in-Irrefl.is

pub returns-in-Keep : goal.returns-in-Keep
returns-in-Keep c = its_name c.args.rule.now _ c.in-Keep.is

pub returns-in-LetDef : goal.returns-in-LetDef
returns-in-LetDef c = its_name c.args.rule.now _ c.in-LetDef.is

pub returns-in-Linear : goal.returns-in-Linear
returns-in-Linear c = its_name c.args.rule.now _ c.in-Linear.is

pub returns-in-MatchDef : goal.returns-in-MatchDef
returns-in-MatchDef c = its_name c.args.rule.now _ c.in-MatchDef.is

pub returns-in-NotAnd : goal.returns-in-NotAnd
returns-in-NotAnd c = its_name c.args.rule.now _ c.in-NotAnd.is

pub returns-in-NotAndThen : goal.returns-in-NotAndThen
returns-in-NotAndThen c = its_name c.args.rule.now _ c.in-NotAndThen.is

pub returns-in-NotExists : goal.returns-in-NotExists
returns-in-NotExists c = its_name c.args.rule.now _ c.in-NotExists.is

pub returns-in-NotForall : goal.returns-in-NotForall
returns-in-NotForall c = its_name c.args.rule.now _ c.in-NotForall.is

pub returns-in-NotIff : goal.returns-in-NotIff
returns-in-NotIff c = its_name c.args.rule.now _ c.in-NotIff.is

pub returns-in-NotImp : goal.returns-in-NotImp
returns-in-NotImp c = its_name c.args.rule.now _ c.in-NotImp.is

pub returns-in-NotNot : goal.returns-in-NotNot
returns-in-NotNot c = its_name c.args.rule.now _ c.in-NotNot.is

pub returns-in-NotOr : goal.returns-in-NotOr
returns-in-NotOr c = its_name c.args.rule.now _ c.in-NotOr.is

pub returns-in-NotOrElse : goal.returns-in-NotOrElse
returns-in-NotOrElse c = its_name c.args.rule.now _ c.in-NotOrElse.is

pub returns-in-NotTrue : goal.returns-in-NotTrue
returns-in-NotTrue c = its_name c.args.rule.now _ c.in-NotTrue.is

pub returns-in-Or : goal.returns-in-Or
returns-in-Or c = its_name c.args.rule.now _ c.in-Or.is

pub returns-in-OrElse : goal.returns-in-OrElse
returns-in-OrElse c = its_name c.args.rule.now _ c.in-OrElse.is

pub returns-in-Project : goal.returns-in-Project
returns-in-Project c = its_name c.args.rule.now _ c.in-Project.is

pub returns-in-Refl : goal.returns-in-Refl
returns-in-Refl c = its_name c.args.rule.now _ c.in-Refl.is

pub returns-in-Replace : goal.returns-in-Replace
returns-in-Replace c = its_name c.args.rule.now _ c.in-Replace.is

pub returns-in-Trichotomy : goal.returns-in-Trichotomy
returns-in-Trichotomy c = its_name c.args.rule.now _ c.in-Trichotomy.is
