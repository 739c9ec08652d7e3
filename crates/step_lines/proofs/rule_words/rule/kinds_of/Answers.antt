use Rattle.std.proofs.Common.{◌≡◌, sym, ap}
use Rattle.step_lines.specs.declared.rule_words.name.RuleName.{RuleName}
use Rattle.step_lines.specs.rule_words.Forms.{KindsOf, argument_kinds}
use Rattle.step_lines.specs.rule_words.Rules.{rule_row}
use Rattle.step_lines.proofs.rule_words.rule.kinds_of.Goals as goal

kind_lists : (n m : RuleName) → n ≡ m → (argument_kinds (rule_row m).form) ≡ (argument_kinds (rule_row n).form)
kind_lists n m e = sym (ap (λ (k : RuleName). argument_kinds (rule_row k).form) e)

pub returns-in-And-clause-first : goal.returns-in-And-clause-first
returns-in-And-clause-first c = ap (λ (k : KindsOf). k.first) (kind_lists c.args.name _ c.in-And.is)

pub returns-in-And-clause-repeated : goal.returns-in-And-clause-repeated
returns-in-And-clause-repeated c = ap (λ (k : KindsOf). k.repeated) (kind_lists c.args.name _ c.in-And.is)

pub returns-in-AndThen-clause-first : goal.returns-in-AndThen-clause-first
returns-in-AndThen-clause-first c = ap (λ (k : KindsOf). k.first) (kind_lists c.args.name _ c.in-AndThen.is)

pub returns-in-AndThen-clause-repeated : goal.returns-in-AndThen-clause-repeated
returns-in-AndThen-clause-repeated c = ap (λ (k : KindsOf). k.repeated) (kind_lists c.args.name _ c.in-AndThen.is)

pub returns-in-Bound-clause-first : goal.returns-in-Bound-clause-first
returns-in-Bound-clause-first c = ap (λ (k : KindsOf). k.first) (kind_lists c.args.name _ c.in-Bound.is)

pub returns-in-Bound-clause-repeated : goal.returns-in-Bound-clause-repeated
returns-in-Bound-clause-repeated c = ap (λ (k : KindsOf). k.repeated) (kind_lists c.args.name _ c.in-Bound.is)

pub returns-in-Case-clause-first : goal.returns-in-Case-clause-first
returns-in-Case-clause-first c = ap (λ (k : KindsOf). k.first) (kind_lists c.args.name _ c.in-Case.is)

pub returns-in-Case-clause-repeated : goal.returns-in-Case-clause-repeated
returns-in-Case-clause-repeated c = ap (λ (k : KindsOf). k.repeated) (kind_lists c.args.name _ c.in-Case.is)

pub returns-in-Clash-clause-first : goal.returns-in-Clash-clause-first
returns-in-Clash-clause-first c = ap (λ (k : KindsOf). k.first) (kind_lists c.args.name _ c.in-Clash.is)

pub returns-in-Clash-clause-repeated : goal.returns-in-Clash-clause-repeated
returns-in-Clash-clause-repeated c = ap (λ (k : KindsOf). k.repeated) (kind_lists c.args.name _ c.in-Clash.is)

pub returns-in-Clause-clause-first : goal.returns-in-Clause-clause-first
returns-in-Clause-clause-first c = ap (λ (k : KindsOf). k.first) (kind_lists c.args.name _ c.in-Clause.is)

pub returns-in-Clause-clause-repeated : goal.returns-in-Clause-clause-repeated
returns-in-Clause-clause-repeated c = ap (λ (k : KindsOf). k.repeated) (kind_lists c.args.name _ c.in-Clause.is)

pub returns-in-Cut-clause-first : goal.returns-in-Cut-clause-first
returns-in-Cut-clause-first c = ap (λ (k : KindsOf). k.first) (kind_lists c.args.name _ c.in-Cut.is)

pub returns-in-Cut-clause-repeated : goal.returns-in-Cut-clause-repeated
returns-in-Cut-clause-repeated c = ap (λ (k : KindsOf). k.repeated) (kind_lists c.args.name _ c.in-Cut.is)

pub returns-in-Def-clause-first : goal.returns-in-Def-clause-first
returns-in-Def-clause-first c = ap (λ (k : KindsOf). k.first) (kind_lists c.args.name _ c.in-Def.is)

pub returns-in-Def-clause-repeated : goal.returns-in-Def-clause-repeated
returns-in-Def-clause-repeated c = ap (λ (k : KindsOf). k.repeated) (kind_lists c.args.name _ c.in-Def.is)

pub returns-in-Distinct-clause-first : goal.returns-in-Distinct-clause-first
returns-in-Distinct-clause-first c = ap (λ (k : KindsOf). k.first) (kind_lists c.args.name _ c.in-Distinct.is)

pub returns-in-Distinct-clause-repeated : goal.returns-in-Distinct-clause-repeated
returns-in-Distinct-clause-repeated c = ap (λ (k : KindsOf). k.repeated) (kind_lists c.args.name _ c.in-Distinct.is)

pub returns-in-Exists-clause-first : goal.returns-in-Exists-clause-first
returns-in-Exists-clause-first c = ap (λ (k : KindsOf). k.first) (kind_lists c.args.name _ c.in-Exists.is)

pub returns-in-Exists-clause-repeated : goal.returns-in-Exists-clause-repeated
returns-in-Exists-clause-repeated c = ap (λ (k : KindsOf). k.repeated) (kind_lists c.args.name _ c.in-Exists.is)

pub returns-in-Fact-clause-first : goal.returns-in-Fact-clause-first
returns-in-Fact-clause-first c = ap (λ (k : KindsOf). k.first) (kind_lists c.args.name _ c.in-Fact.is)

pub returns-in-Fact-clause-repeated : goal.returns-in-Fact-clause-repeated
returns-in-Fact-clause-repeated c = ap (λ (k : KindsOf). k.repeated) (kind_lists c.args.name _ c.in-Fact.is)

pub returns-in-False-clause-first : goal.returns-in-False-clause-first
returns-in-False-clause-first c = ap (λ (k : KindsOf). k.first) (kind_lists c.args.name _ c.in-False.is)

pub returns-in-False-clause-repeated : goal.returns-in-False-clause-repeated
returns-in-False-clause-repeated c = ap (λ (k : KindsOf). k.repeated) (kind_lists c.args.name _ c.in-False.is)

pub returns-in-Forall-clause-first : goal.returns-in-Forall-clause-first
returns-in-Forall-clause-first c = ap (λ (k : KindsOf). k.first) (kind_lists c.args.name _ c.in-Forall.is)

pub returns-in-Forall-clause-repeated : goal.returns-in-Forall-clause-repeated
returns-in-Forall-clause-repeated c = ap (λ (k : KindsOf). k.repeated) (kind_lists c.args.name _ c.in-Forall.is)

pub returns-in-IfDef-clause-first : goal.returns-in-IfDef-clause-first
returns-in-IfDef-clause-first c = ap (λ (k : KindsOf). k.first) (kind_lists c.args.name _ c.in-IfDef.is)

pub returns-in-IfDef-clause-repeated : goal.returns-in-IfDef-clause-repeated
returns-in-IfDef-clause-repeated c = ap (λ (k : KindsOf). k.repeated) (kind_lists c.args.name _ c.in-IfDef.is)

pub returns-in-Iff-clause-first : goal.returns-in-Iff-clause-first
returns-in-Iff-clause-first c = ap (λ (k : KindsOf). k.first) (kind_lists c.args.name _ c.in-Iff.is)

pub returns-in-Iff-clause-repeated : goal.returns-in-Iff-clause-repeated
returns-in-Iff-clause-repeated c = ap (λ (k : KindsOf). k.repeated) (kind_lists c.args.name _ c.in-Iff.is)

pub returns-in-Imp-clause-first : goal.returns-in-Imp-clause-first
returns-in-Imp-clause-first c = ap (λ (k : KindsOf). k.first) (kind_lists c.args.name _ c.in-Imp.is)

pub returns-in-Imp-clause-repeated : goal.returns-in-Imp-clause-repeated
returns-in-Imp-clause-repeated c = ap (λ (k : KindsOf). k.repeated) (kind_lists c.args.name _ c.in-Imp.is)

pub returns-in-Inject-clause-first : goal.returns-in-Inject-clause-first
returns-in-Inject-clause-first c = ap (λ (k : KindsOf). k.first) (kind_lists c.args.name _ c.in-Inject.is)

pub returns-in-Inject-clause-repeated : goal.returns-in-Inject-clause-repeated
returns-in-Inject-clause-repeated c = ap (λ (k : KindsOf). k.repeated) (kind_lists c.args.name _ c.in-Inject.is)

pub returns-in-Inv-clause-first : goal.returns-in-Inv-clause-first
returns-in-Inv-clause-first c = ap (λ (k : KindsOf). k.first) (kind_lists c.args.name _ c.in-Inv.is)

pub returns-in-Inv-clause-repeated : goal.returns-in-Inv-clause-repeated
returns-in-Inv-clause-repeated c = ap (λ (k : KindsOf). k.repeated) (kind_lists c.args.name _ c.in-Inv.is)

pub returns-in-Irrefl-clause-first : goal.returns-in-Irrefl-clause-first
returns-in-Irrefl-clause-first c = ap (λ (k : KindsOf). k.first) (kind_lists c.args.name _ c.in-Irrefl.is)

pub returns-in-Irrefl-clause-repeated : goal.returns-in-Irrefl-clause-repeated
returns-in-Irrefl-clause-repeated c = ap (λ (k : KindsOf). k.repeated) (kind_lists c.args.name _ c.in-Irrefl.is)

pub returns-in-Keep-clause-first : goal.returns-in-Keep-clause-first
returns-in-Keep-clause-first c = ap (λ (k : KindsOf). k.first) (kind_lists c.args.name _ c.in-Keep.is)

pub returns-in-Keep-clause-repeated : goal.returns-in-Keep-clause-repeated
returns-in-Keep-clause-repeated c = ap (λ (k : KindsOf). k.repeated) (kind_lists c.args.name _ c.in-Keep.is)

pub returns-in-LetDef-clause-first : goal.returns-in-LetDef-clause-first
returns-in-LetDef-clause-first c = ap (λ (k : KindsOf). k.first) (kind_lists c.args.name _ c.in-LetDef.is)

pub returns-in-LetDef-clause-repeated : goal.returns-in-LetDef-clause-repeated
returns-in-LetDef-clause-repeated c = ap (λ (k : KindsOf). k.repeated) (kind_lists c.args.name _ c.in-LetDef.is)

pub returns-in-Linear-clause-first : goal.returns-in-Linear-clause-first
returns-in-Linear-clause-first c = ap (λ (k : KindsOf). k.first) (kind_lists c.args.name _ c.in-Linear.is)

pub returns-in-Linear-clause-repeated : goal.returns-in-Linear-clause-repeated
returns-in-Linear-clause-repeated c = ap (λ (k : KindsOf). k.repeated) (kind_lists c.args.name _ c.in-Linear.is)

pub returns-in-MatchDef-clause-first : goal.returns-in-MatchDef-clause-first
returns-in-MatchDef-clause-first c = ap (λ (k : KindsOf). k.first) (kind_lists c.args.name _ c.in-MatchDef.is)

pub returns-in-MatchDef-clause-repeated : goal.returns-in-MatchDef-clause-repeated
returns-in-MatchDef-clause-repeated c = ap (λ (k : KindsOf). k.repeated) (kind_lists c.args.name _ c.in-MatchDef.is)

pub returns-in-NotAnd-clause-first : goal.returns-in-NotAnd-clause-first
returns-in-NotAnd-clause-first c = ap (λ (k : KindsOf). k.first) (kind_lists c.args.name _ c.in-NotAnd.is)

pub returns-in-NotAnd-clause-repeated : goal.returns-in-NotAnd-clause-repeated
returns-in-NotAnd-clause-repeated c = ap (λ (k : KindsOf). k.repeated) (kind_lists c.args.name _ c.in-NotAnd.is)

pub returns-in-NotAndThen-clause-first : goal.returns-in-NotAndThen-clause-first
returns-in-NotAndThen-clause-first c = ap (λ (k : KindsOf). k.first) (kind_lists c.args.name _ c.in-NotAndThen.is)

pub returns-in-NotAndThen-clause-repeated : goal.returns-in-NotAndThen-clause-repeated
returns-in-NotAndThen-clause-repeated c = ap (λ (k : KindsOf). k.repeated) (kind_lists c.args.name _ c.in-NotAndThen.is)

pub returns-in-NotExists-clause-first : goal.returns-in-NotExists-clause-first
returns-in-NotExists-clause-first c = ap (λ (k : KindsOf). k.first) (kind_lists c.args.name _ c.in-NotExists.is)

pub returns-in-NotExists-clause-repeated : goal.returns-in-NotExists-clause-repeated
returns-in-NotExists-clause-repeated c = ap (λ (k : KindsOf). k.repeated) (kind_lists c.args.name _ c.in-NotExists.is)

pub returns-in-NotForall-clause-first : goal.returns-in-NotForall-clause-first
returns-in-NotForall-clause-first c = ap (λ (k : KindsOf). k.first) (kind_lists c.args.name _ c.in-NotForall.is)

pub returns-in-NotForall-clause-repeated : goal.returns-in-NotForall-clause-repeated
returns-in-NotForall-clause-repeated c = ap (λ (k : KindsOf). k.repeated) (kind_lists c.args.name _ c.in-NotForall.is)

pub returns-in-NotIff-clause-first : goal.returns-in-NotIff-clause-first
returns-in-NotIff-clause-first c = ap (λ (k : KindsOf). k.first) (kind_lists c.args.name _ c.in-NotIff.is)

pub returns-in-NotIff-clause-repeated : goal.returns-in-NotIff-clause-repeated
returns-in-NotIff-clause-repeated c = ap (λ (k : KindsOf). k.repeated) (kind_lists c.args.name _ c.in-NotIff.is)

pub returns-in-NotImp-clause-first : goal.returns-in-NotImp-clause-first
returns-in-NotImp-clause-first c = ap (λ (k : KindsOf). k.first) (kind_lists c.args.name _ c.in-NotImp.is)

pub returns-in-NotImp-clause-repeated : goal.returns-in-NotImp-clause-repeated
returns-in-NotImp-clause-repeated c = ap (λ (k : KindsOf). k.repeated) (kind_lists c.args.name _ c.in-NotImp.is)

pub returns-in-NotNot-clause-first : goal.returns-in-NotNot-clause-first
returns-in-NotNot-clause-first c = ap (λ (k : KindsOf). k.first) (kind_lists c.args.name _ c.in-NotNot.is)

pub returns-in-NotNot-clause-repeated : goal.returns-in-NotNot-clause-repeated
returns-in-NotNot-clause-repeated c = ap (λ (k : KindsOf). k.repeated) (kind_lists c.args.name _ c.in-NotNot.is)

pub returns-in-NotOr-clause-first : goal.returns-in-NotOr-clause-first
returns-in-NotOr-clause-first c = ap (λ (k : KindsOf). k.first) (kind_lists c.args.name _ c.in-NotOr.is)

pub returns-in-NotOr-clause-repeated : goal.returns-in-NotOr-clause-repeated
returns-in-NotOr-clause-repeated c = ap (λ (k : KindsOf). k.repeated) (kind_lists c.args.name _ c.in-NotOr.is)

pub returns-in-NotOrElse-clause-first : goal.returns-in-NotOrElse-clause-first
returns-in-NotOrElse-clause-first c = ap (λ (k : KindsOf). k.first) (kind_lists c.args.name _ c.in-NotOrElse.is)

pub returns-in-NotOrElse-clause-repeated : goal.returns-in-NotOrElse-clause-repeated
returns-in-NotOrElse-clause-repeated c = ap (λ (k : KindsOf). k.repeated) (kind_lists c.args.name _ c.in-NotOrElse.is)

pub returns-in-NotTrue-clause-first : goal.returns-in-NotTrue-clause-first
returns-in-NotTrue-clause-first c = ap (λ (k : KindsOf). k.first) (kind_lists c.args.name _ c.in-NotTrue.is)

pub returns-in-NotTrue-clause-repeated : goal.returns-in-NotTrue-clause-repeated
returns-in-NotTrue-clause-repeated c = ap (λ (k : KindsOf). k.repeated) (kind_lists c.args.name _ c.in-NotTrue.is)

pub returns-in-Or-clause-first : goal.returns-in-Or-clause-first
returns-in-Or-clause-first c = ap (λ (k : KindsOf). k.first) (kind_lists c.args.name _ c.in-Or.is)

pub returns-in-Or-clause-repeated : goal.returns-in-Or-clause-repeated
returns-in-Or-clause-repeated c = ap (λ (k : KindsOf). k.repeated) (kind_lists c.args.name _ c.in-Or.is)

pub returns-in-OrElse-clause-first : goal.returns-in-OrElse-clause-first
returns-in-OrElse-clause-first c = ap (λ (k : KindsOf). k.first) (kind_lists c.args.name _ c.in-OrElse.is)

pub returns-in-OrElse-clause-repeated : goal.returns-in-OrElse-clause-repeated
returns-in-OrElse-clause-repeated c = ap (λ (k : KindsOf). k.repeated) (kind_lists c.args.name _ c.in-OrElse.is)

pub returns-in-Project-clause-first : goal.returns-in-Project-clause-first
returns-in-Project-clause-first c = ap (λ (k : KindsOf). k.first) (kind_lists c.args.name _ c.in-Project.is)

pub returns-in-Project-clause-repeated : goal.returns-in-Project-clause-repeated
returns-in-Project-clause-repeated c = ap (λ (k : KindsOf). k.repeated) (kind_lists c.args.name _ c.in-Project.is)

pub returns-in-Refl-clause-first : goal.returns-in-Refl-clause-first
returns-in-Refl-clause-first c = ap (λ (k : KindsOf). k.first) (kind_lists c.args.name _ c.in-Refl.is)

pub returns-in-Refl-clause-repeated : goal.returns-in-Refl-clause-repeated
returns-in-Refl-clause-repeated c = ap (λ (k : KindsOf). k.repeated) (kind_lists c.args.name _ c.in-Refl.is)

pub returns-in-Replace-clause-first : goal.returns-in-Replace-clause-first
returns-in-Replace-clause-first c = ap (λ (k : KindsOf). k.first) (kind_lists c.args.name _ c.in-Replace.is)

pub returns-in-Replace-clause-repeated : goal.returns-in-Replace-clause-repeated
returns-in-Replace-clause-repeated c = ap (λ (k : KindsOf). k.repeated) (kind_lists c.args.name _ c.in-Replace.is)

pub returns-in-Trichotomy-clause-first : goal.returns-in-Trichotomy-clause-first
returns-in-Trichotomy-clause-first c = ap (λ (k : KindsOf). k.first) (kind_lists c.args.name _ c.in-Trichotomy.is)

pub returns-in-Trichotomy-clause-repeated : goal.returns-in-Trichotomy-clause-repeated
returns-in-Trichotomy-clause-repeated c = ap (λ (k : KindsOf). k.repeated) (kind_lists c.args.name _ c.in-Trichotomy.is)
