-- The words of the rules, with the kinds of their arguments: one table, by which rules are read and
-- written.
use Rattle.std.specs.Prelude.{ℕ, List, [], ◌∷◌, map, Option, codes, slice_get}
use Rattle.std.specs.Option.{option_and_then}
use Rattle.word_tables.specs.Words.{place_in_words}
use Rattle.rules.specs.Trees.{RuleTree, RAnd, RAndThen, RBound, RCase, RClash, RClause, RCut, RDef, RDistinct, RExists, RFact, RFalse, RForall, RIfDef, RIff, RImp, RInject, RInv, RIrrefl, RKeep, RLetDef, RLinear, RMatchDef, RNotAnd, RNotAndThen, RNotExists, RNotForall, RNotIff, RNotImp, RNotNot, RNotOr, RNotOrElse, RNotTrue, ROr, ROrElse, RProject, RRefl, RReplace, RTrichotomy}
use Rattle.step_lines.specs.declared.rule_words.name.RuleName.{RuleName}
use Rattle.step_lines.specs.declared.rule_words.name.RuleName.TheVariants as name
use Rattle.step_lines.specs.rule_words.Arguments.{ArgumentTree}
use Rattle.step_lines.specs.rule_words.Forms.{RuleForm, OneNumber, TwoNumbers, OneExpression, TwoExpressions, NumberExpression, NumbersExpression, ExpressionInteger, AnyNumbers, AnyPairs, NumberTypes, SymbolTypes, SymbolNumberTypes, rule_by}

pub record RuleWordRow : Type 0 where
  pub word : List ℕ
  pub form : RuleForm

abbrev row_by : List ℕ → RuleForm → RuleWordRow
row_by word form = record { word = word; form = form }

abbrev pub rule_row : RuleName → RuleWordRow
rule_row name.And = row_by (codes "and") (OneNumber RAnd)
rule_row name.AndThen = row_by (codes "andthen") (OneNumber RAndThen)
rule_row name.Bound = row_by (codes "bound") (ExpressionInteger RBound)
rule_row name.Case = row_by (codes "case") (OneExpression RCase)
rule_row name.Clash = row_by (codes "clash") (TwoNumbers RClash)
rule_row name.Clause = row_by (codes "clause") (SymbolNumberTypes RClause)
rule_row name.Cut = row_by (codes "cut") (OneExpression RCut)
rule_row name.Def = row_by (codes "def") (SymbolTypes RDef)
rule_row name.Distinct = row_by (codes "distinct") (OneNumber RDistinct)
rule_row name.Exists = row_by (codes "exists") (TwoNumbers RExists)
rule_row name.Fact = row_by (codes "fact") (NumberTypes RFact)
rule_row name.False = row_by (codes "false") (OneNumber RFalse)
rule_row name.Forall = row_by (codes "forall") (NumberExpression RForall)
rule_row name.IfDef = row_by (codes "ifdef") (OneExpression RIfDef)
rule_row name.Iff = row_by (codes "iff") (OneNumber RIff)
rule_row name.Imp = row_by (codes "imp") (OneNumber RImp)
rule_row name.Inject = row_by (codes "inject") (OneNumber RInject)
rule_row name.Inv = row_by (codes "inv") (SymbolTypes RInv)
rule_row name.Irrefl = row_by (codes "irrefl") (OneNumber RIrrefl)
rule_row name.Keep = row_by (codes "keep") (AnyNumbers RKeep)
rule_row name.LetDef = row_by (codes "letdef") (OneExpression RLetDef)
rule_row name.Linear = row_by (codes "linear") (AnyPairs RLinear)
rule_row name.MatchDef = row_by (codes "matchdef") (OneExpression RMatchDef)
rule_row name.NotAnd = row_by (codes "notand") (OneNumber RNotAnd)
rule_row name.NotAndThen = row_by (codes "notandthen") (OneNumber RNotAndThen)
rule_row name.NotExists = row_by (codes "notexists") (NumberExpression RNotExists)
rule_row name.NotForall = row_by (codes "notforall") (TwoNumbers RNotForall)
rule_row name.NotIff = row_by (codes "notiff") (OneNumber RNotIff)
rule_row name.NotImp = row_by (codes "notimp") (OneNumber RNotImp)
rule_row name.NotNot = row_by (codes "notnot") (OneNumber RNotNot)
rule_row name.NotOr = row_by (codes "notor") (OneNumber RNotOr)
rule_row name.NotOrElse = row_by (codes "notorelse") (OneNumber RNotOrElse)
rule_row name.NotTrue = row_by (codes "nottrue") (OneNumber RNotTrue)
rule_row name.Or = row_by (codes "or") (OneNumber ROr)
rule_row name.OrElse = row_by (codes "orelse") (OneNumber ROrElse)
rule_row name.Project = row_by (codes "project") (OneExpression RProject)
rule_row name.Refl = row_by (codes "refl") (OneExpression RRefl)
rule_row name.Replace = row_by (codes "replace") (NumbersExpression RReplace)
rule_row name.Trichotomy = row_by (codes "trichotomy") (TwoExpressions RTrichotomy)

-- the names in the order of their words
abbrev pub rule_names : List RuleName
rule_names = name.And ∷ name.AndThen ∷ name.Bound ∷ name.Case ∷ name.Clash ∷ name.Clause ∷ name.Cut
    ∷ name.Def ∷ name.Distinct ∷ name.Exists ∷ name.Fact ∷ name.False ∷ name.Forall ∷ name.IfDef
    ∷ name.Iff ∷ name.Imp ∷ name.Inject ∷ name.Inv ∷ name.Irrefl ∷ name.Keep ∷ name.LetDef
    ∷ name.Linear ∷ name.MatchDef ∷ name.NotAnd ∷ name.NotAndThen ∷ name.NotExists ∷ name.NotForall
    ∷ name.NotIff ∷ name.NotImp ∷ name.NotNot ∷ name.NotOr ∷ name.NotOrElse ∷ name.NotTrue ∷ name.Or
    ∷ name.OrElse ∷ name.Project ∷ name.Refl ∷ name.Replace ∷ name.Trichotomy ∷ []

abbrev pub rule_words : List (List ℕ)
rule_words = map (λ n. (rule_row n).word) rule_names

-- the rule that a word names
abbrev pub name_by_word : List ℕ → Option RuleName
name_by_word word = option_and_then (slice_get rule_names) (place_in_words word rule_words)

-- the rule of a name, with these arguments
abbrev pub rule_from : RuleName → List ArgumentTree → Option RuleTree
rule_from n arguments = rule_by (rule_row n).form arguments
