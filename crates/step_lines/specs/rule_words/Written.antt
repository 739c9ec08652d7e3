-- What a rule is written as: its name and its arguments.
use Rattle.std.specs.Prelude.{ℕ, ℤ, List, [], ◌∷◌, map}
use Rattle.rules.specs.declared.rule.Rule.{Rule}
use Rattle.rules.specs.declared.rule.Rule.TheVariants.{False, NotTrue, Clash, Irrefl, Distinct, Linear, NotNot, And, NotAnd, AndThen, NotAndThen, Or, NotOr, OrElse, NotOrElse, Imp, NotImp, Iff, NotIff, Forall, NotForall, Exists, NotExists, Cut, Keep, Refl, Replace, LetDef, IfDef, MatchDef, Fact, Def, Clause, Inv, Case, Inject, Project, Trichotomy, Bound}
use Rattle.step_lines.specs.declared.rule_words.argument.Argument.{Argument}
use Rattle.step_lines.specs.declared.rule_words.argument.Argument.TheVariants as made
use Rattle.step_lines.specs.declared.rule_words.name.RuleName.{RuleName}
use Rattle.step_lines.specs.declared.rule_words.name.RuleName.TheVariants as name

-- the arguments that a list of pairs is
abbrev pub arguments_of_pairs : List (ℕ × ℤ) → List Argument
arguments_of_pairs [] = []
arguments_of_pairs (p ∷ ps) = made.Number p.0 ∷ made.Integer p.1 ∷ arguments_of_pairs ps

pub record NameAndArguments : Type 0 where
  pub name : RuleName
  pub arguments : List Argument

abbrev by : RuleName → List Argument → NameAndArguments
by n args = record { name = n; arguments = args }

abbrev pub name_and_arguments : Rule → NameAndArguments
name_and_arguments (False i) = by name.False (made.Number i ∷ [])
name_and_arguments (NotTrue i) = by name.NotTrue (made.Number i ∷ [])
name_and_arguments (Clash i j) = by name.Clash (made.Number i ∷ made.Number j ∷ [])
name_and_arguments (Irrefl i) = by name.Irrefl (made.Number i ∷ [])
name_and_arguments (Distinct i) = by name.Distinct (made.Number i ∷ [])
name_and_arguments (Linear uses) = by name.Linear (arguments_of_pairs uses)
name_and_arguments (NotNot i) = by name.NotNot (made.Number i ∷ [])
name_and_arguments (And i) = by name.And (made.Number i ∷ [])
name_and_arguments (NotAnd i) = by name.NotAnd (made.Number i ∷ [])
name_and_arguments (AndThen i) = by name.AndThen (made.Number i ∷ [])
name_and_arguments (NotAndThen i) = by name.NotAndThen (made.Number i ∷ [])
name_and_arguments (Or i) = by name.Or (made.Number i ∷ [])
name_and_arguments (NotOr i) = by name.NotOr (made.Number i ∷ [])
name_and_arguments (OrElse i) = by name.OrElse (made.Number i ∷ [])
name_and_arguments (NotOrElse i) = by name.NotOrElse (made.Number i ∷ [])
name_and_arguments (Imp i) = by name.Imp (made.Number i ∷ [])
name_and_arguments (NotImp i) = by name.NotImp (made.Number i ∷ [])
name_and_arguments (Iff i) = by name.Iff (made.Number i ∷ [])
name_and_arguments (NotIff i) = by name.NotIff (made.Number i ∷ [])
name_and_arguments (Forall i e) = by name.Forall (made.Number i ∷ made.Expression e ∷ [])
name_and_arguments (NotForall i j) = by name.NotForall (made.Number i ∷ made.Number j ∷ [])
name_and_arguments (Exists i j) = by name.Exists (made.Number i ∷ made.Number j ∷ [])
name_and_arguments (NotExists i e) = by name.NotExists (made.Number i ∷ made.Expression e ∷ [])
name_and_arguments (Cut e) = by name.Cut (made.Expression e ∷ [])
name_and_arguments (Keep places) = by name.Keep (map made.Number places)
name_and_arguments (Refl e) = by name.Refl (made.Expression e ∷ [])
name_and_arguments (Replace i j e) =
    by name.Replace (made.Number i ∷ made.Number j ∷ made.Expression e ∷ [])
name_and_arguments (LetDef e) = by name.LetDef (made.Expression e ∷ [])
name_and_arguments (IfDef e) = by name.IfDef (made.Expression e ∷ [])
name_and_arguments (MatchDef e) = by name.MatchDef (made.Expression e ∷ [])
name_and_arguments (Fact k types) = by name.Fact (made.Number k ∷ map made.Type types)
name_and_arguments (Def k types) = by name.Def (made.Symbol k ∷ map made.Type types)
name_and_arguments (Clause k i types) =
    by name.Clause (made.Symbol k ∷ made.Number i ∷ map made.Type types)
name_and_arguments (Inv k types) = by name.Inv (made.Symbol k ∷ map made.Type types)
name_and_arguments (Case e) = by name.Case (made.Expression e ∷ [])
name_and_arguments (Inject i) = by name.Inject (made.Number i ∷ [])
name_and_arguments (Project e) = by name.Project (made.Expression e ∷ [])
name_and_arguments (Trichotomy a b) =
    by name.Trichotomy (made.Expression a ∷ made.Expression b ∷ [])
name_and_arguments (Bound e n) = by name.Bound (made.Expression e ∷ made.Integer n ∷ [])
