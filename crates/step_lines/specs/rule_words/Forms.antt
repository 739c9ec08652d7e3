-- The forms of rules: which arguments a rule has, and the rule that they make.
use Rattle.std.specs.Prelude.{ℕ, ℤ, List, [], ◌∷◌, ◌++◌, Option, Some, None}
use Rattle.std.specs.Option.{option_and_then, option_map}
use Rattle.trees.specs.Tree.{Tree}
use Rattle.rules.specs.Trees.{RuleTree}
use Rattle.step_lines.specs.declared.rule_words.argument.ArgumentKind.{ArgumentKind}
use Rattle.step_lines.specs.declared.rule_words.argument.ArgumentKind.TheVariants as kind
use Rattle.step_lines.specs.rule_words.Arguments.{ArgumentTree, number_in, symbol_in, integer_in, expression_in, type_in}

-- a rule's form, with the rule that arguments of that form make
pub data RuleForm : Type 0 where
  OneNumber : (ℕ → RuleTree) → RuleForm
  TwoNumbers : (ℕ → ℕ → RuleTree) → RuleForm
  OneExpression : (Tree → RuleTree) → RuleForm
  TwoExpressions : (Tree → Tree → RuleTree) → RuleForm
  NumberExpression : (ℕ → Tree → RuleTree) → RuleForm
  NumbersExpression : (ℕ → ℕ → Tree → RuleTree) → RuleForm
  ExpressionInteger : (Tree → ℤ → RuleTree) → RuleForm
  AnyNumbers : (List ℕ → RuleTree) → RuleForm
  AnyPairs : (List (ℕ × ℤ) → RuleTree) → RuleForm
  NumberTypes : (ℕ → List Tree → RuleTree) → RuleForm
  SymbolTypes : (ℕ → List Tree → RuleTree) → RuleForm
  SymbolNumberTypes : (ℕ → ℕ → List Tree → RuleTree) → RuleForm

-- the kinds of the first arguments, and of those that stand any number of times
pub record KindsOf : Type 0 where
  pub first : List ArgumentKind
  pub repeated : List ArgumentKind

abbrev kinds_by : List ArgumentKind → List ArgumentKind → KindsOf
kinds_by first repeated = record { first = first; repeated = repeated }

abbrev pub argument_kinds : RuleForm → KindsOf
argument_kinds (OneNumber f) = kinds_by (kind.Number ∷ []) []
argument_kinds (TwoNumbers f) = kinds_by (kind.Number ∷ kind.Number ∷ []) []
argument_kinds (OneExpression f) = kinds_by (kind.Expression ∷ []) []
argument_kinds (TwoExpressions f) = kinds_by (kind.Expression ∷ kind.Expression ∷ []) []
argument_kinds (NumberExpression f) = kinds_by (kind.Number ∷ kind.Expression ∷ []) []
argument_kinds (NumbersExpression f) =
    kinds_by (kind.Number ∷ kind.Number ∷ kind.Expression ∷ []) []
argument_kinds (ExpressionInteger f) = kinds_by (kind.Expression ∷ kind.Integer ∷ []) []
argument_kinds (AnyNumbers f) = kinds_by [] (kind.Number ∷ [])
argument_kinds (AnyPairs f) = kinds_by [] (kind.Number ∷ kind.Integer ∷ [])
argument_kinds (NumberTypes f) = kinds_by (kind.Number ∷ []) (kind.Type ∷ [])
argument_kinds (SymbolTypes f) = kinds_by (kind.Symbol ∷ []) (kind.Type ∷ [])
argument_kinds (SymbolNumberTypes f) = kinds_by (kind.Symbol ∷ kind.Number ∷ []) (kind.Type ∷ [])

abbrev then2 : {A B C : Type 0} → Option A → Option B → (A → B → C) → Option C
then2 (Some a) (Some b) f = Some (f a b)
then2 _ _ f = None

abbrev then3 : {A B C D : Type 0} → Option A → Option B → Option C → (A → B → C → D) → Option D
then3 (Some a) (Some b) (Some c) f = Some (f a b c)
then3 _ _ _ f = None

abbrev pub one_argument : {A : Type 0} → (ArgumentTree → Option A) → (A → RuleTree)
    → List ArgumentTree → Option RuleTree
one_argument p f (a ∷ []) = option_map f (p a)
one_argument p f _ = None

abbrev pub two_arguments : {A B : Type 0} → (ArgumentTree → Option A) → (ArgumentTree → Option B)
    → (A → B → RuleTree) → List ArgumentTree → Option RuleTree
two_arguments p q f (a ∷ b ∷ []) = then2 (p a) (q b) f
two_arguments p q f _ = None

abbrev pub three_arguments : {A B C : Type 0} → (ArgumentTree → Option A)
    → (ArgumentTree → Option B) → (ArgumentTree → Option C) → (A → B → C → RuleTree)
    → List ArgumentTree → Option RuleTree
three_arguments p q r f (a ∷ b ∷ c ∷ []) = then3 (p a) (q b) (r c) f
three_arguments p q r f _ = None

-- what arguments of one kind are, after earlier ones
abbrev pub each_from : {A : Type 0} → (ArgumentTree → Option A) → List A → List ArgumentTree
    → Option (List A)
each_from p xs [] = Some xs
each_from p xs (a ∷ args) = option_and_then (λ x. each_from p (xs ++ x ∷ []) args) (p a)

abbrev pub each_argument : {A : Type 0} → (ArgumentTree → Option A) → List ArgumentTree
    → Option (List A)
each_argument p args = each_from p [] args

-- pairs of a number and an integer, after earlier ones; a number may be read already
abbrev pub pairs_from : List (ℕ × ℤ) → Option ℕ → List ArgumentTree → Option (List (ℕ × ℤ))
pairs_from ps None [] = Some ps
pairs_from ps (Some i) [] = None
pairs_from ps None (a ∷ args) = option_and_then (λ i. pairs_from ps (Some i) args) (number_in a)
pairs_from ps (Some i) (a ∷ args) =
    option_and_then (λ m. pairs_from (ps ++ (i, m) ∷ []) None args) (integer_in a)

abbrev pub argument_pairs : List ArgumentTree → Option (List (ℕ × ℤ))
argument_pairs args = pairs_from [] None args

abbrev pub one_then_types : (ArgumentTree → Option ℕ) → (ℕ → List Tree → RuleTree)
    → List ArgumentTree → Option RuleTree
one_then_types p f [] = None
one_then_types p f (a ∷ args) = then2 (p a) (each_argument type_in args) f

abbrev pub two_then_types : (ℕ → ℕ → List Tree → RuleTree) → List ArgumentTree → Option RuleTree
two_then_types f (a ∷ b ∷ args) = then3 (symbol_in a) (number_in b) (each_argument type_in args) f
two_then_types f _ = None

-- the rule that arguments make in a form
abbrev pub rule_by : RuleForm → List ArgumentTree → Option RuleTree
rule_by (OneNumber f) args = one_argument number_in f args
rule_by (TwoNumbers f) args = two_arguments number_in number_in f args
rule_by (OneExpression f) args = one_argument expression_in f args
rule_by (TwoExpressions f) args = two_arguments expression_in expression_in f args
rule_by (NumberExpression f) args = two_arguments number_in expression_in f args
rule_by (NumbersExpression f) args = three_arguments number_in number_in expression_in f args
rule_by (ExpressionInteger f) args = two_arguments expression_in integer_in f args
rule_by (AnyNumbers f) args = option_map f (each_argument number_in args)
rule_by (AnyPairs f) args = option_map f (argument_pairs args)
rule_by (NumberTypes f) args = one_then_types number_in f args
rule_by (SymbolTypes f) args = one_then_types symbol_in f args
rule_by (SymbolNumberTypes f) args = two_then_types f args
