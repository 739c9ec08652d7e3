-- The arguments of a rule, in trees, and their kinds.
use Rattle.std.specs.Prelude.{ℕ, ℤ, Bool, true, false, ◌&&◌, List, [], ◌∷◌, map, Option, Some, None}
use Rattle.trees.specs.Tree.{Tree}
use Rattle.trees.specs.Node.{tree_at, Holds}
use Rattle.step_lines.specs.declared.rule_words.argument.Argument.{Argument}
use Rattle.step_lines.specs.declared.rule_words.argument.Argument.TheVariants as made
use Rattle.step_lines.specs.declared.rule_words.argument.ArgumentKind.{ArgumentKind}
use Rattle.step_lines.specs.declared.rule_words.argument.ArgumentKind.TheVariants as kind

-- a place or another number, a symbol by its entry in the signature, an integer, a term or formula,
-- or a type
pub data ArgumentTree : Type 0 where
  ANumber : ℕ → ArgumentTree
  ASymbol : ℕ → ArgumentTree
  AInteger : ℤ → ArgumentTree
  AExpression : Tree → ArgumentTree
  AType : Tree → ArgumentTree

-- what an argument in a store stands for
unfoldable pub argument_at : List Tree → Argument → ArgumentTree
argument_at s (made.Number n) = ANumber n
argument_at s (made.Symbol k) = ASymbol k
argument_at s (made.Integer n) = AInteger n
argument_at s (made.Expression e) = AExpression (tree_at s e)
argument_at s (made.Type y) = AType (tree_at s y)

abbrev pub arguments_at : List Tree → List Argument → List ArgumentTree
arguments_at s arguments = map (argument_at s) arguments

-- the number in an argument is held
unfoldable pub ArgumentHeld : List Tree → Argument → Type 0
ArgumentHeld s (made.Expression e) = Holds s e
ArgumentHeld s (made.Type y) = Holds s y
ArgumentHeld s _ = Unit {0}

abbrev pub ArgumentsHeld : List Tree → List Argument → Type 0
ArgumentsHeld s [] = Unit {0}
ArgumentsHeld s (a ∷ args) = ArgumentHeld s a × ArgumentsHeld s args

unfoldable pub number_in : ArgumentTree → Option ℕ
number_in (ANumber n) = Some n
number_in _ = None

unfoldable pub symbol_in : ArgumentTree → Option ℕ
symbol_in (ASymbol k) = Some k
symbol_in _ = None

unfoldable pub integer_in : ArgumentTree → Option ℤ
integer_in (AInteger n) = Some n
integer_in _ = None

unfoldable pub expression_in : ArgumentTree → Option Tree
expression_in (AExpression e) = Some e
expression_in _ = None

unfoldable pub type_in : ArgumentTree → Option Tree
type_in (AType y) = Some y
type_in _ = None

abbrev pub has_kind : ArgumentKind → ArgumentTree → Bool
has_kind kind.Number (ANumber n) = true
has_kind kind.Symbol (ASymbol k) = true
has_kind kind.Integer (AInteger n) = true
has_kind kind.Expression (AExpression e) = true
has_kind kind.Type (AType y) = true
has_kind _ _ = false

-- the arguments have these kinds, in order, and then the repeated ones in turn, any number of times
abbrev pub have_kinds : List ArgumentKind → List ArgumentKind → List ArgumentTree → Bool
have_kinds [] again [] = true
have_kinds (k ∷ ks) again [] = false
have_kinds (k ∷ ks) again (a ∷ args) = has_kind k a && have_kinds ks again args
have_kinds [] [] (a ∷ args) = false
have_kinds [] (k ∷ ks) (a ∷ args) = has_kind k a && have_kinds ks (k ∷ ks) args
