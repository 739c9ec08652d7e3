-- What is made of the first arguments of a list.
use Rattle.std.proofs.Common.{◌≡◌, ℕ, ℤ, ◌+◌, ◌<◌, ◌≤◌, List, [], ◌∷◌, ◌++◌, length, get_or, drop, Option, Some, None, refl, sym, arith}
use Rattle.std.proofs.lemmas.List.{drop_more}
use Rattle.trees.specs.Tree.{Tree}
use Rattle.rules.specs.Trees.{RuleTree}
use Rattle.step_lines.specs.declared.rule_words.argument.Argument.{Argument}
use Rattle.step_lines.specs.rule_words.Arguments.{ArgumentTree, argument_at, arguments_at, number_in, integer_in}
use Rattle.step_lines.specs.rule_words.Forms.{two_arguments, each_from, pairs_from}

-- two arguments make what their values make
pub two_made : {A B : Type 0} (p : ArgumentTree → Option A) (q : ArgumentTree → Option B) (f : A → B → RuleTree) (s : List Tree) (args : List Argument) (d : Argument) (x : A) (y : B) → 2 ≤ length args → length args < 3 → Some x ≡ p (argument_at s (get_or args 0 d)) → Some y ≡ q (argument_at s (get_or args 1 d)) → Some (f x y) ≡ two_arguments p q f (arguments_at s args)
two_made p q f s [] d x y least below e g = absurd (omega arith)
two_made p q f s (a ∷ []) d x y least below e g = absurd (omega arith)
two_made p q f s (a ∷ b ∷ []) d x y least below e g = rw (sym e, sym g) refl
two_made p q f s (a ∷ b ∷ c ∷ args) d x y least below e g = absurd (omega arith)

-- a number is kept
pub pairs_number : (s : List Tree) (args : List Argument) (i : ℕ) (d : Argument) (ps : List (ℕ × ℤ)) (place : Option ℕ) (n : ℕ) (all : Option (List (ℕ × ℤ))) → i < length args → place ≡ None → Some n ≡ number_in (argument_at s (get_or args i d)) → pairs_from ps place (arguments_at s (drop i args)) ≡ all → pairs_from ps (Some n) (arguments_at s (drop (i + 1) args)) ≡ all
pairs_number s args i d ps place n all lt e g h = let k = rw (e, drop_more args i d lt, sym g) at h in k

-- an integer ends a pair
pub pairs_integer : (s : List Tree) (args : List Argument) (i : ℕ) (d : Argument) (ps new : List (ℕ × ℤ)) (place : Option ℕ) (j : ℕ) (m : ℤ) (all : Option (List (ℕ × ℤ))) → i < length args → place ≡ Some j → Some m ≡ integer_in (argument_at s (get_or args i d)) → new ≡ ps ++ (j, m) ∷ [] → pairs_from ps place (arguments_at s (drop i args)) ≡ all → pairs_from new None (arguments_at s (drop (i + 1) args)) ≡ all
pairs_integer s args i d ps new place j m all lt e g made h = let k = rw (e, drop_more args i d lt, sym g) at h in rw made k

-- one argument more is of the kind, or isn't
pub each_more : {A : Type 0} (p : ArgumentTree → Option A) (s : List Tree) (args : List Argument) (i : ℕ) (d : Argument) (xs new : List A) (x : A) (all : Option (List A)) → i < length args → Some x ≡ p (argument_at s (get_or args i d)) → new ≡ xs ++ x ∷ [] → each_from p xs (arguments_at s (drop i args)) ≡ all → each_from p new (arguments_at s (drop (i + 1) args)) ≡ all
each_more p s args i d xs new x all lt g made h = let k = rw (drop_more args i d lt, sym g) at h in rw made k

pub each_none : {A : Type 0} (p : ArgumentTree → Option A) (s : List Tree) (args : List Argument) (i : ℕ) (d : Argument) (xs : List A) (all : Option (List A)) → i < length args → None ≡ p (argument_at s (get_or args i d)) → each_from p xs (arguments_at s (drop i args)) ≡ all → None ≡ all
each_none p s args i d xs all lt g h = let k = rw (drop_more args i d lt, sym g) at h in k
