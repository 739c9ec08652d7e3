-- Arguments of lists are read back as those lists.
use Rattle.std.proofs.Common.{◌≡◌, ℕ, ℤ, true, List, [], ◌∷◌, ◌++◌, map, Some, None, refl, sym, ap, ◌∙◌, append_assoc, append-nil, All, suc, arith}
use Rattle.std.specs.Option.{option_map}
use Rattle.trees.specs.Tree.{Tree}
use Rattle.trees.specs.Node.{tree_at, Holds}
use Rattle.trees.specs.declared.TermId.{TermId}
use Rattle.tasks.specs.Meaning.{trees_at}
use Rattle.step_lines.specs.declared.rule_words.argument.Argument.{Argument}
use Rattle.step_lines.specs.declared.rule_words.argument.Argument.TheVariants as made
use Rattle.step_lines.specs.declared.rule_words.argument.ArgumentKind.TheVariants as kind
use Rattle.step_lines.specs.rule_words.Arguments.{argument_at, arguments_at, ArgumentHeld, ArgumentsHeld, number_in, symbol_in, integer_in, expression_in, type_in, have_kinds}
use Rattle.step_lines.specs.rule_words.Forms.{each_argument, each_from, argument_pairs, pairs_from}
use Rattle.rules.specs.declared.rule.Rule.{Rule}
use Rattle.rules.specs.declared.rule.Rule.TheVariants.{False, NotTrue, Clash, Irrefl, Distinct, Linear, NotNot, And, NotAnd, AndThen, NotAndThen, Or, NotOr, OrElse, NotOrElse, Imp, NotImp, Iff, NotIff, Forall, NotForall, Exists, NotExists, Cut, Keep, Refl, Replace, LetDef, IfDef, MatchDef, Fact, Def, Clause, Inv, Case, Inject, Project, Trichotomy, Bound}
use Rattle.rules.specs.Trees.{RuleTree, RKeep, RLinear, RFact, RDef, RClause, RInv}
use Rattle.rules.specs.Meaning.{rule_at, RuleHeld}
use Rattle.step_lines.specs.rule_words.Forms.{argument_kinds, one_then_types, two_then_types}
use Rattle.step_lines.specs.rule_words.Rules.{rule_row, rule_from}
use Rattle.step_lines.specs.rule_words.Written.{arguments_of_pairs, name_and_arguments}
use Rattle.step_lines.specs.declared.rule_words.name.RuleName.{RuleName}

numbers-onto : (s : List Tree) (xs ns : List ℕ) → each_from number_in xs (arguments_at s (map made.Number ns)) ≡ Some (xs ++ ns)
unfolding argument_at number_in
numbers-onto s xs [] = ap Some (sym (append-nil xs))
numbers-onto s xs (n ∷ ns) = numbers-onto s (xs ++ n ∷ []) ns ∙ ap Some (append_assoc xs (n ∷ []) ns)

pub numbers-back : (s : List Tree) (ns : List ℕ) → each_argument number_in (arguments_at s (map made.Number ns)) ≡ Some ns
numbers-back s ns = numbers-onto s [] ns

types-onto : (s : List Tree) (xs : List Tree) (ys : List TermId) → each_from type_in xs (arguments_at s (map made.Type ys)) ≡ Some (xs ++ trees_at s ys)
unfolding argument_at type_in
types-onto s xs [] = ap Some (sym (append-nil xs))
types-onto s xs (y ∷ ys) = types-onto s (xs ++ tree_at s y ∷ []) ys ∙ ap Some (append_assoc xs (tree_at s y ∷ []) (trees_at s ys))

pub types-back : (s : List Tree) (ys : List TermId) → each_argument type_in (arguments_at s (map made.Type ys)) ≡ Some (trees_at s ys)
types-back s ys = types-onto s [] ys

pairs-onto : (s : List Tree) (xs ps : List (ℕ × ℤ)) → pairs_from xs None (arguments_at s (arguments_of_pairs ps)) ≡ Some (xs ++ ps)
unfolding argument_at number_in integer_in
pairs-onto s xs [] = ap Some (sym (append-nil xs))
pairs-onto s xs (p ∷ ps) = pairs-onto s (xs ++ p ∷ []) ps ∙ ap Some (append_assoc xs (p ∷ []) ps)

pub pairs-back : (s : List Tree) (ps : List (ℕ × ℤ)) → argument_pairs (arguments_at s (arguments_of_pairs ps)) ≡ Some ps
pairs-back s ps = pairs-onto s [] ps

pub numbers-kinds : (s : List Tree) (ns : List ℕ) → have_kinds [] (kind.Number ∷ []) (arguments_at s (map made.Number ns)) ≡ true
unfolding argument_at
numbers-kinds s [] = refl
numbers-kinds s (n ∷ []) = refl
numbers-kinds s (n ∷ m ∷ ns) = numbers-kinds s (m ∷ ns)

pub types-kinds : (s : List Tree) (ys : List TermId) → have_kinds [] (kind.Type ∷ []) (arguments_at s (map made.Type ys)) ≡ true
unfolding argument_at
types-kinds s [] = refl
types-kinds s (y ∷ []) = refl
types-kinds s (y ∷ z ∷ ys) = types-kinds s (z ∷ ys)

pub pairs-kinds : (s : List Tree) (ps : List (ℕ × ℤ)) → have_kinds [] (kind.Number ∷ kind.Integer ∷ []) (arguments_at s (arguments_of_pairs ps)) ≡ true
unfolding argument_at
pairs-kinds s [] = refl
pairs-kinds s (p ∷ []) = refl
pairs-kinds s (p ∷ q ∷ ps) = pairs-kinds s (q ∷ ps)

types-after : (s : List Tree) (k : ℕ) (f : ℕ → List Tree → RuleTree) (ys : List TermId) → one_then_types number_in f (arguments_at s (made.Number k ∷ map made.Type ys)) ≡ Some (f k (trees_at s ys))
unfolding argument_at number_in
types-after s k f ys = rw (types-back s ys) refl

types-after-symbol : (s : List Tree) (k : ℕ) (f : ℕ → List Tree → RuleTree) (ys : List TermId) → one_then_types symbol_in f (arguments_at s (made.Symbol k ∷ map made.Type ys)) ≡ Some (f k (trees_at s ys))
unfolding argument_at symbol_in
types-after-symbol s k f ys = rw (types-back s ys) refl

types-after-both : (s : List Tree) (k i : ℕ) (f : ℕ → ℕ → List Tree → RuleTree) (ys : List TermId) → two_then_types f (arguments_at s (made.Symbol k ∷ made.Number i ∷ map made.Type ys)) ≡ Some (f k i (trees_at s ys))
unfolding argument_at symbol_in number_in
types-after-both s k i f ys = rw (types-back s ys) refl

-- what a rule is written as is read back as that rule
pub reads-back : (s : List Tree) (r : Rule) → rule_from (name_and_arguments r).name (arguments_at s (name_and_arguments r).arguments) ≡ Some (rule_at s r)
unfolding argument_at number_in symbol_in integer_in expression_in type_in
reads-back s (Keep places) = ap (option_map RKeep) (numbers-back s places)
reads-back s (Linear uses) = ap (option_map RLinear) (pairs-back s uses)
reads-back s (Fact k types) = types-after s k RFact types
reads-back s (Def k types) = types-after-symbol s k RDef types
reads-back s (Clause k i types) = types-after-both s k i RClause types
reads-back s (Inv k types) = types-after-symbol s k RInv types
reads-back s _ = refl

-- and its arguments have the kinds of its name
pub has-kinds : (s : List Tree) (r : Rule) → have_kinds (argument_kinds (rule_row (name_and_arguments r).name).form).first (argument_kinds (rule_row (name_and_arguments r).name).form).repeated (arguments_at s (name_and_arguments r).arguments) ≡ true
unfolding argument_at
has-kinds s (Keep places) = numbers-kinds s places
has-kinds s (Linear uses) = pairs-kinds s uses
has-kinds s (Fact k types) = types-kinds s types
has-kinds s (Def k types) = types-kinds s types
has-kinds s (Clause k i types) = types-kinds s types
has-kinds s (Inv k types) = types-kinds s types
has-kinds s _ = refl

numbers-held : (s : List Tree) (ns : List ℕ) → ArgumentsHeld s (map made.Number ns)
unfolding ArgumentHeld
numbers-held s [] = tt
numbers-held s (n ∷ ns) = (tt, numbers-held s ns)

pairs-held : (s : List Tree) (ps : List (ℕ × ℤ)) → ArgumentsHeld s (arguments_of_pairs ps)
unfolding ArgumentHeld
pairs-held s [] = tt
pairs-held s (p ∷ ps) = (tt, (tt, pairs-held s ps))

pub first_of : {X : Type 0} (P : X → Type 0) (x : X) (xs : List X) → All P (x ∷ xs) → P x
first_of P x xs h = h 0 x (omega arith)

pub rest_of : {X : Type 0} (P : X → Type 0) (x : X) (xs : List X) → All P (x ∷ xs) → All P xs
rest_of P x xs h k d lt = h (suc k) d (omega arith)

types-held : (s : List Tree) (ys : List TermId) → All (Holds s) ys → ArgumentsHeld s (map made.Type ys)
unfolding ArgumentHeld
types-held s [] h = tt
types-held s (y ∷ ys) h = (first_of (Holds s) y ys h, types-held s ys (rest_of (Holds s) y ys h))

-- and the numbers in them are held where the rule's are
pub are-held : (s : List Tree) (r : Rule) → RuleHeld s r → ArgumentsHeld s (name_and_arguments r).arguments
unfolding ArgumentHeld
are-held s (False i) h = (tt, tt)
are-held s (NotTrue i) h = (tt, tt)
are-held s (Clash i j) h = (tt, (tt, tt))
are-held s (Irrefl i) h = (tt, tt)
are-held s (Distinct i) h = (tt, tt)
are-held s (Linear uses) h = pairs-held s uses
are-held s (NotNot i) h = (tt, tt)
are-held s (And i) h = (tt, tt)
are-held s (NotAnd i) h = (tt, tt)
are-held s (AndThen i) h = (tt, tt)
are-held s (NotAndThen i) h = (tt, tt)
are-held s (Or i) h = (tt, tt)
are-held s (NotOr i) h = (tt, tt)
are-held s (OrElse i) h = (tt, tt)
are-held s (NotOrElse i) h = (tt, tt)
are-held s (Imp i) h = (tt, tt)
are-held s (NotImp i) h = (tt, tt)
are-held s (Iff i) h = (tt, tt)
are-held s (NotIff i) h = (tt, tt)
are-held s (Forall i e) h = (tt, (h, tt))
are-held s (NotForall i j) h = (tt, (tt, tt))
are-held s (Exists i j) h = (tt, (tt, tt))
are-held s (NotExists i e) h = (tt, (h, tt))
are-held s (Cut e) h = (h, tt)
are-held s (Keep places) h = numbers-held s places
are-held s (Refl e) h = (h, tt)
are-held s (Replace i j e) h = (tt, (tt, (h, tt)))
are-held s (LetDef e) h = (h, tt)
are-held s (IfDef e) h = (h, tt)
are-held s (MatchDef e) h = (h, tt)
are-held s (Fact k types) h = (tt, types-held s types h)
are-held s (Def k types) h = (tt, types-held s types h)
are-held s (Clause k i types) h = (tt, (tt, types-held s types h))
are-held s (Inv k types) h = (tt, types-held s types h)
are-held s (Case e) h = (h, tt)
are-held s (Inject i) h = (tt, tt)
are-held s (Project e) h = (h, tt)
are-held s (Trichotomy a b) h = (h.0, (h.1, tt))
are-held s (Bound e n) h = (h, (tt, tt))

-- a name and arguments that are those of a rule are read back as the rule
pub written-back : (r : Rule) (n : RuleName) (args : List Argument) → n ≡ (name_and_arguments r).name → args ≡ (name_and_arguments r).arguments → (s : List Tree) → rule_from n (arguments_at s args) ≡ Some (rule_at s r)
written-back r n args e f s = rw (e, f) (reads-back s r)

pub written-kinds : (r : Rule) (n : RuleName) (args : List Argument) → n ≡ (name_and_arguments r).name → args ≡ (name_and_arguments r).arguments → (s : List Tree) → have_kinds (argument_kinds (rule_row n).form).first (argument_kinds (rule_row n).form).repeated (arguments_at s args) ≡ true
written-kinds r n args e f s = rw (e, f) (has-kinds s r)

pub written-held : (r : Rule) (args : List Argument) → args ≡ (name_and_arguments r).arguments → (s : List Tree) → RuleHeld s r → ArgumentsHeld s args
written-held r args f s h = rw f (are-held s r h)
