-- What the lines of types, of patterns, and of terms and formulas make.
use Rattle.std.specs.Prelude.{ℕ, ◌-◌, List, [], ◌∷◌, ◌++◌, length, take, drop, map, Option, Some, None, slice_get, codes}
use Rattle.std.specs.Option.{option_and_then, option_map}
use Rattle.trees.specs.Tree.{Tree, Leaf, One, Two, Three, HBound, HParam, HNum, HFun, HPred, HEq, HTrue, HFalse, HNot, HJoin, HForall, HExists, HLet, HIf, HCase, HArm, HPatAny, HPatVar, HPatCon, HPatAlias}
use Rattle.trees.specs.declared.Op.TheVariants as op
use Rattle.trees.specs.Binding.{inst_types}
use Rattle.tasks.specs.declared.signature.SymbolKind.{SymbolKind}
use Rattle.tasks.specs.declared.signature.SymbolKind.TheVariants.{Kind, Function, Predicate, Constructor, Projection}
use Rattle.tasks.specs.Task.{TaskTree, SymbolTree}
use Rattle.name_tables.specs.declared.name_entries.names.NameOf.{NameOf}
use Rattle.name_tables.specs.declared.name_entries.names.NameOf.TheVariants.{Int, Rigid, Symbol}
use Rattle.name_tables.specs.declared.name_entries.names.NameEntry.{NameEntry}
use Rattle.word_tables.specs.integers.Integers.{integer}
use Rattle.word_tables.specs.Words.{place_in_words}
use Rattle.step_lines.specs.declared.tree_lines.kinds.NodeWord.{NodeWord}
use Rattle.step_lines.specs.declared.tree_lines.kinds.NodeWord.TheVariants as word
use Rattle.step_lines.specs.tree_lines.Words.{LineWord, number, at_number, each, pairs, one, two, three, alone}
use Rattle.step_lines.specs.tree_lines.Named.{NameMeaning, cells, named_type_at, meaning}

-- what the lines so far have made, each kind counted from 0
pub record Earlier : Type 0 where
  pub types : List Tree
  pub patterns : List Tree
  pub expressions : List Tree

-- a symbol with its entry, its types and what it is used on
pub record SymbolUse : Type 0 where
  pub symbol : ℕ
  pub entry : SymbolTree
  pub types : List Tree
  pub parts : List Tree

abbrev pub use_by : ℕ → SymbolTree → List Tree → List Tree → SymbolUse
use_by k e types parts = record { symbol = k; entry = e; types = types; parts = parts }

abbrev pub symbol_number : NameOf → Option ℕ
symbol_number Int = None
symbol_number (Rigid k) = None
symbol_number (Symbol k) = Some k

-- the lists of the types and the parts, and the result at the types
abbrev pub use_trees : SymbolUse → Option (Tree × Tree × Tree)
use_trees u =
    option_map (λ ty. (cells u.types, cells u.parts, inst_types ty u.types)) u.entry.result

abbrev pub term_of : SymbolUse → Option Tree
term_of u = option_map (λ p. Three (HFun u.symbol) p.0 p.1 p.2) (use_trees u)

-- the term or formula of a symbol on terms
abbrev pub applied_as : SymbolKind → SymbolUse → Option Tree
applied_as Kind u = None
applied_as Predicate u = Some (Two (HPred u.symbol) (cells u.types) (cells u.parts))
applied_as Function u = term_of u
applied_as Constructor u = term_of u
applied_as Projection u = term_of u

abbrev pub application_tree : SymbolUse → Option Tree
application_tree u = applied_as u.entry.kind u

-- the pattern of a constructor on patterns
abbrev pub constructor_pattern_tree : SymbolUse → Option Tree
constructor_pattern_tree u = option_map (λ p. Three (HPatCon u.symbol) p.0 p.1 p.2) (use_trees u)

-- the words of patterns, and of terms and formulas, in ascending order
abbrev pub pattern_node_words : List NodeWord
pattern_node_words = word.Any ∷ word.As ∷ word.Con ∷ word.Var ∷ []

abbrev pub pattern_words : List LineWord
pattern_words = codes "any" ∷ codes "as" ∷ codes "con" ∷ codes "var" ∷ []

abbrev pub expression_names : List NodeWord
expression_names = word.And ∷ word.AndThen ∷ word.Bound ∷ word.Eq ∷ word.Exists ∷ word.False
    ∷ word.Forall ∷ word.If ∷ word.Iff ∷ word.Imp ∷ word.Let ∷ word.Match ∷ word.Not ∷ word.Num
    ∷ word.Or ∷ word.OrElse ∷ word.Param ∷ word.Sym ∷ word.True ∷ []

abbrev pub expression_words : List LineWord
expression_words = codes "and" ∷ codes "andthen" ∷ codes "bound" ∷ codes "eq" ∷ codes "exists"
    ∷ codes "false" ∷ codes "forall" ∷ codes "if" ∷ codes "iff" ∷ codes "imp" ∷ codes "let"
    ∷ codes "match" ∷ codes "not" ∷ codes "num" ∷ codes "or" ∷ codes "orelse" ∷ codes "param"
    ∷ codes "sym" ∷ codes "true" ∷ []

abbrev pub pattern_word : LineWord → Option NodeWord
pattern_word w = option_and_then (slice_get pattern_node_words) (place_in_words w pattern_words)

abbrev pub expression_word : LineWord → Option NodeWord
expression_word w = option_and_then (slice_get expression_names) (place_in_words w expression_words)

-- a word's tree over one tree, over two, and over a number and a type
abbrev pub one_tree : NodeWord → Tree → Tree
one_tree word.Any a = One HPatAny a
one_tree word.Var a = One HPatVar a
one_tree word.As a = One HPatAlias a
one_tree _ a = One HNot a

abbrev pub two_tree : NodeWord → Tree → Tree → Tree
two_tree word.And a b = Two (HJoin op.And) a b
two_tree word.AndThen a b = Two (HJoin op.AndThen) a b
two_tree word.Or a b = Two (HJoin op.Or) a b
two_tree word.OrElse a b = Two (HJoin op.OrElse) a b
two_tree word.Imp a b = Two (HJoin op.Imp) a b
two_tree word.Iff a b = Two (HJoin op.Iff) a b
two_tree word.Forall a b = Two HForall a b
two_tree word.Exists a b = Two HExists a b
two_tree word.Let a b = Two HLet a b
two_tree _ a b = Two HEq a b

abbrev pub variable_tree : NodeWord → ℕ → Tree → Tree
variable_tree word.Bound i ty = One (HBound i) ty
variable_tree _ n ty = One (HParam n) ty

-- a match on a term, by the pattern and the body of each branch
abbrev pub arm_list : List (Tree × Tree) → Tree
arm_list branches = cells (map (λ b. Two HArm b.0 b.1) branches)

abbrev pub match_tree : Tree → List (Tree × Tree) → Tree
match_tree e branches = Two HCase e (arm_list branches)

module _ (t : TaskTree) (names : List NameEntry) (r : Earlier) where
  abbrev pub type : LineWord → Option Tree
  type w = at_number r.types w

  abbrev pub pattern_at : LineWord → Option Tree
  pattern_at w = at_number r.patterns w

  abbrev pub expression_at : LineWord → Option Tree
  expression_at w = at_number r.expressions w

  -- the types at which a name stands, and those that words refer to
  abbrev pub meaning_types : NameMeaning → List LineWord → Option (List Tree)
  meaning_types n ws = option_map (λ types. n.types ++ types) (each type ws)

  -- A symbol with as many types as it has type variables, of which words write those that its name
  -- lacks, and then with its parts. Where words for types are missing, the tree isn't well typed.
  abbrev pub use_of : (LineWord → Option Tree) → NameMeaning → List LineWord → ℕ → SymbolTree
      → Option SymbolUse
  use_of part n ws k e = option_and_then
      (λ types. option_map (use_by k e types) (each part (drop (e.vars - length n.types) ws)))
      (meaning_types n (take (e.vars - length n.types) ws))

  abbrev pub named_use : (LineWord → Option Tree) → List LineWord → NameMeaning → Option SymbolUse
  named_use part ws n = option_and_then
      (λ k. option_and_then (use_of part n ws k) (slice_get t.symbols k)) (symbol_number n.symbol)

  abbrev pub used_on : (LineWord → Option Tree) → List LineWord → Option SymbolUse
  used_on part [] = None
  used_on part (w ∷ ws) = option_and_then (named_use part ws) (meaning names w)

  -- the type of a line `y`
  abbrev pub type_of_line : List LineWord → Option Tree
  type_of_line [] = None
  type_of_line (w ∷ ws) = option_and_then
      (λ n. option_and_then (named_type_at n.symbol) (meaning_types n ws)) (meaning names w)

  -- the pattern of a line `p`, by its word
  abbrev pub pattern_by : NodeWord → List LineWord → Option Tree
  pattern_by word.Con ws = option_and_then constructor_pattern_tree (used_on pattern_at ws)
  pattern_by word.As ws = one pattern_at (one_tree word.As) ws
  pattern_by w ws = one type (one_tree w) ws

  abbrev pub pattern_of_line : List LineWord → Option Tree
  pattern_of_line [] = None
  pattern_of_line (w ∷ ws) = option_and_then (λ n. pattern_by n ws) (pattern_word w)

  abbrev pub match_by_words : List LineWord → Option Tree
  match_by_words [] = None
  match_by_words (w ∷ ws) = option_and_then
      (λ e. option_map (match_tree e) (pairs pattern_at expression_at ws)) (expression_at w)

  -- the term or formula of a word other than `sym` and `match`
  abbrev pub plain_by : NodeWord → List LineWord → Option Tree
  plain_by word.Bound ws = two number type (variable_tree word.Bound) ws
  plain_by word.Param ws = two number type (variable_tree word.Param) ws
  plain_by word.Num ws = one integer (λ n. Leaf (HNum n)) ws
  plain_by word.True ws = alone (Leaf HTrue) ws
  plain_by word.False ws = alone (Leaf HFalse) ws
  plain_by word.Not ws = one expression_at (one_tree word.Not) ws
  plain_by word.Forall ws = two type expression_at (two_tree word.Forall) ws
  plain_by word.Exists ws = two type expression_at (two_tree word.Exists) ws
  plain_by word.If ws = three expression_at expression_at expression_at (Three HIf) ws
  plain_by w ws = two expression_at expression_at (two_tree w) ws

  -- the term or formula of a line `e`, by its word
  abbrev pub expression_by : NodeWord → List LineWord → Option Tree
  expression_by word.Sym ws = option_and_then application_tree (used_on expression_at ws)
  expression_by word.Match ws = match_by_words ws
  expression_by w ws = plain_by w ws

  abbrev pub expression_of_line : List LineWord → Option Tree
  expression_of_line [] = None
  expression_of_line (w ∷ ws) = option_and_then (λ n. expression_by n ws) (expression_word w)
