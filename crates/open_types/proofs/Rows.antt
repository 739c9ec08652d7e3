-- The definitions on small sources: by computation alone.
use Rattle.std.proofs.Common.{◌≡◌, ℕ, zero, suc, pos, true, false, List, [], ◌∷◌, Option, Some, None, refl, codes}
use Rattle.trees.specs.Tree.{Tree, Leaf, One, Two, Three, HTyVar, HTyApp, HEnd, HBound, HFun, HEq, HForall, HLet, HPatAny, HPatVar, HPatCon}
use Rattle.trees.specs.Sorts.{int_type}
use Rattle.tasks.specs.declared.signature.SymbolKind.{SymbolKind}
use Rattle.tasks.specs.declared.signature.SymbolKind.TheVariants.{Kind, Function, Predicate, Constructor, Projection}
use Rattle.tasks.specs.Task.{SymbolTree, int_symbol}
use Rattle.tasks.specs.Equations.{cells}
use Rattle.surface.specs.Lexeme.{Word}
use Rattle.name_resolution.specs.Abstract.{FieldName, composed_type, no_types, more_types, Pattern, variable_pattern, tuple_pattern, record_pattern, Patterns, no_patterns, more_patterns, no_alternatives, more_alternatives, Expression, applied_expression, infix_expression, integer_expression, true_expression, tuple_expression, field_expression, record_expression, equality_expression, let_expression, match_expression, quantified_expression, no_expressions, more_expressions, no_branches, more_branches}
use Rattle.name_resolution.specs.Where.{Where}
use Rattle.scopes.specs.declared.Referent.TheVariants as stands
use Rattle.open_types.specs.Patterns.{local, Matched, pattern_piece, alternatives_pieces, all_notes, reordered}
use Rattle.open_types.specs.Pieces.{NotedTree, piece, type_at}
use Rattle.name_resolution.proofs.Rows.{called}

abbrev entry : Word → SymbolKind → ℕ → List Tree → Option Tree → SymbolTree
entry name kind vars args result = record { theory = codes "T"; name = name; kind = kind; vars = vars; args = args; result = result }

abbrev unknown : ℕ → Tree
unknown n = Leaf (HTyVar n)

abbrev t_type : Tree
t_type = One (HTyApp 1) (Leaf HEnd)

abbrev list_of : Tree → Tree
list_of a = One (HTyApp 5) (cells (a ∷ []))

abbrev pair_of : Tree → Tree → Tree
pair_of a b = One (HTyApp 8) (cells (a ∷ b ∷ []))

abbrev pair_at : ℕ → Option ℕ
pair_at (suc (suc zero)) = Some 9
pair_at n = None

abbrev record_at : Tree → Tree
record_at a = One (HTyApp 11) (cells (a ∷ []))

-- `int`, a type `t`, constants `c` and `d` of it, `+`, a type `list` with `Nil`, a predicate `p` of one argument, pairs, a field `head` of a list, and
-- `type r 'a = {a: 'a; b: t}`
abbrev here : Where
here = record {
  symbols = int_symbol ∷ entry (codes "t") Kind 0 [] None ∷ entry (codes "c") Function 0 [] (Some t_type) ∷ entry (codes "d") Function 0 [] (Some t_type)
      ∷ entry (codes "+") Function 0 (int_type ∷ int_type ∷ []) (Some int_type) ∷ entry (codes "list") Kind 1 [] None
      ∷ entry (codes "Nil") Constructor 1 [] (Some (list_of (unknown 0))) ∷ entry (codes "p") Predicate 0 (t_type ∷ []) None
      ∷ entry (codes "tuple2") Kind 2 [] None ∷ entry (codes "Tuple2") Constructor 2 (unknown 0 ∷ unknown 1 ∷ []) (Some (pair_of (unknown 0) (unknown 1)))
      ∷ entry (codes "head") Projection 1 (list_of (unknown 0) ∷ []) (Some (unknown 0))
      ∷ entry (codes "r") Kind 1 [] None ∷ entry (codes "mk_r") Constructor 1 (unknown 0 ∷ t_type ∷ []) (Some (record_at (unknown 0)))
      ∷ entry (codes "a") Projection 1 (record_at (unknown 0) ∷ []) (Some (unknown 0)) ∷ entry (codes "b") Projection 1 (record_at (unknown 0) ∷ []) (Some t_type) ∷ [];
  types = called ((codes "pair", stands.Alias 1 (list_of (list_of (unknown 0)))) ∷ (codes "t", stands.Entry 1) ∷ []);
  names = called ((codes "c", 2) ∷ (codes "d", 3) ∷ (codes "+", 4) ∷ (codes "Nil", 6) ∷ (codes "p", 7) ∷ (codes "head", 10) ∷ (codes "a", 13) ∷ (codes "b", 14) ∷ []);
  tuples = pair_at;
  vars = [];
}

abbrev name : ℕ → Word → Expression
name i x = applied_expression i [] x no_expressions

-- `c + d = 0`: the result of `+`, its two arguments, the literal
sum_equations : (piece here [] 0 None (equality_expression 3 true (infix_expression 1 (codes "+") (name 0 (codes "c")) (name 2 (codes "d"))) (integer_expression 4 (pos 0)))).notes.equations
    ≡ (int_type, unknown 0) ∷ (t_type, int_type) ∷ (t_type, int_type) ∷ (int_type, unknown 0) ∷ []
sum_equations = refl

-- `Nil = Nil`: `=` takes the first unknown, so it is named where all are open
nil_takers : (piece here [] 0 None (equality_expression 10 true (name 9 (codes "Nil")) (name 11 (codes "Nil")))).notes.takers ≡ 10 ∷ 9 ∷ 11 ∷ []
nil_takers = refl

nil_equations : (piece here [] 0 None (equality_expression 10 true (name 9 (codes "Nil")) (name 11 (codes "Nil")))).notes.equations ≡ (list_of (unknown 1), unknown 0) ∷ (list_of (unknown 2), unknown 0) ∷ []
nil_equations = refl

-- `forall x: t. let y = x in y = c`: the innermost variable has the index 0
bound_tree : (piece here [] 0 None (quantified_expression 0 true (record { names = codes "x" ∷ []; of_type = Some (composed_type 3 [] (codes "t") no_types) } ∷ []) no_expressions (let_expression 5 (codes "y") (name 8 (codes "x"))
    (equality_expression 11 true (name 10 (codes "y")) (name 8 (codes "x")))))).tree
    ≡ Two HForall t_type (Two HLet (One (HBound 0) t_type) (Two HEq (One (HBound 0) (unknown 0)) (One (HBound 1) t_type)))
bound_tree = refl

-- `forall x y. [p x] true`: each name takes an unknown at the quantifier, and the trigger is dropped
trigger_notes : (piece here [] 0 None (quantified_expression 0 true (record { names = codes "x" ∷ codes "y" ∷ []; of_type = None } ∷ []) (more_expressions (applied_expression 5 [] (codes "p") (more_expressions (name 6 (codes "x")) no_expressions)) no_expressions) (true_expression 9))).notes.equations
    ≡ (unknown 0, t_type) ∷ []
trigger_notes = refl

-- `(c, 1)`, of which a type is wanted
pair_equations : (piece here [] 1 (Some (unknown 0)) (tuple_expression 3 (more_expressions (name 4 (codes "c")) (more_expressions (integer_expression 6 (pos 1)) no_expressions)))).notes.equations
    ≡ (pair_of (unknown 1) (unknown 2), unknown 0) ∷ (t_type, unknown 1) ∷ (int_type, unknown 2) ∷ []
pair_equations = refl

-- `Nil.head`, of which a type is wanted, under a variable `head`, which doesn't hide the field: its function takes an unknown before its term does
abbrev head_of_nil : NotedTree
head_of_nil = piece here (local (codes "head") t_type ∷ []) 1 (Some (unknown 0)) (field_expression 3 (name 3 (codes "Nil")) 5 [] (codes "head"))

field_tree : head_of_nil.tree ≡ Three (HFun 10) (cells (unknown 1 ∷ [])) (cells (Three (HFun 6) (cells (unknown 2 ∷ [])) (Leaf HEnd) (list_of (unknown 1)) ∷ [])) (unknown 0)
field_tree = refl

field_equations : head_of_nil.notes.equations ≡ (unknown 1, unknown 0) ∷ (list_of (unknown 2), list_of (unknown 1)) ∷ []
field_equations = refl

-- `{b = c; a = d}`, of which a type is wanted: the equations are in the written order, the values in that of the fields
abbrev fields : List Word → List FieldName
fields [] = []
fields (x ∷ xs) = record { at = 0; scopes = []; text = x } ∷ fields xs

abbrev constant : ℕ → Tree → Tree
constant k t = Three (HFun k) (Leaf HEnd) (Leaf HEnd) t

abbrev record_of_two : NotedTree
record_of_two = piece here [] 1 (Some (unknown 0)) (record_expression 0 (fields (codes "b" ∷ codes "a" ∷ [])) (more_expressions (name 3 (codes "c")) (more_expressions (name 7 (codes "d")) no_expressions)))

record_tree : record_of_two.tree ≡ Three (HFun 12) (cells (unknown 1 ∷ [])) (cells (constant 3 (unknown 1) ∷ constant 2 t_type ∷ [])) (unknown 0)
record_tree = refl

record_equations : record_of_two.notes.equations ≡ (record_at (unknown 1), unknown 0) ∷ (t_type, t_type) ∷ (t_type, unknown 1) ∷ []
record_equations = refl

-- `{b = x}` and `{b = x; a = y}`: a field that isn't named is a wildcard, and the variables are in the order of the fields
abbrev record_of_patterns : List Word → Patterns → Matched
record_of_patterns xs ps = pattern_piece here None 1 (unknown 0) (record_pattern 0 (fields xs) ps)

one_field : (record_of_patterns (codes "b" ∷ []) (more_patterns (variable_pattern 3 (codes "x")) no_patterns)).tree
    ≡ Three (HPatCon 12) (cells (unknown 1 ∷ [])) (cells (One HPatAny (unknown 1) ∷ One HPatVar t_type ∷ [])) (unknown 0)
one_field = refl

two_fields : (record_of_patterns (codes "b" ∷ codes "a" ∷ []) (more_patterns (variable_pattern 3 (codes "x")) (more_patterns (variable_pattern 7 (codes "y")) no_patterns))).variables
    ≡ local (codes "y") (unknown 1) ∷ local (codes "x") t_type ∷ []
two_fields = refl

-- an alias's type at its argument
alias_type : type_at here (composed_type 0 [] (codes "pair") (more_types (composed_type 1 [] (codes "t") no_types) no_types)) ≡ list_of (list_of t_type)
alias_type = refl

-- `match c with x -> p x end`: the match with its pattern is before those of its parts
match_notes : (piece here [] 0 None (match_expression 2 false (name 3 (codes "c")) (more_branches (more_alternatives 5 (variable_pattern 5 (codes "x")) no_alternatives) (applied_expression 7 [] (codes "p") (more_expressions (name 8 (codes "x")) no_expressions)) no_branches))).notes.matches
    ≡ (2, One HPatVar (unknown 0) ∷ []) ∷ []
match_notes = refl

-- `(x, y) | (y, x)`: each alternative takes its own unknowns, and the later one's variables bring their equations
abbrev swapped : ℕ → Word → Word → Pattern
swapped i x y = tuple_pattern i (more_patterns (variable_pattern i x) (more_patterns (variable_pattern i y) no_patterns))

later_equations : (all_notes (alternatives_pieces here 1 (unknown 0) (more_alternatives 2 (swapped 2 (codes "x") (codes "y")) (more_alternatives 7 (swapped 7 (codes "y") (codes "x")) no_alternatives)))).equations
    ≡ (pair_of (unknown 1) (unknown 2), unknown 0) ∷ (pair_of (unknown 3) (unknown 4), unknown 0) ∷ (unknown 2, unknown 3) ∷ (unknown 1, unknown 4) ∷ []
later_equations = refl

-- under `x, y` the variable `x` has the index 1, under `y, x` it has 0; a variable further out stays
swapped_body : reordered (local (codes "x") t_type ∷ local (codes "y") t_type ∷ []) (local (codes "y") t_type ∷ local (codes "x") t_type ∷ []) (Two HEq (One (HBound 1) t_type) (One (HBound 2) t_type)) ≡ Two HEq (One (HBound 0) t_type) (One (HBound 2) t_type)
swapped_body = refl
