-- The first fault of names of small sources: by computation alone.
use Rattle.std.proofs.Common.{◌≡◌, ℕ, ◌+◌, Bool, true, false, cond, List, [], ◌∷◌, Option, Some, None, refl, codes}
use Rattle.std.specs.Str.{bytes_eq}
use Rattle.tasks.specs.trees.declared.Op.TheVariants.{And}
use Rattle.tasks.specs.trees.Tree.{Tree}
use Rattle.tasks.specs.trees.Sorts.{int_type}
use Rattle.tasks.specs.declared.signature.SymbolKind.{SymbolKind}
use Rattle.tasks.specs.declared.signature.SymbolKind.TheVariants.{Kind, Function, Predicate, Constructor, Projection}
use Rattle.tasks.specs.Task.{SymbolTree, int_symbol}
use Rattle.surface.specs.Lexeme.{Word}
use Rattle.name_resolution.specs.Abstract.{FieldName, variable_type, composed_type, no_types, Pattern, wildcard_pattern, variable_pattern, constructor_pattern, alias_pattern, record_pattern, no_patterns, more_patterns, Alternatives, no_alternatives, more_alternatives, Expression, applied_expression, true_expression, field_expression, record_expression, not_expression, connected_expression, equality_expression, let_expression, match_expression, quantified_expression, no_expressions, more_expressions, no_branches, more_branches}
use Rattle.name_resolution.specs.declared.NamingFault.{NamingFault}
use Rattle.name_resolution.specs.declared.NamingFault.TheVariants.{Unknown, Duplicate, WrongKind, Arity}
use Rattle.name_resolution.specs.Where.{Where}
use Rattle.scopes.specs.declared.Referent.TheVariants as stands
use Rattle.name_resolution.specs.Faults.{fault}

abbrev entry : Word → SymbolKind → ℕ → List Tree → SymbolTree
entry name kind vars args = record { theory = codes "T"; name = name; kind = kind; vars = vars; args = args; result = None }

abbrev pub called : {A : Type 0} → List (Word × A) → List Word → Word → Option A
called [] qs x = None
called (p ∷ ps) [] x = cond (bytes_eq p.0 x) (Some p.1) (called ps [] x)
called (p ∷ ps) (q ∷ qs) x = None

-- a type `t`, a constant `c`, predicates `p` of one argument and `q` of none, constructors `Nil` and `Cons`, a field `head`, a record with fields `a` and `b`,
-- an alias `rows`
abbrev here : Where
here = record {
  symbols = int_symbol ∷ entry (codes "t") Kind 0 [] ∷ entry (codes "c") Function 0 [] ∷ entry (codes "p") Predicate 0 (int_type ∷ []) ∷ entry (codes "q") Predicate 0 []
      ∷ entry (codes "Nil") Constructor 0 [] ∷ entry (codes "Cons") Constructor 0 (int_type ∷ int_type ∷ []) ∷ entry (codes "head") Projection 0 (int_type ∷ [])
      ∷ entry (codes "mk_r") Constructor 0 (int_type ∷ int_type ∷ []) ∷ entry (codes "a") Projection 0 (int_type ∷ []) ∷ entry (codes "b") Projection 0 (int_type ∷ []) ∷ [];
  types = called ((codes "rows", stands.Alias 1 int_type) ∷ (codes "t", stands.Entry 1) ∷ []);
  names = called ((codes "c", 2) ∷ (codes "p", 3) ∷ (codes "q", 4) ∷ (codes "Nil", 5) ∷ (codes "Cons", 6) ∷ (codes "head", 7) ∷ (codes "a", 9) ∷ (codes "b", 10) ∷ []);
  tuples = λ n. None;
  vars = codes "'a" ∷ [];
}

abbrev formula_fault : Expression → Option NamingFault
formula_fault e = fault here true [] true e

abbrev name : ℕ → Word → Expression
name i x = applied_expression i [] x no_expressions

abbrev call : ℕ → Word → Expression → Expression
call i x e = applied_expression i [] x (more_expressions e no_expressions)

abbrev matching : Alternatives → Expression → Expression
matching ps b = match_expression 0 false (name 1 (codes "c")) (more_branches ps b no_branches)

abbrev one : Pattern → Alternatives
one p = more_alternatives 3 p no_alternatives

abbrev cons : ℕ → Pattern → Pattern → Pattern
cons i a b = constructor_pattern i [] (codes "Cons") (more_patterns a (more_patterns b no_patterns))

-- a name that isn't there; a term for a formula; an argument too few; a term for a formula before its arguments' number
unknown_name : formula_fault (name 5 (codes "r")) ≡ Some (Unknown 5)
unknown_name = refl

term_for_formula : formula_fault (name 11 (codes "c")) ≡ Some (WrongKind 11)
term_for_formula = refl

too_few : formula_fault (name 7 (codes "p")) ≡ Some (Arity 7)
too_few = refl

kind_before_arity : formula_fault (call 0 (codes "c") (name 1 (codes "r"))) ≡ Some (WrongKind 0)
kind_before_arity = refl

-- `p (r /\ true)` and `p (not r)`: by the order of the tokens
left_first : formula_fault (call 0 (codes "p") (connected_expression 3 (name 2 (codes "r")) And (true_expression 4))) ≡ Some (Unknown 2)
left_first = refl

operator_first : formula_fault (call 0 (codes "p") (not_expression 2 (name 3 (codes "r")))) ≡ Some (WrongKind 2)
operator_first = refl

-- `c.head`: a field, one that isn't there, a name of another kind, a field for a formula, and `r.s`: a fault of the term before is first
abbrev field : ℕ → Expression → Word → Expression
field i e x = field_expression i e (i + 2) [] x

abbrev field_of_c : Word → Option NamingFault
field_of_c x = fault here true [] false (field 0 (name 0 (codes "c")) x)

good_field : field_of_c (codes "head") ≡ None
good_field = refl

unknown_field : field_of_c (codes "r") ≡ Some (Unknown 2)
unknown_field = refl

no_field : field_of_c (codes "Nil") ≡ Some (WrongKind 2)
no_field = refl

field_for_formula : formula_fault (field 0 (name 0 (codes "c")) (codes "head")) ≡ Some (WrongKind 2)
field_for_formula = refl

term_before_field : fault here true [] false (field 0 (name 0 (codes "r")) (codes "s")) ≡ Some (Unknown 0)
term_before_field = refl

-- `let head = c in c.head`: a variable doesn't hide a field
field_after_variable : fault here true [] false (let_expression 0 (codes "head") (name 3 (codes "c")) (field 5 (name 5 (codes "c")) (codes "head"))) ≡ None
field_after_variable = refl

-- ---- records: each field's name stands at its place, its value two tokens later
abbrev fields : List (Word × ℕ) → List FieldName
fields [] = []
fields (f ∷ fs) = record { at = f.1; scopes = []; text = f.0 } ∷ fields fs

abbrev two_fields : Word → Word → List FieldName
two_fields x y = fields ((x, 1) ∷ (y, 5) ∷ [])

-- `{x = c; y = v}`
abbrev record_of : Word → Word → Word → Option NamingFault
record_of x y v = fault here true [] false (record_expression 0 (two_fields x y) (more_expressions (name 3 (codes "c")) (more_expressions (name 7 v) no_expressions)))

good_record : record_of (codes "a") (codes "b") (codes "c") ≡ None
good_record = refl

other_order : record_of (codes "b") (codes "a") (codes "c") ≡ None
other_order = refl

-- a name that isn't there, one of no field, a field of no record, and a field twice
unknown_in_record : record_of (codes "a") (codes "z") (codes "c") ≡ Some (Unknown 5)
unknown_in_record = refl

no_field_in_record : record_of (codes "a") (codes "c") (codes "c") ≡ Some (WrongKind 5)
no_field_in_record = refl

field_of_no_record : record_of (codes "head") (codes "a") (codes "c") ≡ Some (WrongKind 1)
field_of_no_record = refl

field_of_another : record_of (codes "a") (codes "head") (codes "c") ≡ Some (WrongKind 5)
field_of_another = refl

field_twice : record_of (codes "a") (codes "a") (codes "c") ≡ Some (Duplicate 5)
field_twice = refl

-- the names are before the values
names_before_values : record_of (codes "a") (codes "a") (codes "r") ≡ Some (Duplicate 5)
names_before_values = refl

value_of_field : record_of (codes "a") (codes "b") (codes "r") ≡ Some (Unknown 7)
value_of_field = refl

-- `{a = r}`: a field that isn't named is before the value; a record where a formula is due is before its names
missing_field : fault here true [] false (record_expression 0 (fields ((codes "a", 1) ∷ [])) (more_expressions (name 3 (codes "r")) no_expressions)) ≡ Some (Arity 0)
missing_field = refl

record_for_formula : formula_fault (record_expression 0 (fields ((codes "z", 1) ∷ [])) (more_expressions (name 3 (codes "r")) no_expressions)) ≡ Some (WrongKind 0)
record_for_formula = refl

-- `let q = c in q`: the variable hides the predicate
hidden : formula_fault (let_expression 0 (codes "q") (name 3 (codes "c")) (name 5 (codes "q"))) ≡ Some (WrongKind 5)
hidden = refl

-- `forall x: rows. q`, and a type variable where the list is open, and where it is closed
alias_arity : formula_fault (quantified_expression 0 true (record { names = codes "x" ∷ []; of_type = Some (composed_type 3 [] (codes "rows") no_types) } ∷ []) no_expressions (name 5 (codes "q"))) ≡ Some (Arity 3)
alias_arity = refl

abbrev with_variable : Bool → Word → Option NamingFault
with_variable open_ v = fault here open_ [] true (quantified_expression 0 true (record { names = codes "x" ∷ []; of_type = Some (variable_type 3 v) } ∷ []) no_expressions (name 5 (codes "q")))

new_variable : with_variable true (codes "'b") ≡ None
new_variable = refl

other_variable : with_variable false (codes "'b") ≡ Some (Unknown 3)
other_variable = refl

own_variable : with_variable false (codes "'a") ≡ None
own_variable = refl

-- `forall x [x <> c]. q`: such a trigger is a term
not_equal : formula_fault (quantified_expression 0 true (record { names = codes "x" ∷ []; of_type = None } ∷ []) (more_expressions (equality_expression 4 false (name 3 (codes "x")) (name 5 (codes "c"))) no_expressions) (name 8 (codes "q"))) ≡ Some (WrongKind 4)
not_equal = refl

-- `match c with Cons x y -> p y end`; a constructor that is none, with too many parts, and a variable twice
good_match : formula_fault (matching (one (cons 3 (variable_pattern 4 (codes "x")) (variable_pattern 5 (codes "y")))) (call 7 (codes "p") (name 8 (codes "y")))) ≡ None
good_match = refl

no_constructor : formula_fault (matching (one (constructor_pattern 3 [] (codes "c") no_patterns)) (name 5 (codes "q"))) ≡ Some (WrongKind 3)
no_constructor = refl

too_many_parts : formula_fault (matching (one (constructor_pattern 3 [] (codes "Nil") (more_patterns (wildcard_pattern 4) no_patterns))) (name 6 (codes "q"))) ≡ Some (Arity 3)
too_many_parts = refl

twice : formula_fault (matching (one (cons 3 (variable_pattern 4 (codes "x")) (variable_pattern 5 (codes "x")))) (name 7 (codes "r"))) ≡ Some (Duplicate 5)
twice = refl

-- `let Cons x x = r in p r`, and `let Cons x y = r in p r`: the pattern is before the value, and the value before the body
abbrev let_of : Pattern → Option NamingFault
let_of p = formula_fault (match_expression 0 true (name 6 (codes "r")) (more_branches (one p) (call 8 (codes "p") (name 9 (codes "r"))) no_branches))

pattern_first : let_of (cons 1 (variable_pattern 2 (codes "x")) (variable_pattern 3 (codes "x"))) ≡ Some (Duplicate 3)
pattern_first = refl

value_second : let_of (cons 1 (variable_pattern 2 (codes "x")) (variable_pattern 3 (codes "y"))) ≡ Some (Unknown 6)
value_second = refl

-- `Cons x _ as x`
twice_as : formula_fault (matching (one (alias_pattern (cons 3 (variable_pattern 4 (codes "x")) (wildcard_pattern 5)) 7 (codes "x"))) (name 9 (codes "r"))) ≡ Some (Duplicate 7)
twice_as = refl

-- `x | Nope y`: the names of an alternative are told before its parts
other_names : formula_fault (matching (more_alternatives 3 (variable_pattern 3 (codes "x")) (more_alternatives 5 (constructor_pattern 5 [] (codes "Nope") (more_patterns (variable_pattern 6 (codes "y")) no_patterns)) no_alternatives)) (name 8 (codes "q"))) ≡ Some (WrongKind 5)
other_names = refl

-- `Cons x y | Cons y x`
same_names : formula_fault (matching (more_alternatives 3 (cons 3 (variable_pattern 4 (codes "x")) (variable_pattern 5 (codes "y"))) (more_alternatives 7 (cons 7 (variable_pattern 8 (codes "y")) (variable_pattern 9 (codes "x"))) no_alternatives)) (name 11 (codes "q"))) ≡ None
same_names = refl

-- `{b = x}` leaves a field unnamed; `{a = x; b = x}`
one_field : formula_fault (matching (one (record_pattern 3 (fields ((codes "b", 4) ∷ [])) (more_patterns (variable_pattern 6 (codes "x")) no_patterns))) (call 8 (codes "p") (name 9 (codes "x")))) ≡ None
one_field = refl

variable_twice : formula_fault (matching (one (record_pattern 3 (two_fields (codes "a") (codes "b")) (more_patterns (variable_pattern 3 (codes "x")) (more_patterns (variable_pattern 7 (codes "x")) no_patterns)))) (name 9 (codes "q"))) ≡ Some (Duplicate 7)
variable_twice = refl

pattern_field_twice : formula_fault (matching (one (record_pattern 3 (two_fields (codes "a") (codes "a")) (more_patterns (variable_pattern 3 (codes "x")) (more_patterns (variable_pattern 7 (codes "x")) no_patterns)))) (name 9 (codes "q"))) ≡ Some (Duplicate 5)
pattern_field_twice = refl
