-- The definitions on small groups of inductive predicates: by computation alone.
use Rattle.std.proofs.Common.{◌≡◌, ℕ, pos, List, [], ◌∷◌, Some, None, refl, codes}
use Rattle.tasks.specs.trees.Tree.{Tree, Leaf, One, HTyApp, HTyVar, HEnd}
use Rattle.tasks.specs.declared.signature.SymbolKind.TheVariants.{Predicate}
use Rattle.tasks.specs.Task.{int_symbol}
use Rattle.surface.specs.Lexeme.{Word}
use Rattle.name_resolution.specs.scopes.Names.{empty_names}
use Rattle.name_resolution.specs.Abstract.{TypeExpression, Expression, variable_type, composed_type, no_types, applied_expression, integer_expression, cast_expression, no_expressions, more_expressions}
use Rattle.name_resolution.specs.declared.NamingFault.TheVariants.{Unknown, Duplicate, WrongKind}
use Rattle.elab_groups.specs.parts.Declarations.{InductiveClause, InductivePredicate, token_name}
use Rattle.elab_groups.specs.parts.Outcomes.{Setting}
use Rattle.elab_groups.specs.members.Members.{member_entries}
use Rattle.elab_declarations.specs.inductive_declarations.Inductives.{as_members, before_inductives, clause_signature, induced, inductive_group_fault, inductive_notes}

-- a theory `T` that has `int` alone
abbrev here : Setting
here = record { theory = codes "T"; within = codes "S."; decl = 1; symbols = int_symbol ∷ []; scope = empty_names }

abbrev int_form : TypeExpression
int_form = composed_type 0 [] (codes "int") no_types

abbrev int_type : Tree
int_type = One (HTyApp 0) (Leaf HEnd)

abbrev one : Expression
one = integer_expression 13 (pos 1)

-- a predicate of a name that is at a token, of one parameter `x`, with its clauses
abbrev predicate : ℕ → Word → TypeExpression → List InductiveClause → InductivePredicate
predicate i p t cs = record { called = token_name i p; params = record { names = token_name 5 (codes "x") ∷ []; of_type = t } ∷ []; clauses = cs }

-- a clause of a name that is at a token says a predicate of an expression
abbrev says : ℕ → Word → Word → Expression → InductiveClause
says i c p e = record { called = token_name i c; prop = applied_expression 12 [] p (more_expressions e no_expressions) }

-- `inductive p (x: int) = c: p 1`
abbrev holds : InductivePredicate
holds = predicate 3 (codes "p") int_form (says 10 (codes "c") (codes "p") one ∷ [])

holds_entries : member_entries here (before_inductives here (holds ∷ [])) (as_members (holds ∷ [])) ≡ record { theory = codes "T"; name = codes "S.p"; kind = Predicate; vars = 0; args = int_type ∷ []; result = None } ∷ []
holds_entries = refl

holds_equations : (inductive_notes here (holds ∷ [])).equations ≡ (int_type, int_type) ∷ []
holds_equations = refl

holds_right : inductive_group_fault here (holds ∷ []) ≡ None
holds_right = refl

-- each predicate has its own clauses, in order
abbrev two : InductivePredicate
two = predicate 20 (codes "q") int_form (says 25 (codes "d") (codes "p") one ∷ says 30 (codes "e") (codes "q") one ∷ [])

split : induced 1 (holds ∷ two ∷ []) (Leaf (HTyVar 0) ∷ Leaf (HTyVar 1) ∷ Leaf (HTyVar 2) ∷ [])
    ≡ record { symbol = 1; clauses = Leaf (HTyVar 0) ∷ [] } ∷ record { symbol = 2; clauses = Leaf (HTyVar 1) ∷ Leaf (HTyVar 2) ∷ [] } ∷ []
split = refl

both_right : inductive_group_fault here (holds ∷ two ∷ []) ≡ None
both_right = refl

both_equations : (inductive_notes here (holds ∷ two ∷ [])).equations ≡ (int_type, int_type) ∷ (int_type, int_type) ∷ (int_type, int_type) ∷ []
both_equations = refl

-- the type variables of its predicate come first in a clause: `inductive p (x: 'a) = c: p (y: 'b)` has both
own_variables : (clause_signature (predicate 3 (codes "p") (variable_type 6 (codes "'a")) []) (says 10 (codes "c") (codes "p") (cast_expression 13 (applied_expression 14 [] (codes "y") no_expressions) (variable_type 15 (codes "'b"))))).vars ≡ codes "'a" ∷ codes "'b" ∷ []
own_variables = refl

-- ---- faults
-- a predicate twice, and a clause twice, in one predicate or in two
twice : inductive_group_fault here (holds ∷ predicate 20 (codes "p") int_form [] ∷ []) ≡ Some (Duplicate 20)
twice = refl

clause_twice : inductive_group_fault here (predicate 3 (codes "p") int_form (says 10 (codes "c") (codes "p") one ∷ says 15 (codes "c") (codes "p") one ∷ []) ∷ []) ≡ Some (Duplicate 15)
clause_twice = refl

clause_of_another : inductive_group_fault here (holds ∷ predicate 20 (codes "q") int_form (says 25 (codes "c") (codes "q") one ∷ []) ∷ []) ≡ Some (Duplicate 25)
clause_of_another = refl

-- a clause may have its predicate's name
named_alike : inductive_group_fault here (predicate 3 (codes "p") int_form (says 10 (codes "p") (codes "p") one ∷ []) ∷ []) ≡ None
named_alike = refl

-- a parameter is no variable of the clauses
lacking : inductive_group_fault here (predicate 3 (codes "p") int_form (says 10 (codes "c") (codes "p") (applied_expression 13 [] (codes "x") no_expressions) ∷ []) ∷ []) ≡ Some (Unknown 13)
lacking = refl

-- names that are made come before those that are used
made_first : inductive_group_fault here (predicate 3 (codes "p") int_form (says 10 (codes "c") (codes "nope") one ∷ []) ∷ predicate 20 (codes "p") int_form [] ∷ []) ≡ Some (Duplicate 20)
made_first = refl

-- a clause is a formula
a_term : inductive_group_fault here (predicate 3 (codes "p") int_form (record { called = token_name 10 (codes "c"); prop = one } ∷ []) ∷ []) ≡ Some (WrongKind 13)
a_term = refl
