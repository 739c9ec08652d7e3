-- The definitions on small groups: by computation alone.
use Rattle.std.proofs.Common.{◌≡◌, ℕ, pos, [], ◌∷◌, Some, refl, codes}
use Rattle.tasks.specs.trees.Tree.{Tree, Leaf, One, Two, Three, HTyVar, HTyApp, HEnd, HBound, HFun, HEq, HForall}
use Rattle.tasks.specs.declared.signature.SymbolKind.TheVariants.{Function}
use Rattle.tasks.specs.Task.{int_symbol}
use Rattle.tasks.specs.Equations.{cells}
use Rattle.name_resolution.specs.surface.Lexeme.{Word}
use Rattle.name_resolution.specs.scopes.Names.{empty_names}
use Rattle.name_resolution.specs.Abstract.{TypeExpression, Expression, variable_type, composed_type, no_types, applied_expression, integer_expression, no_expressions, more_expressions}
use Rattle.name_resolution.specs.declared.NamingFault.TheVariants.{Unknown, Duplicate, Arity}
use Rattle.elab_groups.specs.parts.Declarations.{GroupMember, token_name}
use Rattle.elab_groups.specs.parts.Outcomes.{Setting}
use Rattle.elab_groups.specs.members.Members.{member_entries}
use Rattle.elab_groups.specs.Groups.{before_group, group_signatures, group_fault, group_notes, definitions}

-- a theory `T` that has `int` alone
abbrev here : Setting
here = record { theory = codes "T"; within = codes "S."; decl = 1; symbols = int_symbol ∷ []; scope = empty_names }

abbrev int_form : TypeExpression
int_form = composed_type 0 [] (codes "int") no_types

abbrev int_type : Tree
int_type = One (HTyApp 0) (Leaf HEnd)

-- a function of a name that is at a token, of one parameter `x` and one type
abbrev function : ℕ → Word → TypeExpression → Expression → GroupMember
function i f t e = record { called = token_name i f; params = record { names = token_name 9 (codes "x") ∷ []; of_type = t } ∷ []; result = Some t; body = Some e }

-- `function f (x: int): int = x`
abbrev same : GroupMember
same = function 5 (codes "f") int_form (applied_expression 13 [] (codes "x") no_expressions)

same_entries : member_entries here (before_group here (same ∷ [])) (same ∷ []) ≡ record { theory = codes "T"; name = codes "S.f"; kind = Function; vars = 0; args = int_type ∷ []; result = Some int_type } ∷ []
same_entries = refl

same_equations : (group_notes here (same ∷ [])).equations ≡ (int_type, int_type) ∷ []
same_equations = refl

same_defined : definitions 1 (group_signatures here (same ∷ [])) (One (HBound 0) int_type ∷ [])
    ≡ record { symbol = 1; equation = Two HForall int_type (Two HEq (Three (HFun 1) (Leaf HEnd) (cells (One (HBound 0) int_type ∷ [])) int_type) (One (HBound 0) int_type)) } ∷ []
same_defined = refl

-- `function f (x: 'a): 'a = g x with g (x: 'b): 'b = f x`: the uses take unknowns after the type variable of each
abbrev calls : ℕ → Word → Word → Word → GroupMember
calls i f v g = function i f (variable_type 0 v) (applied_expression 13 [] g (more_expressions (applied_expression 14 [] (codes "x") no_expressions) no_expressions))

mutual_equations : (group_notes here (calls 5 (codes "f") (codes "'a") (codes "g") ∷ calls 20 (codes "g") (codes "'b") (codes "f") ∷ [])).equations
    ≡ (Leaf (HTyVar 1), Leaf (HTyVar 0)) ∷ (Leaf (HTyVar 0), Leaf (HTyVar 1)) ∷ (Leaf (HTyVar 2), Leaf (HTyVar 0)) ∷ (Leaf (HTyVar 0), Leaf (HTyVar 2)) ∷ []
mutual_equations = refl

-- a name of an earlier member
twice : group_fault here (same ∷ function 20 (codes "f") int_form (integer_expression 30 (pos 0)) ∷ []) ≡ Some (Duplicate 20)
twice = refl

-- names that are made come before those that are used
made_first : group_fault here (function 5 (codes "f") int_form (applied_expression 13 [] (codes "nope") no_expressions) ∷ function 20 (codes "f") int_form (integer_expression 30 (pos 0)) ∷ []) ≡ Some (Duplicate 20)
made_first = refl

-- a member sees itself
itself : group_fault here (function 5 (codes "f") int_form (applied_expression 13 [] (codes "f") no_expressions) ∷ []) ≡ Some (Arity 13)
itself = refl

-- a name that isn't there
lacking : group_fault here (function 5 (codes "f") int_form (applied_expression 13 [] (codes "y") no_expressions) ∷ []) ≡ Some (Unknown 13)
lacking = refl
