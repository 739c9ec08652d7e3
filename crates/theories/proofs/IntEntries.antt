-- The entries that the declarations of int.Int give.
use Rattle.std.proofs.Common.{ℕ, true, List, [], ◌∷◌, ◌++◌, map, codes, Some, None, refl}
use Rattle.tasks.specs.trees.Tree.{Tree}
use Rattle.tasks.specs.trees.Sorts.{int_type}
use Rattle.tasks.specs.Task.{SymbolTree, int_symbol}
use Rattle.tasks.specs.Valid.{int_function, int_predicate}
use Rattle.elaboration_laws.specs.scopes.Names.{with_entry, empty_names}
use Rattle.elaboration_laws.specs.name_resolution.Where.{NamesTree}
use Rattle.elaboration_laws.specs.scopes.declared.Table.TheVariants.{Symbols}
use Rattle.surface.specs.tokens_why.declared.terminal.Terminal.TheVariants as t
use Rattle.surface.specs.Forms.{Called, called, infix_op, prefix_op, star}
use Rattle.surface.specs.Declarations.{ParamGroup, SyntaxDeclarations}
use Rattle.elaboration_laws.specs.name_resolution.Abstract.{type_expression}
use Rattle.elaboration_laws.specs.elab_groups.parts.Declarations.{GroupMember, symbol, parameter_of}
use Rattle.parser.proofs.std_theories.IntFile.{int_form, int_param, int_function as function_of, int_predicate as predicate_of, int_declarations}
use Rattle.theory_states.specs.States.{StateTree}
use Rattle.theories.specs.Typing.{AreDeclarationsTyped}
use Rattle.theories.proofs.IntSteps.{IsIntState, int_typed}

abbrev member : Called → List ParamGroup → ℕ → GroupMember
member c ps r = record { called = symbol c; params = map parameter_of ps; result = Some (type_expression (int_form r)); body = None }

abbrev test : Called → List ParamGroup → GroupMember
test c ps = record { called = symbol c; params = map parameter_of ps; result = None; body = None }

abbrev two : List Tree
two = int_type ∷ int_type ∷ []

-- ---- the names and the entries, one after another
abbrev pub scope_0 : NamesTree
scope_0 = empty_names

abbrev pub symbols_0 : List SymbolTree
symbols_0 = int_symbol ∷ []

abbrev scope_1 : NamesTree
scope_1 = with_entry Symbols (codes "-_") 1 true scope_0

abbrev scope_2 : NamesTree
scope_2 = with_entry Symbols (codes "+") 2 true scope_1

abbrev scope_3 : NamesTree
scope_3 = with_entry Symbols (codes "-") 3 true scope_2

abbrev scope_4 : NamesTree
scope_4 = with_entry Symbols (codes "*") 4 true scope_3

abbrev scope_5 : NamesTree
scope_5 = with_entry Symbols (codes "<") 5 true scope_4

abbrev scope_6 : NamesTree
scope_6 = with_entry Symbols (codes "<=") 6 true scope_5

abbrev scope_7 : NamesTree
scope_7 = with_entry Symbols (codes ">") 7 true scope_6

abbrev pub scope_8 : NamesTree
scope_8 = with_entry Symbols (codes ">=") 8 true scope_7

abbrev symbols_1 : List SymbolTree
symbols_1 = symbols_0 ++ int_function (codes "-_") (int_type ∷ []) ∷ []

abbrev symbols_2 : List SymbolTree
symbols_2 = symbols_1 ++ int_function (codes "+") two ∷ []

abbrev symbols_3 : List SymbolTree
symbols_3 = symbols_2 ++ int_function (codes "-") two ∷ []

abbrev symbols_4 : List SymbolTree
symbols_4 = symbols_3 ++ int_function (codes "*") two ∷ []

abbrev symbols_5 : List SymbolTree
symbols_5 = symbols_4 ++ int_predicate (codes "<") ∷ []

abbrev symbols_6 : List SymbolTree
symbols_6 = symbols_5 ++ int_predicate (codes "<=") ∷ []

abbrev symbols_7 : List SymbolTree
symbols_7 = symbols_6 ++ int_predicate (codes ">") ∷ []

abbrev pub symbols_8 : List SymbolTree
symbols_8 = symbols_7 ++ int_predicate (codes ">=") ∷ []

-- ---- the first eight declarations
pub int_state : (ds : SyntaxDeclarations) (c c' : StateTree) → AreDeclarationsTyped (int_declarations ds) c c' → IsIntState symbols_0 scope_0 c → (b : StateTree) × IsIntState symbols_8 scope_8 b × AreDeclarationsTyped ds b c'
int_state ds c c' h at =
    let at_1 : IsIntState symbols_1 scope_1 h.between = int_typed (function_of 2 (called 3 [] (prefix_op t.Minus [])) (int_param 7 ∷ []) 9) (member (called 3 [] (prefix_op t.Minus [])) (int_param 7 ∷ []) 9) symbols_0 (int_function (codes "-_") (int_type ∷ []) ∷ []) scope_0 scope_1 c h.between refl refl (λ n. refl) (λ n. refl) at h.first in
    let at_2 : IsIntState symbols_2 scope_2 h.second.between = int_typed (function_of 10 (called 11 [] (infix_op t.Operator2 (codes "+"))) (int_param 14 ∷ int_param 15 ∷ []) 17) (member (called 11 [] (infix_op t.Operator2 (codes "+"))) (int_param 14 ∷ int_param 15 ∷ []) 17) symbols_1 (int_function (codes "+") two ∷ []) scope_1 scope_2 h.between h.second.between refl refl (λ n. refl) (λ n. refl) at_1 h.second.first in
    let at_3 : IsIntState symbols_3 scope_3 h.second.second.between = int_typed (function_of 18 (called 19 [] (infix_op t.Minus [])) (int_param 22 ∷ int_param 23 ∷ []) 25) (member (called 19 [] (infix_op t.Minus [])) (int_param 22 ∷ int_param 23 ∷ []) 25) symbols_2 (int_function (codes "-") two ∷ []) scope_2 scope_3 h.second.between h.second.second.between refl refl (λ n. refl) (λ n. refl) at_2 h.second.second.first in
    let at_4 : IsIntState symbols_4 scope_4 h.second.second.second.between = int_typed (function_of 26 (called 27 [] star) (int_param 28 ∷ int_param 29 ∷ []) 31) (member (called 27 [] star) (int_param 28 ∷ int_param 29 ∷ []) 31) symbols_3 (int_function (codes "*") two ∷ []) scope_3 scope_4 h.second.second.between h.second.second.second.between refl refl (λ n. refl) (λ n. refl) at_3 h.second.second.second.first in
    let at_5 : IsIntState symbols_5 scope_5 h.second.second.second.second.between = int_typed (predicate_of 32 (called 33 [] (infix_op t.Operator1 (codes "<"))) (int_param 36 ∷ int_param 37 ∷ [])) (test (called 33 [] (infix_op t.Operator1 (codes "<"))) (int_param 36 ∷ int_param 37 ∷ [])) symbols_4 (int_predicate (codes "<") ∷ []) scope_4 scope_5 h.second.second.second.between h.second.second.second.second.between refl refl (λ n. refl) (λ n. refl) at_4 h.second.second.second.second.first in
    let at_6 : IsIntState symbols_6 scope_6 h.second.second.second.second.second.between = int_typed (predicate_of 38 (called 39 [] (infix_op t.Operator1 (codes "<="))) (int_param 42 ∷ int_param 43 ∷ [])) (test (called 39 [] (infix_op t.Operator1 (codes "<="))) (int_param 42 ∷ int_param 43 ∷ [])) symbols_5 (int_predicate (codes "<=") ∷ []) scope_5 scope_6 h.second.second.second.second.between h.second.second.second.second.second.between refl refl (λ n. refl) (λ n. refl) at_5 h.second.second.second.second.second.first in
    let at_7 : IsIntState symbols_7 scope_7 h.second.second.second.second.second.second.between = int_typed (predicate_of 44 (called 45 [] (infix_op t.Operator1 (codes ">"))) (int_param 48 ∷ int_param 49 ∷ [])) (test (called 45 [] (infix_op t.Operator1 (codes ">"))) (int_param 48 ∷ int_param 49 ∷ [])) symbols_6 (int_predicate (codes ">") ∷ []) scope_6 scope_7 h.second.second.second.second.second.between h.second.second.second.second.second.second.between refl refl (λ n. refl) (λ n. refl) at_6 h.second.second.second.second.second.second.first in
    let at_8 : IsIntState symbols_8 scope_8 h.second.second.second.second.second.second.second.between = int_typed (predicate_of 50 (called 51 [] (infix_op t.Operator1 (codes ">="))) (int_param 54 ∷ int_param 55 ∷ [])) (test (called 51 [] (infix_op t.Operator1 (codes ">="))) (int_param 54 ∷ int_param 55 ∷ [])) symbols_7 (int_predicate (codes ">=") ∷ []) scope_7 scope_8 h.second.second.second.second.second.second.between h.second.second.second.second.second.second.second.between refl refl (λ n. refl) (λ n. refl) at_7 h.second.second.second.second.second.second.second.first in
    (h.second.second.second.second.second.second.second.between, at_8, h.second.second.second.second.second.second.second.second)
