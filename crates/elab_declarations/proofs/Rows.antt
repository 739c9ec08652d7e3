-- The definitions on small declarations: by computation alone.
use Rattle.std.proofs.Common.{◌≡◌, ℕ, pos, true, [], ◌∷◌, map, Some, None, refl, codes}
use Rattle.tasks.specs.trees.Tree.{Leaf, One, HTyVar, HTyApp}
use Rattle.tasks.specs.declared.signature.SymbolKind.TheVariants.{Kind, Constructor, Projection}
use Rattle.tasks.specs.Task.{SymbolTree, int_symbol}
use Rattle.tasks.specs.Equations.{cells}
use Rattle.surface.specs.Lexeme.{Word}
use Rattle.surface.specs.declared.declarations.PropKind.TheVariants.{Axiom, Goal}
use Rattle.name_resolution.specs.scopes.declared.Table.TheVariants.{Types}
use Rattle.name_resolution.specs.scopes.Names.{empty_names, with_entry}
use Rattle.name_resolution.specs.Abstract.{variable_type, composed_type, no_types, more_types, applied_expression, equality_expression, cast_expression, integer_expression, quantified_expression, no_expressions}
use Rattle.name_resolution.specs.declared.NamingFault.TheVariants.{Unknown, Duplicate, Arity}
use Rattle.elab_groups.specs.parts.Entries.{tuple_entries, wanting_tuples}
use Rattle.elab_groups.specs.parts.Declarations.{TokenName, token_name, abstract_type, alias, proposition_declaration, made_names, made_fault}
use Rattle.elab_groups.specs.parts.Outcomes.{Setting, declared_in}
use Rattle.elab_declarations.specs.Outcomes.{type_outcome, proposition_seen, rigid_names, entry_numbers, names_fault}

abbrev named : ℕ → Word → TokenName
named i x = token_name i x

-- a theory `T` that has `int` and a type `t`, which it declared
abbrev here : Setting
here = record {
  theory = codes "T";
  within = codes "S.";
  decl = 3;
  symbols = int_symbol ∷ record { theory = codes "T"; name = codes "t"; kind = Kind; vars = 0; args = []; result = None } ∷ [];
  scope = with_entry Types (codes "t") 1 true empty_names;
}

-- `type u 'a`: the entry after the others, whose name has those of the scopes before it
type_gives : (type_outcome here (named 5 (codes "u")) 1).symbols ≡ record { theory = codes "T"; name = codes "S.u"; kind = Kind; vars = 1; args = []; result = None } ∷ []
type_gives = refl

-- `type t`: the scope declared it
declared_twice : names_fault here (abstract_type (named 5 (codes "t")) []) ≡ Some (Duplicate 5)
declared_twice = refl

-- `goal t: ..` may have the name, since it is of another table
other_table : made_fault (declared_in here.scope) [] (made_names (proposition_declaration Goal (named 5 (codes "t")) (integer_expression 7 (pos 0)))) ≡ None
other_table = refl

-- `type u 'a 'a`: a parameter twice
parameter_twice : names_fault here (abstract_type (named 5 (codes "u")) (named 6 (codes "'a") ∷ named 7 (codes "'a") ∷ [])) ≡ Some (Duplicate 7)
parameter_twice = refl

-- `type u 'a = t 'b`: an arity is before the arguments' faults
arity_first : names_fault here (alias (named 5 (codes "u")) (named 6 (codes "'a") ∷ []) (composed_type 8 [] (codes "t") (more_types (variable_type 9 (codes "'b")) no_types))) ≡ Some (Arity 8)
arity_first = refl

-- `type u 'a = 'b`: a type variable that the left side lacks
unknown_variable : names_fault here (alias (named 5 (codes "u")) (named 6 (codes "'a") ∷ []) (variable_type 8 (codes "'b"))) ≡ Some (Unknown 8)
unknown_variable = refl

-- `type u = u`: an alias names earlier types alone
alias_of_itself : names_fault here (alias (named 5 (codes "u")) [] (composed_type 7 [] (codes "u") no_types)) ≡ Some (Unknown 7)
alias_of_itself = refl

-- a pair has its constructor and two projections, after its type
pair_entries : map (λ (e : SymbolTree). e.kind) (tuple_entries 4 2) ≡ Kind ∷ Constructor ∷ Projection ∷ Projection ∷ []
pair_entries = refl

pair_results : map (λ (e : SymbolTree). e.result) (tuple_entries 4 2) ≡ None ∷ Some (One (HTyApp 4) (cells (Leaf (HTyVar 0) ∷ Leaf (HTyVar 1) ∷ []))) ∷ Some (Leaf (HTyVar 0)) ∷ Some (Leaf (HTyVar 1)) ∷ []
pair_results = refl

-- a width that is there is not entered again
pair_again : wanting_tuples (int_symbol ∷ tuple_entries 1 2) (2 ∷ []) ≡ []
pair_again = refl

-- `forall x: 'b. x = (x: 'a)`: the type variables by first appearance
by_appearance : (proposition_seen (quantified_expression 0 true (record { names = codes "x" ∷ []; of_type = Some (variable_type 3 (codes "'b")) } ∷ []) no_expressions (equality_expression 6 true (applied_expression 5 [] (codes "x") no_expressions) (cast_expression 7 (applied_expression 8 [] (codes "x") no_expressions) (variable_type 9 (codes "'a")))))).vars
    ≡ codes "'b" ∷ codes "'a" ∷ []
by_appearance = refl

-- those of a goal get entries, and those of an axiom none
goal_numbers : entry_numbers 7 (rigid_names Goal (codes "'b" ∷ codes "'a" ∷ [])) ≡ 7 ∷ 8 ∷ []
goal_numbers = refl

axiom_numbers : entry_numbers 7 (rigid_names Axiom (codes "'b" ∷ codes "'a" ∷ [])) ≡ []
axiom_numbers = refl
