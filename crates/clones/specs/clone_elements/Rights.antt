-- What the right sides of a clone's elements stand for, and their first fault of names, in the
-- order of the elements (Why3 manual, "theory cloning").
use Rattle.std.specs.Prelude.{ℕ, false, List, [], ◌∷◌, ◌++◌, map, length, Option, Some, None, unwrap_or}
use Rattle.tasks.specs.trees.Tree.{Tree}
use Rattle.tasks.specs.trees.Facts.{TyVarsBelow}
use Rattle.tasks.specs.Task.{SymbolTree}
use Rattle.name_resolution.specs.Where.{NamesTree}
use Rattle.name_resolution.specs.scopes.Names.{NamesOf}
use Rattle.surface.specs.Declarations.{Element, type_element, symbol_element, prop_element, all_axioms}
use Rattle.surface.specs.Forms.{Called}
use Rattle.name_resolution.specs.Abstract.{TypeExpression, texts_of_names, type_expression, text_of_own}
use Rattle.name_resolution.specs.declared.NamingFault.{NamingFault}
use Rattle.name_resolution.specs.declared.NamingFault.TheVariants.{Unknown}
use Rattle.name_resolution.specs.Faults.{first_of, form_fault}
use Rattle.name_resolution.specs.Naming.{symbol_named}
use Rattle.name_resolution.specs.variables.Seen.{form_seen}
use Rattle.open_types.specs.Pieces.{type_at}
use Rattle.elab_groups.specs.parts.Elaborated.{unseen}
use Rattle.elab_groups.specs.parts.Declarations.{word, list_fault}
use Rattle.elab_groups.specs.parts.Entries.{wanting_tuples}
use Rattle.elab_groups.specs.parts.Outcomes.{over}

-- a type, a symbol, or nothing
pub data RightTree : Type 0 where
  type_right : Tree → RightTree
  symbol_right : ℕ → RightTree
  no_right : RightTree

-- ---- type variables that occur twice in one element
abbrev pub variables_fault : Element → Option NamingFault
variables_fault (type_element i c vs f) = list_fault [] (map word vs)
variables_fault (symbol_element i s c d) = None
variables_fault (prop_element i k c) = None
variables_fault (all_axioms i) = None

abbrev pub all_variables_fault : List Element → Option NamingFault
all_variables_fault [] = None
all_variables_fault (e ∷ es) = first_of (variables_fault e) (all_variables_fault es)

-- ---- names
-- a name that stands for no symbol
abbrev pub symbol_missing : ℕ → Option ℕ → Option NamingFault
symbol_missing token None = Some (Unknown token)
symbol_missing token (Some k) = None

abbrev pub called_symbol : {A : Type 0} → NamesOf A → Called → Option ℕ
called_symbol names c = symbol_named names c.scopes (text_of_own c.own)

abbrev pub right_fault : List SymbolTree → NamesTree → Element → Option NamingFault
right_fault symbols names (type_element i c vs f) =
    form_fault (over symbols names (texts_of_names vs)) false (type_expression f)
right_fault symbols names (symbol_element i w c d) = symbol_missing d.at (called_symbol names d)
right_fault symbols names (prop_element i k c) = None
right_fault symbols names (all_axioms i) = None

-- ---- entries of the tuples of a type
abbrev pub type_tuples : List SymbolTree → TypeExpression → List SymbolTree
type_tuples symbols f = wanting_tuples symbols (form_seen unseen f).widths

abbrev pub right_tuples : List SymbolTree → Element → List SymbolTree
right_tuples symbols (type_element i c vs f) = type_tuples symbols (type_expression f)
right_tuples symbols (symbol_element i w c d) = []
right_tuples symbols (prop_element i k c) = []
right_tuples symbols (all_axioms i) = []

-- ---- what they stand for
abbrev pub right_made : List SymbolTree → NamesTree → Element → RightTree
right_made symbols names (type_element i c vs f) =
    type_right (type_at (over (symbols ++ type_tuples symbols (type_expression f)) names
    (texts_of_names vs)) (type_expression f))
right_made symbols names (symbol_element i w c d) =
    symbol_right (unwrap_or (called_symbol names d) 0)
right_made symbols names (prop_element i k c) = no_right
right_made symbols names (all_axioms i) = no_right

-- ---- of all elements, each over the signature with the tuples of those before it
abbrev pub rights_tuples : List SymbolTree → List Element → List SymbolTree
rights_tuples symbols [] = []
rights_tuples symbols (e ∷ es) =
    right_tuples symbols e ++ rights_tuples (symbols ++ right_tuples symbols e) es

abbrev pub rights_fault : List SymbolTree → NamesTree → List Element → Option NamingFault
rights_fault symbols names [] = None
rights_fault symbols names (e ∷ es) =
    first_of (right_fault symbols names e)
    (rights_fault (symbols ++ right_tuples symbols e) names es)

-- the type on the right of an element has its type variables alone
abbrev pub IsWithin : Element → RightTree → Type 0
IsWithin (type_element i c vs f) (type_right ty) = TyVarsBelow (length vs) ty
IsWithin e r = Unit {0}
