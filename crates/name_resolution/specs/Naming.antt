-- What names, operators and type variables in code stand for, and what the walk of names answers.
use Rattle.std.specs.Prelude.{◌≡◌, ℕ, codes, cond, List, [], ◌∷◌, ◌++◌, reverse, Option, Some, None, Result, Ok, Err}
use Rattle.std.specs.Option.{option_map}
use Rattle.std.specs.Str.{bytes_eq}
use Rattle.tasks.specs.trees.Tree.{Tree}
use Rattle.tasks.specs.trees.Node.{tree_at}
use Rattle.tasks.specs.Meaning.{symbols_at}
pub use Rattle.tasks.specs.Entries.{builtin, is_tuple, tuple_from, tuple_in}
use Rattle.surface.specs.Lexeme.{Word}
use Rattle.surface.specs.Surface.{own_of, op_of}
use Rattle.scopes.specs.Names.{NamesOf, ScopeNames, TypeName, find_number, find_name, referent_with, names_with}
use Rattle.scopes.specs.declared.Table.TheVariants.{Types, Symbols}
use Rattle.scopes.specs.declared.Referent.{Referent}
use Rattle.scopes.specs.declared.Referent.TheVariants as stands
use Rattle.name_resolution.specs.Abstract.{FieldName, pattern_fields_of, value_fields_of, binders_of, connective_operator, equality_operator, symbol_operator, text_of_own, prefix_name, spelled}
use Rattle.name_resolution.specs.Abstract as abstract
use Rattle.name_resolution.specs.Faults.{bound_names, TriggerHeadTree, trigger_named, trigger_equality, trigger_other}
use Rattle.name_resolution.specs.Where.{Where, MeaningTree, NamesTree}
use Rattle.name_resolution.specs.declared.NamingFault.{NamingFault}
use Rattle.name_resolution.specs.declared.NamingFault.TheVariants.{Memory}
use Rattle.name_resolution.specs.declared.bound.Names.{Names as Bound, Outside, Inside', Under', Among'}
use Rattle.name_resolution.specs.declared.operators.Operation.{Operation}
use Rattle.name_resolution.specs.declared.operators.Operation.TheVariants.{Connective, Equality, Symbol}
use Rattle.name_resolution.specs.declared.records.Fields.{Fields}
use Rattle.name_resolution.specs.declared.records.Fields.TheVariants.{Patterns, Values}
use Rattle.name_resolution.specs.declared.triggers.TriggerHead.{TriggerHead}
use Rattle.name_resolution.specs.declared.triggers.TriggerHead.TheVariants as head
use Rattle.name_resolution.specs.declared.world.World.{World}

-- ---- names
-- the entry for which a symbol's name after its scopes stands
abbrev pub symbol_named : {A : Type 0} → NamesOf A → List Word → Word → Option ℕ
symbol_named names qs x = find_number names Symbols (qs ++ x ∷ [])

-- `int` is the outermost name of a type
abbrev pub or_int : {A : Type 0} → List Word → Word → Option (Referent A) → Option (Referent A)
or_int [] x None = cond (bytes_eq x (codes "int")) (Some (stands.Entry 0)) None
or_int qs x found = found

abbrev pub type_named : {A : Type 0} → NamesOf A → List Word → Word → Option (Referent A)
type_named names qs x = or_int qs x (find_name names Types (qs ++ x ∷ []))

-- ---- what names mean in code
-- the type of an alias, by its number
abbrev pub type_tree_at : List Tree → ℕ → Tree
type_tree_at s ty = tree_at s (record { 0 = ty })

abbrev pub meaning_at : List Tree → TypeName → MeaningTree
meaning_at s thing = referent_with (type_tree_at s) thing

abbrev pub scope_at : List Tree → ScopeNames → NamesTree
scope_at s names = names_with (type_tree_at s) names

abbrev pub where_at : List Tree → World → Where
where_at s w = record {
  symbols = symbols_at s w.symbols.now;
  types = λ qs x. option_map (meaning_at s) (type_named w.scope.now qs x);
  names = symbol_named w.scope.now;
  tuples = tuple_in (symbols_at s w.symbols.now);
  vars = w.vars.now;
}

-- the names of the variables, innermost first
abbrev pub names_at : Bound → List Word
names_at Outside = []
names_at (Inside' name p outer) = name.now ∷ names_at outer
names_at (Under' bs p outer) = reverse (bound_names (binders_of bs.now)) ++ names_at outer
names_at (Among' names p outer) = reverse names.now ++ names_at outer

abbrev pub operation_at : Operation → abstract.OperatorMeaning
operation_at (Connective o) = connective_operator o
operation_at (Equality same) = equality_operator same
operation_at (Symbol w) = symbol_operator w.now

abbrev pub head_at : TriggerHead → TriggerHeadTree
head_at (head.Name q) = trigger_named q.now.scopes (text_of_own (own_of q.now.style q.now.text))
head_at (head.Prefix o) =
    trigger_named [] (prefix_name (spelled (op_of o.now).terminal (op_of o.now).text))
head_at (head.Infix w) = trigger_named [] w.now
head_at (head.Equality same) = trigger_equality same
head_at head.Other = trigger_other

abbrev pub fields_at : Fields → List FieldName
fields_at (Patterns fs) = pattern_fields_of fs.now
fields_at (Values fs) = value_fields_of fs.now

-- ---- answers
-- a fault or none as an answer
abbrev pub as_result : Option NamingFault → Result Unit NamingFault
as_result None = Ok tt
as_result (Some f) = Err f

-- it tells the first fault, or that there is none; want of memory tells nothing
abbrev pub Tells : Result Unit NamingFault → Option NamingFault → Type 0
Tells (Ok v) f = f ≡ None
Tells (Err Memory) f = Unit {0}
Tells (Err g) f = f ≡ Some g
