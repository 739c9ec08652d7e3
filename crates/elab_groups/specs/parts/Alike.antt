-- Places at which names mean alike: a name stands for entries of one kind with as many arguments,
-- at one place in a record of as many fields, and for types with as many type variables. The first
-- fault of names asks for no more.
use Rattle.std.specs.Prelude.{◌≡◌, ℕ, Bool, List, length, option_map}
use Rattle.tasks.specs.Task.{SymbolTree, symbol_or}
use Rattle.tasks.specs.declared.signature.SymbolKind.{SymbolKind}
use Rattle.surface.specs.Lexeme.{Word}
use Rattle.name_resolution.specs.Records.{constructor_before, is_record}
use Rattle.name_resolution.specs.Where.{Where, MeaningTree}
use Rattle.scopes.specs.declared.Referent.TheVariants as stands

abbrev pub meaning_arity : List SymbolTree → MeaningTree → ℕ
meaning_arity symbols (stands.Entry k) = (symbol_or symbols k).vars
meaning_arity symbols (stands.Alias n t) = n

pub record EntryShape : Type 0 where
  pub kind : SymbolKind
  pub count : ℕ

abbrev pub shape : List SymbolTree → ℕ → EntryShape
shape symbols k =
    record { kind = (symbol_or symbols k).kind; count = length (symbol_or symbols k).args }

-- the number of an entry with its record: whose fields it counts, and whether it is one
pub record RecordShape : Type 0 where
  pub number : ℕ
  pub constructor : ℕ
  pub is : Bool
  pub fields : ℕ

abbrev pub record_shape : List SymbolTree → ℕ → RecordShape
record_shape symbols k =
    let c = constructor_before symbols k in
    record {
      number = k;
      constructor = c;
      is = is_record (symbol_or symbols c);
      fields = length (symbol_or symbols c).args;
    }

pub record TypesAlike (w v : Where) : Type 0 where
  pub types : (qs : List Word) (x : Word)
      → option_map (meaning_arity w.symbols) (w.types qs x)
      ≡ option_map (meaning_arity v.symbols) (v.types qs x)
  pub vars : w.vars ≡ v.vars

pub record AreScopesAlike (w v : Where) : Type 0 where
  pub forms : TypesAlike w v
  pub names : (qs : List Word) (x : Word)
      → option_map (shape w.symbols) (w.names qs x) ≡ option_map (shape v.symbols) (v.names qs x)
  pub records : (qs : List Word) (x : Word)
      → option_map (record_shape w.symbols) (w.names qs x)
      ≡ option_map (record_shape v.symbols) (v.names qs x)
  -- no field has a record where it has no name
  pub first : record_shape w.symbols 0 ≡ record_shape v.symbols 0
