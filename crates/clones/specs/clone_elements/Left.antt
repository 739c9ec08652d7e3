-- What the left side of a clone's element names: of the theory's own declarations the last one of
-- its kind with this name that is abstract, and for a proposition an axiom (Why3 manual, "theory
-- cloning").
use Rattle.std.specs.Prelude.{ℕ, if◌then◌else◌, Bool, true, false, List, [], ◌∷◌, ◌++◌, get_or, Option, Some, None, codes}
use Rattle.std.specs.Str.{bytes_eq}
use Rattle.tasks.specs.declared.signature.SymbolKind.{SymbolKind}
use Rattle.tasks.specs.declared.signature.SymbolKind.TheVariants as symbol
use Rattle.tasks.specs.Task.{SymbolTree, symbol_or, BodyTree, MakesType, Makes, Defines, Induces, Constructs, Says, DeclarationTree}
use Rattle.surface.specs.Lexeme.{Word}
use Rattle.surface.specs.Forms.{Called}
use Rattle.surface.specs.declared.declarations.SymbolWord.{SymbolWord}
use Rattle.surface.specs.declared.declarations.SymbolWord.TheVariants as word
use Rattle.surface.specs.Declarations.{Element, type_element, symbol_element, prop_element, all_axioms}
use Rattle.name_resolution.specs.Abstract.{text_of_own}
use Rattle.clones.specs.declared.clone_elements.left.Abstract.{Abstract}
use Rattle.clones.specs.declared.clone_elements.left.Abstract.TheVariants as abstract

-- names of scopes and a last name, joined by dots
abbrev pub dotted : List Word → Word → Word
dotted [] x = x
dotted (q ∷ qs) x = q ++ (codes "." ++ dotted qs x)

abbrev pub called_text : Called → Word
called_text c = dotted c.scopes (text_of_own c.own)

-- all declarations, the places of the theory's own ones in order, and whether a place is that of an
-- axiom of it
pub record Origin : Type 0 where
  pub decls : List DeclarationTree
  pub own : List ℕ
  pub axioms : ℕ → Bool

-- what is where a list has no declaration: it makes nothing
abbrev pub no_declaration : DeclarationTree
no_declaration = record { theory = []; name = []; vars = 0; body = Defines [] }

abbrev pub decl_or : List DeclarationTree → ℕ → DeclarationTree
decl_or ds place = get_or ds place no_declaration

-- the symbol of an abstract declaration
abbrev pub abstract_symbol : BodyTree → ℕ
abstract_symbol (MakesType k) = k
abstract_symbol (Makes k) = k
abstract_symbol _ = 0

abbrev pub symbol_at_place : List DeclarationTree → ℕ → ℕ
symbol_at_place ds place = abstract_symbol (decl_or ds place).body

-- ---- kinds
-- constructors and projections count as functions
abbrev pub kind_of_symbol : SymbolKind → Option Abstract
kind_of_symbol symbol.Kind = None
kind_of_symbol symbol.Predicate = Some abstract.Predicate
kind_of_symbol symbol.Function = Some abstract.Function
kind_of_symbol symbol.Constructor = Some abstract.Function
kind_of_symbol symbol.Projection = Some abstract.Function

abbrev pub kind_of_word : SymbolWord → Abstract
kind_of_word word.Predicate = abstract.Predicate
kind_of_word word.Function = abstract.Function
kind_of_word word.Constant = abstract.Function

abbrev pub kind_of_proposition : Bool → Option Abstract
kind_of_proposition true = Some abstract.Axiom
kind_of_proposition false = None

-- what a declaration may be replaced as
abbrev pub kind_of_body : List SymbolTree → Bool → BodyTree → Option Abstract
kind_of_body symbols assumed (MakesType k) = Some abstract.Type
kind_of_body symbols assumed (Makes k) = kind_of_symbol (symbol_or symbols k).kind
kind_of_body symbols assumed (Says e) = kind_of_proposition assumed
kind_of_body symbols assumed (Defines ds) = None
kind_of_body symbols assumed (Induces ds) = None
kind_of_body symbols assumed (Constructs ds) = None

-- ---- keys: a kind's letter before a name
abbrev pub kind_letter : Abstract → ℕ
kind_letter abstract.Type = 116
kind_letter abstract.Function = 102
kind_letter abstract.Predicate = 112
kind_letter abstract.Axiom = 97

abbrev pub key : Abstract → Word → Word
key kind name = kind_letter kind ∷ name

abbrev pub key_with : Word → Option Abstract → Option Word
key_with name None = None
key_with name (Some kind) = Some (key kind name)

abbrev pub left_key : List SymbolTree → Bool → DeclarationTree → Option Word
left_key symbols assumed d = key_with d.name (kind_of_body symbols assumed d.body)

abbrev pub element_key : Element → Option Word
element_key (type_element i c vs f) = Some (key abstract.Type (called_text c))
element_key (symbol_element i s c d) = Some (key (kind_of_word s) (called_text c))
element_key (prop_element i k c) = Some (key abstract.Axiom (called_text c))
element_key (all_axioms i) = None

-- ---- the last declaration with a key
abbrev pub is_key : Word → Option Word → Bool
is_key x None = false
is_key x (Some y) = bytes_eq y x

-- the place at a key after one more declaration
abbrev pub place_after : List SymbolTree → Origin → Word → Option ℕ → ℕ → Option ℕ
place_after symbols t x found k =
    if is_key x (left_key symbols (t.axioms k) (decl_or t.decls k)) then Some k else found

abbrev pub last_place : List SymbolTree → Origin → Word → Option ℕ → List ℕ → Option ℕ
last_place symbols t x found [] = found
last_place symbols t x found (k ∷ ks) = last_place symbols t x (place_after symbols t x found k) ks

abbrev pub place_by : (Word → Option ℕ) → Option Word → Option ℕ
place_by places None = None
place_by places (Some x) = places x
