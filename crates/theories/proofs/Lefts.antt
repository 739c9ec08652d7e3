-- What the left side of an element names: an own declaration of a theory that makes a type, or a symbol of the element's kind.
use Rattle.std.proofs.Common.{◌≡◌, ◌≢◌, ℕ, if◌then◌else◌, Bool, true, false, List, [], ◌∷◌, ◌++◌, Contains, All, Option, Some, None, IfSome, refl, sym, ap, ◌∙◌, arith}
use Rattle.std.proofs.lemmas.List.Elements.{All-nil, All-cons}
use Rattle.tasks.specs.declared.signature.SymbolKind.{SymbolKind}
use Rattle.tasks.specs.declared.signature.SymbolKind.TheVariants as symbol
use Rattle.tasks.specs.Task.{SymbolTree, symbol_or, BodyTree, MakesType, Makes, Defines, Induces, Constructs, Says}
use Rattle.tasks.specs.Typing.{MakesTerms}
use Rattle.elaboration_laws.specs.name_resolution.Where.{NamesTree}
use Rattle.surface.specs.Lexeme.{Word}
use Rattle.surface.specs.declared.declarations.SymbolWord.{SymbolWord}
use Rattle.surface.specs.declared.declarations.SymbolWord.TheVariants as word
use Rattle.surface.specs.Declarations.{Element, type_element, symbol_element, prop_element, all_axioms}
use Rattle.elaboration_laws.specs.Morphisms.{KindBecomes}
use Rattle.elaboration_laws.proofs.Places.{here}
use Rattle.elaboration_laws.specs.clones.declared.clone_elements.left.Abstract.{Abstract}
use Rattle.elaboration_laws.specs.clones.declared.clone_elements.left.Abstract.TheVariants as abstract
use Rattle.elaboration_laws.specs.clones.clone_elements.Left.{Origin, decl_or, called_text, kind_of_symbol, kind_of_word, kind_of_proposition, kind_of_body, kind_letter, key, key_with, left_key, element_key, is_key, place_after, last_place, place_by}
use Rattle.elaboration_laws.specs.clones.clone_elements.Rights.{RightTree, type_right, symbol_right, no_right, right_made, right_tuples}
use Rattle.elaboration_laws.specs.clones.clone_elements.Replacements.{SideTree, sides_made}
use Rattle.elaboration_laws.specs.clones.clone_elements.Elements.{is_kind_of_word}
use Rattle.elaboration_laws.proofs.Lefts.{keyed, not_axiom, not_type}
use Rattle.elaboration_laws.proofs.Numbers.{later}

-- ---- the last declaration with a key
pub record IsNamed (symbols : List SymbolTree) (o : Origin) (x : Word) (place : ℕ) : Type 0 where
  pub own : Contains o.own place
  pub key : is_key x (left_key symbols (o.axioms place) (decl_or o.decls place)) ≡ true

module _ (symbols : List SymbolTree) (o : Origin) (x : Word) where
  after_named : (found : Option ℕ) (k : ℕ) → Contains o.own k → IfSome found (IsNamed symbols o x) → IfSome (place_after symbols o x found k) (IsNamed symbols o x)
  after_named found k i h = of (is_key x (left_key symbols (o.axioms k) (decl_or o.decls k))) refl
    where
      of : (b : Bool) → is_key x (left_key symbols (o.axioms k) (decl_or o.decls k)) ≡ b → IfSome (if b then Some k else found) (IsNamed symbols o x)
      of true q = record { own = i; key = q }
      of false q = h

  last_named : (found : Option ℕ) (ks : List ℕ) → ((k : ℕ) → Contains ks k → Contains o.own k) → IfSome found (IsNamed symbols o x) → IfSome (last_place symbols o x found ks) (IsNamed symbols o x)
  last_named found [] s h = h
  last_named found (k ∷ ks) s h = last_named (place_after symbols o x found k) ks (λ j c. s j (later k j ks c)) (after_named found k (s k (here k ks)) h)

  found_named : IfSome (last_place symbols o x None o.own) (IsNamed symbols o x)
  found_named = last_named None o.own (λ k c. c) tt

-- ---- kinds
pub record IsKindOf (w : SymbolWord) (k : SymbolKind) : Type 0 where
  pub kind : Abstract
  pub has : kind_of_symbol k ≡ Some kind
  pub same : kind_letter (kind_of_word w) ≡ kind_letter kind

no_key : {X : Type 0} → false ≡ true → X
no_key q = absurd (cc)

type_of_symbol : (k : SymbolKind) (name own : Word) → is_key (key abstract.Type name) (key_with own (kind_of_symbol k)) ≡ true → ⊥
type_of_symbol symbol.Kind name own q = no_key q
type_of_symbol symbol.Predicate name own q = let e = keyed abstract.Type abstract.Predicate name own q in omega (arith, e)
type_of_symbol symbol.Function name own q = let e = keyed abstract.Type abstract.Function name own q in omega (arith, e)
type_of_symbol symbol.Constructor name own q = let e = keyed abstract.Type abstract.Function name own q in omega (arith, e)
type_of_symbol symbol.Projection name own q = let e = keyed abstract.Type abstract.Function name own q in omega (arith, e)

type_of_said : (assumed : Bool) (name own : Word) → is_key (key abstract.Type name) (key_with own (kind_of_proposition assumed)) ≡ true → ⊥
type_of_said true name own q = let e = keyed abstract.Type abstract.Axiom name own q in omega (arith, e)
type_of_said false name own q = no_key q

pub record IsTypeBody (b : BodyTree) : Type 0 where
  pub symbol : ℕ
  pub is : b ≡ MakesType symbol

pub record IsSymbolBody (symbols : List SymbolTree) (w : SymbolWord) (b : BodyTree) : Type 0 where
  pub symbol : ℕ
  pub is : b ≡ Makes symbol
  pub kind : IsKindOf w (symbol_or symbols symbol).kind

module _ (symbols : List SymbolTree) (name own : Word) (assumed : Bool) where
  type_body : (b : BodyTree) → is_key (key abstract.Type name) (key_with own (kind_of_body symbols assumed b)) ≡ true → IsTypeBody b
  type_body (MakesType k) q = record { symbol = k; is = refl }
  type_body (Makes k) q = absurd (type_of_symbol (symbol_or symbols k).kind name own q)
  type_body (Says e) q = absurd (type_of_said assumed name own q)
  type_body (Defines ds) q = no_key q
  type_body (Induces ds) q = no_key q
  type_body (Constructs ds) q = no_key q

  module _ (w : SymbolWord) where
    symbol_of_said : (b : Bool) → is_key (key (kind_of_word w) name) (key_with own (kind_of_proposition b)) ≡ true → ⊥
    symbol_of_said true q = not_axiom w (keyed (kind_of_word w) abstract.Axiom name own q)
    symbol_of_said false q = no_key q

    kind_is : (k : SymbolKind) (o : Option Abstract) → kind_of_symbol k ≡ o → is_key (key (kind_of_word w) name) (key_with own o) ≡ true → IsKindOf w k
    kind_is k None z q = no_key q
    kind_is k (Some y) z q = record { kind = y; has = z; same = keyed (kind_of_word w) y name own q }

    symbol_body : (b : BodyTree) → is_key (key (kind_of_word w) name) (key_with own (kind_of_body symbols assumed b)) ≡ true → IsSymbolBody symbols w b
    symbol_body (MakesType k) q = absurd (not_type w (keyed (kind_of_word w) abstract.Type name own q))
    symbol_body (Makes k) q = record { symbol = k; is = refl; kind = kind_is (symbol_or symbols k).kind (kind_of_symbol (symbol_or symbols k).kind) refl q }
    symbol_body (Says e) q = absurd (symbol_of_said assumed q)
    symbol_body (Defines ds) q = no_key q
    symbol_body (Induces ds) q = no_key q
    symbol_body (Constructs ds) q = no_key q

-- ---- a symbol of another one's kind
predicate_kind : (j : SymbolKind) → is_kind_of_word j word.Predicate ≡ true → j ≡ symbol.Predicate
predicate_kind symbol.Kind q = no_key q
predicate_kind symbol.Predicate q = refl
predicate_kind symbol.Function q = no_key q
predicate_kind symbol.Constructor q = no_key q
predicate_kind symbol.Projection q = no_key q

function_kind : (j : SymbolKind) → is_kind_of_word j word.Function ≡ true → MakesTerms j
function_kind symbol.Kind q = no_key q
function_kind symbol.Predicate q = no_key q
function_kind symbol.Function q = tt
function_kind symbol.Constructor q = tt
function_kind symbol.Projection q = tt

constant_kind : (j : SymbolKind) → is_kind_of_word j word.Constant ≡ true → MakesTerms j
constant_kind symbol.Kind q = no_key q
constant_kind symbol.Predicate q = no_key q
constant_kind symbol.Function q = tt
constant_kind symbol.Constructor q = tt
constant_kind symbol.Projection q = tt

terms_kind : (w : SymbolWord) (j : SymbolKind) → kind_letter (kind_of_word w) ≡ kind_letter abstract.Function → is_kind_of_word j w ≡ true → MakesTerms j
terms_kind word.Predicate j e q = absurd (omega (arith, e))
terms_kind word.Function j e q = function_kind j q
terms_kind word.Constant j e q = constant_kind j q

said_kind : (w : SymbolWord) (j : SymbolKind) → kind_letter (kind_of_word w) ≡ kind_letter abstract.Predicate → is_kind_of_word j w ≡ true → j ≡ symbol.Predicate
said_kind word.Predicate j e q = predicate_kind j q
said_kind word.Function j e q = absurd (omega (arith, e))
said_kind word.Constant j e q = absurd (omega (arith, e))

of_letter : (w : SymbolWord) (x y : Abstract) → Some x ≡ Some y → kind_letter (kind_of_word w) ≡ kind_letter y → kind_letter (kind_of_word w) ≡ kind_letter x
of_letter w x y z e = let same : y ≡ x = cc in e ∙ ap kind_letter same

pub kinds_become : (k j : SymbolKind) (w : SymbolWord) → IsKindOf w k → is_kind_of_word j w ≡ true → KindBecomes k j
kinds_become symbol.Kind j w h q = absurd (let z : None ≡ Some h.kind = h.has in cc)
kinds_become symbol.Predicate j w h q = said_kind w j (of_letter w abstract.Predicate h.kind h.has h.same) q
kinds_become symbol.Function j w h q = terms_kind w j (of_letter w abstract.Function h.kind h.has h.same) q
kinds_become symbol.Constructor j w h q = terms_kind w j (of_letter w abstract.Function h.kind h.has h.same) q
kinds_become symbol.Projection j w h q = terms_kind w j (of_letter w abstract.Function h.kind h.has h.same) q

pub no_type : (w : SymbolWord) (k : SymbolKind) → IsKindOf w k → k ≢ symbol.Kind
no_type w k h e = let z : None ≡ Some h.kind = ap kind_of_symbol (sym e) ∙ h.has in cc

-- ---- the sides of an element
pub record IsLeftType (o : Origin) (place : ℕ) : Type 0 where
  pub own : Contains o.own place
  pub body : IsTypeBody (decl_or o.decls place).body

pub record IsLeftSymbol (symbols : List SymbolTree) (o : Origin) (w : SymbolWord) (place : ℕ) : Type 0 where
  pub own : Contains o.own place
  pub body : IsSymbolBody symbols w (decl_or o.decls place).body

abbrev pub IsLeft : List SymbolTree → Origin → Element → Option ℕ → Type 0
IsLeft symbols o (type_element i c vs f) left = IfSome left (IsLeftType o)
IsLeft symbols o (symbol_element i w c d) left = IfSome left (IsLeftSymbol symbols o w)
IsLeft symbols o (prop_element i k c) left = Unit {0}
IsLeft symbols o (all_axioms i) left = Unit {0}

-- the form of the right side
abbrev pub IsFormed : Element → RightTree → Type 0
IsFormed (type_element i c vs f) (type_right t) = Unit {0}
IsFormed (symbol_element i w c d) (symbol_right k) = Unit {0}
IsFormed (prop_element i k c) no_right = Unit {0}
IsFormed (all_axioms i) no_right = Unit {0}
IsFormed e r = ⊥

pub record IsRead (symbols : List SymbolTree) (o : Origin) (x : SideTree) : Type 0 where
  pub left : IsLeft symbols o x.element x.left
  pub formed : IsFormed x.element x.right

module _ (symbols : List SymbolTree) (o : Origin) where
  abbrev places : Word → Option ℕ
  places = λ x. last_place symbols o x None o.own

  left_type : (name : Word) (l : Option ℕ) → IfSome l (IsNamed symbols o (key abstract.Type name)) → IfSome l (IsLeftType o)
  left_type name None h = tt
  left_type name (Some p) h = record { own = h.own; body = type_body symbols name (decl_or o.decls p).name (o.axioms p) (decl_or o.decls p).body h.key }

  left_symbol : (w : SymbolWord) (name : Word) (l : Option ℕ) → IfSome l (IsNamed symbols o (key (kind_of_word w) name)) → IfSome l (IsLeftSymbol symbols o w)
  left_symbol w name None h = tt
  left_symbol w name (Some p) h = record { own = h.own; body = symbol_body symbols name (decl_or o.decls p).name (o.axioms p) w (decl_or o.decls p).body h.key }

  left_of : (e : Element) → IsLeft symbols o e (place_by places (element_key e))
  left_of (type_element i c vs f) = left_type (called_text c) (places (key abstract.Type (called_text c))) (found_named symbols o (key abstract.Type (called_text c)))
  left_of (symbol_element i w c d) = left_symbol w (called_text c) (places (key (kind_of_word w) (called_text c))) (found_named symbols o (key (kind_of_word w) (called_text c)))
  left_of (prop_element i k c) = tt
  left_of (all_axioms i) = tt

  module _ (names : NamesTree) where
    formed : (now : List SymbolTree) (e : Element) → IsFormed e (right_made now names e)
    formed now (type_element i c vs f) = tt
    formed now (symbol_element i w c d) = tt
    formed now (prop_element i k c) = tt
    formed now (all_axioms i) = tt

    pub sides_read : (es : List Element) (now : List SymbolTree) → All (IsRead symbols o) (sides_made places now names es)
    sides_read [] now = All-nil (IsRead symbols o)
    sides_read (e ∷ es) now =
        All-cons (IsRead symbols o) _ (sides_made places (now ++ right_tuples now e) names es)
        (record { left = left_of e; formed = formed now e }) (sides_read es (now ++ right_tuples now e))
