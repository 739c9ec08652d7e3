-- The left side of an element that replaces a symbol names no type.
use Rattle.std.proofs.Common.{◌≡◌, ◌≢◌, ℕ, if◌then◌else◌, Bool, true, false, List, [], ◌∷◌, Option, Some, None, IfSome, refl, sym, ap, ◌∙◌, arith}
use Rattle.elab_groups.specs.tasks.declared.signature.SymbolKind.{SymbolKind}
use Rattle.elab_groups.specs.tasks.declared.signature.SymbolKind.TheVariants as symbol
use Rattle.elab_groups.specs.tasks.Task.{SymbolTree, symbol_or, BodyTree, MakesType, Makes, Defines, Induces, Constructs, Says}
use Rattle.elab_groups.specs.surface.Lexeme.{Word}
use Rattle.elab_groups.specs.surface.declared.declarations.SymbolWord.{SymbolWord}
use Rattle.elab_groups.specs.surface.declared.declarations.SymbolWord.TheVariants as word
use Rattle.elaboration_laws.proofs.Words.{same_word}
use Rattle.clones.specs.declared.clone_elements.left.Abstract.{Abstract}
use Rattle.clones.specs.declared.clone_elements.left.Abstract.TheVariants as abstract
use Rattle.clones.specs.clone_elements.Left.{Origin, decl_or, abstract_symbol, symbol_at_place, kind_of_symbol, kind_of_word, kind_of_proposition, kind_of_body, kind_letter, key, key_with, left_key, is_key, place_after, last_place}

-- the last declaration with a key has it
module _ (symbols : List SymbolTree) (t : Origin) (x : Word) where
  abbrev IsAt : ℕ → Type 0
  IsAt k = is_key x (left_key symbols (t.axioms k) (decl_or t.decls k)) ≡ true

  after_at : (found : Option ℕ) (k : ℕ) → IfSome found IsAt → IfSome (place_after symbols t x found k) IsAt
  after_at found k h = of (is_key x (left_key symbols (t.axioms k) (decl_or t.decls k))) refl
    where
      of : (b : Bool) → is_key x (left_key symbols (t.axioms k) (decl_or t.decls k)) ≡ b → IfSome (if b then Some k else found) IsAt
      of true q = q
      of false q = h

  last_at : (found : Option ℕ) (ks : List ℕ) → IfSome found IsAt → IfSome (last_place symbols t x found ks) IsAt
  last_at found [] h = h
  last_at found (k ∷ ks) h = last_at (place_after symbols t x found k) ks (after_at found k h)

-- a symbol that isn't a type has its key
abbrev pub IsOther : SymbolTree → Type 0
IsOther e = e.kind ≢ symbol.Kind

pub not_type : (w : SymbolWord) → kind_letter (kind_of_word w) ≢ kind_letter abstract.Type
not_type word.Predicate q = absurd (omega (arith, q))
not_type word.Function q = absurd (omega (arith, q))
not_type word.Constant q = absurd (omega (arith, q))

pub not_axiom : (w : SymbolWord) → kind_letter (kind_of_word w) ≢ kind_letter abstract.Axiom
not_axiom word.Predicate q = absurd (omega (arith, q))
not_axiom word.Function q = absurd (omega (arith, q))
not_axiom word.Constant q = absurd (omega (arith, q))

pub keyed : (x y : Abstract) (name own : Word) → is_key (key x name) (key_with own (Some y)) ≡ true → kind_letter x ≡ kind_letter y
keyed x y name own q = let same : kind_letter y ∷ own ≡ kind_letter x ∷ name = same_word (key y own) (key x name) q in cc

module _ (symbols : List SymbolTree) (w : SymbolWord) (name : Word) where
  of_proposition : (own : Word) (assumed : Bool) → is_key (key (kind_of_word w) name) (key_with own (kind_of_proposition assumed)) ≡ true → ⊥
  of_proposition own true q = not_axiom w (keyed (kind_of_word w) abstract.Axiom name own q)
  of_proposition own false q = let z : false ≡ true = q in absurd (cc)

  of_body : (own : Word) (assumed : Bool) (b : BodyTree) → is_key (key (kind_of_word w) name) (key_with own (kind_of_body symbols assumed b)) ≡ true → IsOther (symbol_or symbols (abstract_symbol b))
  of_body own assumed (MakesType k) q = absurd (not_type w (keyed (kind_of_word w) abstract.Type name own q))
  of_body own assumed (Makes k) q = λ z. let no : false ≡ true = sym (ap (λ (s : SymbolKind). is_key (key (kind_of_word w) name) (key_with own (kind_of_symbol s))) z) ∙ q in absurd (cc)
  of_body own assumed (Says e) q = absurd (of_proposition own assumed q)
  of_body own assumed (Defines ds) q = let z : false ≡ true = q in absurd (cc)
  of_body own assumed (Induces ds) q = let z : false ≡ true = q in absurd (cc)
  of_body own assumed (Constructs ds) q = let z : false ≡ true = q in absurd (cc)

  module _ (t : Origin) where
    found_other : (o : Option ℕ) → IfSome o (IsAt symbols t (key (kind_of_word w) name)) → IfSome o (λ (place : ℕ). IsOther (symbol_or symbols (symbol_at_place t.decls place)))
    found_other None h = tt
    found_other (Some place) h = of_body (decl_or t.decls place).name (t.axioms place) (decl_or t.decls place).body h

    pub named_other : IfSome (last_place symbols t (key (kind_of_word w) name) None t.own) (λ (place : ℕ). IsOther (symbol_or symbols (symbol_at_place t.decls place)))
    named_other = found_other (last_place symbols t (key (kind_of_word w) name) None t.own) (last_at symbols t (key (kind_of_word w) name) None t.own tt)
