-- Refusals of declarations, and declarations without a fault of names.
use Rattle.std.proofs.Common.{◌≡◌, ℕ, Bool, true, false, Option, Some, None, refl, sym, ap, subst, Result, Ok, Err, IfErr}
use Rattle.std.specs.Prelude.{◌||◌}
use Rattle.std.specs.Result.{IsErrAnd}
use Rattle.name_resolution.specs.declared.NamingFault.{NamingFault}
use Rattle.name_resolution.specs.declared.NamingFault.TheVariants as names
use Rattle.name_resolution.specs.Faults.{first_of, fault_if}
use Rattle.name_resolution.specs.Naming.{Tells}
use Rattle.open_types.specs.Patterns.{Notes}
use Rattle.elab_groups.specs.declared.parts.ElabFault.{ElabFault}
use Rattle.elab_groups.specs.declared.parts.ElabFault.TheVariants as elab
use Rattle.elab_groups.specs.declared.parts.solution.TypingFault.{TypingFault}
use Rattle.elab_groups.specs.declared.parts.solution.TypingFault.TheVariants as types
use Rattle.elab_groups.specs.parts.Elaborated.{IsTypingFault, elab_naming_fault, elab_typing_fault}
use Rattle.elab_groups.specs.parts.Outcomes.{IsNameRefused, IsRefusalFor, wants_memory, of_names, of_types}
use Rattle.name_resolution.proofs.Told.{of_first as told_made}
pub use Rattle.name_resolution.proofs.variables.Closing.{both_none as no_fault}

-- ---- faults of names

-- of those that it uses
pub told_used : (f : NamingFault) (a b : Option NamingFault) → a ≡ None → Tells (Err f) b → Tells (Err f) (first_of a b)
told_used f a b e h = subst (λ (x : Option NamingFault). Tells (Err f) (first_of x b)) (sym e) h

module _ (decl : ℕ) (r : ℕ) (ns : Notes) where
  -- want of memory, or the first fault of names
  told_refusal : (first : Option NamingFault) (f : NamingFault) → Tells (Err f) first → IsRefusalFor decl first r ns (elab_naming_fault decl f)
  told_refusal first names.Memory h = wants_memory refl
  told_refusal first (names.Unknown t) h = of_names (names.Unknown t) refl h
  told_refusal first (names.Duplicate t) h = of_names (names.Duplicate t) refl h
  told_refusal first (names.WrongKind t) h = of_names (names.WrongKind t) refl h
  told_refusal first (names.Arity t) h = of_names (names.Arity t) refl h

  pub made_refusal : (a b : Option NamingFault) (f : NamingFault) → Tells (Err f) a → IsRefusalFor decl (first_of a b) r ns (elab_naming_fault decl f)
  made_refusal a b f h = told_refusal (first_of a b) f (told_made f a b h)

  pub used_refusal : (a b : Option NamingFault) (f : NamingFault) → a ≡ None → Tells (Err f) b → IsRefusalFor decl (first_of a b) r ns (elab_naming_fault decl f)
  used_refusal a b f e h = told_refusal (first_of a b) f (told_used f a b e h)

  -- ---- faults of types
  pub typing_refusal : (first : Option NamingFault) (f : TypingFault) → first ≡ None → IsTypingFault r ns f → IsRefusalFor decl first r ns (elab_typing_fault decl f)
  typing_refusal first types.Memory e h = wants_memory refl
  typing_refusal first (types.Clash k) e h = of_types (types.Clash k) refl e h
  typing_refusal first (types.Undetermined t) e h = of_types (types.Undetermined t) refl e h

  -- want of memory alone
  pub out_of_memory : {A : Type 0} (x : Result A ElabFault) (first : Option NamingFault) → IsErrAnd x (λ (e : ElabFault). e ≡ elab.Memory) → IfErr x (IsRefusalFor decl first r ns)
  out_of_memory (Ok a) first h = tt
  out_of_memory (Err e) first h = wants_memory h

-- ---- a name that is declared
-- the name alone
name_made : (declared : Bool) (i : ℕ) → (b : Bool) → declared ≡ b → fault_if (declared || false) (names.Duplicate i) ≡ fault_if b (names.Duplicate i)
name_made declared i true e = rw e refl
name_made declared i false e = rw e refl

pub name_refused : (declared : Bool) (i : ℕ) (f : NamingFault) (rest : Option NamingFault) → IsNameRefused declared i f → Tells (Err f) (first_of (fault_if (declared || false) (names.Duplicate i)) rest)
name_refused declared i names.Memory rest h = tt
name_refused declared i (names.Unknown t) rest h = absurd (cc)
name_refused declared i (names.Duplicate t) rest h = rw (name_made declared i true h.0) (ap Some (sym h.1))
name_refused declared i (names.WrongKind t) rest h = absurd (cc)
name_refused declared i (names.Arity t) rest h = absurd (cc)

pub name_free : (declared : Bool) (i : ℕ) (rest : Option NamingFault) → declared ≡ false → first_of (fault_if (declared || false) (names.Duplicate i)) rest ≡ rest
name_free declared i rest h = rw (name_made declared i false h) refl
