-- The names that an index has: whether a word is among them, and what it has after one more.
use Rattle.std.proofs.Common.{◌≡◌, ℕ, Bool, true, false, cond, List, [], ◌∷◌, ◌++◌, map, Some, None, Err, refl, sym, ap, ◌∙◌}
use Rattle.std.specs.Prelude.{◌||◌, not, Vec}
use Rattle.std.specs.Option.{is_some}
use Rattle.std.specs.Str.{bytes_eq}
use Rattle.std.specs.List.{list_any}
use Rattle.std.specs.Cmp.Lexicographic.{nat_list_eq_equiv}
use Rattle.std.proofs.lemmas.List.{map-append}
use Rattle.surface.specs.Lexeme.{Word}
use Rattle.name_resolution.specs.declared.NamingFault.{NamingFault}
use Rattle.name_resolution.specs.declared.NamingFault.TheVariants as names
use Rattle.name_resolution.specs.Faults.{fault_if}
use Rattle.name_resolution.specs.Naming.{Tells}
use Rattle.name_resolution.specs.Where.{place_of}
use Rattle.elab_groups.specs.parts.Outcomes.{IsNameRefused}
use Rattle.elab_groups.proofs.members.NamesMade.{among_first}

not_turned : (r b : Bool) → r ≡ not b → b ≡ not r
not_turned r true h = rw h refl
not_turned r false h = rw h refl

module _ {Y : Type 0} where
  abbrev words : List (Vec ℕ Y) → List Word
  words vs = map (λ (v : Vec ℕ Y). v.items) vs

  abbrev has : Word → List (Vec ℕ Y) → Bool
  has x vs = list_any (λ (v : Vec ℕ Y). bytes_eq x v.items) vs

  pub has_word : (x : Word) (vs : List (Vec ℕ Y)) → has x vs ≡ is_some (place_of x (words vs))
  has_word x [] = refl
  has_word x (v ∷ vs) = ap (λ (b : Bool). b || has x vs) (nat_list_eq_equiv.symm x v.items) ∙ ap (λ (b : Bool). bytes_eq v.items x || b) (has_word x vs) ∙ sym (among_first x v.items (words vs))

  pub words_more : (vs : List (Vec ℕ Y)) (v : Vec ℕ Y) (b : Bool) → b ≡ false → words (cond b vs (vs ++ v ∷ [])) ≡ words vs ++ v.items ∷ []
  words_more vs v b h = ap (λ (c : Bool). words (cond c vs (vs ++ v ∷ []))) h ∙ map-append (λ (u : Vec ℕ Y). u.items) vs (v ∷ [])

  -- an index that says whether a word is new
  pub there : (x : Word) (vs : List (Vec ℕ Y)) (v : Vec ℕ Y) (r : Bool) → v.items ≡ x → r ≡ not (has v.items vs) → is_some (place_of x (words vs)) ≡ not r
  there x vs v r e h = ap (λ (y : Word). is_some (place_of y (words vs))) (sym e) ∙ (sym (has_word v.items vs) ∙ not_turned r (has v.items vs) h)

-- ---- answers
pub told_new : (d b r : Bool) (i : ℕ) → d ≡ false → b ≡ not r → fault_if (d || b) (names.Duplicate i) ≡ cond r None (Some (names.Duplicate i))
told_new d b true i h k = rw (h, k) refl
told_new d b false i h k = rw (h, k) refl

pub refused_told : (d b : Bool) (i : ℕ) (e : NamingFault) → IsNameRefused d i e → Tells (Err e) (fault_if (d || b) (names.Duplicate i))
refused_told d b i names.Memory k = tt
refused_told d b i (names.Unknown t) k = absurd (cc (k.1))
refused_told d b i (names.Duplicate t) k = rw (k.0) (ap Some (sym k.1))
refused_told d b i (names.WrongKind t) k = absurd (cc (k.1))
refused_told d b i (names.Arity t) k = absurd (cc (k.1))
