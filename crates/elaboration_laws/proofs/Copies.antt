-- The entries of the copies of a clone are typed, where an entry without a theory is that of a type variable.
use Rattle.std.proofs.Common.{◌≡◌, ◌⊎◌, inl, inr, ℕ, Bool, true, false, zero, suc, List, [], ◌∷◌, ◌++◌, map, get_or, slice_get, All, Some, None, IsTrue, refl, sym, ap, subst, ◌∙◌}
use Rattle.std.proofs.lemmas.List.Elements.{All-nil, All-cons, All-head, All-tail, All-append}
use Rattle.elab_groups.specs.tasks.Task.{SymbolTree, int_symbol, symbol_or}
use Rattle.elab_groups.specs.tasks.Rigid.{rigid_symbol}
use Rattle.elab_groups.specs.tasks.Vocabulary.{Vocabulary, of_signature, is_empty}
use Rattle.elab_groups.specs.tasks.Valid.{IsTypeIn}
use Rattle.elab_groups.specs.surface.Lexeme.{Word}
use Rattle.elab_groups.specs.surface.Declarations.{Element, type_element, symbol_element, prop_element, all_axioms}
use Rattle.clones.specs.Mapped.{Map}
use Rattle.clones.specs.Copies.{entry_copied}
use Rattle.elab_groups.specs.parts.Entries.{builtin, wanting_tuples}
use Rattle.elab_groups.specs.name_resolution.Abstract.{type_expression}
use Rattle.elab_groups.specs.name_resolution.variables.Seen.{form_seen}
use Rattle.elab_groups.specs.parts.Elaborated.{unseen}
use Rattle.elab_groups.specs.parts.Outcomes.{Setting}
use Rattle.elaboration_laws.proofs.Made.{tuples_built}
use Rattle.elaboration_laws.specs.Scopes.{IsTypedEntry, IsTypedSignature}
use Rattle.elaboration_laws.specs.Valid.{IsTypedSetting}
use Rattle.elaboration_laws.specs.Morphisms.{MapsTypes}
use Rattle.elaboration_laws.proofs.CopiedTypes.{types_copied}
use Rattle.clones.specs.clone_elements.Left.{Origin}
use Rattle.clones.specs.clone_elements.Rights.{right_tuples, rights_tuples, rights_fault}
use Rattle.clones.specs.clone_elements.Replacements.{effects_of, kept, clone_map}
use Rattle.elaboration_laws.specs.Placed.{IsPlacedEntry, ArePlaced}
use Rattle.elaboration_laws.specs.Sides.{with_rights, left_sides_at, copies_made, with_copies}
use Rattle.elaboration_laws.proofs.Rights.{all_typed}
use Rattle.elaboration_laws.proofs.Mapped.{maps_types}
use Rattle.elaboration_laws.proofs.Entries.{result_mapped}

-- ---- an entry of a typed signature
module _ (symbols : List SymbolTree) (typed : IsTypedSignature (of_signature symbols) symbols) (placed : ArePlaced symbols) where
  abbrev v : Vocabulary
  v = of_signature symbols

  rigid_typed : (x : Word) → IsTypedEntry v (rigid_symbol x)
  rigid_typed x = record { types = record { args = All-nil (IsTypeIn v 0); result = tt }; result = λ z. absurd z }

  int_typed : IsTypedEntry v int_symbol
  int_typed = record { types = record { args = All-nil (IsTypeIn v 0); result = tt }; result = λ z. absurd z }

  entry_typed : (k : ℕ) (e : SymbolTree) (b : Bool) → slice_get symbols k ≡ Some e → is_empty e.theory ≡ b → IsPlacedEntry e → IsTypedEntry v e
  entry_typed k e true q z p = subst (IsTypedEntry v) (sym (p z)) (rigid_typed e.name)
  entry_typed k e false q z p = typed.entries k e q (let u : IsTrue (v.usable k) = rw (q, z) refl in u)

  all_at : (es : List SymbolTree) → ArePlaced es → (k : ℕ) (e : SymbolTree) → slice_get es k ≡ Some e → IsPlacedEntry e
  all_at [] h k e q = absurd (cc)
  all_at (x ∷ es) h zero e q = let i : x ≡ e = cc in subst IsPlacedEntry i (All-head IsPlacedEntry x es h)
  all_at (x ∷ es) h (suc k) e q = all_at es (All-tail IsPlacedEntry x es h) k e q

  or_cases : (es : List SymbolTree) (k : ℕ) → (slice_get es k ≡ Some (symbol_or es k)) ⊎ (symbol_or es k ≡ int_symbol)
  or_cases [] k = inr refl
  or_cases (x ∷ es) zero = inl refl
  or_cases (x ∷ es) (suc k) = or_cases es k

  pub or_typed : (k : ℕ) → IsTypedEntry v (symbol_or symbols k)
  or_typed k = of (or_cases symbols k)
    where
      of : (slice_get symbols k ≡ Some (symbol_or symbols k)) ⊎ (symbol_or symbols k ≡ int_symbol) → IsTypedEntry v (symbol_or symbols k)
      of (inl q) = entry_typed k (symbol_or symbols k) (is_empty (symbol_or symbols k).theory) q refl (all_at symbols placed k (symbol_or symbols k) q)
      of (inr q) = subst (IsTypedEntry v) (sym q) int_typed

-- ---- its copy

copy_typed : (v w : Vocabulary) (m : Map) (theory within : Word) (e : SymbolTree) → MapsTypes v w m → IsTypedEntry v e → IsTypedEntry w (entry_copied m theory within e)
copy_typed v w m theory within e maps h = record {
  types = types_copied v w m maps e (entry_copied m theory within e) (record { vars = refl; args = refl; result = refl }) h.types;
  result = λ z. result_mapped m e.result (h.result z);
}

copies_typed : (v w : Vocabulary) (m : Map) (theory within : Word) (symbols : List SymbolTree) → MapsTypes v w m → ((k : ℕ) → IsTypedEntry v (symbol_or symbols k)) → (ks : List ℕ) → All (IsTypedEntry w) (map (λ k. entry_copied m theory within (symbol_or symbols k)) ks)
copies_typed v w m theory within symbols maps h [] = All-nil (IsTypedEntry w)
copies_typed v w m theory within symbols maps h (k ∷ ks) =
    All-cons (IsTypedEntry w) (entry_copied m theory within (symbol_or symbols k)) (map (λ j. entry_copied m theory within (symbol_or symbols j)) ks)
    (copy_typed v w m theory within (symbol_or symbols k) maps (h k)) (copies_typed v w m theory within symbols maps h ks)

pub entries_typed : (c : Setting) (t : Origin) (es : List Element) (theory within : Word) (h : IsTypedSetting (of_signature (with_rights c es).symbols) (with_rights c es)) → ArePlaced (with_rights c es).symbols
    → MapsTypes (of_signature (with_rights c es).symbols) (of_signature (with_copies c t es theory within)) (clone_map (with_rights c es).symbols t (left_sides_at c t es))
    → All (IsTypedEntry (of_signature (with_copies c t es theory within))) (map (λ k. entry_copied (clone_map (with_rights c es).symbols t (left_sides_at c t es)) theory within (symbol_or (with_rights c es).symbols k)) (kept t (effects_of (left_sides_at c t es))))
entries_typed c t es theory within h placed maps =
    let all = (with_rights c es).symbols in
    copies_typed (of_signature all) (of_signature (with_copies c t es theory within)) (clone_map all t (left_sides_at c t es)) theory within all maps (or_typed all h.signature placed) (kept t (effects_of (left_sides_at c t es)))

-- ---- entries with a theory
pub theory_placed : (theory : Word) → is_empty theory ≡ false → (es : List SymbolTree) → All (λ (e : SymbolTree). e.theory ≡ theory) es → ArePlaced es
theory_placed theory n es h = λ k d l. λ z. let q : (get_or es k d).theory ≡ theory = h k d l in let no : true ≡ false = sym z ∙ (ap is_empty q ∙ n) in absurd (cc)

pub copies_placed : (m : Map) (theory within : Word) (symbols : List SymbolTree) → is_empty theory ≡ false → (ks : List ℕ) → ArePlaced (map (λ k. entry_copied m theory within (symbol_or symbols k)) ks)
copies_placed m theory within symbols n [] = All-nil IsPlacedEntry
copies_placed m theory within symbols n (k ∷ ks) =
    All-cons IsPlacedEntry (entry_copied m theory within (symbol_or symbols k)) (map (λ j. entry_copied m theory within (symbol_or symbols j)) ks)
    (λ z. let no : true ≡ false = sym z ∙ n in absurd (cc)) (copies_placed m theory within symbols n ks)

pub rigids_placed : (vs : List Word) → ArePlaced (map rigid_symbol vs)
rigids_placed [] = All-nil IsPlacedEntry
rigids_placed (x ∷ xs) = All-cons IsPlacedEntry (rigid_symbol x) (map rigid_symbol xs) (λ z. refl) (rigids_placed xs)

built_placed : (es : List SymbolTree) → All (λ (e : SymbolTree). e.theory ≡ builtin) es → ArePlaced es
built_placed es h = theory_placed builtin refl es h

right_placed : (symbols : List SymbolTree) (e : Element) → ArePlaced (right_tuples symbols e)
right_placed symbols (type_element i c vs f) = let ns = (form_seen unseen (type_expression f)).widths in built_placed (wanting_tuples symbols ns) (tuples_built symbols ns)
right_placed symbols (symbol_element i w c d) = All-nil IsPlacedEntry
right_placed symbols (prop_element i k c) = All-nil IsPlacedEntry
right_placed symbols (all_axioms i) = All-nil IsPlacedEntry

rights_placed : (es : List Element) (symbols : List SymbolTree) → ArePlaced (rights_tuples symbols es)
rights_placed [] symbols = All-nil IsPlacedEntry
rights_placed (e ∷ es) symbols = All-append IsPlacedEntry (right_tuples symbols e) (rights_tuples (symbols ++ right_tuples symbols e) es) (right_placed symbols e) (rights_placed es (symbols ++ right_tuples symbols e))

module _ (c : Setting) (t : Origin) (es : List Element) (theory within : Word) (placed : ArePlaced c.symbols) where
  pub tupled_placed : ArePlaced (with_rights c es).symbols
  tupled_placed = All-append IsPlacedEntry c.symbols (rights_tuples c.symbols es) placed (rights_placed es c.symbols)

  pub all_placed : is_empty theory ≡ false → ArePlaced (with_copies c t es theory within)
  all_placed n =
      let all = (with_rights c es).symbols in
      let m = clone_map all t (left_sides_at c t es) in
      let ks = kept t (effects_of (left_sides_at c t es)) in
      All-append IsPlacedEntry all (map (λ k. entry_copied m theory within (symbol_or all k)) ks) tupled_placed (copies_placed m theory within all n ks)

  pub all_copies_typed : IsTypedSetting (of_signature c.symbols) c → rights_fault c.symbols c.scope es ≡ None → is_empty theory ≡ false → All (IsTypedEntry (of_signature (with_copies c t es theory within))) (copies_made c t es theory within)
  all_copies_typed h q n = entries_typed c t es theory within (all_typed es c h q) tupled_placed (maps_types c t es theory within h q n)
