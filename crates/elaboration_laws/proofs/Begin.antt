-- A signature with `int` alone and a scope without names are typed.
use Rattle.std.proofs.Common.{◌≡◌, ℕ, ◌<◌, zero, suc, true, false, [], ◌∷◌, length, slice_get, Some, IsTrue, refl, subst, arith}
use Rattle.std.proofs.lemmas.List.Elements.{All-nil, All-cons}
use Rattle.elab_groups.specs.trees.Facts.{TyVarsBelow}
use Rattle.elab_groups.specs.tasks.declared.signature.SymbolKind.TheVariants.{Constructor}
use Rattle.elab_groups.specs.tasks.Task.{SymbolTree, int_symbol, symbol_or}
use Rattle.elab_groups.specs.tasks.Vocabulary.{Vocabulary, is_empty}
use Rattle.elab_groups.specs.tasks.Valid.{IsTypeIn}
use Rattle.elab_groups.specs.scopes.Names.{empty_names}
use Rattle.elab_groups.specs.name_resolution.Records.{constructor_before}
use Rattle.elab_groups.specs.parts.Outcomes.{Setting}
use Rattle.elab_groups.specs.open_types.Scoped.{IsScopedEntry}
use Rattle.std.specs.Str.{bytes_eq}
use Rattle.elab_groups.specs.parts.Entries.{builtin, is_tuple}
use Rattle.elaboration_laws.specs.Signature.{with_entries}
use Rattle.elaboration_laws.proofs.Scopes.{no_names}
use Rattle.elaboration_laws.proofs.Extended.{agrees_part, signature_agrees, scopes_part}
use Rattle.elaboration_laws.specs.Scopes.{AgreeBelow, IsTypedEntry, IsTypedSignature}
use Rattle.elaboration_laws.specs.Valid.{IsTypedSetting}

module _ (base : Vocabulary) (may : IsTrue (base.usable 0)) where
  abbrev v : Vocabulary
  v = with_entries base (int_symbol ∷ [])

  int_entry : IsTypedEntry v int_symbol
  int_entry = record { types = record { args = All-nil (IsTypeIn v 0); result = tt }; result = λ m. absurd m }

  int_alone : (P : SymbolTree → Type 0) → P int_symbol → (k : ℕ) (e : SymbolTree) → slice_get (int_symbol ∷ []) k ≡ Some e → P e
  int_alone P p zero e q = let z : int_symbol ≡ e = cc in subst P z p
  int_alone P p (suc k) e q = absurd (cc)

  int_at : (k : ℕ) (e : SymbolTree) → slice_get (int_symbol ∷ []) k ≡ Some e → IsTrue (base.usable k)
  int_at zero e q = may
  int_at (suc k) e q = absurd (cc)

  none_before : (k : ℕ) → k < 1 → (symbol_or (int_symbol ∷ []) (constructor_before (int_symbol ∷ []) k)).kind ≡ Constructor → ⊥
  none_before zero l q = absurd (cc (q))
  none_before (suc k) l q = absurd (omega (arith, l))

  int_typed : IsTypedSignature base (int_symbol ∷ [])
  int_typed = record {
    int = refl;
    int_usable = may;
    scoped = All-cons IsScopedEntry int_symbol [] (record { args = All-nil (TyVarsBelow 0); result = tt }) (All-nil IsScopedEntry);
    entries = λ k e q u. int_alone (IsTypedEntry v) int_entry k e q;
    constructors = λ k e q u c. absurd (int_alone (λ (i : SymbolTree). i.kind ≡ Constructor → ⊥) (λ z. cc) k e q c);
    patterns = λ k e q u. int_at k e q;
    tuples = λ n k e q t. absurd (int_alone (λ (i : SymbolTree). is_tuple n i ≡ true → ⊥) (λ z. cc) k e q t);
    records = λ k l u q. absurd (none_before k l q);
  }

  pub begins : (c : Setting) → is_empty c.theory ≡ false → bytes_eq c.theory builtin ≡ false → c.symbols ≡ int_symbol ∷ [] → c.scope ≡ empty_names → IsTypedSetting base c
  begins c q z p r = record {
    theory = q;
    source = z;
    signature = rw p int_typed;
    scopes = rw (p, r) (no_names v);
  }

-- over a vocabulary that may name the same entries
pub agrees : (v w : Vocabulary) (c : Setting) → AgreeBelow v w (length c.symbols) → IsTypedSetting v c → IsTypedSetting w c
agrees v w c a h = record {
  theory = h.theory;
  source = h.source;
  signature = signature_agrees v w c.symbols a h.signature;
  scopes = scopes_part (with_entries v c.symbols) (with_entries w c.symbols) (agrees_part v w c.symbols a) c.scope h.scopes;
}
