-- A signature with further entries is typed over itself.
use Rattle.std.proofs.Common.{◌≡◌, ◌⊎◌, inl, inr, ℕ, ◌-◌, ◌<◌, ◌≤◌, not, ◌&&◌, zero, suc, Bool, true, false, List, [], ◌∷◌, ◌++◌, map, length, get_or, slice_get, All, Option, Some, None, option_map, IsSomeAnd, IsTrue, refl, sym, ap, subst, ◌∙◌, arith}
use Rattle.std.specs.Str.{bytes_eq}
use Rattle.std.proofs.lemmas.List.Elements.{All-nil, All-map}
use Rattle.elab_groups.specs.trees.Tree.{Tree}
use Rattle.elab_groups.specs.tasks.Task.{SymbolTree, symbol_or, int_symbol}
use Rattle.elab_groups.specs.tasks.Rigid.{rigid_symbol}
use Rattle.elab_groups.specs.tasks.Vocabulary.{Vocabulary, passes, is_empty, is_constructor_kind, of_signature}
use Rattle.elab_groups.specs.tasks.Valid.{IsTypeIn}
use Rattle.clones.specs.Mapped.{Map, mapped}
use Rattle.clones.specs.Copies.{entry_copied}
use Rattle.elab_groups.specs.parts.Entries.{builtin}
use Rattle.elaboration_laws.specs.Scopes.{NamesNew, AgreeBelow, IsTypedEntry, IsTypedSignature}
use Rattle.elab_groups.specs.name_resolution.Records.{constructor_before}
use Rattle.elab_groups.proofs.parts.RecordsKept.{before_below}
use Rattle.elaboration_laws.proofs.Extended.{further, slice_all, in_either, signature_more, signature_agrees, RecordsFrom}
use Rattle.elaboration_laws.specs.Built.{IsBuiltRight}
use Rattle.elaboration_laws.proofs.Kept.{IsOfSource, source_kept}
use Rattle.elaboration_laws.specs.Morphisms.{MapsTypes}
use Rattle.elaboration_laws.proofs.CopiedTypes.{types_copied}
use Rattle.elaboration_laws.specs.Entries.{copied_entries, IsStanding, IsGrounded}
use Rattle.std.proofs.lemmas.Option.{slice_get-get_or as some_at}
use Rattle.elaboration_laws.proofs.Declarations.{below as slice_below}

pub both_true : (a b : Bool) → IsTrue (a && b) → IsTrue a
both_true true b h = refl
both_true false b h = absurd (let e : true ≡ false = sym h in cc)

not_true : (a : Bool) → a ≡ false → IsTrue (not a)
not_true true q = absurd (cc)
not_true false q = refl

-- ---- further entries
module _ (xs ys : List SymbolTree) (h : IsTypedSignature (of_signature xs) xs) (typed : All (IsTypedEntry (of_signature (xs ++ ys))) ys) (grounded : All IsGrounded ys) where
  abbrev base : Vocabulary
  base = of_signature (xs ++ ys)

  there : (es : List SymbolTree) (k : ℕ) → k < length es → (e : SymbolTree) × (slice_get es k ≡ Some e)
  there [] k l = absurd (omega arith)
  there (e ∷ es) zero l = (e, refl)
  there (e ∷ es) (suc k) l = there es k (omega arith)

  same : (k : ℕ) → k < length xs → slice_get xs k ≡ slice_get (xs ++ ys) k
  same k l = let x = there xs k l in x.1 ∙ sym (further xs ys k x.0 x.1)

  agree : AgreeBelow (of_signature xs) base (length xs)
  agree = record {
    rigid = λ k l. ap (passes (λ e. is_empty e.theory)) (same k l);
    usable = λ k l. ap (passes (λ e. not (is_empty e.theory))) (same k l);
    matched = λ k l. ap (passes (λ e. is_constructor_kind e.kind)) (same k l);
  }

  grounded_at : (k : ℕ) (e : SymbolTree) → length xs ≤ k → slice_get (xs ++ ys) k ≡ Some e → IsGrounded e
  grounded_at k e l q = of (in_either xs ys k e q)
    where
      of : (slice_get xs k ≡ Some e) ⊎ ((length xs ≤ k) × (slice_get ys (k - length xs) ≡ Some e)) → IsGrounded e
      of (inl z) = absurd (let b = slice_below xs k e z in omega arith)
      of (inr z) = slice_all IsGrounded ys grounded (k - length xs) e z.1

  pub further_typed : IsTypedSignature base (xs ++ ys)
  further_typed = signature_more base xs ys (signature_agrees (of_signature xs) base xs agree h) typed news later
    where
      news : NamesNew base (length xs) (xs ++ ys)
      news k e l q = record {
        usable = λ m. subst (λ (o : Option SymbolTree). IsTrue (passes (λ i. not (is_empty i.theory)) o)) (sym q) (both_true (not (is_empty e.theory)) _ m);
        matched = λ z. subst (λ (o : Option SymbolTree). IsTrue (passes (λ i. is_constructor_kind i.kind) o)) (sym q) (rw z refl);
        pattern = λ m. subst (λ (o : Option SymbolTree). IsTrue (passes (λ i. not (is_empty i.theory)) o)) (sym q)
            (not_true (is_empty e.theory) (grounded_at k e l q (subst (λ (o : Option SymbolTree). IsTrue (passes (λ i. is_constructor_kind i.kind) o)) q m)));
      }

      later : RecordsFrom base (length xs) (xs ++ ys)
      later k l m u q =
          let c = constructor_before (xs ++ ys) k in
          let e = symbol_or (xs ++ ys) c in
          let there = some_at (xs ++ ys) c int_symbol (omega (arith, m, before_below (xs ++ ys) k)) in
          of (in_either xs ys c e there)
        where
          of : (slice_get xs (constructor_before (xs ++ ys) k) ≡ Some (symbol_or (xs ++ ys) (constructor_before (xs ++ ys) k)))
              ⊎ ((length xs ≤ constructor_before (xs ++ ys) k) × (slice_get ys (constructor_before (xs ++ ys) k - length xs) ≡ Some (symbol_or (xs ++ ys) (constructor_before (xs ++ ys) k)))) → IsTrue (base.usable (constructor_before (xs ++ ys) k))
          of (inl z) =
              let c = constructor_before (xs ++ ys) k in
              subst (λ (b : Bool). IsTrue b) (agree.usable c (slice_below xs c (symbol_or (xs ++ ys) c) z))
              (h.patterns c (symbol_or (xs ++ ys) c) z (subst (λ (o : Option SymbolTree). IsTrue (passes (λ i. is_constructor_kind i.kind) o)) (sym z) (rw q refl)))
          of (inr z) =
              let c = constructor_before (xs ++ ys) k in
              let n = news c (symbol_or (xs ++ ys) c) z.0 (some_at (xs ++ ys) c int_symbol (omega (arith, m, before_below (xs ++ ys) k))) in
              n.pattern (n.matched q)

-- ---- copies
pub result_mapped : (m : Map) (o : Option Tree) → IsSomeAnd o (λ t. Unit {0}) → IsSomeAnd (option_map (mapped m) o) (λ t. Unit {0})
result_mapped m None h = h
result_mapped m (Some t) h = tt

module _ (xs : List SymbolTree) (m : Map) (theory within ks : List ℕ) where
  abbrev more : List SymbolTree
  more = copied_entries xs m theory within ks

  module _ (becomes : MapsTypes (of_signature xs) (of_signature (xs ++ more)) m) (h : IsTypedSignature (of_signature xs) xs) (named : is_empty theory ≡ false) (standing : All (IsStanding xs) ks) where
    copy_typed : (k : ℕ) → IsStanding xs k → IsTypedEntry (of_signature (xs ++ more)) (entry_copied m theory within (symbol_or xs k))
    copy_typed k z =
        let e = symbol_or xs k in
        let q : slice_get xs k ≡ Some e = some_at xs k int_symbol z.there in
        let u : IsTrue ((of_signature xs).usable k) = subst (λ (o : Option SymbolTree). IsTrue (passes (λ i. not (is_empty i.theory)) o)) (sym q) (not_true (is_empty e.theory) z.stands) in
        let t : IsTypedEntry (of_signature xs) e = h.entries k e q u in
        record {
          types = types_copied (of_signature xs) (of_signature (xs ++ more)) m becomes e (entry_copied m theory within e) (record { vars = refl; args = refl; result = refl }) t.types;
          result = λ r. result_mapped m e.result (t.result r);
        }

    pub copied_typed : IsTypedSignature (of_signature (xs ++ more)) (xs ++ more)
    copied_typed = further_typed xs more h
        (All-map (IsTypedEntry (of_signature (xs ++ more))) (λ k. entry_copied m theory within (symbol_or xs k)) ks (λ i d l. copy_typed (get_or ks i d) (standing i d l)))
        (All-map IsGrounded (λ k. entry_copied m theory within (symbol_or xs k)) ks (λ i d l c. named))

  pub copied_built : IsBuiltRight xs → bytes_eq theory builtin ≡ false → IsBuiltRight (xs ++ more)
  copied_built b other = source_kept xs more b (All-map IsOfSource (λ k. entry_copied m theory within (symbol_or xs k)) ks (λ i d l. other))

-- ---- type variables
module _ (xs : List SymbolTree) (vs : List (List ℕ)) where
  pub variables_typed : IsTypedSignature (of_signature xs) xs → IsTypedSignature (of_signature (xs ++ map rigid_symbol vs)) (xs ++ map rigid_symbol vs)
  variables_typed h = further_typed xs (map rigid_symbol vs) h
      (All-map (IsTypedEntry (of_signature (xs ++ map rigid_symbol vs))) rigid_symbol vs (λ i d l. record { types = record { args = All-nil (IsTypeIn (of_signature (xs ++ map rigid_symbol vs)) 0); result = tt }; result = λ r. absurd r }))
      (All-map IsGrounded rigid_symbol vs (λ i d l c. absurd (let z : false ≡ true = c in cc)))

  pub variables_built : IsBuiltRight xs → IsBuiltRight (xs ++ map rigid_symbol vs)
  variables_built b = source_kept xs (map rigid_symbol vs) b (All-map IsOfSource rigid_symbol vs (λ i d l. refl))
