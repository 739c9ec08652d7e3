-- A map of what declarations make is one of what a further one makes too, where its symbols have images.
use Rattle.std.proofs.Common.{◌≡◌, ◌≢◌, ◌⊎◌, inl, inr, ℕ, ◌&&◌, cond, Bool, true, false, List, [], ◌∷◌, ◌++◌, slice_get, Contains, Option, Some, None, IsSomeAnd, IsTrue, refl, sym, subst, arith}
use Rattle.std.specs.Option.{is_some, option_or}
use Rattle.std.proofs.lemmas.List.Elements.{Contains-append_cases}
use Rattle.elab_groups.specs.trees.Tree.{Tree}
use Rattle.elab_groups.specs.tasks.declared.signature.SymbolKind.TheVariants.{Kind, Constructor}
use Rattle.elab_groups.specs.tasks.Task.{SymbolTree, symbol_or, DeclarationTree, made, made_by}
use Rattle.elab_groups.specs.tasks.Roles.{is_constructor, is_made_by, maker, role_in, role_by}
use Rattle.elab_groups.specs.tasks.Vocabulary.{Vocabulary, passes, is_constructor_kind}
use Rattle.elab_groups.specs.tasks.Typing.{entry, IsRigid, IsTypeSymbol}
use Rattle.elab_groups.proofs.tasks.Declared.{any_iff, made_maker}
use Rattle.clones.specs.Mapped.{Map}
use Rattle.elaboration_laws.specs.Scopes.{IsSubvocabulary}
use Rattle.elaboration_laws.proofs.Extended.{type_more}
use Rattle.elaboration_laws.specs.Lists.{is_built, after}
use Rattle.elaboration_laws.proofs.Lists.{maker_both}
use Rattle.elaboration_laws.proofs.TupleDecls.{made_both}
use Rattle.elaboration_laws.specs.Morphisms.{TypeBecomes, KindBecomes, HasMappedTypes, IsMorphism}
use Rattle.elaboration_laws.specs.Cloning.{IsImage}
use Rattle.elaboration_laws.proofs.Vocabularies.{either, usable_cases}
use Rattle.elaboration_laws.proofs.Trees.{found}
use Rattle.elaboration_laws.proofs.Names.{or_left as left_of, or_right as right_of}
use Rattle.elaboration_laws.proofs.Begun.{slice_or}

-- ---- a vocabulary that may name more
module _ (w w' : Vocabulary) (part : IsSubvocabulary w w') where
  some_more : (k : ℕ) (P : SymbolTree → Type 0) → IsSomeAnd (entry w k) P → IsSomeAnd (entry w' k) P
  some_more k P h = let f = found (entry w k) P h in rw (part.entries k f.0 f.1.0) f.1.1

  usable_more : (k : ℕ) (P : SymbolTree → Type 0) → IsTrue (w.usable k) → IsSomeAnd (entry w k) P → IsTrue (w'.usable k)
  usable_more k P u h = let f = found (entry w k) P h in part.usable k f.0 f.1.0 u

  matched_more : (k : ℕ) (P : SymbolTree → Type 0) → IsTrue (w.matched k) → IsSomeAnd (entry w k) P → IsTrue (w'.matched k)
  matched_more k P u h = let f = found (entry w k) P h in part.matched k f.0 f.1.0 u

  rigid_more : (k : ℕ) → IsRigid w k → IsRigid w' k
  rigid_more k h = let f = found (entry w k) _ h.1 in (part.rigid k f.0 f.1.0 h.0, some_more k _ h.1)

  symbol_more : (k n : ℕ) → IsTypeSymbol w k n → IsTypeSymbol w' k n
  symbol_more k n h = (usable_more k _ h.0 h.1, some_more k _ h.1)

  becomes_more : (n j : ℕ) (o : Option Tree) → TypeBecomes w n j o → TypeBecomes w' n j o
  becomes_more n j None h = symbol_more j n h
  becomes_more n j (Some t) h = type_more w w' part n t h

  pub morphism_more : (v : Vocabulary) (m : Map) → IsMorphism v w m → IsMorphism v w' m
  morphism_more v m h = record {
    int = h.int;
    types = record { rigid = λ k r. rigid_more k (h.types.rigid k r); types = λ k n t. becomes_more n (m.symbols k) (m.types k) (h.types.types k n t) };
    symbols = λ k e q u nk. let x = h.symbols k e q u nk in (usable_more (m.symbols k) _ x.0 x.1, some_more (m.symbols k) _ x.1);
    patterns = λ k e q u c. let x = h.patterns k e q u c in (matched_more (m.symbols k) _ x.0 x.1, some_more (m.symbols k) _ x.1);
  }

  pub image_more : (m : Map) (e : SymbolTree) (k : ℕ) (pattern : Bool) → IsImage w m e k pattern → IsImage w' m e k pattern
  image_more m e k pattern h = record {
    type = λ q. becomes_more e.vars (m.symbols k) (m.types k) (h.type q);
    symbol = λ nk. let x = h.symbol nk in (usable_more (m.symbols k) _ x.0 x.1, some_more (m.symbols k) _ x.1);
    constructor = λ p q. let x = h.constructor p q in (matched_more (m.symbols k) _ x.0 x.1, some_more (m.symbols k) _ x.1);
  }

-- ---- a further declaration
module _ (xs : List SymbolTree) (pre : List DeclarationTree) (d : DeclarationTree) (w : Vocabulary) (m : Map) (h : IsMorphism (after xs [] pre) w m)
    (images : (k : ℕ) → Contains (made_by d.body) k → IsImage w m (symbol_or xs k) k (is_constructor (role_in k d.body))) where
  abbrev v : Vocabulary
  v = after xs [] pre

  abbrev next : Vocabulary
  next = after xs [] (pre ++ d ∷ [])

  by_d : (k : ℕ) → Contains (made (d ∷ [])) k → Contains (made_by d.body) k
  by_d k c = of (Contains-append_cases (made_by d.body) [] k c)
    where
      of : Contains (made_by d.body) k ⊎ Contains [] k → Contains (made_by d.body) k
      of (inl z) = z
      of (inr z) = absurd (omega (arith, z.1))

  usable_now : (k : ℕ) → IsTrue (next.usable k) → IsTrue (v.usable k) ⊎ Contains (made_by d.body) k
  usable_now k u = of (usable_cases xs (pre ++ d ∷ []) k u)
    where
      among : Contains (made pre) k ⊎ Contains (made (d ∷ [])) k → IsTrue (v.usable k) ⊎ Contains (made_by d.body) k
      among (inl c) = inl (right_of (passes is_built (slice_get xs k)) (is_some (maker pre k)) (made_maker k pre c))
      among (inr c) = inr (by_d k c)

      of : IsTrue (passes is_built (slice_get xs k)) ⊎ Contains (made (pre ++ d ∷ [])) k → IsTrue (v.usable k) ⊎ Contains (made_by d.body) k
      of (inl b) = inl (left_of (passes is_built (slice_get xs k)) (is_some (maker pre k)) b)
      of (inr c) = among (Contains-append_cases (made pre) (made (d ∷ [])) k (subst (λ (ks : List ℕ). Contains ks k) (made_both pre (d ∷ [])) c))

  matched_now : (k : ℕ) → IsTrue (next.matched k) → IsTrue (v.matched k) ⊎ ((Contains (made_by d.body) k) × IsTrue (is_constructor (role_in k d.body)))
  matched_now k u = of (either built (is_constructor (role_by k (maker (pre ++ d ∷ []) k))) u)
    where
      built : Bool
      built = passes (λ (e : SymbolTree). is_built e && is_constructor_kind e.kind) (slice_get xs k)

      last : (b : Bool) → is_made_by k d.body ≡ b → IsTrue (is_constructor (role_by k (cond b (Some d) None))) → (Contains (made_by d.body) k) × IsTrue (is_constructor (role_in k d.body))
      last true q r = ((any_iff k (made_by d.body)).0 q, r)
      last false q r = absurd (let e : true ≡ false = sym r in cc)

      by : (o : Option DeclarationTree) → maker pre k ≡ o → IsTrue (is_constructor (role_by k (option_or o (maker (d ∷ []) k)))) → IsTrue (v.matched k) ⊎ ((Contains (made_by d.body) k) × IsTrue (is_constructor (role_in k d.body)))
      by None q r = inr (last (is_made_by k d.body) refl r)
      by (Some b) q r = inl (right_of built (is_constructor (role_by k (maker pre k))) (subst (λ (o : Option DeclarationTree). IsTrue (is_constructor (role_by k o))) (sym q) r))

      of : IsTrue built ⊎ IsTrue (is_constructor (role_by k (maker (pre ++ d ∷ []) k))) → IsTrue (v.matched k) ⊎ ((Contains (made_by d.body) k) × IsTrue (is_constructor (role_in k d.body)))
      of (inl b) = inl (left_of built (is_constructor (role_by k (maker pre k))) b)
      of (inr r) = by (maker pre k) refl (subst (λ (o : Option DeclarationTree). IsTrue (is_constructor (role_by k o))) (maker_both pre (d ∷ []) k) r)

  image_at : (k : ℕ) (e : SymbolTree) → slice_get xs k ≡ Some e → Contains (made_by d.body) k → IsImage w m e k (is_constructor (role_in k d.body))
  image_at k e q c = subst (λ (x : SymbolTree). IsImage w m x k (is_constructor (role_in k d.body))) (slice_or xs k e q) (images k c)

  type_now : (k n : ℕ) → IsTypeSymbol next k n → TypeBecomes w n (m.symbols k) (m.types k)
  type_now k n t = of (usable_now k t.0)
    where
      of : IsTrue (v.usable k) ⊎ Contains (made_by d.body) k → TypeBecomes w n (m.symbols k) (m.types k)
      of (inl u) = h.types.types k n (u, t.1)
      of (inr c) = let f = found (slice_get xs k) _ t.1 in subst (λ (i : ℕ). TypeBecomes w i (m.symbols k) (m.types k)) (sym f.1.1.1) ((image_at k f.0 f.1.0 c).type f.1.1.0)

  pub morphism_next : IsMorphism next w m
  morphism_next = record {
    int = h.int;
    types = record { rigid = λ k r. h.types.rigid k r; types = type_now };
    symbols = λ k e q u nk. symbol_at k e q nk (usable_now k u);
    patterns = λ k e q u c. pattern_at k e q c (matched_now k u);
  }
    where
      symbol_at : (k : ℕ) (e : SymbolTree) → slice_get xs k ≡ Some e → e.kind ≢ Kind → IsTrue (v.usable k) ⊎ Contains (made_by d.body) k → IsTrue (w.usable (m.symbols k)) × IsSomeAnd (entry w (m.symbols k)) (λ j. KindBecomes e.kind j.kind × HasMappedTypes m e j)
      symbol_at k e q nk (inl u) = h.symbols k e q u nk
      symbol_at k e q nk (inr c) = (image_at k e q c).symbol nk

      pattern_at : (k : ℕ) (e : SymbolTree) → slice_get xs k ≡ Some e → e.kind ≡ Constructor → IsTrue (v.matched k) ⊎ ((Contains (made_by d.body) k) × IsTrue (is_constructor (role_in k d.body)))
          → IsTrue (w.matched (m.symbols k)) × IsSomeAnd (entry w (m.symbols k)) (λ j. (j.kind ≡ Constructor) × HasMappedTypes m e j)
      pattern_at k e q c (inl u) = h.patterns k e q u c
      pattern_at k e q c (inr z) = (image_at k e q z.0).constructor z.1 c
