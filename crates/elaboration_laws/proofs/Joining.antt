-- A declaration of another theory is in a clone as it is among those of other theories alone.
use Rattle.std.proofs.Common.{◌≡◌, ◌⊎◌, inl, inr, ℕ, ◌&&◌, zero, suc, true, false, List, [], ◌∷◌, ◌++◌, get_or, slice_get, Contains, Option, Some, None, IsSomeAnd, IsTrue, refl, sym, ap, subst, ◌∙◌, arith, append-nil}
use Rattle.std.specs.Option.{is_some}
use Rattle.std.proofs.lemmas.List.Elements.{All-contains, Contains-get_or, Contains-append_left, Contains-append_right, Contains-append_cases}
use Rattle.elab_groups.specs.tasks.declared.signature.SymbolKind.TheVariants.{Kind, Constructor}
use Rattle.elab_groups.specs.tasks.Task.{SymbolTree, symbol_or, int_symbol, DeclarationTree, made, made_by}
use Rattle.elab_groups.specs.tasks.Roles.{is_constructor, maker, role_in, role_by}
use Rattle.elab_groups.specs.tasks.Vocabulary.{Vocabulary, passes, is_constructor_kind}
use Rattle.elab_groups.specs.tasks.Typing.{IsTypeSymbol}
use Rattle.elab_groups.specs.tasks.Valid.{IsValidDecl}
use Rattle.elab_groups.proofs.tasks.Declared.{made_maker}
use Rattle.clones.specs.Mapped.{Map}
use Rattle.elaboration_laws.specs.Scopes.{IsSubvocabulary}
use Rattle.elaboration_laws.specs.Lists.{is_built, after}
use Rattle.elaboration_laws.proofs.Lists.{or_more, list_valid}
use Rattle.elaboration_laws.proofs.Stays.{declaration_stays}
use Rattle.elaboration_laws.specs.Tasks.{IsOwnSymbol, IsOfTheory, AreSound, HasRecords}
use Rattle.elaboration_laws.proofs.Distinct.{IsDistinct, pairs_distinct, distinct_both}
use Rattle.elaboration_laws.proofs.TupleDecls.{made_both}
use Rattle.elaboration_laws.proofs.Grown.{more_part, sound_more}
use Rattle.elaboration_laws.specs.Cloning.{IsImage, IsCloning, IsFixed, KeepsBuilt}
use Rattle.elaboration_laws.proofs.Vocabularies.{usable_cases, made_below, typed_list}
use Rattle.elaboration_laws.proofs.Copied.{distinct_middle}
use Rattle.elaboration_laws.proofs.Taken.{cloning_left, cloning_taken}
use Rattle.elaboration_laws.proofs.Others.{stays_type, stays_symbol, stays_pattern}
use Rattle.elaboration_laws.proofs.Joined.{into_made, maker_found, maker_is}
use Rattle.std.proofs.lemmas.Option.{slice_get-get_or as some_at}
use Rattle.elaboration_laws.proofs.Names.{or_right as right_of}

-- ---- who makes a symbol
cases_of : (x d : DeclarationTree) (xs : List DeclarationTree) → Contains (x ∷ xs) d → (x ≡ d) ⊎ Contains xs d
cases_of x d xs (zero, l, e) = inl e
cases_of x d xs (suc j, l, e) = inr (j, omega (arith, l), e)

-- declarations among others, of which no symbol is made twice
module _ (symbols : List SymbolTree) (small big : List DeclarationTree) (distinct : IsDistinct (made big)) (among : (b : DeclarationTree) → Contains small b → Contains big b) where
  maker_same : (k : ℕ) (b : DeclarationTree) → maker small k ≡ Some b → maker big k ≡ Some b
  maker_same k b q = let x = maker_found small k b q in maker_is big k b distinct (among b x.0) x.1

  made_there : (k : ℕ) (o : Option DeclarationTree) → maker small k ≡ o → IsTrue (is_some o) → IsTrue (is_some (maker big k))
  made_there k None z h = absurd (let u : true ≡ false = sym h in cc)
  made_there k (Some b) z h = let y = maker_same k b z in rw y refl

  role_there : (k : ℕ) (o : Option DeclarationTree) → maker small k ≡ o → IsTrue (is_constructor (role_by k o)) → IsTrue (is_constructor (role_by k (maker big k)))
  role_there k None z h = absurd (let u : true ≡ false = sym h in cc)
  role_there k (Some b) z h = let y = maker_same k b z in rw y h

  pub among_part : IsSubvocabulary (after symbols [] small) (after symbols [] big)
  among_part = record {
    entries = λ k e q. q;
    rigid = λ k e q h. h;
    usable = λ k e q h. or_more _ (is_some (maker small k)) (is_some (maker big k)) (made_there k (maker small k) refl) h;
    matched = λ k e q h. or_more _ (is_constructor (role_by k (maker small k))) (is_constructor (role_by k (maker big k))) (role_there k (maker small k) refl) h;
  }

-- ---- a declaration of another theory
module _ (xs more : List SymbolTree) (pre olds : List DeclarationTree) (m : Map) (keeps : KeepsBuilt xs m) (now : List DeclarationTree) (h : IsCloning xs pre m (xs ++ more) now) (d : DeclarationTree)
    (whole : AreSound xs (pre ++ d ∷ [])) (alone : AreSound xs (olds ++ d ∷ [])) (fixed : (k : ℕ) → Contains (made (olds ++ d ∷ [])) k → IsFixed m k) (there : (b : DeclarationTree) → Contains olds b → Contains now b) where
  abbrev v : Vocabulary
  v = after xs [] (olds ++ d ∷ [])

  abbrev all : List SymbolTree
  all = xs ++ more

  fixed_at : (k n : ℕ) → IsTypeSymbol v k n → IsFixed m k
  fixed_at k n t = by (slice_get xs k) refl t.1 (usable_cases xs (olds ++ d ∷ []) k t.0)
    where
      by : (o : Option SymbolTree) → slice_get xs k ≡ o → IsSomeAnd o (λ e. (e.kind ≡ Kind) × (n ≡ e.vars)) → IsTrue (passes is_built (slice_get xs k)) ⊎ Contains (made (olds ++ d ∷ [])) k → IsFixed m k
      by None q x c = absurd x
      by (Some e) q x (inl b) = keeps k e q (subst (λ (o : Option SymbolTree). IsTrue (passes is_built o)) q b)
      by (Some e) q x (inr c) = fixed k c

  own_made : (k : ℕ) → Contains (made_by d.body) k → Contains (made (olds ++ d ∷ [])) k
  own_made k c = into_made (olds ++ d ∷ []) d k (Contains-append_right olds (d ∷ []) d (0, omega arith, refl)) c

  entry_at : (k : ℕ) → Contains (made_by d.body) k → slice_get xs k ≡ Some (symbol_or xs k)
  entry_at k c = some_at xs k int_symbol (made_below xs (olds ++ d ∷ []) alone k (own_made k c))

  usable_at : (k : ℕ) → Contains (made_by d.body) k → IsTrue (v.usable k)
  usable_at k c = right_of (passes is_built (slice_get xs k)) (is_some (maker (olds ++ d ∷ []) k)) (made_maker k (olds ++ d ∷ []) (own_made k c))

  matched_at : (k : ℕ) → Contains (made_by d.body) k → IsTrue (is_constructor (role_in k d.body)) → IsTrue (v.matched k)
  matched_at k c r =
      let is : maker (olds ++ d ∷ []) k ≡ Some d = maker_is (olds ++ d ∷ []) k d (pairs_distinct (made (olds ++ d ∷ [])) alone.once) (Contains-append_right olds (d ∷ []) d (0, omega arith, refl)) c in
      right_of (passes (λ (e : SymbolTree). is_built e && is_constructor_kind e.kind) (slice_get xs k)) (is_constructor (role_by k (maker (olds ++ d ∷ []) k)))
      (subst (λ (o : Option DeclarationTree). IsTrue (is_constructor (role_by k o))) (sym is) r)

  module _ (big : List DeclarationTree) (distinct : IsDistinct (made big)) (among : (b : DeclarationTree) → Contains (olds ++ d ∷ []) b → Contains big b) where
    part : IsSubvocabulary v (after all [] big)
    part =
        let a = more_part xs more [] (olds ++ d ∷ []) in
        let b = among_part all (olds ++ d ∷ []) big distinct among in
        record {
          entries = λ k e q. b.entries k e (a.entries k e q);
          rigid = λ k e q r. b.rigid k e (a.entries k e q) (a.rigid k e q r);
          usable = λ k e q u. b.usable k e (a.entries k e q) (a.usable k e q u);
          matched = λ k e q u. b.matched k e (a.entries k e q) (a.matched k e q u);
        }

    image : (k : ℕ) → Contains (made_by d.body) k → IsImage (after all [] big) m (symbol_or xs k) k (is_constructor (role_in k d.body))
    image k c =
        let e = symbol_or xs k in
        let q = entry_at k c in
        let f = fixed k (own_made k c) in
        record {
          type = λ z. stays_type v (after all [] big) part m fixed_at k e q f (usable_at k c) z;
          symbol = λ z. stays_symbol v (after all [] big) part m fixed_at k e q f (usable_at k c) (typed_list xs (olds ++ d ∷ []) alone k e q (inl (usable_at k c)) z) z;
          constructor = λ r z. stays_pattern v (after all [] big) part m fixed_at k e q f (matched_at k c r) (typed_list xs (olds ++ d ∷ []) alone k e q (inl (usable_at k c)) (λ i. let y : Constructor ≡ Kind = sym z ∙ i in cc)) z;
        }

    valid_there : IsValidDecl (after all [] big) d
    valid_there = declaration_stays v (after all [] big) part d (All-contains (IsValidDecl v) (olds ++ d ∷ []) d (list_valid xs [] (olds ++ d ∷ []) alone.valid) (Contains-append_right olds (d ∷ []) d (0, omega arith, refl)))

  -- it is there
  pub cloning_present : Contains now d → IsCloning xs (pre ++ d ∷ []) m all now
  cloning_present c = cloning_left xs pre m all now h d whole (image now (pairs_distinct (made now) h.sound.once) both)
    where
      both : (b : DeclarationTree) → Contains (olds ++ d ∷ []) b → Contains now b
      both b i = of (Contains-append_cases olds (d ∷ []) b i)
        where
          of : Contains olds b ⊎ Contains (d ∷ []) b → Contains now b
          of (inl z) = there b z
          of (inr z) = last (cases_of d b [] z)
            where
              last : (d ≡ b) ⊎ Contains [] b → Contains now b
              last (inl e) = subst (λ (x : DeclarationTree). Contains now x) e c
              last (inr n) = absurd (omega (arith, n.1))

  -- it comes after them
  pub cloning_joined : ((k : ℕ) → Contains (made now) k → Contains (made_by d.body) k → ⊥) → IsCloning xs (pre ++ d ∷ []) m all (now ++ d ∷ [])
  cloning_joined apart =
      let own : IsDistinct (made_by d.body) = distinct_middle (made olds) (made_by d.body) [] (subst IsDistinct (made_both olds (d ∷ [])) (pairs_distinct (made (olds ++ d ∷ [])) alone.once)) in
      let both_made : made (now ++ d ∷ []) ≡ made now ++ made_by d.body = made_both now (d ∷ []) ∙ ap (λ (ks : List ℕ). made now ++ ks) (append-nil (made_by d.body)) in
      let distinct : IsDistinct (made (now ++ d ∷ [])) = subst IsDistinct (sym both_made) (distinct_both (made now) (made_by d.body) (pairs_distinct (made now) h.sound.once) own apart) in
      let later : AreSound all (olds ++ d ∷ []) = sound_more xs more (olds ++ d ∷ []) alone h.sound.built in
      let place : Contains (olds ++ d ∷ []) d = Contains-append_right olds (d ∷ []) d (0, omega arith, refl) in
      cloning_taken xs pre m all now h d whole (valid_there (now ++ d ∷ []) distinct both)
      (λ i j l. All-contains (IsOwnSymbol all) (made (olds ++ d ∷ [])) (get_or (made_by d.body) i j) later.own (own_made (get_or (made_by d.body) i j) (Contains-get_or (made_by d.body) i j l)))
      (All-contains (IsOfTheory all) (olds ++ d ∷ []) d later.theories place) (All-contains (λ (b : DeclarationTree). HasRecords all (made_by b.body)) (olds ++ d ∷ []) d later.records place) own apart (image (now ++ d ∷ []) distinct both)
    where
      both : (b : DeclarationTree) → Contains (olds ++ d ∷ []) b → Contains (now ++ d ∷ []) b
      both b i = of (Contains-append_cases olds (d ∷ []) b i)
        where
          of : Contains olds b ⊎ Contains (d ∷ []) b → Contains (now ++ d ∷ []) b
          of (inl z) = Contains-append_left now (d ∷ []) b (there b z)
          of (inr z) = Contains-append_right now (d ∷ []) b z
