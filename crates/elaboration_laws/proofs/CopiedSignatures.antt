-- A signature is typed over what sound declarations make where each of their symbols is made right, and so are those of copies.
use Rattle.std.proofs.Common.{◌≡◌, ◌⊎◌, inl, inr, ℕ, ◌<◌, not, ◌||◌, ◌&&◌, Bool, true, false, List, [], ◌∷◌, map, length, get_or, slice_get, All, Contains, Option, Some, None, option_map, IsSomeAnd, IsTrue, refl, sym, ap, subst, ◌∙◌}
use Rattle.std.specs.Option.{is_some}
use Rattle.std.proofs.lemmas.List.Elements.{All-nil, All-cons, All-contains, All-map, Contains-get_or}
use Rattle.elab_groups.specs.trees.Tree.{Tree}
use Rattle.elab_groups.specs.tasks.declared.signature.SymbolKind.TheVariants.{Constructor}
use Rattle.elab_groups.specs.tasks.Task.{SymbolTree, symbol_or, int_symbol, DeclarationTree, made, made_by}
use Rattle.elab_groups.specs.tasks.Roles.{is_constructor, maker, role_in, role_by}
use Rattle.elab_groups.specs.tasks.Vocabulary.{Vocabulary, passes, is_constructor_kind}
use Rattle.elab_groups.specs.tasks.Typing.{MakesTerms}
use Rattle.elab_groups.proofs.tasks.Declared.{made_maker}
use Rattle.elab_groups.proofs.tasks.MadeEntries.{made_entry}
use Rattle.clones.specs.Mapped.{Map, mapped}
use Rattle.clones.specs.Copies.{declaration_copied, entry_copied}
use Rattle.elab_groups.specs.open_types.Scoped.{IsScopedEntry}
use Rattle.elaboration_laws.specs.Scopes.{is_projection_kind, IsTypedEntry, IsTypedSignature}
use Rattle.elaboration_laws.proofs.Extended.{entry_more, plain_before}
use Rattle.elaboration_laws.specs.Lists.{is_built, after}
use Rattle.elaboration_laws.proofs.Lists.{list_part, list_valid}
use Rattle.elab_groups.specs.name_resolution.Records.{constructor_before}
use Rattle.elaboration_laws.specs.Tasks.{IsOwnSymbol, AreSound, HasRecords}
use Rattle.elaboration_laws.proofs.Distinct.{pairs_distinct}
use Rattle.elaboration_laws.proofs.Joined.{matched_usable, into_made, maker_found, maker_is, from_made}
use Rattle.elaboration_laws.proofs.Begun.{built_typed, slice_or, built_plain}
use Rattle.elaboration_laws.specs.Cloning.{BecomesNew, IsMadeRight, AreMadeRight}
use Rattle.elaboration_laws.proofs.Vocabularies.{usable_cases, made_below}
use Rattle.elaboration_laws.proofs.Copied.{made_mapped, role_mapped}
use Rattle.std.proofs.lemmas.Option.{slice_get-get_or as some_at}
use Rattle.elaboration_laws.proofs.Names.{or_right as right_of}

not_built : (symbols : List SymbolTree) (k : ℕ) → IsOwnSymbol symbols k → is_built (symbol_or symbols k) ≡ false
not_built symbols k o = ap (λ (b : Bool). b && not (is_projection_kind (symbol_or symbols k).kind)) o.other

module _ (symbols : List SymbolTree) (ds : List DeclarationTree) (sound : AreSound symbols ds) where
  abbrev v : Vocabulary
  v = after symbols [] ds

  own_at : (k : ℕ) → Contains (made ds) k → IsOwnSymbol symbols k
  own_at k c = All-contains (IsOwnSymbol symbols) (made ds) k sound.own c

  there : (k : ℕ) → Contains (made ds) k → slice_get symbols k ≡ Some (symbol_or symbols k)
  there k c = some_at symbols k int_symbol (made_below symbols ds sound k c)

  usable_at : (k : ℕ) → Contains (made ds) k → IsTrue (v.usable k)
  usable_at k c = right_of (passes is_built (slice_get symbols k)) (is_some (maker ds k)) (made_maker k ds c)

  -- ---- from a typed signature
  role_of : (k : ℕ) (d : DeclarationTree) → Contains ds d → Contains (made_by d.body) k → IsTrue (v.matched k) → IsTrue (is_constructor (role_in k d.body))
  role_of k d i c m =
      let in_all = into_made ds d k i c in
      let none : passes (λ (e : SymbolTree). is_built e && is_constructor_kind e.kind) (slice_get symbols k) ≡ false =
      ap (passes (λ (e : SymbolTree). is_built e && is_constructor_kind e.kind)) (there k in_all) ∙ ap (λ (b : Bool). b && is_constructor_kind (symbol_or symbols k).kind) (not_built symbols k (own_at k in_all)) in
      let made_it : IsTrue (is_constructor (role_by k (maker ds k))) = subst (λ (b : Bool). IsTrue (b || is_constructor (role_by k (maker ds k)))) none m in
      subst (λ (o : Option DeclarationTree). IsTrue (is_constructor (role_by k o))) (maker_is ds k d (pairs_distinct (made ds) sound.once) i c) made_it

  right_at : IsTypedSignature v symbols → (d : DeclarationTree) → Contains ds d → (k : ℕ) → Contains (made_by d.body) k → IsMadeRight symbols d k
  right_at t d i k c =
      let in_all = into_made ds d k i c in
      record {
        result = (t.entries k (symbol_or symbols k) (there k in_all) (usable_at k in_all)).result;
        constructor = λ q. role_of k d i c (t.constructors k (symbol_or symbols k) (there k in_all) (usable_at k in_all) q);
      }

  pub made_right : IsTypedSignature v symbols → AreMadeRight symbols ds
  made_right t = λ i d l. λ j k m. right_at t (get_or ds i d) (Contains-get_or ds i d l) (get_or (made_by (get_or ds i d).body) j k) (Contains-get_or (made_by (get_or ds i d).body) j k m)

  -- ---- and back
  module _ (scoped : All IsScopedEntry symbols) (right : AreMadeRight symbols ds) where
    begun : IsTypedSignature (after symbols [] []) symbols
    begun = built_typed symbols sound.built scoped

    right_in : (k : ℕ) (d : DeclarationTree) → maker ds k ≡ Some d → IsMadeRight symbols d k
    right_in k d q = let x = maker_found ds k d q in All-contains (IsMadeRight symbols d) (made_by d.body) k (All-contains (λ (b : DeclarationTree). All (IsMadeRight symbols b) (made_by b.body)) ds d right x.0) x.1

    by_maker : (k : ℕ) (P : Type 0) → Contains (made ds) k → ((d : DeclarationTree) → maker ds k ≡ Some d → P) → P
    by_maker k P c f = of (maker ds k) refl (made_maker k ds c)
      where
        of : (o : Option DeclarationTree) → maker ds k ≡ o → IsTrue (is_some o) → P
        of None q h = absurd (let z : true ≡ false = sym h in cc)
        of (Some d) q h = f d q

    entry_typed : (k : ℕ) (e : SymbolTree) → slice_get symbols k ≡ Some e → IsTrue (passes is_built (slice_get symbols k)) ⊎ Contains (made ds) k → IsTypedEntry v e
    entry_typed k e q (inl b) = entry_more (after symbols [] []) v (list_part symbols [] [] ds) e (begun.entries k e q (left_built b))
      where
        left_built : IsTrue (passes is_built (slice_get symbols k)) → IsTrue ((after symbols [] []).usable k)
        left_built h = rw h refl
    entry_typed k e q (inr c) = by_maker k (IsTypedEntry v e) c (λ d z.
        let same : symbol_or symbols k ≡ e = slice_or symbols k e q in
        subst (IsTypedEntry v) same (record { types = (made_entry v k ds (list_valid symbols [] ds sound.valid) c).types; result = (right_in k d z).result }))

    con_matched : (k : ℕ) (e : SymbolTree) → slice_get symbols k ≡ Some e → e.kind ≡ Constructor → IsTrue (passes is_built (slice_get symbols k)) ⊎ Contains (made ds) k → IsTrue (v.matched k)
    con_matched k e q z (inl b) = (list_part symbols [] [] ds).matched k e q (begun.constructors k e q (rw b refl) z)
    con_matched k e q z (inr c) = by_maker k (IsTrue (v.matched k)) c (λ d y.
        let kind : (symbol_or symbols k).kind ≡ Constructor = ap (λ (x : SymbolTree). x.kind) (slice_or symbols k e q) ∙ z in
        right_of (passes (λ (x : SymbolTree). is_built x && is_constructor_kind x.kind) (slice_get symbols k)) (is_constructor (role_by k (maker ds k)))
        (subst (λ (o : Option DeclarationTree). IsTrue (is_constructor (role_by k o))) (sym y) ((right_in k d y).constructor kind)))

    record_usable : (k : ℕ) → k < length symbols → IsTrue (v.usable k) → IsTrue (passes is_built (slice_get symbols k)) ⊎ Contains (made ds) k → IsTrue (v.usable (constructor_before symbols k))
    record_usable k l u (inl b) =
        let e = symbol_or symbols k in
        let is : is_built e ≡ true = subst (λ (o : Option SymbolTree). IsTrue (passes is_built o)) (some_at symbols k int_symbol l) b in
        subst (λ (j : ℕ). IsTrue (v.usable j)) (sym (plain_before symbols k (built_plain e is))) u
    record_usable k l u (inr c) =
        let z = from_made ds k c in
        let records = All-contains (λ (d : DeclarationTree). HasRecords symbols (made_by d.body)) ds z.0 sound.records z.1 in
        usable_at (constructor_before symbols k) (into_made ds z.0 (constructor_before symbols k) z.1 (All-contains (λ (j : ℕ). Contains (made_by z.0.body) (constructor_before symbols j)) (made_by z.0.body) k records.before z.2))

    pub signature_of : IsTypedSignature v symbols
    signature_of = record {
      int = begun.int;
      int_usable = (list_part symbols [] [] ds).usable 0 int_symbol begun.int begun.int_usable;
      scoped = scoped;
      entries = λ k e q u. entry_typed k e q (usable_cases symbols ds k u);
      constructors = λ k e q u z. con_matched k e q z (usable_cases symbols ds k u);
      patterns = λ k e q m. matched_usable symbols ds k m;
      tuples = λ n k e q z. (list_part symbols [] [] ds).usable k e q (begun.tuples n k e q z);
      records = λ k l u q. record_usable k l u (usable_cases symbols ds k u);
    }

-- ---- a copy
some_mapped : (f : Tree → Tree) (o : Option Tree) → IsSomeAnd o (λ t. Unit {0}) → IsSomeAnd (option_map f o) (λ t. Unit {0})
some_mapped f None h = h
some_mapped f (Some t) h = tt

module _ (xs symbols : List SymbolTree) (m : Map) (theory within : List ℕ) (d : DeclarationTree) (below : (k : ℕ) → Contains (made_by d.body) k → k < length xs) (news : All (BecomesNew xs symbols m theory within) (made_by d.body)) (right : All (IsMadeRight xs d) (made_by d.body)) where
  copy_right : (k : ℕ) → Contains (made_by d.body) k → IsMadeRight symbols (declaration_copied m theory within d) (m.symbols k)
  copy_right k c =
      let n = All-contains (BecomesNew xs symbols m theory within) (made_by d.body) k news c in
      let r = All-contains (IsMadeRight xs d) (made_by d.body) k right c in
      let is : symbol_or symbols (m.symbols k) ≡ entry_copied m theory within (symbol_or xs k) = slice_or symbols (m.symbols k) (entry_copied m theory within (symbol_or xs k)) n.entry in
      record {
        result = λ t. subst (λ (e : SymbolTree). IsSomeAnd e.result (λ z. Unit {0})) (sym is) (some_mapped (mapped m) (symbol_or xs k).result (r.result (subst (λ (e : SymbolTree). MakesTerms e.kind) is t)));
        constructor = λ q. role_mapped m k d.body (λ i j l z. (All-contains (BecomesNew xs symbols m theory within) (made_by d.body) k news c).alone (get_or (made_by d.body) i j) (below (get_or (made_by d.body) i j) (Contains-get_or (made_by d.body) i j l)) z)
            (r.constructor (ap (λ (e : SymbolTree). e.kind) (sym is) ∙ q));
      }

  pub copied_right : AreMadeRight symbols (declaration_copied m theory within d ∷ [])
  copied_right =
      let all : All (IsMadeRight symbols (declaration_copied m theory within d)) (map m.symbols (made_by d.body)) =
      All-map (IsMadeRight symbols (declaration_copied m theory within d)) m.symbols (made_by d.body) (λ i j l. copy_right (get_or (made_by d.body) i j) (Contains-get_or (made_by d.body) i j l)) in
      All-cons (λ (b : DeclarationTree). All (IsMadeRight symbols b) (made_by b.body)) (declaration_copied m theory within d) []
      (subst (All (IsMadeRight symbols (declaration_copied m theory within d))) (sym (made_mapped m d.body)) all) (All-nil (λ (b : DeclarationTree). All (IsMadeRight symbols b) (made_by b.body)))
