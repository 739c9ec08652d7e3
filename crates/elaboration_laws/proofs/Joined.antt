-- Sound declarations with those of theories that aren't among them yet are sound.
use Rattle.std.proofs.Common.{◌≡◌, ◌⊎◌, inl, inr, ℕ, ◌<◌, not, ◌&&◌, ◌||◌, zero, suc, cond, Bool, true, false, List, [], ◌∷◌, ◌++◌, length, get_or, slice_get, All, Option, Some, None, IsTrue, refl, sym, ap, subst, ◌∙◌, arith, append_assoc, append-nil}
use Rattle.std.specs.List.{filter, Contains}
use Rattle.std.specs.Option.{is_some}
use Rattle.std.specs.Str.{bytes_eq}
use Rattle.std.proofs.lemmas.List.Elements.{All-append, All-contains, All-contains_itself, All-filter, Contains-get_or, Contains-append_left, Contains-append_right, Contains-append_cases, filter-append}
use Rattle.elab_groups.specs.tasks.declared.signature.SymbolKind.TheVariants.{Constructor}
use Rattle.elab_groups.specs.tasks.Task.{SymbolTree, symbol_or, int_symbol, DeclarationTree, made, made_by}
use Rattle.elab_groups.specs.tasks.Roles.{is_constructor, is_made_by, maker, role_by}
use Rattle.elab_groups.specs.tasks.Vocabulary.{passes, is_constructor_kind}
use Rattle.elab_groups.specs.tasks.Valid.{IsValidDecl}
use Rattle.elab_groups.proofs.tasks.Declared.{none_in, any_iff, maker_made, made_maker}
use Rattle.elaboration_laws.specs.Scopes.{IsSubvocabulary, IsTypedEntry, IsTypedSignature}
use Rattle.elab_groups.specs.name_resolution.Records.{constructor_before}
use Rattle.elab_groups.proofs.parts.RecordsKept.{before_below, entry_kept, before_kept}
use Rattle.elaboration_laws.proofs.Declarations.{below as slice_below}
use Rattle.elaboration_laws.proofs.Extended.{further, entry_more}
use Rattle.elaboration_laws.proofs.Words.{self_word}
use Rattle.elaboration_laws.specs.Lists.{is_built, after, AreValidAfter}
use Rattle.elaboration_laws.proofs.Lists.{or_more, list_part}
use Rattle.elaboration_laws.proofs.Stays.{declaration_stays}
use Rattle.elaboration_laws.specs.Joined.{has_theory, fresh, Agree}
use Rattle.elaboration_laws.specs.Tasks.{IsOwnSymbol, IsOfTheory, AreSound, HasRecords}
use Rattle.elaboration_laws.proofs.Distinct.{IsDistinct, distinct_pairs, pairs_distinct, distinct_both}
use Rattle.elaboration_laws.proofs.TupleDecls.{made_both}
use Rattle.elaboration_laws.proofs.TaskSound.{each_made, maker_all}
use Rattle.elaboration_laws.proofs.Grown.{own_below, more_part, sound_more, then_valid, front_distinct}
use Rattle.std.proofs.lemmas.Option.{slice_get-get_or as some_at}

-- ---- declarations in lists
cases_of : (x d : DeclarationTree) (xs : List DeclarationTree) → Contains (x ∷ xs) d → (d ≡ x) ⊎ Contains xs d
cases_of x d xs (zero, l, e) = inl (sym e)
cases_of x d xs (suc j, l, e) = inr (j, omega (arith, l), e)

step_of : (x d : DeclarationTree) (xs : List DeclarationTree) → (d ≡ x) ⊎ Contains xs d → Contains (x ∷ xs) d
step_of x d xs (inl e) = (0, omega arith, sym e)
step_of x d xs (inr h) = (suc h.0, let l = h.1 in omega (arith, l), h.2)

pub from_made : (ds : List DeclarationTree) (k : ℕ) → Contains (made ds) k → (d : DeclarationTree) × (Contains ds d) × Contains (made_by d.body) k
from_made [] k h = absurd (none_in k h)
from_made (x ∷ ds) k h = of (Contains-append_cases (made_by x.body) (made ds) k h) (λ i. from_made ds k i)
  where
    of : Contains (made_by x.body) k ⊎ Contains (made ds) k → (Contains (made ds) k → (d : DeclarationTree) × (Contains ds d) × Contains (made_by d.body) k) → (d : DeclarationTree) × (Contains (x ∷ ds) d) × Contains (made_by d.body) k
    of (inl i) f = (x, step_of x x ds (inl refl), i)
    of (inr i) f = let y = f i in (y.0, step_of x y.0 ds (inr y.1), y.2)

pub into_made : (ds : List DeclarationTree) (d : DeclarationTree) (k : ℕ) → Contains ds d → Contains (made_by d.body) k → Contains (made ds) k
into_made ds d k h i = each_made ds h.0 d h.1 k (subst (λ (e : DeclarationTree). Contains (made_by e.body) k) (sym h.2) i)

pub maker_found : (ds : List DeclarationTree) (k : ℕ) (b : DeclarationTree) → maker ds k ≡ Some b → Contains ds b × Contains (made_by b.body) k
maker_found ds k b q = maker_all (Contains ds) ds k b (All-contains_itself ds) q

pub distinct_apart : (xs ys : List ℕ) (k : ℕ) → IsDistinct (xs ++ ys) → Contains xs k → Contains ys k → ⊥
distinct_apart [] ys k h a b = none_in k a
distinct_apart (x ∷ xs) ys k h (zero, l, e) b = h.0 (Contains-append_right xs ys x (let q : x ≡ k = e in subst (λ (i : ℕ). Contains ys i) (sym q) b))
distinct_apart (x ∷ xs) ys k h (suc j, l, e) b = distinct_apart xs ys k h.1 (j, omega (arith, l), e) b

pub distinct_last : (xs ys : List ℕ) → IsDistinct (xs ++ ys) → IsDistinct ys
distinct_last [] ys h = h
distinct_last (x ∷ xs) ys h = distinct_last xs ys h.1

-- where no symbol is made twice, who makes one is found
pub maker_is : (ds : List DeclarationTree) (k : ℕ) (b : DeclarationTree) → IsDistinct (made ds) → Contains ds b → Contains (made_by b.body) k → maker ds k ≡ Some b
maker_is [] k b h i j = absurd (omega (arith, i.1))
maker_is (x ∷ ds) k b h i j = of (is_made_by k x.body) refl (cases_of x b ds i) (λ z. maker_is ds k b (distinct_last (made_by x.body) (made ds) h) z j)
  where
    of : (t : Bool) → is_made_by k x.body ≡ t → (b ≡ x) ⊎ Contains ds b → (Contains ds b → maker ds k ≡ Some b) → cond t (Some x) (maker ds k) ≡ Some b
    of true q (inl e) f = ap Some (sym e)
    of true q (inr z) f = absurd (distinct_apart (made_by x.body) (made ds) k h ((any_iff k (made_by x.body)).0 q) (into_made ds b k z j))
    of false q (inl e) f = absurd (let u : is_made_by k x.body ≡ true = (any_iff k (made_by x.body)).1 (subst (λ (d : DeclarationTree). Contains (made_by d.body) k) e j) in let v : true ≡ false = sym u ∙ q in cc)
    of false q (inr z) f = f z

-- ---- some of a list
module _ (p : DeclarationTree → Bool) where
  in_filter : (xs : List DeclarationTree) (d : DeclarationTree) → p d ≡ true → Contains xs d → Contains (filter p xs) d
  in_filter [] d q h = h
  in_filter (x ∷ xs) d q h = of (p x) refl (cases_of x d xs h) (λ z. in_filter xs d q z)
    where
      of : (b : Bool) → p x ≡ b → (d ≡ x) ⊎ Contains xs d → (Contains xs d → Contains (filter p xs) d) → Contains (cond b (x ∷ filter p xs) (filter p xs)) d
      of true e (inl z) f = step_of x d (filter p xs) (inl z)
      of true e (inr z) f = step_of x d (filter p xs) (inr (f z))
      of false e (inl z) f = absurd (let u : p d ≡ false = ap p z ∙ e in let v : true ≡ false = sym q ∙ u in cc)
      of false e (inr z) f = f z

  filtered : (xs : List DeclarationTree) (d : DeclarationTree) → Contains (filter p xs) d → (p d ≡ true) × Contains xs d
  filtered [] d h = absurd (omega (arith, h.1))
  filtered (x ∷ xs) d h = of (p x) refl h (λ z. filtered xs d z)
    where
      from : (p d ≡ true) × Contains xs d → (p d ≡ true) × Contains (x ∷ xs) d
      from z = (z.0, step_of x d xs (inr z.1))

      first : p x ≡ true → (d ≡ x) ⊎ Contains (filter p xs) d → (Contains (filter p xs) d → (p d ≡ true) × Contains xs d) → (p d ≡ true) × Contains (x ∷ xs) d
      first e (inl z) f = (ap p z ∙ e, step_of x d xs (inl z))
      first e (inr z) f = from (f z)

      of : (b : Bool) → p x ≡ b → Contains (cond b (x ∷ filter p xs) (filter p xs)) d → (Contains (filter p xs) d → (p d ≡ true) × Contains xs d) → (p d ≡ true) × Contains (x ∷ xs) d
      of true e c f = first e (cases_of x d (filter p xs) c) f
      of false e c f = from (f c)

  filter_made : (xs : List DeclarationTree) (k : ℕ) → Contains (made (filter p xs)) k → Contains (made xs) k
  filter_made xs k h =
      let x = from_made (filter p xs) k h in
      into_made xs x.0 k (filtered xs x.0 x.1).1 x.2

  filter_distinct : (xs : List DeclarationTree) → IsDistinct (made xs) → IsDistinct (made (filter p xs))
  filter_distinct [] h = tt
  filter_distinct (x ∷ xs) h = of (p x) (filter_distinct xs (distinct_last (made_by x.body) (made xs) h))
    where
      of : (b : Bool) → IsDistinct (made (filter p xs)) → IsDistinct (made (cond b (x ∷ filter p xs) (filter p xs)))
      of true i = distinct_both (made_by x.body) (made (filter p xs)) (front_distinct (made_by x.body) (made xs) h) i (λ k a b. distinct_apart (made_by x.body) (made xs) k h a (filter_made xs k b))
      of false i = i

-- ---- two lists
pub theory_there : (ds : List DeclarationTree) (d : DeclarationTree) → Contains ds d → has_theory ds d.theory ≡ true
theory_there [] d h = absurd (omega (arith, h.1))
theory_there (x ∷ ds) d h = of (cases_of x d ds h) (λ z. theory_there ds d z)
  where
    later : (a b : Bool) → b ≡ true → (a || b) ≡ true
    later true b q = refl
    later false b q = q

    of : (d ≡ x) ⊎ Contains ds d → (Contains ds d → has_theory ds d.theory ≡ true) → has_theory (x ∷ ds) d.theory ≡ true
    of (inl e) f = let q : bytes_eq x.theory d.theory ≡ true = ap (λ (i : DeclarationTree). bytes_eq i.theory d.theory) (sym e) ∙ self_word d.theory in rw q refl
    of (inr z) f = later (bytes_eq x.theory d.theory) (has_theory ds d.theory) (f z)

module _ (symbols : List SymbolTree) (ds es : List DeclarationTree) (first : AreSound symbols ds) (second : AreSound symbols es) (agree : Agree ds es) where
  abbrev p : DeclarationTree → Bool
  p e = not (has_theory ds e.theory)

  abbrev new : List DeclarationTree
  new = fresh ds es

  not_both : (b : Bool) → b ≡ true → not b ≡ true → ⊥
  not_both true q z = let u : false ≡ true = z in cc
  not_both false q z = let u : false ≡ true = q in cc

  apart : (k : ℕ) → Contains (made ds) k → Contains (made new) k → ⊥
  apart k a b =
      let x = from_made ds k a in
      let y = from_made new k b in
      let z = filtered p es y.0 y.1 in
      let one : (symbol_or symbols k).theory ≡ x.0.theory = All-contains (λ (i : ℕ). (symbol_or symbols i).theory ≡ x.0.theory) (made_by x.0.body) k (All-contains (IsOfTheory symbols) ds x.0 first.theories x.1) x.2 in
      let two : (symbol_or symbols k).theory ≡ y.0.theory = All-contains (λ (i : ℕ). (symbol_or symbols i).theory ≡ y.0.theory) (made_by y.0.body) k (All-contains (IsOfTheory symbols) es y.0 second.theories z.1) y.2 in
      let same : x.0.theory ≡ y.0.theory = sym one ∙ two in
      let there : has_theory ds y.0.theory ≡ true = ap (has_theory ds) (sym same) ∙ theory_there ds x.0 x.1 in
      not_both (has_theory ds y.0.theory) there z.0

  distinct : IsDistinct (made (ds ++ new))
  distinct = subst IsDistinct (sym (made_both ds new)) (distinct_both (made ds) (made new) (pairs_distinct (made ds) first.once) (filter_distinct p es (pairs_distinct (made es) second.once)) apart)

  -- a declaration of the second list is in a part of both that has those before it
  stands : (e b : DeclarationTree) (pre : List DeclarationTree) → Contains es b → p e ≡ true → Contains (pre ++ e ∷ []) b → Contains ((ds ++ filter p pre) ++ e ∷ []) b
  stands e b pre i q h = of (has_theory ds b.theory) refl (Contains-append_cases pre (e ∷ []) b h)
    where
      of : (t : Bool) → has_theory ds b.theory ≡ t → Contains pre b ⊎ Contains (e ∷ []) b → Contains ((ds ++ filter p pre) ++ e ∷ []) b
      of t z (inr c) = Contains-append_right (ds ++ filter p pre) (e ∷ []) b c
      of true z (inl c) = Contains-append_left (ds ++ filter p pre) (e ∷ []) b (Contains-append_left ds (filter p pre) b (All-contains (λ (x : DeclarationTree). IsTrue (has_theory ds x.theory) → Contains ds x) es b agree i z))
      of false z (inl c) = Contains-append_left (ds ++ filter p pre) (e ∷ []) b (Contains-append_right ds (filter p pre) b (in_filter p pre b (ap not z) c))

  module _ (pre rest : List DeclarationTree) (e : DeclarationTree) (whole : es ≡ pre ++ e ∷ rest) (q : p e ≡ true) where
    abbrev old : List DeclarationTree
    old = pre ++ e ∷ []

    abbrev both : List DeclarationTree
    both = (ds ++ filter p pre) ++ e ∷ []

    new_is : new ≡ filter p pre ++ e ∷ filter p rest
    new_is = let z : filter p (e ∷ rest) ≡ e ∷ filter p rest = rw q refl in ap (filter p) whole ∙ (filter-append p pre (e ∷ rest) ∙ ap (λ (xs : List DeclarationTree). filter p pre ++ xs) z)

    both_front : ds ++ new ≡ both ++ filter p rest
    both_front =
        ap (λ (xs : List DeclarationTree). ds ++ xs) new_is ∙ (sym (append_assoc ds (filter p pre) (e ∷ filter p rest)) ∙ sym (append_assoc (ds ++ filter p pre) (e ∷ []) (filter p rest)))

    both_distinct : IsDistinct (made both)
    both_distinct =
        let z : made (ds ++ new) ≡ made both ++ made (filter p rest) = ap made both_front ∙ made_both both (filter p rest) in
        front_distinct (made both) (made (filter p rest)) (subst IsDistinct z distinct)

    old_in : (b : DeclarationTree) → Contains old b → Contains es b
    old_in b h = let z : old ++ rest ≡ es = append_assoc pre (e ∷ []) rest ∙ sym whole in subst (λ (xs : List DeclarationTree). Contains xs b) z (Contains-append_left old rest b h)

    maker_same : (k : ℕ) (b : DeclarationTree) → maker old k ≡ Some b → maker both k ≡ Some b
    maker_same k b z = let x = maker_found old k b z in maker_is both k b both_distinct (stands e b pre (old_in b x.0) q x.0) x.1

    made_more : (k : ℕ) (o : Option DeclarationTree) → maker old k ≡ o → IsTrue (is_some o) → IsTrue (is_some (maker both k))
    made_more k None z h = absurd (let u : true ≡ false = sym h in cc)
    made_more k (Some b) z h = let y = maker_same k b z in rw y refl

    role_more : (k : ℕ) (o : Option DeclarationTree) → maker old k ≡ o → IsTrue (is_constructor (role_by k o)) → IsTrue (is_constructor (role_by k (maker both k)))
    role_more k None z h = absurd (let u : true ≡ false = sym h in cc)
    role_more k (Some b) z h = let y = maker_same k b z in rw y h

    joined_part : IsSubvocabulary (after symbols [] old) (after symbols [] both)
    joined_part = record {
      entries = λ k i z. z;
      rigid = λ k i z h. h;
      usable = λ k i z h. or_more _ (is_some (maker old k)) (is_some (maker both k)) (made_more k (maker old k) refl) h;
      matched = λ k i z h. or_more _ (is_constructor (role_by k (maker old k))) (is_constructor (role_by k (maker both k))) (role_more k (maker old k) refl) h;
    }

  joined_from : (pre rest : List DeclarationTree) → es ≡ pre ++ rest → AreValidAfter symbols pre rest → AreValidAfter symbols (ds ++ filter p pre) (filter p rest)
  joined_from pre [] w h = tt
  joined_from pre (e ∷ rest) w h =
      let w' : es ≡ (pre ++ e ∷ []) ++ rest = w ∙ sym (append_assoc pre (e ∷ []) rest) in
      of (p e) refl (joined_from (pre ++ e ∷ []) rest w' h.1)
    where
      of : (b : Bool) → p e ≡ b → AreValidAfter symbols (ds ++ filter p (pre ++ e ∷ [])) (filter p rest) → AreValidAfter symbols (ds ++ filter p pre) (cond b (e ∷ filter p rest) (filter p rest))
      of true q i =
          let one : filter p (e ∷ []) ≡ e ∷ [] = rw q refl in
          let z : ds ++ filter p (pre ++ e ∷ []) ≡ (ds ++ filter p pre) ++ e ∷ [] = ap (λ (xs : List DeclarationTree). ds ++ xs) (filter-append p pre (e ∷ []) ∙ ap (λ (xs : List DeclarationTree). filter p pre ++ xs) one) ∙ sym (append_assoc ds (filter p pre) (e ∷ [])) in
          let valid : IsValidDecl (after symbols [] (pre ++ e ∷ [])) e = h.0 in
          (declaration_stays (after symbols [] (pre ++ e ∷ [])) (after symbols [] ((ds ++ filter p pre) ++ e ∷ [])) (joined_part pre rest e w q) e valid, subst (λ (xs : List DeclarationTree). AreValidAfter symbols xs (filter p rest)) z i)
      of false q i =
          let none : filter p (e ∷ []) ≡ [] = rw q refl in
          let z : ds ++ filter p (pre ++ e ∷ []) ≡ ds ++ filter p pre = ap (λ (xs : List DeclarationTree). ds ++ xs) (filter-append p pre (e ∷ []) ∙ (ap (λ (xs : List DeclarationTree). filter p pre ++ xs) none ∙ append-nil (filter p pre))) in
          subst (λ (xs : List DeclarationTree). AreValidAfter symbols xs (filter p rest)) z i

  pub joined_sound : AreSound symbols (ds ++ new)
  joined_sound = record {
    built = first.built;
    valid = then_valid symbols [] ds new first.valid (subst (λ (xs : List DeclarationTree). AreValidAfter symbols xs new) (append-nil ds) (joined_from [] es refl second.valid));
    once = distinct_pairs (made (ds ++ new)) distinct;
    own = subst (All (IsOwnSymbol symbols)) (sym (made_both ds new)) (All-append (IsOwnSymbol symbols) (made ds) (made new) first.own (λ k i l. All-contains (IsOwnSymbol symbols) (made es) (get_or (made new) k i) second.own (filter_made p es (get_or (made new) k i) (Contains-get_or (made new) k i l))));
    theories = All-append (IsOfTheory symbols) ds new first.theories (All-filter p (IsOfTheory symbols) es second.theories);
    records = All-append (λ (d : DeclarationTree). HasRecords symbols (made_by d.body)) ds new first.records (All-filter p (λ (d : DeclarationTree). HasRecords symbols (made_by d.body)) es second.records);
  }

  -- what the second list makes may be named as before
  whole_part : IsSubvocabulary (after symbols [] es) (after symbols [] (ds ++ new))
  whole_part = record {
    entries = λ k i z. z;
    rigid = λ k i z h. h;
    usable = λ k i z h. or_more _ (is_some (maker es k)) (is_some (maker (ds ++ new) k)) (made_there k (maker es k) refl) h;
    matched = λ k i z h. or_more _ (is_constructor (role_by k (maker es k))) (is_constructor (role_by k (maker (ds ++ new) k))) (role_there k (maker es k) refl) h;
  }
    where
      there : (b : DeclarationTree) → Contains es b → Contains (ds ++ new) b
      there b i = of (has_theory ds b.theory) refl
        where
          of : (t : Bool) → has_theory ds b.theory ≡ t → Contains (ds ++ new) b
          of true z = Contains-append_left ds new b (All-contains (λ (x : DeclarationTree). IsTrue (has_theory ds x.theory) → Contains ds x) es b agree i z)
          of false z = Contains-append_right ds new b (in_filter p es b (ap not z) i)

      same : (k : ℕ) (b : DeclarationTree) → maker es k ≡ Some b → maker (ds ++ new) k ≡ Some b
      same k b z = let x = maker_found es k b z in maker_is (ds ++ new) k b distinct (there b x.0) x.1

      made_there : (k : ℕ) (o : Option DeclarationTree) → maker es k ≡ o → IsTrue (is_some o) → IsTrue (is_some (maker (ds ++ new) k))
      made_there k None z h = absurd (let u : true ≡ false = sym h in cc)
      made_there k (Some b) z h = let y = same k b z in rw y refl

      role_there : (k : ℕ) (o : Option DeclarationTree) → maker es k ≡ o → IsTrue (is_constructor (role_by k o)) → IsTrue (is_constructor (role_by k (maker (ds ++ new) k)))
      role_there k None z h = absurd (let u : true ≡ false = sym h in cc)
      role_there k (Some b) z h = let y = same k b z in rw y h

-- ---- signatures
pub matched_usable : (symbols : List SymbolTree) (ds : List DeclarationTree) (k : ℕ) → IsTrue ((after symbols [] ds).matched k) → IsTrue ((after symbols [] ds).usable k)
matched_usable symbols ds k h = of (slice_get symbols k) h
  where
    by : (a b c d : Bool) → (IsTrue c → IsTrue d) → IsTrue ((a && b) || c) → IsTrue (a || d)
    by true b c d f h = refl
    by false b c d f h = f h

    con : (o : Option DeclarationTree) → IsTrue (is_constructor (role_by k o)) → IsTrue (is_some o)
    con None h = absurd (let u : true ≡ false = sym h in cc)
    con (Some b) h = refl

    of : (o : Option SymbolTree) → IsTrue (passes (λ (e : SymbolTree). is_built e && is_constructor_kind e.kind) o || is_constructor (role_by k (maker ds k))) → IsTrue (passes is_built o || is_some (maker ds k))
    of None h = con (maker ds k) h
    of (Some e) h = by (is_built e) (is_constructor_kind e.kind) (is_constructor (role_by k (maker ds k))) (is_some (maker ds k)) (con (maker ds k)) h

module _ (xs ys : List SymbolTree) (ds es : List DeclarationTree) (first : AreSound (xs ++ ys) ds) (second : AreSound xs es) (agree : Agree ds es) where
  abbrev all : List SymbolTree
  all = xs ++ ys

  abbrev joined : List DeclarationTree
  joined = ds ++ fresh ds es

  again : AreSound all es
  again = sound_more xs ys es second first.built

  pub later_sound : AreSound all joined
  later_sound = joined_sound all ds es first again agree

  pub first_part : IsSubvocabulary (after all [] ds) (after all [] joined)
  first_part = list_part all [] ds (fresh ds es)

  pub second_part : IsSubvocabulary (after xs [] es) (after all [] joined)
  second_part =
      let a = more_part xs ys [] es in
      let b = whole_part all ds es first again agree in
      record {
        entries = λ k e q. b.entries k e (a.entries k e q);
        rigid = λ k e q h. b.rigid k e (a.entries k e q) (a.rigid k e q h);
        usable = λ k e q h. b.usable k e (a.entries k e q) (a.usable k e q h);
        matched = λ k e q h. b.matched k e (a.entries k e q) (a.matched k e q h);
      }

  module _ (typed : IsTypedSignature (after all [] ds) all) (typed' : IsTypedSignature (after xs [] es) xs) where
    abbrev IsFrom : ℕ → SymbolTree → Type 0
    IsFrom k e = IsTrue ((after all [] ds).usable k) ⊎ ((slice_get xs k ≡ Some e) × IsTrue ((after xs [] es).usable k))

    from : (k : ℕ) (e : SymbolTree) → slice_get all k ≡ Some e → IsTrue ((after all [] joined).usable k) → IsFrom k e
    from k e q h = of (passes is_built (slice_get all k)) refl h
      where
        right : (b c : Bool) → IsTrue c → IsTrue (b || c)
        right true c h = refl
        right false c h = h

        made_in : Contains (made es) k → IsFrom k e
        made_in c =
            let l : k < length xs = own_below xs ys k (All-contains (IsOwnSymbol xs) (made es) k second.own c) in
            let z : slice_get xs k ≡ Some (symbol_or xs k) = some_at xs k int_symbol l in
            let y : Some (symbol_or xs k) ≡ Some e = sym (further xs ys k (symbol_or xs k) z) ∙ q in
            inr (z ∙ y, right (passes is_built (slice_get xs k)) (is_some (maker es k)) (made_maker k es c))

        cases : Contains (made ds) k ⊎ Contains (made (fresh ds es)) k → IsFrom k e
        cases (inl c) = inl (right (passes is_built (slice_get all k)) (is_some (maker ds k)) (made_maker k ds c))
        cases (inr c) = made_in (filter_made (λ (d : DeclarationTree). not (has_theory ds d.theory)) es k c)

        of : (b : Bool) → passes is_built (slice_get all k) ≡ b → IsTrue (b || is_some (maker joined k)) → IsFrom k e
        of true z h = inl (subst (λ (b : Bool). IsTrue (b || is_some (maker ds k))) (sym z) refl)
        of false z h = cases (Contains-append_cases (made ds) (made (fresh ds es)) k (subst (λ (ns : List ℕ). Contains ns k) (made_both ds (fresh ds es)) (maker_made k joined h)))

    pub later_typed : IsTypedSignature (after all [] joined) all
    later_typed = record {
      int = typed.int;
      int_usable = first_part.usable 0 int_symbol typed.int typed.int_usable;
      scoped = typed.scoped;
      entries = λ k e q h. entry_of k e q (from k e q h);
      constructors = λ k e q h z. con_of k e q z (from k e q h);
      patterns = λ k e q h. matched_usable all joined k h;
      tuples = λ n k e q z. first_part.usable k e q (typed.tuples n k e q z);
      records = λ k l u q. record_of k l q (from k (symbol_or all k) (some_at all k int_symbol l) u);
    }
      where
        entry_of : (k : ℕ) (e : SymbolTree) → slice_get all k ≡ Some e → IsFrom k e → IsTypedEntry (after all [] joined) e
        entry_of k e q (inl u) = entry_more (after all [] ds) (after all [] joined) first_part e (typed.entries k e q u)
        entry_of k e q (inr u) = entry_more (after xs [] es) (after all [] joined) second_part e (typed'.entries k e u.0 u.1)

        con_of : (k : ℕ) (e : SymbolTree) → slice_get all k ≡ Some e → e.kind ≡ Constructor → IsFrom k e → IsTrue ((after all [] joined).matched k)
        con_of k e q z (inl u) = first_part.matched k e q (typed.constructors k e q u z)
        con_of k e q z (inr u) = second_part.matched k e u.0 (typed'.constructors k e u.0 u.1 z)

        record_of : (k : ℕ) → k < length all → (symbol_or all (constructor_before all k)).kind ≡ Constructor → IsFrom k (symbol_or all k) → IsTrue ((after all [] joined).usable (constructor_before all k))
        record_of k l q (inl u) =
            let c = constructor_before all k in
            first_part.usable c (symbol_or all c) (some_at all c int_symbol (omega (arith, l, before_below all k))) (typed.records k l u q)
        record_of k l q (inr u) =
            let m : k < length xs = slice_below xs k (symbol_or all k) u.0 in
            let c = constructor_before xs k in
            let n : constructor_before xs k < length xs = omega (arith, m, before_below xs k) in
            let same : constructor_before xs k ≡ constructor_before all k = before_kept xs ys k m in
            let kind = ap (λ (e : SymbolTree). e.kind) (entry_kept xs ys c n ∙ ap (symbol_or all) same) in
            subst (λ (j : ℕ). IsTrue ((after all [] joined).usable j)) same (second_part.usable c (symbol_or xs c) (some_at xs c int_symbol n) (typed'.records k m u.1 (kind ∙ q)))
