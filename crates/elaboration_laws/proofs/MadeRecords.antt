-- With a field, an algebraic declaration makes the constructor before it.
use Rattle.std.proofs.Common.{◌≡◌, ◌⊎◌, inl, inr, ℕ, ◌+◌, ◌-◌, ◌<◌, ◌≤◌, zero, suc, Bool, true, false, cond, List, [], ◌∷◌, ◌++◌, map, length, get_or, slice_get, All, Some, refl, sym, ap, subst, ◌∙◌, arith}
use Rattle.std.specs.List.{Contains, AllByRecursion}
use Rattle.std.proofs.lemmas.List.Elements.{All-nil, All-cons, All-head, All-tail, All-contains, All-from_recursion, recursion_from_All, Contains-get_or, Contains-append_left, Contains-append_right}
use Rattle.elab_groups.specs.trees.Tree.{Tree}
use Rattle.elab_groups.specs.tasks.declared.signature.SymbolKind.{SymbolKind}
use Rattle.elab_groups.specs.tasks.declared.signature.SymbolKind.TheVariants.{Kind, Constructor, Projection, Predicate}
use Rattle.elab_groups.specs.tasks.Task.{SymbolTree, symbol_or, InductiveTree, ConstructorTree, AlgebraicTree, BodyTree, MakesType, Makes, Defines, Induces, Constructs, Says, DeclarationTree, made, made_by, made_by_cons, made_by_types}
use Rattle.elab_groups.specs.tasks.Vocabulary.{Vocabulary}
use Rattle.elab_groups.specs.tasks.Valid.{IsProjectionOf, AreProjections, IsConstructorOf, IsAlgebraic, IsValidBody}
use Rattle.elab_groups.specs.name_resolution.Records.{is_projection, constructor_before}
use Rattle.elab_groups.proofs.open_types.Below.{both_all}
use Rattle.elab_groups.proofs.parts.RecordsKept.{before_below, entry_kept, before_kept}
use Rattle.elaboration_laws.specs.Lists.{after, AreValidAfter}
use Rattle.elaboration_laws.specs.Tasks.{HasRecords}
use Rattle.elaboration_laws.specs.Steps.{AreConsecutive}
use Rattle.elaboration_laws.proofs.Extended.{plain_before, before_from}

-- ---- numbers one after another
abbrev pub AreNext : ℕ → List ℕ → Type 0
AreNext n [] = Unit {0}
AreNext n (k ∷ ks) = (k ≡ n + 1) × AreNext k ks

-- the projections of each constructor come right after it
abbrev pub ConsNumbered : List ConstructorTree → Type 0
ConsNumbered [] = Unit {0}
ConsNumbered (c ∷ cs) = AreNext c.symbol c.projections × ConsNumbered cs

abbrev pub TypesNumbered : List AlgebraicTree → Type 0
TypesNumbered [] = Unit {0}
TypesNumbered (a ∷ ts) = ConsNumbered a.cons × TypesNumbered ts

abbrev pub ArePlain : List SymbolTree → List ℕ → Type 0
ArePlain symbols ks = AllByRecursion (λ (k : ℕ). is_projection (symbol_or symbols k).kind ≡ false) ks

-- no other declaration makes projections
abbrev pub IsNumbered : List SymbolTree → BodyTree → Type 0
IsNumbered symbols (Constructs ts) = TypesNumbered ts
IsNumbered symbols b = ArePlain symbols (made_by b)

head_in : (k : ℕ) (ks : List ℕ) → Contains (k ∷ ks) k
head_in k ks = (0, omega arith, refl)

plain_kind : (k j : SymbolKind) → k ≡ j → is_projection j ≡ false → is_projection k ≡ false
plain_kind k j q h = ap is_projection q ∙ h

module _ (symbols : List SymbolTree) where
  abbrev cb : ℕ → ℕ
  cb k = constructor_before symbols k

  -- ---- where nothing is a projection
  plain_in : (all ks : List ℕ) → ArePlain symbols ks → ((k : ℕ) → Contains ks k → Contains all k) → AllByRecursion (λ (k : ℕ). Contains all (cb k)) ks
  plain_in all [] h f = tt
  plain_in all (k ∷ ks) h f =
      (subst (Contains all) (sym (plain_before symbols k h.0)) (f k (head_in k ks)), plain_in all ks h.1 (λ j c. f j (Contains-append_right (k ∷ []) ks j c)))

  first_plain : (ks : List ℕ) → ArePlain symbols ks → (k : ℕ) → slice_get ks 0 ≡ Some k → is_projection (symbol_or symbols k).kind ≡ false
  first_plain [] h k q = absurd (cc (q))
  first_plain (j ∷ ks) h k q = let z : j ≡ k = cc (q) in subst (λ (i : ℕ). is_projection (symbol_or symbols i).kind ≡ false) z h.0

  pub plain_records : (ks : List ℕ) → ArePlain symbols ks → HasRecords symbols ks
  plain_records ks h = record { first = first_plain ks h; before = All-from_recursion (λ (k : ℕ). Contains ks (cb k)) ks (plain_in ks ks h (λ k c. c)) }

  -- ---- an algebraic declaration
  one_back : (n k : ℕ) → k ≡ n + 1 → is_projection (symbol_or symbols k).kind ≡ true → cb k ≡ cb n
  one_back n zero e h = absurd (omega (arith, e))
  one_back n (suc k) e h = let q : k ≡ n = omega (arith, e) in ap (λ (b : Bool). cond b (cb k) (suc k)) h ∙ ap cb q

  all_then : (c d : ℕ) (ks : List ℕ) → c ≡ d → AllByRecursion (λ (k : ℕ). cb k ≡ c) ks → AllByRecursion (λ (k : ℕ). cb k ≡ d) ks
  all_then c d [] q h = tt
  all_then c d (k ∷ ks) q h = (h.0 ∙ q, all_then c d ks q h.1)

  next_before : (n : ℕ) (ks : List ℕ) → AreNext n ks → AllByRecursion (λ (k : ℕ). is_projection (symbol_or symbols k).kind ≡ true) ks → AllByRecursion (λ (k : ℕ). cb k ≡ cb n) ks
  next_before n [] h p = tt
  next_before n (k ∷ ks) h p = let q = one_back n k h.0 p.0 in (q, all_then (cb k) (cb n) ks q (next_before k ks h.1 p.1))

  all_at : (all : List ℕ) (c : ℕ) (ks : List ℕ) → Contains all c → AllByRecursion (λ (k : ℕ). cb k ≡ c) ks → AllByRecursion (λ (k : ℕ). Contains all (cb k)) ks
  all_at all c [] i h = tt
  all_at all c (k ∷ ks) i h = (subst (Contains all) (sym h.0) i, all_at all c ks i h.1)

  all_more : (xs ys : List ℕ) (ks : List ℕ) → AllByRecursion (λ (k : ℕ). Contains ys (cb k)) ks → AllByRecursion (λ (k : ℕ). Contains (xs ++ ys) (cb k)) ks
  all_more xs ys [] h = tt
  all_more xs ys (k ∷ ks) h = (Contains-append_right xs ys (cb k) h.0, all_more xs ys ks h.1)

  all_front : (xs ys : List ℕ) (ks : List ℕ) → AllByRecursion (λ (k : ℕ). Contains xs (cb k)) ks → AllByRecursion (λ (k : ℕ). Contains (xs ++ ys) (cb k)) ks
  all_front xs ys [] h = tt
  all_front xs ys (k ∷ ks) h = (Contains-append_left xs ys (cb k) h.0, all_front xs ys ks h.1)

  module _ (rigid : List ℕ) (ds : List DeclarationTree) where
    abbrev v : Vocabulary
    v = after symbols rigid ds

    projection_kinds : (type vars : ℕ) (fs : List Tree) (ks : List ℕ) → AreProjections v type vars fs ks → AllByRecursion (λ (k : ℕ). is_projection (symbol_or symbols k).kind ≡ true) ks
    projection_kinds type vars [] [] h = tt
    projection_kinds type vars [] (k ∷ ks) h = absurd h
    projection_kinds type vars (f ∷ fs) [] h = absurd h
    projection_kinds type vars (f ∷ fs) (k ∷ ks) h = (ap is_projection h.0.kind, projection_kinds type vars fs ks h.1)

    in_cons : (type vars : ℕ) (cs : List ConstructorTree) → AllByRecursion (IsConstructorOf v type vars) cs → ConsNumbered cs → AllByRecursion (λ (k : ℕ). Contains (made_by_cons cs) (cb k)) (made_by_cons cs)
    in_cons type vars [] h n = tt
    in_cons type vars (c ∷ cs) h n =
        let own = c.symbol ∷ c.projections in
        let rest = made_by_cons cs in
        let plain : cb c.symbol ≡ c.symbol = plain_before symbols c.symbol (plain_kind (symbol_or symbols c.symbol).kind Constructor h.0.kind refl) in
        let here : Contains (own ++ rest) c.symbol = head_in c.symbol (c.projections ++ rest) in
        let fields = all_then (cb c.symbol) c.symbol c.projections plain (next_before c.symbol c.projections n.0 (projection_kinds type vars c.fields c.projections h.0.projections)) in
        both_all (λ (k : ℕ). Contains (own ++ rest) (cb k)) own rest (all_at (own ++ rest) c.symbol own here (plain, fields)) (all_more own rest rest (in_cons type vars cs h.1 n.1))

    in_types : (ts : List AlgebraicTree) → AllByRecursion (IsAlgebraic v) ts → TypesNumbered ts → AllByRecursion (λ (k : ℕ). Contains (made_by_types ts) (cb k)) (made_by_types ts)
    in_types [] h n = tt
    in_types (a ∷ ts) h n =
        let cons = made_by_cons a.cons in
        let own = a.symbol ∷ cons in
        let rest = made_by_types ts in
        let plain : cb a.symbol ≡ a.symbol = plain_before symbols a.symbol (plain_kind (symbol_or symbols a.symbol).kind Kind h.0.entry.kind refl) in
        let inner = in_cons a.symbol (symbol_or symbols a.symbol).vars a.cons (recursion_from_All (IsConstructorOf v a.symbol (symbol_or symbols a.symbol).vars) a.cons h.0.cons) n.0 in
        let first : Contains own (cb a.symbol) = subst (Contains own) (sym plain) (head_in a.symbol cons) in
        both_all (λ (k : ℕ). Contains (own ++ rest) (cb k)) own rest (all_front own rest own (first, all_more (a.symbol ∷ []) cons cons inner)) (all_more own rest rest (in_types ts h.1 n.1))

    first_type : (ts : List AlgebraicTree) → AllByRecursion (IsAlgebraic v) ts → (k : ℕ) → slice_get (made_by_types ts) 0 ≡ Some k → is_projection (symbol_or symbols k).kind ≡ false
    first_type [] h k q = absurd (cc (q))
    first_type (a ∷ ts) h k q =
        let z : a.symbol ≡ k = cc (q) in
        subst (λ (i : ℕ). is_projection (symbol_or symbols i).kind ≡ false) z (plain_kind (symbol_or symbols a.symbol).kind Kind h.0.entry.kind refl)

    body_records : (vars : ℕ) (b : BodyTree) → IsValidBody v vars b → IsNumbered symbols b → HasRecords symbols (made_by b)
    body_records vars (Constructs ts) h n =
        let all = recursion_from_All (IsAlgebraic v) ts h in
        record { first = first_type ts all; before = All-from_recursion (λ (k : ℕ). Contains (made_by_types ts) (cb k)) (made_by_types ts) (in_types ts all n) }
    body_records vars (MakesType k) h n = plain_records (k ∷ []) n
    body_records vars (Makes k) h n = plain_records (k ∷ []) n
    body_records vars (Defines es) h n = plain_records (made_by (Defines es)) n
    body_records vars (Induces is) h n = plain_records (made_by (Induces is)) n
    body_records vars (Says a) h n = plain_records [] n

  pub valid_records : (before ds : List DeclarationTree) → AreValidAfter symbols before ds → All (λ (d : DeclarationTree). IsNumbered symbols d.body) ds → All (λ (d : DeclarationTree). HasRecords symbols (made_by d.body)) ds
  valid_records before [] h n = All-nil (λ (d : DeclarationTree). HasRecords symbols (made_by d.body))
  valid_records before (d ∷ ds) h n =
      All-cons (λ (d : DeclarationTree). HasRecords symbols (made_by d.body)) d ds (body_records [] (before ++ d ∷ []) d.vars d.body h.0 (All-head (λ (d : DeclarationTree). IsNumbered symbols d.body) d ds n))
      (valid_records (before ++ d ∷ []) ds h.1 (All-tail (λ (d : DeclarationTree). IsNumbered symbols d.body) d ds n))

  -- ---- copies, which are numbered one after another
  number_below : (n : ℕ) (ks : List ℕ) (k : ℕ) → AreConsecutive n ks → Contains ks k → (n ≤ k) × (k < n + length ks)
  number_below n ks k h c = of ks h c.0 c.1 c.2
    where
      of : {m : ℕ} (js : List ℕ) → AreConsecutive m js → (i : ℕ) → i < length js → get_or js i k ≡ k → (m ≤ k) × (k < m + length js)
      of [] g i l e = absurd (omega (arith, l))
      of (j ∷ js) g zero l e = (omega (arith, g.0, e), omega (arith, g.0, e))
      of (j ∷ js) g (suc i) l e = let r = of js g.1 i (omega (arith, l)) e in (omega (arith, r.0), omega (arith, r.1))

  number_in : (n : ℕ) (ks : List ℕ) (k : ℕ) → AreConsecutive n ks → n ≤ k → k < n + length ks → Contains ks k
  number_in n [] k h a b = absurd (omega (arith, a, b))
  number_in n (j ∷ js) k h a b = of (k - n) refl (λ e l. number_in (suc n) js k h.1 e l)
    where
      of : (d : ℕ) → k - n ≡ d → (suc n ≤ k → k < suc n + length js → Contains js k) → Contains (j ∷ js) k
      of zero e later = let q : j ≡ k = omega (arith, h.0, a, e) in subst (Contains (j ∷ js)) q (head_in j js)
      of (suc d) e later = Contains-append_right (j ∷ []) js k (later (omega (arith, a, e)) (omega (arith, b)))

  pub numbered_records : (n : ℕ) (ks : List ℕ) → AreConsecutive n ks → ((k : ℕ) → slice_get ks 0 ≡ Some k → is_projection (symbol_or symbols k).kind ≡ false) → HasRecords symbols ks
  numbered_records n ks h first = record {
    first = first;
    before = λ i d l. at (get_or ks i d) (Contains-get_or ks i d l);
  }
    where
      start : (js : List ℕ) → AreConsecutive n js → 0 < length js → slice_get js 0 ≡ Some n
      start [] g l = absurd (omega (arith, l))
      start (j ∷ js) g l = ap (λ (i : ℕ). Some i) g.0

      at : (k : ℕ) → Contains ks k → Contains ks (cb k)
      at k c =
          let b = number_below n ks k h c in
          let low : n ≤ k = b.0 in
          let from : n ≤ constructor_before symbols k = before_from symbols n (first n (start ks h (let l = c.1 in omega (arith, l)))) (k - n) k (omega (arith, low)) in
          number_in n ks (cb k) h from (let l = b.1 in omega (arith, l, before_below symbols k))

-- ---- over further entries
module _ (xs ys : List SymbolTree) where
  pub records_more : (ks : List ℕ) → All (λ (k : ℕ). k < length xs) ks → HasRecords xs ks → HasRecords (xs ++ ys) ks
  records_more ks l h = record {
    first = λ k q. ap (λ (e : SymbolTree). is_projection e.kind) (sym (entry_kept xs ys k (All-contains (λ (j : ℕ). j < length xs) ks k l (there ks k q)))) ∙ h.first k q;
    before = λ i d m. subst (Contains ks) (before_kept xs ys (get_or ks i d) (l i d m)) (h.before i d m);
  }
    where
      there : (js : List ℕ) (k : ℕ) → slice_get js 0 ≡ Some k → Contains js k
      there [] k q = absurd (cc (q))
      there (j ∷ js) k q = let z : j ≡ k = cc (q) in subst (Contains (j ∷ js)) z (head_in j js)
