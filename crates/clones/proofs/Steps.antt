-- Maps over a store that grows, and what is remembered.
use Rattle.std.proofs.Common.{◌≡◌, ℕ, ◌<◌, nat_eq, Bool, true, false, cond, List, [], ◌∷◌, ◌++◌, length, get_or, Option, Some, None, Result, Ok, Err, IfOk, OnOk, unwrap_or, refl, sym, ap, subst, ◌∙◌, ⊎_elim, arith}
use Rattle.std.specs.Option.{option_map}
use Rattle.std.proofs.lemmas.Bool.Decides.{nat_tests}
use Rattle.indexmap.specs.IndexMap.{IndexMap, get}
use Rattle.trees.specs.declared.TermId.{TermId}
use Rattle.trees.specs.declared.Sort.{Sort}
use Rattle.trees.specs.declared.Sort.TheVariants.{Kind}
use Rattle.trees.specs.Tree.{Tree, Leaf, One, Two, Three, Head, HEnd, HCell}
use Rattle.trees.specs.Node.{tree_at, Holds, Grows}
use Rattle.trees.specs.Sorts.{sort_of, Fits, IsList}
use Rattle.trees.specs.binders.Visits.{HoldTypes}
use Rattle.clones.specs.declared.maps.SymbolMap.{SymbolMap}
use Rattle.clones.specs.Mapped.{Map, mapped, one_mapped, head_mapped}
use Rattle.clones.specs.Meaning.{map_at, MapHeld, IsAlike, IsMapped, AreKnown}
use Rattle.trees.proofs.binders.Rebuilt.{some_same}

-- ---- a map
module _ (s t : List Tree) (w : Grows s t) (m : SymbolMap) (h : MapHeld s m) where
  type_stays : (k : ℕ) (o : Option TermId) → get nat_eq m.types k ≡ o → option_map (tree_at t) o ≡ option_map (tree_at s) o
  type_stays k None q = refl
  type_stays k (Some v) q = ap (λ (e : Tree). Some e) (w.same v.0 (h.types k v q).0)

  pub map_stays : map_at t m ≡ map_at s m
  map_stays = λ i. record { symbols = λ k. unwrap_or (get nat_eq m.symbols k) k; types = λ k. type_stays k (get nat_eq m.types k) refl i }

  pub map_held : MapHeld t m
  map_held = record { types = λ k v q. let p = h.types k v q in (omega (arith, p.0, w.longer), ap sort_of (w.same v.0 p.0) ∙ p.1) }

-- ---- mapped trees
pub mapped_later : (m : Map) (e : Tree) (s t : List Tree) (id : TermId) → Grows s t → IsMapped m e s id → IsMapped m e t id
mapped_later m e s t id w p =
    let q : tree_at t id ≡ tree_at s id = w.same id.0 p.held in
    record { held = omega (arith, p.held, w.longer); is = q ∙ p.is; alike = subst (IsAlike e) (sym q) p.alike }

module _ {S : Type 0} where
  pub known_later : (m : Map) (s t : List Tree) (known : IndexMap ℕ TermId S) → Grows s t → AreKnown m s known → AreKnown m t known
  known_later m s t known w h = record {
    each = λ k v q.
        let p = h.each k v q in
        let e : get_or t k (Leaf HEnd) ≡ get_or s k (Leaf HEnd) = w.same k p.0 in
        (omega (arith, p.0, w.longer), subst (λ (x : Tree). IsMapped m x t v) (sym e) (mapped_later m (get_or s k (Leaf HEnd)) s t v w p.1));
  }

  -- with one more
  pub known_more : (m : Map) (s : List Tree) (old new : IndexMap ℕ TermId S) (e made : TermId) → AreKnown m s old → Holds s e → IsMapped m (tree_at s e) s made
      → ((q : ℕ) → get nat_eq new q ≡ cond (nat_eq e.0 q) (Some made) (get nat_eq old q)) → AreKnown m s new
  known_more m s old new e made h b is up = record { each = λ k v found. at k v (nat_eq e.0 k) refl (sym (up k) ∙ found) }
    where
      at : (k : ℕ) (v : TermId) (c : Bool) → nat_eq e.0 k ≡ c → cond c (Some made) (get nat_eq old k) ≡ Some v → (k < length s) × IsMapped m (get_or s k (Leaf HEnd)) s v
      at k v true same there =
          let number : e.0 ≡ k = grind (arith, nat_tests) in
          let value : made ≡ v = some_same made v there in
          let here : (e.0 < length s) × IsMapped m (get_or s e.0 (Leaf HEnd)) s made = (b, is) in
          let moved : (k < length s) × IsMapped m (get_or s k (Leaf HEnd)) s made = subst (λ (n : ℕ). (n < length s) × IsMapped m (get_or s n (Leaf HEnd)) s made) number here in
          subst (λ (x : TermId). (k < length s) × IsMapped m (get_or s k (Leaf HEnd)) s x) value moved
      at k v false same there = h.each k v there

-- ---- one child after the other, as the store grows
module _ {S : Type 0} (m : SymbolMap) (s t : List Tree) (w : Grows s t) (h : MapHeld s m) where
  pub known_on : (known : IndexMap ℕ TermId S) → AreKnown (map_at s m) t known → AreKnown (map_at t m) t known
  known_on known k = subst (λ (x : Map). AreKnown x t known) (sym (map_stays s t w m h)) k

  pub known_back : (u : List Tree) (known : IndexMap ℕ TermId S) → AreKnown (map_at t m) u known → AreKnown (map_at s m) u known
  known_back u known k = subst (λ (x : Map). AreKnown x u known) (map_stays s t w m h) k

module _ (m : SymbolMap) (s t : List Tree) (w : Grows s t) (h : MapHeld s m) where
  pub mapped_back : (c : TermId) → Holds s c → (u : List Tree) (id : TermId) → IsMapped (map_at t m) (tree_at t c) u id → IsMapped (map_at s m) (tree_at s c) u id
  mapped_back c l u id k = subst (λ (x : Tree). IsMapped (map_at s m) x u id) (w.same c.0 l) (subst (λ (x : Map). IsMapped x (tree_at t c) u id) (map_stays s t w m h) k)

-- ---- lists of types
pub cell_kinds : (e a b : Tree) → e ≡ Two HCell a b → Fits e → IsList Kind e → (sort_of a ≡ Kind) × IsList Kind b
cell_kinds e a b q fits list =
    let f : Fits (Two HCell a b) = subst Fits q fits in
    let l : IsList Kind (Two HCell a b) = subst (IsList Kind) q list in
    let k : sort_of a ≡ Kind = ⊎_elim (λ n. absurd (none n)) (λ z. some_kind z) l.1 in
    (k, subst (λ (z : Sort). IsList z b) k f.0.1)
  where
    none : {x : Sort} → Some x ≡ None → ⊥
    none n = cc

    some_kind : {x y : Sort} → Some x ≡ Some y → x ≡ y
    some_kind z = cc

pub held_push : (s : List Tree) (ids new : List TermId) (id : TermId) → new ≡ ids ++ id ∷ [] → HoldTypes s ids → Holds s id → sort_of (tree_at s id) ≡ Kind → HoldTypes s new
held_push s ids new id q h l k = subst (HoldTypes s) (sym q) (by ids h)
  where
    by : (xs : List TermId) → HoldTypes s xs → HoldTypes s (xs ++ id ∷ [])
    by [] h = ((l, k), tt)
    by (x ∷ xs) h = (h.0, by xs h.1)

-- ---- what is made of mapped children
module _ (m : Map) (e : Tree) (h : Head) where
  pub leaf_made : e ≡ Leaf h → e ≡ mapped m e
  leaf_made q = q ∙ ap (mapped m) (sym q)

  pub one_made : (a x y : Tree) → e ≡ One h a → x ≡ mapped m a → y ≡ one_mapped m h x → y ≡ mapped m e
  one_made a x y q p r = r ∙ ap (one_mapped m h) p ∙ ap (mapped m) (sym q)

  pub two_made : (a b x y z : Tree) → e ≡ Two h a b → x ≡ mapped m a → y ≡ mapped m b → z ≡ Two (head_mapped m.symbols h) x y → z ≡ mapped m e
  two_made a b x y z q p r t = t ∙ ap (λ v. Two (head_mapped m.symbols h) v y) p ∙ ap (Two (head_mapped m.symbols h) (mapped m a)) r ∙ ap (mapped m) (sym q)

  pub three_made : (a b c x y z v : Tree) → e ≡ Three h a b c → x ≡ mapped m a → y ≡ mapped m b → z ≡ mapped m c → v ≡ Three (head_mapped m.symbols h) x y z → v ≡ mapped m e
  three_made a b c x y z v q p r t u =
      u ∙ ap (λ n. Three (head_mapped m.symbols h) n y z) p ∙ ap (λ n. Three (head_mapped m.symbols h) (mapped m a) n z) r ∙ ap (Three (head_mapped m.symbols h) (mapped m a) (mapped m b)) t ∙ ap (mapped m) (sym q)

-- ---- answers
pub ok_any : {A E : Type 0} (r : Result A E) {P : Type 0} → P → OnOk r P
ok_any (Ok x) p = p
ok_any (Err e) p = tt

-- ---- a map with one more type
pub held_more : {S : Type 0} (s : List Tree) (old new : IndexMap ℕ TermId S) (j : ℕ) (ty : TermId) → Holds s ty → sort_of (tree_at s ty) ≡ Kind
    → ((q : ℕ) → get nat_eq new q ≡ cond (nat_eq j q) (Some ty) (get nat_eq old q))
    → ((k : ℕ) (v : TermId) → get nat_eq old k ≡ Some v → Holds s v × (sort_of (tree_at s v) ≡ Kind))
    → (k : ℕ) (v : TermId) → get nat_eq new k ≡ Some v → Holds s v × (sort_of (tree_at s v) ≡ Kind)
held_more s old new j ty l kind up h k v found = at (nat_eq j k) (sym (up k) ∙ found)
  where
    at : (c : Bool) → cond c (Some ty) (get nat_eq old k) ≡ Some v → Holds s v × (sort_of (tree_at s v) ≡ Kind)
    at true there = subst (λ (x : TermId). Holds s x × (sort_of (tree_at s x) ≡ Kind)) (some_same ty v there) (l, kind)
    at false there = h k v there
