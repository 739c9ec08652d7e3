-- A list that is copied member by member, over a store that grows.
use Rattle.std.proofs.Common.{◌≡◌, ℕ, ◌<◌, ◌≤◌, ◌+◌, List, [], ◌∷◌, ◌++◌, map, length, get_or, take, All, Result, Ok, Err, OnOk, IfOk, IsErrAnd, sym, ap, subst, ◌∙◌}
use Rattle.std.proofs.lemmas.List.{map-append, map_more, take_all}
use Rattle.std.proofs.lemmas.List.Elements.{All-nil, All-push}
use Rattle.indexmap.specs.IndexMap.{IndexMap}
use Rattle.trees.specs.declared.TermId.{TermId}
use Rattle.trees.specs.Tree.{Tree}
use Rattle.trees.specs.Node.{Grows}
use Rattle.trees.proofs.Nodes.{Grows_refl, Grows_trans}
use Rattle.tasks.proofs.Growth.{map_agree}
use Rattle.clones.specs.declared.maps.SymbolMap.{SymbolMap}
use Rattle.clones.specs.Mapped.{Map}
use Rattle.clones.specs.Meaning.{map_at, MapHeld, AreKnown}
use Rattle.clones.proofs.Steps.{map_stays, known_back}

-- the copies of these so far: by what a member stands for, what is held of it, and what its copy stands for
pub record Copied {X Y S : Type 0} (at : List Tree → X → Y) (Held : List Tree → X → Type 0) (copy : Map → Y → Y) (m : SymbolMap) (s0 s : List Tree) (known : IndexMap ℕ TermId S) (xs out : List X) : Type 0 where
  pub grows : Grows s0 s
  pub are_known : AreKnown (map_at s0 m) s known
  pub is : map (at s) out ≡ map (copy (map_at s0 m)) (map (at s0) xs)
  pub held : All (Held s) out

module _ {X Y S : Type 0} (at : List Tree → X → Y) (Held : List Tree → X → Type 0) (copy : Map → Y → Y) where
  pub copied_none : (m : SymbolMap) (s : List Tree) (known : IndexMap ℕ TermId S) (out : List X) → out ≡ [] → AreKnown (map_at s m) s known → Copied at Held copy m s s known [] out
  copied_none m s known out q k = record { grows = Grows_refl s; are_known = k; is = ap (map (at s)) q; held = subst (All (Held s)) (sym q) (All-nil (Held s)) }

  pub copied_all : (m : SymbolMap) (s0 s : List Tree) (known : IndexMap ℕ TermId S) (xs out : List X) (i : ℕ) → length xs ≤ i → Copied at Held copy m s0 s known (take i xs) out → map (at s) out ≡ map (copy (map_at s0 m)) (map (at s0) xs)
  copied_all m s0 s known xs out i l c = c.is ∙ ap (λ (z : List X). map (copy (map_at s0 m)) (map (at s0) z)) (take_all i xs l)

  module _ (stays : (s t : List Tree) → Grows s t → (x : X) → Held s x → at t x ≡ at s x) (later : (s t : List Tree) → Grows s t → (x : X) → Held s x → Held t x) where
    pub copied_next : (m : SymbolMap) (s0 s t : List Tree) (known new_known : IndexMap ℕ TermId S) (xs out new : List X) (i : ℕ) (x y : X)
        → MapHeld s0 m → All (Held s0) xs → i < length xs → x ≡ get_or xs i x → Copied at Held copy m s0 s known (take i xs) out
        → Grows s t → AreKnown (map_at s m) t new_known → at t y ≡ copy (map_at s m) (at s x) → Held t y → new ≡ out ++ y ∷ []
        → Copied at Held copy m s0 t new_known (take (i + 1) xs) new
    copied_next m s0 s t known new_known xs out new i x y mh all l q c w k e hy p =
        let m0 = map_at s0 m in
        let hx : Held s0 x = subst (Held s0) (sym q) (all i x l) in
        let same : at t y ≡ copy m0 (at s0 x) = e ∙ ap (λ (v : Map). copy v (at s x)) (map_stays s0 s c.grows m mh) ∙ ap (copy m0) (stays s0 s c.grows x hx) in
        let old : map (at t) out ≡ map (copy m0) (map (at s0) (take i xs)) = map_agree (at t) (at s) out (λ j d h. stays s t w (get_or out j d) (c.held j d h)) ∙ c.is in
        let more : map (copy m0) (map (at s0) (take (i + 1) xs)) ≡ map (copy m0) (map (at s0) (take i xs)) ++ copy m0 (at s0 x) ∷ [] =
        ap (map (copy m0)) (map_more (at s0) xs i x l) ∙ map-append (copy m0) (map (at s0) (take i xs)) (at s0 (get_or xs i x) ∷ []) ∙ ap (λ (v : X). map (copy m0) (map (at s0) (take i xs)) ++ copy m0 (at s0 v) ∷ []) (sym q) in
        let held_out : All (Held t) out = λ j d h. later s t w (get_or out j d) (c.held j d h) in
        record {
          grows = Grows_trans s0 s t c.grows w;
          are_known = known_back m s0 s c.grows mh t new_known k;
          is = ap (map (at t)) p ∙ map-append (at t) out (y ∷ []) ∙ ap (λ (v : Y). map (at t) out ++ v ∷ []) same ∙ ap (λ (z : List Y). z ++ copy m0 (at s0 x) ∷ []) old ∙ sym more;
          held = subst (All (Held t)) (sym p) (All-push (Held t) out y held_out hy);
        }
