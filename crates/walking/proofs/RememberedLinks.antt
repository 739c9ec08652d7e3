-- What is remembered stays right as the draft extends and with one link more, and serves at the terms that an open tree can see.
use Rattle.std.proofs.Common.{◌≡◌, ℕ, suc, ◌<◌, ◌≤◌, nat_eq, cond, Bool, true, false, List, [], ◌∷◌, ◌++◌, length, get_or, All, Result, Ok, Err, IfOk, Some, refl, sym, ap, subst, ◌∙◌, arith}
use Rattle.std.proofs.lemmas.Bool.Decides.{nat_tests}
use Rattle.std.proofs.lemmas.List.{length-map}
use Rattle.std.proofs.lemmas.List.Elements.{All-cons, All-nil}
use Rattle.indexmap.specs.IndexMap.{IndexMap, get}
use Rattle.trees.specs.declared.TermId.{TermId}
use Rattle.trees.specs.declared.Sort.TheVariants.{Term}
use Rattle.trees.specs.Tree.{Tree, Leaf, Two, HEnd, HCell, loose}
use Rattle.trees.specs.Binding.{inst_many}
use Rattle.trees.specs.Node.{tree_at, trees_at, Holds}
use Rattle.trees.specs.Sorts.{sort_of}
use Rattle.tasks.specs.Task.{TaskTree}
use Rattle.tasks.specs.Vocabulary.{of_task}
use Rattle.tasks.proofs.Closing.{typed_closed}
use Rattle.evidence.specs.Drafts.{DraftTree, Extends}
use Rattle.images.specs.Images.{image}
use Rattle.images.specs.Open.{IsAt}
use Rattle.images.proofs.Environments.{term_for}
use Rattle.images.specs.Templates.{listed}
use Rattle.trees.specs.binders.Known.{same_pair}
use Rattle.trees.proofs.binders.Rebuilt.{both_true}
use Rattle.congruence.proofs.Later.{held_later, tree_later}
use Rattle.walking.specs.declared.linked.Linked.{Linked}
use Rattle.walking.specs.Places.{types_for, IsInstanceAt, IsLinkOf}
use Rattle.walking.specs.Remembered.{IsLinkAt, AreRememberedLinks}
use Rattle.walking.proofs.PlacesLater.{trees_later, link_later}
use Rattle.walking.proofs.Branches.{types_length}
use Rattle.walking.proofs.VisiblePlaces.{link_whole}

-- what holds of no result in particular
pub if_ok : {A E : Type 0} (P : Type 0) (r : Result A E) → P → IfOk r (λ (_ : A). P)
if_ok P (Ok x) p = p
if_ok P (Err e) p = tt

-- ---- as the draft extends
module _ (d d1 : DraftTree) (x : Extends d d1) where
  link_at_later : (rule : TaskTree → Tree → Tree) (e list : Tree) (made : Linked) → IsLinkAt d (rule d.task) e list made → IsLinkAt d1 (rule d1.task) e list made
  link_at_later rule e list made k =
      let q = trees_later d d1 x k.env k.link.place.env_held in
      let a : IsLinkOf d1 k.env k.left k.fresh (image (rule d.task) e) made = link_later d d1 x k.env k.left k.fresh (image (rule d.task) e) made k.left_held k.link in
      record {
        env = k.env;
        left = k.left;
        fresh = k.fresh;
        terms = k.terms ∙ ap (λ (z : List Tree). listed z (Leaf HEnd)) (sym q);
        left_held = held_later d d1 x k.left k.left_held;
        left_is = tree_later d d1 x k.left k.left_held ∙ k.left_is ∙ ap (inst_many e) (sym q);
        link = subst (λ (t : TaskTree). IsLinkOf d1 k.env k.left k.fresh (image (rule t) e) made) (sym x.task) a;
      }

  pub remembered_later : {S : Type 0} (rule : TaskTree → Tree → Tree) (m : IndexMap (ℕ × ℕ) Linked S) → AreRememberedLinks d rule m → AreRememberedLinks d1 rule m
  remembered_later rule m h k l v e =
      let p = h k l v e in
      let K : get_or d1.trees k (Leaf HEnd) ≡ get_or d.trees k (Leaf HEnd) = x.trees.same k p.0 in
      let L : get_or d1.trees l (Leaf HEnd) ≡ get_or d.trees l (Leaf HEnd) = x.trees.same l p.1 in (
        omega (arith, p.0, x.trees.longer),
        omega (arith, p.1, x.trees.longer),
        subst (λ (z : Tree). IsLinkAt d1 (rule d1.task) z (get_or d1.trees l (Leaf HEnd)) v) (sym K) (subst (λ (z : Tree). IsLinkAt d1 (rule d1.task) (get_or d.trees k (Leaf HEnd)) z v) (sym L)
            (link_at_later rule (get_or d.trees k (Leaf HEnd)) (get_or d.trees l (Leaf HEnd)) v p.2)),
      )

-- ---- with one link more
some_link : (a b : Linked) → Some a ≡ Some b → a ≡ b
some_link a b e = cc

pub remembered_more : {S : Type 0} (d : DraftTree) (rule : TaskTree → Tree → Tree) (m n : IndexMap (ℕ × ℕ) Linked S) (e list : TermId) (made : Linked) → AreRememberedLinks d rule m
    → Holds d.trees e → Holds d.trees list → IsLinkAt d (rule d.task) (tree_at d.trees e) (tree_at d.trees list) made
    → ((q : ℕ × ℕ) → get same_pair n q ≡ cond (same_pair (e.0, list.0) q) (Some made) (get same_pair m q)) → AreRememberedLinks d rule n
remembered_more d rule m n e list made h he hl is up k l v found = at (same_pair (e.0, list.0) (k, l)) refl (sym (up (k, l)) ∙ found)
  where
    at : (c : Bool) → same_pair (e.0, list.0) (k, l) ≡ c → cond c (Some made) (get same_pair m (k, l)) ≡ Some v
        → (k < length d.trees) × (l < length d.trees) × IsLinkAt d (rule d.task) (get_or d.trees k (Leaf HEnd)) (get_or d.trees l (Leaf HEnd)) v
    at true same there =
        let p = both_true (nat_eq e.0 k) (nat_eq list.0 l) same in
        let first : e.0 ≡ k = grind (arith, nat_tests, p.0) in
        let second : list.0 ≡ l = grind (arith, nat_tests, p.1) in
        let value : made ≡ v = some_link made v there in
        rw (← first, ← second, ← value) (he, hl, is)
    at false same there = h k l v there

-- ---- at the terms that are seen
-- a list of terms is told by its tree
first_same : (a b c d : Tree) → Two HCell a b ≡ Two HCell c d → a ≡ c
first_same a b c d q = cc

others_same : (a b c d : Tree) → Two HCell a b ≡ Two HCell c d → b ≡ d
others_same a b c d q = cc

listed_same : (us vs : List Tree) → listed us (Leaf HEnd) ≡ listed vs (Leaf HEnd) → us ≡ vs
listed_same [] [] q = refl
listed_same [] (v ∷ vs) q = absurd (cc)
listed_same (u ∷ us) [] q = absurd (cc)
listed_same (u ∷ us) (v ∷ vs) q =
    let r = listed_same us vs (others_same u (listed us (Leaf HEnd)) v (listed vs (Leaf HEnd)) q) in
    cc (first_same u (listed us (Leaf HEnd)) v (listed vs (Leaf HEnd)) q, r)

-- a link at other numbers of the same terms
module _ (d : DraftTree) (env near : List TermId) (q : trees_at d.trees env ≡ trees_at d.trees near) (h : All (Holds d.trees) near) where
  place_at : (e l : TermId) (n : ℕ) → IsInstanceAt d env e l n → IsInstanceAt d near e l n
  place_at e l n p = record {
    env_held = h;
    open_held = p.open_held;
    left_held = p.left_held;
    sort = p.sort;
    own = p.own;
    order = p.order;
    at = subst (λ (z : List Tree). IsAt d.task (types_for z) z (tree_at d.trees e) (tree_at d.trees l) n) q p.at;
  }

  link_at : (l : TermId) (n : ℕ) (e : Tree) (m : Linked) → IsLinkOf d env l n e m → IsLinkOf d near l n e m
  link_at l n e m k = record { is = k.is; place = place_at m.image m.right n k.place; sort = k.sort; type = k.type; shows = k.shows }

pub remembered_link : (d : DraftTree) (rule : Tree → Tree) (far near : List TermId) (e left list : TermId) (n : ℕ) (made : Linked) → IsInstanceAt d (far ++ near) e left n → IsInstanceAt d near e left n
    → tree_at d.trees list ≡ listed (trees_at d.trees near) (Leaf HEnd) → IsLinkAt d rule (tree_at d.trees e) (tree_at d.trees list) made → IsLinkOf d (far ++ near) left n (image rule (tree_at d.trees e)) made
remembered_link d rule far near e left list n made p w t k =
    let q : trees_at d.trees k.env ≡ trees_at d.trees near = listed_same (trees_at d.trees k.env) (trees_at d.trees near) (sym k.terms ∙ t) in
    let s : tree_at d.trees k.left ≡ tree_at d.trees left = k.left_is ∙ ap (inst_many (tree_at d.trees e)) q ∙ sym w.at.is in
    link_whole d far near e left k.left n k.fresh (image rule (tree_at d.trees e)) made p s (link_at d k.env near q w.env_held k.left k.fresh (image rule (tree_at d.trees e)) made k.link)

-- an open tree sees no more terms than there are
pub seen_enough : (d : DraftTree) (env : List TermId) (e l : TermId) (n : ℕ) → IsInstanceAt d env e l n → loose (tree_at d.trees e) ≤ length env
seen_enough d env e l n p =
    let k = typed_closed (of_task d.task) (types_for (trees_at d.trees env)) (tree_at d.trees e) p.at.shape.typed in
    omega (arith, k, types_length (trees_at d.trees env), length-map env (tree_at d.trees))

-- and they are terms
terms_each : (s : List Tree) (ids : List TermId) → ((k : ℕ) (e : Tree) → k < length (trees_at s ids) → sort_of (get_or (trees_at s ids) k e) ≡ Term) → All (λ id. sort_of (tree_at s id) ≡ Term) ids
terms_each s [] h = All-nil (λ (id : TermId). sort_of (tree_at s id) ≡ Term)
terms_each s (i ∷ ids) h = All-cons (λ (id : TermId). sort_of (tree_at s id) ≡ Term) i ids (h 0 (tree_at s i) (omega arith)) (terms_each s ids (λ k e l. h (suc k) e (omega arith)))

pub seen_are_terms : (d : DraftTree) (env : List TermId) (e l : TermId) (n : ℕ) → IsInstanceAt d env e l n → All (λ id. sort_of (tree_at d.trees id) ≡ Term) env
seen_are_terms d env e l n p = terms_each d.trees env (λ k z m. (term_for (of_task d.task) (types_for (trees_at d.trees env)) (trees_at d.trees env) p.at.around.terms k z m).1.sort)
