-- Marks by number: of trees, of their children, and of all that are in them.
use Rattle.std.proofs.Common.{◌≡◌, ◌⊎◌, ℕ, ◌+◌, ◌<◌, ◌≤◌, zero, suc, Bool, true, false, IsTrue, List, [], ◌∷◌, ◌++◌, length, get_or, take, All, inl, inr, refl, sym, ap, subst, ◌∙◌, arith}
use Rattle.std.proofs.Math.ListN.{set}
use Rattle.std.proofs.lemmas.List.{take_more, take_all, get_or-map, length-map}
use Rattle.std.proofs.lemmas.List.Elements.{All-cons, All-nil, All-append}
use Rattle.tasks.specs.trees.declared.TermId.{TermId}
use Rattle.tasks.specs.trees.declared.Parts.{Parts}
use Rattle.tasks.specs.trees.declared.Parts.TheVariants as parts
use Rattle.tasks.specs.trees.Tree.{Tree, Leaf, One, Two, Three, Head, HEnd}
use Rattle.tasks.specs.trees.Node.{tree_at, Holds, AreBelow, assemble}
use Rattle.tasks.specs.Meaning.{trees_at}
use Rattle.step_writing.specs.tree_writing.Parts.{IsSubtree, StandsIn, is_marked, IsMarked, Marks, IsOneOf, PartsMarked, MarksParts, HasMark, ChildrenMarked, RootsMarked, AreMarked}

pub pushed_false : (ms : List Bool) (k : ℕ) → is_marked (ms ++ false ∷ []) k ≡ is_marked ms k
pushed_false [] zero = refl
pushed_false [] (suc k) = refl
pushed_false (m ∷ ms) zero = refl
pushed_false (m ∷ ms) (suc k) = pushed_false ms k

set_long : (ms : List Bool) (i : ℕ) → length (set ms i true) ≡ length ms
set_long [] i = refl
set_long (m ∷ ms) zero = refl
set_long (m ∷ ms) (suc i) = ap suc (set_long ms i)

set_own : (ms : List Bool) (i : ℕ) → i < length ms → IsMarked (set ms i true) i
set_own [] i h = absurd (omega arith)
set_own (m ∷ ms) zero h = refl
set_own (m ∷ ms) (suc i) h = set_own ms i (omega arith)

set_kept : (ms : List Bool) (i k : ℕ) → IsMarked ms k → IsMarked (set ms i true) k
set_kept [] i k h = h
set_kept (m ∷ ms) zero zero h = refl
set_kept (m ∷ ms) zero (suc k) h = h
set_kept (m ∷ ms) (suc i) zero h = h
set_kept (m ∷ ms) (suc i) (suc k) h = set_kept ms i k h

set_only : (ms : List Bool) (i k : ℕ) → IsMarked (set ms i true) k → IsMarked ms k ⊎ (k ≡ i)
set_only [] i k h = inl h
set_only (m ∷ ms) zero zero h = inr refl
set_only (m ∷ ms) zero (suc k) h = inl h
set_only (m ∷ ms) (suc i) zero h = inl h
set_only (m ∷ ms) (suc i) (suc k) h = elim (set_only ms i k h) [ inl x ↦ inl x | inr e ↦ inr (ap (λ (n : ℕ). suc n) e) ]

pub mark_read : (ms : List Bool) (i : ℕ) (b : Bool) → b ≡ is_marked ms i → b ≡ true → IsMarked ms i
mark_read ms i b e t = sym e ∙ t

pub marks_set : (ms new : List Bool) (i : ℕ) → i < length ms → new ≡ set ms i true → Marks ms new i
marks_set ms new i h e = subst (λ (l : List Bool). Marks ms l i) (sym e) (record { as_long = set_long ms i; own = set_own ms i h; kept = λ k. set_kept ms i k; only = λ k. set_only ms i k })

-- one child, two and three
pub one_marked : (old new : List Bool) (a : TermId) → Marks old new a.0 → MarksParts old new (parts.One a)
one_marked old new a h = record { as_long = h.as_long; own = h.own; kept = h.kept; only = h.only }

pub two_marked : (old one new : List Bool) (a b : TermId) → Marks old one a.0 → Marks one new b.0 → MarksParts old new (parts.Two a b)
two_marked old one new a b h k = record {
  as_long = k.as_long ∙ h.as_long;
  own = (k.kept a.0 h.own, k.own);
  kept = λ j m. k.kept j (h.kept j m);
  only = λ j m. elim (k.only j m) [ inl x ↦ elim (h.only j x) [ inl y ↦ inl y | inr e ↦ inr (inl e) ] | inr e ↦ inr (inr e) ];
}

pub three_marked : (old one two new : List Bool) (a b c : TermId) → Marks old one a.0 → Marks one two b.0 → Marks two new c.0 → MarksParts old new (parts.Three a b c)
three_marked old one two new a b c h k l = record {
  as_long = l.as_long ∙ k.as_long ∙ h.as_long;
  own = (l.kept a.0 (k.kept a.0 h.own), l.kept b.0 k.own, l.own);
  kept = λ j m. l.kept j (k.kept j (h.kept j m));
  only = λ j m. elim (l.only j m) [
    | inl x ↦ elim (k.only j x) [ inl y ↦ elim (h.only j y) [ inl z ↦ inl z | inr e ↦ inr (inl e) ] | inr e ↦ inr (inr (inl e)) ]
    | inr e ↦ inr (inr (inr e))
  ];
}

-- a tree is in itself, and what is in a part is in the whole
pub self_part : (e : Tree) → IsSubtree e e
self_part (Leaf h) = refl
self_part (One h a) = inl refl
self_part (Two h a b) = inl refl
self_part (Three h a b c) = inl refl

pub part_of_part : (x y z : Tree) → IsSubtree x y → IsSubtree y z → IsSubtree x z
part_of_part x y (Leaf h) p e = subst (IsSubtree x) e p
part_of_part x y (One h a) p (inl e) = subst (IsSubtree x) e p
part_of_part x y (One h a) p (inr q) = inr (part_of_part x y a p q)
part_of_part x y (Two h a b) p (inl e) = subst (IsSubtree x) e p
part_of_part x y (Two h a b) p (inr (inl q)) = inr (inl (part_of_part x y a p q))
part_of_part x y (Two h a b) p (inr (inr q)) = inr (inr (part_of_part x y b p q))
part_of_part x y (Three h a b c) p (inl e) = subst (IsSubtree x) e p
part_of_part x y (Three h a b c) p (inr (inl q)) = inr (inl (part_of_part x y a p q))
part_of_part x y (Three h a b c) p (inr (inr (inl q))) = inr (inr (inl (part_of_part x y b p q)))
part_of_part x y (Three h a b c) p (inr (inr (inr q))) = inr (inr (inr (part_of_part x y c p q)))

module _ (s : List Tree) where
  at : ℕ → Tree
  at k = get_or s k (Leaf HEnd)

  -- the tree of a child is in that of the node
  child_part : (h : Head) (p : Parts) (k : ℕ) → IsOneOf k p → IsSubtree (get_or s k (Leaf HEnd)) (assemble s h p)
  child_part h parts.None k o = absurd o
  child_part h (parts.One a) k e = inr (subst (λ (j : ℕ). IsSubtree (get_or s j (Leaf HEnd)) (tree_at s a)) (sym e) (self_part (tree_at s a)))
  child_part h (parts.Two a b) k (inl e) = inr (inl (subst (λ (j : ℕ). IsSubtree (get_or s j (Leaf HEnd)) (tree_at s a)) (sym e) (self_part (tree_at s a))))
  child_part h (parts.Two a b) k (inr e) = inr (inr (subst (λ (j : ℕ). IsSubtree (get_or s j (Leaf HEnd)) (tree_at s b)) (sym e) (self_part (tree_at s b))))
  child_part h (parts.Three a b c) k (inl e) = inr (inl (subst (λ (j : ℕ). IsSubtree (get_or s j (Leaf HEnd)) (tree_at s a)) (sym e) (self_part (tree_at s a))))
  child_part h (parts.Three a b c) k (inr (inl e)) = inr (inr (inl (subst (λ (j : ℕ). IsSubtree (get_or s j (Leaf HEnd)) (tree_at s b)) (sym e) (self_part (tree_at s b)))))
  child_part h (parts.Three a b c) k (inr (inr e)) = inr (inr (inr (subst (λ (j : ℕ). IsSubtree (get_or s j (Leaf HEnd)) (tree_at s c)) (sym e) (self_part (tree_at s c)))))

  child_below : (i : ℕ) (p : Parts) (k : ℕ) → AreBelow i p → IsOneOf k p → k < i
  child_below i parts.None k b o = absurd o
  child_below i (parts.One a) k b e = omega (arith, b, e)
  child_below i (parts.Two a c) k b (inl e) = omega (arith, b.0, e)
  child_below i (parts.Two a c) k b (inr e) = omega (arith, b.1, e)
  child_below i (parts.Three a c d) k b (inl e) = omega (arith, b.0, e)
  child_below i (parts.Three a c d) k b (inr (inl e)) = omega (arith, b.1, e)
  child_below i (parts.Three a c d) k b (inr (inr e)) = omega (arith, b.2, e)

  own_mark : (ms : List Bool) (k : ℕ) (a : TermId) → a.0 < k → IsMarked ms a.0 → HasMark s ms k (tree_at s a)
  own_mark ms k a b m = record { id = a; below = b; is = refl; mark = m }

  children_marked : (ms : List Bool) (k : ℕ) (h : Head) (p : Parts) → AreBelow k p → PartsMarked ms p → ChildrenMarked s ms k (assemble s h p)
  children_marked ms k h parts.None b m = tt
  children_marked ms k h (parts.One a) b m = own_mark ms k a b m
  children_marked ms k h (parts.Two a c) b m = (own_mark ms k a b.0 m.0, own_mark ms k c b.1 m.1)
  children_marked ms k h (parts.Three a c d) b m = (own_mark ms k a b.0 m.0, own_mark ms k c b.1 m.1, own_mark ms k d b.2 m.2)

  mark_later : (old new : List Bool) (k : ℕ) (e : Tree) → ((j : ℕ) → IsMarked old j → IsMarked new j) → HasMark s old k e → HasMark s new k e
  mark_later old new k e f h = record { id = h.id; below = h.below; is = h.is; mark = f h.id.0 h.mark }

  children_later : (old new : List Bool) (k : ℕ) (e : Tree) → ((j : ℕ) → IsMarked old j → IsMarked new j) → ChildrenMarked s old k e → ChildrenMarked s new k e
  children_later old new k (Leaf h) f c = tt
  children_later old new k (One h a) f c = mark_later old new k a f c
  children_later old new k (Two h a b) f c = (mark_later old new k a f c.0, mark_later old new k b f c.1)
  children_later old new k (Three h a b d) f c = (mark_later old new k a f c.0, mark_later old new k b f c.1, mark_later old new k d f c.2)

  -- from a number on the children of what is marked are marked
  pub record MarkedFrom (roots : List TermId) (ms : List Bool) (i : ℕ) : Type 0 where
    pub first : RootsMarked s roots ms
    pub children : (k : ℕ) → i ≤ k → IsMarked ms k → ChildrenMarked s ms k (get_or s k (Leaf HEnd))

  none_beyond : (ms : List Bool) (k : ℕ) → length ms ≤ k → IsMarked ms k → ⊥
  none_beyond [] k b h = cc
  none_beyond (m ∷ ms) zero b h = omega arith
  none_beyond (m ∷ ms) (suc k) b h = none_beyond ms k (omega arith) h

  pub marked_start : (roots : List TermId) (ms : List Bool) (i : ℕ) → i ≡ length ms → RootsMarked s roots ms → MarkedFrom roots ms i
  marked_start roots ms i e h = record { first = h; children = λ k b m. absurd (none_beyond ms k (omega (arith, b, e)) m) }

  pub marked_all : (roots : List TermId) (ms : List Bool) (i : ℕ) → i ≡ 0 → MarkedFrom roots ms i → AreMarked s roots ms
  marked_all roots ms i e h = record { first = h.first; children = λ k m. h.children k (omega (arith, e)) m }

  le_or : (i k : ℕ) → i ≤ k → (k ≡ i) ⊎ (i + 1 ≤ k)
  le_or zero zero b = inl refl
  le_or zero (suc k) b = inr (omega arith)
  le_or (suc i) zero b = absurd (omega arith)
  le_or (suc i) (suc k) b = elim (le_or i k (omega arith)) [ inl e ↦ inl (ap suc e) | inr l ↦ inr (omega (arith, l)) ]

  -- the number below isn't marked
  pub marked_past : (roots : List TermId) (ms : List Bool) (i j : ℕ) → j ≡ i + 1 → (IsMarked ms i → ⊥) → MarkedFrom roots ms j → MarkedFrom roots ms i
  marked_past roots ms i j e n h = record { first = h.first; children = λ k b m. at_place k m (le_or i k b) } where
    at_place : (k : ℕ) → IsMarked ms k → (k ≡ i) ⊎ (i + 1 ≤ k) → ChildrenMarked s ms k (get_or s k (Leaf HEnd))
    at_place k m (inl same) = absurd (n (subst (IsMarked ms) same m))
    at_place k m (inr l) = h.children k (omega (arith, l, e)) m

  -- the number below is marked, and its children are now
  pub marked_next : (roots : List TermId) (old new : List Bool) (i j : ℕ) (h : Head) (p : Parts) → j ≡ i + 1 → i < length s → get_or s i (Leaf HEnd) ≡ assemble s h p → AreBelow i p → IsMarked old i → MarksParts old new p → MarkedFrom roots old j → MarkedFrom roots new i
  marked_next roots old new i j h p e held is below mine more from = record {
    first = record {
      own = λ k d lt. more.kept (get_or roots k d).0 (from.first.own k d lt);
      held = λ k m. elim (more.only k m) [ inl x ↦ from.first.held k x | inr o ↦ omega (arith, held, child_below i p k below o) ];
      parts = λ k m. elim (more.only k m) [ inl x ↦ from.first.parts k x | inr o ↦ child_stands k o (from.first.parts i mine) ];
    };
    children = λ k b m. at_place k (le_or i k b) (more.only k m);
  } where
    child_stands : (k : ℕ) → IsOneOf k p → StandsIn (trees_at s roots) (get_or s i (Leaf HEnd)) → StandsIn (trees_at s roots) (get_or s k (Leaf HEnd))
    child_stands k o q = record {
      place = q.place;
      within = q.within;
      part = part_of_part (get_or s k (Leaf HEnd)) (get_or s i (Leaf HEnd)) (get_or (trees_at s roots) q.place (Leaf HEnd)) (subst (IsSubtree (get_or s k (Leaf HEnd))) (sym is) (child_part h p k o)) q.part;
    }

    own : ChildrenMarked s new i (get_or s i (Leaf HEnd))
    own = subst (ChildrenMarked s new i) (sym is) (children_marked new i h p below more.own)

    at_place : (k : ℕ) → (k ≡ i) ⊎ (i + 1 ≤ k) → IsMarked old k ⊎ IsOneOf k p → ChildrenMarked s new k (get_or s k (Leaf HEnd))
    at_place k (inl same) m = subst (λ (x : ℕ). ChildrenMarked s new x (get_or s x (Leaf HEnd))) (sym same) own
    at_place k (inr l) (inl m) = children_later old new k (get_or s k (Leaf HEnd)) more.kept (from.children k (omega (arith, l, e)) m)
    at_place k (inr l) (inr o) = absurd (omega (arith, l, child_below i p k below o))

-- the first of these are marked
pub record FirstMarked (s : List Tree) (roots : List TermId) (marks : List Bool) (i : ℕ) : Type 0 where
  pub own : All (λ (r : TermId). IsMarked marks r.0) (take i roots)
  pub held : (k : ℕ) → IsMarked marks k → k < length s
  pub parts : (k : ℕ) → IsMarked marks k → StandsIn (trees_at s roots) (get_or s k (Leaf HEnd))

module _ (s : List Tree) (roots : List TermId) where
  pub first_none : (marks : List Bool) → marks ≡ [] → FirstMarked s roots marks 0
  first_none marks e = subst (λ (l : List Bool). FirstMarked s roots l 0) (sym e) (record { own = All-nil (λ (r : TermId). IsMarked [] r.0); held = λ k m. absurd (none k m); parts = λ k m. absurd (none k m) }) where
    none : (k : ℕ) → IsMarked [] k → ⊥
    none k m = cc

  pub first_more : (old room new : List Bool) (i : ℕ) (d : TermId) → i < length roots → Holds s (get_or roots i d) → ((k : ℕ) → is_marked room k ≡ is_marked old k) → Marks room new (get_or roots i d).0 → FirstMarked s roots old i → FirstMarked s roots new (i + 1)
  first_more old room new i d lt held same more h = record {
    own = subst (All (λ (r : TermId). IsMarked new r.0)) (sym (take_more roots i d lt))
        (All-append (λ (r : TermId). IsMarked new r.0) (take i roots) (get_or roots i d ∷ []) (λ k x l. kept (get_or (take i roots) k x).0 (h.own k x l)) (All-cons (λ (r : TermId). IsMarked new r.0) (get_or roots i d) [] more.own (All-nil (λ (r : TermId). IsMarked new r.0))));
    held = λ k m. elim (was k m) [ inl x ↦ h.held k x | inr e ↦ subst (λ (j : ℕ). j < length s) (sym e) held ];
    parts = λ k m. elim (was k m) [ inl x ↦ h.parts k x | inr e ↦ subst (λ (j : ℕ). StandsIn (trees_at s roots) (get_or s j (Leaf HEnd))) (sym e) own ];
  } where
    kept : (k : ℕ) → IsMarked old k → IsMarked new k
    kept k m = more.kept k (subst IsTrue (sym (same k)) m)

    was : (k : ℕ) → IsMarked new k → IsMarked old k ⊎ (k ≡ (get_or roots i d).0)
    was k m = elim (more.only k m) [ inl x ↦ inl (subst IsTrue (same k) x) | inr e ↦ inr e ]

    own : StandsIn (trees_at s roots) (tree_at s (get_or roots i d))
    own = record {
      place = i;
      within = omega (arith, lt, length_trees);
      part = subst (IsSubtree (tree_at s (get_or roots i d))) (sym (get_or-map (tree_at s) roots i d (Leaf HEnd) lt)) (self_part (tree_at s (get_or roots i d)));
    } where
      length_trees : length (trees_at s roots) ≡ length roots
      length_trees = length-map roots (tree_at s)

  pub first_all : (marks : List Bool) (i : ℕ) → length roots ≤ i → FirstMarked s roots marks i → RootsMarked s roots marks
  first_all marks i lt h = record { own = subst (All (λ (r : TermId). IsMarked marks r.0)) (take_all i roots lt) h.own; held = h.held; parts = h.parts }
