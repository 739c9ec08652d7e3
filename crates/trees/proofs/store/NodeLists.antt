-- The trees of a list of nodes, as it grows.
use Rattle.std.proofs.lemmas.Bool.Decides.{nat_tests}
use Rattle.std.proofs.Common.{zero, suc, Bool, ◌==◌, IsTrue, ◌≡◌, ◌≢◌, ℕ, ◌+◌, ◌<◌, ◌≤◌, ◌⊎◌, inl, inr, List, [], ◌∷◌, ◌++◌, length, get_or, refl, sym, ap, ◌∙◌, arith}
use Rattle.std.proofs.lemmas.List.{length_push, get_or_append_left, get_or_push, get_or_read}
use Rattle.trees.specs.declared.Node.{Node}
use Rattle.trees.specs.declared.Node.TheVariants.{End}
use Rattle.trees.specs.Tree.{Tree, Leaf, Head, HEnd}
use Rattle.trees.specs.Node.{tree_at, Holds, assemble, node_tree, head_of_node, parts_of, AreBelow, Grows}
use Rattle.trees.specs.declared.TermId.{TermId}
use Rattle.trees.specs.declared.Parts.{Parts}
use Rattle.trees.specs.declared.Parts.TheVariants as parts
use Rattle.trees.specs.Sorts.{Fits, WellSorted}
use Rattle.trees.proofs.Nodes.{id_same, AreApart, node_same, node_tree-grows, below_more as AreBelow-more}
use Rattle.trees.specs.store.Nodes.{trees_from, trees_of, IsSound}

length_from : (s : List Tree) (ns : List Node) → length (trees_from s ns) ≡ length s + length ns
length_from s [] = omega arith
length_from s (n ∷ ns) = omega (arith, length_from (s ++ node_tree s n ∷ []) ns, length_push s (node_tree s n))

pub length-trees_of : (ns : List Node) → length (trees_of ns) ≡ length ns
length-trees_of ns = omega (arith, length_from [] ns)

from_push : (s : List Tree) (ns : List Node) (n : Node) → trees_from s (ns ++ n ∷ []) ≡ trees_from s ns ++ node_tree (trees_from s ns) n ∷ []
from_push s [] n = refl
from_push s (m ∷ ns) n = from_push (s ++ node_tree s m ∷ []) ns n

pub trees_of-push : (ns : List Node) (n : Node) → trees_of (ns ++ n ∷ []) ≡ trees_of ns ++ node_tree (trees_of ns) n ∷ []
trees_of-push ns n = from_push [] ns n

pub Grows_push : (s : List Tree) (t : Tree) → Grows s (s ++ t ∷ [])
Grows_push s t = record {
  longer = omega (arith, length_push s t);
  same = λ k h. get_or_append_left s (t ∷ []) (Leaf HEnd) k h;
}

-- a new node is sound
module _ (ns : List Node) (n : Node) (sound : IsSound ns) (below : AreBelow (length ns) (parts_of n)) (fits : Fits (node_tree (trees_of ns) n)) (new : (k : ℕ) → k < length ns → get_or ns k End ≢ n) where
  abbrev s : List Tree
  s = trees_of ns

  abbrev t : Tree
  t = node_tree s n

  abbrev e : Tree
  e = Leaf HEnd

  below_s : AreBelow (length s) (parts_of n)
  below_s = rw (length-trees_of ns) below

  -- its tree is new
  pub fresh : (k : ℕ) → k < length ns → get_or s k e ≡ t → ⊥
  fresh k h q = new k h (node_same s apart (get_or ns k End) n (AreBelow-more k (length s) (parts_of (get_or ns k End)) (omega (arith, length-trees_of ns)) (sound.below k h)) below_s (sym (sound.made k h) ∙ q))
    where
      apart : AreApart s
      apart j k l m = sound.different j k (omega (arith, length-trees_of ns)) (omega (arith, length-trees_of ns))

  old_tree : (k : ℕ) → k < length ns → get_or (s ++ t ∷ []) k e ≡ get_or s k e
  old_tree k h = get_or_append_left s (t ∷ []) e k (omega (arith, length-trees_of ns))

  new_tree : (k : ℕ) → k ≡ length ns → get_or (s ++ t ∷ []) k e ≡ t
  new_tree k h = get_or_push s t e k (length-trees_of ns ∙ sym h)

  old_node : (k : ℕ) → k < length ns → get_or (ns ++ n ∷ []) k End ≡ get_or ns k End
  old_node k h = get_or_append_left ns (n ∷ []) End k h

  new_node : (k : ℕ) → k ≡ length ns → get_or (ns ++ n ∷ []) k End ≡ n
  new_node k h = get_or_push ns n End k (sym h)

  grown : (m : Node) (k : ℕ) → k ≤ length ns → AreBelow k (parts_of m) → node_tree (s ++ t ∷ []) m ≡ node_tree s m
  grown m k h l = node_tree-grows s (s ++ t ∷ []) m (Grows_push s t) (AreBelow-more k (length s) (parts_of m) (omega (arith, length-trees_of ns)) l)

  at : (k : ℕ) → k < length (ns ++ n ∷ []) → (k < length ns) ⊎ (k ≡ length ns)
  at k h = let w : length (ns ++ n ∷ []) ≡ length ns + 1 = length_push ns n in grind arith

  made_at : (k : ℕ) → (k < length ns) ⊎ (k ≡ length ns) → get_or (s ++ t ∷ []) k e ≡ node_tree (s ++ t ∷ []) (get_or (ns ++ n ∷ []) k End)
  made_at k (inl h) = old_tree k h ∙ sound.made k h ∙ sym (grown (get_or ns k End) k (omega arith) (sound.below k h)) ∙ ap (node_tree (s ++ t ∷ [])) (sym (old_node k h))
  made_at k (inr h) = new_tree k h ∙ sym (grown n (length ns) (omega arith) below) ∙ ap (node_tree (s ++ t ∷ [])) (sym (new_node k h))

  below_at : (k : ℕ) → (k < length ns) ⊎ (k ≡ length ns) → AreBelow k (parts_of (get_or (ns ++ n ∷ []) k End))
  below_at k (inl h) = rw (old_node k h) (sound.below k h)
  below_at k (inr h) = rw (new_node k h) (rw h below)

  fits_at : (k : ℕ) → (k < length ns) ⊎ (k ≡ length ns) → Fits (get_or (s ++ t ∷ []) k e)
  fits_at k (inl h) = rw (old_tree k h) (sound.fits k h)
  fits_at k (inr h) = rw (new_tree k h) fits

  different_at : (j k : ℕ) → (j < length ns) ⊎ (j ≡ length ns) → (k < length ns) ⊎ (k ≡ length ns) → get_or (s ++ t ∷ []) j e ≡ get_or (s ++ t ∷ []) k e → j ≡ k
  different_at j k (inl h) (inl l) q = sound.different j k h l (sym (old_tree j h) ∙ q ∙ old_tree k l)
  different_at j k (inl h) (inr l) q = absurd (fresh j h (sym (old_tree j h) ∙ q ∙ new_tree k l))
  different_at j k (inr h) (inl l) q = absurd (fresh k l (sym (old_tree k l) ∙ sym q ∙ new_tree j h))
  different_at j k (inr h) (inr l) q = h ∙ sym l

  pub IsSound-push : IsSound (ns ++ n ∷ [])
  IsSound-push = record {
    made = λ k h. rw (trees_of-push ns n) (made_at k (at k h));
    below = λ k h. below_at k (at k h);
    fits = λ k h. rw (trees_of-push ns n) (fits_at k (at k h));
    different = λ j k h l q. different_at j k (at j h) (at k l) (rw (trees_of-push ns n) at q);
  }

-- a node over well-sorted children is well-sorted
assembled_sorted : (s : List Tree) (k : ℕ) (h : Head) (p : Parts) → AreBelow k p → ((j : ℕ) → j < k → WellSorted (get_or s j (Leaf HEnd))) → Fits (assemble s h p) → WellSorted (assemble s h p)
assembled_sorted s k h parts.None b w f = f
assembled_sorted s k h (parts.One x) b w f = (f, w x.0 b)
assembled_sorted s k h (parts.Two x y) b w f = (f, w x.0 b.0, w y.0 b.1)
assembled_sorted s k h (parts.Three x y z) b w f = (f, w x.0 b.0, w y.0 b.1, w z.0 b.2)

-- each tree is well-sorted
sorted_below : (ns : List Node) → IsSound ns → (n k : ℕ) → k < n → k < length ns → WellSorted (get_or (trees_of ns) k (Leaf HEnd))
sorted_below ns sound zero k l h = absurd (omega arith)
sorted_below ns sound (suc n) k l h =
    let m : Node = get_or ns k End in
    rw (sound.made k h)
    (assembled_sorted (trees_of ns) k (head_of_node m) (parts_of m) (sound.below k h) (λ j i. sorted_below ns sound n j (omega arith) (omega arith)) (rw (sound.made k h) at (sound.fits k h)))

-- the tree of a node that fits is well-sorted
pub node_sorted : (ns : List Node) (s : List Tree) → trees_of ns ≡ s → IsSound ns → (n : Node) → AreBelow (length s) (parts_of n) → Fits (node_tree s n) → WellSorted (node_tree s n)
node_sorted ns s is sound n b f =
    assembled_sorted s (length s) (head_of_node n) (parts_of n) b
    (λ j l. rw (← is) (sorted_below ns sound (j + 1) j (omega arith) (omega (arith, length-trees_of ns, ap length is)))) f

pub IsSound_nil : IsSound []
IsSound_nil = record { made = λ k h. absurd (omega arith); below = λ k h. absurd (omega arith); fits = λ k h. absurd (omega arith); different = λ j k h l q. absurd (omega arith) }

-- what a store with the nodes `ns` says in terms of its trees `s`
module _ (ns : List Node) (s : List Tree) (is : trees_of ns ≡ s) where
  pub length_is : length ns ≡ length s
  length_is = sym (length-trees_of ns) ∙ ap length is

  pub held : (id : TermId) → Holds s id → id.0 < length ns
  held id h = omega (arith, length_is)

  module _ (sound : IsSound ns) (id : TermId) (h : Holds s id) where
    module _ (n : Node) (read : n ≡ get_or ns id.0 n) where
      node_is : get_or ns id.0 End ≡ n
      node_is = sym (get_or_read ns id.0 n (held id h) read End)

      pub tree_is : tree_at s id ≡ node_tree s n
      tree_is = rw (← is) (sound.made id.0 (held id h) ∙ ap (node_tree (trees_of ns)) node_is)

      pub below_is : AreBelow id.0 (parts_of n)
      below_is = rw (← node_is) (sound.below id.0 (held id h))

    pub fits_is : Fits (tree_at s id)
    fits_is = rw (← is) (sound.fits id.0 (held id h))

    pub sorted_is : WellSorted (tree_at s id)
    sorted_is = rw (← is) (sorted_below ns sound (id.0 + 1) id.0 (omega arith) (held id h))

    pub same_is : (b : TermId) → Holds s b → tree_at s id ≡ tree_at s b → id.0 ≡ b.0
    same_is b k q = sound.different id.0 b.0 (held id h) (held b k) (rw (← is) at q)

    pub same_id : (b : TermId) → Holds s b → tree_at s id ≡ tree_at s b → id ≡ b
    same_id b k q = id_same id b (same_is b k q)

    pub number_iff : (b : TermId) (r : Bool) → r ≡ (id.0 == b.0) → (IsTrue r → id ≡ b) × (id ≡ b → IsTrue r)
    number_iff b r q =
        (λ t. id_same id b (grind (arith, nat_tests)), λ w. let n : id.0 ≡ b.0 = ap (λ (x : TermId). x.0) w in grind (arith, nat_tests))

    pub same_iff : (b : TermId) → Holds s b → (r : Bool) → r ≡ (id.0 == b.0) → (IsTrue r → tree_at s id ≡ tree_at s b) × (tree_at s id ≡ tree_at s b → IsTrue r)
    same_iff b k r q =
        (λ t. let n : id.0 ≡ b.0 = grind (arith, nat_tests) in ap (tree_at s) (id_same id b n), λ w. let n : id.0 ≡ b.0 = same_is b k w in grind (arith, nat_tests))

  -- where the node is there already
  module _ (sound : IsSound ns) (n : Node) (k : ℕ) (l : k < length ns) (is_n : get_or ns k End ≡ n) where
    pub found_held : k < length s
    found_held = omega (arith, length_is)

    pub found_tree : get_or s k (Leaf HEnd) ≡ node_tree s n
    found_tree = rw (← is) (sound.made k l ∙ ap (node_tree (trees_of ns)) is_n)

  -- where it is added at the end
  module _ (n : Node) (k : ℕ) (last : k ≡ length ns) where
    pub added_held : k < length (trees_of (ns ++ n ∷ []))
    added_held = rw (length-trees_of (ns ++ n ∷ [])) (omega (arith, length_push ns n))

    pub added_tree : get_or (trees_of (ns ++ n ∷ [])) k (Leaf HEnd) ≡ node_tree s n
    added_tree = rw (trees_of-push ns n, ← is) (get_or_push (trees_of ns) (node_tree (trees_of ns) n) (Leaf HEnd) k (length-trees_of ns ∙ sym last))

    pub adds : Grows s (trees_of (ns ++ n ∷ []))
    adds = rw (trees_of-push ns n, ← is) (Grows_push (trees_of ns) (node_tree (trees_of ns) n))
