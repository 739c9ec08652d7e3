-- Open trees and links at the visible part of an environment, by their numbers in a draft.
use Rattle.std.proofs.Common.{◌≡◌, ℕ, ◌+◌, ◌≤◌, List, ◌++◌, length, All, sym, ap, subst, ◌∙◌, arith}
use Rattle.std.proofs.lemmas.List.{map-append, length-map, length-append, get_or-append-add}
use Rattle.trees.specs.declared.TermId.{TermId}
use Rattle.trees.specs.Tree.{Tree, loose}
use Rattle.trees.specs.Node.{tree_at, trees_at, Holds}
use Rattle.trees.specs.Sorts.{sort_of, type_of}
use Rattle.evidence.specs.Drafts.{DraftTree}
use Rattle.congruence.specs.Alike.{Shows}
use Rattle.images.specs.Open.{IsAt}
use Rattle.walking.specs.declared.linked.Linked.{Linked}
use Rattle.walking.specs.Places.{types_for, IsInstanceAt, IsLinkOf}
use Rattle.walking.proofs.Branches.{types_joined, types_length}
use Rattle.walking.proofs.Visible.{at_near, at_whole}

module _ (d : DraftTree) (far near : List TermId) where
  abbrev F : List Tree
  F = trees_at d.trees far

  abbrev N : List Tree
  N = trees_at d.trees near

  joined_trees : trees_at d.trees (far ++ near) ≡ F ++ N
  joined_trees = map-append (tree_at d.trees) far near

  joined_types : types_for (trees_at d.trees (far ++ near)) ≡ types_for N ++ types_for F
  joined_types = ap types_for joined_trees ∙ types_joined F N

  as_many : length N ≡ length (types_for N)
  as_many = sym (types_length N)

  at_joined : (e l : Tree) (n : ℕ) → IsAt d.task (types_for (trees_at d.trees (far ++ near))) (trees_at d.trees (far ++ near)) e l n → IsAt d.task (types_for N ++ types_for F) (F ++ N) e l n
  at_joined e l n w = subst (λ (z : List Tree). IsAt d.task z (F ++ N) e l n) joined_types (subst (λ (z : List Tree). IsAt d.task (types_for (trees_at d.trees (far ++ near))) z e l n) joined_trees w)

  at_split : (e l : Tree) (n : ℕ) → IsAt d.task (types_for N ++ types_for F) (F ++ N) e l n → IsAt d.task (types_for (trees_at d.trees (far ++ near))) (trees_at d.trees (far ++ near)) e l n
  at_split e l n w = subst (λ (z : List Tree). IsAt d.task z (trees_at d.trees (far ++ near)) e l n) (sym joined_types) (subst (λ (z : List Tree). IsAt d.task (types_for N ++ types_for F) z e l n) (sym joined_trees) w)

  near_held : All (Holds d.trees) (far ++ near) → All (Holds d.trees) near
  near_held h = λ k z l. subst (Holds d.trees) (get_or-append-add far near k z) (h (length far + k) z (omega (arith, l, length-append far near)))

  -- a tree that sees the last terms alone is at these
  pub place_near : (e l : TermId) (n : ℕ) → IsInstanceAt d (far ++ near) e l n → loose (tree_at d.trees e) ≤ length near → IsInstanceAt d near e l n
  place_near e l n p k = record {
    env_held = near_held p.env_held;
    open_held = p.open_held;
    left_held = p.left_held;
    sort = p.sort;
    own = p.own;
    order = p.order;
    at = at_near d.task (types_for N) (types_for F) N F (tree_at d.trees e) (tree_at d.trees l) n as_many (omega (arith, k, length-map near (tree_at d.trees))) (at_joined (tree_at d.trees e) (tree_at d.trees l) n p.at);
  }

  -- and what is at these is at all
  pub place_whole : (e l image right : TermId) (n m : ℕ) → IsInstanceAt d (far ++ near) e l n → IsInstanceAt d near image right m → IsInstanceAt d (far ++ near) image right n
  place_whole e l image right n m p w = record {
    env_held = p.env_held;
    open_held = w.open_held;
    left_held = w.left_held;
    sort = w.sort;
    own = w.own;
    order = p.order;
    at = at_split (tree_at d.trees image) (tree_at d.trees right) n
        (at_whole d.task (types_for N) (types_for F) N F (tree_at d.trees image) (tree_at d.trees right) n m as_many (at_joined (tree_at d.trees e) (tree_at d.trees l) n p.at).around (let o = w.own in let q = p.order in omega (arith, o, q)) w.at);
  }

  pub link_whole : (e l k : TermId) (n m : ℕ) (t : Tree) (made : Linked) → IsInstanceAt d (far ++ near) e l n → tree_at d.trees k ≡ tree_at d.trees l → IsLinkOf d near k m t made → IsLinkOf d (far ++ near) l n t made
  link_whole e l k n m t made p q w = record {
    is = w.is;
    place = place_whole e l made.image made.right n m p w.place;
    sort = w.sort ∙ ap sort_of q;
    type = w.type ∙ ap type_of q;
    shows = subst (λ (z : Tree). Shows d made.alike z (tree_at d.trees made.right)) q w.shows;
  }
