-- Places and links stay as the draft extends.
use Rattle.std.proofs.Common.{◌≡◌, ℕ, ◌≤◌, List, length, All, sym, ap, subst, ◌∙◌}
use Rattle.trees.specs.declared.TermId.{TermId}
use Rattle.trees.specs.Tree.{Tree, above_params}
use Rattle.trees.specs.Node.{tree_at, trees_at, Holds}
use Rattle.trees.specs.Sorts.{sort_of, type_of, IsExpression}
use Rattle.tasks.specs.Task.{TaskTree}
use Rattle.tasks.proofs.Growth as Growth
use Rattle.tasks.proofs.Growth.{all_held_later}
use Rattle.evidence.specs.Drafts.{DraftTree, Extends}
use Rattle.images.specs.Open.{IsAt}
use Rattle.walking.specs.declared.linked.Linked.{Linked}
use Rattle.congruence.specs.Alike.{Shows}
use Rattle.walking.specs.Places.{types_for, IsInstanceAt, IsLinkOf}
use Rattle.congruence.proofs.Later.{held_later, tree_later, shows_later}

module _ (d d1 : DraftTree) (x : Extends d d1) where
  pub all_later : (ids : List TermId) → All (Holds d.trees) ids → All (Holds d1.trees) ids
  all_later ids h = all_held_later d.trees d1.trees x.trees ids h

  pub trees_later : (ids : List TermId) → All (Holds d.trees) ids → trees_at d1.trees ids ≡ trees_at d.trees ids
  trees_later ids h = Growth.trees_later d.trees d1.trees x.trees ids h

  pub place_later : (env : List TermId) (e l : TermId) (n : ℕ) → IsInstanceAt d env e l n → IsInstanceAt d1 env e l n
  place_later env e l n p = record {
    env_held = all_later env p.env_held;
    open_held = held_later d d1 x e p.open_held;
    left_held = held_later d d1 x l p.left_held;
    sort = subst (λ (z : Tree). IsExpression (sort_of z)) (sym (tree_later d d1 x e p.open_held)) p.sort;
    own = subst (λ (t : TaskTree). above_params (tree_at d1.trees e) ≤ length t.params) (sym x.task) (subst (λ (z : Tree). above_params z ≤ length d.task.params) (sym (tree_later d d1 x e p.open_held)) p.own);
    order = subst (λ (t : TaskTree). length t.params ≤ n) (sym x.task) p.order;
    at = subst (λ (t : TaskTree). IsAt t (types_for (trees_at d1.trees env)) (trees_at d1.trees env) (tree_at d1.trees e) (tree_at d1.trees l) n) (sym x.task)
        (subst (λ (z : List Tree). IsAt d.task (types_for z) z (tree_at d1.trees e) (tree_at d1.trees l) n) (sym (trees_later env p.env_held))
        (subst (λ (z : Tree). IsAt d.task (types_for (trees_at d.trees env)) (trees_at d.trees env) z (tree_at d1.trees l) n) (sym (tree_later d d1 x e p.open_held))
        (subst (λ (z : Tree). IsAt d.task (types_for (trees_at d.trees env)) (trees_at d.trees env) (tree_at d.trees e) z n) (sym (tree_later d d1 x l p.left_held)) p.at)));
  }

  pub link_later : (env : List TermId) (l : TermId) (n : ℕ) (e : Tree) (m : Linked) → Holds d.trees l → IsLinkOf d env l n e m → IsLinkOf d1 env l n e m
  link_later env l n e m k p =
      let a : tree_at d1.trees l ≡ tree_at d.trees l = tree_later d d1 x l k in
      let b : tree_at d1.trees m.right ≡ tree_at d.trees m.right = tree_later d d1 x m.right p.place.left_held in
      record {
        is = tree_later d d1 x m.image p.place.open_held ∙ p.is;
        place = place_later env m.image m.right n p.place;
        sort = ap sort_of b ∙ p.sort ∙ ap sort_of (sym a);
        type = ap type_of b ∙ p.type ∙ ap type_of (sym a);
        shows = subst (λ (z : Tree). Shows d1 m.alike z (tree_at d1.trees m.right)) (sym a) (subst (λ (z : Tree). Shows d1 m.alike (tree_at d.trees l) z) (sym b) (shows_later d d1 x m.alike _ _ p.shows));
      }
