-- What the laws make of a node at an environment.
use Rattle.std.proofs.Common.{◌≡◌, ℕ, ◌≤◌, true, List, length, sym, ap, subst, ◌∙◌}
use Rattle.trees.specs.declared.TermId.{TermId}
use Rattle.trees.specs.Tree.{Tree, above_params}
use Rattle.trees.specs.Node.{tree_at, trees_at, Holds}
use Rattle.trees.specs.Binding.{inst_many}
use Rattle.trees.specs.Sorts.{WellSorted, sort_of, type_of, IsExpression}
use Rattle.trees.proofs.Sizes.{sorted_fits}
use Rattle.tasks.specs.Vocabulary.{of_task}
use Rattle.evidence.specs.Drafts.{DraftTree, Extends}
use Rattle.evidence.specs.Laws.{Extends_trans}
use Rattle.walking.specs.images.Open.{IsOpenUnder}
use Rattle.walking.specs.images.typing_laws.HasTyping.{HasTyping, KeepsTyping}
use Rattle.walking.proofs.images.Environments.{closed_for}
use Rattle.walking.proofs.OneTerm.{typed_has, has_typed}
use Rattle.congruence.specs.Alike.{ArePair}
use Rattle.congruence.proofs.Later.{tree_later, closed_later}
use Rattle.walking.specs.Places.{types_for, IsInstanceAt}
use Rattle.walking.proofs.PlacesLater.{trees_later}
use Rattle.walking.proofs.Places.{place_closed, place_sort}
use Rattle.walking.proofs.EqualPlaces.{place_type}
use Rattle.walking.proofs.Placed.{placed}
use Rattle.tr_simplify.specs.Laws.{has_laws, simplify_rule}
use Rattle.tr_simplify.specs.SimplifyKept.{simplify_typed_rule}
use Rattle.tr_simplify.proofs.AtTerms.{simplify_in}

module _ (d : DraftTree) (env : List TermId) (e left : TermId) (n : ℕ) (p : IsInstanceAt d env e left n) (laws : has_laws (tree_at d.trees e) ≡ true) where
  abbrev E : List Tree
  E = trees_at d.trees env

  abbrev types : List Tree
  types = types_for (trees_at d.trees env)

  abbrev W : Tree
  W = simplify_rule (tree_at d.trees e)

  typed : HasTyping (of_task d.task) types (tree_at d.trees e)
  typed = typed_has (of_task d.task) types (tree_at d.trees e) p.at.shape.typed

  kept : KeepsTyping (of_task d.task) types (tree_at d.trees e) W
  kept = (simplify_typed_rule (of_task d.task)).keeps types (tree_at d.trees e) p.sort typed

  instance_is : inst_many W E ≡ simplify_rule (tree_at d.trees left)
  instance_is = simplify_in (of_task d.task) E (closed_for (of_task d.task) types E p.at.around.terms) types (tree_at d.trees e) typed laws ∙ ap simplify_rule (sym p.at.is)

  made_open : WellSorted W → IsOpenUnder d.task types W n
  made_open w = record {
    typed = has_typed (of_task d.task) types W kept.typed (sorted_fits W w);
    ground = kept.variables 0 p.at.shape.ground;
    above = kept.above n p.at.shape.above;
  }

  -- in the drafts in which they are made
  module _ (d1 d2 : DraftTree) (g : Extends d d1) (k : Extends d1 d2) (image right : TermId) (hi : Holds d1.trees image) (ei : tree_at d1.trees image ≡ W) (wi : WellSorted (tree_at d1.trees image)) (hr : Holds d2.trees right)
      (er : tree_at d2.trees right ≡ simplify_rule (tree_at d1.trees left)) where
    gk : Extends d d2
    gk = Extends_trans d d1 d2 g k

    right_is : tree_at d2.trees right ≡ simplify_rule (tree_at d.trees left)
    right_is = er ∙ ap simplify_rule (tree_later d d1 g left p.left_held)

    pub law_place : IsInstanceAt d2 env image right n
    law_place =
        placed d d1 d2 g k env n W p.env_held p.at.around (made_open (subst WellSorted ei wi)) (subst IsExpression (sym kept.sort) p.sort) (kept.above (length d.task.params) p.own) p.order image right hi ei hr
        (right_is ∙ sym instance_is ∙ ap (λ (z : Tree). inst_many z E) (sym ei) ∙ ap (inst_many (tree_at d1.trees image)) (sym (trees_later d d1 g env p.env_held)))

    pub law_right : tree_at d2.trees right ≡ simplify_rule (tree_at d2.trees left)
    law_right = right_is ∙ ap simplify_rule (sym (tree_later d d2 gk left p.left_held))

    image_is : tree_at d2.trees image ≡ W
    image_is = tree_later d1 d2 k image hi ∙ ei

    left_is : tree_at d2.trees left ≡ tree_at d.trees left
    left_is = tree_later d d2 gk left p.left_held

    pub law_pair : ArePair d2 left right
    law_pair = record {
      left = closed_later d d2 gk left (place_closed d env e left n p);
      right = place_closed d2 env image right n law_place;
      sort = place_sort d2 env image right n law_place ∙ ap sort_of image_is ∙ kept.sort ∙ sym (place_sort d env e left n p) ∙ ap sort_of (sym left_is);
      type = place_type d2 env image right n law_place ∙ ap type_of image_is ∙ kept.type ∙ sym (place_type d env e left n p) ∙ ap type_of (sym left_is);
    }
