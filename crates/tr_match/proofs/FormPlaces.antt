-- The `if` form of an open `match`, and that of its instance at closed terms, by their numbers in a draft.
use Rattle.std.proofs.Common.{◌≡◌, ℕ, List, [], length, sym, ap, subst, ◌∙◌}
use Rattle.tasks.specs.trees.declared.TermId.{TermId}
use Rattle.tasks.specs.trees.Tree.{Tree, Two, HCase}
use Rattle.tasks.specs.trees.Node.{tree_at, trees_at, Holds}
use Rattle.tasks.specs.trees.Binding.{inst_many}
use Rattle.tasks.specs.trees.Sorts.{WellSorted, sort_of, type_of, IsExpression}
use Rattle.tasks.proofs.trees.Sizes.{sorted_fits}
use Rattle.tasks.specs.Task.{TaskTree}
use Rattle.tasks.specs.Vocabulary.{of_task}
use Rattle.tasks.specs.Valid.{IsValid}
use Rattle.evidence.specs.Drafts.{DraftTree, Extends}
use Rattle.evidence.specs.Laws.{Extends_trans}
use Rattle.images.specs.Open.{IsOpenUnder, IsAt}
use Rattle.images.specs.typing_laws.HasTyping.{HasTyping, KeepsTyping}
use Rattle.congruence.specs.Alike.{IsClosedAt, ArePair}
use Rattle.congruence.proofs.Later.{tree_later, closed_later}
use Rattle.walking.specs.Places.{types_for, IsInstanceAt}
use Rattle.walking.proofs.PlacesLater.{trees_later}
use Rattle.walking.proofs.Places.{place_closed}
use Rattle.walking.proofs.Placed.{placed}
use Rattle.tr_match.specs.match_forms.Forms.{if_form, match_rule}
use Rattle.images.proofs.typing_laws.Sorted.{typed_has, has_typed}
use Rattle.tr_match.specs.match_forms.lemmas.Rule.{match_typed_rule}
use Rattle.tr_match.proofs.match_forms.AtTerms.{match_at_terms}
use Rattle.tr_match.specs.if_forms.IfForms.{IsIfForm}

-- an open tree at an environment is typed under the types of its terms
pub place_typed : (d : DraftTree) (env : List TermId) (e left : TermId) (n : ℕ) → IsInstanceAt d env e left n → HasTyping (of_task d.task) (types_for (trees_at d.trees env)) (tree_at d.trees e)
place_typed d env e left n p = typed_has (of_task d.task) (types_for (trees_at d.trees env)) (tree_at d.trees e) p.at.shape.typed

-- so is its instance, in a later draft too
pub instance_typed : (d d1 : DraftTree) → Extends d d1 → (env : List TermId) (e left : TermId) (n : ℕ) → IsInstanceAt d env e left n → HasTyping (of_task d1.task) [] (tree_at d1.trees left)
instance_typed d d1 x env e left n p = let c = closed_later d d1 x left (place_closed d env e left n p) in typed_has (of_task d1.task) [] (tree_at d1.trees left) c.ground.typed

module _ (d d1 d2 : DraftTree) (x : Extends d d1) (y : Extends d1 d2) (env : List TermId) (e left : TermId) (n : ℕ) (p : IsInstanceAt d env e left n) (valid : IsValid d.task) (s b : Tree) (q : tree_at d.trees e ≡ Two HCase s b) (image right : TermId) (hi : Holds d1.trees image)
    (ei : tree_at d1.trees image ≡ match_rule d.task (tree_at d.trees e)) (wi : WellSorted (tree_at d1.trees image)) (hr : Holds d2.trees right) (er : tree_at d2.trees right ≡ match_rule d1.task (tree_at d1.trees left)) where
  abbrev E : Tree
  E = tree_at d.trees e

  abbrev L : Tree
  L = tree_at d.trees left

  abbrev F : List Tree
  F = trees_at d.trees env

  abbrev W : Tree
  W = match_rule d.task E

  abbrev xy : Extends d d2
  xy = Extends_trans d d1 d2 x y

  keeps : KeepsTyping (of_task d.task) (types_for F) E W
  keeps = (match_typed_rule d.task valid).keeps (types_for F) E p.sort (place_typed d env e left n p)

  open_form : IsOpenUnder d.task (types_for F) W n
  open_form = record {
    typed = has_typed (of_task d.task) (types_for F) W keeps.typed (sorted_fits W (subst WellSorted ei wi));
    ground = keeps.variables 0 p.at.shape.ground;
    above = keeps.above n p.at.shape.above;
  }

  right_is : tree_at d2.trees right ≡ match_rule d.task L
  right_is = er ∙ ap (λ (t : TaskTree). match_rule t (tree_at d1.trees left)) x.task ∙ ap (match_rule d.task) (tree_later d d1 x left p.left_held)

  at_terms : match_rule d.task L ≡ inst_many W F
  at_terms = match_at_terms d.task valid (types_for F) F n s b L (subst (λ (z : Tree). IsAt d.task (types_for F) F z L n) q p.at) ∙ ap (λ (z : Tree). inst_many (match_rule d.task z) F) (sym q)

  pub form_place : IsInstanceAt d2 env image right n
  form_place =
      placed d d1 d2 x y env n W p.env_held p.at.around open_form (subst IsExpression (sym keeps.sort) p.sort) (keeps.above (length d.task.params) p.own) p.order image right hi ei hr
      (right_is ∙ at_terms ∙ ap (λ (z : Tree). inst_many z F) (sym ei) ∙ ap (inst_many (tree_at d1.trees image)) (sym (trees_later d d1 x env p.env_held)))

  closed : IsClosedAt d left
  closed = place_closed d env e left n p

  closed_keeps : KeepsTyping (of_task d.task) [] L (match_rule d.task L)
  closed_keeps = (match_typed_rule d.task valid).keeps [] L closed.ground.sort (typed_has (of_task d.task) [] L closed.ground.typed)

  pub form_pair : ArePair d2 left right
  form_pair = record {
    left = closed_later d d2 xy left closed;
    right = place_closed d2 env image right n form_place;
    sort = ap sort_of right_is ∙ closed_keeps.sort ∙ ap sort_of (sym (tree_later d d2 xy left closed.held));
    type = ap type_of right_is ∙ closed_keeps.type ∙ ap type_of (sym (tree_later d d2 xy left closed.held));
  }

  left_is : L ≡ Two HCase (inst_many s F) (inst_many b F)
  left_is = p.at.is ∙ ap (λ (z : Tree). inst_many z F) q

  pub form_is : IsIfForm d2.task (tree_at d2.trees left) (tree_at d2.trees right)
  form_is = record {
    scrutinee = inst_many s F;
    branches = inst_many b F;
    is = tree_later d d2 xy left closed.held ∙ left_is;
    form = right_is ∙ ap (match_rule d.task) left_is ∙ ap (λ (t : TaskTree). if_form t (inst_many s F) (inst_many b F)) (sym xy.task);
  }
