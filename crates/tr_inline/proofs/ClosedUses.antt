-- A closed use unfolded alone: the two are a pair.
use Rattle.std.proofs.Common.{◌≡◌, List, [], subst, sym, ap, ◌∙◌}
use Rattle.trees.specs.declared.TermId.{TermId}
use Rattle.trees.specs.Tree.{Tree}
use Rattle.trees.specs.Node.{tree_at, Holds}
use Rattle.trees.specs.Sorts.{WellSorted, IsExpression, sort_of, type_of}
use Rattle.tasks.specs.declared.declaration.Def.{Def}
use Rattle.tasks.specs.Task.{TaskTree}
use Rattle.tasks.specs.Meaning.{definition_at}
use Rattle.tasks.specs.Vocabulary.{of_task}
use Rattle.tasks.proofs.TypeInstances.{sound_task}
use Rattle.evidence.specs.Drafts.{DraftTree, Extends}
use Rattle.congruence.specs.declared.alike.AlikeBy.{AlikeBy}
use Rattle.congruence.specs.kernel.Right.{IsGroundExpression}
use Rattle.congruence.specs.Alike.{IsClosedAt, ArePair, Shows}
use Rattle.congruence.proofs.Later.{tree_later, closed_later}
use Rattle.inlining.specs.images.Images.{KeepsTree}
use Rattle.inlining.proofs.Bodies.{IsBody, defined_body}
use Rattle.inlining.proofs.Uses.{unfold_node_rule}
use Rattle.tr_inline.specs.Uses.{IsUseOf}
use Rattle.tr_inline.specs.Definitions.{body_in, unfolding_rule, IsDefinedIn}
use Rattle.tr_inline.proofs.Unfolded.{body_of, use_same}

module _ (d d1 : DraftTree) (x : Extends d d1) (def : Def) (r : IsDefinedIn d def) (left : TermId) (c : IsClosedAt d left) where
  abbrev W : Tree
  W = unfolding_rule d.task def.symbol (tree_at d.trees left)

  is_body : IsBody (of_task d.task) def.symbol (body_in d.task def.symbol)
  is_body = subst (IsBody (of_task d.task) def.symbol) (sym (body_of d def r)) (defined_body (of_task d.task) (definition_at d.trees def) r.defined)

  pub left_used : (zs : Tree) × ((ts : Tree) × IsUseOf def.symbol (tree_at d.trees left) zs ts) → (zs : Tree) × ((ts : Tree) × IsUseOf def.symbol (tree_at d1.trees left) zs ts)
  left_used u = (u.0, (u.1.0, use_same def.symbol (tree_at d.trees left) (tree_at d1.trees left) u.0 u.1.0 (tree_later d d1 x left c.held) u.1.1))

  module _ (whole : TermId) (held : Holds d1.trees whole) (q : tree_at d1.trees whole ≡ W) where
    pub whole_is : tree_at d1.trees whole ≡ unfolding_rule d1.task def.symbol (tree_at d1.trees left)
    whole_is = q ∙ ap (λ (t : TaskTree). unfolding_rule t def.symbol (tree_at d.trees left)) (sym x.task) ∙ ap (unfolding_rule d1.task def.symbol) (sym (tree_later d d1 x left c.held))

    pub unfolded_pair : WellSorted (tree_at d1.trees whole) → ArePair d1 left whole
    unfolded_pair sorted =
        let kept : KeepsTree (of_task d.task) [] (tree_at d.trees left) W =
        (unfold_node_rule (of_task d.task) (sound_task d.task r.valid) def.symbol (body_in d.task def.symbol) is_body).keeps [] (tree_at d.trees left) c.ground.sort c.ground.typed (subst WellSorted q sorted) in
        let ground : IsGroundExpression d.task W = record { sort = subst IsExpression (sym kept.sort) c.ground.sort; typed = kept.typed; ground = kept.variables 0 c.ground.ground } in
        record {
          left = closed_later d d1 x left c;
          right = record { held = held; ground = subst (λ (t : TaskTree). IsGroundExpression t (tree_at d1.trees whole)) (sym x.task) (subst (IsGroundExpression d.task) (sym q) ground) };
          sort = ap sort_of q ∙ kept.sort ∙ ap sort_of (sym (tree_later d d1 x left c.held));
          type = ap type_of q ∙ kept.type ∙ ap type_of (sym (tree_later d d1 x left c.held));
        }

-- evidence at the trees of other drafts
pub shows_between : (d d1 d2 : DraftTree) → Extends d d1 → Extends d1 d2 → (w : AlikeBy) (l r : TermId) → Holds d.trees l → Holds d1.trees r → Shows d2 w (tree_at d1.trees l) (tree_at d1.trees r) → Shows d2 w (tree_at d.trees l) (tree_at d2.trees r)
shows_between d d1 d2 x y w l r hl hr s =
    subst (λ (z : Tree). Shows d2 w z (tree_at d2.trees r)) (tree_later d d1 x l hl) (subst (λ (z : Tree). Shows d2 w (tree_at d1.trees l) z) (sym (tree_later d1 d2 y r hr)) s)
