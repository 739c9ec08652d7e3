-- The negated equation of a closed term and a hole at the type of two others.
use Rattle.std.proofs.Common.{◌≡◌, [], ◌∷◌, refl, sym, ap, subst, ◌∙◌}
use Rattle.trees.specs.declared.TermId.{TermId}
use Rattle.trees.specs.declared.Sort.TheVariants.{Term}
use Rattle.trees.specs.Tree.{Tree}
use Rattle.trees.specs.Node.{tree_at}
use Rattle.trees.specs.Binding.{inst}
use Rattle.trees.specs.Sorts.{sort_of}
use Rattle.tasks.specs.Task.{neg}
use Rattle.tasks.specs.Vocabulary.{of_task}
use Rattle.tasks.proofs.TypeInstances.{typed_further}
use Rattle.rules.specs.Forms.{equal}
use Rattle.evidence.specs.Drafts.{DraftTree}
use Rattle.images.proofs.Holes.{hole_beside}
use Rattle.congruence.specs.Alike.{ArePair, HoleAt, TemplateFor}
use Rattle.congruence.proofs.HoleTemplates.{closed_loose}
use Rattle.congruence.proofs.EquationHoles.{hole_type_of}

module _ (d : DraftTree) (hole l r m : TermId) (h : HoleAt d hole l r l r) (lr : ArePair d l r) (lm : ArePair d l m) (sl : sort_of (tree_at d.trees l) ≡ Term) (made : Tree) (q : made ≡ neg (equal (tree_at d.trees m) (tree_at d.trees hole))) where
  pub beside_template : TemplateFor d.task (tree_at d.trees l) made
  beside_template = subst (TemplateFor d.task (tree_at d.trees l)) (sym q) (
    h.0,
    (
      h.1.0,
      record {
        sort = refl;
        typed = (refl, tt, (((lm.sort ∙ sl, h.1.1.sort ∙ sl), tt), lm.type ∙ sym (hole_type_of d hole l r h lr sl), typed_further (of_task d.task) [] (h.0 ∷ []) (tree_at d.trees m) lm.right.ground.typed, h.1.1.typed));
        ground = (lm.right.ground.ground, h.1.1.ground);
      },
    ),
  )

  pub beside_before : neg (equal (tree_at d.trees m) (tree_at d.trees l)) ≡ inst made (tree_at d.trees l)
  beside_before = ap neg (cc (h.1.1.left, sym (hole_beside (tree_at d.trees l) (closed_loose d l lr.left) (tree_at d.trees m) (closed_loose d m lm.right)))) ∙ ap (λ (z : Tree). inst z (tree_at d.trees l)) (sym q)

  pub beside_after : neg (equal (tree_at d.trees m) (tree_at d.trees r)) ≡ inst made (tree_at d.trees r)
  beside_after = ap neg (cc (h.1.1.right, sym (hole_beside (tree_at d.trees r) (closed_loose d r lr.right) (tree_at d.trees m) (closed_loose d m lm.right)))) ∙ ap (λ (z : Tree). inst z (tree_at d.trees r)) (sym q)
