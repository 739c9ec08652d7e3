-- Equations of alike terms: the tree with a hole at one side, and the equation between.
use Rattle.std.proofs.Common.{◌≡◌, [], ◌∷◌, refl, sym, ap, subst, ◌∙◌}
use Rattle.trees.specs.declared.TermId.{TermId}
use Rattle.trees.specs.declared.Sort.TheVariants.{Term}
use Rattle.trees.specs.Tree.{Tree, Two, HEq}
use Rattle.trees.specs.Node.{tree_at, Holds}
use Rattle.trees.specs.Binding.{inst}
use Rattle.trees.specs.Sorts.{sort_of, type_of}
use Rattle.tasks.specs.Task.{TaskTree}
use Rattle.tasks.specs.Vocabulary.{of_task}
use Rattle.tasks.specs.Typing.{TypedUnder}
use Rattle.tasks.specs.Valid.{IsGround, IsGroundFormula}
use Rattle.tasks.proofs.TypeInstances.{typed_further}
use Rattle.evidence.specs.Drafts.{DraftTree, Extends, IsFormulaAt}
use Rattle.images.proofs.Changes.{open_inst_type}
use Rattle.images.proofs.Holes.{hole_beside}
use Rattle.congruence.specs.Alike.{IsClosedAt, ArePair, HoleAt}
use Rattle.congruence.proofs.HoleTemplates.{closed_loose}

equation_typed : (d : DraftTree) (left : TermId) (A C : Tree) → IsFormulaAt d left → tree_at d.trees left ≡ Two HEq A C → TypedUnder (of_task d.task) [] (Two HEq A C)
equation_typed d left A C f q = subst (TypedUnder (of_task d.task) []) q f.ground.typed

-- the type of a tree with a hole of which two terms are the instances at themselves
pub hole_type_of : (d : DraftTree) (opened a b : TermId) → HoleAt d opened a b a b → ArePair d a b → sort_of (tree_at d.trees a) ≡ Term → type_of (tree_at d.trees opened) ≡ type_of (tree_at d.trees a)
hole_type_of d opened a b h p s = sym (open_inst_type (of_task d.task) h.0 [] (tree_at d.trees a) s h.1.0 p.left.ground.typed (tree_at d.trees opened) h.1.1.typed) ∙ ap type_of (sym h.1.1.left)

module _ (d : DraftTree) (opened left middle a b c hole : TermId) (h : HoleAt d opened a b a b) (p : ArePair d a b) (s : sort_of (tree_at d.trees a) ≡ Term) (k : IsClosedAt d c) (f : IsFormulaAt d left) (hh : Holds d.trees hole) where
  opened_type : type_of (tree_at d.trees opened) ≡ type_of (tree_at d.trees a)
  opened_type = hole_type_of d opened a b h p s

  further : TypedUnder (of_task d.task) (h.0 ∷ []) (tree_at d.trees c)
  further = typed_further (of_task d.task) [] (h.0 ∷ []) (tree_at d.trees c) k.ground.typed

  -- the hole first
  pub first_hole : tree_at d.trees left ≡ Two HEq (tree_at d.trees a) (tree_at d.trees c) → tree_at d.trees middle ≡ Two HEq (tree_at d.trees b) (tree_at d.trees c) → tree_at d.trees hole ≡ Two HEq (tree_at d.trees opened) (tree_at d.trees c) → HoleAt d hole left middle a b
  first_hole ql qm qh =
      let whole = equation_typed d left (tree_at d.trees a) (tree_at d.trees c) f ql in (
        h.0,
        (
          h.1.0,
          record {
            held = hh;
            sort = ap sort_of qh ∙ ap sort_of (sym ql);
            typed = subst (TypedUnder (of_task d.task) (h.0 ∷ [])) (sym qh) (((h.1.1.sort ∙ s, whole.0.0.1), tt), opened_type ∙ whole.1, h.1.1.typed, further);
            ground = subst IsGround (sym qh) (h.1.1.ground, k.ground.ground);
            left = ql ∙ cc (h.1.1.left, sym (hole_beside (tree_at d.trees a) (closed_loose d a p.left) (tree_at d.trees c) (closed_loose d c k))) ∙ ap (λ (z : Tree). inst z (tree_at d.trees a)) (sym qh);
            right = qm ∙ cc (h.1.1.right, sym (hole_beside (tree_at d.trees b) (closed_loose d b p.right) (tree_at d.trees c) (closed_loose d c k))) ∙ ap (λ (z : Tree). inst z (tree_at d.trees b)) (sym qh);
          },
        ),
      )

  -- the hole second
  pub second_hole : tree_at d.trees left ≡ Two HEq (tree_at d.trees c) (tree_at d.trees a) → tree_at d.trees middle ≡ Two HEq (tree_at d.trees c) (tree_at d.trees b) → tree_at d.trees hole ≡ Two HEq (tree_at d.trees c) (tree_at d.trees opened) → HoleAt d hole left middle a b
  second_hole ql qm qh =
      let whole = equation_typed d left (tree_at d.trees c) (tree_at d.trees a) f ql in (
        h.0,
        (
          h.1.0,
          record {
            held = hh;
            sort = ap sort_of qh ∙ ap sort_of (sym ql);
            typed = subst (TypedUnder (of_task d.task) (h.0 ∷ [])) (sym qh) (((whole.0.0.0, h.1.1.sort ∙ s), tt), whole.1 ∙ sym opened_type, further, h.1.1.typed);
            ground = subst IsGround (sym qh) (k.ground.ground, h.1.1.ground);
            left = ql ∙ cc (h.1.1.left, sym (hole_beside (tree_at d.trees a) (closed_loose d a p.left) (tree_at d.trees c) (closed_loose d c k))) ∙ ap (λ (z : Tree). inst z (tree_at d.trees a)) (sym qh);
            right = qm ∙ cc (h.1.1.right, sym (hole_beside (tree_at d.trees b) (closed_loose d b p.right) (tree_at d.trees c) (closed_loose d c k))) ∙ ap (λ (z : Tree). inst z (tree_at d.trees b)) (sym qh);
          },
        ),
      )

-- two equations are a pair
pub equal_pair : (d : DraftTree) (l r : TermId) (A B C E : Tree) → IsClosedAt d l → IsClosedAt d r → tree_at d.trees l ≡ Two HEq A B → tree_at d.trees r ≡ Two HEq C E → ArePair d l r
equal_pair d l r A B C E a b p q = record { left = a; right = b; sort = ap sort_of q ∙ ap sort_of (sym p); type = ap type_of q ∙ ap type_of (sym p) }

-- the equation between is a formula
pub middle_formula : (d d1 : DraftTree) (x : Extends d d1) (left a b c made : TermId) → IsFormulaAt d left → ArePair d a b → sort_of (tree_at d.trees a) ≡ Term → IsClosedAt d c → tree_at d.trees left ≡ Two HEq (tree_at d.trees a) (tree_at d.trees c)
    → Holds d1.trees made → tree_at d1.trees made ≡ Two HEq (tree_at d.trees b) (tree_at d.trees c) → IsFormulaAt d1 made
middle_formula d d1 x left a b c made f p s k q hm qm =
    let w = equation_typed d left (tree_at d.trees a) (tree_at d.trees c) f q in
    record {
      held = hm;
      ground = subst (λ (t : TaskTree). IsGroundFormula t (tree_at d1.trees made)) (sym x.task) (subst (IsGroundFormula d.task) (sym qm) (record {
        sort = refl;
        typed = (((p.sort ∙ s, w.0.0.1), tt), p.type ∙ w.1, p.right.ground.typed, k.ground.typed);
        ground = (p.right.ground.ground, k.ground.ground);
      }));
    }
