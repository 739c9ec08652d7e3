-- A `let` with a hole for its value, and a `match` with one for what it asks.
use Rattle.std.proofs.Common.{◌≡◌, ◌≤◌, [], ◌∷◌, ◌++◌, Option, Some, sym, ap, subst, ◌∙◌, arith}
use Rattle.trees.specs.declared.TermId.{TermId}
use Rattle.trees.specs.declared.Sort.TheVariants.{Term}
use Rattle.trees.specs.Tree.{Tree, Two, Head, HLet, HCase, loose}
use Rattle.trees.specs.Node.{tree_at, Holds}
use Rattle.trees.specs.Binding.{instantiating, inst}
use Rattle.trees.specs.Sorts.{sort_of, type_of}
use Rattle.trees.specs.laws.Changes.{change_closed}
use Rattle.trees.proofs.Laws.{keeps_inst}
use Rattle.tasks.specs.Vocabulary.{of_task}
use Rattle.tasks.specs.Typing.{TypedUnder, option_list, BranchesFit, first_body}
use Rattle.tasks.specs.Valid.{IsGround}
use Rattle.tasks.proofs.Closing.{typed_closed}
use Rattle.tasks.proofs.TypeInstances.{typed_further}
use Rattle.evidence.specs.Drafts.{DraftTree}
use Rattle.images.proofs.Holes.{hole_beside}
use Rattle.congruence.specs.Alike.{ArePair, HoleAt}
use Rattle.congruence.proofs.EquationHoles.{hole_type_of}

module _ (d : DraftTree) (opened left right a b c hole : TermId) (h : HoleAt d opened a b a b) (p : ArePair d a b) (s : sort_of (tree_at d.trees a) ≡ Term) (w : ArePair d left right) (hh : Holds d.trees hole) where
  same_type : type_of (tree_at d.trees opened) ≡ Some h.0
  same_type = hole_type_of d opened a b h p s ∙ h.1.0

  -- the node under the hole
  left_typed : (g : Head) → tree_at d.trees left ≡ Two g (tree_at d.trees a) (tree_at d.trees c) → TypedUnder (of_task d.task) [] (Two g (tree_at d.trees a) (tree_at d.trees c))
  left_typed g q = subst (TypedUnder (of_task d.task) []) q w.left.ground.typed

  pub value_hole : tree_at d.trees left ≡ Two HLet (tree_at d.trees a) (tree_at d.trees c) → tree_at d.trees right ≡ Two HLet (tree_at d.trees b) (tree_at d.trees c) → tree_at d.trees hole ≡ Two HLet (tree_at d.trees opened) (tree_at d.trees c) → HoleAt d hole left right a b
  value_hole ql qr qh =
      let x = left_typed HLet ql in
      let g : IsGround (Two HLet (tree_at d.trees a) (tree_at d.trees c)) = subst IsGround ql w.left.ground.ground in
      let y : TypedUnder (of_task d.task) (h.0 ∷ []) (tree_at d.trees c) = subst (λ (o : Option Tree). TypedUnder (of_task d.task) (option_list o ++ []) (tree_at d.trees c)) h.1.0 x.3 in
      let l : loose (tree_at d.trees c) ≤ 1 = typed_closed (of_task d.task) (h.0 ∷ []) (tree_at d.trees c) y in
      let z : TypedUnder (of_task d.task) (option_list (type_of (tree_at d.trees opened)) ++ h.0 ∷ []) (tree_at d.trees c) = subst (λ (o : Option Tree). TypedUnder (of_task d.task) (option_list o ++ h.0 ∷ []) (tree_at d.trees c)) (sym same_type) (typed_further (of_task d.task) (h.0 ∷ []) (h.0 ∷ []) (tree_at d.trees c) y) in (
        h.0,
        (
          h.1.0,
          record {
            held = hh;
            sort = ap sort_of qh ∙ ap sort_of (sym ql);
            typed = subst (TypedUnder (of_task d.task) (h.0 ∷ [])) (sym qh) (((h.1.1.sort ∙ s, x.0.0.1), tt), tt, h.1.1.typed, z);
            ground = subst IsGround (sym qh) (h.1.1.ground, g.1);
            left = ql ∙ cc (h.1.1.left, sym (change_closed (instantiating (tree_at d.trees a)) (keeps_inst (tree_at d.trees a)) 1 (tree_at d.trees c) l)) ∙ ap (λ (z : Tree). inst z (tree_at d.trees a)) (sym qh);
            right = qr ∙ cc (h.1.1.right, sym (change_closed (instantiating (tree_at d.trees b)) (keeps_inst (tree_at d.trees b)) 1 (tree_at d.trees c) l)) ∙ ap (λ (z : Tree). inst z (tree_at d.trees b)) (sym qh);
          },
        ),
      )

  pub scrutinee_hole : tree_at d.trees left ≡ Two HCase (tree_at d.trees a) (tree_at d.trees c) → tree_at d.trees right ≡ Two HCase (tree_at d.trees b) (tree_at d.trees c) → tree_at d.trees hole ≡ Two HCase (tree_at d.trees opened) (tree_at d.trees c) → HoleAt d hole left right a b
  scrutinee_hole ql qr qh =
      let x = left_typed HCase ql in
      let g : IsGround (Two HCase (tree_at d.trees a) (tree_at d.trees c)) = subst IsGround ql w.left.ground.ground in
      let l : loose (tree_at d.trees c) ≡ 0 = omega (arith, typed_closed (of_task d.task) [] (tree_at d.trees c) x.3) in
      let f : BranchesFit (type_of (tree_at d.trees opened)) (first_body (tree_at d.trees c)) (tree_at d.trees c) = subst (λ (o : Option Tree). BranchesFit o (first_body (tree_at d.trees c)) (tree_at d.trees c)) (h.1.0 ∙ sym same_type) x.1 in (
        h.0,
        (
          h.1.0,
          record {
            held = hh;
            sort = ap sort_of qh ∙ ap sort_of (sym ql);
            typed = subst (TypedUnder (of_task d.task) (h.0 ∷ [])) (sym qh) (((h.1.1.sort ∙ s, x.0.0.1), x.0.1), f, h.1.1.typed, typed_further (of_task d.task) [] (h.0 ∷ []) (tree_at d.trees c) x.3);
            ground = subst IsGround (sym qh) (h.1.1.ground, g.1);
            left = ql ∙ cc (h.1.1.left, sym (hole_beside (tree_at d.trees a) (let n = typed_closed (of_task d.task) [] (tree_at d.trees a) p.left.ground.typed in omega (arith, n)) (tree_at d.trees c) l)) ∙ ap (λ (z : Tree). inst z (tree_at d.trees a)) (sym qh);
            right = qr ∙ cc (h.1.1.right, sym (hole_beside (tree_at d.trees b) (let n = typed_closed (of_task d.task) [] (tree_at d.trees b) p.right.ground.typed in omega (arith, n)) (tree_at d.trees c) l)) ∙ ap (λ (z : Tree). inst z (tree_at d.trees b)) (sym qh);
          },
        ),
      )
