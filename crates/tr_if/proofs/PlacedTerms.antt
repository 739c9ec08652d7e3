-- Two formulas that are one with a hole, at two terms, as the draft extends, and what these say by a script.
use Rattle.std.proofs.Common.{◌≡◌, ℕ, [], ◌∷◌, sym, ap, subst, ◌∙◌}
use Rattle.tasks.specs.trees.declared.TermId.{TermId}
use Rattle.tasks.specs.trees.Tree.{Tree}
use Rattle.tasks.specs.trees.Node.{tree_at, Holds}
use Rattle.tasks.specs.trees.Sorts.{sort_of}
use Rattle.tasks.specs.Task.{neg}
use Rattle.congruence.specs.kernel.rules.Forms.{alike, equal}
use Rattle.evidence.specs.Drafts.{DraftTree, Extends, Refutes, IsFormulaAt}
use Rattle.evidence.specs.Laws.{Extends_trans}
use Rattle.evidence.proofs.Rules.{refutes_later}
use Rattle.evidence.proofs.Formulas.{formula_later}
use Rattle.evidence.specs.proof_scripts.Scripts.{Follows}
use Rattle.congruence.proofs.Later.{held_later, tree_later, pair_later}
use Rattle.congruence.proofs.CaseParts.{denied}
use Rattle.congruence.proofs.HoleTemplates.{hole_later, formula_template, not_template}
use Rattle.congruence.proofs.Scripts.{claim_equal, equal_at}
use Rattle.tr_if.specs.declared.values.PlacedTerm.{PlacedTerm}
use Rattle.tr_if.specs.Values.{IsPlacedTerm}
use Rattle.tr_if.proofs.Scripts.{claim_iff, value_lines, value_follows}

pub placed_later : (d d1 : DraftTree) (x : Extends d d1) (k : PlacedTerm) → IsPlacedTerm d k → IsPlacedTerm d1 k
placed_later d d1 x k p = record {
  terms = pair_later d d1 x k.old k.new p.terms;
  term = ap sort_of (tree_later d d1 x k.old p.terms.left.held) ∙ p.term;
  left = formula_later d d1 x k.left p.left;
  right = formula_later d d1 x k.right p.right;
  hole = hole_later d d1 x k.hole k.left k.right k.old k.new p.left.held p.right.held p.terms.left.held p.terms.right.held p.hole;
}

-- in the draft in which the equation, then the goal, and then the template are made
module _ (d d1 d2 d3 : DraftTree) (x1 : Extends d d1) (x2 : Extends d1 d2) (x3 : Extends d2 d3) (h : TermId) (k : PlacedTerm) (value : ℕ) (f : IsFormulaAt d h) (p : IsPlacedTerm d k)
    (r : Refutes d value (tree_at d.trees h ∷ neg (alike (tree_at d.trees k.old) (tree_at d.trees k.new)) ∷ [])) (link goal template : TermId) (hl : Holds d1.trees link) (el : tree_at d1.trees link ≡ equal (tree_at d.trees k.old) (tree_at d.trees k.new)) (hg : Holds d2.trees goal)
    (eg : tree_at d2.trees goal ≡ neg (alike (tree_at d1.trees k.left) (tree_at d1.trees k.right))) (et : tree_at d3.trees template ≡ neg (tree_at d2.trees k.hole)) where
  x12 : Extends d d2
  x12 = Extends_trans d d1 d2 x1 x2

  x123 : Extends d d3
  x123 = Extends_trans d d2 d3 x12 x3

  x23 : Extends d1 d3
  x23 = Extends_trans d1 d2 d3 x2 x3

  q : IsPlacedTerm d3 k
  q = placed_later d d3 x123 k p

  q1 : IsPlacedTerm d1 k
  q1 = placed_later d d1 x1 k p

  pub value_lines_follow : Follows d3 [] (value_lines d3 (tree_at d3.trees link) (tree_at d3.trees k.hole) (tree_at d3.trees template) value) ((tree_at d3.trees h ∷ tree_at d3.trees goal ∷ []) ∷ [])
  value_lines_follow =
      let a = tree_at d3.trees k.old in
      let b = tree_at d3.trees k.new in
      let e = tree_at d3.trees k.hole in
      let s = q.left.ground.sort in
      let u : alike (tree_at d.trees k.old) (tree_at d.trees k.new) ≡ equal a b = claim_equal (tree_at d.trees k.old) (tree_at d.trees k.new) p.term ∙ equal_at d d3 x123 k.old k.new p.terms.left.held p.terms.right.held in
      value_follows d3 (tree_at d3.trees h) a b e value (formula_template d3 k.hole k.left k.right k.old k.new q.hole s) (not_template d3 k.hole k.left k.right k.old k.new q.hole s)
      (subst (λ (z : Tree). Refutes d3 value (z ∷ neg (equal a b) ∷ [])) (sym (tree_later d d3 x123 h f.held)) (subst (λ (z : Tree). Refutes d3 value (tree_at d.trees h ∷ neg z ∷ [])) u (refutes_later d d3 x123 value _ r)))
      (tree_at d3.trees link) (tree_at d3.trees template) (tree_at d3.trees goal) (tree_at d3.trees k.left) (tree_at d3.trees k.right)
      (tree_later d1 d3 x23 link hl ∙ el ∙ equal_at d d3 x123 k.old k.new p.terms.left.held p.terms.right.held) (et ∙ ap neg (sym (tree_later d2 d3 x3 k.hole (held_later d d2 x12 k.hole p.hole.1.1.held)))) q.hole.1.1.left q.hole.1.1.right
      (denied d1 d3 x23 goal k.left k.right q1.left.held q1.right.held (tree_later d2 d3 x3 goal hg ∙ eg) ∙ ap neg (claim_iff (tree_at d3.trees k.left) (tree_at d3.trees k.right) s))

  pub value_moved : (d4 : DraftTree) (n : ℕ) → Refutes d4 n (tree_at d3.trees h ∷ tree_at d3.trees goal ∷ []) → Refutes d4 n (tree_at d.trees h ∷ neg (alike (tree_at d.trees k.left) (tree_at d.trees k.right)) ∷ [])
  value_moved d4 n m =
      let g : tree_at d3.trees goal ≡ neg (alike (tree_at d.trees k.left) (tree_at d.trees k.right)) =
      tree_later d2 d3 x3 goal hg ∙ eg ∙ ap (λ (z : Tree). neg (alike z (tree_at d1.trees k.right))) (tree_later d d1 x1 k.left p.left.held) ∙ ap (λ (z : Tree). neg (alike (tree_at d.trees k.left) z)) (tree_later d d1 x1 k.right p.right.held) in
      subst (λ (z : Tree). Refutes d4 n (z ∷ neg (alike (tree_at d.trees k.left) (tree_at d.trees k.right)) ∷ [])) (tree_later d d3 x123 h f.held) (subst (λ (z : Tree). Refutes d4 n (tree_at d3.trees h ∷ z ∷ [])) g m)
