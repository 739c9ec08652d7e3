-- An atom by cases on its first conditional, as it is made in a draft, and its values.
use Rattle.std.proofs.Common.{◌≡◌, ℕ, ◌<◌, List, sym, ap, subst, ◌∙◌}
use Rattle.tasks.specs.trees.declared.TermId.{TermId}
use Rattle.tasks.specs.trees.Tree.{Tree, Three, HIf, size}
use Rattle.tasks.specs.trees.Node.{tree_at, Holds}
use Rattle.evidence.specs.Drafts.{DraftTree, Extends}
use Rattle.congruence.specs.declared.conditionals.Conditional.{Conditional}
use Rattle.congruence.specs.Conditionals.{IsConditional, IsIfAt}
use Rattle.congruence.proofs.Later.{held_later, tree_later}
use Rattle.congruence.proofs.CaseParts.{formula_closed, formula_pair, parts_later, if_later}
use Rattle.tr_if.specs.conditionals.Conditionals.{implications, replace_first, cases_over}
use Rattle.tr_if.specs.declared.conditionals.firsts.IfParts.{IfParts}
use Rattle.tr_if.specs.conditionals.Held.{AreIfParts}
use Rattle.walking.specs.Places.{IsInstanceAt}
use Rattle.walking.proofs.PlacesLater.{place_later}
use Rattle.walking.proofs.IfPlaces.{if_first, if_second, if_third}
use Rattle.tr_if.specs.declared.places.OpenAtom.{OpenAtom}
use Rattle.tr_if.specs.declared.firsts.FirstCase.{FirstCase}
use Rattle.tr_if.specs.Atoms.{atom_cases}
use Rattle.tr_if.specs.Firsts.{IsAtomAt, IsFirstOf, IsHoleOf, IsFirstCase}
use Rattle.tr_if.proofs.Placing.{atom_later, first_later}
use Rattle.tr_if.proofs.ByFirst.{then_for, else_for, by_first, less_first, less_second, placed_part}
use Rattle.tr_if.proofs.PlacedTerms.{placed_later}

module _ (d d4 : DraftTree) (x : Extends d d4) (env : List TermId) (a : OpenAtom) (w : TermId) (n : ℕ) (p : IsAtomAt d env a n) (f : IsFirstOf d (tree_at d.trees a.formula) w) (k : IfParts) (ip : AreIfParts d.trees (tree_at d.trees w) k) where
  p4 : IsAtomAt d4 env a n
  p4 = atom_later d d4 x env a n p

  f4 : IsFirstOf d4 (tree_at d4.trees a.formula) w
  f4 = first_later d d4 x a.formula w p.place.open_held f

  hc : Holds d4.trees k.condition
  hc = held_later d d4 x k.condition ip.condition

  hx : Holds d4.trees k.then_part
  hx = held_later d d4 x k.then_part ip.then_part

  hy : Holds d4.trees k.else_part
  hy = held_later d d4 x k.else_part ip.else_part

  pub parts_are : tree_at d4.trees w ≡ Three HIf (tree_at d4.trees k.condition) (tree_at d4.trees k.then_part) (tree_at d4.trees k.else_part)
  parts_are = tree_later d d4 x w f.held ∙ ip.is ∙ sym (cc (tree_later d d4 x k.condition ip.condition, tree_later d d4 x k.then_part ip.then_part, tree_later d d4 x k.else_part ip.else_part))

  module _ (at : Conditional) (hole : TermId) (first second : OpenAtom) (c : IsConditional d4 at) (i : IsIfAt d4 at) (wp : IsInstanceAt d4 env w at.whole n) (h : IsHoleOf d4 env (tree_at d4.trees a.formula) (tree_at d4.trees w) hole) (fp : IsAtomAt d4 env first n)
      (fo : tree_at d4.trees first.formula ≡ replace_first (tree_at d4.trees a.formula) (tree_at d4.trees k.then_part)) (sp : IsAtomAt d4 env second n) (so : tree_at d4.trees second.formula ≡ replace_first (tree_at d4.trees a.formula) (tree_at d4.trees k.else_part)) where
    abbrev made : FirstCase
    made = record { condition = k.condition; at = at; hole = hole; first = first; second = second }

    pub case_made : IsFirstCase d4 env a n made
    case_made =
        let u = if_second d4 env w at.whole n wp k.condition k.then_part k.else_part at.condition at.then_part at.else_part parts_are i hx c.then_part.right.held in
        let v = if_third d4 env w at.whole n wp k.condition k.then_part k.else_part at.condition at.then_part at.else_part parts_are i hy c.else_part.right.held in
        record {
          condition = if_first d4 env w at.whole n wp k.condition k.then_part k.else_part at.condition at.then_part at.else_part parts_are i hc c.condition.held;
          at = c;
          is = i;
          first = fp;
          second = sp;
          then_placed = placed_part d4 env a w n p4 f4 hole at.whole h wp k.then_part at.then_part (then_for d4 env a w n p4 f4 k.condition k.then_part k.else_part hx hy parts_are) u first fp fo;
          else_placed = placed_part d4 env a w n p4 f4 hole at.whole h wp k.else_part at.else_part (else_for d4 env a w n p4 f4 k.condition k.then_part k.else_part hx hy parts_are) v second sp so;
          cases = by_first d4 env a w n p4 f4 k.condition k.then_part k.else_part hx hy parts_are first.formula second.formula fo so;
          first_smaller = less_first d4 env a w n p4 f4 k.condition k.then_part k.else_part hx hy parts_are first.formula fo;
          second_smaller = less_second d4 env a w n p4 f4 k.condition k.then_part k.else_part hx hy parts_are second.formula so;
        }

-- ---- what is made of it
module _ (d : DraftTree) (env : List TermId) (a : OpenAtom) (n : ℕ) (k : FirstCase) (p : IsFirstCase d env a n k) where
  -- as a conditional on the condition of its first one
  pub case_conditional : IsConditional d (atom_cases a k)
  case_conditional = record {
    whole = formula_closed d a.left p.then_placed.left;
    condition = p.at.condition;
    then_part = formula_pair d a.left k.first.left p.then_placed.left p.then_placed.right;
    else_part = formula_pair d a.left k.second.left p.else_placed.left p.else_placed.right;
  }

  -- in a later draft
  module _ (d1 : DraftTree) (x : Extends d d1) (ha : Holds d.trees a.formula) where
    pub case_later : IsFirstCase d1 env a n k
    case_later =
        let q : tree_at d1.trees a.formula ≡ tree_at d.trees a.formula = tree_later d d1 x a.formula ha in
        let qc : tree_at d1.trees k.condition ≡ tree_at d.trees k.condition = tree_later d d1 x k.condition p.condition.open_held in
        let qf : tree_at d1.trees k.first.formula ≡ tree_at d.trees k.first.formula = tree_later d d1 x k.first.formula p.first.place.open_held in
        let qs : tree_at d1.trees k.second.formula ≡ tree_at d.trees k.second.formula = tree_later d d1 x k.second.formula p.second.place.open_held in
        record {
          condition = place_later d d1 x env k.condition k.at.condition n p.condition;
          at = parts_later d d1 x k.at p.at;
          is = if_later d d1 x k.at p.at p.is;
          first = atom_later d d1 x env k.first n p.first;
          second = atom_later d d1 x env k.second n p.second;
          then_placed = placed_later d d1 x _ p.then_placed;
          else_placed = placed_later d d1 x _ p.else_placed;
          cases = ap (λ (z : Tree). cases_over z (λ u. u)) q ∙ p.cases ∙ ap (λ (z : Tree). implications z (cases_over (tree_at d.trees k.first.formula) (λ u. u)) (cases_over (tree_at d.trees k.second.formula) (λ u. u))) (sym qc)
              ∙ ap (λ (z : Tree). implications (tree_at d1.trees k.condition) (cases_over z (λ u. u)) (cases_over (tree_at d.trees k.second.formula) (λ u. u))) (sym qf)
              ∙ ap (λ (z : Tree). implications (tree_at d1.trees k.condition) (cases_over (tree_at d1.trees k.first.formula) (λ u. u)) (cases_over z (λ u. u))) (sym qs);
          first_smaller = subst (λ (z : Tree). size (tree_at d1.trees k.first.formula) < size z) (sym q) (subst (λ (z : Tree). size z < size (tree_at d.trees a.formula)) (sym qf) p.first_smaller);
          second_smaller = subst (λ (z : Tree). size (tree_at d1.trees k.second.formula) < size z) (sym q) (subst (λ (z : Tree). size z < size (tree_at d.trees a.formula)) (sym qs) p.second_smaller);
        }
