-- Implications over links, by their numbers in a draft.
use Rattle.std.proofs.Common.{◌≡◌, ℕ, ◌≤◌, inr, List, length, refl, sym, ap, subst, ◌∙◌, arith}
use Rattle.tasks.specs.trees.declared.TermId.{TermId}
use Rattle.tasks.specs.trees.declared.Sort.TheVariants.{Formula}
use Rattle.tasks.specs.trees.Tree.{Tree, Three, HIf, above_params}
use Rattle.tasks.specs.trees.Node.{tree_at, trees_at, Holds}
use Rattle.tasks.specs.trees.Binding.{inst_many}
use Rattle.tasks.specs.trees.Sorts.{sort_of}
use Rattle.tasks.specs.Task.{TaskTree}
use Rattle.evidence.specs.Drafts.{DraftTree, Extends, IsFormulaAt}
use Rattle.evidence.specs.Laws.{Extends_trans}
use Rattle.evidence.proofs.Formulas.{formula_later}
use Rattle.evidence.specs.images.Open.{IsOpenUnder, IsAt}
use Rattle.congruence.specs.Alike.{ArePair}
use Rattle.congruence.specs.declared.alike.AlikeBy.TheVariants as alike
use Rattle.congruence.specs.declared.conditionals.Conditional.{Conditional}
use Rattle.congruence.specs.Conditionals.{IsConditional}
use Rattle.congruence.proofs.Later.{held_later, tree_later}
use Rattle.congruence.proofs.CaseParts.{closed_formula, formula_pair}
use Rattle.tr_if.specs.conditionals.Conditionals.{implications}
use Rattle.tr_if.specs.conditionals.Held.{IsFormulaNumber}
use Rattle.walking.specs.declared.linked.Linked.{Linked}
use Rattle.walking.specs.Places.{types_for, IsInstanceAt, IsLinkOf}
use Rattle.walking.proofs.Places.{place_closed, place_sort}
use Rattle.walking.proofs.PlacesLater.{all_later, trees_later, place_later, link_later}
use Rattle.walking.proofs.LetPlaces.{link_again}
use Rattle.walking.proofs.IfPlaces.{image_sort, if_first, if_second, if_third}
use Rattle.tr_if.specs.declared.linking.LinkedParts.{LinkedParts}
use Rattle.tr_if.specs.Linking.{AreLinkedParts}
use Rattle.tr_if.specs.Implying.{AreImplications}
use Rattle.tr_if.specs.declared.places.OpenAtom.{OpenAtom}
use Rattle.tr_if.specs.declared.firsts.FirstCase.{FirstCase}
use Rattle.tr_if.specs.Atoms.{atom_cases}
use Rattle.tr_if.specs.Firsts.{IsFirstCase}

pub formula_number : (d : DraftTree) (id : TermId) → IsFormulaAt d id → IsFormulaNumber d.trees id
formula_number d id f = record { held = f.held; sort = f.ground.sort }

module _ (d : DraftTree) (env : List TermId) (left : Conditional) (p : LinkedParts) (n : ℕ) (c : IsConditional d left) (s : sort_of (tree_at d.trees left.whole) ≡ Formula) (k : AreLinkedParts d env left p n) where
  abbrev E : List Tree
  E = trees_at d.trees env

  abbrev C : Tree
  C = tree_at d.trees p.condition

  abbrev A : Tree
  A = tree_at d.trees p.one.image

  abbrev B : Tree
  B = tree_at d.trees p.two.image

  then_sort : sort_of (tree_at d.trees left.then_part) ≡ Formula
  then_sort = c.then_part.sort ∙ s

  else_sort : sort_of (tree_at d.trees left.else_part) ≡ Formula
  else_sort = c.else_part.sort ∙ s

  -- the open parts are formulas
  sc : sort_of C ≡ Formula
  sc = sym (place_sort d env p.condition left.condition n k.condition) ∙ c.condition.ground.sort

  sa : sort_of A ≡ Formula
  sa = image_sort d env left.then_part n A p.one k.one ∙ then_sort

  sb : sort_of B ≡ Formula
  sb = image_sort d env left.else_part n B p.two k.two ∙ else_sort

  pub open_condition : IsFormulaNumber d.trees p.condition
  open_condition = record { held = k.condition.open_held; sort = sc }

  pub open_one : IsFormulaNumber d.trees p.one.image
  open_one = record { held = k.one.place.open_held; sort = sa }

  pub open_two : IsFormulaNumber d.trees p.two.image
  open_two = record { held = k.two.place.open_held; sort = sb }

  pub right_one : IsFormulaAt d p.one.right
  right_one = closed_formula d p.one.right (place_closed d env p.one.image p.one.right n k.one.place) (k.one.sort ∙ then_sort)

  pub right_two : IsFormulaAt d p.two.right
  right_two = closed_formula d p.two.right (place_closed d env p.two.image p.two.right n k.two.place) (k.two.sort ∙ else_sort)

  -- in a later draft
  pub parts_linked_later : (d1 : DraftTree) (x : Extends d d1) → AreLinkedParts d1 env left p n
  parts_linked_later d1 x = record {
    condition = place_later d d1 x env p.condition left.condition n k.condition;
    one = link_again d1 env left.then_part n _ p.one (link_later d d1 x env left.then_part n A p.one c.then_part.right.held k.one);
    two = link_again d1 env left.else_part n _ p.two (link_later d d1 x env left.else_part n B p.two c.else_part.right.held k.two);
  }

  -- the implications
  pub implied_open : IsOpenUnder d.task (types_for E) (implications C A B) n
  implied_open = record {
    typed = (((refl, refl), tt), tt, (((sc, sa), tt), tt, k.condition.at.shape.typed, k.one.place.at.shape.typed), (((refl, sb), tt), tt, (sc, tt, k.condition.at.shape.typed), k.two.place.at.shape.typed));
    ground = ((k.condition.at.shape.ground, k.one.place.at.shape.ground), (k.condition.at.shape.ground, k.two.place.at.shape.ground));
    above = omega (arith, k.condition.at.shape.above, k.one.place.at.shape.above, k.two.place.at.shape.above);
  }

  implied_own : above_params (implications C A B) ≤ length d.task.params
  implied_own = omega (arith, k.condition.own, k.one.place.own, k.two.place.own)

  implied_is : implications (tree_at d.trees left.condition) (tree_at d.trees p.one.right) (tree_at d.trees p.two.right) ≡ inst_many (implications C A B) E
  implied_is = cc (k.condition.at.is, k.one.place.at.is, k.two.place.at.is)

  pub implied_place : (d1 : DraftTree) (x : Extends d d1) (image right : TermId) → Holds d1.trees image → tree_at d1.trees image ≡ implications C A B → Holds d1.trees right
      → tree_at d1.trees right ≡ implications (tree_at d.trees left.condition) (tree_at d.trees p.one.right) (tree_at d.trees p.two.right) → IsInstanceAt d1 env image right n
  implied_place d1 x image right hi ei hr er =
      let q : trees_at d1.trees env ≡ E = trees_later d d1 x env k.condition.env_held in
      record {
        env_held = all_later d d1 x env k.condition.env_held;
        open_held = hi;
        left_held = hr;
        sort = inr (ap sort_of ei);
        own = subst (λ (t : TaskTree). above_params (tree_at d1.trees image) ≤ length t.params) (sym x.task) (subst (λ (z : Tree). above_params z ≤ length d.task.params) (sym ei) implied_own);
        order = subst (λ (t : TaskTree). length t.params ≤ n) (sym x.task) k.condition.order;
        at = subst (λ (z : List Tree). IsAt d1.task (types_for z) z (tree_at d1.trees image) (tree_at d1.trees right) n) (sym q)
            (subst (λ (t : TaskTree). IsAt t (types_for E) E (tree_at d1.trees image) (tree_at d1.trees right) n) (sym x.task)
            (subst (λ (z : Tree). IsAt d.task (types_for E) E z (tree_at d1.trees right) n) (sym ei) (record { around = k.condition.at.around; shape = implied_open; is = er ∙ implied_is })));
      }

  -- the instance, as a conditional
  abbrev as_conditional : TermId → Conditional
  as_conditional right = record { whole = right; condition = left.condition; then_part = p.one.right; else_part = p.two.right }

  module _ (d1 : DraftTree) (x : Extends d d1) (image right : TermId) (w : IsInstanceAt d1 env image right n) (q : tree_at d1.trees right ≡ implications (tree_at d.trees left.condition) (tree_at d.trees p.one.right) (tree_at d.trees p.two.right)) where
    right_formula : IsFormulaAt d1 right
    right_formula = closed_formula d1 right (place_closed d1 env image right n w) (ap sort_of q)

    pub implied_parts : AreImplications d1 (as_conditional right)
    implied_parts = record {
      parts = record {
        whole = place_closed d1 env image right n w;
        condition = formula_later d d1 x left.condition c.condition;
        then_part = formula_pair d1 right p.one.right right_formula (formula_later d d1 x p.one.right right_one);
        else_part = formula_pair d1 right p.two.right right_formula (formula_later d d1 x p.two.right right_two);
      };
      is = q ∙ sym (cc (tree_later d d1 x left.condition c.condition.held, tree_later d d1 x p.one.right right_one.held, tree_later d d1 x p.two.right right_two.held));
    }

    pub sides_pair : ArePair d1 left.whole right
    sides_pair = formula_pair d1 left.whole right (formula_later d d1 x left.whole (closed_formula d left.whole c.whole s)) right_formula

-- ---- the parts of a conditional formula, linked with themselves
module _ (d : DraftTree) (env : List TermId) (e left : TermId) (n : ℕ) (w : IsInstanceAt d env e left n) (c x y : TermId) (hc : Holds d.trees c) (hx : Holds d.trees x) (hy : Holds d.trees y) (q : tree_at d.trees e ≡ Three HIf (tree_at d.trees c) (tree_at d.trees x) (tree_at d.trees y))
    (at : Conditional) (i : tree_at d.trees left ≡ Three HIf (tree_at d.trees at.condition) (tree_at d.trees at.then_part) (tree_at d.trees at.else_part)) (k : IsConditional d at) where
  abbrev pub itself : TermId → TermId → Linked
  itself image right = record { image = image; right = right; alike = alike.Same }

  linked_itself : (image right : TermId) → IsInstanceAt d env image right n → IsLinkOf d env right n (tree_at d.trees image) (itself image right)
  linked_itself image right p = record { is = refl; place = p; sort = refl; type = refl; shows = refl }

  pub own_parts : AreLinkedParts d env at (record { condition = c; one = itself x at.then_part; two = itself y at.else_part }) n
  own_parts = record {
    condition = if_first d env e left n w c x y at.condition at.then_part at.else_part q i hc k.condition.held;
    one = linked_itself x at.then_part (if_second d env e left n w c x y at.condition at.then_part at.else_part q i hx k.then_part.right.held);
    two = linked_itself y at.else_part (if_third d env e left n w c x y at.condition at.then_part at.else_part q i hy k.else_part.right.held);
  }

-- ---- the links of an atom with either part in the place of its first conditional
pub linked_twice : (d1 d2 d3 : DraftTree) (y : Extends d1 d2) (z : Extends d2 d3) (env : List TermId) (a : OpenAtom) (n : ℕ) (case : FirstCase) (k : IsFirstCase d1 env a n case) (one two : Linked) (e f : Tree) → IsLinkOf d2 env case.first.left n e one → IsLinkOf d3 env case.second.left n f two
    → AreLinkedParts d3 env (atom_cases a case) (record { condition = case.condition; one = one; two = two }) n
linked_twice d1 d2 d3 y z env a n case k one two e f l m = record {
  condition = place_later d1 d3 (Extends_trans d1 d2 d3 y z) env case.condition case.at.condition n k.condition;
  one = link_again d3 env case.first.left n _ one (link_later d2 d3 z env case.first.left n e one (held_later d1 d2 y case.first.left k.first.place.left_held) l);
  two = link_again d3 env case.second.left n _ two m;
}
