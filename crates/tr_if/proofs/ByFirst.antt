-- An atom by cases on its first conditional, by its numbers in one draft.
use Rattle.std.proofs.Common.{◌≡◌, ℕ, ◌<◌, ◌≤◌, inl, List, length, Some, subst, sym, ap, ◌∙◌, arith}
use Rattle.tasks.specs.trees.declared.TermId.{TermId}
use Rattle.tasks.specs.trees.declared.Sort.TheVariants.{Term}
use Rattle.tasks.specs.trees.Tree.{Tree, Three, HIf, loose, size, above_params}
use Rattle.tasks.specs.trees.Node.{tree_at, trees_at, Holds}
use Rattle.tasks.specs.trees.Binding.{inst, inst_many}
use Rattle.tasks.specs.trees.Sorts.{sort_of, type_of}
use Rattle.tasks.specs.Vocabulary.{of_task}
use Rattle.evidence.specs.Drafts.{DraftTree, IsFormulaAt}
use Rattle.evidence.specs.images.Open.{IsOpenUnder}
use Rattle.evidence.proofs.images.Images.{expression_sort, expression_type}
use Rattle.congruence.specs.Alike.{ArePair, HoleAt}
use Rattle.congruence.proofs.CaseParts.{closed_formula}
use Rattle.congruence.proofs.HoleTemplates.{closed_loose}
use Rattle.tr_if.specs.conditionals.Conditionals.{implications, first_if, replace_first, cases_over}
use Rattle.tr_if.specs.conditionals.lemmas.Cases.{first_case}
use Rattle.tr_if.proofs.conditionals.Placing.{then_smaller, else_smaller}
use Rattle.walking.specs.Places.{types_for, IsInstanceAt}
use Rattle.walking.proofs.Places.{place_closed, place_sort}
use Rattle.walking.proofs.EqualPlaces.{place_type}
use Rattle.tr_if.specs.declared.places.OpenAtom.{OpenAtom}
use Rattle.tr_if.specs.Values.{IsPlacedTerm}
use Rattle.tr_if.specs.Firsts.{IsOpenAt, IsAtomAt, IsFirstOf, IsPartFor, IsHoleOf}
use Rattle.tr_if.proofs.Placed.{in_own_place}
use Rattle.tr_if.proofs.Typed.{atom_formula}
use Rattle.tr_if.proofs.Atoms.{the_first, first_open, first_own}

-- an atom is a formula of sequents
pub atom_left : (d : DraftTree) (env : List TermId) (a : OpenAtom) (n : ℕ) → IsAtomAt d env a n → IsFormulaAt d a.left
atom_left d env a n p =
    closed_formula d a.left (place_closed d env a.formula a.left n p.place) (place_sort d env a.formula a.left n p.place ∙ atom_formula (of_task d.task) (types_for (trees_at d.trees env)) (tree_at d.trees a.formula) p.atom p.place.at.shape.typed)

module _ (d : DraftTree) (env : List TermId) (a : OpenAtom) (w : TermId) (n : ℕ) (p : IsAtomAt d env a n) (f : IsFirstOf d (tree_at d.trees a.formula) w) where
  abbrev E : List Tree
  E = trees_at d.trees env

  abbrev A : Tree
  A = tree_at d.trees a.formula

  abbrev W : Tree
  W = tree_at d.trees w

  pub first_term : sort_of W ≡ Term
  first_term = (the_first d.task (types_for E) E n p.place.at.around A W p.atom p.place.at.shape f.first).0

  -- the first conditional has an instance
  pub first_place : IsOpenAt d env w n
  first_place = record {
    env_held = p.place.env_held;
    held = f.held;
    sort = inl first_term;
    own = first_own d.task (types_for E) E n p.place.at.around A W p.atom p.place.at.shape f.first (length d.task.params) p.place.own;
    order = p.place.order;
    around = p.place.at.around;
    shape = first_open d.task (types_for E) E n p.place.at.around A W p.atom p.place.at.shape f.first;
  }

  -- its parts
  module _ (c x y : TermId) (hx : Holds d.trees x) (hy : Holds d.trees y) (q : W ≡ Three HIf (tree_at d.trees c) (tree_at d.trees x) (tree_at d.trees y)) where
    abbrev C : Tree
    C = tree_at d.trees c

    abbrev X : Tree
    X = tree_at d.trees x

    abbrev Y : Tree
    Y = tree_at d.trees y

    shape : IsOpenUnder d.task (types_for E) (Three HIf C X Y) n
    shape = subst (λ (z : Tree). IsOpenUnder d.task (types_for E) z n) q first_place.shape

    own : above_params (Three HIf C X Y) ≤ length d.task.params
    own = subst (λ (z : Tree). above_params z ≤ length d.task.params) q first_place.own

    x_sort : sort_of X ≡ Term
    x_sort = sym (expression_sort X shape.typed.0.1) ∙ ap sort_of (sym q) ∙ first_term

    pub then_for : IsPartFor d env w x n
    then_for = record {
      place = record {
        env_held = p.place.env_held;
        held = hx;
        sort = inl x_sort;
        own = let o = own in omega (arith, o);
        order = p.place.order;
        around = p.place.at.around;
        shape = record { typed = shape.typed.3; ground = shape.ground.1; above = let o = shape.above in omega (arith, o) };
      };
      term = x_sort;
      type = expression_type X shape.typed.0.1 ∙ ap type_of (sym q);
    }

    pub else_for : IsPartFor d env w y n
    else_for = record {
      place = record {
        env_held = p.place.env_held;
        held = hy;
        sort = inl (shape.typed.0.2 ∙ x_sort);
        own = let o = own in omega (arith, o);
        order = p.place.order;
        around = p.place.at.around;
        shape = record { typed = shape.typed.4; ground = shape.ground.2; above = let o = shape.above in omega (arith, o) };
      };
      term = shape.typed.0.2 ∙ x_sort;
      type = sym shape.typed.1 ∙ expression_type X shape.typed.0.1 ∙ ap type_of (sym q);
    }

    first_is : first_if A ≡ Some (Three HIf C X Y)
    first_is = f.first ∙ ap Some q

    -- the atom by cases
    pub by_first : (m k : TermId) → tree_at d.trees m ≡ replace_first A X → tree_at d.trees k ≡ replace_first A Y → cases_over A (λ u. u) ≡ implications C (cases_over (tree_at d.trees m) (λ u. u)) (cases_over (tree_at d.trees k) (λ u. u))
    by_first m k u s =
        first_case C X Y A first_is (λ z. z) ∙ ap (λ (z : Tree). implications C (cases_over z (λ u. u)) (cases_over (replace_first A Y) (λ u. u))) (sym u) ∙ ap (λ (z : Tree). implications C (cases_over (tree_at d.trees m) (λ u. u)) (cases_over z (λ u. u))) (sym s)

    pub less_first : (m : TermId) → tree_at d.trees m ≡ replace_first A X → size (tree_at d.trees m) < size A
    less_first m u = let r = then_smaller A C X Y first_is shape.typed.0 in let t : size (tree_at d.trees m) ≡ size (replace_first A X) = ap size u in omega (arith, r, t)

    pub less_second : (m : TermId) → tree_at d.trees m ≡ replace_first A Y → size (tree_at d.trees m) < size A
    less_second m u = let r = else_smaller A C X Y first_is shape.typed.0 in let t : size (tree_at d.trees m) ≡ size (replace_first A Y) = ap size u in omega (arith, r, t)

  -- ---- a part in the place of the conditional
  module _ (hole l : TermId) (h : IsHoleOf d env A W hole) (wp : IsInstanceAt d env w l n) (part partl : TermId) (k : IsPartFor d env w part n) (pp : IsInstanceAt d env part partl n) (m : OpenAtom) (mp : IsAtomAt d env m n) (q : tree_at d.trees m.formula ≡ replace_first A (tree_at d.trees part)) where
    abbrev P : Tree
    P = tree_at d.trees part

    terms : ArePair d l partl
    terms = record {
      left = place_closed d env w l n wp;
      right = place_closed d env part partl n pp;
      sort = place_sort d env part partl n pp ∙ k.term ∙ sym (place_sort d env w l n wp ∙ first_term);
      type = place_type d env part partl n pp ∙ k.type ∙ sym (place_type d env w l n wp);
    }

    closed_at : (e i : TermId) → IsInstanceAt d env e i n → loose (inst_many (tree_at d.trees e) E) ≡ 0
    closed_at e i r = ap loose (sym r.at.is) ∙ closed_loose d i (place_closed d env e i n r)

    left_is : tree_at d.trees a.left ≡ inst (tree_at d.trees hole) (tree_at d.trees l)
    left_is = p.place.at.is ∙ ap (λ (z : Tree). inst_many z E) (sym (in_own_place W A f.first)) ∙ sym (h.fills W (closed_at w l wp)) ∙ ap (inst (tree_at d.trees hole)) (sym wp.at.is)

    right_is : tree_at d.trees m.left ≡ inst (tree_at d.trees hole) (tree_at d.trees partl)
    right_is = mp.place.at.is ∙ ap (λ (z : Tree). inst_many z E) q ∙ sym (h.fills P (closed_at part partl pp)) ∙ ap (inst (tree_at d.trees hole)) (sym pp.at.is)

    hole_at : HoleAt d hole a.left m.left l partl
    hole_at = (
      h.ty,
      (
        place_type d env w l n wp ∙ h.type,
        record { held = h.held; sort = h.sort ∙ sym (atom_left d env a n p).ground.sort; typed = h.typed; ground = h.ground; left = left_is; right = right_is },
      ),
    )

    pub placed_part : IsPlacedTerm d (record { hole = hole; left = a.left; right = m.left; old = l; new = partl })
    placed_part = record { terms = terms; term = place_sort d env w l n wp ∙ first_term; left = atom_left d env a n p; right = atom_left d env m n mp; hole = hole_at }
