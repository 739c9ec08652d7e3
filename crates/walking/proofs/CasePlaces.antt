-- `match`es by their numbers in a draft: with the image of the scrutinee, and over links of branches.
use Rattle.std.proofs.Common.{◌≡◌, ℕ, ◌≤◌, inl, List, [], length, Option, refl, sym, ap, subst, ◌∙◌, arith}
use Rattle.trees.specs.declared.TermId.{TermId}
use Rattle.trees.specs.declared.Sort.TheVariants.{Term}
use Rattle.trees.specs.Tree.{Tree, Leaf, One, Two, Three, HCase, HCell, HArm, above_params}
use Rattle.trees.specs.Node.{tree_at, trees_at, Holds}
use Rattle.trees.specs.Sorts.{Fits, sort_of, type_of, IsExpression}
use Rattle.trees.proofs.Types.{one_no_cell, three_no_cell}
use Rattle.tasks.specs.Vocabulary.{Vocabulary, of_task}
use Rattle.tasks.specs.Typing.{TypedUnder, BranchesFit, first_body}
use Rattle.evidence.specs.Drafts.{DraftTree}
use Rattle.images.specs.Open.{IsAt}
use Rattle.images.proofs.Images.{leaf_no_list}
use Rattle.images.proofs.Environments.{at_first, at_second}
use Rattle.congruence.specs.Alike.{ArePair}
use Rattle.walking.specs.declared.linked.Linked.{Linked}
use Rattle.walking.specs.Places.{types_for, IsInstanceAt, IsLinkOf}
use Rattle.walking.proofs.Places.{place_closed, place_sort}
use Rattle.walking.proofs.EqualPlaces.{place_type}
use Rattle.walking.proofs.IfPlaces.{image_sort, image_type}
use Rattle.walking.proofs.Branches.{case_sort, case_type}

-- ---- what a typed `match` gives, its first body does
pub case_first : (v : Vocabulary) (types : List Tree) (x r : Tree) → TypedUnder v types (Two HCase x r) → (sort_of (Two HCase x r) ≡ sort_of (first_body r)) × (type_of (Two HCase x r) ≡ type_of (first_body r))
case_first v types x (Two HCell (Two HArm p e) b) w = (case_sort x p e b w.3.2.0.0.1, case_type x p e b w.3.2.0.0.1)
case_first v types x (Two HCell c b) w = absurd w.1.0
case_first v types x (Two _ c b) w = absurd (let q = w.0.1 in cc)
case_first v types x (Leaf h) w = absurd (leaf_no_list h w.3.0 w.0.1)
case_first v types x (One h b) w = absurd (one_no_cell h b w.3.0 w.0.1)
case_first v types x (Three h b c e) w = absurd (three_no_cell h b c e w.3.0 w.0.1)

-- ---- a `match` at an environment
module _ (d : DraftTree) (env : List TermId) (e left : TermId) (n : ℕ) (p : IsInstanceAt d env e left n) (a b x y : TermId) (qe : tree_at d.trees e ≡ Two HCase (tree_at d.trees a) (tree_at d.trees b)) (ql : tree_at d.trees left ≡ Two HCase (tree_at d.trees x) (tree_at d.trees y)) where
  abbrev E : List Tree
  E = trees_at d.trees env

  pub at_case : IsAt d.task (types_for E) E (Two HCase (tree_at d.trees a) (tree_at d.trees b)) (tree_at d.trees left) n
  at_case = subst (λ (z : Tree). IsAt d.task (types_for E) E z (tree_at d.trees left) n) qe p.at

  pub case_own : above_params (Two HCase (tree_at d.trees a) (tree_at d.trees b)) ≤ length d.task.params
  case_own = subst (λ (z : Tree). above_params z ≤ length d.task.params) qe p.own

  pub case_scrutinee : Holds d.trees a → Holds d.trees x → IsInstanceAt d env a x n
  case_scrutinee ha hx = record {
    env_held = p.env_held;
    open_held = ha;
    left_held = hx;
    sort = inl at_case.shape.typed.0.0.0;
    own = let o = case_own in omega (arith, o);
    order = p.order;
    at = at_first d.task (types_for E) E n HCase (tree_at d.trees a) (tree_at d.trees b) (tree_at d.trees left) (tree_at d.trees x) (tree_at d.trees y) refl refl at_case ql;
  }

  pub case_term : Holds d.trees a → Holds d.trees x → sort_of (tree_at d.trees x) ≡ Term
  case_term ha hx = place_sort d env a x n (case_scrutinee ha hx) ∙ at_case.shape.typed.0.0.0

  pub case_arms : IsAt d.task (types_for E) E (tree_at d.trees b) (tree_at d.trees y) n
  case_arms = at_second d.task (types_for E) E n HCase (tree_at d.trees a) (tree_at d.trees b) (tree_at d.trees left) (tree_at d.trees x) (tree_at d.trees y) refl refl at_case ql

  -- with the image of the scrutinee
  module _ (one : Linked) (k : IsLinkOf d env x n (tree_at d.trees one.image) one) (ha : Holds d.trees a) (hx : Holds d.trees x) where
    scrutinee_type : type_of (tree_at d.trees one.image) ≡ type_of (tree_at d.trees a)
    scrutinee_type = image_type d env x n (tree_at d.trees one.image) one k ∙ place_type d env a x n (case_scrutinee ha hx)

    scrutinee_sort : sort_of (tree_at d.trees one.image) ≡ Term
    scrutinee_sort = image_sort d env x n (tree_at d.trees one.image) one k ∙ case_term ha hx

    pub mixed_fits : Fits (Two HCase (tree_at d.trees one.image) (tree_at d.trees b))
    mixed_fits = ((scrutinee_sort, at_case.shape.typed.0.0.1), at_case.shape.typed.0.1)

    mixed_typed : TypedUnder (of_task d.task) (types_for E) (Two HCase (tree_at d.trees one.image) (tree_at d.trees b))
    mixed_typed = (
      mixed_fits,
      subst (λ (o : Option Tree). BranchesFit o (first_body (tree_at d.trees b)) (tree_at d.trees b)) (sym scrutinee_type) at_case.shape.typed.1,
      k.place.at.shape.typed,
      at_case.shape.typed.3,
    )

    pub mixed_place : (m l : TermId) → Holds d.trees m → Holds d.trees l → tree_at d.trees m ≡ Two HCase (tree_at d.trees one.image) (tree_at d.trees b) → tree_at d.trees l ≡ Two HCase (tree_at d.trees one.right) (tree_at d.trees y) → IsInstanceAt d env m l n
    mixed_place m l hm hl em el = record {
      env_held = p.env_held;
      open_held = hm;
      left_held = hl;
      sort = subst (λ (z : Tree). IsExpression (sort_of z)) (sym em) (subst (λ (z : Tree). IsExpression (sort_of z)) qe p.sort);
      own = subst (λ (z : Tree). above_params z ≤ length d.task.params) (sym em) (let o = case_own in omega (arith, o, k.place.own));
      order = p.order;
      at = subst (λ (z : Tree). IsAt d.task (types_for E) E z (tree_at d.trees l) n) (sym em)
          (subst (λ (z : Tree). IsAt d.task (types_for E) E (Two HCase (tree_at d.trees one.image) (tree_at d.trees b)) z n) (sym el) (record {
            around = p.at.around;
            shape = record { typed = mixed_typed; ground = (k.place.at.shape.ground, at_case.shape.ground.1); above = omega (arith, k.place.at.shape.above, at_case.shape.above) };
            is = cc (k.place.at.is, case_arms.is);
          }));
    }

    -- a pair
    pub mixed_pair : (m l : TermId) → IsInstanceAt d env m l n → tree_at d.trees l ≡ Two HCase (tree_at d.trees one.right) (tree_at d.trees y) → ArePair d left l
    mixed_pair m l w el = record { left = place_closed d env e left n p; right = place_closed d env m l n w; sort = ap sort_of el ∙ ap sort_of (sym ql); type = ap type_of el ∙ ap type_of (sym ql) }

    -- the `match` with the image at the environment fits
    pub middle_fits : Fits (Two HCase (tree_at d.trees one.right) (tree_at d.trees y))
    middle_fits =
        let w : TypedUnder (of_task d.task) [] (Two HCase (tree_at d.trees x) (tree_at d.trees y)) = subst (TypedUnder (of_task d.task) []) ql (place_closed d env e left n p).ground.typed in
        ((k.sort ∙ w.0.0.0, w.0.0.1), w.0.1)
