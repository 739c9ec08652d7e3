-- The body of a `let` at its value, at an environment.
use Rattle.std.proofs.Common.{◌≡◌, ℕ, ◌≤◌, List, [], ◌∷◌, ◌++◌, length, Option, Some, subst, refl, sym, ap, ◌∙◌, arith}
use Rattle.trees.specs.declared.TermId.{TermId}
use Rattle.trees.specs.declared.Sort.TheVariants.{Term}
use Rattle.trees.specs.Tree.{Tree, Two, HLet, above_params}
use Rattle.trees.specs.Node.{tree_at, trees_at, Holds}
use Rattle.trees.specs.Binding.{change, instantiating_many, inst, inst_many}
use Rattle.trees.specs.Sorts.{WellSorted, sort_of, type_of, IsExpression}
use Rattle.trees.specs.laws.Sorts.{term_no_vars}
use Rattle.trees.proofs.Many.{inst_under, inst_many_inst}
use Rattle.tasks.specs.Task.{TaskTree}
use Rattle.tasks.specs.Vocabulary.{of_task}
use Rattle.tasks.specs.Typing.{TypedUnder, option_list}
use Rattle.evidence.specs.Drafts.{DraftTree, Extends}
use Rattle.evidence.specs.Laws.{Extends_trans}
use Rattle.walking.specs.images.Open.{IsOpenUnder, IsAt}
use Rattle.walking.proofs.images.Images.{expression_sort}
use Rattle.walking.proofs.images.Changes.{open_inst_typed, open_inst_sort, open_inst_variables, open_inst_above}
use Rattle.walking.proofs.images.Templates.{term_has_type}
use Rattle.walking.proofs.images.Environments.{closed_for, at_bound, body_is}
use Rattle.congruence.specs.Alike.{ArePair}
use Rattle.congruence.specs.tasks.typed_trees.instances.Instances.{IsClosedTerm}
use Rattle.congruence.proofs.Later.{tree_later, closed_later, node_later}
use Rattle.congruence.proofs.HoleTemplates.{closed_loose}
use Rattle.walking.specs.Places.{types_for, IsInstanceAt}
use Rattle.walking.proofs.PlacesLater.{trees_later}
use Rattle.walking.proofs.Places.{place_closed}
use Rattle.walking.proofs.LetPlaces.{let_pair, let_value_place, let_value_term}
use Rattle.walking.proofs.Placed.{placed}

-- the instance of a `let` is one
pub let_instance_node : (d : DraftTree) (env : List TermId) (e left : TermId) (n : ℕ) → IsInstanceAt d env e left n → (a b : Tree) → tree_at d.trees e ≡ Two HLet a b → (v : Tree) × ((w : Tree) × (tree_at d.trees left ≡ Two HLet v w))
let_instance_node d env e left n p a b q =
    let E = trees_at d.trees env in
    (inst_many a E, (change (instantiating_many E) 1 b, p.at.is ∙ ap (λ (z : Tree). inst_many z E) q))

module _ (d : DraftTree) (env : List TermId) (e left : TermId) (n : ℕ) (p : IsInstanceAt d env e left n) (a b x y : TermId) (ha : Holds d.trees a) (hx : Holds d.trees x) (hy : Holds d.trees y)
    (qe : tree_at d.trees e ≡ Two HLet (tree_at d.trees a) (tree_at d.trees b)) (ql : tree_at d.trees left ≡ Two HLet (tree_at d.trees x) (tree_at d.trees y)) where
  abbrev E : List Tree
  E = trees_at d.trees env

  abbrev types : List Tree
  types = types_for (trees_at d.trees env)

  abbrev T : Tree
  T = tree_at d.trees a

  abbrev B : Tree
  B = tree_at d.trees b

  at_let : IsAt d.task types E (Two HLet T B) (tree_at d.trees left) n
  at_let = subst (λ (z : Tree). IsAt d.task types E z (tree_at d.trees left) n) qe p.at

  pub let_term : sort_of T ≡ Term
  let_term = at_let.shape.typed.0.0.0

  typing : (ty : Tree) × (type_of T ≡ Some ty)
  typing = term_has_type (of_task d.task) types T let_term at_let.shape.typed.2

  under : TypedUnder (of_task d.task) (typing.0 ∷ types) B
  under = subst (λ (o : Option Tree). TypedUnder (of_task d.task) (option_list o ++ types) B) typing.1 at_let.shape.typed.3

  -- the instance of the body at the value
  body_instance : inst (tree_at d.trees y) (tree_at d.trees x) ≡ inst_many (inst B T) E
  body_instance =
      let one = ap option_list typing.1 in
      let v = (at_bound d.task types E n HLet T B (tree_at d.trees left) (tree_at d.trees x) (tree_at d.trees y) typing.0 one refl at_let ql).is in
      let w = body_is d.task types E n HLet T B (tree_at d.trees left) (tree_at d.trees x) (tree_at d.trees y) typing.0 one refl at_let ql in
      ap (λ (z : Tree). inst z (tree_at d.trees x)) w ∙ inst_under E (closed_for (of_task d.task) types E at_let.around.terms) B (tree_at d.trees x)
      ∙ ap (λ (z : Tree). inst_many B (E ++ z ∷ [])) v
      ∙ sym (inst_many_inst E (closed_for (of_task d.task) types E at_let.around.terms) B T (term_no_vars T let_term))

  -- the value at the environment is closed
  value_closed : IsClosedTerm (tree_at d.trees x)
  value_closed =
      let w = let_value_place d env e left n p a b x y qe ql ha hx in
      record { sort = let_value_term d env e left n p a b x y qe ql ha hx; closed = closed_loose d x (place_closed d env a x n w) }

  made_sort : sort_of (inst B T) ≡ sort_of (tree_at d.trees e)
  made_sort = open_inst_sort (of_task d.task) typing.0 types T let_term typing.1 at_let.shape.typed.2 B under ∙ sym (expression_sort B at_let.shape.typed.0.0.1) ∙ ap sort_of (sym qe)

  made_open : WellSorted (inst B T) → IsOpenUnder d.task types (inst B T) n
  made_open w = record {
    typed = open_inst_typed (of_task d.task) typing.0 types T let_term typing.1 at_let.shape.typed.2 B under w;
    ground = open_inst_variables T 0 at_let.shape.ground.0 B at_let.shape.ground.1;
    above = let l = at_let.shape.above in open_inst_above T n (omega (arith, l)) B (omega (arith, l));
  }

  made_own : above_params (inst B T) ≤ length d.task.params
  made_own = let l : above_params (Two HLet T B) ≤ length d.task.params = subst (λ (z : Tree). above_params z ≤ length d.task.params) qe p.own in open_inst_above T (length d.task.params) (omega (arith, l)) B (omega (arith, l))

  -- in the drafts in which they are made
  module _ (d1 : DraftTree) (g : Extends d d1) where
    pub value_closed_later : IsClosedTerm (tree_at d1.trees x)
    value_closed_later = subst IsClosedTerm (sym (tree_later d d1 g x hx)) value_closed

    module _ (d2 : DraftTree) (k : Extends d1 d2) (image right : TermId) (hi : Holds d1.trees image) (ei : tree_at d1.trees image ≡ inst B T) (wi : WellSorted (tree_at d1.trees image)) (hr : Holds d2.trees right)
        (er : tree_at d2.trees right ≡ inst (tree_at d1.trees y) (tree_at d1.trees x)) where
      gk : Extends d d2
      gk = Extends_trans d d1 d2 g k

      right_is : tree_at d2.trees right ≡ inst (tree_at d.trees y) (tree_at d.trees x)
      right_is = er ∙ cc (tree_later d d1 g y hy, tree_later d d1 g x hx)

      pub body_place : IsInstanceAt d2 env image right n
      body_place =
          placed d d1 d2 g k env n (inst B T) p.env_held at_let.around (made_open (subst WellSorted ei wi)) (subst IsExpression (sym made_sort) p.sort) made_own p.order image right hi ei hr
          (right_is ∙ body_instance ∙ ap (λ (z : Tree). inst_many z E) (sym ei) ∙ ap (inst_many (tree_at d1.trees image)) (sym (trees_later d d1 g env p.env_held)))

      pub body_right : tree_at d2.trees right ≡ inst (tree_at d2.trees y) (tree_at d2.trees x)
      body_right = right_is ∙ sym (cc (tree_later d d2 gk y hy, tree_later d d2 gk x hx))

      pub body_pair : ArePair d2 left right
      body_pair =
          let c = closed_later d d2 gk left (place_closed d env e left n p) in
          let q = node_later d d2 gk HLet left x y p.left_held hx hy ql in
          let v = closed_later d d2 gk x (place_closed d env a x n (let_value_place d env e left n p a b x y qe ql ha hx)) in
          let_pair d2 left x y c q right v hr body_right
