-- `let`s by their numbers in a draft: with another value, their bodies at their values, and over links of their parts.
use Rattle.std.proofs.Common.{◌≡◌, ℕ, ◌≤◌, inl, List, [], ◌∷◌, ◌++◌, length, Option, Some, refl, sym, ap, subst, ◌∙◌, arith}
use Rattle.std.proofs.lemmas.List.{map-append}
use Rattle.std.proofs.lemmas.List.Elements.{All-append, All-cons, All-nil}
use Rattle.trees.specs.declared.TermId.{TermId}
use Rattle.trees.specs.declared.Sort.TheVariants.{Term}
use Rattle.trees.specs.Tree.{Tree, Two, HLet, above_params}
use Rattle.trees.specs.Node.{tree_at, trees_at, Holds}
use Rattle.trees.specs.Binding.{change, instantiating_many, inst, inst_many}
use Rattle.trees.specs.Sorts.{sort_of, type_of, IsExpression}
use Rattle.tasks.specs.Task.{TaskTree}
use Rattle.tasks.specs.Vocabulary.{of_task}
use Rattle.tasks.specs.Typing.{TypedUnder, option_list}
use Rattle.tasks.specs.Valid.{IsGround}
use Rattle.congruence.specs.kernel.Right.{IsGroundExpression}
use Rattle.congruence.specs.tasks.typed_trees.instances.Instances.{IsTermOf}
use Rattle.congruence.proofs.tasks.typed_trees.instances.Typed.{inst_typed, inst_sort}
use Rattle.congruence.proofs.tasks.KeptInstances.{inst_variables}
use Rattle.evidence.specs.Drafts.{DraftTree, Extends}
use Rattle.evidence.specs.Laws.{Extends_trans}
use Rattle.images.specs.Open.{IsAt}
use Rattle.images.proofs.Changes.{open_inst_type}
use Rattle.images.proofs.Images.{expression_sort, expression_type}
use Rattle.images.proofs.Templates.{term_has_type}
use Rattle.congruence.specs.declared.alike.AlikeBy.{AlikeBy}
use Rattle.congruence.specs.Alike.{IsClosedAt, ArePair, Shows}
use Rattle.congruence.proofs.Later.{held_later, tree_later, closed_later, pair_later, node_later}
use Rattle.congruence.proofs.HoleTemplates.{closed_loose}
use Rattle.walking.specs.declared.linked.Linked.{Linked}
use Rattle.walking.specs.Places.{types_for, some_type, IsInstanceAt, IsLinkOf}
use Rattle.walking.proofs.Parts.{let_value, let_body, let_made, let_instance, let_inner}
use Rattle.walking.proofs.PlacesLater.{all_later, trees_later}
use Rattle.walking.proofs.Places.{types_more, place_closed, place_sort}
use Rattle.walking.proofs.EqualPlaces.{place_type, link_term}
use Rattle.walking.proofs.Binders.{place_above}

-- ---- a closed `let`
module _ (d : DraftTree) (whole value body : TermId) (c : IsClosedAt d whole) (q : tree_at d.trees whole ≡ Two HLet (tree_at d.trees value) (tree_at d.trees body)) where
  closed_typed : TypedUnder (of_task d.task) [] (Two HLet (tree_at d.trees value) (tree_at d.trees body))
  closed_typed = subst (TypedUnder (of_task d.task) []) q c.ground.typed

  closed_ground : IsGround (Two HLet (tree_at d.trees value) (tree_at d.trees body))
  closed_ground = subst IsGround q c.ground.ground

  closed_sort : IsExpression (sort_of (Two HLet (tree_at d.trees value) (tree_at d.trees body)))
  closed_sort = subst (λ (z : Tree). IsExpression (sort_of z)) q c.ground.sort

  -- with another value of the same type
  pub other_value : (other middle : TermId) → ArePair d value other → sort_of (tree_at d.trees value) ≡ Term → Holds d.trees middle → tree_at d.trees middle ≡ Two HLet (tree_at d.trees other) (tree_at d.trees body) → ArePair d whole middle
  other_value other middle p s h e =
      let x = closed_typed in
      let g = closed_ground in
      let w : IsGroundExpression d.task (Two HLet (tree_at d.trees other) (tree_at d.trees body)) = record {
        sort = closed_sort;
        typed = (((p.sort ∙ s, x.0.0.1), tt), tt, p.right.ground.typed, subst (λ (o : Option Tree). TypedUnder (of_task d.task) (option_list o ++ []) (tree_at d.trees body)) (sym p.type) x.3);
        ground = (p.right.ground.ground, g.1);
      } in
      record {
        left = c;
        right = record { held = h; ground = subst (IsGroundExpression d.task) (sym e) w };
        sort = ap sort_of e ∙ ap sort_of (sym q);
        type = ap type_of e ∙ ap type_of (sym q);
      }

  -- its body at its value
  pub let_pair : (inner : TermId) → IsClosedAt d value → Holds d.trees inner → tree_at d.trees inner ≡ inst (tree_at d.trees body) (tree_at d.trees value) → ArePair d whole inner
  let_pair inner k h e =
      let v = of_task d.task in
      let V = tree_at d.trees value in
      let B = tree_at d.trees body in
      let x = closed_typed in
      let g = closed_ground in
      let s : sort_of V ≡ Term = x.0.0.0 in
      let f : IsExpression (sort_of B) = x.0.0.1 in
      let p = term_has_type v [] V s k.ground.typed in
      let y : TypedUnder v (p.0 ∷ []) B = subst (λ (o : Option Tree). TypedUnder v (option_list o ++ []) B) p.1 x.3 in
      let t : IsTermOf v p.0 V = record { sort = s; typed = k.ground.typed; type = p.1 } in
      let r : sort_of (inst B V) ≡ sort_of B = inst_sort v p.0 V t B in
      let w : IsGroundExpression d.task (inst B V) = record {
        sort = subst IsExpression (sym r) f;
        typed = inst_typed v p.0 V t B y;
        ground = inst_variables V (closed_loose d value k) 0 B k.ground.ground g.1;
      } in
      record {
        left = c;
        right = record { held = h; ground = subst (IsGroundExpression d.task) (sym e) w };
        sort = ap sort_of e ∙ r ∙ sym (expression_sort B f) ∙ ap sort_of (sym q);
        type = ap type_of e ∙ open_inst_type v p.0 [] V s p.1 k.ground.typed B y ∙ expression_type B f ∙ ap type_of (sym q);
      }

-- ---- one term more in an environment
pub trees_longer : (d : DraftTree) (env : List TermId) (r : TermId) → trees_at d.trees (env ++ r ∷ []) ≡ trees_at d.trees env ++ tree_at d.trees r ∷ []
trees_longer d env r = map-append (tree_at d.trees) env (r ∷ [])

pub types_longer : (d : DraftTree) (env : List TermId) (r : TermId) (ty : Tree) → type_of (tree_at d.trees r) ≡ Some ty → types_for (trees_at d.trees (env ++ r ∷ [])) ≡ ty ∷ types_for (trees_at d.trees env)
types_longer d env r ty q = ap types_for (trees_longer d env r) ∙ types_more (trees_at d.trees env) (tree_at d.trees r) ∙ ap (λ (o : Option Tree). some_type o ∷ types_for (trees_at d.trees env)) q

-- ---- a `let` at an environment
module _ (d : DraftTree) (env : List TermId) (e left : TermId) (n : ℕ) (p : IsInstanceAt d env e left n) (a b x y : TermId) (qe : tree_at d.trees e ≡ Two HLet (tree_at d.trees a) (tree_at d.trees b))
    (ql : tree_at d.trees left ≡ Two HLet (tree_at d.trees x) (tree_at d.trees y)) where
  abbrev E : List Tree
  E = trees_at d.trees env

  at_let : IsAt d.task (types_for E) E (Two HLet (tree_at d.trees a) (tree_at d.trees b)) (tree_at d.trees left) n
  at_let = subst (λ (z : Tree). IsAt d.task (types_for E) E z (tree_at d.trees left) n) qe p.at

  value_type : (ty : Tree) × (type_of (tree_at d.trees a) ≡ Some ty)
  value_type = term_has_type (of_task d.task) (types_for E) (tree_at d.trees a) at_let.shape.typed.0.0.0 at_let.shape.typed.2

  pub let_value_place : Holds d.trees a → Holds d.trees x → IsInstanceAt d env a x n
  let_value_place ha hx = record {
    env_held = p.env_held;
    open_held = ha;
    left_held = hx;
    sort = inl at_let.shape.typed.0.0.0;
    own = let o : above_params (Two HLet (tree_at d.trees a) (tree_at d.trees b)) ≤ length d.task.params = subst (λ (z : Tree). above_params z ≤ length d.task.params) qe p.own in omega (arith, o);
    order = p.order;
    at = let_value d.task (types_for E) E n (tree_at d.trees a) (tree_at d.trees b) (tree_at d.trees left) (tree_at d.trees x) (tree_at d.trees y) value_type.0 value_type.1 at_let ql;
  }

  pub let_value_term : Holds d.trees a → Holds d.trees x → sort_of (tree_at d.trees x) ≡ Term
  let_value_term ha hx = place_sort d env a x n (let_value_place ha hx) ∙ at_let.shape.typed.0.0.0

  -- the body at the image of the value
  pub let_body_place : Holds d.trees a → Holds d.trees x → Holds d.trees b → (one : Linked) → IsLinkOf d env x n (tree_at d.trees one.image) one → (inner : TermId) → Holds d.trees inner → tree_at d.trees inner ≡ inst (tree_at d.trees y) (tree_at d.trees one.right)
      → IsInstanceAt d (env ++ one.right ∷ []) b inner n
  let_body_place ha hx hb one k inner hi ei =
      let w = let_value_place ha hx in
      let c = place_closed d env one.image one.right n k.place in
      let ty = value_type.0 in
      let q : type_of (tree_at d.trees one.right) ≡ Some ty = k.type ∙ place_type d env a x n w ∙ value_type.1 in
      let t : IsTermOf (of_task d.task) ty (tree_at d.trees one.right) = record { sort = k.sort ∙ let_value_term ha hx; typed = c.ground.typed; type = q } in
      let m = let_body d.task (types_for E) E n (tree_at d.trees a) (tree_at d.trees b) (tree_at d.trees left) (tree_at d.trees x) (tree_at d.trees y) ty value_type.1 at_let ql (tree_at d.trees one.right) (tree_at d.trees inner) t c.ground.ground (place_above d env one.image one.right n k.place) ei in
      record {
        env_held = All-append (Holds d.trees) env (one.right ∷ []) p.env_held (All-cons (Holds d.trees) one.right [] c.held (All-nil (Holds d.trees)));
        open_held = hb;
        left_held = hi;
        sort = at_let.shape.typed.0.0.1;
        own = let o : above_params (Two HLet (tree_at d.trees a) (tree_at d.trees b)) ≤ length d.task.params = subst (λ (z : Tree). above_params z ≤ length d.task.params) qe p.own in omega (arith, o);
        order = p.order;
        at = subst (λ (z : List Tree). IsAt d.task z (trees_at d.trees (env ++ one.right ∷ [])) (tree_at d.trees b) (tree_at d.trees inner) n) (sym (types_longer d env one.right ty q))
            (subst (λ (z : List Tree). IsAt d.task (ty ∷ types_for E) z (tree_at d.trees b) (tree_at d.trees inner) n) (sym (trees_longer d env one.right)) m);
      }

-- ---- a `let` over links of its value and body
module _ (d : DraftTree) (env : List TermId) (value inner : TermId) (n : ℕ) (one part : Linked) (k : IsLinkOf d env value n (tree_at d.trees one.image) one) (s : sort_of (tree_at d.trees value) ≡ Term)
    (w : IsLinkOf d (env ++ one.right ∷ []) inner n (tree_at d.trees part.image) part) where
  abbrev F : List Tree
  F = trees_at d.trees env

  abbrev A : Tree
  A = tree_at d.trees one.image

  abbrev B : Tree
  B = tree_at d.trees part.image

  image_term : sort_of A ≡ Term
  image_term = link_term d env value n A one k s

  image_type : (ty : Tree) × (type_of A ≡ Some ty)
  image_type = term_has_type (of_task d.task) (types_for F) A image_term k.place.at.shape.typed

  right_type : type_of (tree_at d.trees one.right) ≡ Some image_type.0
  right_type = place_type d env one.image one.right n k.place ∙ image_type.1

  body_at : IsAt d.task (image_type.0 ∷ types_for F) (F ++ tree_at d.trees one.right ∷ []) B (tree_at d.trees part.right) n
  body_at = subst (λ (z : List Tree). IsAt d.task z (F ++ tree_at d.trees one.right ∷ []) B (tree_at d.trees part.right) n) (types_longer d env one.right image_type.0 right_type)
      (subst (λ (z : List Tree). IsAt d.task (types_for (trees_at d.trees (env ++ one.right ∷ []))) z B (tree_at d.trees part.right) n) (trees_longer d env one.right) w.place.at)

  pub let_fits : (sort_of A ≡ Term) × IsExpression (sort_of B)
  let_fits = (image_term, w.place.sort)

  made_at : IsAt d.task (types_for F) F (Two HLet A B) (inst_many (Two HLet A B) F) n
  made_at = let_made d.task (types_for F) F n A (tree_at d.trees one.right) B (tree_at d.trees part.right) image_type.0 image_term image_type.1 k.place.at body_at w.place.sort

  -- in the drafts in which it is made
  module _ (d1 d2 : DraftTree) (x : Extends d d1) (y : Extends d1 d2) (image right : TermId) (hi : Holds d1.trees image) (ei : tree_at d1.trees image ≡ Two HLet A B) (hr : Holds d2.trees right)
      (er : tree_at d2.trees right ≡ inst_many (tree_at d1.trees image) (trees_at d1.trees env)) where
    xy : Extends d d2
    xy = Extends_trans d d1 d2 x y

    right_is : tree_at d2.trees right ≡ inst_many (Two HLet A B) F
    right_is = er ∙ ap (λ (z : Tree). inst_many z (trees_at d1.trees env)) ei ∙ ap (inst_many (Two HLet A B)) (trees_later d d1 x env k.place.env_held)

    pub let_right : tree_at d2.trees right ≡ Two HLet (tree_at d2.trees one.right) (change (instantiating_many F) 1 B)
    let_right =
        right_is ∙ let_instance d.task (types_for F) F n A (tree_at d.trees one.right) B (tree_at d.trees part.right) image_type.0 image_term image_type.1 k.place.at body_at w.place.sort
        ∙ ap (λ (z : Tree). Two HLet z (change (instantiating_many F) 1 B)) (sym (tree_later d d2 xy one.right k.place.left_held))

    pub let_under : (v : Tree) → tree_at d2.trees right ≡ Two HLet (tree_at d2.trees one.right) v → tree_at d2.trees part.right ≡ inst v (tree_at d2.trees one.right)
    let_under v q =
        let r : inst_many (Two HLet A B) F ≡ Two HLet (tree_at d.trees one.right) v = sym right_is ∙ q ∙ ap (λ (z : Tree). Two HLet z v) (tree_later d d2 xy one.right k.place.left_held) in
        tree_later d d2 xy part.right w.place.left_held
        ∙ let_inner d.task (types_for F) F n A (tree_at d.trees one.right) B (tree_at d.trees part.right) image_type.0 image_term image_type.1 k.place.at body_at w.place.sort v r
        ∙ ap (inst v) (sym (tree_later d d2 xy one.right k.place.left_held))

    pub let_place : IsInstanceAt d2 env image right n
    let_place =
        let ti : tree_at d2.trees image ≡ Two HLet A B = tree_later d1 d2 y image hi ∙ ei in
        let low : above_params (Two HLet A B) ≤ length d.task.params = let a = k.place.own in let b = w.place.own in omega (arith, a, b) in
        record {
          env_held = all_later d d2 xy env k.place.env_held;
          open_held = held_later d1 d2 y image hi;
          left_held = hr;
          sort = subst (λ (z : Tree). IsExpression (sort_of z)) (sym ti) (subst IsExpression (sym (expression_sort B w.place.sort)) w.place.sort);
          own = subst (λ (t : TaskTree). above_params (tree_at d2.trees image) ≤ length t.params) (sym xy.task) (subst (λ (z : Tree). above_params z ≤ length d.task.params) (sym ti) low);
          order = subst (λ (t : TaskTree). length t.params ≤ n) (sym xy.task) k.place.order;
          at = subst (λ (t : TaskTree). IsAt t (types_for (trees_at d2.trees env)) (trees_at d2.trees env) (tree_at d2.trees image) (tree_at d2.trees right) n) (sym xy.task)
              (subst (λ (z : List Tree). IsAt d.task (types_for z) z (tree_at d2.trees image) (tree_at d2.trees right) n) (sym (trees_later d d2 xy env k.place.env_held))
              (subst (λ (z : Tree). IsAt d.task (types_for F) F z (tree_at d2.trees right) n) (sym ti) (subst (λ (z : Tree). IsAt d.task (types_for F) F (Two HLet A B) z n) (sym right_is) made_at)));
        }

-- ---- a `let` with another value, and its body at that, in the drafts in which they are made
module _ (d d1 d2 : DraftTree) (x : Extends d d1) (y : Extends d1 d2) (left value body other : TermId) (c : IsClosedAt d left) (q : tree_at d.trees left ≡ Two HLet (tree_at d.trees value) (tree_at d.trees body)) (hb : Holds d.trees body) (p : ArePair d value other)
    (s : sort_of (tree_at d.trees value) ≡ Term) (middle inner : TermId) (hm : Holds d1.trees middle) (em : tree_at d1.trees middle ≡ Two HLet (tree_at d.trees other) (tree_at d.trees body)) (hi : Holds d2.trees inner)
    (ei : tree_at d2.trees inner ≡ inst (tree_at d1.trees body) (tree_at d1.trees other)) where
  z12 : Extends d d2
  z12 = Extends_trans d d1 d2 x y

  sides_first : ArePair d1 left middle
  sides_first =
      other_value d1 left value body (closed_later d d1 x left c) (node_later d d1 x HLet left value body c.held p.left.held hb q) other middle (pair_later d d1 x value other p) (ap sort_of (tree_later d d1 x value p.left.held) ∙ s) hm
      (em ∙ cc (tree_later d d1 x other p.right.held, tree_later d d1 x body hb))

  pub trees_sides : ArePair d2 left middle
  trees_sides = pair_later d1 d2 y left middle sides_first

  pub trees_middle : tree_at d2.trees middle ≡ Two HLet (tree_at d2.trees other) (tree_at d2.trees body)
  trees_middle = tree_later d1 d2 y middle hm ∙ em ∙ cc (tree_later d d2 z12 other p.right.held, tree_later d d2 z12 body hb)

  pub trees_inner : tree_at d2.trees inner ≡ inst (tree_at d2.trees body) (tree_at d2.trees other)
  trees_inner = ei ∙ cc (tree_later d1 d2 y body (held_later d d1 x body hb), tree_later d1 d2 y other (held_later d d1 x other p.right.held))

  pub trees_pair : ArePair d2 middle inner
  trees_pair = let_pair d2 middle other body trees_sides.right trees_middle inner (closed_later d d2 z12 other p.right) hi trees_inner

pub other_fits : (d : DraftTree) (left value body other : TermId) → IsClosedAt d left → tree_at d.trees left ≡ Two HLet (tree_at d.trees value) (tree_at d.trees body) → ArePair d value other → sort_of (tree_at d.trees value) ≡ Term
    → (sort_of (tree_at d.trees other) ≡ Term) × IsExpression (sort_of (tree_at d.trees body))
other_fits d left value body other c q p s = let x = closed_typed d left value body c q in (p.sort ∙ s, x.0.0.1)

-- a `let` whose value is named
pub let_named : (l v b r w : Tree) → l ≡ Two HLet v b → l ≡ Two HLet r w → l ≡ Two HLet r b
let_named l v b r w p q = let e : v ≡ r = cc in p ∙ ap (λ (z : Tree). Two HLet z b) e

-- a link of what it made
pub link_again : (d : DraftTree) (env : List TermId) (l : TermId) (n : ℕ) (e : Tree) (m : Linked) → IsLinkOf d env l n e m → IsLinkOf d env l n (tree_at d.trees m.image) m
link_again d env l n e m k = record { is = refl; place = k.place; sort = k.sort; type = k.type; shows = k.shows }

-- what is shown of earlier trees
pub shows_moved : (d d1 : DraftTree) (x : Extends d d1) (w : AlikeBy) (a b : TermId) → Holds d.trees a → Holds d.trees b → Shows d1 w (tree_at d.trees a) (tree_at d.trees b) → Shows d1 w (tree_at d1.trees a) (tree_at d1.trees b)
shows_moved d d1 x w a b ha hb s = subst (λ (z : Tree). Shows d1 w z (tree_at d1.trees b)) (sym (tree_later d d1 x a ha)) (subst (λ (z : Tree). Shows d1 w (tree_at d.trees a) z) (sym (tree_later d d1 x b hb)) s)
