-- The place of a quantified formula over the image of its body: its own instance, and that instance's body at the new parameter.
use Rattle.std.proofs.Common.{◌≡◌, ℕ, ◌+◌, ◌≤◌, Bool, true, false, inl, inr, List, [], ◌∷◌, ◌++◌, length, None, refl, sym, ap, subst, ◌∙◌, arith}
use Rattle.std.proofs.lemmas.List.{map-append}
use Rattle.std.proofs.lemmas.List.Elements.{All-append, All-cons, All-nil}
use Rattle.congruence.specs.kernel.Right.{IsGroundExpression}
use Rattle.congruence.specs.Alike.{Shows, ArePair, IsClosedAt}
use Rattle.trees.specs.declared.TermId.{TermId}
use Rattle.trees.specs.declared.Sort.TheVariants.{Kind, Formula}
use Rattle.trees.specs.Tree.{Tree, Two, above_params, binders_over, head_of}
use Rattle.images.specs.Images.{image, IsOtherHead}
use Rattle.images.proofs.Images.{others_type}
use Rattle.tasks.proofs.Closing.{typed_sorted}
use Rattle.trees.specs.Node.{tree_at, trees_at, Holds}
use Rattle.trees.specs.Binding.{change, instantiating_many, inst, inst_many, Param}
use Rattle.trees.specs.Sorts.{sort_of, type_of}
use Rattle.tasks.specs.Task.{TaskTree}
use Rattle.tasks.specs.Vocabulary.{Vocabulary, of_task}
use Rattle.tasks.specs.Typing.{TypedUnder, bound_types}
use Rattle.evidence.specs.Drafts.{DraftTree, Extends, IsFormulaAt}
use Rattle.evidence.specs.Laws.{Extends_trans}
use Rattle.images.specs.Open.{IsOpenUnder, IsAt}
use Rattle.images.proofs.Environments.{at_open, new_parameter, quantified_type, quantified_right}
use Rattle.images.proofs.Environments as around
use Rattle.walking.specs.declared.linked.Linked.{Linked}
use Rattle.walking.specs.Places.{types_for, over_images, IsInstanceAt, IsLinkOf}
use Rattle.congruence.specs.Quantifiers.{quantifier_head}
use Rattle.congruence.proofs.Later.{tree_later, held_later}
use Rattle.walking.proofs.PlacesLater.{all_later, trees_later, place_later}
use Rattle.walking.proofs.Places.{types_more, place_closed}

-- ---- quantifiers
bound_one : (u : Bool) (T : Tree) → bound_types (quantifier_head u) T ≡ T ∷ []
bound_one true T = refl
bound_one false T = refl

binds_one : (u : Bool) (T : Tree) → binders_over (quantifier_head u) T ≡ 1
binds_one true T = refl
binds_one false T = refl

pub quantified_sort : (u : Bool) (T B : Tree) → sort_of (Two (quantifier_head u) T B) ≡ Formula
quantified_sort true T B = refl
quantified_sort false T B = refl

pub quantified_no_type : (u : Bool) (T B : Tree) → type_of (Two (quantifier_head u) T B) ≡ None
quantified_no_type true T B = refl
quantified_no_type false T B = refl

kind_of : (v : Vocabulary) (u : Bool) (types : List Tree) (T B : Tree) → TypedUnder v types (Two (quantifier_head u) T B) → sort_of T ≡ Kind
kind_of v true types T B x = x.0.0.0
kind_of v false types T B x = x.0.0.0

-- what it is over is a formula
pub body_formula : (v : Vocabulary) (u : Bool) (types : List Tree) (T B : Tree) → TypedUnder v types (Two (quantifier_head u) T B) → sort_of B ≡ Formula
body_formula v true types T B x = x.0.0.1
body_formula v false types T B x = x.0.0.1

made_typed : (v : Vocabulary) (u : Bool) (types : List Tree) (T B : Tree) → sort_of T ≡ Kind → sort_of B ≡ Formula → TypedUnder v types T → TypedUnder v (T ∷ types) B → TypedUnder v types (Two (quantifier_head u) T B)
made_typed v true types T B k f x y = (((k, f), tt), tt, x, y)
made_typed v false types T B k f x y = (((k, f), tt), tt, x, y)

instance_head : (u : Bool) (env : List Tree) (T B : Tree) → inst_many (Two (quantifier_head u) T B) env ≡ Two (quantifier_head u) (inst_many T env) (change (instantiating_many env) 1 B)
instance_head true env T B = refl
instance_head false env T B = refl

module _ (u : Bool) (d : DraftTree) (env : List TermId) (e left term inner : TermId) (n : ℕ) (T B : Tree) (part : Linked) (p : IsInstanceAt d env e left n) (qe : tree_at d.trees e ≡ Two (quantifier_head u) T B)
    (k : IsLinkOf d (env ++ term ∷ []) inner (n + 1) (tree_at d.trees part.image) part) (tm : tree_at d.trees term ≡ Param n T) (fi : sort_of (tree_at d.trees part.image) ≡ Formula) where
  longer : trees_at d.trees (env ++ term ∷ []) ≡ trees_at d.trees env ++ Param n T ∷ []
  longer = map-append (tree_at d.trees) env (term ∷ []) ∙ ap (λ (z : Tree). trees_at d.trees env ++ z ∷ []) tm

  types_longer : types_for (trees_at d.trees (env ++ term ∷ [])) ≡ T ∷ types_for (trees_at d.trees env)
  types_longer = ap types_for longer ∙ types_more (trees_at d.trees env) (Param n T)

  source : IsOpenUnder d.task (types_for (trees_at d.trees env)) (Two (quantifier_head u) T B) n
  source = subst (λ (z : Tree). IsOpenUnder d.task (types_for (trees_at d.trees env)) z n) qe p.at.shape

  pub quantified_kind : sort_of T ≡ Kind
  quantified_kind = kind_of (of_task d.task) u (types_for (trees_at d.trees env)) T B source.typed

  pub quantified_shape : IsOpenUnder d.task (types_for (trees_at d.trees env)) (Two (quantifier_head u) T (tree_at d.trees part.image)) n
  quantified_shape = record {
    typed = made_typed (of_task d.task) u (types_for (trees_at d.trees env)) T (tree_at d.trees part.image) quantified_kind fi source.typed.2 (subst (λ (ts : List Tree). TypedUnder (of_task d.task) ts (tree_at d.trees part.image)) types_longer k.place.at.shape.typed);
    ground = (source.ground.0, k.place.at.shape.ground);
    above = let a = source.above in let b = k.place.own in let c = p.order in omega (arith, a, b, c);
  }

  pub quantified_at : IsAt d.task (types_for (trees_at d.trees env)) (trees_at d.trees env) (Two (quantifier_head u) T (tree_at d.trees part.image)) (inst_many (Two (quantifier_head u) T (tree_at d.trees part.image)) (trees_at d.trees env)) n
  quantified_at = record { around = p.at.around; shape = quantified_shape; is = refl }

  -- the instance is a quantified formula over the same type
  pub quantified_instance : inst_many (Two (quantifier_head u) T (tree_at d.trees part.image)) (trees_at d.trees env) ≡ Two (quantifier_head u) T (change (instantiating_many (trees_at d.trees env)) 1 (tree_at d.trees part.image))
  quantified_instance =
      instance_head u (trees_at d.trees env) T (tree_at d.trees part.image)
      ∙ ap (λ (z : Tree). Two (quantifier_head u) z (change (instantiating_many (trees_at d.trees env)) 1 (tree_at d.trees part.image)))
      (quantified_type d.task (types_for (trees_at d.trees env)) (trees_at d.trees env) n (quantifier_head u) T (tree_at d.trees part.image) _ (inst_many T (trees_at d.trees env)) (change (instantiating_many (trees_at d.trees env)) 1 (tree_at d.trees part.image)) (bound_one u T) (binds_one u T) quantified_kind quantified_at (instance_head u (trees_at d.trees env) T (tree_at d.trees part.image)))

  -- and its body at the new parameter is what the walk made of the body
  pub quantified_body : (v : Tree) → inst_many (Two (quantifier_head u) T (tree_at d.trees part.image)) (trees_at d.trees env) ≡ Two (quantifier_head u) T v → tree_at d.trees part.right ≡ inst v (Param n T)
  quantified_body v q =
      k.place.at.is ∙ ap (inst_many (tree_at d.trees part.image)) longer
      ∙ sym (quantified_right d.task (types_for (trees_at d.trees env)) (trees_at d.trees env) n (quantifier_head u) T (tree_at d.trees part.image) _ T v (bound_one u T) (binds_one u T) quantified_kind quantified_at q (tree_at d.trees part.image) _ v refl q)

  -- its numbers
  pub quantified_place : (d1 d2 : DraftTree) (x : Extends d d1) (y : Extends d1 d2) (image right : TermId) → Holds d1.trees image → tree_at d1.trees image ≡ Two (quantifier_head u) T (tree_at d.trees part.image)
      → Holds d2.trees right → tree_at d2.trees right ≡ inst_many (tree_at d1.trees image) (trees_at d1.trees env) → IsInstanceAt d2 env image right n
  quantified_place d1 d2 x y image right hi ei hr er =
      let xy = Extends_trans d d1 d2 x y in
      let E = trees_at d.trees env in
      let I = tree_at d.trees part.image in
      let ti : tree_at d2.trees image ≡ Two (quantifier_head u) T I = tree_later d1 d2 y image hi ∙ ei in
      let tr : tree_at d2.trees right ≡ inst_many (Two (quantifier_head u) T I) E = er ∙ ap (λ (z : Tree). inst_many z (trees_at d1.trees env)) ei ∙ ap (inst_many (Two (quantifier_head u) T I)) (trees_later d d1 x env p.env_held) in
      let low : above_params (Two (quantifier_head u) T I) ≤ length d.task.params = let a : above_params (Two (quantifier_head u) T B) ≤ length d.task.params = subst (λ (z : Tree). above_params z ≤ length d.task.params) qe p.own in let b = k.place.own in omega (arith, a, b) in
      record {
        env_held = all_later d d2 xy env p.env_held;
        open_held = held_later d1 d2 y image hi;
        left_held = hr;
        sort = inr (ap sort_of ti ∙ quantified_sort u T I);
        own = subst (λ (t : TaskTree). above_params (tree_at d2.trees image) ≤ length t.params) (sym xy.task) (subst (λ (z : Tree). above_params z ≤ length d.task.params) (sym ti) low);
        order = subst (λ (t : TaskTree). length t.params ≤ n) (sym xy.task) p.order;
        at = subst (λ (t : TaskTree). IsAt t (types_for (trees_at d2.trees env)) (trees_at d2.trees env) (tree_at d2.trees image) (tree_at d2.trees right) n) (sym xy.task)
            (subst (λ (z : List Tree). IsAt d.task (types_for z) z (tree_at d2.trees image) (tree_at d2.trees right) n) (sym (trees_later d d2 xy env p.env_held))
            (subst (λ (z : Tree). IsAt d.task (types_for E) E z (tree_at d2.trees right) n) (sym ti) (subst (λ (z : Tree). IsAt d.task (types_for E) E (Two (quantifier_head u) T I) z n) (sym tr) quantified_at)));
      }

  -- the instance, in a later draft
  quantified_made : (d1 d2 : DraftTree) (x : Extends d d1) (image right : TermId) → tree_at d1.trees image ≡ Two (quantifier_head u) T (tree_at d.trees part.image)
      → tree_at d2.trees right ≡ inst_many (tree_at d1.trees image) (trees_at d1.trees env) → tree_at d2.trees right ≡ inst_many (Two (quantifier_head u) T (tree_at d.trees part.image)) (trees_at d.trees env)
  quantified_made d1 d2 x image right ei er =
      er ∙ ap (λ (z : Tree). inst_many z (trees_at d1.trees env)) ei ∙ ap (inst_many (Two (quantifier_head u) T (tree_at d.trees part.image))) (trees_later d d1 x env p.env_held)

  -- it is quantified over the same type
  pub quantified_over : (d1 d2 : DraftTree) (x : Extends d d1) (image right : TermId) → tree_at d1.trees image ≡ Two (quantifier_head u) T (tree_at d.trees part.image)
      → tree_at d2.trees right ≡ inst_many (tree_at d1.trees image) (trees_at d1.trees env) → tree_at d2.trees right ≡ Two (quantifier_head u) T (change (instantiating_many (trees_at d.trees env)) 1 (tree_at d.trees part.image))
  quantified_over d1 d2 x image right ei er = quantified_made d1 d2 x image right ei er ∙ quantified_instance

  -- its body at the new parameter
  pub quantified_under : (d1 d2 : DraftTree) (x : Extends d d1) (image right : TermId) → tree_at d1.trees image ≡ Two (quantifier_head u) T (tree_at d.trees part.image)
      → tree_at d2.trees right ≡ inst_many (tree_at d1.trees image) (trees_at d1.trees env) → (v : Tree) → tree_at d2.trees right ≡ Two (quantifier_head u) T v → tree_at d.trees part.right ≡ inst v (Param n T)
  quantified_under d1 d2 x image right ei er v q = quantified_body v (sym (quantified_made d1 d2 x image right ei er) ∙ q)

-- the parameters of a place
pub place_above : (d : DraftTree) (env : List TermId) (e l : TermId) (n : ℕ) → IsInstanceAt d env e l n → above_params (tree_at d.trees l) ≤ n
place_above d env e l n p =
    let o = at_open d.task (types_for (trees_at d.trees env)) (trees_at d.trees env) n p.at.around (tree_at d.trees e) p.at.shape in
    subst (λ (z : Tree). above_params z ≤ n) (sym p.at.is) o.above

-- what a link is of, with what it made: a pair
pub formula_pair : (d : DraftTree) (env : List TermId) (l : TermId) (n : ℕ) (e : Tree) (m : Linked) → IsFormulaAt d l → IsLinkOf d env l n e m → ArePair d l m.right
formula_pair d env l n e m f k = record {
  left = record { held = f.held; ground = record { sort = inr f.ground.sort; typed = f.ground.typed; ground = f.ground.ground } };
  right = place_closed d env m.image m.right n k.place;
  sort = k.sort;
  type = k.type;
}

-- two quantified formulas are a pair
pub quantified_pair : (u : Bool) (d : DraftTree) (l r : TermId) (T L R : Tree) → IsClosedAt d l → IsClosedAt d r → tree_at d.trees l ≡ Two (quantifier_head u) T L → tree_at d.trees r ≡ Two (quantifier_head u) T R → ArePair d l r
quantified_pair u d l r T L R a b p q = record {
  left = a;
  right = b;
  sort = ap sort_of q ∙ quantified_sort u T R ∙ sym (ap sort_of p ∙ quantified_sort u T L);
  type = ap type_of q ∙ quantified_no_type u T R ∙ sym (ap type_of p ∙ quantified_no_type u T L);
}

-- a link of what was made
pub made_link : (d d1 : DraftTree) (y : Extends d d1) (env : List TermId) (left : TermId) (n : ℕ) (I : Tree) (made : Linked) → IsInstanceAt d env made.image made.right n → tree_at d.trees made.image ≡ I → ArePair d left made.right
    → Shows d1 made.alike (tree_at d.trees left) (tree_at d.trees made.right) → IsLinkOf d1 env left n I made
made_link d d1 y env left n I made p q a s =
    let l : tree_at d1.trees left ≡ tree_at d.trees left = tree_later d d1 y left a.left.held in
    let r : tree_at d1.trees made.right ≡ tree_at d.trees made.right = tree_later d d1 y made.right a.right.held in
    record {
      is = tree_later d d1 y made.image p.open_held ∙ q;
      place = place_later d d1 y env made.image made.right n p;
      sort = ap sort_of r ∙ a.sort ∙ ap sort_of (sym l);
      type = ap type_of r ∙ a.type ∙ ap type_of (sym l);
      shows = subst (λ (z : Tree). Shows d1 made.alike z (tree_at d1.trees made.right)) (sym l) (subst (λ (z : Tree). Shows d1 made.alike (tree_at d.trees left) z) (sym r) s);
    }

-- ---- a quantified formula at a place: its type, and its body at a new parameter
module _ (u : Bool) (d : DraftTree) (env : List TermId) (e left : TermId) (n : ℕ) (T B : Tree) (p : IsInstanceAt d env e left n) (qe : tree_at d.trees e ≡ Two (quantifier_head u) T B) where
  at_quantified : IsAt d.task (types_for (trees_at d.trees env)) (trees_at d.trees env) (Two (quantifier_head u) T B) (tree_at d.trees left) n
  at_quantified = subst (λ (z : Tree). IsAt d.task (types_for (trees_at d.trees env)) (trees_at d.trees env) z (tree_at d.trees left) n) qe p.at

  pub opened_kind : sort_of T ≡ Kind
  opened_kind = kind_of (of_task d.task) u (types_for (trees_at d.trees env)) T B at_quantified.shape.typed

  pub opened_formula : sort_of B ≡ Formula
  opened_formula = body_formula (of_task d.task) u (types_for (trees_at d.trees env)) T B at_quantified.shape.typed

  -- the instance is quantified over the same type
  pub opened_left : tree_at d.trees left ≡ Two (quantifier_head u) T (change (instantiating_many (trees_at d.trees env)) 1 B)
  opened_left =
      at_quantified.is ∙ instance_head u (trees_at d.trees env) T B
      ∙ ap (λ (z : Tree). Two (quantifier_head u) z (change (instantiating_many (trees_at d.trees env)) 1 B))
      (quantified_type d.task (types_for (trees_at d.trees env)) (trees_at d.trees env) n (quantifier_head u) T B (tree_at d.trees left) (inst_many T (trees_at d.trees env)) (change (instantiating_many (trees_at d.trees env)) 1 B) (bound_one u T) (binds_one u T) opened_kind at_quantified
      (at_quantified.is ∙ instance_head u (trees_at d.trees env) T B))

  -- the node over the image of its body, by a rule that leaves types as they are
  pub under_image : (f : Tree → Tree) → ((z : Tree) → IsOtherHead (head_of z) → f z ≡ z) → over_images f (tree_at d.trees e) ≡ Two (quantifier_head u) T (image f B)
  under_image f others =
      ap (over_images f) qe ∙ ap (λ (z : Tree). Two (quantifier_head u) z (image f B)) (others_type f others T (typed_sorted (of_task d.task) (types_for (trees_at d.trees env)) T at_quantified.shape.typed.2) (inl opened_kind))

  -- the new parameter is a closed term
  pub opened_term : (d1 : DraftTree) (x : Extends d d1) (term : TermId) → Holds d1.trees term → tree_at d1.trees term ≡ Param n T → IsClosedAt d1 term
  opened_term d1 x term h q =
      let o = new_parameter d.task (types_for (trees_at d.trees env)) (trees_at d.trees env) n (quantifier_head u) T B (tree_at d.trees left) T (change (instantiating_many (trees_at d.trees env)) 1 B) (bound_one u T) (binds_one u T) opened_kind at_quantified opened_left in
      record {
        held = h;
        ground = subst (λ (t : TaskTree). IsGroundExpression t (tree_at d1.trees term)) (sym x.task) (subst (IsGroundExpression d.task) (sym q) (record { sort = inl o.sort; typed = o.typed; ground = at_quantified.shape.ground.0 }));
      }

  -- the place of the body
  pub opened_place : (d1 : DraftTree) (x : Extends d d1) (body term inner : TermId) (W : Tree) → Holds d.trees body → tree_at d.trees body ≡ B → tree_at d.trees left ≡ Two (quantifier_head u) T W → Holds d1.trees term → tree_at d1.trees term ≡ Param n T → Holds d1.trees inner
      → tree_at d1.trees inner ≡ inst W (Param n T) → IsInstanceAt d1 (env ++ term ∷ []) body inner (n + 1)
  opened_place d1 x body term inner W hb eb ql ht et hi ei =
      let E = trees_at d.trees env in
      let types = types_for E in
      let b1 : tree_at d1.trees body ≡ B = tree_later d d1 x body hb ∙ eb in
      let longer : trees_at d1.trees (env ++ term ∷ []) ≡ E ++ Param n T ∷ [] = map-append (tree_at d1.trees) env (term ∷ []) ∙ cc (trees_later d d1 x env p.env_held, et) in
      let more : types_for (trees_at d1.trees (env ++ term ∷ [])) ≡ T ∷ types = ap types_for longer ∙ types_more E (Param n T) in
      let low : above_params B ≤ length d.task.params = let a : above_params (Two (quantifier_head u) T B) ≤ length d.task.params = subst (λ (z : Tree). above_params z ≤ length d.task.params) qe p.own in omega (arith, a) in
      let a0 : IsAt d.task (T ∷ types) (E ++ Param n T ∷ []) B (tree_at d1.trees inner) (n + 1) =
      around.quantified_body d.task types E n (quantifier_head u) T B (tree_at d.trees left) T W (bound_one u T) (binds_one u T) opened_kind at_quantified ql (tree_at d1.trees inner) ei in
      record {
        env_held = All-append (Holds d1.trees) env (term ∷ []) (all_later d d1 x env p.env_held) (All-cons (Holds d1.trees) term [] ht (All-nil (Holds d1.trees)));
        open_held = held_later d d1 x body hb;
        left_held = hi;
        sort = inr (ap sort_of b1 ∙ body_formula (of_task d.task) u types T B at_quantified.shape.typed);
        own = subst (λ (t : TaskTree). above_params (tree_at d1.trees body) ≤ length t.params) (sym x.task) (subst (λ (z : Tree). above_params z ≤ length d.task.params) (sym b1) low);
        order = subst (λ (t : TaskTree). length t.params ≤ n + 1) (sym x.task) (let o = p.order in omega (arith, o));
        at = subst (λ (t : TaskTree). IsAt t (types_for (trees_at d1.trees (env ++ term ∷ []))) (trees_at d1.trees (env ++ term ∷ [])) (tree_at d1.trees body) (tree_at d1.trees inner) (n + 1)) (sym x.task)
            (subst (λ (z : List Tree). IsAt d.task z (trees_at d1.trees (env ++ term ∷ [])) (tree_at d1.trees body) (tree_at d1.trees inner) (n + 1)) (sym more)
            (subst (λ (z : List Tree). IsAt d.task (T ∷ types) z (tree_at d1.trees body) (tree_at d1.trees inner) (n + 1)) (sym longer)
            (subst (λ (z : Tree). IsAt d.task (T ∷ types) (E ++ Param n T ∷ []) z (tree_at d1.trees inner) (n + 1)) (sym b1) a0)));
      }
