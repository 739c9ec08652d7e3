-- The sides of an equation at a place, and the place made of those of its sides; links of variables, parameters and numbers.
use Rattle.std.proofs.Common.{◌≡◌, ℕ, ◌≤◌, inl, inr, List, length, refl, sym, ap, subst, ◌∙◌, arith}
use Rattle.trees.specs.declared.TermId.{TermId}
use Rattle.trees.specs.declared.Sort.TheVariants.{Term}
use Rattle.trees.specs.Tree.{Tree, One, Two, HBound, HParam, HEq, head_of, above_params}
use Rattle.trees.specs.Node.{tree_at, trees_at, Holds}
use Rattle.trees.specs.Binding.{inst_many}
use Rattle.trees.specs.Sorts.{sort_of, type_of}
use Rattle.tasks.specs.Vocabulary.{of_task}
use Rattle.congruence.proofs.tasks.typed_trees.instances.Typed.{many_type}
use Rattle.tasks.specs.Valid.{IsGroundFormula}
use Rattle.evidence.specs.Drafts.{DraftTree, Extends, IsFormulaAt}
use Rattle.evidence.specs.Laws.{Extends_trans}
use Rattle.images.specs.Images.{IsOtherHead}
use Rattle.images.proofs.Images.{others_type}
use Rattle.tasks.proofs.Closing.{typed_sorted}
use Rattle.walking.proofs.Places.{place_sort}
use Rattle.congruence.specs.declared.alike.AlikeBy.TheVariants as alike
use Rattle.congruence.proofs.Later.{held_later, tree_later}
use Rattle.walking.proofs.PlacesLater.{place_later}
use Rattle.images.specs.Open.{IsOpenUnder, IsAt}
use Rattle.images.proofs.Environments.{at_first, at_second}
use Rattle.walking.specs.declared.linked.Linked.{Linked}
use Rattle.congruence.specs.Alike.{Shows}
use Rattle.walking.specs.Places.{types_for, IsInstanceAt, IsLinkOf, over_images}

-- a place has the type of the open tree
pub place_type : (d : DraftTree) (env : List TermId) (e l : TermId) (n : ℕ) → IsInstanceAt d env e l n → type_of (tree_at d.trees l) ≡ type_of (tree_at d.trees e)
place_type d env e l n p = ap type_of p.at.is ∙ many_type (of_task d.task) (types_for (trees_at d.trees env)) (trees_at d.trees env) p.at.around.terms (tree_at d.trees e) p.at.shape.typed

-- a link of a term is one
pub link_term : (d : DraftTree) (env : List TermId) (l : TermId) (n : ℕ) (e : Tree) (m : Linked) → IsLinkOf d env l n e m → sort_of (tree_at d.trees l) ≡ Term → sort_of (tree_at d.trees m.image) ≡ Term
link_term d env l n e m k f = sym (place_sort d env m.image m.right n k.place) ∙ k.sort ∙ f

-- ---- equations
module _ (d : DraftTree) (env : List TermId) (e l : TermId) (n : ℕ) (p : IsInstanceAt d env e l n) (a b u v : TermId) (q : tree_at d.trees e ≡ Two HEq (tree_at d.trees a) (tree_at d.trees b))
    (r : tree_at d.trees l ≡ Two HEq (tree_at d.trees u) (tree_at d.trees v)) where
  equated : IsAt d.task (types_for (trees_at d.trees env)) (trees_at d.trees env) (Two HEq (tree_at d.trees a) (tree_at d.trees b)) (tree_at d.trees l) n
  equated = subst (λ (z : Tree). IsAt d.task (types_for (trees_at d.trees env)) (trees_at d.trees env) z (tree_at d.trees l) n) q p.at

  pub equal_first_place : Holds d.trees a → Holds d.trees u → IsInstanceAt d env a u n
  equal_first_place ha hu = record {
    env_held = p.env_held;
    open_held = ha;
    left_held = hu;
    sort = inl equated.shape.typed.0.0.0;
    own = let o : above_params (Two HEq (tree_at d.trees a) (tree_at d.trees b)) ≤ length d.task.params = subst (λ (z : Tree). above_params z ≤ length d.task.params) q p.own in omega (arith, o);
    order = p.order;
    at = at_first d.task (types_for (trees_at d.trees env)) (trees_at d.trees env) n HEq (tree_at d.trees a) (tree_at d.trees b) (tree_at d.trees l) (tree_at d.trees u) (tree_at d.trees v) refl refl equated r;
  }

  pub equal_second_place : Holds d.trees b → Holds d.trees v → IsInstanceAt d env b v n
  equal_second_place hb hv = record {
    env_held = p.env_held;
    open_held = hb;
    left_held = hv;
    sort = inl equated.shape.typed.0.0.1;
    own = let o : above_params (Two HEq (tree_at d.trees a) (tree_at d.trees b)) ≤ length d.task.params = subst (λ (z : Tree). above_params z ≤ length d.task.params) q p.own in omega (arith, o);
    order = p.order;
    at = at_second d.task (types_for (trees_at d.trees env)) (trees_at d.trees env) n HEq (tree_at d.trees a) (tree_at d.trees b) (tree_at d.trees l) (tree_at d.trees u) (tree_at d.trees v) refl refl equated r;
  }

-- places equated
pub equal_made : (d : DraftTree) (env : List TermId) (a u b v : TermId) (n : ℕ) (e l : TermId) → IsInstanceAt d env a u n → IsInstanceAt d env b v n → sort_of (tree_at d.trees a) ≡ Term → sort_of (tree_at d.trees b) ≡ Term → type_of (tree_at d.trees a) ≡ type_of (tree_at d.trees b)
    → Holds d.trees e → Holds d.trees l → tree_at d.trees e ≡ Two HEq (tree_at d.trees a) (tree_at d.trees b) → tree_at d.trees l ≡ Two HEq (tree_at d.trees u) (tree_at d.trees v) → IsInstanceAt d env e l n
equal_made d env a u b v n e l p m s t w he hl q r = record {
  env_held = p.env_held;
  open_held = he;
  left_held = hl;
  sort = inr (ap sort_of q);
  own = subst (λ (z : Tree). above_params z ≤ length d.task.params) (sym q) (omega (arith, p.own, m.own));
  order = p.order;
  at = subst (λ (z : Tree). IsAt d.task (types_for (trees_at d.trees env)) (trees_at d.trees env) z (tree_at d.trees l) n) (sym q)
      (subst (λ (z : Tree). IsAt d.task (types_for (trees_at d.trees env)) (trees_at d.trees env) (Two HEq (tree_at d.trees a) (tree_at d.trees b)) z n) (sym r) (record {
        around = p.at.around;
        shape = record { typed = (((s, t), tt), w, p.at.shape.typed, m.at.shape.typed); ground = (p.at.shape.ground, m.at.shape.ground); above = omega (arith, p.at.shape.above, m.at.shape.above) };
        is = cc (p.at.is, m.at.is);
      }));
}

-- an equation over links
pub equal_link : (d d1 d2 d3 : DraftTree) (x : Extends d d1) (y : Extends d1 d2) (z : Extends d2 d3) (env : List TermId) (left u v : TermId) (n : ℕ) (one two made : Linked)
    → IsLinkOf d env u n (tree_at d.trees one.image) one → IsLinkOf d env v n (tree_at d.trees two.image) two → IsFormulaAt d left → tree_at d.trees left ≡ Two HEq (tree_at d.trees u) (tree_at d.trees v)
    → Holds d1.trees made.image → tree_at d1.trees made.image ≡ Two HEq (tree_at d.trees one.image) (tree_at d.trees two.image)
    → Holds d2.trees made.right → tree_at d2.trees made.right ≡ Two HEq (tree_at d1.trees one.right) (tree_at d1.trees two.right)
    → Shows d3 made.alike (tree_at d2.trees left) (tree_at d2.trees made.right) → IsLinkOf d3 env left n (Two HEq (tree_at d.trees one.image) (tree_at d.trees two.image)) made
equal_link d d1 d2 d3 x y z env left u v n one two made k m f q hi ei hr er s =
    let xy = Extends_trans d d1 d2 x y in
    let xyz = Extends_trans d d2 d3 xy z in
    let g : IsGroundFormula d.task (Two HEq (tree_at d.trees u) (tree_at d.trees v)) = subst (IsGroundFormula d.task) q f.ground in
    let i0 : sort_of (tree_at d.trees one.image) ≡ Term = link_term d env u n (tree_at d.trees one.image) one k g.typed.0.0.0 in
    let j0 : sort_of (tree_at d.trees two.image) ≡ Term = link_term d env v n (tree_at d.trees two.image) two m g.typed.0.0.1 in
    let p2 = place_later d d2 xy env one.image one.right n k.place in
    let m2 = place_later d d2 xy env two.image two.right n m.place in
    let ti : tree_at d2.trees made.image ≡ Two HEq (tree_at d2.trees one.image) (tree_at d2.trees two.image) =
    tree_later d1 d2 y made.image hi ∙ ei ∙ cc (tree_later d d2 xy one.image k.place.open_held, tree_later d d2 xy two.image m.place.open_held) in
    let tr : tree_at d2.trees made.right ≡ Two HEq (tree_at d2.trees one.right) (tree_at d2.trees two.right) =
    er ∙ cc (tree_later d1 d2 y one.right (held_later d d1 x one.right k.place.left_held), tree_later d1 d2 y two.right (held_later d d1 x two.right m.place.left_held)) in
    let i2 : sort_of (tree_at d2.trees one.image) ≡ Term = ap sort_of (tree_later d d2 xy one.image k.place.open_held) ∙ i0 in
    let j2 : sort_of (tree_at d2.trees two.image) ≡ Term = ap sort_of (tree_later d d2 xy two.image m.place.open_held) ∙ j0 in
    let w0 : type_of (tree_at d.trees one.image) ≡ type_of (tree_at d.trees two.image) = sym (place_type d env one.image one.right n k.place) ∙ k.type ∙ g.typed.1 ∙ sym m.type ∙ place_type d env two.image two.right n m.place in
    let w : type_of (tree_at d2.trees one.image) ≡ type_of (tree_at d2.trees two.image) = ap type_of (tree_later d d2 xy one.image k.place.open_held) ∙ w0 ∙ ap type_of (sym (tree_later d d2 xy two.image m.place.open_held)) in
    let w2 = equal_made d2 env one.image one.right two.image two.right n made.image made.right p2 m2 i2 j2 w (held_later d1 d2 y made.image hi) hr ti tr in
    let tl : tree_at d3.trees left ≡ Two HEq (tree_at d.trees u) (tree_at d.trees v) = tree_later d d3 xyz left f.held ∙ q in
    let tr3 : tree_at d3.trees made.right ≡ Two HEq (tree_at d2.trees one.right) (tree_at d2.trees two.right) = tree_later d2 d3 z made.right hr ∙ tr in
    record {
      is = tree_later d2 d3 z made.image (held_later d1 d2 y made.image hi) ∙ tree_later d1 d2 y made.image hi ∙ ei;
      place = place_later d2 d3 z env made.image made.right n w2;
      sort = ap sort_of tr3 ∙ ap sort_of (sym tl);
      type = ap type_of tr3 ∙ ap type_of (sym tl);
      shows = subst (λ (w : Tree). Shows d3 made.alike w (tree_at d3.trees made.right)) (tree_later d d2 xy left f.held ∙ sym (tree_later d d3 xyz left f.held))
          (subst (λ (w : Tree). Shows d3 made.alike (tree_at d2.trees left) w) (sym (tree_later d2 d3 z made.right hr)) s);
    }

-- an instance of an equation is one
pub equal_instance : (d : DraftTree) (env : List TermId) (e l : TermId) (n : ℕ) (a b : TermId) → IsInstanceAt d env e l n → tree_at d.trees e ≡ Two HEq (tree_at d.trees a) (tree_at d.trees b)
    → tree_at d.trees l ≡ Two HEq (inst_many (tree_at d.trees a) (trees_at d.trees env)) (inst_many (tree_at d.trees b) (trees_at d.trees env))
equal_instance d env e l n a b p q = p.at.is ∙ ap (λ (z : Tree). inst_many z (trees_at d.trees env)) q

-- ---- variables and parameters are images of themselves
module _ (f : Tree → Tree) (others : (z : Tree) → IsOtherHead (head_of z) → f z ≡ z) (d : DraftTree) (env : List TermId) (e l : TermId) (n : ℕ) (p : IsInstanceAt d env e l n) where
  typed_e : (z : Tree) → tree_at d.trees e ≡ z → IsOpenUnder d.task (types_for (trees_at d.trees env)) z n
  typed_e z q = subst (λ (w : Tree). IsOpenUnder d.task (types_for (trees_at d.trees env)) w n) q p.at.shape

  same_link : tree_at d.trees e ≡ over_images f (tree_at d.trees e) → IsLinkOf d env l n (over_images f (tree_at d.trees e)) (record { image = e; right = l; alike = alike.Same })
  same_link q = record { is = q; place = p; sort = refl; type = refl; shows = refl }

  pub bound_link : (i : ℕ) (a : Tree) → tree_at d.trees e ≡ One (HBound i) a → IsLinkOf d env l n (over_images f (tree_at d.trees e)) (record { image = e; right = l; alike = alike.Same })
  bound_link i a q =
      let o = typed_e (One (HBound i) a) q in
      same_link (q ∙ ap (One (HBound i)) (sym (others_type f others a (typed_sorted (of_task d.task) (types_for (trees_at d.trees env)) a o.typed.2) (inl o.typed.0.0))) ∙ ap (over_images f) (sym q))

  pub param_link : (i : ℕ) (a : Tree) → tree_at d.trees e ≡ One (HParam i) a → IsLinkOf d env l n (over_images f (tree_at d.trees e)) (record { image = e; right = l; alike = alike.Same })
  param_link i a q =
      let o = typed_e (One (HParam i) a) q in
      same_link (q ∙ ap (One (HParam i)) (sym (others_type f others a (typed_sorted (of_task d.task) (types_for (trees_at d.trees env)) a o.typed.2) (inl o.typed.0))) ∙ ap (over_images f) (sym q))
