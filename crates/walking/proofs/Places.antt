-- The parts of a place, and a place made of those of its parts.
use Rattle.std.proofs.Common.{◌≡◌, ℕ, ◌≤◌, inr, List, [], ◌∷◌, ◌++◌, length, refl, sym, ap, subst, ◌∙◌, arith}
use Rattle.trees.specs.declared.Op.{Op}
use Rattle.trees.specs.declared.TermId.{TermId}
use Rattle.trees.specs.declared.Sort.TheVariants.{Formula}
use Rattle.trees.specs.Tree.{Tree, Leaf, One, Two, Three, Head, HNot, HJoin, above_params}
use Rattle.trees.specs.Node.{tree_at, trees_at, Holds}
use Rattle.trees.specs.Binding.{inst_many}
use Rattle.trees.specs.Sorts.{sort_of, type_of, IsExpression}
use Rattle.tasks.specs.Vocabulary.{of_task}
use Rattle.congruence.proofs.tasks.typed_trees.instances.Typed.{many_sort}
use Rattle.congruence.specs.kernel.Right.{IsGroundExpression}
use Rattle.tasks.specs.Valid.{IsGroundFormula}
use Rattle.evidence.specs.Drafts.{DraftTree, Extends, IsFormulaAt}
use Rattle.evidence.specs.Laws.{Extends_trans}
use Rattle.images.specs.Images.{image}
use Rattle.congruence.specs.declared.alike.AlikeBy.{AlikeBy}
use Rattle.congruence.specs.declared.alike.AlikeBy.TheVariants as alike
use Rattle.congruence.proofs.Later.{held_later, tree_later}
use Rattle.walking.proofs.PlacesLater.{place_later, link_later}
use Rattle.images.specs.Open.{IsOpenUnder, IsAt}
use Rattle.images.proofs.Environments.{at_open, at_not, at_first, at_second}
use Rattle.walking.specs.declared.linked.Linked.{Linked}
use Rattle.congruence.specs.Alike.{IsClosedAt, ArePair, Shows}
use Rattle.walking.specs.Places.{types_for, some_type, IsInstanceAt, IsLinkOf, over_images}

-- one term more
pub types_more : (env : List Tree) (c : Tree) → types_for (env ++ c ∷ []) ≡ some_type (type_of c) ∷ types_for env
types_more [] c = refl
types_more (t ∷ ts) c = ap (λ (z : List Tree). z ++ some_type (type_of t) ∷ []) (types_more ts c)

module _ (d : DraftTree) (env : List TermId) (e l : TermId) (n : ℕ) (p : IsInstanceAt d env e l n) where
  E : List Tree
  E = trees_at d.trees env

  -- a place is closed, and has the sort and type of the open tree
  pub place_closed : IsClosedAt d l
  place_closed =
      let o = at_open d.task (types_for (trees_at d.trees env)) (trees_at d.trees env) n p.at.around (tree_at d.trees e) p.at.shape in
      let s : sort_of (inst_many (tree_at d.trees e) (trees_at d.trees env)) ≡ sort_of (tree_at d.trees e) = many_sort (of_task d.task) (types_for (trees_at d.trees env)) (trees_at d.trees env) p.at.around.terms (tree_at d.trees e) in
      record {
        held = p.left_held;
        ground = subst (IsGroundExpression d.task) (sym p.at.is) (record { sort = subst IsExpression (sym s) p.sort; typed = o.typed; ground = o.ground });
      }

  pub place_sort : sort_of (tree_at d.trees l) ≡ sort_of (tree_at d.trees e)
  place_sort = ap sort_of p.at.is ∙ many_sort (of_task d.task) (types_for (trees_at d.trees env)) (trees_at d.trees env) p.at.around.terms (tree_at d.trees e)

  -- a link gives a pair
  pub link_pair : (x : Tree) (m : Linked) → IsLinkOf d env l n x m → IsClosedAt d m.right → ArePair d l m.right
  link_pair x m k c = record { left = place_closed; right = c; sort = k.sort; type = k.type }

  -- ---- a negation
  module _ (a u : TermId) (q : tree_at d.trees e ≡ One HNot (tree_at d.trees a)) (ha : Holds d.trees a) (r : tree_at d.trees l ≡ One HNot (tree_at d.trees u)) (hu : Holds d.trees u) where
    node : IsAt d.task (types_for (trees_at d.trees env)) (trees_at d.trees env) (One HNot (tree_at d.trees a)) (tree_at d.trees l) n
    node = subst (λ (z : Tree). IsAt d.task (types_for (trees_at d.trees env)) (trees_at d.trees env) z (tree_at d.trees l) n) q p.at

    pub not_place : IsInstanceAt d env a u n
    not_place = record {
      env_held = p.env_held;
      open_held = ha;
      left_held = hu;
      sort = inr (subst (λ (z : Tree). IsOpenUnder d.task (types_for (trees_at d.trees env)) z n) q p.at.shape).typed.0;
      own = subst (λ (z : Tree). above_params z ≤ length d.task.params) q p.own;
      order = p.order;
      at = at_not d.task (types_for (trees_at d.trees env)) (trees_at d.trees env) n (tree_at d.trees a) (tree_at d.trees l) (tree_at d.trees u) node r;
    }

-- the negation of a place
pub not_made : (d : DraftTree) (env : List TermId) (a u : TermId) (n : ℕ) (e l : TermId) → IsInstanceAt d env a u n → sort_of (tree_at d.trees a) ≡ Formula → Holds d.trees e → Holds d.trees l
    → tree_at d.trees e ≡ One HNot (tree_at d.trees a) → tree_at d.trees l ≡ One HNot (tree_at d.trees u) → IsInstanceAt d env e l n
not_made d env a u n e l p s he hl q r = record {
  env_held = p.env_held;
  open_held = he;
  left_held = hl;
  sort = inr (ap sort_of q);
  own = subst (λ (z : Tree). above_params z ≤ length d.task.params) (sym q) p.own;
  order = p.order;
  at = subst (λ (z : Tree). IsAt d.task (types_for (trees_at d.trees env)) (trees_at d.trees env) z (tree_at d.trees l) n) (sym q)
      (subst (λ (z : Tree). IsAt d.task (types_for (trees_at d.trees env)) (trees_at d.trees env) (One HNot (tree_at d.trees a)) z n) (sym r) (record {
        around = p.at.around;
        shape = record { typed = (s, tt, p.at.shape.typed); ground = p.at.shape.ground; above = p.at.shape.above };
        is = ap (One HNot) p.at.is;
      }));
}

-- the formula under a negation
pub under_formula : (d : DraftTree) (left under : TermId) → IsFormulaAt d left → tree_at d.trees left ≡ One HNot (tree_at d.trees under) → sort_of (tree_at d.trees under) ≡ Formula
under_formula d left under f q = (subst (IsGroundFormula d.task) q f.ground).typed.0

-- a link of a formula is one
pub link_formula : (d : DraftTree) (env : List TermId) (l : TermId) (n : ℕ) (e : Tree) (m : Linked) → IsLinkOf d env l n e m → sort_of (tree_at d.trees l) ≡ Formula → sort_of (tree_at d.trees m.image) ≡ Formula
link_formula d env l n e m k f = sym (place_sort d env m.image m.right n k.place) ∙ k.sort ∙ f

-- the negation over a link
pub not_link : (d d1 d2 d3 : DraftTree) (x : Extends d d1) (y : Extends d1 d2) (z : Extends d2 d3) (env : List TermId) (left under : TermId) (n : ℕ) (part made : Linked)
    → IsLinkOf d env under n (tree_at d.trees part.image) part → IsFormulaAt d left → tree_at d.trees left ≡ One HNot (tree_at d.trees under)
    → Holds d1.trees made.image → tree_at d1.trees made.image ≡ One HNot (tree_at d.trees part.image) → Holds d2.trees made.right → tree_at d2.trees made.right ≡ One HNot (tree_at d1.trees part.right)
    → Shows d3 made.alike (tree_at d2.trees left) (tree_at d2.trees made.right) → IsLinkOf d3 env left n (One HNot (tree_at d.trees part.image)) made
not_link d d1 d2 d3 x y z env left under n part made k f q hi ei hr er s =
    let xy = Extends_trans d d1 d2 x y in
    let xyz = Extends_trans d d2 d3 xy z in
    let s0 : sort_of (tree_at d.trees under) ≡ Formula = under_formula d left under f q in
    let i0 : sort_of (tree_at d.trees part.image) ≡ Formula = link_formula d env under n (tree_at d.trees part.image) part k s0 in
    let p2 = place_later d d2 xy env part.image part.right n k.place in
    let ti : tree_at d2.trees made.image ≡ One HNot (tree_at d2.trees part.image) = tree_later d1 d2 y made.image hi ∙ ei ∙ ap (One HNot) (sym (tree_later d d2 xy part.image k.place.open_held)) in
    let hr1 : Holds d1.trees part.right = held_later d d1 x part.right k.place.left_held in
    let tr : tree_at d2.trees made.right ≡ One HNot (tree_at d2.trees part.right) = er ∙ ap (One HNot) (sym (tree_later d1 d2 y part.right hr1)) in
    let i2 : sort_of (tree_at d2.trees part.image) ≡ Formula = ap sort_of (tree_later d d2 xy part.image k.place.open_held) ∙ i0 in
    let m2 = not_made d2 env part.image part.right n made.image made.right p2 i2 (held_later d1 d2 y made.image hi) hr ti tr in
    let m3 = place_later d2 d3 z env made.image made.right n m2 in
    let tl : tree_at d3.trees left ≡ One HNot (tree_at d.trees under) = tree_later d d3 xyz left f.held ∙ q in
    let tr3 : tree_at d3.trees made.right ≡ One HNot (tree_at d2.trees part.right) = tree_later d2 d3 z made.right hr ∙ tr in
    record {
      is = tree_later d2 d3 z made.image (held_later d1 d2 y made.image hi) ∙ tree_later d1 d2 y made.image hi ∙ ei;
      place = m3;
      sort = ap sort_of tr3 ∙ ap sort_of (sym tl);
      type = ap type_of tr3 ∙ ap type_of (sym tl);
      shows = subst (λ (w : Tree). Shows d3 made.alike w (tree_at d3.trees made.right)) (tree_later d d2 xy left f.held ∙ sym (tree_later d d3 xyz left f.held))
          (subst (λ (w : Tree). Shows d3 made.alike (tree_at d2.trees left) w) (sym (tree_later d2 d3 z made.right hr)) s);
    }

-- the image is the rule at the node over images
pub image_over : (f : Tree → Tree) (e : Tree) → image f e ≡ f (over_images f e)
image_over f (Leaf h) = refl
image_over f (One h a) = refl
image_over f (Two h a b) = refl
image_over f (Three h a b c) = refl

-- a leaf
pub leaf_link : (d : DraftTree) (env : List TermId) (e l : TermId) (n : ℕ) (f : Tree → Tree) (h : Head) → IsInstanceAt d env e l n → tree_at d.trees e ≡ Leaf h → IsLinkOf d env l n (over_images f (tree_at d.trees e)) (record { image = e; right = l; alike = alike.Same })
leaf_link d env e l n f h p q = record { is = q ∙ ap (over_images f) (sym q); place = p; sort = refl; type = refl; shows = refl }

-- a link after a link
pub chain_link : (d1 d2 d3 : DraftTree) (y : Extends d1 d2) (z : Extends d2 d3) (env : List TermId) (left : TermId) (n : ℕ) (e1 e2 : Tree) (parts made : Linked) (w : AlikeBy) → Holds d1.trees left
    → IsLinkOf d1 env left n e1 parts → IsLinkOf d2 env parts.right n e2 made → Shows d3 w (tree_at d2.trees left) (tree_at d2.trees made.right) → IsLinkOf d3 env left n e2 (record { image = made.image; right = made.right; alike = w })
chain_link d1 d2 d3 y z env left n e1 e2 parts made w h k m s =
    let k3 = link_later d1 d3 (Extends_trans d1 d2 d3 y z) env left n e1 parts h k in
    let m3 = link_later d2 d3 z env parts.right n e2 made (held_later d1 d2 y parts.right k.place.left_held) m in
    record {
      is = m3.is;
      place = m3.place;
      sort = m3.sort ∙ k3.sort;
      type = m3.type ∙ k3.type;
      shows = subst (λ (x : Tree). Shows d3 w x (tree_at d3.trees made.right)) (sym (tree_later d2 d3 z left (held_later d1 d2 y left h)))
          (subst (λ (x : Tree). Shows d3 w (tree_at d2.trees left) x) (sym (tree_later d2 d3 z made.right m.place.left_held)) s);
    }

-- ---- connectives
module _ (d : DraftTree) (env : List TermId) (e l : TermId) (n : ℕ) (p : IsInstanceAt d env e l n) (op : Op) (a b u v : TermId) (q : tree_at d.trees e ≡ Two (HJoin op) (tree_at d.trees a) (tree_at d.trees b))
    (r : tree_at d.trees l ≡ Two (HJoin op) (tree_at d.trees u) (tree_at d.trees v)) where
  joined : IsAt d.task (types_for (trees_at d.trees env)) (trees_at d.trees env) (Two (HJoin op) (tree_at d.trees a) (tree_at d.trees b)) (tree_at d.trees l) n
  joined = subst (λ (z : Tree). IsAt d.task (types_for (trees_at d.trees env)) (trees_at d.trees env) z (tree_at d.trees l) n) q p.at

  pub first_place : Holds d.trees a → Holds d.trees u → IsInstanceAt d env a u n
  first_place ha hu = record {
    env_held = p.env_held;
    open_held = ha;
    left_held = hu;
    sort = inr joined.shape.typed.0.0.0;
    own = let o : above_params (Two (HJoin op) (tree_at d.trees a) (tree_at d.trees b)) ≤ length d.task.params = subst (λ (z : Tree). above_params z ≤ length d.task.params) q p.own in omega (arith, o);
    order = p.order;
    at = at_first d.task (types_for (trees_at d.trees env)) (trees_at d.trees env) n (HJoin op) (tree_at d.trees a) (tree_at d.trees b) (tree_at d.trees l) (tree_at d.trees u) (tree_at d.trees v) refl refl joined r;
  }

  pub second_place : Holds d.trees b → Holds d.trees v → IsInstanceAt d env b v n
  second_place hb hv = record {
    env_held = p.env_held;
    open_held = hb;
    left_held = hv;
    sort = inr joined.shape.typed.0.0.1;
    own = let o : above_params (Two (HJoin op) (tree_at d.trees a) (tree_at d.trees b)) ≤ length d.task.params = subst (λ (z : Tree). above_params z ≤ length d.task.params) q p.own in omega (arith, o);
    order = p.order;
    at = at_second d.task (types_for (trees_at d.trees env)) (trees_at d.trees env) n (HJoin op) (tree_at d.trees a) (tree_at d.trees b) (tree_at d.trees l) (tree_at d.trees u) (tree_at d.trees v) refl refl joined r;
  }

-- places joined
pub join_made : (d : DraftTree) (env : List TermId) (op : Op) (a u b v : TermId) (n : ℕ) (e l : TermId) → IsInstanceAt d env a u n → IsInstanceAt d env b v n → sort_of (tree_at d.trees a) ≡ Formula → sort_of (tree_at d.trees b) ≡ Formula
    → Holds d.trees e → Holds d.trees l → tree_at d.trees e ≡ Two (HJoin op) (tree_at d.trees a) (tree_at d.trees b) → tree_at d.trees l ≡ Two (HJoin op) (tree_at d.trees u) (tree_at d.trees v) → IsInstanceAt d env e l n
join_made d env op a u b v n e l p m s t he hl q r = record {
  env_held = p.env_held;
  open_held = he;
  left_held = hl;
  sort = inr (ap sort_of q);
  own = subst (λ (z : Tree). above_params z ≤ length d.task.params) (sym q) (omega (arith, p.own, m.own));
  order = p.order;
  at = subst (λ (z : Tree). IsAt d.task (types_for (trees_at d.trees env)) (trees_at d.trees env) z (tree_at d.trees l) n) (sym q)
      (subst (λ (z : Tree). IsAt d.task (types_for (trees_at d.trees env)) (trees_at d.trees env) (Two (HJoin op) (tree_at d.trees a) (tree_at d.trees b)) z n) (sym r) (record {
        around = p.at.around;
        shape = record { typed = (((s, t), tt), tt, p.at.shape.typed, m.at.shape.typed); ground = (p.at.shape.ground, m.at.shape.ground); above = omega (arith, p.at.shape.above, m.at.shape.above) };
        is = cc (p.at.is, m.at.is);
      }));
}

-- a connective over links
pub join_link : (d d1 d2 d3 : DraftTree) (x : Extends d d1) (y : Extends d1 d2) (z : Extends d2 d3) (env : List TermId) (op : Op) (left u v : TermId) (n : ℕ) (one two made : Linked)
    → IsLinkOf d env u n (tree_at d.trees one.image) one → IsLinkOf d env v n (tree_at d.trees two.image) two → IsFormulaAt d left → tree_at d.trees left ≡ Two (HJoin op) (tree_at d.trees u) (tree_at d.trees v)
    → Holds d1.trees made.image → tree_at d1.trees made.image ≡ Two (HJoin op) (tree_at d.trees one.image) (tree_at d.trees two.image)
    → Holds d2.trees made.right → tree_at d2.trees made.right ≡ Two (HJoin op) (tree_at d1.trees one.right) (tree_at d1.trees two.right)
    → Shows d3 made.alike (tree_at d2.trees left) (tree_at d2.trees made.right) → IsLinkOf d3 env left n (Two (HJoin op) (tree_at d.trees one.image) (tree_at d.trees two.image)) made
join_link d d1 d2 d3 x y z env op left u v n one two made k m f q hi ei hr er s =
    let xy = Extends_trans d d1 d2 x y in
    let xyz = Extends_trans d d2 d3 xy z in
    let g : IsGroundFormula d.task (Two (HJoin op) (tree_at d.trees u) (tree_at d.trees v)) = subst (IsGroundFormula d.task) q f.ground in
    let i0 : sort_of (tree_at d.trees one.image) ≡ Formula = link_formula d env u n (tree_at d.trees one.image) one k g.typed.0.0.0 in
    let j0 : sort_of (tree_at d.trees two.image) ≡ Formula = link_formula d env v n (tree_at d.trees two.image) two m g.typed.0.0.1 in
    let p2 = place_later d d2 xy env one.image one.right n k.place in
    let m2 = place_later d d2 xy env two.image two.right n m.place in
    let ti : tree_at d2.trees made.image ≡ Two (HJoin op) (tree_at d2.trees one.image) (tree_at d2.trees two.image) =
    tree_later d1 d2 y made.image hi ∙ ei ∙ cc (tree_later d d2 xy one.image k.place.open_held, tree_later d d2 xy two.image m.place.open_held) in
    let tr : tree_at d2.trees made.right ≡ Two (HJoin op) (tree_at d2.trees one.right) (tree_at d2.trees two.right) =
    er ∙ cc (tree_later d1 d2 y one.right (held_later d d1 x one.right k.place.left_held), tree_later d1 d2 y two.right (held_later d d1 x two.right m.place.left_held)) in
    let i2 : sort_of (tree_at d2.trees one.image) ≡ Formula = ap sort_of (tree_later d d2 xy one.image k.place.open_held) ∙ i0 in
    let j2 : sort_of (tree_at d2.trees two.image) ≡ Formula = ap sort_of (tree_later d d2 xy two.image m.place.open_held) ∙ j0 in
    let w2 = join_made d2 env op one.image one.right two.image two.right n made.image made.right p2 m2 i2 j2 (held_later d1 d2 y made.image hi) hr ti tr in
    let tl : tree_at d3.trees left ≡ Two (HJoin op) (tree_at d.trees u) (tree_at d.trees v) = tree_later d d3 xyz left f.held ∙ q in
    let tr3 : tree_at d3.trees made.right ≡ Two (HJoin op) (tree_at d2.trees one.right) (tree_at d2.trees two.right) = tree_later d2 d3 z made.right hr ∙ tr in
    record {
      is = tree_later d2 d3 z made.image (held_later d1 d2 y made.image hi) ∙ tree_later d1 d2 y made.image hi ∙ ei;
      place = place_later d2 d3 z env made.image made.right n w2;
      sort = ap sort_of tr3 ∙ ap sort_of (sym tl);
      type = ap type_of tr3 ∙ ap type_of (sym tl);
      shows = subst (λ (w : Tree). Shows d3 made.alike w (tree_at d3.trees made.right)) (tree_later d d2 xy left f.held ∙ sym (tree_later d d3 xyz left f.held))
          (subst (λ (w : Tree). Shows d3 made.alike (tree_at d2.trees left) w) (sym (tree_later d2 d3 z made.right hr)) s);
    }

-- the sides of a connective, where they are named
pub sides_named : (s : Tree) (op : Op) (x y u v : Tree) → s ≡ Two (HJoin op) x y → ((o : Op) (a b : Tree) → s ≡ Two (HJoin o) a b → s ≡ Two (HJoin o) u v) → s ≡ Two (HJoin op) u v
sides_named s op x y u v q f = f op x y q

-- an instance of a connective is one
pub joined_instance : (d : DraftTree) (env : List TermId) (e l : TermId) (n : ℕ) (op : Op) (a b : TermId) → IsInstanceAt d env e l n → tree_at d.trees e ≡ Two (HJoin op) (tree_at d.trees a) (tree_at d.trees b)
    → tree_at d.trees l ≡ Two (HJoin op) (inst_many (tree_at d.trees a) (trees_at d.trees env)) (inst_many (tree_at d.trees b) (trees_at d.trees env))
joined_instance d env e l n op a b p q = p.at.is ∙ ap (λ (z : Tree). inst_many z (trees_at d.trees env)) q
