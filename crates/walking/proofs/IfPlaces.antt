-- `if`s by their numbers in a draft, at an environment and over links of their parts.
use Rattle.std.proofs.Common.{◌≡◌, ℕ, ◌≤◌, inr, List, [], length, sym, subst, ◌∙◌, arith}
use Rattle.trees.specs.declared.TermId.{TermId}
use Rattle.trees.specs.Tree.{Tree, Three, HIf, above_params}
use Rattle.trees.specs.Node.{tree_at, trees_at, Holds}
use Rattle.trees.specs.Sorts.{Fits, sort_of, type_of, IsExpression}
use Rattle.tasks.specs.Vocabulary.{of_task}
use Rattle.tasks.specs.Typing.{TypedUnder}
use Rattle.evidence.specs.Drafts.{DraftTree, Extends}
use Rattle.images.specs.Open.{IsAt}
use Rattle.images.proofs.Images.{expression_sort}
use Rattle.congruence.specs.Alike.{IsClosedAt, ArePair}
use Rattle.congruence.proofs.Later.{tree_later}
use Rattle.walking.specs.declared.linked.Linked.{Linked}
use Rattle.walking.specs.Places.{types_for, IsInstanceAt, IsLinkOf}
use Rattle.walking.proofs.Parts.{three_first, three_second, three_third}
use Rattle.walking.proofs.Places.{place_sort}
use Rattle.walking.proofs.EqualPlaces.{place_type}

-- ---- the parts of an `if` at an environment
module _ (d : DraftTree) (env : List TermId) (e left : TermId) (n : ℕ) (p : IsInstanceAt d env e left n) (c a b x y z : TermId) (qe : tree_at d.trees e ≡ Three HIf (tree_at d.trees c) (tree_at d.trees a) (tree_at d.trees b))
    (ql : tree_at d.trees left ≡ Three HIf (tree_at d.trees x) (tree_at d.trees y) (tree_at d.trees z)) where
  abbrev E : List Tree
  E = trees_at d.trees env

  at_if : IsAt d.task (types_for E) E (Three HIf (tree_at d.trees c) (tree_at d.trees a) (tree_at d.trees b)) (tree_at d.trees left) n
  at_if = subst (λ (t : Tree). IsAt d.task (types_for E) E t (tree_at d.trees left) n) qe p.at

  if_own : above_params (Three HIf (tree_at d.trees c) (tree_at d.trees a) (tree_at d.trees b)) ≤ length d.task.params
  if_own = subst (λ (t : Tree). above_params t ≤ length d.task.params) qe p.own

  pub if_first : Holds d.trees c → Holds d.trees x → IsInstanceAt d env c x n
  if_first hc hx = record {
    env_held = p.env_held;
    open_held = hc;
    left_held = hx;
    sort = inr at_if.shape.typed.0.0;
    own = let o = if_own in omega (arith, o);
    order = p.order;
    at = three_first d.task (types_for E) E n HIf (tree_at d.trees c) (tree_at d.trees a) (tree_at d.trees b) (tree_at d.trees left) (tree_at d.trees x) (tree_at d.trees y) (tree_at d.trees z) at_if ql;
  }

  pub if_second : Holds d.trees a → Holds d.trees y → IsInstanceAt d env a y n
  if_second ha hy = record {
    env_held = p.env_held;
    open_held = ha;
    left_held = hy;
    sort = at_if.shape.typed.0.1;
    own = let o = if_own in omega (arith, o);
    order = p.order;
    at = three_second d.task (types_for E) E n HIf (tree_at d.trees c) (tree_at d.trees a) (tree_at d.trees b) (tree_at d.trees left) (tree_at d.trees x) (tree_at d.trees y) (tree_at d.trees z) at_if ql;
  }

  pub if_third : Holds d.trees b → Holds d.trees z → IsInstanceAt d env b z n
  if_third hb hz = record {
    env_held = p.env_held;
    open_held = hb;
    left_held = hz;
    sort = subst IsExpression (sym at_if.shape.typed.0.2) at_if.shape.typed.0.1;
    own = let o = if_own in omega (arith, o);
    order = p.order;
    at = three_third d.task (types_for E) E n HIf (tree_at d.trees c) (tree_at d.trees a) (tree_at d.trees b) (tree_at d.trees left) (tree_at d.trees x) (tree_at d.trees y) (tree_at d.trees z) at_if ql;
  }

-- what a link made has the sort and type of what it was made of
pub image_sort : (d : DraftTree) (env : List TermId) (l : TermId) (n : ℕ) (e : Tree) (m : Linked) → IsLinkOf d env l n e m → sort_of (tree_at d.trees m.image) ≡ sort_of (tree_at d.trees l)
image_sort d env l n e m k = sym (place_sort d env m.image m.right n k.place) ∙ k.sort

pub image_type : (d : DraftTree) (env : List TermId) (l : TermId) (n : ℕ) (e : Tree) (m : Linked) → IsLinkOf d env l n e m → type_of (tree_at d.trees m.image) ≡ type_of (tree_at d.trees l)
image_type d env l n e m k = sym (place_type d env m.image m.right n k.place) ∙ k.type

-- ---- an `if` over links of its parts
module _ (d : DraftTree) (env : List TermId) (whole c a b : TermId) (n : ℕ) (w : IsClosedAt d whole) (q : tree_at d.trees whole ≡ Three HIf (tree_at d.trees c) (tree_at d.trees a) (tree_at d.trees b)) (one two three : Linked)
    (k : IsLinkOf d env c n (tree_at d.trees one.image) one) (l : IsLinkOf d env a n (tree_at d.trees two.image) two) (m : IsLinkOf d env b n (tree_at d.trees three.image) three) where
  whole_typed : TypedUnder (of_task d.task) [] (Three HIf (tree_at d.trees c) (tree_at d.trees a) (tree_at d.trees b))
  whole_typed = subst (TypedUnder (of_task d.task) []) q w.ground.typed

  pub image_fits : Fits (Three HIf (tree_at d.trees one.image) (tree_at d.trees two.image) (tree_at d.trees three.image))
  image_fits = (
    image_sort d env c n (tree_at d.trees one.image) one k ∙ whole_typed.0.0,
    l.place.sort,
    image_sort d env b n (tree_at d.trees three.image) three m ∙ whole_typed.0.2 ∙ sym (image_sort d env a n (tree_at d.trees two.image) two l),
  )

  pub right_fits : Fits (Three HIf (tree_at d.trees one.right) (tree_at d.trees two.right) (tree_at d.trees three.right))
  right_fits = (k.sort ∙ whole_typed.0.0, subst IsExpression (sym l.sort) whole_typed.0.1, m.sort ∙ whole_typed.0.2 ∙ sym l.sort)

  image_types : type_of (tree_at d.trees two.image) ≡ type_of (tree_at d.trees three.image)
  image_types = image_type d env a n (tree_at d.trees two.image) two l ∙ whole_typed.1 ∙ sym (image_type d env b n (tree_at d.trees three.image) three m)

  pub if_made : (e r : TermId) → Holds d.trees e → Holds d.trees r → tree_at d.trees e ≡ Three HIf (tree_at d.trees one.image) (tree_at d.trees two.image) (tree_at d.trees three.image)
      → tree_at d.trees r ≡ Three HIf (tree_at d.trees one.right) (tree_at d.trees two.right) (tree_at d.trees three.right) → IsInstanceAt d env e r n
  if_made e r he hr qe qr =
      let F = trees_at d.trees env in
      record {
        env_held = k.place.env_held;
        open_held = he;
        left_held = hr;
        sort = subst (λ (z : Tree). IsExpression (sort_of z)) (sym qe) (subst IsExpression (sym (expression_sort (tree_at d.trees two.image) l.place.sort)) l.place.sort);
        own = subst (λ (z : Tree). above_params z ≤ length d.task.params) (sym qe) (omega (arith, k.place.own, l.place.own, m.place.own));
        order = k.place.order;
        at = subst (λ (z : Tree). IsAt d.task (types_for F) F z (tree_at d.trees r) n) (sym qe)
            (subst (λ (z : Tree). IsAt d.task (types_for F) F (Three HIf (tree_at d.trees one.image) (tree_at d.trees two.image) (tree_at d.trees three.image)) z n) (sym qr) (record {
              around = k.place.at.around;
              shape = record {
                typed = (image_fits, image_types, k.place.at.shape.typed, l.place.at.shape.typed, m.place.at.shape.typed);
                ground = (k.place.at.shape.ground, l.place.at.shape.ground, m.place.at.shape.ground);
                above = omega (arith, k.place.at.shape.above, l.place.at.shape.above, m.place.at.shape.above);
              };
              is = cc (k.place.at.is, l.place.at.is, m.place.at.is);
            }));
      }

-- ---- in a later draft
pub if_later : (d d1 : DraftTree) (x : Extends d d1) (id a b c : TermId) → Holds d.trees id → Holds d.trees a → Holds d.trees b → Holds d.trees c → tree_at d.trees id ≡ Three HIf (tree_at d.trees a) (tree_at d.trees b) (tree_at d.trees c)
    → tree_at d1.trees id ≡ Three HIf (tree_at d1.trees a) (tree_at d1.trees b) (tree_at d1.trees c)
if_later d d1 x id a b c hi ha hb hc q = tree_later d d1 x id hi ∙ q ∙ cc (tree_later d d1 x a ha, tree_later d d1 x b hb, tree_later d d1 x c hc)

-- the two expressions are a pair where their first parts are
pub if_pair : (d : DraftTree) (l r a b : TermId) → ArePair d l a → ArePair d r b → ArePair d a b → ArePair d l r
if_pair d l r a b p q s = record { left = p.left; right = q.left; sort = sym q.sort ∙ s.sort ∙ p.sort; type = sym q.type ∙ s.type ∙ p.type }
