-- Formulas over the instances of links, and the pairs that links give, in a later draft.
use Rattle.std.proofs.Common.{◌≡◌, ℕ, List, refl, sym, ap, subst, ◌∙◌}
use Rattle.trees.specs.declared.Op.{Op}
use Rattle.trees.specs.declared.TermId.{TermId}
use Rattle.trees.specs.declared.Sort.{Sort}
use Rattle.trees.specs.declared.Sort.TheVariants.{Term, Formula}
use Rattle.trees.specs.Tree.{Tree, One, Two, Head, HNot, HJoin, HEq}
use Rattle.trees.specs.Node.{tree_at, Holds}
use Rattle.trees.specs.Sorts.{sort_of, type_of}
use Rattle.tasks.specs.Valid.{IsGroundFormula}
use Rattle.evidence.specs.Drafts.{DraftTree, Extends, IsFormulaAt}
use Rattle.congruence.specs.Alike.{IsClosedAt, ArePair}
use Rattle.congruence.proofs.Later.{tree_later}
use Rattle.walking.specs.declared.linked.Linked.{Linked}
use Rattle.walking.specs.Places.{IsLinkOf}

pub not_formula : (d : DraftTree) (l a : TermId) → Holds d.trees l → tree_at d.trees l ≡ One HNot (tree_at d.trees a) → IsClosedAt d a → sort_of (tree_at d.trees a) ≡ Formula → IsFormulaAt d l
not_formula d l a h q c s = record { held = h; ground = subst (IsGroundFormula d.task) (sym q) (record { sort = refl; typed = (s, tt, c.ground.typed); ground = c.ground.ground }) }

pub join_formula : (d : DraftTree) (op : Op) (l a b : TermId) → Holds d.trees l → tree_at d.trees l ≡ Two (HJoin op) (tree_at d.trees a) (tree_at d.trees b) → IsClosedAt d a → IsClosedAt d b → sort_of (tree_at d.trees a) ≡ Formula → sort_of (tree_at d.trees b) ≡ Formula → IsFormulaAt d l
join_formula d op l a b h q c e s t = record { held = h; ground = subst (IsGroundFormula d.task) (sym q) (record { sort = refl; typed = (((s, t), tt), tt, c.ground.typed, e.ground.typed); ground = (c.ground.ground, e.ground.ground) }) }

pub equal_formula : (d : DraftTree) (l a b : TermId) → Holds d.trees l → tree_at d.trees l ≡ Two HEq (tree_at d.trees a) (tree_at d.trees b) → IsClosedAt d a → IsClosedAt d b → sort_of (tree_at d.trees a) ≡ Term → sort_of (tree_at d.trees b) ≡ Term → type_of (tree_at d.trees a) ≡ type_of (tree_at d.trees b) → IsFormulaAt d l
equal_formula d l a b h q c e s t w = record { held = h; ground = subst (IsGroundFormula d.task) (sym q) (record { sort = refl; typed = (((s, t), tt), w, c.ground.typed, e.ground.typed); ground = (c.ground.ground, e.ground.ground) }) }

-- a link's instances are a pair
pub link_sides : (d : DraftTree) (env : List TermId) (u : TermId) (n : ℕ) (e : Tree) (one : Linked) → IsLinkOf d env u n e one → IsClosedAt d u → IsClosedAt d one.right → ArePair d u one.right
link_sides d env u n e one k cu c1 = record { left = cu; right = c1; sort = k.sort; type = k.type }

-- the sort of the new instance, by that of the old one in an earlier draft
pub right_sort : (d d1 : DraftTree) (x : Extends d d1) (env : List TermId) (u : TermId) (n : ℕ) (e : Tree) (one : Linked) (s : Sort) → IsLinkOf d1 env u n e one → Holds d.trees u → sort_of (tree_at d.trees u) ≡ s → sort_of (tree_at d1.trees one.right) ≡ s
right_sort d d1 x env u n e one s k h q = k.sort ∙ ap sort_of (tree_later d d1 x u h) ∙ q

module _ (d d1 : DraftTree) (x : Extends d d1) where
  pub one_again : (h : Head) (e : Tree) (a : TermId) → Holds d.trees a → e ≡ One h (tree_at d.trees a) → e ≡ One h (tree_at d1.trees a)
  one_again h e a ha q = q ∙ ap (One h) (sym (tree_later d d1 x a ha))

  pub two_again : (h : Head) (e : Tree) (a b : TermId) → Holds d.trees a → Holds d.trees b → e ≡ Two h (tree_at d.trees a) (tree_at d.trees b) → e ≡ Two h (tree_at d1.trees a) (tree_at d1.trees b)
  two_again h e a b ha hb q = q ∙ sym (cc (tree_later d d1 x a ha, tree_later d d1 x b hb))

  pub sort_again : (a : TermId) (s : Sort) → Holds d.trees a → sort_of (tree_at d.trees a) ≡ s → sort_of (tree_at d1.trees a) ≡ s
  sort_again a s ha q = ap sort_of (tree_later d d1 x a ha) ∙ q
