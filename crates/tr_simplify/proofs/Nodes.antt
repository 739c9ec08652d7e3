-- What the laws make of nodes, by what is known of their parts.
use Rattle.std.proofs.Common.{◌≡◌, ◌⊎◌, inl, inr, Bool, true, false, List, refl, sym, ap, subst, ◌∙◌}
use Rattle.trees.specs.declared.Op.{Op}
use Rattle.trees.specs.declared.TermId.{TermId}
use Rattle.trees.specs.declared.Node.{Node}
use Rattle.trees.specs.declared.Node.TheVariants as node
use Rattle.trees.specs.Tree.{Tree, Leaf, One, Two, Three, HTrue, HFalse, HNot, HJoin, HForall, HExists, HIf}
use Rattle.trees.specs.Node.{tree_at, node_tree}
use Rattle.trees.specs.Binding.{inst}
use Rattle.trees.specs.Facts.{is_open}
use Rattle.tr_simplify.specs.declared.laws.TruthValue.{TruthValue}
use Rattle.tr_simplify.specs.declared.laws.TruthValue.TheVariants as side
use Rattle.tr_simplify.specs.declared.laws.LawResult.{LawResult}
use Rattle.tr_simplify.specs.Laws.{constant, negated_by, law_for, joined_by, if_by, zero_term, quantified_by, IsQuantifiedOver, has_laws, simplify_rule}

-- ---- constants
other_node : (s : List Tree) (n : Node) → (n ≡ node.True → ⊥) → (n ≡ node.False → ⊥) → constant (node_tree s n) ≡ side.Other
other_node s node.True a b = absurd (a refl)
other_node s node.False a b = absurd (b refl)
other_node s _ a b = refl

pub other_constant : (s t : List Tree) → t ≡ s → (id : TermId) (n : Node) → tree_at t id ≡ node_tree t n → (n ≡ node.True → ⊥) → (n ≡ node.False → ⊥) → side.Other ≡ constant (tree_at s id)
other_constant s t q id n p a b = sym (ap constant (subst (λ (z : List Tree). tree_at z id ≡ node_tree z n) q p) ∙ other_node s n a b)

pub known_constant : (s t : List Tree) → t ≡ s → (id : TermId) (e : Tree) → tree_at t id ≡ e → constant e ≡ constant (tree_at s id)
known_constant s t q id e p = ap constant (sym (subst (λ (z : List Tree). tree_at z id ≡ e) q p))

-- ---- laws
pub negated_is : (k : TruthValue) (e a : Tree) → e ≡ One HNot a → k ≡ constant a → negated_by k a ≡ simplify_rule e
negated_is k e a q p = ap (λ (z : TruthValue). negated_by z a) p ∙ sym (ap simplify_rule q)

pub joined_is : (o : LawResult) (op : Op) (k l : TruthValue) (a b e : Tree) → e ≡ Two (HJoin op) a b → k ≡ constant a → l ≡ constant b → o ≡ law_for op k l → joined_by o op k l a b ≡ simplify_rule e
joined_is o op k l a b e q p r s =
    ap (λ (z : LawResult). joined_by z op k l a b) s ∙ ap (λ (z : TruthValue). joined_by (law_for op z l) op z l a b) p
    ∙ ap (λ (z : TruthValue). joined_by (law_for op (constant a) z) op (constant a) z a b) r ∙ sym (ap simplify_rule q)

pub if_is : (k : TruthValue) (c a b e : Tree) → e ≡ Three HIf c a b → k ≡ constant c → if_by k c a b ≡ simplify_rule e
if_is k c a b e q p = ap (λ (z : TruthValue). if_by z c a b) p ∙ sym (ap simplify_rule q)

pub used_is : (e b : Tree) → IsQuantifiedOver e b → is_open 0 b ≡ true → e ≡ simplify_rule e
used_is e b (inl p) u = p.1 ∙ ap (λ (z : Bool). quantified_by z HForall p.0 b) (sym u) ∙ sym (ap simplify_rule p.1)
used_is e b (inr p) u = p.1 ∙ ap (λ (z : Bool). quantified_by z HExists p.0 b) (sym u) ∙ sym (ap simplify_rule p.1)

pub unused_is : (e b : Tree) → IsQuantifiedOver e b → is_open 0 b ≡ false → inst b zero_term ≡ simplify_rule e
unused_is e b (inl p) u = ap (λ (z : Bool). quantified_by z HForall p.0 b) (sym u) ∙ sym (ap simplify_rule p.1)
unused_is e b (inr p) u = ap (λ (z : Bool). quantified_by z HExists p.0 b) (sym u) ∙ sym (ap simplify_rule p.1)

node_stays : (s : List Tree) (n : Node) → ((a : TermId) → n ≡ node.Not a → ⊥) → ((op : Op) (a b : TermId) → n ≡ node.Join op a b → ⊥) → ((a b : TermId) → n ≡ node.Forall a b → ⊥) → ((a b : TermId) → n ≡ node.Exists a b → ⊥)
    → ((a b c : TermId) → n ≡ node.If a b c → ⊥) → node_tree s n ≡ simplify_rule (node_tree s n)
node_stays s (node.Not a) h i j k l = absurd (h a refl)
node_stays s (node.Join op a b) h i j k l = absurd (i op a b refl)
node_stays s (node.Forall a b) h i j k l = absurd (j a b refl)
node_stays s (node.Exists a b) h i j k l = absurd (k a b refl)
node_stays s (node.If a b c) h i j k l = absurd (l a b c refl)
node_stays s _ h i j k l = refl

-- any other node stays
pub other_stays : (s t : List Tree) → t ≡ s → (e : TermId) (n : Node) → tree_at t e ≡ node_tree t n → ((a : TermId) → n ≡ node.Not a → ⊥) → ((op : Op) (a b : TermId) → n ≡ node.Join op a b → ⊥) → ((a b : TermId) → n ≡ node.Forall a b → ⊥)
    → ((a b : TermId) → n ≡ node.Exists a b → ⊥) → ((a b c : TermId) → n ≡ node.If a b c → ⊥) → tree_at s e ≡ simplify_rule (tree_at s e)
other_stays s t q e n p h i j k l =
    let r : tree_at s e ≡ node_tree s n = subst (λ (z : List Tree). tree_at z e ≡ node_tree z n) q p in
    r ∙ node_stays s n h i j k l ∙ ap simplify_rule (sym r)

-- ---- whether there are laws
lawless_node : (s : List Tree) (n : Node) → ((a : TermId) → n ≡ node.Not a → ⊥) → ((op : Op) (a b : TermId) → n ≡ node.Join op a b → ⊥) → ((a b : TermId) → n ≡ node.Forall a b → ⊥) → ((a b : TermId) → n ≡ node.Exists a b → ⊥)
    → ((a b c : TermId) → n ≡ node.If a b c → ⊥) → has_laws (node_tree s n) ≡ false
lawless_node s (node.Not a) h i j k l = absurd (h a refl)
lawless_node s (node.Join op a b) h i j k l = absurd (i op a b refl)
lawless_node s (node.Forall a b) h i j k l = absurd (j a b refl)
lawless_node s (node.Exists a b) h i j k l = absurd (k a b refl)
lawless_node s (node.If a b c) h i j k l = absurd (l a b c refl)
lawless_node s _ h i j k l = refl

pub lawless : (s : List Tree) (e : TermId) (n : Node) → tree_at s e ≡ node_tree s n → ((a : TermId) → n ≡ node.Not a → ⊥) → ((op : Op) (a b : TermId) → n ≡ node.Join op a b → ⊥) → ((a b : TermId) → n ≡ node.Forall a b → ⊥)
    → ((a b : TermId) → n ≡ node.Exists a b → ⊥) → ((a b c : TermId) → n ≡ node.If a b c → ⊥) → false ≡ has_laws (tree_at s e)
lawless s e n p h i j k l = sym (ap has_laws p ∙ lawless_node s n h i j k l)

pub lawless_stays : (e : Tree) → has_laws e ≡ false → e ≡ simplify_rule e
lawless_stays (One HNot a) q = absurd (cc)
lawless_stays (Two (HJoin op) a b) q = absurd (cc)
lawless_stays (Two HForall a b) q = absurd (cc)
lawless_stays (Two HExists a b) q = absurd (cc)
lawless_stays (Three HIf a b c) q = absurd (cc)
lawless_stays _ q = refl
