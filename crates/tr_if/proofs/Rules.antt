-- What the rule makes of a node of a store: of atoms, of conditionals, and of any other.
use Rattle.std.proofs.Common.{◌≡◌, ℕ, List, inl, inr, refl, sym, ap, subst, ◌∙◌}
use Rattle.tasks.specs.trees.declared.TermId.{TermId}
use Rattle.tasks.specs.trees.declared.Node.{Node}
use Rattle.tasks.specs.trees.declared.Node.TheVariants.{Pred, Eq, If}
use Rattle.tasks.specs.trees.declared.Sort.{Sort}
use Rattle.tasks.specs.trees.declared.Sort.TheVariants.{Term, Formula}
use Rattle.tasks.specs.trees.Tree.{Tree, Leaf, One, Two, Three, HPred, HEq, HIf, head_of}
use Rattle.tasks.specs.trees.Node.{tree_at, node_tree}
use Rattle.tasks.specs.trees.Sorts.{sort_of, IsExpression}
use Rattle.tasks.specs.Vocabulary.{Vocabulary}
use Rattle.tasks.specs.Typing.{TypedUnder}
use Rattle.evidence.proofs.images.Images.{expression_sort}
use Rattle.tr_if.specs.conditionals.Conditionals.{implications, cases_over, if_of_sort, if_rule}
use Rattle.tr_if.specs.conditionals.Laws.{is_atom_head}

-- ---- atoms
pub atom_rule : (e : Tree) → is_atom_head (head_of e) → cases_over e (λ u. u) ≡ if_rule e
atom_rule (Leaf h) k = refl
atom_rule (One h a) k = refl
atom_rule (Two (HPred p) a b) k = refl
atom_rule (Two HEq a b) k = refl
atom_rule (Two _ a b) k = absurd k
atom_rule (Three (HPred p) a b c) k = refl
atom_rule (Three HEq a b c) k = refl
atom_rule (Three _ a b c) k = absurd k

module _ (s t : List Tree) (q : t ≡ s) (e : TermId) where
  pub predicate_atom : (p : ℕ) (a b : Tree) → tree_at t e ≡ Two (HPred p) a b → is_atom_head (head_of (tree_at s e))
  predicate_atom p a b r = subst (λ (z : List Tree). is_atom_head (head_of (tree_at z e))) q (subst (λ (z : Tree). is_atom_head (head_of z)) (sym r) tt)

  pub equation_atom : (a b : Tree) → tree_at t e ≡ Two HEq a b → is_atom_head (head_of (tree_at s e))
  equation_atom a b r = subst (λ (z : List Tree). is_atom_head (head_of (tree_at z e))) q (subst (λ (z : Tree). is_atom_head (head_of z)) (sym r) tt)

  -- any other node
  other_node : (n : Node) → ((p : ℕ) (a b : TermId) → n ≡ Pred p a b → ⊥) → ((a b : TermId) → n ≡ Eq a b → ⊥) → ((a b c : TermId) → n ≡ If a b c → ⊥) → node_tree s n ≡ if_rule (node_tree s n)
  other_node (Pred a b c) f g h = absurd (f a b c refl)
  other_node (Eq a b) f g h = absurd (g a b refl)
  other_node (If a b c) f g h = absurd (h a b c refl)
  other_node _ f g h = refl

  pub other_stays : (n : Node) → tree_at t e ≡ node_tree t n → ((p : ℕ) (a b : TermId) → n ≡ Pred p a b → ⊥) → ((a b : TermId) → n ≡ Eq a b → ⊥) → ((a b c : TermId) → n ≡ If a b c → ⊥) → tree_at s e ≡ if_rule (tree_at s e)
  other_stays n r f g h = let w : tree_at s e ≡ node_tree s n = subst (λ (z : List Tree). tree_at z e ≡ node_tree z n) q r in w ∙ other_node n f g h ∙ ap if_rule (sym w)

-- ---- conditionals
module _ (v : Vocabulary) (types : List Tree) where
  if_by_sort : (c a b : Tree) → TypedUnder v types (Three HIf c a b) → (s : Sort) → sort_of (Three HIf c a b) ≡ s → if_rule (Three HIf c a b) ≡ if_of_sort s c a b
  if_by_sort c a b x s q = ap (λ (z : Sort). if_of_sort z c a b) (sym (expression_sort a x.0.1) ∙ q)

  -- a formula
  pub formula_rule : (e c a b : Tree) → e ≡ Three HIf c a b → TypedUnder v types e → sort_of e ≡ Formula → implications c a b ≡ if_rule e
  formula_rule e c a b q x s = sym (if_by_sort c a b (subst (TypedUnder v types) q x) Formula (ap sort_of (sym q) ∙ s)) ∙ ap if_rule (sym q)

  -- a term
  pub term_rule : (e c a b : Tree) → e ≡ Three HIf c a b → TypedUnder v types e → IsExpression (sort_of e) → (sort_of e ≡ Formula → ⊥) → e ≡ if_rule e
  term_rule e c a b q x (inl s) n = q ∙ sym (if_by_sort c a b (subst (TypedUnder v types) q x) Term (ap sort_of (sym q) ∙ s)) ∙ ap if_rule (sym q)
  term_rule e c a b q x (inr s) n = absurd (n s)
