-- The nodes of terms and formulas.
use Rattle.std.proofs.Common.{◌≡◌, ℕ, ℤ, inl, inr, List, refl}
use Rattle.trees.specs.declared.Op.{Op}
use Rattle.trees.specs.declared.TermId.{TermId}
use Rattle.trees.specs.declared.Node.{Node}
use Rattle.trees.specs.declared.Node.TheVariants as node
use Rattle.trees.specs.declared.Sort.{Sort}
use Rattle.trees.specs.declared.Sort.TheVariants as sort
use Rattle.trees.specs.Tree.{Tree}
use Rattle.trees.specs.Node.{node_tree}
use Rattle.trees.specs.Sorts.{sort_of, IsExpression}

no_expression : (s : Sort) → (s ≡ sort.Term → ⊥) → (s ≡ sort.Formula → ⊥) → IsExpression s → ⊥
no_expression s a b (inl q) = a q
no_expression s a b (inr q) = b q

pub part_node : (s : List Tree) (n : Node) → IsExpression (sort_of (node_tree s n)) → ((a : TermId) → n ≡ node.Not a → ⊥) → ((o : Op) (a b : TermId) → n ≡ node.Join o a b → ⊥) → ((a b : TermId) → n ≡ node.Forall a b → ⊥)
    → ((a b : TermId) → n ≡ node.Exists a b → ⊥) → ((a b : TermId) → n ≡ node.Eq a b → ⊥) → ((f : ℕ) (a b c : TermId) → n ≡ node.Fun f a b c → ⊥) → ((p : ℕ) (a b : TermId) → n ≡ node.Pred p a b → ⊥) → ((a b : TermId) → n ≡ node.Let a b → ⊥)
    → ((a b c : TermId) → n ≡ node.If a b c → ⊥) → ((i : ℕ) (a : TermId) → n ≡ node.Bound i a → ⊥) → ((k : ℕ) (a : TermId) → n ≡ node.Param k a → ⊥) → ((z : ℤ) → n ≡ node.Num z → ⊥) → (n ≡ node.True → ⊥) → (n ≡ node.False → ⊥)
    → ((a b : TermId) → n ≡ node.Case a b → ⊥) → ⊥
part_node s (node.Not a) k h1 h2 h3 h4 h5 h6 h7 h8 h9 h10 h11 h12 h13 h14 h15 = h1 a refl
part_node s (node.Join o a b) k h1 h2 h3 h4 h5 h6 h7 h8 h9 h10 h11 h12 h13 h14 h15 = h2 o a b refl
part_node s (node.Forall a b) k h1 h2 h3 h4 h5 h6 h7 h8 h9 h10 h11 h12 h13 h14 h15 = h3 a b refl
part_node s (node.Exists a b) k h1 h2 h3 h4 h5 h6 h7 h8 h9 h10 h11 h12 h13 h14 h15 = h4 a b refl
part_node s (node.Eq a b) k h1 h2 h3 h4 h5 h6 h7 h8 h9 h10 h11 h12 h13 h14 h15 = h5 a b refl
part_node s (node.Fun f a b c) k h1 h2 h3 h4 h5 h6 h7 h8 h9 h10 h11 h12 h13 h14 h15 = h6 f a b c refl
part_node s (node.Pred p a b) k h1 h2 h3 h4 h5 h6 h7 h8 h9 h10 h11 h12 h13 h14 h15 = h7 p a b refl
part_node s (node.Let a b) k h1 h2 h3 h4 h5 h6 h7 h8 h9 h10 h11 h12 h13 h14 h15 = h8 a b refl
part_node s (node.If a b c) k h1 h2 h3 h4 h5 h6 h7 h8 h9 h10 h11 h12 h13 h14 h15 = h9 a b c refl
part_node s (node.Bound i a) k h1 h2 h3 h4 h5 h6 h7 h8 h9 h10 h11 h12 h13 h14 h15 = h10 i a refl
part_node s (node.Param i a) k h1 h2 h3 h4 h5 h6 h7 h8 h9 h10 h11 h12 h13 h14 h15 = h11 i a refl
part_node s (node.Num z) k h1 h2 h3 h4 h5 h6 h7 h8 h9 h10 h11 h12 h13 h14 h15 = h12 z refl
part_node s node.True k h1 h2 h3 h4 h5 h6 h7 h8 h9 h10 h11 h12 h13 h14 h15 = h13 refl
part_node s node.False k h1 h2 h3 h4 h5 h6 h7 h8 h9 h10 h11 h12 h13 h14 h15 = h14 refl
part_node s (node.Case a b) k h1 h2 h3 h4 h5 h6 h7 h8 h9 h10 h11 h12 h13 h14 h15 = h15 a b refl
part_node s (node.TyVar j) k h1 h2 h3 h4 h5 h6 h7 h8 h9 h10 h11 h12 h13 h14 h15 = no_expression sort.Kind (λ q. cc) (λ q. cc) k
part_node s (node.TyRigid j) k h1 h2 h3 h4 h5 h6 h7 h8 h9 h10 h11 h12 h13 h14 h15 = no_expression sort.Kind (λ q. cc) (λ q. cc) k
part_node s (node.TyApp j a) k h1 h2 h3 h4 h5 h6 h7 h8 h9 h10 h11 h12 h13 h14 h15 = no_expression sort.Kind (λ q. cc) (λ q. cc) k
part_node s node.End k h1 h2 h3 h4 h5 h6 h7 h8 h9 h10 h11 h12 h13 h14 h15 = no_expression sort.List (λ q. cc) (λ q. cc) k
part_node s (node.Cell a b) k h1 h2 h3 h4 h5 h6 h7 h8 h9 h10 h11 h12 h13 h14 h15 = no_expression sort.List (λ q. cc) (λ q. cc) k
part_node s (node.Arm a b) k h1 h2 h3 h4 h5 h6 h7 h8 h9 h10 h11 h12 h13 h14 h15 = no_expression sort.Branch (λ q. cc) (λ q. cc) k
part_node s (node.PatAny a) k h1 h2 h3 h4 h5 h6 h7 h8 h9 h10 h11 h12 h13 h14 h15 = no_expression sort.Pattern (λ q. cc) (λ q. cc) k
part_node s (node.PatVar a) k h1 h2 h3 h4 h5 h6 h7 h8 h9 h10 h11 h12 h13 h14 h15 = no_expression sort.Pattern (λ q. cc) (λ q. cc) k
part_node s (node.PatAlias a) k h1 h2 h3 h4 h5 h6 h7 h8 h9 h10 h11 h12 h13 h14 h15 = no_expression sort.Pattern (λ q. cc) (λ q. cc) k
part_node s (node.PatCon j a b c) k h1 h2 h3 h4 h5 h6 h7 h8 h9 h10 h11 h12 h13 h14 h15 = no_expression sort.Pattern (λ q. cc) (λ q. cc) k
