-- The nodes of expressions that have parts.
use Rattle.std.proofs.Common.{◌≡◌, ℕ, List, refl}
use Rattle.trees.specs.declared.Op.{Op}
use Rattle.trees.specs.declared.TermId.{TermId}
use Rattle.trees.specs.declared.Node.{Node}
use Rattle.trees.specs.declared.Node.TheVariants as node
use Rattle.trees.specs.Tree.{Tree}
use Rattle.trees.specs.Node.{node_tree}
use Rattle.tasks.specs.Task.{TaskTree}
use Rattle.agreement.specs.Agreement.{ArePartsOf}
use Rattle.agreement.proofs.PartLists.{Pairs}

pub no_parts : (t : TaskTree) (k : ℕ) (s : List Tree) (n : Node) (r : Tree) (ps : Pairs) → ArePartsOf t k (node_tree s n) r ps
    → ((a : TermId) → n ≡ node.Not a → ⊥)
    → ((o : Op) (a b : TermId) → n ≡ node.Join o a b → ⊥)
    → ((a b : TermId) → n ≡ node.Eq a b → ⊥)
    → ((a b c : TermId) → n ≡ node.If a b c → ⊥)
    → ((a b : TermId) → n ≡ node.Forall a b → ⊥)
    → ((a b : TermId) → n ≡ node.Exists a b → ⊥)
    → ((a b : TermId) → n ≡ node.Let a b → ⊥)
    → ((f : ℕ) (a b c : TermId) → n ≡ node.Fun f a b c → ⊥)
    → ((f : ℕ) (a b : TermId) → n ≡ node.Pred f a b → ⊥)
    → ((a b : TermId) → n ≡ node.Case a b → ⊥) → ⊥
no_parts t k s (node.Not a) r ps x h1 h2 h3 h4 h5 h6 h7 h8 h9 h10 = h1 a refl
no_parts t k s (node.Join o a b) r ps x h1 h2 h3 h4 h5 h6 h7 h8 h9 h10 = h2 o a b refl
no_parts t k s (node.Eq a b) r ps x h1 h2 h3 h4 h5 h6 h7 h8 h9 h10 = h3 a b refl
no_parts t k s (node.If a b c) r ps x h1 h2 h3 h4 h5 h6 h7 h8 h9 h10 = h4 a b c refl
no_parts t k s (node.Forall a b) r ps x h1 h2 h3 h4 h5 h6 h7 h8 h9 h10 = h5 a b refl
no_parts t k s (node.Exists a b) r ps x h1 h2 h3 h4 h5 h6 h7 h8 h9 h10 = h6 a b refl
no_parts t k s (node.Let a b) r ps x h1 h2 h3 h4 h5 h6 h7 h8 h9 h10 = h7 a b refl
no_parts t k s (node.Fun f a b c) r ps x h1 h2 h3 h4 h5 h6 h7 h8 h9 h10 = h8 f a b c refl
no_parts t k s (node.Pred f a b) r ps x h1 h2 h3 h4 h5 h6 h7 h8 h9 h10 = h9 f a b refl
no_parts t k s (node.Case a b) r ps x h1 h2 h3 h4 h5 h6 h7 h8 h9 h10 = h10 a b refl
no_parts t k s (node.TyVar j) r ps x h1 h2 h3 h4 h5 h6 h7 h8 h9 h10 = absurd x
no_parts t k s (node.TyRigid j) r ps x h1 h2 h3 h4 h5 h6 h7 h8 h9 h10 = absurd x
no_parts t k s (node.TyApp j a) r ps x h1 h2 h3 h4 h5 h6 h7 h8 h9 h10 = absurd x
no_parts t k s node.End r ps x h1 h2 h3 h4 h5 h6 h7 h8 h9 h10 = absurd x
no_parts t k s (node.Cell a b) r ps x h1 h2 h3 h4 h5 h6 h7 h8 h9 h10 = absurd x
no_parts t k s (node.Bound i a) r ps x h1 h2 h3 h4 h5 h6 h7 h8 h9 h10 = absurd x
no_parts t k s (node.Param i a) r ps x h1 h2 h3 h4 h5 h6 h7 h8 h9 h10 = absurd x
no_parts t k s (node.Num z) r ps x h1 h2 h3 h4 h5 h6 h7 h8 h9 h10 = absurd x
no_parts t k s node.True r ps x h1 h2 h3 h4 h5 h6 h7 h8 h9 h10 = absurd x
no_parts t k s node.False r ps x h1 h2 h3 h4 h5 h6 h7 h8 h9 h10 = absurd x
no_parts t k s (node.Arm a b) r ps x h1 h2 h3 h4 h5 h6 h7 h8 h9 h10 = absurd x
no_parts t k s (node.PatAny a) r ps x h1 h2 h3 h4 h5 h6 h7 h8 h9 h10 = absurd x
no_parts t k s (node.PatVar a) r ps x h1 h2 h3 h4 h5 h6 h7 h8 h9 h10 = absurd x
no_parts t k s (node.PatCon j a b c) r ps x h1 h2 h3 h4 h5 h6 h7 h8 h9 h10 = absurd x
no_parts t k s (node.PatAlias a) r ps x h1 h2 h3 h4 h5 h6 h7 h8 h9 h10 = absurd x
