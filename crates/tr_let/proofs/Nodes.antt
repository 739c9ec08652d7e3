-- The rule at a node of a store.
use Rattle.std.proofs.Common.{◌≡◌, List, refl, sym, ap, subst, ◌∙◌}
use Rattle.trees.specs.declared.TermId.{TermId}
use Rattle.trees.specs.declared.Node.{Node}
use Rattle.trees.specs.declared.Node.TheVariants.{Let}
use Rattle.trees.specs.Tree.{Tree, Two, HLet}
use Rattle.trees.specs.Node.{tree_at, node_tree}
use Rattle.trees.specs.Sorts.{sort_of}
use Rattle.trees.specs.declared.Sort.TheVariants.{Term}
use Rattle.tasks.specs.Vocabulary.{Vocabulary}
use Rattle.walking.specs.rule_rewriting.Rules.{HasTypingSomewhere}
use Rattle.walking.specs.images.typing_laws.HasTyping.{HasTyping}
use Rattle.tr_let.specs.LetRule.{let_rule}

node_stays : (s : List Tree) (n : Node) → ((a b : TermId) → n ≡ Let a b → ⊥) → node_tree s n ≡ let_rule (node_tree s n)
node_stays s (Let a b) h = absurd (h a b refl)
node_stays s _ h = refl

module _ (s t : List Tree) (q : t ≡ s) (e : TermId) where
  -- any node but a `let` stays
  pub other_stays : (n : Node) → tree_at t e ≡ node_tree t n → ((a b : TermId) → n ≡ Let a b → ⊥) → tree_at s e ≡ let_rule (tree_at s e)
  other_stays n p h = let r : tree_at s e ≡ node_tree s n = subst (λ (z : List Tree). tree_at z e ≡ node_tree z n) q p in r ∙ node_stays s n h ∙ ap let_rule (sym r)

  pub let_node : (a b : TermId) → tree_at t e ≡ Two HLet (tree_at t a) (tree_at t b) → tree_at s e ≡ Two HLet (tree_at s a) (tree_at s b)
  let_node a b p = subst (λ (z : List Tree). tree_at z e ≡ Two HLet (tree_at z a) (tree_at z b)) q p

-- the value of a typed `let` is a term
pub value_term : (v : Vocabulary) (e a b : Tree) → e ≡ Two HLet a b → HasTypingSomewhere v e → sort_of a ≡ Term
value_term v e a b q x = let y = subst (HasTyping v x.0) q x.1 in y.0.0.0
