-- Images of trees in a store, and what is remembered of them.
use Rattle.std.specs.Prelude.{◌≡◌, ℕ, ◌<◌, nat_eq, List, length, get_or, Some}
use Rattle.indexmap.specs.IndexMap.{IndexMap, get}
use Rattle.trees.specs.declared.TermId.{TermId}
use Rattle.trees.specs.Tree.{Tree, Leaf, HEnd}
use Rattle.trees.specs.Node.{tree_at, Holds}
use Rattle.tasks.specs.Vocabulary.{Vocabulary}
use Rattle.images.specs.Images.{image}
use Rattle.images.specs.typing_laws.HasTyping.{HasTyping, IsTypedRule, over_parts}

-- a rule for nodes, with a vocabulary over which it keeps typing
pub record RuleOver : Type 0 where
  pub rule : Tree → Tree
  pub vocabulary : Vocabulary

abbrev pub KeepsItsTyping : RuleOver → Type 0
KeepsItsTyping r = IsTypedRule r.vocabulary r.rule

-- a tree has its typing over the rule's vocabulary, under some binders
abbrev pub IsTypedSomewhere : RuleOver → Tree → Type 0
IsTypedSomewhere r e = (types : List Tree) × HasTyping r.vocabulary types e

-- each remembered number is that of the image of the tree
abbrev pub AreImages : {S : Type 0} → RuleOver → List Tree → IndexMap ℕ TermId S → Type 0
AreImages r s m = (k : ℕ) (v : TermId) → get nat_eq m k ≡ Some v
    → (k < length s) × (Holds s v × (tree_at s v ≡ image r.rule (get_or s k (Leaf HEnd))))

-- what an image asks for: the rule is ready, the number is held, its tree is typed, and what is
-- remembered is right
pub record CanImage {S : Type 0} (r : RuleOver) (ready : Type 0) (s : List Tree)
    (m : IndexMap ℕ TermId S) (e : TermId) : Type 0 where
  pub is_ready : ready
  pub held : Holds s e
  pub typed : IsTypedSomewhere r (tree_at s e)
  pub known : AreImages r s m

-- what it gives: the number of the image; and what is remembered stays right
pub record IsImaged {S : Type 0} (r : RuleOver) (e : Tree) (s : List Tree) (m : IndexMap ℕ TermId S)
    (id : TermId) : Type 0 where
  pub held : Holds s id
  pub is : tree_at s id ≡ image r.rule e
  pub known : AreImages r s m

-- what the node over the images of its parts gives: its number; and what is remembered stays right
pub record IsOverParts {S : Type 0} (r : RuleOver) (e : Tree) (s : List Tree)
    (m : IndexMap ℕ TermId S) (id : TermId) : Type 0 where
  pub held : Holds s id
  pub is : tree_at s id ≡ over_parts r.rule e
  pub known : AreImages r s m
