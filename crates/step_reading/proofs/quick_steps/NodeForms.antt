-- Nodes that are no function or no connective, and lists of one term.
use Rattle.std.proofs.Common.{◌≡◌, ℕ, List, [], ◌∷◌, length, get_or, refl, sym, ap, ◌∙◌}
use Rattle.trees.specs.declared.TermId.{TermId}
use Rattle.trees.specs.declared.Node.{Node}
use Rattle.trees.specs.declared.Node.TheVariants as node
use Rattle.trees.specs.declared.Op.{Op}
use Rattle.trees.specs.declared.Op.TheVariants.{And}
use Rattle.trees.specs.Tree.{Tree, Two, Three, HFun, HJoin}
use Rattle.trees.specs.Node.{trees_at, node_tree}
use Rattle.tasks.specs.Conjunctions.{conjunction}

-- what is no function isn't one on arguments
pub no_function : (s : List Tree) (n : Node) (f : ℕ) (a b c : Tree) → ((k : ℕ) (x y z : TermId) → n ≡ node.Fun k x y z → ⊥) → node_tree s n ≡ Three (HFun f) a b c → ⊥
no_function s (node.Fun k x y z) f a b c other q = other k x y z refl
no_function s _ f a b c other q = cc

no_join : (s : List Tree) (n : Node) (a b : Tree) → ((op : Op) (x y : TermId) → n ≡ node.Join op x y → ⊥) → node_tree s n ≡ Two (HJoin And) a b → ⊥
no_join s (node.Join op x y) a b other q = other op x y refl
no_join s _ a b other q = cc

-- what is no connective is no conjunction of more than one formula
pub no_conjunction : (s : List Tree) (n : Node) (ids rest : List TermId) (first : TermId) → ids ≡ first ∷ rest → (length rest ≡ 0 → ⊥) → ((op : Op) (x y : TermId) → n ≡ node.Join op x y → ⊥) → node_tree s n ≡ conjunction (trees_at s ids) → ⊥
no_conjunction s n ids [] first q some other r = some refl
no_conjunction s n ids (i ∷ rest) first q some other r = no_join s n _ _ other (r ∙ ap (λ is. conjunction (trees_at s is)) q)

-- the first of a list of one
pub one_long : (ts : List TermId) (t : TermId) → ts ≡ t ∷ [] → length ts ≡ 1
one_long ts t q = ap length q

pub one_first : (ts : List TermId) (t : TermId) → ts ≡ t ∷ [] → t ≡ get_or ts 0 t
one_first ts t q = sym (ap (λ (is : List TermId). get_or is 0 t) q)
