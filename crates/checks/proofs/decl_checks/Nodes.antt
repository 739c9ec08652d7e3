-- What holds of each node of a clause holds of the clause.
use Rattle.std.proofs.Common.{◌↔◌, ℕ, Bool, IsTrue, List}
use Rattle.trees.specs.Tree.{Tree, Leaf, One, Two, Three}
use Rattle.trees.specs.Facts.{TyVarsBelow}
use Rattle.tasks.specs.Clauses.{IsFree}
use Rattle.checks.specs.decl_checks.Clauses.{TopHasOwnTypes, StandAtTypes, TopIsFree}
use Rattle.checks.specs.node_tests.Each.{EachNode}

module _ (group : List ℕ) where
  free : (e : Tree) → EachNode (TopIsFree group) e → IsFree group e
  free (Leaf h) n = tt
  free (One h a) n = free a n.1
  free (Two h a b) n = (n.0, free a n.1, free b n.2)
  free (Three h a b c) n = (free a n.1, free b n.2, free c n.3)

  each_free : (e : Tree) → IsFree group e → EachNode (TopIsFree group) e
  each_free (Leaf h) f = tt
  each_free (One h a) f = (tt, each_free a f)
  each_free (Two h a b) f = (f.0, each_free a f.1, each_free b f.2)
  each_free (Three h a b c) f = (tt, each_free a f.0, each_free b f.1, each_free c f.2)

  pub free_each : (e : Tree) (b : Bool) → (IsTrue b ↔ EachNode (TopIsFree group) e) → IsTrue b ↔ IsFree group e
  free_each e b h = (λ t. free e (h.0 t), λ f. h.1 (each_free e f))

module _ (group : List ℕ) (types : Tree) (vars : ℕ) where
  pub stand_each : (e : Tree) → EachNode (TopHasOwnTypes group types vars) e → StandAtTypes group types e
  stand_each (Leaf h) n = tt
  stand_each (One h a) n = stand_each a n.1
  stand_each (Two h a b) n = (n.0, stand_each a n.1, stand_each b n.2)
  stand_each (Three h a b c) n = (stand_each a n.1, stand_each b n.2, stand_each c n.3)

  pub below_each : (e : Tree) → EachNode (TopHasOwnTypes group types vars) e → TyVarsBelow vars e
  below_each (Leaf h) n = n
  below_each (One h a) n = below_each a n.1
  below_each (Two h a b) n = (below_each a n.1, below_each b n.2)
  below_each (Three h a b c) n = (below_each a n.1, below_each b n.2, below_each c n.3)

  pub own_each : (e : Tree) → StandAtTypes group types e → TyVarsBelow vars e → EachNode (TopHasOwnTypes group types vars) e
  own_each (Leaf h) s v = v
  own_each (One h a) s v = (tt, own_each a s v)
  own_each (Two h a b) s v = (s.0, own_each a s.1 v.0, own_each b s.2 v.1)
  own_each (Three h a b c) s v = (tt, own_each a s.0 v.0, own_each b s.1 v.1, own_each c s.2 v.2)
