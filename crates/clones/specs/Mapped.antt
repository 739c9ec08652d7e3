-- The map of a signature to another one: each symbol becomes a symbol, and some type symbols become
-- types (signature morphisms; Why3 manual, "theory cloning").
use Rattle.std.specs.Prelude.{ℕ, Option, Some, None}
use Rattle.trees.specs.Tree.{Tree, Leaf, One, Two, Three, Head, HTyApp, HFun, HPred, HPatCon}
use Rattle.trees.specs.Binding.{inst_types}
use Rattle.tasks.specs.Typing.{members}

-- a type symbol that becomes a type has its arguments in the place of the type's variables
pub record Map : Type 0 where
  pub symbols : ℕ → ℕ
  pub types : ℕ → Option Tree

abbrev pub head_mapped : (ℕ → ℕ) → Head → Head
head_mapped f (HTyApp k) = HTyApp (f k)
head_mapped f (HFun k) = HFun (f k)
head_mapped f (HPred k) = HPred (f k)
head_mapped f (HPatCon k) = HPatCon (f k)
head_mapped f h = h

abbrev pub type_mapped : Option Tree → ℕ → Tree → Tree
type_mapped None j a = One (HTyApp j) a
type_mapped (Some t) j a = inst_types t (members a)

abbrev pub one_mapped : Map → Head → Tree → Tree
one_mapped m (HTyApp k) a = type_mapped (m.types k) (m.symbols k) a
one_mapped m h a = One (head_mapped m.symbols h) a

abbrev pub mapped : Map → Tree → Tree
mapped m (Leaf h) = Leaf h
mapped m (One h a) = one_mapped m h (mapped m a)
mapped m (Two h a b) = Two (head_mapped m.symbols h) (mapped m a) (mapped m b)
mapped m (Three h a b c) = Three (head_mapped m.symbols h) (mapped m a) (mapped m b) (mapped m c)
