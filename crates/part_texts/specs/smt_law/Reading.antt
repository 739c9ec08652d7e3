-- Trees as a reader of SMT-LIB takes them: `&&` as `/\`, and `||` as `\/`.
use Rattle.tasks.specs.trees.declared.Op.{Op}
use Rattle.tasks.specs.trees.declared.Op.TheVariants.{And, AndThen, Or, OrElse}
use Rattle.tasks.specs.trees.Tree.{Tree, Leaf, One, Two, Three, Head, HJoin}

abbrev pub read_op : Op → Op
read_op AndThen = And
read_op OrElse = Or
read_op op = op

abbrev pub read_head : Head → Head
read_head (HJoin op) = HJoin (read_op op)
read_head h = h

abbrev pub tree_as_read : Tree → Tree
tree_as_read (Leaf h) = Leaf h
tree_as_read (One h a) = One h (tree_as_read a)
tree_as_read (Two h a b) = Two (read_head h) (tree_as_read a) (tree_as_read b)
tree_as_read (Three h a b c) = Three h (tree_as_read a) (tree_as_read b) (tree_as_read c)
