-- The equation of splitting goals, and how deep a formula is split.
use Rattle.std.specs.Prelude.{ℕ, suc, ◌+◌, List, Result, Ok}
use Rattle.tasks.specs.trees.declared.Op.TheVariants.{And, AndThen, Imp}
use Rattle.tasks.specs.trees.Tree.{Tree, Two, Three, HJoin, HForall, HLet, HIf}
use Rattle.tasks.specs.Task.{TaskTree}
use Rattle.tr_split.specs.parts.Split.{split_task}
pub use Rattle.tasks.specs.typed_trees.instances.Instances.{AreParamsBelow}

-- a task for each part of the goal
abbrev pub split_equation : TaskTree → Result (List TaskTree) ℕ
split_equation t = Ok (split_task t)

-- a number that falls from a formula to each formula that is split in its place
abbrev pub splits : Tree → ℕ
splits (Two (HJoin And) a b) = suc (splits a + splits b)
splits (Two (HJoin AndThen) a b) = suc (suc (splits a + splits b))
splits (Two (HJoin Imp) a b) = suc (splits b)
splits (Two HForall ty a) = suc (splits a)
splits (Two HLet t a) = suc (splits a)
splits (Three HIf c a b) = suc (suc (suc (splits a + splits b)))
splits _ = 0
