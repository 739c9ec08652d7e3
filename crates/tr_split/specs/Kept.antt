-- What splitting keeps of a task.
use Rattle.std.specs.Prelude.{List, All}
use Rattle.tasks.specs.Task.{TaskTree}
use Rattle.tasks.specs.Valid.{IsValid}
use Rattle.evidence.specs.Stages.{Gives, Keeps}
use Rattle.tr_split.specs.parts.Kept.{keeps}
use Rattle.tr_split.specs.Goals.{split_equation}

pub split_keeps : (t : TaskTree) (ts : List TaskTree) → IsValid t → Gives split_equation t ts
    → All (Keeps t) ts
split_keeps t ts valid e = keeps t ts valid e
