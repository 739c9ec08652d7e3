-- The transformations, one line each: its equation, and that its tasks keep what is declared.
use Rattle.std.specs.Prelude.{List, All}
use Rattle.tasks.specs.Task.{TaskTree}
use Rattle.tasks.specs.Valid.{IsValid}
use Rattle.evidence.specs.Stages.{Gives, Keeps, TaskEquation, StageEquation, stage_equation}
use Rattle.tr_algebraic.specs.Equation.{algebraic_equation}
use Rattle.tr_algebraic.specs.Kept.{algebraic_task_keeps}
use Rattle.tr_define.specs.Kept.{definitions_equation, definitions_keep, inductives_equation, inductives_keep}
use Rattle.tr_discriminate.specs.Equation.{discriminate_equation}
use Rattle.tr_discriminate.specs.Kept.{discriminate_keeps}
use Rattle.tr_if.specs.Eliminated.{if_equation}
use Rattle.tr_if.specs.Kept.{if_keeps}
use Rattle.tr_inline.specs.Kept.{inline_keeps}
use Rattle.tr_inline.specs.inlining.Inlining.{inline_equation}
use Rattle.tr_introduce.specs.Introduce.{introduce_equation}
use Rattle.tr_introduce.specs.Kept.{introduce_keeps}
use Rattle.tr_let.specs.Kept.{lets_equation, lets_keep}
use Rattle.tr_match.specs.Kept.{matches_equation, matches_keep}
use Rattle.tr_recursion.specs.Kept.{recursions_equation, recursions_keep}
use Rattle.tr_remove.specs.Kept.{remove_keeps}
use Rattle.tr_remove.specs.Remove.{remove_equation}
use Rattle.tr_simplify.specs.Kept.{simplified_equation, simplified_keep}
use Rattle.tr_split.specs.Goals.{split_equation}
use Rattle.tr_split.specs.Kept.{split_keeps}
use Rattle.stages.specs.declared.transformations.transformation.Transformation.{Transformation}
use Rattle.stages.specs.declared.transformations.transformation.Transformation.TheVariants.{Remove, Split, Introduce, Definitions, InductiveGroups, Inline, Lets, Matches, Conditionals, SimplifiedFormulas, Discriminate, Recursion, AlgebraicTypes}

-- what is known of a transformation by itself
pub record TransformationLaw : Type 0 where
  pub equation : TaskEquation
  pub keeps : (t : TaskTree) (ts : List TaskTree) → IsValid t → Gives equation t ts
      → All (Keeps t) ts

abbrev pub law_of : Transformation → TransformationLaw
law_of (Remove its) =
    record { equation = remove_equation its.props; keeps = remove_keeps its.props }
law_of (Split its) = record { equation = split_equation; keeps = split_keeps }
law_of (Introduce its) = record { equation = introduce_equation; keeps = introduce_keeps }
law_of (Definitions its) = record { equation = definitions_equation; keeps = definitions_keep }
law_of (InductiveGroups its) = record { equation = inductives_equation; keeps = inductives_keep }
law_of (Inline its) = record { equation = inline_equation its.mode; keeps = inline_keeps its.mode }
law_of (Lets its) = record { equation = lets_equation; keeps = lets_keep }
law_of (Matches its) = record { equation = matches_equation; keeps = matches_keep }
law_of (Conditionals its) = record { equation = if_equation; keeps = if_keeps }
law_of (SimplifiedFormulas its) = record { equation = simplified_equation; keeps = simplified_keep }
law_of (Discriminate its) = record { equation = discriminate_equation; keeps = discriminate_keeps }
law_of (Recursion its) = record { equation = recursions_equation; keeps = recursions_keep }
law_of (AlgebraicTypes its) = record { equation = algebraic_equation; keeps = algebraic_task_keeps }

abbrev pub task_equation_of : Transformation → TaskEquation
task_equation_of x = (law_of x).equation

-- of a stage, whose tasks aren't too large
abbrev pub equation_of : Transformation → StageEquation
equation_of x t = stage_equation (task_equation_of x) t

pub keeps_of : (x : Transformation) (t : TaskTree) (ts : List TaskTree) → IsValid t
    → Gives (task_equation_of x) t ts → All (Keeps t) ts
keeps_of x t ts valid gives = (law_of x).keeps t ts valid gives
