-- The transformations that the words of a driver name.
use Rattle.drivers.specs.declared.driver_items.kinds.Trans.{Trans}
use Rattle.drivers.specs.declared.driver_items.kinds.Trans.TheVariants.{SplitGoalRight, IntroducePremises, EliminateDefinition, EliminateInductive, InlineAll, InlineGoal, InlineTrivial, EliminateLet, EliminateMatch, EliminateIf, SimplifyFormula, Discriminate, EliminateRecursion, EliminateAlgebraic}
use Rattle.tr_inline.specs.inlining.declared.modes.InlineMode.TheVariants as mode
use Rattle.stages.specs.declared.transformations.transformation.Transformation.{Transformation}
use Rattle.stages.specs.declared.transformations.transformation.Transformation.TheVariants.{Split, Introduce, Definitions, InductiveGroups, Inline, Lets, Matches, Conditionals, SimplifiedFormulas, Discriminate, Recursion, AlgebraicTypes}

abbrev pub transformation_of : Trans → Transformation
transformation_of SplitGoalRight = Split (record {})
transformation_of IntroducePremises = Introduce (record {})
transformation_of EliminateDefinition = Definitions (record {})
transformation_of EliminateInductive = InductiveGroups (record {})
transformation_of InlineAll = Inline (record { mode = mode.All })
transformation_of InlineGoal = Inline (record { mode = mode.Goal })
transformation_of InlineTrivial = Inline (record { mode = mode.Trivial })
transformation_of EliminateLet = Lets (record {})
transformation_of EliminateMatch = Matches (record {})
transformation_of EliminateIf = Conditionals (record {})
transformation_of SimplifyFormula = SimplifiedFormulas (record {})
transformation_of Discriminate = Discriminate (record {})
transformation_of EliminateRecursion = Recursion (record {})
transformation_of EliminateAlgebraic = AlgebraicTypes (record {})
