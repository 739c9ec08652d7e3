-- What code makes of a line, by numbers in a store.
use Rattle.std.specs.Prelude.{◌≡◌, List, Option, Some, None}
use Rattle.trees.specs.Tree.{Tree}
use Rattle.trees.specs.Node.{tree_at, Holds}
use Rattle.trees.specs.Sorts.{WellSorted}
use Rattle.rules.specs.Meaning.{step_at, StepHeld}
use Rattle.step_lines.specs.tree_lines.Made.{IsTypeHeld}
use Rattle.step_lines.specs.declared.thing.MadeThing.{MadeThing}
use Rattle.step_lines.specs.declared.thing.MadeThing.TheVariants as made
use Rattle.step_lines.specs.Steps.{Thing, TypeOf, PatternOf, ExpressionOf, StepOf}

-- what a thing stands for
abbrev pub thing_at : List Tree → MadeThing → Thing
thing_at s (made.Type y) = TypeOf (tree_at s y)
thing_at s (made.Pattern p) = PatternOf (tree_at s p)
thing_at s (made.Expression e) = ExpressionOf (tree_at s e)
thing_at s (made.Derived st) = StepOf (step_at s st)

abbrev pub ThingHeld : List Tree → MadeThing → Type 0
ThingHeld s (made.Type y) = IsTypeHeld s y
ThingHeld s (made.Pattern p) = Holds s p
ThingHeld s (made.Expression e) = Holds s e
ThingHeld s (made.Derived st) = StepHeld s st

-- a thing whose parts fit
abbrev pub ThingFits : Thing → Type 0
ThingFits (TypeOf e) = WellSorted e
ThingFits (PatternOf e) = WellSorted e
ThingFits (ExpressionOf e) = WellSorted e
ThingFits (StepOf st) = Unit {0}

-- What the words of a line make. None is answered only where they make no thing, or a tree whose
-- parts don't fit.
abbrev pub IsMadeThing : List Tree → Option Thing → Option MadeThing → Type 0
IsMadeThing s made (Some x) = (made ≡ Some (thing_at s x)) × ThingHeld s x
IsMadeThing s made None = (x : Thing) → made ≡ Some x → ThingFits x → ⊥
