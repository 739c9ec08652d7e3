-- What the lines of a block have made so far is held.
use Rattle.std.specs.Prelude.{◌≡◌, List, [], ◌∷◌, ◌++◌, All}
use Rattle.tasks.specs.trees.Tree.{Tree}
use Rattle.tasks.specs.trees.Node.{Holds}
use Rattle.elab_groups.specs.trees.binders.Visits.{HoldTypes}
use Rattle.rules.specs.Meaning.{StepsHeld}
use Rattle.step_lines.specs.declared.thing.MadeThing.{MadeThing}
use Rattle.step_lines.specs.declared.thing.MadeThing.TheVariants as made
use Rattle.step_rows.specs.declared.read.Read.{Read}

pub record RowReadHeld (s : List Tree) (r : Read) : Type 0 where
  pub types : HoldTypes s r.types.items
  pub patterns : All (Holds s) r.patterns.items
  pub expressions : All (Holds s) r.expressions.items
  pub steps : StepsHeld s r.steps.items

-- one thing more
abbrev pub IsThingKept : MadeThing → Read → Read → Type 0
IsThingKept (made.Type y) r r' =
    (r'.types.items ≡ r.types.items ++ y ∷ []) × (r'.patterns.items ≡ r.patterns.items)
    × (r'.expressions.items ≡ r.expressions.items) × (r'.steps.items ≡ r.steps.items)
IsThingKept (made.Pattern p) r r' =
    (r'.types.items ≡ r.types.items) × (r'.patterns.items ≡ r.patterns.items ++ p ∷ [])
    × (r'.expressions.items ≡ r.expressions.items) × (r'.steps.items ≡ r.steps.items)
IsThingKept (made.Expression e) r r' =
    (r'.types.items ≡ r.types.items) × (r'.patterns.items ≡ r.patterns.items)
    × (r'.expressions.items ≡ r.expressions.items ++ e ∷ []) × (r'.steps.items ≡ r.steps.items)
IsThingKept (made.Derived st) r r' =
    (r'.types.items ≡ r.types.items) × (r'.patterns.items ≡ r.patterns.items)
    × (r'.expressions.items ≡ r.expressions.items) × (r'.steps.items ≡ r.steps.items ++ st ∷ [])
