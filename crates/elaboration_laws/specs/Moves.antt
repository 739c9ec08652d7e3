-- Moves in a scope whose names stand for things of their table (Why3 manual, "use and clone").
use Rattle.std.specs.Prelude.{List, All}
use Rattle.elab_groups.specs.tasks.Vocabulary.{Vocabulary}
use Rattle.theory_states.specs.declared.moves.Move.TheVariants.{Brings, Opens, Closes}
use Rattle.theory_states.specs.Moves.{MoveTree}
use Rattle.elaboration_laws.specs.Scopes.{IsTypedThing}

-- what a name that is brought in stands for is a thing of its table
abbrev pub IsTypedMove : Vocabulary → MoveTree → Type 0
IsTypedMove v (Brings table x thing) = IsTypedThing v table thing
IsTypedMove v (Opens x) = Unit {0}
IsTypedMove v Closes = Unit {0}

abbrev pub AreTypedMoves : Vocabulary → List MoveTree → Type 0
AreTypedMoves v ms = All (IsTypedMove v) ms
