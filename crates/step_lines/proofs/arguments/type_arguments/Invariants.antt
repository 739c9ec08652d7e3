use Rattle.std.proofs.Common.{◌≡◌, ◌++◌, drop, map, All}
use Rattle.tasks.specs.Meaning.{trees_at}
use Rattle.step_lines.specs.rule_words.Arguments.{AType, arguments_at, ArgumentHeld}
use Rattle.step_lines.proofs.arguments.type_arguments.Given as goal

abbrev pub invariant-loop-ty : goal.invariant-loop-ty
invariant-loop-ty l = record {
  trees : arguments_at l.store l.all.items ++ map AType (trees_at l.store (drop l.ty-index l.types)) ≡ map AType (trees_at l.store l.types);
  held : All (ArgumentHeld l.store) l.all.items;
}
