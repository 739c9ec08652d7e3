use Rattle.std.proofs.Common.{◌≡◌, ◌≤◌, length, take, reverse}
use Rattle.scopes.specs.Names.{first_found}
use Rattle.scopes.proofs.nested.first_found.Given as goal

abbrev pub invariant-loop-left : goal.invariant-loop-left
invariant-loop-left l = record {
  within : l.left ≤ length l.numbers;
  rest : first_found l.table l.name l.scopes (reverse l.numbers) ≡ first_found l.table l.name l.scopes (reverse (take l.left l.numbers));
}

abbrev pub decreases-loop-left : goal.decreases-loop-left
decreases-loop-left l = l.left
