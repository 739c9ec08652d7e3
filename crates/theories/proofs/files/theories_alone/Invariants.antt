use Rattle.std.proofs.Common.{◌≡◌, map}
use Rattle.theory_states.specs.declared.states.KnownTheory.{KnownTheory}
use Rattle.theories.proofs.files.theories_alone.Given as goal

abbrev pub invariant-loop-one : goal.invariant-loop-one
invariant-loop-one l = l.list ≡ map (λ (k : KnownTheory). k.theory) l.yielded
