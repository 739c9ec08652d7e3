-- An atom as a conditional on the condition of its first one.
use Rattle.congruence.specs.declared.conditionals.Conditional.{Conditional}
use Rattle.tr_if.specs.declared.places.OpenAtom.{OpenAtom}
use Rattle.tr_if.specs.declared.firsts.FirstCase.{FirstCase}

abbrev pub atom_cases : OpenAtom → FirstCase → Conditional
atom_cases a k = record {
  whole = a.left;
  condition = k.at.condition;
  then_part =
      k.first.left;
  else_part = k.second.left;
}
