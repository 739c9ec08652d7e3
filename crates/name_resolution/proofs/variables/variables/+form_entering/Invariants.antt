use Rattle.std.proofs.Common.{◌≡◌, drop}
use Rattle.name_resolution.specs.Abstract.{forms_of}
use Rattle.name_resolution.specs.variables.Seen.{forms_seen}
use Rattle.name_resolution.specs.variables.Entered.{seen_at}
use Rattle.name_resolution.proofs.variables.variables.+form_entering.Given as goal

abbrev pub invariant-enter_forms-loop-ty : goal.invariant-enter_forms-loop-ty
invariant-enter_forms-loop-ty l = forms_seen (seen_at l.seen) (forms_of (drop l.ty-index l.types)) ≡ forms_seen (seen_at l.fn.seen) (forms_of l.types)
