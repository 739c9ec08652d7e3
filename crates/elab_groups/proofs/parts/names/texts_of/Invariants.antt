use Rattle.std.proofs.Common.{◌≡◌, take}
use Rattle.name_resolution.specs.Abstract.{texts_of_names}
use Rattle.elab_groups.proofs.parts.names.texts_of.Given as goal

abbrev pub invariant-loop-name : goal.invariant-loop-name
invariant-loop-name l = l.them.items ≡ texts_of_names (take l.name-index l.names)
