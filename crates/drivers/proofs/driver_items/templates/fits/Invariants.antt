use Rattle.std.proofs.Common.{◌≡◌}
use Rattle.drivers.specs.driver_items.Templates.{all_wanted}
use Rattle.drivers.proofs.driver_items.templates.fits.Given as goal

abbrev pub invariant-loop-number : goal.invariant-loop-number
invariant-loop-number l = l.all ≡ all_wanted l.pieces l.arity l.number
