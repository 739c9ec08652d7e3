use Rattle.std.proofs.Common.{map}
use Rattle.tasks.specs.Meaning.{symbols_at}
use Rattle.open_types.specs.Drafts.{match_at}
use Rattle.theories.proofs.side_conditions.Covered.{covered_then}
use Rattle.theories.proofs.side_conditions.sides.+check_matches.Goals as goal

pub returns-in-Ok-true : goal.returns-in-Ok-true
returns-in-Ok-true t c =
    let s = c.args.store.now in
    let symbols = symbols_at s c.args.sig.now.symbols in
    let covered = c.in-Ok-true.ensures.0 c.in-Ok-true.field-0-test in
    let both = covered_then symbols (match_at s c.in-Some.first.now) (map (match_at s) c.in-Some.rest.now) c.check_matches.result covered c.check_matches.ensures in
    rw c.in-Some.ensures.cases.0 both
