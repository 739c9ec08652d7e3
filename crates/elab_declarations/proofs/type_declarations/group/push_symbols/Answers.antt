use Rattle.std.proofs.Common.{◌≡◌, ◌+◌, length, arith}
use Rattle.elab_groups.proofs.parts.Keeping.{length_extended}
use Rattle.elab_declarations.specs.type_declarations.Algebraics.{algebraics_of, type_entries}
use Rattle.elab_declarations.proofs.type_declarations.Counted.{types_counted, entries_counted}
use Rattle.elab_declarations.proofs.type_declarations.group.push_symbols.Goals as goal

pub returns-clause-following : goal.returns-clause-following
returns-clause-following c =
    let theory = c.args.place.now.theory.now in
    let within = c.args.place.now.within.now in
    let ts = algebraics_of c.args.types.now in
    let l : length c.push_type_entries.new.sig.symbols ≡ length c.push_tuples.new.sig.symbols + length (type_entries theory within ts) = length_extended (type_entries theory within ts) c.in_ok-push_type_entries.ensures in
    let m : length (type_entries theory within ts) ≡ length ts = entries_counted theory within ts in
    let n : length ts ≡ length c.args.types.now = types_counted c.args.types.now in
    omega (arith, l, m, n, c.len-symbol.ensures)
