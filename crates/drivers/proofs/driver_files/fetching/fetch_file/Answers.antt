use Rattle.std.proofs.Common.{rules, arith, ◌≡◌, false, nat_eq, length}
use Rattle.std.proofs.lemmas.Bool.Decides.{nat_tests}
use Rattle.drivers.proofs.driver_files.Fetched.{fetched-short}
use Rattle.drivers.proofs.driver_files.fetching.fetch_file.Goals as goal

pub returns-else-len-eq-MOST : goal.returns-else-len-eq-MOST
returns-else-len-eq-MOST g c =
    let fits : nat_eq (length c.in-Ok.bytes.items) 67108865 ≡ false = grind (arith, nat_tests) in
    let e = c.in-Ok.ensures.answer in
    fetched-short c.args.file c.args.name.now c.in-Ok.bytes.items (g.L.Library.state c.args.lib.now) (g.L.Library.state c.fetch.new.self) (search rules) e.1 e.2 e.0 fits
