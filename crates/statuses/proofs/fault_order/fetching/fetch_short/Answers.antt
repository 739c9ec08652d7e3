use Rattle.std.proofs.Common.{rules, arith, ◌+◌, ◌≡◌, true, false, length, ◌==◌, Ok, Err, ℕ, Option, None}
use Rattle.std.proofs.lemmas.Bool.Decides.{nat_tests}
use Rattle.outside.specs.State.{IsFront}
use Rattle.statuses.specs.fault_order.Answers.{Reaches}
use Rattle.statuses.specs.fault_order.Order.{ShortFile, refused}
use Rattle.statuses.specs.declared.fault_order.faults.Fault.TheVariants.{TooLong}
use Rattle.statuses.proofs.fault_order.Meeting.{short_file-ok, short_file-long, if_short-long}
use Rattle.statuses.proofs.fault_order.fetching.fetch_short.Goals as goal
use Rattle.plain_laws.proofs.Options.{if_some as told}

pub returns-then-len-eq-MOST : goal.returns-then-len-eq-MOST
returns-then-len-eq-MOST g c =
    let bytes = c.in-Ok.bytes.items in
    let long : (length c.in-Ok.bytes.items == 67108865) ≡ true = grind (arith, nat_tests) in
    record {
      files = search rules;
      meets = (
        record { faults = search rules; absents = search rules },
        told (g.L.Library.state c.args.lib.now).files (λ files. IsFront (files c.args.name.now) 67108865 bytes)
            (λ files. ShortFile c.args.file c.args.name.now files None (Err (refused (TooLong c.args.file))))
            (λ files front. short_file-long c.args.file c.args.name.now bytes files front _ (if_short-long c.args.file bytes long)) c.in-Ok.ensures.answer.0,
      );
    }

pub returns-else-len-eq-MOST : goal.returns-else-len-eq-MOST
returns-else-len-eq-MOST g c =
    let bytes = c.in-Ok.bytes.items in
    let fits : (length c.in-Ok.bytes.items == 67108865) ≡ false = grind (arith, nat_tests) in
    record {
      files = search rules;
      meets = (
        record { faults = search rules; absents = search rules },
        omega arith,
        told (g.L.Library.state c.args.lib.now).files (λ files. IsFront (files c.args.name.now) 67108865 bytes)
            (λ files. (limit : Option ℕ) → Reaches limit (c.args.file + 1) → ShortFile c.args.file c.args.name.now files limit (Ok bytes))
            (λ files front limit reached. short_file-ok c.args.file c.args.name.now bytes files limit front fits reached) c.in-Ok.ensures.answer.0,
      );
    }
