use Rattle.std.proofs.Common.{refl}
use Rattle.std.proofs.lemmas.Result.{on_ok_weaker}
use Rattle.elab_groups.proofs.parts.Entering.{extended_one}
use Rattle.elab_groups.proofs.parts.entries.push_entry.Goals as goal

pub returns : goal.returns
returns c = on_ok_weaker c.push.result (λ e. extended_one c.args.store.now c.args.sig.now (record { symbols = c.push.new.self; ints = c.args.sig.now.ints }) c.args.info c.requires.signature c.requires.typed c.requires.scoped e refl) c.push.ensures.ok
