use Rattle.drivers.specs.driver_items.Syntaxes.{syntax_of}
use Rattle.part_texts.proofs.making.problems_of.Goals as goal

pub problems_after-requires-clause-shared : goal.problems_after-requires-clause-shared
problems_after-requires-clause-shared c = c.new-shared.ensures (syntax_of c.args.driver.now.printer) c.args.store.now
