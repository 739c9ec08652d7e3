use Rattle.std.proofs.Common.{subst}
use Rattle.word_tables.specs.Words.{Finds}
use Rattle.word_tables.proofs.SearchLemmas.{place-is}
use Rattle.word_tables.proofs.table.WordTable.find.Goals as goal

pub returns-clause-place : goal.returns-clause-place
returns-clause-place g c =
    place-is c.args.self.now c.args.word.now _ (subst (λ v. Finds v c.args.word.now c.search.result) c.self.view_is c.search.ensures)
