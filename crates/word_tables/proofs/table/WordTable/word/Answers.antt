use Rattle.std.proofs.Common.{sym, ap, ◌∙◌, slice_get, arith}
use Rattle.word_tables.proofs.SearchLemmas.{get-texts}
use Rattle.word_tables.proofs.table.WordTable.word.Goals as goal

pub returns : goal.returns
returns g c =
    ap (λ v. slice_get v c.args.i) (sym c.self.view_is) ∙ get-texts c.self.inside.words.now c.args.i _ (omega (arith, c.self.invariant.0))
