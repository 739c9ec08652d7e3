use Rattle.std.proofs.Common.{◌+◌, ◌-◌, ◌/◌, ◌<◌, length, refl, arith}
use Rattle.word_tables.specs.Words.{texts}
use Rattle.word_tables.proofs.SearchLemmas.{raise, lower, found, absent, compared, length-texts}
use Rattle.word_tables.proofs.table.search.Goals as goal

pub loop-low-preserved-in-Less : goal.loop-low-preserved-in-Less
loop-low-preserved-in-Less c =
    let words = c.args.words.now in
    let m = c.loop-low.low + (c.loop-low.high - c.loop-low.low) / 2 in
    let within : m < length words = omega (arith, length-texts words, c.loop-low.invariant.within) in
    raise c.args.word.now (texts words) c.loop-low.low c.loop-low.high m c.requires c.loop-low.invariant (omega arith)
    (compared words m _ c.as_bytes.result.now c.args.word.now c.cmp.result _ within c.as_bytes.ensures.value c.cmp.ensures c.in-Less.is)

pub returns-in-Equal : goal.returns-in-Equal
returns-in-Equal c =
    let words = c.args.words.now in
    let m = c.loop-low.low + (c.loop-low.high - c.loop-low.low) / 2 in
    let within : m < length words = omega (arith, length-texts words, c.loop-low.invariant.within) in
    found c.args.word.now (texts words) m c.requires (omega (arith, length-texts words))
    (compared words m _ c.as_bytes.result.now c.args.word.now c.cmp.result _ within c.as_bytes.ensures.value c.cmp.ensures c.in-Equal.is)

pub loop-low-preserved : goal.loop-low-preserved
loop-low-preserved c =
    let words = c.args.words.now in
    let m = c.loop-low.low + (c.loop-low.high - c.loop-low.low) / 2 in
    let within : m < length words = omega (arith, length-texts words, c.loop-low.invariant.within) in
    lower c.args.word.now (texts words) c.loop-low.low c.loop-low.high m c.requires c.loop-low.invariant (omega arith) (omega arith)
    (compared words m _ c.as_bytes.result.now c.args.word.now c.cmp.result _ within c.as_bytes.ensures.value c.cmp.ensures c.in-Greater.is)

pub returns : goal.returns
returns c = absent c.args.word.now (texts c.args.words.now) c.loop-low.low c.loop-low.high _ refl c.loop-low.invariant c.loop-low-test.false
