use Rattle.grammar.proofs.recognise.Common.{take, File, rest, write_file, IsLevelFile, PlacedFile, whole_file, proper_rest, proper_take, terminals_of}
use Rattle.grammar.proofs.recognise.SpanLemmas.{front_terminals}
use Rattle.grammar.proofs.recognise.Answering.{completable, completed}
use Rattle.grammar.proofs.recognise.completing.complete.Goals as goal

pub completion-requires-clause-some : goal.completion-requires-clause-some
completion-requires-clause-some c =
    let text = c.args.text.now in
    let ts = c.args.tokens.now in
    let n = c.args.upto in
    completable File 0 IsLevelFile (PlacedFile 0) write_file (whole_file 0) (take n (rest text ts 0)) (terminals_of (take n ts)) (front_terminals text ts 0 n) c.requires.begins

pub returns : goal.returns
returns c =
    let text = c.args.text.now in
    let ts = c.args.tokens.now in
    let n = c.args.upto in
    let made = c.in_ok-kinds.ensures in
    completed File 0 IsLevelFile (PlacedFile 0) write_file (whole_file 0) (take n (rest text ts 0)) (terminals_of (take n ts)) (front_terminals text ts 0 n)
    (proper_take n (rest text ts 0) (proper_rest text ts 0)) c.in_ok-kinds.kinds.items made.0 made.1 made.2
