use Rattle.grammar.proofs.recognise.Common.{◌-◌, take, drop, Expr, rest, IsLevel, IsPlacedTree, write, whole_expr, proper_rest, proper_take, terminals_of}
use Rattle.grammar.proofs.recognise.SpanLemmas.{front_terminals}
use Rattle.grammar.proofs.recognise.Answering.{completable, completed}
use Rattle.grammar.proofs.recognise.completing.complete_expr.Goals as goal

pub completion-requires-clause-some : goal.completion-requires-clause-some
completion-requires-clause-some c =
    let text = c.args.text.now in
    let ts = c.args.tokens.now in
    let i = c.args.from in
    let n = c.args.upto - i in
    completable (Expr 0) i IsLevel (IsPlacedTree i) write (whole_expr i) (take n (rest text ts i)) (terminals_of (take n (drop i ts))) (front_terminals text ts i n) c.requires.begins

pub returns : goal.returns
returns c =
    let text = c.args.text.now in
    let ts = c.args.tokens.now in
    let i = c.args.from in
    let n = c.args.upto - i in
    let made = c.in_ok-kinds.ensures in
    completed (Expr 0) i IsLevel (IsPlacedTree i) write (whole_expr i) (take n (rest text ts i)) (terminals_of (take n (drop i ts))) (front_terminals text ts i n)
    (proper_take n (rest text ts i) (proper_rest text ts i)) c.in_ok-kinds.kinds.items made.0 made.1 made.2
