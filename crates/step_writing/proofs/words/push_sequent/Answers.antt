use Rattle.std.proofs.Common.{◌<◌, length, arith}
use Rattle.kernel.specs.trees.declared.TermId.{TermId}
use Rattle.step_writing.proofs.Pushing.{sequent_none, sequent_more, line_at_place}
use Rattle.step_writing.proofs.words.push_sequent.Goals as goal

abbrev no_id : TermId
no_id = record { 0 = 0 }

pub loop-id-init : goal.loop-id-init
loop-id-init c = sequent_none c.args.x.now c.args.text.now.items

pub push_line_number-requires-clause-line : goal.push_line_number-requires-clause-line
push_line_number-requires-clause-line c =
    let lt : c.loop-id.id-index < length c.args.formulas.now = omega (arith, c.loop-id-test.true) in
    (line_at_place c.args.x.now c.args.formulas.now c.loop-id.id-index no_id lt c.requires.lines).line

pub loop-id-preserved : goal.loop-id-preserved
loop-id-preserved c =
    let x = c.args.x.now in
    let lt : c.loop-id.id-index < length c.args.formulas.now = omega (arith, c.loop-id-test.true) in
    sequent_more x c.args.text.now.items c.loop-id.text.items c.push_line_number.new.text.items c.args.formulas.now c.loop-id.id-index no_id lt
    (line_at_place x c.args.formulas.now c.loop-id.id-index no_id lt c.requires.lines).sort c.in_ok-push_line_number.ensures c.loop-id.invariant
