use Rattle.std.proofs.lemmas.List.Elements.{All-push}
use Rattle.trees.specs.declared.TermId.{TermId}
use Rattle.step_lines.specs.rule_words.Arguments.{ArgumentHeld}
use Rattle.step_lines.proofs.tree_lines.Growing.{type_there}
use Rattle.step_lines.proofs.Taking.{type_taken, type_is_held}
use Rattle.step_lines.proofs.arguments.type_arguments.Goals as goal

abbrev no_id : TermId
no_id = record { 0 = 0 }

pub loop-ty-preserved : goal.loop-ty-preserved
loop-ty-preserved c =
    let s = c.args.store.now in
    let i = c.loop-ty.invariant in
    rw (c.in_ok-push.ensures.items) (record {
      trees = type_taken s c.args.types.now c.loop-ty.ty-index no_id c.loop-ty.all.items _ c.loop-ty-test.true i.trees;
      held = All-push (ArgumentHeld s) c.loop-ty.all.items _ i.held (type_is_held s _ (type_there s c.args.types.now c.loop-ty.ty-index no_id c.loop-ty-test.true c.requires).0);
    })
