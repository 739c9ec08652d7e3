use Rattle.std.proofs.Common.{List, All, ◌++◌, sym, ap, subst, ◌∙◌}
use Rattle.kernel.specs.tasks.Meaning.{trees_at}
use Rattle.step_lines.specs.declared.rule_words.argument.Argument.{Argument}
use Rattle.step_lines.specs.rule_words.Arguments.{arguments_at, ArgumentHeld}
use Rattle.step_writing.specs.Named.{trees_in}
use Rattle.step_writing.proofs.tree_writing.Reading.{on_ok}
use Rattle.step_writing.proofs.Rooting.{arguments_held, step_pushed}
use Rattle.step_writing.proofs.roots.push_step.Goals as goal

pub push_trees-requires-clause-arguments : goal.push_trees-requires-clause-arguments
push_trees-requires-clause-arguments c =
    let s = c.args.store.now in
    let args = c.in_ok-written.written.arguments.items in
    subst (All (ArgumentHeld s)) (sym c.deref.ensures.value) (arguments_held s args (c.in_ok-written.ensures.held s c.requires.step.rule))

pub returns-clause-trees : goal.returns-clause-trees
returns-clause-trees c =
    let s = c.args.store.now in
    let args = c.in_ok-written.written.arguments.items in
    on_ok c.push_trees.result c.push_trees.ensures.trees
    (λ h. step_pushed s c.args.step.now c.in_ok-written.written.name args c.args.roots.now.items c.extend_from_slice.new.self.items c.push_trees.new.roots.items
    (c.in_ok-extend_from_slice.ensures.items ∙ ap (λ l. c.args.roots.now.items ++ l) c.as_slice.ensures)
    (h ∙ ap (λ (l : List Argument). trees_at s c.extend_from_slice.new.self.items ++ trees_in (arguments_at s l)) c.deref.ensures.value) (c.in_ok-written.ensures.reads_back s))
