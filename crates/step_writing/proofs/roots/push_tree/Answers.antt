use Rattle.std.proofs.Common.{[], ◌∷◌, ◌++◌, sym, ap, subst, append-nil, ◌∙◌}
use Rattle.kernel.specs.tasks.Meaning.{trees_at}
use Rattle.step_lines.specs.declared.rule_words.argument.Argument.{Argument}
use Rattle.step_lines.specs.rule_words.Arguments.{argument_at, ArgumentHeld}
use Rattle.step_writing.specs.Named.{trees_in}
use Rattle.step_writing.proofs.Rooting.{tree_pushed, held_pushed}
use Rattle.step_writing.proofs.roots.push_tree.Goals as goal

pub returns-in_ok-push-in-Expression-clause-trees : goal.returns-in_ok-push-in-Expression-clause-trees
unfolding argument_at
returns-in_ok-push-in-Expression-clause-trees c =
    let s = c.args.store.now in
    tree_pushed s c.args.roots.now.items c.push.new.self.items c.in-Expression.e c.in_ok-push-in-Expression.ensures.items
    ∙ ap (λ (a : Argument). trees_at s c.args.roots.now.items ++ trees_in (argument_at s a ∷ [])) (sym c.in-Expression.is)

pub returns-in_ok-push-in-Expression-clause-held : goal.returns-in_ok-push-in-Expression-clause-held
unfolding ArgumentHeld
returns-in_ok-push-in-Expression-clause-held c =
    let s = c.args.store.now in
    held_pushed s c.args.roots.now.items c.push.new.self.items c.in-Expression.e c.in_ok-push-in-Expression.ensures.items c.requires.roots (subst (ArgumentHeld s) c.in-Expression.is c.requires.argument)

pub returns-in_ok-push-in-Type-clause-trees : goal.returns-in_ok-push-in-Type-clause-trees
unfolding argument_at
returns-in_ok-push-in-Type-clause-trees c =
    let s = c.args.store.now in
    tree_pushed s c.args.roots.now.items c.push-in-Type.new.self.items c.in-Type.y c.in_ok-push-in-Type.ensures.items
    ∙ ap (λ (a : Argument). trees_at s c.args.roots.now.items ++ trees_in (argument_at s a ∷ [])) (sym c.in-Type.is)

pub returns-in_ok-push-in-Type-clause-held : goal.returns-in_ok-push-in-Type-clause-held
unfolding ArgumentHeld
returns-in_ok-push-in-Type-clause-held c =
    let s = c.args.store.now in
    held_pushed s c.args.roots.now.items c.push-in-Type.new.self.items c.in-Type.y c.in_ok-push-in-Type.ensures.items c.requires.roots (subst (ArgumentHeld s) c.in-Type.is c.requires.argument)

pub returns-in-Number : goal.returns-in-Number
unfolding argument_at
returns-in-Number c =
    let s = c.args.store.now in
    record {
      trees = sym (append-nil (trees_at s c.args.roots.now.items)) ∙ ap (λ (a : Argument). trees_at s c.args.roots.now.items ++ trees_in (argument_at s a ∷ [])) (sym c.in-Number.is);
      held = c.requires.roots;
    }

pub returns-in-Symbol : goal.returns-in-Symbol
unfolding argument_at
returns-in-Symbol c =
    let s = c.args.store.now in
    record {
      trees = sym (append-nil (trees_at s c.args.roots.now.items)) ∙ ap (λ (a : Argument). trees_at s c.args.roots.now.items ++ trees_in (argument_at s a ∷ [])) (sym c.in-Symbol.is);
      held = c.requires.roots;
    }

pub returns-in-Integer : goal.returns-in-Integer
unfolding argument_at
returns-in-Integer c =
    let s = c.args.store.now in
    record {
      trees = sym (append-nil (trees_at s c.args.roots.now.items)) ∙ ap (λ (a : Argument). trees_at s c.args.roots.now.items ++ trees_in (argument_at s a ∷ [])) (sym c.in-Integer.is);
      held = c.requires.roots;
    }
