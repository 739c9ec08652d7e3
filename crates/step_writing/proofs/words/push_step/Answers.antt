use Rattle.std.proofs.Common.{List, ℕ, subst}
use Rattle.kernel.specs.trees.declared.TermId.{TermId}
use Rattle.kernel.specs.tasks.Meaning.{trees_at}
use Rattle.step_writing.specs.Words.{PushesNumbers, PushesSequent}
use Rattle.step_writing.proofs.Pushing.{step_pushed}
use Rattle.step_writing.proofs.words.push_step.Goals as goal

pub returns : goal.returns
returns c =
    let x = c.args.x.now in
    let s = x.store.now in
    let st = c.args.step.now in
    let old = c.args.text.now.items in
    let first = c.push.new.self.items in
    let one = c.push_sequent.new.text.items in
    let two = c.push_word.new.text.items in
    let three = c.push_rule.new.text.items in
    let four = c.push_word-2.new.text.items in
    let five = c.push_numbers.new.text.items in
    let new = c.push-2.new.self.items in
    let sequent = subst (λ (ids : List TermId). PushesSequent x first one (trees_at s ids)) c.as_slice.ensures c.in_ok-push_sequent.ensures in
    let premises = subst (λ (ns : List ℕ). PushesNumbers four five ns) c.as_slice-2.ensures c.in_ok-push_numbers.ensures in
    step_pushed x st old first one two three four five new c.in_ok-push.ensures.items sequent c.in_ok-push_word.ensures c.in_ok-push_rule.ensures c.in_ok-push_word-2.ensures premises c.in_ok-push-2.ensures.items
