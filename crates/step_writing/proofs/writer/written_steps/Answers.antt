use Rattle.std.proofs.Common.{List, Option, Some, None, sym, subst}
use Rattle.std.specs.Prelude.{IfOk, IfSome, IfNone}
use Rattle.kernel.proofs.Growth.{steps_later}
use Rattle.kernel.specs.rules.Trees.{StepTree}
use Rattle.kernel.specs.rules.Meaning.{steps_at}
use Rattle.kernel.specs.tasks.Meaning.{task_at}
use Rattle.step_writing.proofs.tree_writing.Reading.{if_ok}
use Rattle.step_writing.specs.Named.{AreNamed, AreSorted}
use Rattle.step_writing.specs.Written.{StepsReadBack}
use Rattle.step_writing.proofs.Naming.{no_true}
use Rattle.step_writing.proofs.Rightness.{steps_sorted}
use Rattle.step_writing.proofs.writer.written_steps.Goals as goal

pub returns-then-not-name_symbols-clause-none : goal.returns-then-not-name_symbols-clause-none
returns-then-not-name_symbols-clause-none c words named =
    let s = c.args.store.now in
    let later = c.new-2.new.store in
    let same = steps_later s later c.new-2.ensures.grows c.args.steps.now c.requires.held in
    no_true c.name_symbols.result c.if-not-name_symbols.true (c.name_symbols.ensures.1 (λ k d l. (subst (AreNamed c.args.table.now) (sym same) named k d l).symbols))

pub steps_text-requires-clause-sorted : goal.steps_text-requires-clause-sorted
steps_text-requires-clause-sorted c =
    let s = c.args.store.now in
    let later = c.new-2.new.store in
    let same = steps_later s later c.new-2.ensures.grows c.args.steps.now c.requires.held in
    subst AreSorted (sym same) (steps_sorted (task_at s c.args.task.now) (steps_at s c.args.steps.now) c.requires.closes.right)

pub returns-clause-some : goal.returns-clause-some
returns-clause-some c =
    let s = c.args.store.now in
    let later = c.new-2.new.store in
    let same = steps_later s later c.new-2.ensures.grows c.args.steps.now c.requires.held in
    subst (λ (l : List StepTree). IfOk c.steps_text.result (λ o. IfSome o (λ v. StepsReadBack c.args.table.now l v.items))) same c.steps_text.ensures.some

none_more : {A : Type 0} {P Q : Type 0} (o : Option A) → (P → Q) → IfNone o P → IfNone o Q
none_more None f h = f h
none_more (Some x) f h = tt

pub returns-clause-none : goal.returns-clause-none
returns-clause-none c =
    let s = c.args.store.now in
    let later = c.new-2.new.store in
    let same = steps_later s later c.new-2.ensures.grows c.args.steps.now c.requires.held in
    if_ok c.steps_text.result c.steps_text.ensures.none (λ o h. none_more o (λ no words named. no (subst (AreNamed c.args.table.now) (sym same) named)) h)
