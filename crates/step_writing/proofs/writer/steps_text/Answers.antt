use Rattle.std.proofs.Common.{◌≡◌, ℕ, List, Option, sym, ap, subst, ◌∙◌}
use Rattle.std.specs.Prelude.{IfSome, IfNone, flat_map}
use Rattle.kernel.specs.tasks.Meaning.{trees_at}
use Rattle.kernel.specs.rules.Meaning.{steps_at}
use Rattle.step_writing.specs.declared.tree_writing.writer.WrittenLines.{WrittenLines}
use Rattle.step_writing.specs.tree_writing.Whole.{IsWritten, HaveLines, LacksName}
use Rattle.step_writing.specs.declared.words.Lines.{Lines}
use Rattle.step_writing.specs.Named.{step_trees}
use Rattle.step_writing.proofs.Finishing.{finished, no_name, steps_ready}
use Rattle.step_writing.proofs.writer.steps_text.Goals as goal

pub returns-in_default-clause-none : goal.returns-in_default-clause-none
returns-in_default-clause-none c =
    let s = c.args.store.now in
    let roots = trees_at s c.deref.result.now in
    let are : roots ≡ flat_map step_trees (steps_at s c.args.steps.now) = ap (trees_at s) c.deref.ensures.value ∙ c.in_ok-roots.ensures.trees in
    let lacks = subst (λ (o : Option WrittenLines). IfNone o (LacksName c.args.table.now roots)) c.in_default.is c.in_ok-written.ensures.none in
    no_name c.args.table.now (steps_at s c.args.steps.now) roots are lacks

pub push_steps-requires-clause-ready : goal.push_steps-requires-clause-ready
push_steps-requires-clause-ready c =
    let s = c.args.store.now in
    let x : Lines = record { store = c.args.store; table = c.args.table; names = c.args.names; numbers = c.deref-2.result } in
    let roots = trees_at s c.deref.result.now in
    let are : roots ≡ flat_map step_trees (steps_at s c.args.steps.now) = ap (trees_at s) c.deref.ensures.value ∙ c.in_ok-roots.ensures.trees in
    let some = subst (λ (o : Option WrittenLines). IfSome o (λ w. HaveLines s w.numbers.items roots)) c.in-Some.is c.in_ok-written.ensures.lines in
    let lines = subst (λ (l : List (Option ℕ)). HaveLines s l roots) (sym c.deref-2.ensures.value) some in
    steps_ready x (steps_at s c.args.steps.now) roots are c.requires.names lines c.requires.sorted c.requires.symbols

pub returns-clause-some : goal.returns-clause-some
returns-clause-some c =
    let s = c.args.store.now in
    let x : Lines = record { store = c.args.store; table = c.args.table; names = c.args.names; numbers = c.deref-2.result } in
    let roots = trees_at s c.deref.result.now in
    let are : roots ≡ flat_map step_trees (steps_at s c.args.steps.now) = ap (trees_at s) c.deref.ensures.value ∙ c.in_ok-roots.ensures.trees in
    let start = c.in-Some.written.text.items in
    let some = subst (λ (o : Option WrittenLines). IfSome o (λ w. IsWritten s c.args.table.now roots w.text.items w.numbers.items)) c.in-Some.is c.in_ok-written.ensures.written in
    let written = subst (λ (l : List (Option ℕ)). IsWritten s c.args.table.now roots start l) (sym c.deref-2.ensures.value) some in
    finished x c.args.steps.now roots start c.push_steps.new.text.items are written c.requires.words c.in_ok-push_steps.ensures
