use Rattle.std.proofs.Common.{sym}
use Rattle.tasks.specs.Meaning.{inductive_at, symbols_at}
use Rattle.tasks.specs.Facts.{inversion_fact}
use Rattle.declarations.proofs.spelled_groups.Saying.{inversion_said, one_said}
use Rattle.declarations.proofs.spelled_groups.inductives.push_inversion.Goals as goal

pub returns-clause-said : goal.returns-clause-said
returns-clause-said c =
    let s = c.args.store.now in
    let s1 = c.inversion.new.store in
    let infos = c.args.sig.now.symbols in
    let i = c.args.inductive.now in
    one_said s s1 c.in_ok-formula.ensures.grows c.args.said.now.items c.push.new.self.items _ (inversion_fact (symbols_at s infos) (inductive_at s i)) c.requires.said c.in_ok-push.ensures.items
    (inversion_said s infos i c.in-Some.info.now (sym c.in-Some.ensures.value) _ (rw c.as_slice.ensures at c.in_ok-formula.ensures.tree))
