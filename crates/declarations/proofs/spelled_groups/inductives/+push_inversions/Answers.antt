use Rattle.std.proofs.Common.{length, ap, arith}
use Rattle.std.proofs.lemmas.Result.{on_ok_weaker}
use Rattle.std.proofs.lemmas.List.Elements.{All-weaker}
use Rattle.tasks.specs.Meaning.{SymbolHeld}
use Rattle.tasks.proofs.Growth.{symbol_held_later}
use Rattle.tasks.proofs.Lists.{split_all}
use Rattle.declarations.specs.spelled_groups.Making.{MemberIsFit}
use Rattle.declarations.specs.spelled_groups.Stored.{facts_at}
use Rattle.declarations.proofs.spelled_groups.Saying.{member_later, inversions_more}
use Rattle.declarations.proofs.spelled_groups.inductives.+push_inversions.Goals as goal

pub push_inversions-requires : goal.push_inversions-requires
push_inversions-requires t c =
    let s = c.args.store.now in
    let s1 = c.push_inversion.new.store in
    let g = c.in_ok-push_inversion-in-Some.ensures.grows in
    let infos = c.args.sig.now.symbols in
    let both = split_all (MemberIsFit s infos) c.args.inductives.now c.in-Some.first.now c.in-Some.rest.now c.in-Some.ensures.cases.0 c.requires.fit in (
      omega (arith, ap length c.in-Some.ensures.cases.0),
      (All-weaker (SymbolHeld s) (SymbolHeld s1) (symbol_held_later s s1 g) infos c.requires.symbols, (All-weaker (MemberIsFit s infos) (MemberIsFit s1 infos) (member_later s s1 g infos) c.in-Some.rest.now both.1, c.in_ok-push_inversion-in-Some.ensures.held)),
    )

pub returns-in_ok-push_inversion-in-Some-clause-said : goal.returns-in_ok-push_inversion-in-Some-clause-said
returns-in_ok-push_inversion-in-Some-clause-said t c =
    let s = c.args.store.now in
    let s1 = c.push_inversion.new.store in
    let infos = c.args.sig.now.symbols in
    let both = split_all (MemberIsFit s infos) c.args.inductives.now c.in-Some.first.now c.in-Some.rest.now c.in-Some.ensures.cases.0 c.requires.fit in
    rw c.in-Some.ensures.cases.0 (on_ok_weaker c.push_inversions.result (λ h.
    inversions_more s s1 c.in_ok-push_inversion-in-Some.ensures.grows infos c.requires.symbols c.in-Some.first.now c.in-Some.rest.now both.1 (facts_at s c.args.said.now.items) (facts_at s1 c.push_inversion.new.said.items) _ c.in_ok-push_inversion-in-Some.ensures.said h) c.push_inversions.ensures.said)

pub push_inversion-requires-clause-fit : goal.push_inversion-requires-clause-fit
push_inversion-requires-clause-fit t c =
    let s = c.args.store.now in
    let infos = c.args.sig.now.symbols in
    (split_all (MemberIsFit s infos) c.args.inductives.now c.in-Some.first.now c.in-Some.rest.now c.in-Some.ensures.cases.0 c.requires.fit).0
