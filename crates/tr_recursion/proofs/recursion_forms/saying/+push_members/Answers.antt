use Rattle.std.proofs.Common.{length, ap, arith}
use Rattle.std.proofs.lemmas.Result.{on_ok_weaker}
use Rattle.std.proofs.lemmas.List.Elements.{All-weaker}
use Rattle.tasks.specs.Meaning.{SymbolHeld}
use Rattle.tasks.proofs.Growth.{symbol_held_later}
use Rattle.tasks.proofs.Lists.{split_all}
use Rattle.declarations.specs.spelled_groups.Stored.{facts_at}
use Rattle.tr_recursion.specs.recursion_forms.Made.{DefinitionIsFit}
use Rattle.tr_recursion.proofs.recursion_forms.Definitions.{fit_later, members_more}
use Rattle.tr_recursion.proofs.recursion_forms.saying.+push_members.Goals as goal

pub push_member-requires-clause-fit : goal.push_member-requires-clause-fit
push_member-requires-clause-fit t c = (split_all (DefinitionIsFit c.args.store.now c.args.sig.now.symbols) c.args.defs.now c.in-Some.first.now c.in-Some.rest.now c.in-Some.ensures.cases.0 c.requires.fit).0

pub push_members-requires : goal.push_members-requires
push_members-requires t c =
    let s = c.args.store.now in
    let s1 = c.push_member.new.store in
    let g = c.in_ok-push_member-in-Some.ensures.grows in
    let infos = c.args.sig.now.symbols in
    let both = split_all (DefinitionIsFit s infos) c.args.defs.now c.in-Some.first.now c.in-Some.rest.now c.in-Some.ensures.cases.0 c.requires.fit in (
      omega (arith, ap length c.in-Some.ensures.cases.0),
      (
        All-weaker (DefinitionIsFit s infos) (DefinitionIsFit s1 infos) (fit_later s s1 g infos) c.in-Some.rest.now both.1,
        (All-weaker (SymbolHeld s) (SymbolHeld s1) (symbol_held_later s s1 g) infos c.requires.symbols, c.in_ok-push_member-in-Some.ensures.held),
      ),
    )

pub returns-in_ok-push_member-in-Some-clause-said : goal.returns-in_ok-push_member-in-Some-clause-said
returns-in_ok-push_member-in-Some-clause-said t c =
    let s = c.args.store.now in
    let s1 = c.push_member.new.store in
    let infos = c.args.sig.now.symbols in
    let both = split_all (DefinitionIsFit s infos) c.args.defs.now c.in-Some.first.now c.in-Some.rest.now c.in-Some.ensures.cases.0 c.requires.fit in
    rw c.in-Some.ensures.cases.0 (on_ok_weaker c.push_members.result (λ h.
    members_more s s1 c.in_ok-push_member-in-Some.ensures.grows infos c.requires.symbols c.in-Some.first.now c.in-Some.rest.now both.1 (facts_at s c.args.said.now.items) (facts_at s1 c.push_member.new.said.items) _ c.in_ok-push_member-in-Some.ensures.said h) c.push_members.ensures.said)
