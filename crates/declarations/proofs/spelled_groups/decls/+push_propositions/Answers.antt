use Rattle.std.proofs.Common.{length, ap, arith, sym, subst}
use Rattle.std.proofs.lemmas.List.Elements.{All-push}
use Rattle.tasks.specs.Meaning.{BodyHeld, DeclHeld}
use Rattle.tasks.proofs.Lists.{split_all}
use Rattle.declarations.specs.spelled_groups.Stored.{SaidHeld}
use Rattle.declarations.proofs.spelled_groups.decls.+push_propositions.Goals as goal

pub push_propositions-requires : goal.push_propositions-requires
push_propositions-requires t c =
    let s = c.args.store.now in
    let both = split_all (SaidHeld s) c.args.said.now c.in-Some.first.now c.in-Some.rest.now c.in-Some.ensures.cases.0 c.requires.said in
    let one = subst (BodyHeld s) (sym c.in_ok-declared_as-in-Some.ensures.says) both.0 in
    (omega (arith, ap length c.in-Some.ensures.cases.0), (both.1, rw c.in_ok-push-in-Some.ensures.items (All-push (DeclHeld s) c.args.decls.now.items _ c.requires.held one)))
