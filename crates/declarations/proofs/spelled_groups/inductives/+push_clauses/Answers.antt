use Rattle.std.proofs.Common.{length, ap, arith}
use Rattle.std.proofs.lemmas.List.Elements.{All-push}
use Rattle.trees.specs.Node.{Holds}
use Rattle.tasks.proofs.Lists.{split_all}
use Rattle.declarations.specs.spelled_groups.Stored.{SaidHeld}
use Rattle.declarations.proofs.spelled_groups.inductives.+push_clauses.Goals as goal

pub push_clauses-requires : goal.push_clauses-requires
push_clauses-requires t c =
    let s = c.args.store.now in
    let e = ap length c.in-Some.ensures.cases.0 in
    let both = split_all (Holds s) c.args.clauses.now c.in-Some.first.now c.in-Some.rest.now c.in-Some.ensures.cases.0 c.requires.clauses in
    (omega (arith, e), (both.1, (omega (arith, e, c.requires.fits), rw c.in_ok-push-in-Some.ensures.items (All-push (SaidHeld s) c.args.said.now.items _ c.requires.said both.0))))
