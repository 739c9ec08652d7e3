use Rattle.std.proofs.Common.{length, ap, arith}
use Rattle.std.proofs.lemmas.List.Elements.{All-push}
use Rattle.trees.specs.Node.{Holds}
use Rattle.tasks.specs.declared.declaration.Def.{Def}
use Rattle.tasks.proofs.Lists.{split_all}
use Rattle.declarations.specs.spelled_groups.Stored.{SaidHeld}
use Rattle.declarations.proofs.spelled_groups.said.+push_equations.Goals as goal

pub push_equations-requires : goal.push_equations-requires
push_equations-requires t c =
    let s = c.args.store.now in
    let both = split_all (λ (d : Def). Holds s d.equation) c.args.defs.now c.in-Some.first.now c.in-Some.rest.now c.in-Some.ensures.cases.0 c.requires.defs in
    (omega (arith, ap length c.in-Some.ensures.cases.0), (both.1, rw c.in_ok-push-in-Some.ensures.items (All-push (SaidHeld s) c.args.said.now.items _ c.requires.said both.0)))
