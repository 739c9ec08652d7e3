use Rattle.std.proofs.Common.{length, ap, arith, sym, subst}
use Rattle.std.proofs.lemmas.List.Elements.{All-push}
use Rattle.trees.specs.Node.{Holds}
use Rattle.tasks.specs.Meaning.{BodyHeld, DeclHeld}
use Rattle.tasks.proofs.Lists.{split_all}
use Rattle.tr_algebraic.proofs.algebraic_forms.decls.+push_formulas.Goals as goal

pub push_formulas-requires : goal.push_formulas-requires
push_formulas-requires t c =
    let s = c.args.store.now in
    let both = split_all (Holds s) c.args.formulas.now c.in-Some.first.now c.in-Some.rest.now c.in-Some.ensures.cases.0 c.requires.formulas in
    let one = subst (BodyHeld s) (sym c.in_ok-declared_as-in-Some.ensures.says) both.0 in
    (omega (arith, ap length c.in-Some.ensures.cases.0), (both.1, rw c.in_ok-push-in-Some.ensures.items (All-push (DeclHeld s) c.args.decls.now.items _ c.requires.held one)))
