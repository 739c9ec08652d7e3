use Rattle.std.proofs.Common.{length, ◌++◌, All, ap, sym, subst, arith}
use Rattle.tasks.specs.Meaning.{DeclHeld}
use Rattle.step_rows.proofs.Growth.{decls_more}
use Rattle.step_rows.proofs.given.+gather.Goals as goal

pub gather-requires : goal.gather-requires
gather-requires t c =
    let s = c.args.store.now in
    let s' = c.elaborate.new.store in
    let out = c.args.out.now in
    let both = decls_more s s' c.in_ok-made.ensures.grows out c.in_ok-made.made.decls c.requires.held c.in_ok-made.ensures.kept.decls in
    let held = subst (All (DeclHeld s')) (sym c.in_ok-append.ensures.ok) (subst (λ es. All (DeclHeld s') (out ++ es)) (sym c.decls_of.ensures) both) in
    (omega (arith, ap length c.in-Some.ensures.cases.0), (c.in_ok-made.ensures.kept.signature, (c.in_ok-made.ensures.kept.scopes, held)))
