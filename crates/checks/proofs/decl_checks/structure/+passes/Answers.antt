use Rattle.std.proofs.Common.{refl}
use Rattle.trees.specs.Node.{tree_at}
use Rattle.tasks.specs.Meaning.{symbols_at}
use Rattle.checks.proofs.decl_checks.Above.{type_passes, kept_more}
use Rattle.checks.proofs.decl_checks.structure.+passes.Goals as goal

pub parts_pass-returns-in-TyApp : goal.parts_pass-returns-in-TyApp
parts_pass-returns-in-TyApp t c =
    let s = c.args.store.now in
    let e = tree_at s c.args.e in
    let n = c.in-TyApp.field-0 in
    let a = tree_at s c.in-TyApp.field-1 in
    let pass = type_passes (symbols_at s c.args.sig.now.symbols) c.args.chosen.now c.args.known.now (tree_at s c.args.matched) e n a c.in-TyApp.ensures.sorted c.in-TyApp.ensures.tree in
    record { is = (λ u. pass, λ p. refl); kept = c.requires.kept }

pub passes-returns-in_ok-insert : goal.passes-returns-in_ok-insert
passes-returns-in_ok-insert t c =
    let s = c.args.store.now in
    let symbols = symbols_at s c.args.sig.now.symbols in
    let chosen = c.args.chosen.now in
    let passed = c.in_ok-passed.ensures in
    record {
      is = passed.is;
      kept = kept_more symbols chosen s c.parts_pass.new.kept c.insert.new.self c.args.e c.args.matched c.in_ok-low.low passed.kept
          (c.in_ok-low.ensures symbols chosen s passed.kept (passed.is.0 c.if-passed.true)) c.in_ok-insert.ensures.updates.0;
    }
