use Rattle.std.proofs.Common.{take, sym, ap, ◌∙◌, ◌++◌}
use Rattle.tasks.proofs.plain_laws.Lists.{flat_more}
use Rattle.tasks.specs.Task.{DeclarationTree}
use Rattle.tasks.specs.Meaning.{declaration_at, declarations_at}
use Rattle.name_tables.proofs.Steps.{gains_none}
use Rattle.name_tables.proofs.Loops.{gains_step}
use Rattle.tr_discriminate.specs.instance_sets.Made.{option_instances, monomorphic_formula, said_instances}
use Rattle.tr_discriminate.proofs.instance_sets.sets.add_said.Goals as goal

pub loop-decl-init : goal.loop-decl-init
loop-decl-init c = gains_none c.args.store.now c.args.keys.now.keys c.requires.keys_held

pub loop-decl-preserved : goal.loop-decl-preserved
loop-decl-preserved c =
    let s = c.args.store.now in
    let f = λ (d : DeclarationTree). option_instances (monomorphic_formula d.body) in
    let ds = c.args.decls.now in
    let i = c.loop-decl.decl-index in
    let d = c.decl-item.result in
    gains_step s _ _ _ _ _ _ (flat_more f (declaration_at s) ds i d c.loop-decl-test.true ∙ ap (λ z. said_instances (declarations_at s (take i ds)) ++ f (declaration_at s z)) (sym c.decl-item.is)) c.loop-decl.invariant c.in_ok-add_monomorphic.ensures
