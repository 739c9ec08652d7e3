use Rattle.std.proofs.Common.{◌≡◌, true, false, sym, ap, ◌∙◌}
use Rattle.std.specs.Prelude.{not}
use Rattle.elab_groups.specs.parts.Outcomes.{declared_in}
use Rattle.elab_declarations.proofs.NewNames.{there, told_new}
use Rattle.elab_declarations.proofs.new_names.declare_new.Goals as goal

pub returns-then-branch-clause-told : goal.returns-then-branch-clause-told
returns-then-branch-clause-told c =
    let d = declared_in c.args.scope.now c.args.table in
    let free : d c.args.own ≡ false = ap d (sym c.as_slice.ensures) ∙ c.in_ok-declare.ensures.free in
    let new = there c.args.own c.args.before.now.keys c.into_vec.result c.in_ok-insert.field-0 c.into_vec.ensures c.in_ok-insert.ensures.added in
    told_new (d c.args.own) _ true c.args.token free (new ∙ ap not c.if-branch.true)

pub returns-else-branch-clause-told : goal.returns-else-branch-clause-told
returns-else-branch-clause-told c =
    let d = declared_in c.args.scope.now c.args.table in
    let free : d c.args.own ≡ false = ap d (sym c.as_slice.ensures) ∙ c.in_ok-declare.ensures.free in
    let new = there c.args.own c.args.before.now.keys c.into_vec.result c.in_ok-insert.field-0 c.into_vec.ensures c.in_ok-insert.ensures.added in
    told_new (d c.args.own) _ false c.args.token free (new ∙ ap not c.if-branch.false)
