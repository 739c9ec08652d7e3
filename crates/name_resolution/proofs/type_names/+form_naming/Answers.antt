use Rattle.std.proofs.Common.{sym, subst, ◌∙◌}
use Rattle.name_resolution.specs.Abstract.{forms_of}
use Rattle.name_resolution.specs.Naming.{Tells, where_at}
use Rattle.name_resolution.proofs.Nodes.{form_at-Var, form_at-Named, form_at-Group}
use Rattle.name_resolution.proofs.Told.{of_first, of_rest, passed, counted_forms, group_forms}
use Rattle.name_resolution.proofs.type_names.+form_naming.Goals as goal

pub check_form-returns-in-Var : goal.check_form-returns-in-Var
check_form-returns-in-Var t c s = rw (form_at-Var c.args.ty.now c.in-Var.name c.in-Var.is) (rw c.as_slice.ensures at c.check_variable.ensures s)

pub check_form-returns-in_err-check_meaning-in-Named : goal.check_form-returns-in_err-check_meaning-in-Named
check_form-returns-in_err-check_meaning-in-Named t c s =
    let is = form_at-Named c.args.ty.now c.in-Named.name c.in-Named.args c.in-Named.is in
    let n = c.len.ensures ∙ sym (counted_forms c.in-Named.args) in
    passed c.from_residual-in_err-check_meaning-in-Named.result c.in_err-check_meaning-in-Named.field-0.0 _ c.from_residual-in_err-check_meaning-in-Named.ensures.1
    (rw is (of_first c.in_err-check_meaning-in-Named.field-0.0 _ _ (rw (c.as_slice-scopes.ensures, c.as_slice-in-Named-2.ensures, c.in_ok-own-in-Named.ensures, c.as_slice-in-Named.ensures, n) at c.in_err-check_meaning-in-Named.ensures s)))

pub check_form-returns-in_ok-check_meaning-in-Named : goal.check_form-returns-in_ok-check_meaning-in-Named
check_form-returns-in_ok-check_meaning-in-Named t c s =
    let is = form_at-Named c.args.ty.now c.in-Named.name c.in-Named.args c.in-Named.is in
    let n = c.len.ensures ∙ sym (counted_forms c.in-Named.args) in
    rw is (of_rest c.check_forms.result _ _ (rw (c.as_slice-scopes.ensures, c.as_slice-in-Named-2.ensures, c.in_ok-own-in-Named.ensures, c.as_slice-in-Named.ensures, n) at c.in_ok-check_meaning-in-Named.ensures s) (rw c.as_slice-in-Named-3.ensures at c.check_forms.ensures s))

pub check_form-returns-in-Group : goal.check_form-returns-in-Group
check_form-returns-in-Group t c s =
    let is = form_at-Group c.args.ty.now c.in-Group.parts c.in-Group.is in
    let h = rw c.as_slice-in-Group.ensures at c.check_forms-in-Group.ensures in
    rw is (subst (Tells c.check_forms-in-Group.result) (group_forms (where_at s c.args.world.now) c.args.world.now.new_vars c.args.ty.now.at.main (forms_of c.in-Group.parts)) (h s))
