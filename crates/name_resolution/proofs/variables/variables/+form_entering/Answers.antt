use Rattle.name_resolution.specs.variables.Entered.{seen_at}
use Rattle.name_resolution.proofs.Nodes.{form_at-Var, form_at-Named, form_at-Group}
use Rattle.name_resolution.proofs.variables.Widened.{forms_widened}
use Rattle.name_resolution.proofs.variables.variables.+form_entering.Goals as goal

pub enter_form-returns-in-Var : goal.enter_form-returns-in-Var
enter_form-returns-in-Var t c = let is = form_at-Var c.args.ty.now c.in-Var.name c.in-Var.is in rw is (rw c.as_slice.ensures at c.enter_variable.ensures)

pub enter_form-returns-in-Named : goal.enter_form-returns-in-Named
enter_form-returns-in-Named t c = let is = form_at-Named c.args.ty.now c.in-Named.field-0 c.in-Named.types c.in-Named.is in rw is (rw c.as_slice-in-Named.ensures at c.enter_forms.ensures)

pub enter_form-returns-in_ok-enter_tuple-in-Group : goal.enter_form-returns-in_ok-enter_tuple-in-Group
enter_form-returns-in_ok-enter_tuple-in-Group t c =
    let is = form_at-Group c.args.ty.now c.in-Group.types c.in-Group.is in
    let a = rw c.len.ensures at c.in_ok-enter_tuple-in-Group.ensures in
    rw is (rw (c.as_slice-in-Group.ensures, a, forms_widened c.args.ty.now.at.main c.in-Group.types (seen_at c.args.seen.now)) at c.enter_forms-in-Group.ensures)
