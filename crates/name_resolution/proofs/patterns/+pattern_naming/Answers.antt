use Rattle.std.proofs.Common.{Ok, Err, [], ◌∷◌, append_assoc, refl, sym, subst, ◌∙◌}
use mathlib.Core.List.{append-nil}
use Rattle.name_resolution.specs.Abstract.{abstract_pattern_of}
use Rattle.name_resolution.specs.Faults.{pattern_names}
use Rattle.name_resolution.specs.Naming.{Tells, where_at}
use Rattle.name_resolution.proofs.Nodes.{pattern_at-Wild, pattern_at-Var, pattern_at-Con, pattern_at-Group, pattern_at-Alias, pattern_at-Fields}
use Rattle.name_resolution.proofs.Told.{of_first, of_rest, passed, counted_patterns, told_patterns, enclosed_fault, enclosed_names}
use Rattle.name_resolution.proofs.patterns.+pattern_naming.Goals as goal

pub check_pattern-returns-in-Wild-clause-fault : goal.check_pattern-returns-in-Wild-clause-fault
check_pattern-returns-in-Wild-clause-fault t c s = rw (pattern_at-Wild c.args.p.now c.in-Wild.is) refl

pub check_pattern-returns-in-Wild-clause-names : goal.check_pattern-returns-in-Wild-clause-names
check_pattern-returns-in-Wild-clause-names t c = rw (pattern_at-Wild c.args.p.now c.in-Wild.is) (sym (append-nil c.args.names.now))

pub check_pattern-returns-in-Var-clause-fault : goal.check_pattern-returns-in-Var-clause-fault
check_pattern-returns-in-Var-clause-fault t c s = rw (pattern_at-Var c.args.p.now c.in-Var.name c.in-Var.is) (rw c.as_slice.ensures at c.check_variable.ensures.fault)

pub check_pattern-returns-in-Var-clause-names : goal.check_pattern-returns-in-Var-clause-names
check_pattern-returns-in-Var-clause-names t c = rw (pattern_at-Var c.args.p.now c.in-Var.name c.in-Var.is) (rw c.as_slice.ensures at c.check_variable.ensures.names)

pub check_pattern-returns-in_err-check_constructor-in-Con-clause-fault : goal.check_pattern-returns-in_err-check_constructor-in-Con-clause-fault
check_pattern-returns-in_err-check_constructor-in-Con-clause-fault t c s =
    let is = pattern_at-Con c.args.p.now c.in-Con.name c.in-Con.parts c.in-Con.is in
    let n = c.len.ensures ∙ sym (counted_patterns c.in-Con.parts) in
    let e = c.in_err-check_constructor-in-Con.field-0.0 in
    passed c.from_residual-in_err-check_constructor-in-Con.result e _ c.from_residual-in_err-check_constructor-in-Con.ensures.1
    (rw is (of_first e _ _ (rw (c.as_slice-scopes.ensures, c.as_slice-in-Con-2.ensures, c.in_ok-own-in-Con.ensures, c.as_slice-in-Con.ensures, n) at c.in_err-check_constructor-in-Con.ensures s)))

pub check_pattern-returns-in_ok-check_constructor-in-Con-clause-fault : goal.check_pattern-returns-in_ok-check_constructor-in-Con-clause-fault
check_pattern-returns-in_ok-check_constructor-in-Con-clause-fault t c s =
    let is = pattern_at-Con c.args.p.now c.in-Con.name c.in-Con.parts c.in-Con.is in
    let n = c.len.ensures ∙ sym (counted_patterns c.in-Con.parts) in
    rw is (of_rest c.check_patterns.result _ _ (rw (c.as_slice-scopes.ensures, c.as_slice-in-Con-2.ensures, c.in_ok-own-in-Con.ensures, c.as_slice-in-Con.ensures, n) at c.in_ok-check_constructor-in-Con.ensures s) (rw c.as_slice-in-Con-3.ensures at c.check_patterns.ensures.fault s))

pub check_pattern-returns-in_ok-check_constructor-in-Con-clause-names : goal.check_pattern-returns-in_ok-check_constructor-in-Con-clause-names
check_pattern-returns-in_ok-check_constructor-in-Con-clause-names t c = rw (pattern_at-Con c.args.p.now c.in-Con.name c.in-Con.parts c.in-Con.is) (rw c.as_slice-in-Con-3.ensures at c.check_patterns.ensures.names)

pub check_pattern-returns-in-Group-clause-fault : goal.check_pattern-returns-in-Group-clause-fault
check_pattern-returns-in-Group-clause-fault t c s =
    rw (pattern_at-Group c.args.p.now c.in-Group.parts c.in-Group.is)
    (subst (Tells c.check_patterns-in-Group.result) (enclosed_fault (where_at s c.args.world.now) c.args.names.now c.args.p.now.at.main c.in-Group.parts) (rw c.as_slice-in-Group.ensures at c.check_patterns-in-Group.ensures.fault s))

pub check_pattern-returns-in-Group-clause-names : goal.check_pattern-returns-in-Group-clause-names
check_pattern-returns-in-Group-clause-names t c =
    rw (pattern_at-Group c.args.p.now c.in-Group.parts c.in-Group.is) (rw (c.as_slice-in-Group.ensures, enclosed_names c.args.p.now.at.main c.in-Group.parts) at c.check_patterns-in-Group.ensures.names)

pub check_pattern-returns-in_err-check_pattern-in-Alias-clause-fault : goal.check_pattern-returns-in_err-check_pattern-in-Alias-clause-fault
check_pattern-returns-in_err-check_pattern-in-Alias-clause-fault t c s =
    let e = c.in_err-check_pattern-in-Alias.field-0.0 in
    passed c.from_residual-in_err-check_pattern-in-Alias.result e _ c.from_residual-in_err-check_pattern-in-Alias.ensures.1
    (rw (pattern_at-Alias c.args.p.now c.in-Alias.inner c.in-Alias.name c.in-Alias.is) (of_first e _ _ (rw c.get.ensures at c.in_err-check_pattern-in-Alias.ensures.fault s)))

pub check_pattern-returns-in_ok-check_pattern-in-Alias-clause-fault : goal.check_pattern-returns-in_ok-check_pattern-in-Alias-clause-fault
check_pattern-returns-in_ok-check_pattern-in-Alias-clause-fault t c s =
    let seen = rw c.get.ensures at c.in_ok-check_pattern-in-Alias.ensures.names in
    rw (pattern_at-Alias c.args.p.now c.in-Alias.inner c.in-Alias.name c.in-Alias.is)
    (of_rest c.check_variable-in-Alias.result _ _ (rw c.get.ensures at c.in_ok-check_pattern-in-Alias.ensures.fault s) (rw (c.as_slice-in-Alias.ensures, seen) at c.check_variable-in-Alias.ensures.fault))

pub check_pattern-returns-in_ok-check_pattern-in-Alias-clause-names : goal.check_pattern-returns-in_ok-check_pattern-in-Alias-clause-names
check_pattern-returns-in_ok-check_pattern-in-Alias-clause-names t c =
    let seen = rw c.get.ensures at c.in_ok-check_pattern-in-Alias.ensures.names in
    rw (pattern_at-Alias c.args.p.now c.in-Alias.inner c.in-Alias.name c.in-Alias.is) (rw (c.as_slice-in-Alias.ensures, seen, append_assoc c.args.names.now (pattern_names (abstract_pattern_of c.in-Alias.inner)) (c.in-Alias.name.text ∷ [])) at c.check_variable-in-Alias.ensures.names)

pub check_pattern-returns-in_err-check_record-in-Fields-clause-fault : goal.check_pattern-returns-in_err-check_record-in-Fields-clause-fault
check_pattern-returns-in_err-check_record-in-Fields-clause-fault t c s =
    let is = pattern_at-Fields c.args.p.now c.in-Fields.fields c.in-Fields.field-1 c.in-Fields.is in
    let e = c.in_err-check_record-in-Fields.field-0.0 in
    let told = told_patterns (where_at s c.args.world.now) (Err e) c.args.p.now.at.main c.in-Fields.fields _ c.as_slice-fields.ensures (c.in_err-check_record-in-Fields.ensures s) in
    passed c.from_residual-in_err-check_record-in-Fields.result e _ c.from_residual-in_err-check_record-in-Fields.ensures.1 (rw is (of_first e _ _ told))

pub check_pattern-returns-in_ok-check_record-in-Fields-clause-fault : goal.check_pattern-returns-in_ok-check_record-in-Fields-clause-fault
check_pattern-returns-in_ok-check_record-in-Fields-clause-fault t c s =
    let is = pattern_at-Fields c.args.p.now c.in-Fields.fields c.in-Fields.field-1 c.in-Fields.is in
    let told = told_patterns (where_at s c.args.world.now) (Ok tt) c.args.p.now.at.main c.in-Fields.fields _ c.as_slice-fields.ensures (c.in_ok-check_record-in-Fields.ensures s) in
    rw is (of_rest c.check_field_patterns.result _ _ told (rw c.as_slice-fields.ensures at c.check_field_patterns.ensures.fault s))

pub check_pattern-returns-in_ok-check_record-in-Fields-clause-names : goal.check_pattern-returns-in_ok-check_record-in-Fields-clause-names
check_pattern-returns-in_ok-check_record-in-Fields-clause-names t c = rw (pattern_at-Fields c.args.p.now c.in-Fields.fields c.in-Fields.field-1 c.in-Fields.is) (rw c.as_slice-fields.ensures at c.check_field_patterns.ensures.names)
