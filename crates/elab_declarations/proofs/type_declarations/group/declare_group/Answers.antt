use Rattle.std.proofs.Common.{subst, sym, Err, Option, arith, ◌∙◌}
use Rattle.name_resolution.specs.Naming.{Tells}
use Rattle.name_resolution.specs.declared.NamingFault.{NamingFault}
use Rattle.name_resolution.proofs.Told.{passed}
use Rattle.elab_declarations.specs.type_declarations.Algebraics.{algebraics_of}
use Rattle.elab_declarations.proofs.type_declarations.Sorted.{group_sorted}
use Rattle.elab_declarations.proofs.type_declarations.group.declare_group.Goals as goal

pub returns-clause-fits : goal.returns-clause-fits
returns-clause-fits c = omega (arith, c.in_ok-declare_types.ensures.number, c.bound_number.ensures)

pub returns-clause-told : goal.returns-clause-told
returns-clause-told c = sym (group_sorted c.args.scope.now (algebraics_of c.args.types.now)) ∙ rw (c.new.ensures.empty, c.new-2.ensures.empty) at c.in_ok-declare_types.ensures.told

pub returns-in_err-declare_types-clause-told : goal.returns-in_err-declare_types-clause-told
returns-in_err-declare_types-clause-told c =
    let f = c.in_err-declare_types.field-0.0 in
    let told = rw (c.new.ensures.empty, c.new-2.ensures.empty) at c.in_err-declare_types.ensures.told in
    passed c.from_residual.result f _ c.from_residual.ensures.1 (subst (λ (g : Option NamingFault). Tells (Err f) g) (group_sorted c.args.scope.now (algebraics_of c.args.types.now)) told)
