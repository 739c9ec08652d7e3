use Rattle.std.proofs.Common.{[], sym, subst}
use Rattle.name_resolution.specs.scopes.declared.Table.TheVariants.{Symbols, Propositions}
use Rattle.name_resolution.specs.Naming.{Tells}
use Rattle.elab_groups.specs.parts.Outcomes.{declared_in}
use Rattle.elab_declarations.specs.inductive_declarations.Inductives.{inductives_made}
use Rattle.elab_declarations.specs.inductive_declarations.Sources.{predicates_at}
use Rattle.elab_declarations.proofs.inductive_declarations.InductivesTold.{inductives_told}
use Rattle.elab_declarations.proofs.inductive_declarations.naming.declare_group.Goals as goal

pub returns-clause-told : goal.returns-clause-told
returns-clause-told c =
    let names = c.args.scope.now in
    let ds = predicates_at c.args.inductives.now in
    let told : Tells c.declare_inductives.result (inductives_made (declared_in names Symbols) (declared_in names Propositions) [] [] ds) = rw (c.new-before.ensures.items, c.new-named.ensures.empty) at c.declare_inductives.ensures.told in
    subst (Tells c.declare_inductives.result) (sym (inductives_told names ds)) told
