use Rattle.std.proofs.Common.{◌≡◌, ◌++◌, ◌∷◌, [], None}
use Rattle.name_resolution.specs.scopes.declared.Table.TheVariants.{Propositions}
use Rattle.surface.specs.SurfaceDeclarations.{clause_of}
use Rattle.name_resolution.specs.Naming.{Tells}
use Rattle.name_resolution.proofs.Told.{of_rest}
use Rattle.elab_groups.specs.parts.Declarations.{clause}
use Rattle.elab_groups.specs.parts.Outcomes.{declared_in}
use Rattle.elab_declarations.specs.NewNames.{indexed_names, name_made}
use Rattle.elab_declarations.specs.inductive_declarations.Inductives.{clauses_made}
use Rattle.elab_declarations.specs.inductive_declarations.Sources.{clauses_at}
use Rattle.elab_declarations.proofs.inductive_declarations.InductivesTold.{clauses_next}
use Rattle.elab_declarations.proofs.inductive_declarations.naming.+declare_clauses.Goals as goal

pub returns-clause-told : goal.returns-clause-told
returns-clause-told t c =
    let names = c.args.scope.now in
    let k = clause (clause_of c.in-Some.first.now) in
    let cs = clauses_at c.in-Some.rest.now in
    let ws = indexed_names c.args.named.now in
    let own : c.in_ok-own.own ≡ k.called.name = rw c.as_slice.ensures at c.in_ok-own.ensures in
    let none : name_made (declared_in names Propositions k.called.name) ws k.called ≡ None = rw own at c.in_ok-declare_new.ensures.told in
    let told : Tells c.declare_clauses.result (clauses_made (declared_in names Propositions) (ws ++ k.called.name ∷ []) cs) =
    rw (c.in_ok-declare_new.ensures.scope, c.in_ok-declare_new.ensures.before, own, clauses_next names c.args.decl k.called.name ws cs) at c.declare_clauses.ensures.told in
    rw c.in-Some.ensures.cases.0 (of_rest c.declare_clauses.result (name_made (declared_in names Propositions k.called.name) ws k.called) (clauses_made (declared_in names Propositions) (ws ++ k.called.name ∷ []) cs) none told)
