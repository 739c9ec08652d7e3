use Rattle.std.proofs.Common.{◌≡◌, true, List, None, ap, subst, ◌∙◌}
use Rattle.name_resolution.specs.scopes.Names.{ScopeNames, with_name}
use Rattle.name_resolution.specs.scopes.declared.Table.TheVariants.{Symbols, Propositions}
use Rattle.name_resolution.specs.scopes.declared.Referent.TheVariants as stands
use Rattle.surface.specs.Lexeme.{Word}
use Rattle.surface.specs.declared.declarations.ClauseTree.{ClauseTree}
use Rattle.name_resolution.specs.Naming.{Tells}
use Rattle.name_resolution.proofs.Told.{of_rest}
use Rattle.elab_groups.specs.parts.Outcomes.{declared_in}
use Rattle.elab_groups.specs.members.Members.{member_made}
use Rattle.elab_declarations.specs.NewNames.{indexed_names}
use Rattle.elab_declarations.specs.inductive_declarations.Inductives.{clauses_made}
use Rattle.elab_declarations.specs.inductive_declarations.Sources.{predicate_at, clauses_at}
use Rattle.elab_declarations.proofs.inductive_declarations.InductivesTold.{clauses_after}
use Rattle.elab_declarations.proofs.inductive_declarations.naming.declare_inductive.Goals as goal

pub returns-clause-told : goal.returns-clause-told
returns-clause-told c =
    let names = c.args.scope.now in
    let i = predicate_at c.args.inductive.now in
    let ws = c.args.before.now.items in
    let vs = indexed_names c.args.named.now in
    let after = with_name Symbols i.called.name (stands.Entry c.args.number) true names in
    let own : c.in_ok-own.own ≡ i.called.name = rw c.as_slice.ensures at c.in_ok-own.ensures in
    let none : member_made (declared_in names Symbols) ws i.called i.params ≡ None = rw (c.as_slice-2.ensures.value, c.as_slice-3.ensures, c.as_slice-params.ensures, own) at c.in_ok-declare_member.ensures.told in
    let scope : c.declare_member.new.scope ≡ after = c.in_ok-declare_member.ensures.ok ∙ ap (λ (y : Word). with_name Symbols y (stands.Entry c.args.number) true names) (c.as_slice-3.ensures ∙ own) in
    let moved : clauses_made (declared_in c.declare_member.new.scope Propositions) vs (clauses_at c.as_slice-clauses.result.now) ≡ clauses_made (declared_in names Propositions) vs i.clauses =
    ap (λ (ns : ScopeNames). clauses_made (declared_in ns Propositions) vs (clauses_at c.as_slice-clauses.result.now)) scope
    ∙ (ap (λ (xs : List ClauseTree). clauses_made (declared_in after Propositions) vs (clauses_at xs)) c.as_slice-clauses.ensures ∙ clauses_after names c.args.decl c.args.number i vs i.clauses) in
    of_rest c.declare_clauses.result (member_made (declared_in names Symbols) ws i.called i.params) (clauses_made (declared_in names Propositions) vs i.clauses) none
    (subst (Tells c.declare_clauses.result) moved c.declare_clauses.ensures.told)
