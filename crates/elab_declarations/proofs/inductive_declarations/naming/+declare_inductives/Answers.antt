use Rattle.std.proofs.Common.{◌≡◌, ◌++◌, ◌∷◌, [], List, ap, subst, ◌∙◌}
use Rattle.name_resolution.specs.scopes.Names.{ScopeNames}
use Rattle.name_resolution.specs.scopes.declared.Table.TheVariants.{Symbols, Propositions}
use Rattle.surface.specs.Lexeme.{Word}
use Rattle.name_resolution.specs.Naming.{Tells}
use Rattle.name_resolution.proofs.Told.{of_rest}
use Rattle.elab_groups.specs.parts.Outcomes.{declared_in}
use Rattle.elab_declarations.specs.NewNames.{indexed_names}
use Rattle.elab_declarations.specs.inductive_declarations.Inductives.{with_inductives, clause_names, inductive_made, inductives_made}
use Rattle.elab_declarations.specs.inductive_declarations.Sources.{predicate_at, predicates_at}
use Rattle.elab_declarations.proofs.inductive_declarations.InductivesTold.{inductives_next}
use Rattle.elab_declarations.proofs.inductive_declarations.naming.+declare_inductives.Goals as goal

pub returns-in-Some-checked_add-clause-told : goal.returns-in-Some-checked_add-clause-told
returns-in-Some-checked_add-clause-told t c =
    let names = c.args.scope.now in
    let i = predicate_at c.in-Some.first.now in
    let is = predicates_at c.in-Some.rest.now in
    let ws = c.args.before.now.items in
    let vs = indexed_names c.args.named.now in
    let scope = c.declare_inductive.new.scope in
    let us = c.declare_inductive.new.before.items in
    let zs = indexed_names c.declare_inductive.new.named in
    let after = with_inductives c.args.decl c.args.number (i ∷ []) names in
    let ws1 = ws ++ i.called.name ∷ [] in
    let vs1 = vs ++ clause_names i.clauses in
    let moved : inductives_made (declared_in scope Symbols) (declared_in scope Propositions) us zs is ≡ inductives_made (declared_in names Symbols) (declared_in names Propositions) ws1 vs1 is =
    ap (λ (ns : ScopeNames). inductives_made (declared_in ns Symbols) (declared_in ns Propositions) us zs is) c.in_ok-declare_inductive.ensures.ok
    ∙ (ap (λ (xs : List Word). inductives_made (declared_in after Symbols) (declared_in after Propositions) xs zs is) c.in_ok-declare_inductive.ensures.before
    ∙ (ap (λ (xs : List Word). inductives_made (declared_in after Symbols) (declared_in after Propositions) ws1 xs is) c.in_ok-declare_inductive.ensures.named ∙ inductives_next names c.args.decl c.args.number i ws vs is)) in
    rw c.in-Some.ensures.cases.0 (of_rest c.declare_inductives.result (inductive_made (declared_in names Symbols) (declared_in names Propositions) ws vs i) (inductives_made (declared_in names Symbols) (declared_in names Propositions) ws1 vs1 is)
    c.in_ok-declare_inductive.ensures.told (subst (Tells c.declare_inductives.result) moved c.declare_inductives.ensures.told))
