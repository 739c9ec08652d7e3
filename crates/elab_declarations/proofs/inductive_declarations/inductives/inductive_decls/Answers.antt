use Rattle.std.proofs.Common.{◌≡◌, ◌++◌, ◌∷◌, List, None, length, sym, ap, subst, ◌∙◌}
use Rattle.std.specs.List.{All}
use Rattle.std.proofs.lemmas.List.Elements.{All-nil}
use Rattle.tasks.specs.Task.{DeclarationTree, Induces}
use Rattle.tasks.specs.Meaning.{trees_at, declarations_at, InductiveHeld}
use Rattle.surface.specs.declared.declarations.IndTree.{IndTree}
use Rattle.surface.specs.Lexeme.{Word}
use Rattle.name_resolution.specs.variables.Seen.{SeenTree}
use Rattle.open_types.proofs.Noting.{no_elements}
use Rattle.elab_groups.specs.parts.Declarations.{signature_variables}
use Rattle.elab_groups.proofs.Defining.{one_held, one_made}
use Rattle.elab_declarations.specs.inductive_declarations.Inductives.{induced, inductive_decls}
use Rattle.elab_declarations.specs.inductive_declarations.Sources.{predicate_at, predicates_at}
use Rattle.elab_declarations.proofs.inductive_declarations.inductives.inductive_decls.Goals as goal

pub returns-in_default-clause-decls : goal.returns-in_default-clause-decls
returns-in_default-clause-decls c =
    let s = c.args.store.now in
    let p = c.args.place.now in
    let e = no_elements c.args.inductives.now c.in_default.ensures.cases in
    ap (declarations_at s) c.new-decls.ensures ∙ sym (ap (λ (xs : List IndTree). inductive_decls p.theory.now p.within.now (predicates_at xs) c.args.number (trees_at s c.args.bodies.now)) e)

pub returns-clause-held : goal.returns-clause-held
returns-clause-held c =
    let s = c.args.store.now in
    let none : All (InductiveHeld s) c.new-list.result = subst (All (InductiveHeld s)) (sym c.new-list.ensures) (All-nil (InductiveHeld s)) in
    rw c.in_ok-push.ensures.ok (one_held s c.new-decls.result _ c.new-decls.ensures (c.in_ok-push_induced.ensures.held s c.requires.held none))

pub returns-clause-decls : goal.returns-clause-decls
returns-clause-decls c =
    let s = c.args.store.now in
    let p = c.args.place.now in
    let bs = trees_at s c.args.bodies.now in
    let d = predicate_at c.in-Some.first.now in
    let ds = predicates_at c.in-Some.field-0-1.now in
    let e = c.in-Some.ensures.cases.0 in
    let own : c.in_ok-own.own ≡ d.called.name = rw c.as_slice-2.ensures at c.in_ok-own.ensures in
    let name : c.in_ok-join_words.field-0 ≡ p.within.now ++ d.called.name = c.in_ok-join_words.ensures ∙ ap (λ (w : Word). p.within.now ++ w) (c.as_slice-3.ensures ∙ own) in
    let clauses = rw c.new-list.ensures at (c.in_ok-push_induced.ensures.induced s) in
    let body = ap Induces (clauses ∙ ap (λ (xs : List IndTree). induced c.args.number (predicates_at xs) bs) e) in
    let theory = c.in_ok-from_slice.ensures in
    let seen = rw c.as_slice.ensures at c.in_ok-vars.ensures in
    let vars : c.len.result ≡ length (signature_variables d.params None) = c.len.ensures ∙ ap (λ (x : SeenTree). length x.vars) seen in
    let x : DeclarationTree = record { theory = p.theory.now; name = p.within.now ++ d.called.name; vars = length (signature_variables d.params None); body = Induces (induced c.args.number (d ∷ ds) bs) } in
    rw c.in_ok-push.ensures.ok (one_made s c.new-decls.result _ x c.new-decls.ensures (cc (theory, name, vars, body))
    ∙ sym (ap (λ (xs : List IndTree). inductive_decls p.theory.now p.within.now (predicates_at xs) c.args.number bs) e))
