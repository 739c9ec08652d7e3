use Rattle.std.proofs.Common.{◌≡◌, ℕ, ◌++◌, ◌∷◌, List, suc, take, drop, map, length, refl, sym, ap, subst, ◌∙◌, arith}
use Rattle.std.proofs.Math.ListN.{length-map}
use Rattle.std.specs.List.{All}
use Rattle.std.proofs.lemmas.List.{take_rest}
use Rattle.std.proofs.lemmas.Result.{on_ok_weaker}
use Rattle.tasks.specs.trees.Node.{Holds}
use Rattle.tasks.specs.declared.declaration.Ind.{Ind}
use Rattle.tasks.specs.Meaning.{trees_at, inductives_at}
use Rattle.surface.specs.SurfaceDeclarations.{clause_of}
use Rattle.surface.specs.declared.declarations.IndTree.{IndTree}
use Rattle.elab_groups.specs.parts.Declarations.{clause}
use Rattle.elab_declarations.specs.inductive_declarations.Inductives.{formula_members, induced}
use Rattle.elab_declarations.specs.inductive_declarations.Sources.{predicate_at, predicates_at}
use Rattle.elab_declarations.proofs.inductive_declarations.ClausesSplit.{others_count, induced_step, induced_held, all_dropped}
use Rattle.elab_declarations.proofs.inductive_declarations.clauses.+push_induced.Goals as goal

pub push_induced-requires : goal.push_induced-requires
push_induced-requires t c =
    let first = c.in-Some.first.now in
    let d = predicate_at first in
    let ds = predicates_at c.in-Some.rest.now in
    let ids = c.args.bodies.now in
    let n : c.len-count.result ≡ length d.clauses = c.len-count.ensures ∙ sym (length-map (map clause_of first.clauses) clause ∙ length-map first.clauses clause_of) in
    let all : length ids ≡ length (formula_members (d ∷ ds)) = c.requires ∙ ap (λ (xs : List IndTree). length (formula_members (predicates_at xs))) c.in-Some.ensures.cases.0 in
    (omega (arith, ap length c.in-Some.ensures.cases.0), ap length (take_rest ids c.len-count.result) ∙ (ap (λ (k : ℕ). length (drop k ids)) n ∙ others_count d ds ids all))

pub returns-in-Some-checked_add-clause-held : goal.returns-in-Some-checked_add-clause-held
returns-in-Some-checked_add-clause-held t c =
    let ids = c.args.bodies.now in
    let k = c.len-count.result in
    let list = c.args.list.now in
    let one : Ind = record { symbol = c.args.number; clauses = c.in_ok-from_slice.field-0 } in
    on_ok_weaker c.push_induced.result (λ h s bodies old. h s (subst (All (Holds s)) (sym (take_rest ids k)) (all_dropped (Holds s) k ids bodies)) (induced_held s list one k ids c.in_ok-from_slice.ensures bodies old)) (rw c.in_ok-push.ensures.ok at c.push_induced.ensures.held)

pub returns-in-Some-checked_add-clause-induced : goal.returns-in-Some-checked_add-clause-induced
returns-in-Some-checked_add-clause-induced t c =
    let first = c.in-Some.first.now in
    let d = predicate_at first in
    let ds = predicates_at c.in-Some.rest.now in
    let ids = c.args.bodies.now in
    let list = c.args.list.now in
    let new = c.push_induced.new.list in
    let number = c.args.number in
    let n : c.len-count.result ≡ length d.clauses = c.len-count.ensures ∙ sym (length-map (map clause_of first.clauses) clause ∙ length-map first.clauses clause_of) in
    let next : c.in-Some-checked_add.next ≡ suc number = omega (arith, c.in-Some-checked_add.ensures) in
    let one : Ind = record { symbol = number; clauses = c.in_ok-from_slice.field-0 } in
    let own : one.clauses ≡ take (length d.clauses) ids = c.in_ok-from_slice.ensures ∙ ap (λ (k : ℕ). take k ids) n in
    on_ok_weaker c.push_induced.result
    (λ h s. induced_step s list new number d ds ids one refl own (h s) ∙ ap (λ (xs : List IndTree). inductives_at s list ++ induced number (predicates_at xs) (trees_at s ids)) (sym c.in-Some.ensures.cases.0))
    (rw (c.in_ok-push.ensures.ok, take_rest ids c.len-count.result, next, n) at c.push_induced.ensures.induced)
