use Rattle.std.proofs.Common.{◌≡◌, List, map, length, sym, ap, subst, ◌∙◌}
use Rattle.std.proofs.Math.ListN.{length-map}
use Rattle.std.specs.List.{AllByRecursion}
use Rattle.std.proofs.lemmas.List.Elements.{All-nil}
use Rattle.tasks.specs.trees.Tree.{Tree}
use Rattle.tasks.specs.trees.Sorts.{sort_of}
use Rattle.tasks.specs.trees.Node.{tree_at}
use Rattle.tasks.specs.Meaning.{trees_at}
use Rattle.name_resolution.specs.Naming.{where_at}
use Rattle.open_types.specs.Drafts.{match_at, due}
use Rattle.elab_groups.specs.parts.Declarations.{GroupMember}
use Rattle.elab_groups.specs.parts.Elaborated.{IsTypingFault}
use Rattle.elab_groups.proofs.parts.Solving.{if_err}
use Rattle.elab_groups.specs.declared.members.signing.Signed.{Signed}
use Rattle.elab_groups.specs.members.Members.{SignatureTree}
use Rattle.elab_groups.specs.members.Sources.{member_at, members_at, signed_at, SignedHeld, IsScopedSignature, AreResolved}
use Rattle.elab_groups.specs.Groups.{most_variables, bodies_pieces, pieces_notes, BodiesSolved}
use Rattle.elab_groups.specs.Bodies.{AreDefined, AreBodies}
use Rattle.elab_declarations.specs.inductive_declarations.Inductives.{formula_members, clause_signatures, inductive_decls}
use Rattle.elab_declarations.specs.inductive_declarations.Sources.{predicates_at}
use Rattle.elab_declarations.proofs.inductive_declarations.ClausesResolved.{signatures_scoped, formulas_defined, signatures_each}
use Rattle.elab_declarations.proofs.inductive_declarations.inductives.type_inductives.Goals as goal

pub solve_group-requires-clause-signed : goal.solve_group-requires-clause-signed
solve_group-requires-clause-signed c =
    let s = c.args.store.now in
    rw (c.as_slice-2.ensures.value) (c.in_ok-sign_inductives.ensures.held s (rw c.new-signed.ensures.items (All-nil (SignedHeld s))))

pub solve_group-requires-clause-own : goal.solve_group-requires-clause-own
solve_group-requires-clause-own c =
    let s = c.args.store.now in
    let ds = predicates_at c.args.inductives.now in
    let signed : map (signed_at s) c.as_slice-2.result.now ≡ clause_signatures ds = ap (map (signed_at s)) c.as_slice-2.ensures.value ∙ (rw c.new-signed.ensures.items at (c.in_ok-sign_inductives.ensures.signed s)) in
    subst (AllByRecursion IsScopedSignature) (sym signed) (signatures_scoped ds)

pub solve_group-requires-clause-resolved : goal.solve_group-requires-clause-resolved
solve_group-requires-clause-resolved c =
    let s = c.args.store.now in
    let w = where_at s c.args.world.now in
    let ds = predicates_at c.args.inductives.now in
    let signed : map (signed_at s) c.as_slice-2.result.now ≡ clause_signatures ds = ap (map (signed_at s)) c.as_slice-2.ensures.value ∙ (rw c.new-signed.ensures.items at (c.in_ok-sign_inductives.ensures.signed s)) in
    let members : members_at c.as_slice.result.now ≡ formula_members ds = ap members_at c.as_slice.ensures.value ∙ (rw c.new-clauses.ensures.items at c.in_ok-push_formulas.ensures) in
    subst (λ (ms : List GroupMember). AreResolved w ms (map (signed_at s) c.as_slice-2.result.now)) (sym members) (subst (AreResolved w (formula_members ds)) (sym signed) c.requires.resolved)

pub solve_group-requires-clause-each : goal.solve_group-requires-clause-each
solve_group-requires-clause-each c =
    let s = c.args.store.now in
    let ds = predicates_at c.args.inductives.now in
    let signed : map (signed_at s) c.as_slice-2.result.now ≡ clause_signatures ds = ap (map (signed_at s)) c.as_slice-2.ensures.value ∙ (rw c.new-signed.ensures.items at (c.in_ok-sign_inductives.ensures.signed s)) in
    let members : members_at c.as_slice.result.now ≡ formula_members ds = ap members_at c.as_slice.ensures.value ∙ (rw c.new-clauses.ensures.items at c.in_ok-push_formulas.ensures) in
    sym (length-map c.as_slice-2.result.now (signed_at s)) ∙ (ap length signed ∙ (signatures_each ds ∙ (sym (ap length members) ∙ length-map c.as_slice.result.now member_at)))

pub inductive_decls-requires-clause-held : goal.inductive_decls-requires-clause-held
inductive_decls-requires-clause-held c = rw c.as_slice-bodies.ensures.value c.in_ok-it.ensures.held.trees

pub inductive_decls-requires-clause-each : goal.inductive_decls-requires-clause-each
inductive_decls-requires-clause-each c =
    let s = c.args.store.now in
    let s1 = c.solve_group.new.store in
    let ds = predicates_at c.args.inductives.now in
    let its = c.as_slice-2.result.now in
    let signed : map (signed_at s) its ≡ clause_signatures ds = ap (map (signed_at s)) c.as_slice-2.ensures.value ∙ (rw c.new-signed.ensures.items at (c.in_ok-sign_inductives.ensures.signed s)) in
    let members : members_at c.as_slice.result.now ≡ formula_members ds = ap members_at c.as_slice.ensures.value ∙ (rw c.new-clauses.ensures.items at c.in_ok-push_formulas.ensures) in
    let bodies : AreBodies s1 its c.in_ok-it.it.trees.items = c.in_ok-it.ensures.bodies (subst AreDefined (sym members) (formulas_defined ds)) in
    let ids = c.in_ok-it.it.trees.items in
    ap length c.as_slice-bodies.ensures.value
    ∙ (sym (length-map ids (tree_at s1)) ∙ (sym (length-map (trees_at s1 ids) sort_of) ∙ (ap length bodies.sorts ∙ (length-map its (λ (it : Signed). due it.result)
    ∙ (sym (length-map its (signed_at s)) ∙ (ap length signed ∙ signatures_each ds))))))

pub returns-in_err-it-clause-err : goal.returns-in_err-it-clause-err
returns-in_err-it-clause-err c =
    let s = c.args.store.now in
    let w = where_at s c.args.world.now in
    let ds = predicates_at c.args.inductives.now in
    let signed : map (signed_at s) c.as_slice-2.result.now ≡ clause_signatures ds = ap (map (signed_at s)) c.as_slice-2.ensures.value ∙ (rw c.new-signed.ensures.items at (c.in_ok-sign_inductives.ensures.signed s)) in
    let members : members_at c.as_slice.result.now ≡ formula_members ds = ap members_at c.as_slice.ensures.value ∙ (rw c.new-clauses.ensures.items at c.in_ok-push_formulas.ensures) in
    let k = subst (λ (gs : List SignatureTree). IsTypingFault (most_variables gs) (pieces_notes (bodies_pieces w (formula_members ds) gs)) c.in_err-it.field-0.0) signed
    (subst (λ (ms : List GroupMember). IsTypingFault (most_variables (map (signed_at s) c.as_slice-2.result.now)) (pieces_notes (bodies_pieces w ms (map (signed_at s) c.as_slice-2.result.now))) c.in_err-it.field-0.0) members c.in_err-it.ensures.err) in
    if_err c.from_residual-in_err-it.result _ (IsTypingFault (most_variables (clause_signatures ds)) (pieces_notes (bodies_pieces w (formula_members ds) (clause_signatures ds)))) c.from_residual-in_err-it.ensures.1 (λ f h. rw h k)

pub returns-clause-ok : goal.returns-clause-ok
returns-clause-ok c =
    let s = c.args.store.now in
    let s1 = c.solve_group.new.store in
    let p = c.args.place.now in
    let w = where_at s c.args.world.now in
    let ds = predicates_at c.args.inductives.now in
    let it = c.in_ok-it.it in
    let ms1 = map (match_at s1) it.matches in
    let clauses : List Tree = trees_at s1 it.trees.items in
    let signed : map (signed_at s) c.as_slice-2.result.now ≡ clause_signatures ds = ap (map (signed_at s)) c.as_slice-2.ensures.value ∙ (rw c.new-signed.ensures.items at (c.in_ok-sign_inductives.ensures.signed s)) in
    let members : members_at c.as_slice.result.now ≡ formula_members ds = ap members_at c.as_slice.ensures.value ∙ (rw c.new-clauses.ensures.items at c.in_ok-push_formulas.ensures) in
    let solved : BodiesSolved w (formula_members ds) (clause_signatures ds) clauses ms1 =
    subst (λ (gs : List SignatureTree). BodiesSolved w (formula_members ds) gs clauses ms1) signed (subst (λ (ms : List GroupMember). BodiesSolved w ms (map (signed_at s) c.as_slice-2.result.now) clauses ms1) members c.in_ok-it.ensures.ok) in
    record {
      clauses = clauses;
      solved = solved;
      decls = c.in_ok-decls.ensures.decls ∙ ap (λ (bs : List Tree). inductive_decls p.theory.now p.within.now ds c.args.number bs) (ap (trees_at s1) c.as_slice-bodies.ensures.value);
      rigid = c.new.ensures;
      decls_held = c.in_ok-decls.ensures.held;
      matches_held = c.in_ok-it.ensures.held.matches;
    }
