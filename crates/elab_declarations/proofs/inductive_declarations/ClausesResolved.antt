-- Clauses of predicates without a fault of names: nothing lacks where they are walked with their own type variables.
use Rattle.std.proofs.Common.{◌≡◌, true, List, [], ◌∷◌, ◌++◌, map, length, suc, None, refl, sym, ap, subst}
use Rattle.std.specs.List.{All, AllByRecursion}
use Rattle.std.proofs.lemmas.List.Elements.{All-append, All-cons, All-nil}
use Rattle.tasks.specs.trees.declared.TermId.{TermId}
use Rattle.tasks.specs.trees.Tree.{Tree}
use Rattle.surface.specs.Lexeme.{Word}
use Rattle.name_resolution.specs.Faults.{first_of, fault}
use Rattle.name_resolution.specs.Where.{Where}
use Rattle.name_resolution.proofs.variables.Closing.{closed}
use Rattle.open_types.specs.Drafts.{HoldsType}
use Rattle.open_types.proofs.Walking.{none_both, both_none}
use Rattle.elab_groups.specs.parts.Declarations.{InductiveClause, InductivePredicate, GroupMember, signature_variables, clause_variables, params_fault, clauses_fault, inductives_fault}
use Rattle.elab_groups.specs.declared.members.signing.Signed.{Signed}
use Rattle.elab_groups.specs.members.Members.{SignatureTree, member_fault, members_fault}
use Rattle.elab_groups.specs.members.Sources.{SignedHeld, IsScopedSignature, AreResolved}
use Rattle.elab_groups.specs.Bodies.{AreDefined}
use Rattle.elab_declarations.specs.inductive_declarations.Inductives.{as_member, as_members, formula, formula_members, clause_signature, clause_signatures}

-- the predicates alone have none
pub members_right : (w : Where) (ds : List InductivePredicate) → inductives_fault w ds ≡ None → members_fault w (as_members ds) ≡ None
members_right w [] h = refl
members_right w (d ∷ ds) h =
    let p = none_both (params_fault w true d.params) (first_of (clauses_fault w d.clauses) (inductives_fault w ds)) h in
    let q = none_both (clauses_fault w d.clauses) (inductives_fault w ds) p.1 in
    both_none (member_fault w (as_member d)) (members_fault w (as_members ds)) (both_none (params_fault w true d.params) None p.0 refl) (members_right w ds q.1)

-- ---- clauses
clauses_resolved : (w : Where) (d : InductivePredicate) (cs : List InductiveClause) (ms : List GroupMember) (gs : List SignatureTree) → clauses_fault w cs ≡ None → AreResolved w ms gs
    → AreResolved w (map (formula d.called) cs ++ ms) (map (clause_signature d) cs ++ gs)
clauses_resolved w d [] ms gs h k = k
clauses_resolved w d (c ∷ cs) ms gs h k =
    let p = none_both (fault w true [] true c.prop) (clauses_fault w cs) h in
    let own = closed w (clause_variables d c) c.prop (record { vars = signature_variables d.params None; widths = [] }) [] true p.0 (λ v m. m) in
    (record { right = own; count = refl; kind = refl }, clauses_resolved w d cs ms gs p.1 k)

pub formulas_resolved : (w : Where) (ds : List InductivePredicate) → inductives_fault w ds ≡ None → AreResolved w (formula_members ds) (clause_signatures ds)
formulas_resolved w [] h = tt
formulas_resolved w (d ∷ ds) h =
    let p = none_both (params_fault w true d.params) (first_of (clauses_fault w d.clauses) (inductives_fault w ds)) h in
    let q = none_both (clauses_fault w d.clauses) (inductives_fault w ds) p.1 in
    clauses_resolved w d d.clauses (formula_members ds) (clause_signatures ds) q.0 (formulas_resolved w ds q.1)

-- they have no parameters and no result
clauses_scoped : (d : InductivePredicate) (cs : List InductiveClause) (gs : List SignatureTree) → AllByRecursion IsScopedSignature gs → AllByRecursion IsScopedSignature (map (clause_signature d) cs ++ gs)
clauses_scoped d [] gs h = h
clauses_scoped d (c ∷ cs) gs h = (record { args = tt; result = tt }, clauses_scoped d cs gs h)

pub signatures_scoped : (ds : List InductivePredicate) → AllByRecursion IsScopedSignature (clause_signatures ds)
signatures_scoped [] = tt
signatures_scoped (d ∷ ds) = clauses_scoped d d.clauses (clause_signatures ds) (signatures_scoped ds)

-- each has a body
clauses_defined : (d : InductivePredicate) (cs : List InductiveClause) (ms : List GroupMember) → AreDefined ms → AreDefined (map (formula d.called) cs ++ ms)
clauses_defined d [] ms h = h
clauses_defined d (c ∷ cs) ms h = (refl, clauses_defined d cs ms h)

pub formulas_defined : (ds : List InductivePredicate) → AreDefined (formula_members ds)
formulas_defined [] = tt
formulas_defined (d ∷ ds) = clauses_defined d d.clauses (formula_members ds) (formulas_defined ds)

-- and a signature
clauses_signed : (d : InductivePredicate) (cs : List InductiveClause) (ms : List GroupMember) (gs : List SignatureTree) → length gs ≡ length ms → length (map (clause_signature d) cs ++ gs) ≡ length (map (formula d.called) cs ++ ms)
clauses_signed d [] ms gs h = h
clauses_signed d (c ∷ cs) ms gs h = ap suc (clauses_signed d cs ms gs h)

pub signatures_each : (ds : List InductivePredicate) → length (clause_signatures ds) ≡ length (formula_members ds)
signatures_each [] = refl
signatures_each (d ∷ ds) = clauses_signed d d.clauses (formula_members ds) (clause_signatures ds) (signatures_each ds)

-- ---- in code
pub signed_more : (s : List Tree) (list : List Signed) (vars : List Word) (args : List TermId) → args ≡ [] → All (SignedHeld s) list → All (SignedHeld s) (list ++ record { vars = vars; args = args; result = None } ∷ [])
signed_more s list vars args e h =
    let one : Signed = record { vars = vars; args = args; result = None } in
    let held : SignedHeld s one = record { args = subst (All (HoldsType s)) (sym e) (All-nil (HoldsType s)); result = tt } in
    All-append (SignedHeld s) list (one ∷ []) h (All-cons (SignedHeld s) one [] held (All-nil (SignedHeld s)))
