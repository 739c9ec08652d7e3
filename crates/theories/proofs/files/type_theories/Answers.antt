use Rattle.std.proofs.Common.{ℕ, List, map, subst}
use Rattle.std.proofs.lemmas.Result.{err_from_is_err_and}
use Rattle.tasks.proofs.trees.Nodes.{Grows_refl, Grows_trans}
use Rattle.surface.specs.declared.declarations.TheoryTree.{TheoryTree}
use Rattle.surface.specs.Declarations.{SyntaxTheory}
use Rattle.surface.specs.SurfaceDeclarations.{theory_of}
use Rattle.theory_states.specs.declared.fault.SourceFault.{SourceFault}
use Rattle.theory_states.specs.States.{StateTree}
use Rattle.theory_states.specs.Uses.{OrMemory}
use Rattle.theories.specs.Files.{IsNewTheoryBy, IsNewTheory, IsNewFault, AreFaultyIn}
use Rattle.theories.specs.Sound.{AreSoundlyTyped}
use Rattle.theories.specs.Right.{between_at}
use Rattle.theories.proofs.Forgetting.{new_forgotten, first_so}
use Rattle.theories.proofs.Walking.{fault_so}
use Rattle.theories.proofs.Lists.{list_begins, list_next, list_fails, list_ends, steps_map, fault_map}
use Rattle.theories.proofs.Passed.{no_memory}
use Rattle.theories.proofs.files.type_theories.Goals as goal
use Rattle.tasks.proofs.outside.Passed.{no_ok}

abbrev N : SyntaxTheory → StateTree → StateTree → Type 0
N t = IsNewTheoryBy AreSoundlyTyped t.name.text t.decls

abbrev G : SyntaxTheory → StateTree → SourceFault → Type 0
G t = IsNewFault t.name.text t.name.at t.decls

abbrev R : TheoryTree → StateTree → StateTree → Type 0
R t = N (theory_of t)

abbrev F : TheoryTree → StateTree → SourceFault → Type 0
F t = G (theory_of t)

pub returns-clause-ok : goal.returns-clause-ok
returns-clause-ok c =
    let a = between_at c.args.store.now c.args.typed.now 0 in
    let b = between_at c.loop-theory.store c.loop-theory.typed c.loop-theory.count in
    (c.loop-theory.count, steps_map theory_of N G c.args.theories.now a b (list_ends R F a b c.args.theories.now c.loop-theory.theory-index c.loop-theory-test.false c.loop-theory.invariant.walk))

pub returns-in_err-count-clause-err : goal.returns-in_err-count-clause-err
returns-in_err-count-clause-err c =
    let p = err_from_is_err_and c.from_residual-in_err-count.result c.from_residual-in_err-count.ensures.1 in
    let a = between_at c.args.store.now c.args.typed.now 0 in
    let b = between_at c.loop-theory.store c.loop-theory.typed c.loop-theory.count in
    let x = theory_of c.theory-item.result in
    let xs = c.args.theories.now in
    let Q : SyntaxTheory → StateTree → StateTree → Type 0 = λ t. IsNewTheory t.name.text t.decls in
    let k : (f : SourceFault) → IsNewFault x.name.text x.name.at x.decls b f → AreFaultyIn (map theory_of xs) a f =
    λ f h. first_so N Q (λ t. new_forgotten t.name.text t.decls) G (map theory_of xs) a f (fault_map theory_of N G xs a f (list_fails R F a b xs c.loop-theory.theory-index c.theory-item.result c.loop-theory-test.true c.theory-item.is c.loop-theory.invariant.walk f h)) in
    rw (p.1, p.2) (fault_so k c.in_err-count.field-0.0 (subst (λ (q : List ℕ). OrMemory (IsNewFault q x.name.at x.decls b) c.in_err-count.field-0.0) c.in_ok-path.ensures.cases c.in_err-count.ensures.err))

pub loop-theory-preserved : goal.loop-theory-preserved
loop-theory-preserved c =
    let a = between_at c.args.store.now c.args.typed.now 0 in
    let b = between_at c.loop-theory.store c.loop-theory.typed c.loop-theory.count in
    let d = between_at c.type_new.new.store c.type_new.new.typed c.in_ok-count.count in
    let x = theory_of c.theory-item.result in
    record {
      right = c.in_ok-count.ensures.right;
      grows = Grows_trans c.args.store.now c.loop-theory.store c.type_new.new.store c.loop-theory.invariant.grows c.type_new.ensures.grows;
      walk = list_next R F a b c.args.theories.now c.loop-theory.theory-index c.theory-item.result c.loop-theory-test.true c.theory-item.is c.loop-theory.invariant.walk d (subst (λ (p : List ℕ). IsNewTheoryBy AreSoundlyTyped p x.decls b d) c.in_ok-path.ensures.cases c.in_ok-count.ensures.ok);
    }

pub returns-in_err-path-clause-ok : goal.returns-in_err-path-clause-ok
returns-in_err-path-clause-ok c = no_ok _ _ c.from_residual.result c.from_residual.ensures.1

pub returns-in_err-path-clause-right : goal.returns-in_err-path-clause-right
returns-in_err-path-clause-right c = no_ok _ _ c.from_residual.result c.from_residual.ensures.1

pub returns-in_err-count-clause-ok : goal.returns-in_err-count-clause-ok
returns-in_err-count-clause-ok c = no_ok _ _ c.from_residual-in_err-count.result c.from_residual-in_err-count.ensures.1

pub returns-in_err-count-clause-right : goal.returns-in_err-count-clause-right
returns-in_err-count-clause-right c = no_ok _ _ c.from_residual-in_err-count.result c.from_residual-in_err-count.ensures.1

pub loop-theory-init : goal.loop-theory-init
loop-theory-init c = record { right = c.requires; grows = Grows_refl c.args.store.now; walk = list_begins R F (between_at c.args.store.now c.args.typed.now 0) c.args.theories.now }

pub returns-clause-right : goal.returns-clause-right
returns-clause-right c = c.loop-theory.invariant.right

pub returns-clause-grows : goal.returns-clause-grows
returns-clause-grows c = c.loop-theory.invariant.grows

pub returns-in_err-path-clause-err : goal.returns-in_err-path-clause-err
returns-in_err-path-clause-err c = no_memory (AreFaultyIn (map theory_of c.args.theories.now) (between_at c.args.store.now c.args.typed.now 0)) c.from_residual.result c.from_residual.ensures.1

pub returns-in_err-path-clause-grows : goal.returns-in_err-path-clause-grows
returns-in_err-path-clause-grows c = c.loop-theory.invariant.grows

pub returns-in_err-count-clause-grows : goal.returns-in_err-count-clause-grows
returns-in_err-count-clause-grows c = Grows_trans c.args.store.now c.loop-theory.store c.type_new.new.store c.loop-theory.invariant.grows c.type_new.ensures.grows
