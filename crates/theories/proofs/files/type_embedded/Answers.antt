use Rattle.std.proofs.Common.{ℕ, List, map, refl, subst}
use Rattle.std.proofs.lemmas.Result.{err_from_is_err_and}
use Rattle.tasks.proofs.trees.Nodes.{Grows_refl, Grows_trans}
use Rattle.surface.specs.declared.declarations.TheoryTree.{TheoryTree}
use Rattle.surface.specs.Declarations.{SyntaxTheory}
use Rattle.surface.specs.SurfaceDeclarations.{theory_of}
use Rattle.theory_states.specs.declared.fault.SourceFault.{SourceFault}
use Rattle.theory_states.specs.States.{StateTree}
use Rattle.theory_states.specs.Uses.{OrMemory}
use Rattle.theories.specs.Files.{IsEmbeddedBy, IsEmbedded, IsNewTheoryBy, IsNewFault, AreEmbeddedFaultyIn}
use Rattle.theories.specs.Sound.{AreSoundlyTyped}
use Rattle.theories.specs.Right.{between_at}
use Rattle.theories.proofs.Forgetting.{embedded_forgotten, first_so}
use Rattle.theories.proofs.Walking.{fault_so}
use Rattle.theories.proofs.Lists.{list_begins, list_next, list_fails, list_ends, steps_map, fault_map}
use Rattle.theories.proofs.Passed.{no_memory}
use Rattle.theories.proofs.files.type_embedded.Goals as goal
use Rattle.tasks.proofs.outside.Passed.{no_ok}

pub returns-clause-ok : goal.returns-clause-ok
returns-clause-ok c =
    let path = c.args.path.now in
    let a = between_at c.args.store.now c.args.typed.now 0 in
    let b = between_at c.loop-theory.store c.loop-theory.typed 0 in
    let R : TheoryTree → StateTree → StateTree → Type 0 = λ t. IsEmbeddedBy AreSoundlyTyped path (theory_of t) in
    let F : TheoryTree → StateTree → SourceFault → Type 0 = λ t. IsNewFault path (theory_of t).name.at (theory_of t).decls in
    steps_map theory_of (IsEmbeddedBy AreSoundlyTyped path) (λ (t : SyntaxTheory). IsNewFault path t.name.at t.decls) c.args.theories.now a b (list_ends R F a b c.args.theories.now c.loop-theory.theory-index c.loop-theory-test.false c.loop-theory.invariant.walk)

pub returns-in_err-type_new-clause-err : goal.returns-in_err-type_new-clause-err
returns-in_err-type_new-clause-err c =
    let path = c.args.path.now in
    let p = err_from_is_err_and c.from_residual-in_err-type_new.result c.from_residual-in_err-type_new.ensures.1 in
    let a = between_at c.args.store.now c.args.typed.now 0 in
    let b = between_at c.loop-theory.store c.loop-theory.typed 0 in
    let xs = c.args.theories.now in
    let R : TheoryTree → StateTree → StateTree → Type 0 = λ t. IsEmbeddedBy AreSoundlyTyped path (theory_of t) in
    let F : TheoryTree → StateTree → SourceFault → Type 0 = λ t. IsNewFault path (theory_of t).name.at (theory_of t).decls in
    let G : SyntaxTheory → StateTree → SourceFault → Type 0 = λ t. IsNewFault path t.name.at t.decls in
    let x = theory_of c.theory-item.result in
    let k : (f : SourceFault) → IsNewFault path x.name.at x.decls b f → AreEmbeddedFaultyIn path (map theory_of xs) a f =
    λ f h. first_so (IsEmbeddedBy AreSoundlyTyped path) (IsEmbedded path) (embedded_forgotten path) G (map theory_of xs) a f (fault_map theory_of (IsEmbeddedBy AreSoundlyTyped path) G xs a f (list_fails R F a b xs c.loop-theory.theory-index c.theory-item.result c.loop-theory-test.true c.theory-item.is c.loop-theory.invariant.walk f h)) in
    rw (p.1, p.2) (fault_so k c.in_err-type_new.field-0.0 (subst (λ (y : List ℕ). OrMemory (IsNewFault y x.name.at x.decls b) c.in_err-type_new.field-0.0) c.in_ok-clone.ensures.cases c.in_err-type_new.ensures.err))

pub loop-theory-preserved : goal.loop-theory-preserved
loop-theory-preserved c =
    let path = c.args.path.now in
    let a = between_at c.args.store.now c.args.typed.now 0 in
    let b = between_at c.loop-theory.store c.loop-theory.typed 0 in
    let d = between_at c.type_new.new.store c.type_new.new.typed 0 in
    let R : TheoryTree → StateTree → StateTree → Type 0 = λ t. IsEmbeddedBy AreSoundlyTyped path (theory_of t) in
    let F : TheoryTree → StateTree → SourceFault → Type 0 = λ t. IsNewFault path (theory_of t).name.at (theory_of t).decls in
    let n = between_at c.type_new.new.store c.type_new.new.typed c.in_ok-type_new.field-0 in
    record {
      right = c.in_ok-type_new.ensures.right;
      grows = Grows_trans c.args.store.now c.loop-theory.store c.type_new.new.store c.loop-theory.invariant.grows c.type_new.ensures.grows;
      walk = list_next R F a b c.args.theories.now c.loop-theory.theory-index c.theory-item.result c.loop-theory-test.true c.theory-item.is c.loop-theory.invariant.walk d (record { between = n; first = subst (λ (x : List ℕ). IsNewTheoryBy AreSoundlyTyped x (theory_of c.theory-item.result).decls b n) c.in_ok-clone.ensures.cases c.in_ok-type_new.ensures.ok; second = refl });
    }

pub returns-in_err-clone-clause-ok : goal.returns-in_err-clone-clause-ok
returns-in_err-clone-clause-ok c = no_ok _ _ c.from_residual.result c.from_residual.ensures.1

pub returns-in_err-clone-clause-right : goal.returns-in_err-clone-clause-right
returns-in_err-clone-clause-right c = no_ok _ _ c.from_residual.result c.from_residual.ensures.1

pub returns-in_err-type_new-clause-ok : goal.returns-in_err-type_new-clause-ok
returns-in_err-type_new-clause-ok c = no_ok _ _ c.from_residual-in_err-type_new.result c.from_residual-in_err-type_new.ensures.1

pub returns-in_err-type_new-clause-right : goal.returns-in_err-type_new-clause-right
returns-in_err-type_new-clause-right c = no_ok _ _ c.from_residual-in_err-type_new.result c.from_residual-in_err-type_new.ensures.1

pub loop-theory-init : goal.loop-theory-init
loop-theory-init c = record {
  right = c.requires;
  grows = Grows_refl c.args.store.now;
  walk = list_begins (λ (t : TheoryTree). IsEmbeddedBy AreSoundlyTyped c.args.path.now (theory_of t)) (λ (t : TheoryTree). IsNewFault c.args.path.now (theory_of t).name.at (theory_of t).decls) (between_at c.args.store.now c.args.typed.now 0) c.args.theories.now;
}

pub returns-clause-right : goal.returns-clause-right
returns-clause-right c = c.loop-theory.invariant.right

pub returns-clause-grows : goal.returns-clause-grows
returns-clause-grows c = c.loop-theory.invariant.grows

pub returns-in_err-clone-clause-err : goal.returns-in_err-clone-clause-err
returns-in_err-clone-clause-err c = no_memory (AreEmbeddedFaultyIn c.args.path.now (map theory_of c.args.theories.now) (between_at c.args.store.now c.args.typed.now 0)) c.from_residual.result c.from_residual.ensures.1

pub returns-in_err-clone-clause-grows : goal.returns-in_err-clone-clause-grows
returns-in_err-clone-clause-grows c = c.loop-theory.invariant.grows

pub returns-in_err-type_new-clause-grows : goal.returns-in_err-type_new-clause-grows
returns-in_err-type_new-clause-grows c = Grows_trans c.args.store.now c.loop-theory.store c.type_new.new.store c.loop-theory.invariant.grows c.type_new.ensures.grows
