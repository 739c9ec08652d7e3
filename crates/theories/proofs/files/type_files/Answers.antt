use Rattle.std.proofs.Common.{ℕ, List}
use Rattle.std.proofs.lemmas.Result.{err_from_is_err_and}
use Rattle.tasks.proofs.trees.Nodes.{Grows_refl, Grows_trans}
use Rattle.surface.specs.declared.declarations.File.{File}
use Rattle.surface.specs.SurfaceDeclarations.{file_of}
use Rattle.theory_states.specs.declared.fault.SourceFault.{SourceFault}
use Rattle.theory_states.specs.States.{StateTree}
use Rattle.theories.specs.Files.{AreEmbeddedInBy, AreEmbeddedIn, AreEmbeddedFaultyIn, AreEmbeddedFaulty}
use Rattle.theories.specs.Sound.{AreSoundlyTyped}
use Rattle.theories.specs.Right.{between_at}
use Rattle.theories.proofs.Walking.{fault_so}
use Rattle.theories.proofs.Lists.{list_begins, list_next, list_fails, list_ends}
use Rattle.theories.proofs.Forgetting.{file_forgotten, first_so}
use Rattle.theories.proofs.files.type_files.Goals as goal
use Rattle.tasks.proofs.outside.Passed.{no_ok}

pub returns-clause-ok : goal.returns-clause-ok
returns-clause-ok c =
    let xs = c.args.files.now in
    let a = between_at c.args.store.now c.args.typed.now 0 in
    let b = between_at c.loop-path.store c.loop-path.typed 0 in
    let R : List ℕ × File → StateTree → StateTree → Type 0 = λ f. AreEmbeddedInBy AreSoundlyTyped f.0 (file_of f.1) in
    let F : List ℕ × File → StateTree → SourceFault → Type 0 = λ f. AreEmbeddedFaultyIn f.0 (file_of f.1) in
    list_ends R F a b xs c.loop-path.path-index c.loop-path-test.false c.loop-path.invariant.walk

pub returns-in_err-type_embedded-clause-err : goal.returns-in_err-type_embedded-clause-err
returns-in_err-type_embedded-clause-err c =
    let p = err_from_is_err_and c.from_residual.result c.from_residual.ensures.1 in
    let xs = c.args.files.now in
    let a = between_at c.args.store.now c.args.typed.now 0 in
    let b = between_at c.loop-path.store c.loop-path.typed 0 in
    let x = c.loop-path-item.result in
    let R : List ℕ × File → StateTree → StateTree → Type 0 = λ f. AreEmbeddedInBy AreSoundlyTyped f.0 (file_of f.1) in
    let F : List ℕ × File → StateTree → SourceFault → Type 0 = λ f. AreEmbeddedFaultyIn f.0 (file_of f.1) in
    let Q : List ℕ × File → StateTree → StateTree → Type 0 = λ f. AreEmbeddedIn f.0 (file_of f.1) in
    let k : (f : SourceFault) → AreEmbeddedFaultyIn x.0 (file_of x.1) b f → AreEmbeddedFaulty xs a f =
    λ f h. first_so R Q file_forgotten F xs a f (list_fails R F a b xs c.loop-path.path-index x c.loop-path-test.true c.loop-path-item.is c.loop-path.invariant.walk f h) in
    rw (p.1, p.2) (fault_so k c.in_err-type_embedded.field-0.0 (rw c.as_slice.ensures at c.in_err-type_embedded.ensures.err))

pub loop-path-preserved : goal.loop-path-preserved
loop-path-preserved c =
    let xs = c.args.files.now in
    let a = between_at c.args.store.now c.args.typed.now 0 in
    let b = between_at c.loop-path.store c.loop-path.typed 0 in
    let d = between_at c.type_embedded.new.store c.type_embedded.new.typed 0 in
    let x = c.loop-path-item.result in
    let R : List ℕ × File → StateTree → StateTree → Type 0 = λ f. AreEmbeddedInBy AreSoundlyTyped f.0 (file_of f.1) in
    let F : List ℕ × File → StateTree → SourceFault → Type 0 = λ f. AreEmbeddedFaultyIn f.0 (file_of f.1) in
    record {
      right = c.in_ok-type_embedded.ensures.right;
      grows = Grows_trans c.args.store.now c.loop-path.store c.type_embedded.new.store c.loop-path.invariant.grows c.type_embedded.ensures.grows;
      walk = list_next R F a b xs c.loop-path.path-index x c.loop-path-test.true c.loop-path-item.is c.loop-path.invariant.walk d (rw c.as_slice.ensures at c.in_ok-type_embedded.ensures.ok);
    }

pub returns-in_err-type_embedded-clause-ok : goal.returns-in_err-type_embedded-clause-ok
returns-in_err-type_embedded-clause-ok c = no_ok _ _ c.from_residual.result c.from_residual.ensures.1

pub returns-in_err-type_embedded-clause-right : goal.returns-in_err-type_embedded-clause-right
returns-in_err-type_embedded-clause-right c = no_ok _ _ c.from_residual.result c.from_residual.ensures.1

pub loop-path-init : goal.loop-path-init
loop-path-init c = record {
  right = c.requires;
  grows = Grows_refl c.args.store.now;
  walk = list_begins (λ (f : List ℕ × File). AreEmbeddedInBy AreSoundlyTyped f.0 (file_of f.1)) (λ (f : List ℕ × File). AreEmbeddedFaultyIn f.0 (file_of f.1)) (between_at c.args.store.now c.args.typed.now 0) c.args.files.now;
}

pub returns-clause-right : goal.returns-clause-right
returns-clause-right c = c.loop-path.invariant.right

pub returns-clause-grows : goal.returns-clause-grows
returns-clause-grows c = c.loop-path.invariant.grows

pub returns-in_err-type_embedded-clause-grows : goal.returns-in_err-type_embedded-clause-grows
returns-in_err-type_embedded-clause-grows c = Grows_trans c.args.store.now c.loop-path.store c.type_embedded.new.store c.loop-path.invariant.grows c.type_embedded.ensures.grows
