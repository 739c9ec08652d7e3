use Rattle.std.proofs.Common.{sym, subst}
use Rattle.std.proofs.lemmas.Result.{on_ok_weaker}
use Rattle.tasks.proofs.trees.Nodes.{Grows_refl}
use Rattle.theory_states.specs.States.{StateTree}
use Rattle.parser.specs.std_theories.Library.{AreFilesOf, library}
use Rattle.theories.specs.Files.{AreEmbeddedBy, AreEmbeddedFaulty, IsLibraryFault}
use Rattle.theories.specs.Sound.{AreSoundlyTyped}
use Rattle.theories.specs.Right.{between_at}
use Rattle.theories.proofs.Walking.{answer_so}
use Rattle.theories.proofs.Passed.{no_memory}
use Rattle.theories.proofs.files.type_library.Goals as goal
use Rattle.tasks.proofs.outside.Passed.{no_ok}

pub returns-clause-ok : goal.returns-clause-ok
returns-clause-ok c =
    let xs = c.as_slice.result.now in
    let are : AreFilesOf library xs = subst (AreFilesOf library) (sym c.as_slice.ensures.value) c.in_ok-files.ensures in
    let b = between_at c.type_files-done.new.store c.type_files-done.new.typed 0 in
    on_ok_weaker c.type_files-done.result (λ h. record { files = xs; are = are; typed = subst (λ (z : StateTree). AreEmbeddedBy AreSoundlyTyped xs z b) c.requires.nothing h }) c.type_files-done.ensures.ok

pub returns-clause-err : goal.returns-clause-err
returns-clause-err c =
    let xs = c.as_slice.result.now in
    let are : AreFilesOf library xs = subst (AreFilesOf library) (sym c.as_slice.ensures.value) c.in_ok-files.ensures in
    let a = between_at c.args.store.now c.args.typed.now 0 in
    answer_so (AreEmbeddedFaulty xs a) IsLibraryFault (λ f h. record { files = xs; are = are; fault = subst (λ (z : StateTree). AreEmbeddedFaulty xs z f) c.requires.nothing h }) c.type_files-done.result c.type_files-done.ensures.err

pub returns-in_err-files-clause-ok : goal.returns-in_err-files-clause-ok
returns-in_err-files-clause-ok c = no_ok _ _ c.from_residual.result c.from_residual.ensures.1

pub returns-in_err-files-clause-right : goal.returns-in_err-files-clause-right
returns-in_err-files-clause-right c = no_ok _ _ c.from_residual.result c.from_residual.ensures.1

pub returns-clause-right : goal.returns-clause-right
returns-clause-right c = c.type_files-done.ensures.right

pub returns-clause-grows : goal.returns-clause-grows
returns-clause-grows c = c.type_files-done.ensures.grows

pub returns-in_err-files-clause-err : goal.returns-in_err-files-clause-err
returns-in_err-files-clause-err c = no_memory IsLibraryFault c.from_residual.result c.from_residual.ensures.1

pub returns-in_err-files-clause-grows : goal.returns-in_err-files-clause-grows
returns-in_err-files-clause-grows c = Grows_refl c.args.store.now
