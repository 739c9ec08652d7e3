use Rattle.std.proofs.Common.{◌≡◌, ℕ, map, length, inl, inr, sym, ap, ◌∙◌}
use Rattle.std.proofs.lemmas.Result.{err_from_is_err_and, IfOk-weaker}
use Rattle.std.proofs.lemmas.List.{length-map}
use Rattle.tasks.proofs.trees.Nodes.{Grows_refl, Grows_trans}
use Rattle.surface.specs.SurfaceDeclarations.{file_of}
use Rattle.elaboration_laws.specs.theory_states.declared.goal_tasks.theories.Theories.{Theories}
use Rattle.elaboration_laws.specs.theory_states.goal_tasks.Meaning.{theories_at}
use Rattle.theory_states.specs.declared.fault.SourceFault.{SourceFault}
use Rattle.theory_states.specs.Meaning.{known_at}
use Rattle.theories.specs.Files.{AreFaultyIn, theories_of, TheoriesOf, IsLibraryFault, IsFirstSourceFault}
use Rattle.theories.specs.Sound.{SoundTheoriesOf}
use Rattle.theories.specs.Right.{between_at}
use Rattle.theories.proofs.Forgetting.{library_forgotten, forgotten}
use Rattle.theories.proofs.Walking.{fault_so}
use Rattle.theories.proofs.Passed.{only_memory, no_memory}
use Rattle.theories.proofs.files.type_file.Goals as goal
use Rattle.tasks.proofs.outside.Passed.{no_value}

pub type_library-requires-clause-right : goal.type_library-requires-clause-right
type_library-requires-clause-right c = c.in_ok-typed.ensures.right c.args.store.now

pub returns-clause-sound : goal.returns-clause-sound
returns-clause-sound c =
    let s = c.type_library.new.store in
    let t = c.type_library.new.typed in
    let s' = c.type_theories.new.store in
    let t' = c.type_theories.new.typed in
    let done = rw c.as_slice.ensures at c.in_ok-type_theories.ensures.ok in
    let after = between_at s' t' done.0 in
    let count : c.len-embedded.result ≡ length (map (known_at s) t.known) = c.len-embedded.ensures ∙ sym (length-map t.known (known_at s)) in
    let P : Theories → Type 0 = λ all. (n : ℕ) → theories_at s' all ≡ theories_of c.len-embedded.result (between_at s' t' n) in
    let Q : Theories → Type 0 = λ all. SoundTheoriesOf (file_of c.args.file.now) (theories_at s' all) in
    let k : (all : Theories) → P all → Q all = λ all h. record {
      before = between_at s t 0;
      library = c.in_ok-type_library.ensures.ok;
      after = after;
      typed = done.1;
      are = h done.0 ∙ ap (λ (n : ℕ). theories_of n after) count;
    } in
    IfOk-weaker c.collect.result P Q k c.collect.ensures.ok

pub returns-clause-ok : goal.returns-clause-ok
returns-clause-ok c =
    let s = c.args.store.now in
    let s' = c.type_theories.new.store in
    let source = file_of c.args.file.now in
    let P : Theories → Type 0 = λ all. SoundTheoriesOf source (theories_at s' all) in
    let Q : Theories → Type 0 = λ all. TheoriesOf source (theories_at s' all) in
    let k : (all : Theories) → P all → Q all = λ all h. forgotten source (theories_at s' all) h in
    IfOk-weaker c.collect.result P Q k (returns-clause-sound c)

pub returns-clause-held : goal.returns-clause-held
returns-clause-held c = c.collect.ensures.held

pub returns-clause-tuples : goal.returns-clause-tuples
returns-clause-tuples c = c.collect.ensures.tuples

pub returns-clause-err : goal.returns-clause-err
returns-clause-err c = only_memory (IsFirstSourceFault (file_of c.args.file.now)) c.collect.result c.collect.ensures.err

pub returns-clause-grows : goal.returns-clause-grows
returns-clause-grows c = Grows_trans c.args.store.now c.type_library.new.store c.type_theories.new.store c.type_library.ensures.grows c.type_theories.ensures.grows

pub returns-in_err-type_theories-clause-err : goal.returns-in_err-type_theories-clause-err
returns-in_err-type_theories-clause-err c =
    let p = err_from_is_err_and c.from_residual-in_err-type_theories.result c.from_residual-in_err-type_theories.ensures.1 in
    let source = file_of c.args.file.now in
    let before = between_at c.type_library.new.store c.type_library.new.typed 0 in
    let k : (f : SourceFault) → AreFaultyIn source before f → IsFirstSourceFault source f = λ f h. inr (record { before = before; library = library_forgotten before c.in_ok-type_library.ensures.ok; fault = h }) in
    rw (p.1, p.2) (fault_so k c.in_err-type_theories.field-0.0 (rw c.as_slice.ensures at c.in_err-type_theories.ensures.err))

pub returns-in_err-typed-clause-ok : goal.returns-in_err-typed-clause-ok
returns-in_err-typed-clause-ok c = no_value _ _ c.from_residual.result c.from_residual.ensures.1

pub returns-in_err-typed-clause-sound : goal.returns-in_err-typed-clause-sound
returns-in_err-typed-clause-sound c = no_value _ _ c.from_residual.result c.from_residual.ensures.1

pub returns-in_err-typed-clause-held : goal.returns-in_err-typed-clause-held
returns-in_err-typed-clause-held c = no_value _ _ c.from_residual.result c.from_residual.ensures.1

pub returns-in_err-typed-clause-tuples : goal.returns-in_err-typed-clause-tuples
returns-in_err-typed-clause-tuples c = no_value _ _ c.from_residual.result c.from_residual.ensures.1

pub returns-in_err-type_library-clause-ok : goal.returns-in_err-type_library-clause-ok
returns-in_err-type_library-clause-ok c = no_value _ _ c.from_residual-in_err-type_library.result c.from_residual-in_err-type_library.ensures.1

pub returns-in_err-type_library-clause-sound : goal.returns-in_err-type_library-clause-sound
returns-in_err-type_library-clause-sound c = no_value _ _ c.from_residual-in_err-type_library.result c.from_residual-in_err-type_library.ensures.1

pub returns-in_err-type_library-clause-held : goal.returns-in_err-type_library-clause-held
returns-in_err-type_library-clause-held c = no_value _ _ c.from_residual-in_err-type_library.result c.from_residual-in_err-type_library.ensures.1

pub returns-in_err-type_library-clause-tuples : goal.returns-in_err-type_library-clause-tuples
returns-in_err-type_library-clause-tuples c = no_value _ _ c.from_residual-in_err-type_library.result c.from_residual-in_err-type_library.ensures.1

pub returns-in_err-type_theories-clause-ok : goal.returns-in_err-type_theories-clause-ok
returns-in_err-type_theories-clause-ok c = no_value _ _ c.from_residual-in_err-type_theories.result c.from_residual-in_err-type_theories.ensures.1

pub returns-in_err-type_theories-clause-sound : goal.returns-in_err-type_theories-clause-sound
returns-in_err-type_theories-clause-sound c = no_value _ _ c.from_residual-in_err-type_theories.result c.from_residual-in_err-type_theories.ensures.1

pub returns-in_err-type_theories-clause-held : goal.returns-in_err-type_theories-clause-held
returns-in_err-type_theories-clause-held c = no_value _ _ c.from_residual-in_err-type_theories.result c.from_residual-in_err-type_theories.ensures.1

pub returns-in_err-type_theories-clause-tuples : goal.returns-in_err-type_theories-clause-tuples
returns-in_err-type_theories-clause-tuples c = no_value _ _ c.from_residual-in_err-type_theories.result c.from_residual-in_err-type_theories.ensures.1

pub returns-in_err-typed-clause-err : goal.returns-in_err-typed-clause-err
returns-in_err-typed-clause-err c = no_memory (IsFirstSourceFault (file_of c.args.file.now)) c.from_residual.result c.from_residual.ensures.1

pub returns-in_err-typed-clause-grows : goal.returns-in_err-typed-clause-grows
returns-in_err-typed-clause-grows c = Grows_refl c.args.store.now

pub returns-in_err-type_library-clause-err : goal.returns-in_err-type_library-clause-err
returns-in_err-type_library-clause-err c =
    let p = err_from_is_err_and c.from_residual-in_err-type_library.result c.from_residual-in_err-type_library.ensures.1 in
    let source = file_of c.args.file.now in
    let k : (f : SourceFault) → IsLibraryFault f → IsFirstSourceFault source f = λ f h. inl h in
    rw (p.1, p.2) (fault_so k c.in_err-type_library.field-0.0 c.in_err-type_library.ensures.err)

pub returns-in_err-type_library-clause-grows : goal.returns-in_err-type_library-clause-grows
returns-in_err-type_library-clause-grows c = c.type_library.ensures.grows

pub returns-in_err-type_theories-clause-grows : goal.returns-in_err-type_theories-clause-grows
returns-in_err-type_theories-clause-grows c = Grows_trans c.args.store.now c.type_library.new.store c.type_theories.new.store c.type_library.ensures.grows c.type_theories.ensures.grows
