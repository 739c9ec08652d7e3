use Rattle.std.proofs.Common.{ℕ, List, map, subst}
use Rattle.std.proofs.lemmas.Result.{err_from_is_err_and, IfOk-weaker}
use Rattle.tasks.proofs.trees.Nodes.{Grows_refl}
use Rattle.surface.specs.declared.declarations.DeclTree.{DeclTree}
use Rattle.surface.specs.SurfaceDeclarations.{decl_of, decls, theory_of}
use Rattle.theory_states.specs.declared.fault.SourceFault.{SourceFault}
use Rattle.theory_states.specs.Meaning.{state_at}
use Rattle.theories.specs.Typing.{AreFaulty}
use Rattle.theories.specs.Files.{IsEnded, IsTypedTheoryBy, IsTheoryFault}
use Rattle.theories.specs.Sound.{AreSoundlyTyped}
use Rattle.theories.specs.Right.{between_at}
use Rattle.theories.proofs.Walking.{fault_so}
use Rattle.theories.proofs.Passed.{only_memory, no_memory}
use Rattle.theories.proofs.files.type_theory.Goals as goal
use Rattle.tasks.proofs.outside.Passed.{no_ok, no_value}

pub returns-in_err-open-clause-ok : goal.returns-in_err-open-clause-ok
returns-in_err-open-clause-ok c = no_value _ _ c.from_residual.result c.from_residual.ensures.1

pub returns-in_err-open-clause-right : goal.returns-in_err-open-clause-right
returns-in_err-open-clause-right c = no_ok _ _ c.from_residual.result c.from_residual.ensures.1

pub returns-in_err-type_decls-clause-ok : goal.returns-in_err-type_decls-clause-ok
returns-in_err-type_decls-clause-ok c = no_value _ _ c.from_residual-in_err-type_decls.result c.from_residual-in_err-type_decls.ensures.1

pub returns-in_err-type_decls-clause-right : goal.returns-in_err-type_decls-clause-right
returns-in_err-type_decls-clause-right c = no_ok _ _ c.from_residual-in_err-type_decls.result c.from_residual-in_err-type_decls.ensures.1

pub returns-clause-ok : goal.returns-clause-ok
returns-clause-ok c =
    let s = c.type_decls.new.store in
    let a = state_at c.args.store.now c.args.typed.now c.in_ok-open.open in
    let b = state_at s c.type_decls.new.typed c.type_decls.new.open in
    let t = c.end_theory.new.typed in
    let P : ℕ → Type 0 = λ n. IsEnded b (between_at s t n) in
    let Q : ℕ → Type 0 = λ n. IsTypedTheoryBy AreSoundlyTyped c.args.path (theory_of c.args.theory.now).decls (between_at c.args.store.now c.args.typed.now c.args.count) (between_at s t n) in
    let typed : AreSoundlyTyped (decls (map decl_of c.args.theory.now.decls)) a b = subst (λ (ds : List DeclTree). AreSoundlyTyped (decls (map decl_of ds)) a b) c.as_slice.ensures c.in_ok-type_decls.ensures.ok in
    let k : (n : ℕ) → P n → Q n = λ n h. record { between = a; first = c.in_ok-open.ensures.ok; second = record { between = b; first = typed; second = h } } in
    IfOk-weaker c.end_theory.result P Q k c.end_theory.ensures.ok

pub returns-clause-right : goal.returns-clause-right
returns-clause-right c = c.end_theory.ensures.right

pub returns-clause-err : goal.returns-clause-err
returns-clause-err c = only_memory (IsTheoryFault c.args.path (theory_of c.args.theory.now).decls (between_at c.args.store.now c.args.typed.now c.args.count)) c.end_theory.result c.end_theory.ensures.err

pub returns-clause-grows : goal.returns-clause-grows
returns-clause-grows c = c.type_decls.ensures.grows

pub returns-in_err-open-clause-err : goal.returns-in_err-open-clause-err
returns-in_err-open-clause-err c = no_memory (IsTheoryFault c.args.path (theory_of c.args.theory.now).decls (between_at c.args.store.now c.args.typed.now c.args.count)) c.from_residual.result c.from_residual.ensures.1

pub returns-in_err-open-clause-grows : goal.returns-in_err-open-clause-grows
returns-in_err-open-clause-grows c = Grows_refl c.args.store.now

pub returns-in_err-type_decls-clause-err : goal.returns-in_err-type_decls-clause-err
returns-in_err-type_decls-clause-err c =
    let p = err_from_is_err_and c.from_residual-in_err-type_decls.result c.from_residual-in_err-type_decls.ensures.1 in
    let a = state_at c.args.store.now c.args.typed.now c.in_ok-open.open in
    let ds = (theory_of c.args.theory.now).decls in
    let k : (f : SourceFault) → AreFaulty ds a f → IsTheoryFault c.args.path ds (between_at c.args.store.now c.args.typed.now c.args.count) f = λ f h. record { between = a; first = c.in_ok-open.ensures.ok; fault = h } in
    rw (p.1, p.2) (fault_so k c.in_err-type_decls.field-0.0 (rw c.as_slice.ensures at c.in_err-type_decls.ensures.err))

pub returns-in_err-type_decls-clause-grows : goal.returns-in_err-type_decls-clause-grows
returns-in_err-type_decls-clause-grows c = c.type_decls.ensures.grows
