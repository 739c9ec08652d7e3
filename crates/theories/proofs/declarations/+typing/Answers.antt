use Rattle.std.proofs.Common.{◌≡◌, ℕ, List, map, subst, ◌∙◌, inl, inr}
use Rattle.std.proofs.lemmas.Result.{err_from_is_err_and, on_ok_weaker}
use Rattle.tasks.proofs.trees.Nodes.{Grows_refl, Grows_trans}
use Rattle.surface.specs.declared.declarations.DeclTree.{DeclTree}
use Rattle.surface.specs.declared.declarations.DeclNode.TheVariants as dv
use Rattle.surface.specs.Declarations.{use_decl, clone_decl, scope_decl}
use Rattle.surface.specs.SurfaceDeclarations.{decl_of, decls, element_of}
use Rattle.surface.proofs.DeclLemmas.{decl_is, decl_of_node-UseTheory, decl_of_node-CloneTheory, decl_of_node-ScopeDecl}
use Rattle.theory_states.specs.declared.fault.SourceFault.{SourceFault}
use Rattle.theory_states.specs.Meaning.{state_at}
use Rattle.theory_states.specs.Uses.{IsUnknownTheory}
use Rattle.theories.specs.declaring.Declared.{IsDeclaredFault}
use Rattle.theories.specs.cloning.Cloned.{IsCloneFault}
use Rattle.theories.specs.Typing.{IsTwice, IsLeft, AreFaulty, IsDeclarationFault}
use Rattle.theories.specs.Sound.{AreSoundlyTyped}
use Rattle.theories.proofs.Walking.{walk_begins, walk_next, walk_fails, walk_ends, logical_typed, logical_fault, fault_so, answer_so}
use Rattle.theories.proofs.Passed.{only_memory}
use Rattle.theories.proofs.declarations.+typing.Goals as goal

pub type_decl-returns-in_err-enter_scope-in-ScopeDecl-clause-err : goal.type_decl-returns-in_err-enter_scope-in-ScopeDecl-clause-err
type_decl-returns-in_err-enter_scope-in-ScopeDecl-clause-err t c =
    let e = decl_is c.args.decl.now (dv.ScopeDecl c.in-ScopeDecl.name c.in-ScopeDecl.within) c.in-ScopeDecl.is ∙ decl_of_node-ScopeDecl c.in-ScopeDecl.name c.in-ScopeDecl.within c.args.decl.now.at in
    let p = err_from_is_err_and c.from_residual-in_err-enter_scope-in-ScopeDecl.result c.from_residual-in_err-enter_scope-in-ScopeDecl.ensures.1 in
    let a = state_at c.args.store.now c.args.typed.now c.args.open.now in
    let k : (f : SourceFault) → IsTwice c.in-ScopeDecl.name a f → IsDeclarationFault (scope_decl c.args.decl.now.at c.in-ScopeDecl.name (decls (map decl_of c.in-ScopeDecl.within))) a f = λ f h. inl h in
    rw (p.1, p.2, e) (fault_so k c.in_err-enter_scope-in-ScopeDecl.field-0.0 c.in_err-enter_scope-in-ScopeDecl.ensures.err)

pub type_decl-returns-in_err-type_decls-in-ScopeDecl-clause-err : goal.type_decl-returns-in_err-type_decls-in-ScopeDecl-clause-err
type_decl-returns-in_err-type_decls-in-ScopeDecl-clause-err t c =
    let e = decl_is c.args.decl.now (dv.ScopeDecl c.in-ScopeDecl.name c.in-ScopeDecl.within) c.in-ScopeDecl.is ∙ decl_of_node-ScopeDecl c.in-ScopeDecl.name c.in-ScopeDecl.within c.args.decl.now.at in
    let p = err_from_is_err_and c.from_residual-in_err-type_decls-in-ScopeDecl.result c.from_residual-in_err-type_decls-in-ScopeDecl.ensures.1 in
    let a = state_at c.args.store.now c.args.typed.now c.args.open.now in
    let b = state_at c.args.store.now c.args.typed.now c.enter_scope.new.open in
    let k : (f : SourceFault) → AreFaulty (decls (map decl_of c.in-ScopeDecl.within)) b f → IsDeclarationFault (scope_decl c.args.decl.now.at c.in-ScopeDecl.name (decls (map decl_of c.in-ScopeDecl.within))) a f =
    λ f h. inr (record { between = b; first = c.in_ok-enter_scope-in-ScopeDecl.ensures.ok; fault = h }) in
    rw (p.1, p.2, e) (fault_so k c.in_err-type_decls-in-ScopeDecl.field-0.0 (rw c.as_slice-in-ScopeDecl.ensures at c.in_err-type_decls-in-ScopeDecl.ensures.err))

pub type_decl-returns-in_ok-type_decls-in-ScopeDecl-clause-ok : goal.type_decl-returns-in_ok-type_decls-in-ScopeDecl-clause-ok
type_decl-returns-in_ok-type_decls-in-ScopeDecl-clause-ok t c =
    let e = decl_is c.args.decl.now (dv.ScopeDecl c.in-ScopeDecl.name c.in-ScopeDecl.within) c.in-ScopeDecl.is ∙ decl_of_node-ScopeDecl c.in-ScopeDecl.name c.in-ScopeDecl.within c.args.decl.now.at in
    let b = state_at c.args.store.now c.args.typed.now c.enter_scope.new.open in
    let d = state_at c.type_decls.new.store c.type_decls.new.typed c.type_decls.new.open in
    let outer : c.in_ok-outer-in-ScopeDecl.outer.items ≡ c.args.open.now.within.items = c.in_ok-outer-in-ScopeDecl.ensures.items ∙ c.as_slice.ensures.value in
    rw e (on_ok_weaker c.leave_scope.result (λ q. record {
      between = b;
      first = c.in_ok-enter_scope-in-ScopeDecl.ensures.ok;
      second = record {
        between = d;
        first = subst (λ (ds : List DeclTree). AreSoundlyTyped (decls (map decl_of ds)) b d) c.as_slice-in-ScopeDecl.ensures c.in_ok-type_decls-in-ScopeDecl.ensures.ok;
        second = subst (λ (w : List ℕ). IsLeft w d (state_at c.type_decls.new.store c.type_decls.new.typed c.leave_scope.new.open)) outer q;
      };
    }) c.leave_scope.ensures.ok)

pub type_decl-returns-in_ok-type_decls-in-ScopeDecl-clause-err : goal.type_decl-returns-in_ok-type_decls-in-ScopeDecl-clause-err
type_decl-returns-in_ok-type_decls-in-ScopeDecl-clause-err t c = only_memory (IsDeclarationFault (decl_of c.args.decl.now) (state_at c.args.store.now c.args.typed.now c.args.open.now)) c.leave_scope.result c.leave_scope.ensures.err

pub type_decl-returns-in-UseTheory-clause-ok : goal.type_decl-returns-in-UseTheory-clause-ok
type_decl-returns-in-UseTheory-clause-ok t c =
    let e = decl_is c.args.decl.now (dv.UseTheory c.in-UseTheory.link c.in-UseTheory.path c.in-UseTheory.alias) c.in-UseTheory.is ∙ decl_of_node-UseTheory c.in-UseTheory.link c.in-UseTheory.path c.in-UseTheory.alias c.args.decl.now.at in
    rw e c.type_use.ensures.ok

pub type_decl-returns-in-UseTheory-clause-err : goal.type_decl-returns-in-UseTheory-clause-err
type_decl-returns-in-UseTheory-clause-err t c =
    let e = decl_is c.args.decl.now (dv.UseTheory c.in-UseTheory.link c.in-UseTheory.path c.in-UseTheory.alias) c.in-UseTheory.is ∙ decl_of_node-UseTheory c.in-UseTheory.link c.in-UseTheory.path c.in-UseTheory.alias c.args.decl.now.at in
    let a = state_at c.args.store.now c.args.typed.now c.args.open.now in
    rw e (answer_so (IsUnknownTheory c.in-UseTheory.path a.known a.number) (IsDeclarationFault (use_decl c.args.decl.now.at c.in-UseTheory.link c.in-UseTheory.path c.in-UseTheory.alias) a) (λ f h. h) c.type_use.result c.type_use.ensures.err)

pub type_decl-returns-in-CloneTheory-clause-ok : goal.type_decl-returns-in-CloneTheory-clause-ok
type_decl-returns-in-CloneTheory-clause-ok t c =
    let e = decl_is c.args.decl.now (dv.CloneTheory c.in-CloneTheory.link c.in-CloneTheory.path c.in-CloneTheory.alias c.in-CloneTheory.elements) c.in-CloneTheory.is ∙ decl_of_node-CloneTheory c.in-CloneTheory.link c.in-CloneTheory.path c.in-CloneTheory.alias c.in-CloneTheory.elements c.args.decl.now.at in
    rw e (rw c.as_slice-elements.ensures at c.type_clone.ensures.ok)

pub type_decl-returns-in-CloneTheory-clause-err : goal.type_decl-returns-in-CloneTheory-clause-err
type_decl-returns-in-CloneTheory-clause-err t c =
    let e = decl_is c.args.decl.now (dv.CloneTheory c.in-CloneTheory.link c.in-CloneTheory.path c.in-CloneTheory.alias c.in-CloneTheory.elements) c.in-CloneTheory.is ∙ decl_of_node-CloneTheory c.in-CloneTheory.link c.in-CloneTheory.path c.in-CloneTheory.alias c.in-CloneTheory.elements c.args.decl.now.at in
    let a = state_at c.args.store.now c.args.typed.now c.args.open.now in
    let es = map element_of c.in-CloneTheory.elements in
    rw e (answer_so (IsCloneFault c.in-CloneTheory.path es a) (IsDeclarationFault (clone_decl c.args.decl.now.at c.in-CloneTheory.link c.in-CloneTheory.path c.in-CloneTheory.alias es) a) (λ f h. h) c.type_clone.result (rw c.as_slice-elements.ensures at c.type_clone.ensures.err))

pub type_decls-returns-in_err-type_decl-clause-err : goal.type_decls-returns-in_err-type_decl-clause-err
type_decls-returns-in_err-type_decl-clause-err t c =
    let p = err_from_is_err_and c.from_residual.result c.from_residual.ensures.1 in
    let a = state_at c.args.store.now c.args.typed.now c.args.open.now in
    let b = state_at c.loop-decl.store c.loop-decl.typed c.loop-decl.open in
    let k : (f : SourceFault) → IsDeclarationFault (decl_of c.decl-item.result) b f → AreFaulty (decls (map decl_of c.args.within.now)) a f = λ f h. walk_fails a b c.args.within.now c.loop-decl.decl-index c.decl-item.result c.loop-decl-test.true c.decl-item.is c.loop-decl.invariant.walk f h in
    rw (p.1, p.2) (fault_so k c.in_err-type_decl.field-0.0 c.in_err-type_decl.ensures.err)

pub type_decls-loop-decl-preserved : goal.type_decls-loop-decl-preserved
type_decls-loop-decl-preserved t c =
    let a = state_at c.args.store.now c.args.typed.now c.args.open.now in
    let b = state_at c.loop-decl.store c.loop-decl.typed c.loop-decl.open in
    record {
      right = c.in_ok-type_decl.ensures.right;
      grows = Grows_trans c.args.store.now c.loop-decl.store c.type_decl.new.store c.loop-decl.invariant.grows c.type_decl.ensures.grows;
      walk = walk_next a b c.args.within.now c.loop-decl.decl-index c.decl-item.result c.loop-decl-test.true c.decl-item.is c.loop-decl.invariant.walk (state_at c.type_decl.new.store c.type_decl.new.typed c.type_decl.new.open) c.in_ok-type_decl.ensures.ok;
    }

pub type_decl-type_logical-requires-clause-right : goal.type_decl-type_logical-requires-clause-right
type_decl-type_logical-requires-clause-right t c = c.requires

pub type_decl-type_logical-requires-clause-logical : goal.type_decl-type_logical-requires-clause-logical
type_decl-type_logical-requires-clause-logical t c = c.is_logical.ensures.0 c.if-is_logical.true

pub type_decl-returns-then-is_logical-clause-ok : goal.type_decl-returns-then-is_logical-clause-ok
type_decl-returns-then-is_logical-clause-ok t c =
    let a = state_at c.args.store.now c.args.typed.now c.args.open.now in
    let b = state_at c.type_logical.new.store c.type_logical.new.typed c.type_logical.new.open in
    on_ok_weaker c.type_logical.result (logical_typed (decl_of c.args.decl.now) (c.is_logical.ensures.0 c.if-is_logical.true) a b) c.type_logical.ensures.ok

pub type_decl-returns-then-is_logical-clause-right : goal.type_decl-returns-then-is_logical-clause-right
type_decl-returns-then-is_logical-clause-right t c = c.type_logical.ensures.right

pub type_decl-returns-then-is_logical-clause-err : goal.type_decl-returns-then-is_logical-clause-err
type_decl-returns-then-is_logical-clause-err t c =
    let d = decl_of c.args.decl.now in
    let a = state_at c.args.store.now c.args.typed.now c.args.open.now in
    answer_so (IsDeclaredFault d a) (IsDeclarationFault d a) (logical_fault d (c.is_logical.ensures.0 c.if-is_logical.true) a) c.type_logical.result c.type_logical.ensures.err

pub type_decl-returns-then-is_logical-clause-grows : goal.type_decl-returns-then-is_logical-clause-grows
type_decl-returns-then-is_logical-clause-grows t c = c.type_logical.ensures.grows

pub type_decl-enter_scope-requires : goal.type_decl-enter_scope-requires
type_decl-enter_scope-requires t c = c.requires

pub type_decl-leave_scope-requires : goal.type_decl-leave_scope-requires
type_decl-leave_scope-requires t c = c.in_ok-type_decls-in-ScopeDecl.ensures.right

pub type_decl-returns-in_err-type_decls-in-ScopeDecl-clause-grows : goal.type_decl-returns-in_err-type_decls-in-ScopeDecl-clause-grows
type_decl-returns-in_err-type_decls-in-ScopeDecl-clause-grows t c = c.type_decls.ensures.grows

pub type_decl-returns-in_ok-type_decls-in-ScopeDecl-clause-right : goal.type_decl-returns-in_ok-type_decls-in-ScopeDecl-clause-right
type_decl-returns-in_ok-type_decls-in-ScopeDecl-clause-right t c = c.leave_scope.ensures.right

pub type_decl-returns-in_ok-type_decls-in-ScopeDecl-clause-grows : goal.type_decl-returns-in_ok-type_decls-in-ScopeDecl-clause-grows
type_decl-returns-in_ok-type_decls-in-ScopeDecl-clause-grows t c = c.type_decls.ensures.grows

pub type_decl-type_use-requires : goal.type_decl-type_use-requires
type_decl-type_use-requires t c = c.requires

pub type_decl-type_clone-requires : goal.type_decl-type_clone-requires
type_decl-type_clone-requires t c = c.requires

pub type_decl-returns-in-UseTheory-clause-right : goal.type_decl-returns-in-UseTheory-clause-right
type_decl-returns-in-UseTheory-clause-right t c = c.type_use.ensures.right

pub type_decl-returns-in-CloneTheory-clause-right : goal.type_decl-returns-in-CloneTheory-clause-right
type_decl-returns-in-CloneTheory-clause-right t c = c.type_clone.ensures.right

pub type_decl-returns-in-CloneTheory-clause-grows : goal.type_decl-returns-in-CloneTheory-clause-grows
type_decl-returns-in-CloneTheory-clause-grows t c = c.type_clone.ensures.grows

pub type_decls-returns-clause-ok : goal.type_decls-returns-clause-ok
type_decls-returns-clause-ok t c =
    let a = state_at c.args.store.now c.args.typed.now c.args.open.now in
    let b = state_at c.loop-decl.store c.loop-decl.typed c.loop-decl.open in
    walk_ends a b c.args.within.now c.loop-decl.decl-index c.loop-decl-test.false c.loop-decl.invariant.walk

pub type_decls-returns-clause-right : goal.type_decls-returns-clause-right
type_decls-returns-clause-right t c = c.loop-decl.invariant.right

pub type_decls-returns-clause-grows : goal.type_decls-returns-clause-grows
type_decls-returns-clause-grows t c = c.loop-decl.invariant.grows

pub type_decls-returns-in_err-type_decl-clause-grows : goal.type_decls-returns-in_err-type_decl-clause-grows
type_decls-returns-in_err-type_decl-clause-grows t c = Grows_trans c.args.store.now c.loop-decl.store c.type_decl.new.store c.loop-decl.invariant.grows c.type_decl.ensures.grows

pub type_decls-loop-decl-init : goal.type_decls-loop-decl-init
type_decls-loop-decl-init t c = record {
  right = c.requires;
  grows = Grows_refl c.args.store.now;
  walk = walk_begins (state_at c.args.store.now c.args.typed.now c.args.open.now) (decls (map decl_of c.args.within.now));
}
