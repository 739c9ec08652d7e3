use Rattle.std.proofs.Common.{◌≡◌, ℕ, Option, None, Err, unwrap_or, sym, ap, subst}
use Rattle.tasks.proofs.trees.Nodes.{Grows_refl}
use Rattle.tasks.specs.Meaning.{symbols_at}
use Rattle.surface.specs.declared.declarations.ElemNode.{ElemNode}
use Rattle.surface.specs.SurfaceDeclarations.{element_by}
use Rattle.name_resolution.specs.declared.NamingFault.{NamingFault}
use Rattle.name_resolution.specs.Naming.{Tells, scope_at}
use Rattle.clones.specs.clone_elements.Rights.{symbol_right, symbol_missing, right_fault, right_made}
use Rattle.clones.proofs.clone_elements.Compared.{err_passed}
use Rattle.clones.proofs.clone_elements.rights.right_side.Goals as goal
use Rattle.tasks.proofs.outside.Passed.{no_ok, no_value}

pub returns-in_ok-symbol-in-SymbolElem-clause-made : goal.returns-in_ok-symbol-in-SymbolElem-clause-made
returns-in_ok-symbol-in-SymbolElem-clause-made c = λ token.
    let s = c.args.store.now in
    let k = c.in_ok-symbol-in-SymbolElem.symbol in
    subst (λ (n : ElemNode). symbol_right k ≡ right_made (symbols_at s c.args.sig.now.symbols) (scope_at s c.args.scope.now) (element_by n token)) (sym c.in-SymbolElem.is)
    (ap (λ (o : Option ℕ). symbol_right (unwrap_or o 0)) (sym (c.in_ok-symbol-in-SymbolElem.ensures.found s)))

pub returns-in_ok-symbol-in-SymbolElem-clause-free : goal.returns-in_ok-symbol-in-SymbolElem-clause-free
returns-in_ok-symbol-in-SymbolElem-clause-free c = λ token.
    let s = c.args.store.now in
    subst (λ (n : ElemNode). right_fault (symbols_at s c.args.sig.now.symbols) (scope_at s c.args.scope.now) (element_by n token) ≡ None) (sym c.in-SymbolElem.is)
    (ap (symbol_missing c.in-SymbolElem.name.at) (c.in_ok-symbol-in-SymbolElem.ensures.found s))

pub returns-in_err-symbol-in-SymbolElem-clause-err : goal.returns-in_err-symbol-in-SymbolElem-clause-err
returns-in_err-symbol-in-SymbolElem-clause-err c =
    let s = c.args.store.now in
    let g = c.in_err-symbol-in-SymbolElem.field-0.0 in
    let first : ElemNode → ℕ → Option NamingFault = λ n token. right_fault (symbols_at s c.args.sig.now.symbols) (scope_at s c.args.scope.now) (element_by n token) in
    err_passed (λ (f : NamingFault). (token : ℕ) → Tells (Err f) (first c.args.node.now token)) c.from_residual-in_err-symbol-in-SymbolElem.result g c.from_residual-in_err-symbol-in-SymbolElem.ensures.1
    (λ token. subst (λ (n : ElemNode). Tells (Err g) (first n token)) (sym c.in-SymbolElem.is) (c.in_err-symbol-in-SymbolElem.ensures.err s))

pub returns-in_err-id-in-TypeElem-clause-entries : goal.returns-in_err-id-in-TypeElem-clause-entries
returns-in_err-id-in-TypeElem-clause-entries c = no_ok _ _ c.from_residual.result c.from_residual.ensures.1

pub returns-in_err-id-in-TypeElem-clause-held : goal.returns-in_err-id-in-TypeElem-clause-held
returns-in_err-id-in-TypeElem-clause-held c = no_value _ _ c.from_residual.result c.from_residual.ensures.1

pub returns-in_err-id-in-TypeElem-clause-made : goal.returns-in_err-id-in-TypeElem-clause-made
returns-in_err-id-in-TypeElem-clause-made c = no_value _ _ c.from_residual.result c.from_residual.ensures.1

pub returns-in_err-id-in-TypeElem-clause-within : goal.returns-in_err-id-in-TypeElem-clause-within
returns-in_err-id-in-TypeElem-clause-within c = no_value _ _ c.from_residual.result c.from_residual.ensures.1

pub returns-in_err-id-in-TypeElem-clause-free : goal.returns-in_err-id-in-TypeElem-clause-free
returns-in_err-id-in-TypeElem-clause-free c = no_ok _ _ c.from_residual.result c.from_residual.ensures.1

pub returns-in_err-symbol-in-SymbolElem-clause-entries : goal.returns-in_err-symbol-in-SymbolElem-clause-entries
returns-in_err-symbol-in-SymbolElem-clause-entries c = no_ok _ _ c.from_residual-in_err-symbol-in-SymbolElem.result c.from_residual-in_err-symbol-in-SymbolElem.ensures.1

pub returns-in_err-symbol-in-SymbolElem-clause-held : goal.returns-in_err-symbol-in-SymbolElem-clause-held
returns-in_err-symbol-in-SymbolElem-clause-held c = no_value _ _ c.from_residual-in_err-symbol-in-SymbolElem.result c.from_residual-in_err-symbol-in-SymbolElem.ensures.1

pub returns-in_err-symbol-in-SymbolElem-clause-made : goal.returns-in_err-symbol-in-SymbolElem-clause-made
returns-in_err-symbol-in-SymbolElem-clause-made c = no_value _ _ c.from_residual-in_err-symbol-in-SymbolElem.result c.from_residual-in_err-symbol-in-SymbolElem.ensures.1

pub returns-in_err-symbol-in-SymbolElem-clause-within : goal.returns-in_err-symbol-in-SymbolElem-clause-within
returns-in_err-symbol-in-SymbolElem-clause-within c = no_value _ _ c.from_residual-in_err-symbol-in-SymbolElem.result c.from_residual-in_err-symbol-in-SymbolElem.ensures.1

pub returns-in_err-symbol-in-SymbolElem-clause-free : goal.returns-in_err-symbol-in-SymbolElem-clause-free
returns-in_err-symbol-in-SymbolElem-clause-free c = no_ok _ _ c.from_residual-in_err-symbol-in-SymbolElem.result c.from_residual-in_err-symbol-in-SymbolElem.ensures.1

pub right_type-requires-clause-signature : goal.right_type-requires-clause-signature
right_type-requires-clause-signature c = c.requires.signature

pub right_type-requires-clause-scopes : goal.right_type-requires-clause-scopes
right_type-requires-clause-scopes c = c.requires.scopes

pub returns-in_err-id-in-TypeElem-clause-grows : goal.returns-in_err-id-in-TypeElem-clause-grows
returns-in_err-id-in-TypeElem-clause-grows c = c.right_type.ensures.grows

pub returns-in_err-symbol-in-SymbolElem-clause-grows : goal.returns-in_err-symbol-in-SymbolElem-clause-grows
returns-in_err-symbol-in-SymbolElem-clause-grows c = Grows_refl c.args.store.now

pub returns-in_ok-id-in-TypeElem-clause-grows : goal.returns-in_ok-id-in-TypeElem-clause-grows
returns-in_ok-id-in-TypeElem-clause-grows c = c.right_type.ensures.grows

pub returns-in_ok-id-in-TypeElem-clause-held : goal.returns-in_ok-id-in-TypeElem-clause-held
returns-in_ok-id-in-TypeElem-clause-held c = c.in_ok-id-in-TypeElem.ensures.held

pub returns-in_ok-id-in-TypeElem-clause-err : goal.returns-in_ok-id-in-TypeElem-clause-err
returns-in_ok-id-in-TypeElem-clause-err c = tt

pub returns-in_ok-symbol-in-SymbolElem-clause-err : goal.returns-in_ok-symbol-in-SymbolElem-clause-err
returns-in_ok-symbol-in-SymbolElem-clause-err c = tt

pub returns-in_ok-symbol-in-SymbolElem-clause-held : goal.returns-in_ok-symbol-in-SymbolElem-clause-held
returns-in_ok-symbol-in-SymbolElem-clause-held c = tt

pub returns-in_ok-symbol-in-SymbolElem-clause-grows : goal.returns-in_ok-symbol-in-SymbolElem-clause-grows
returns-in_ok-symbol-in-SymbolElem-clause-grows c = Grows_refl c.args.store.now

pub returns-in-PropElem-clause-err : goal.returns-in-PropElem-clause-err
returns-in-PropElem-clause-err c = tt

pub returns-in-PropElem-clause-held : goal.returns-in-PropElem-clause-held
returns-in-PropElem-clause-held c = tt

pub returns-in-PropElem-clause-grows : goal.returns-in-PropElem-clause-grows
returns-in-PropElem-clause-grows c = Grows_refl c.args.store.now

pub returns-in-AllAxioms-clause-err : goal.returns-in-AllAxioms-clause-err
returns-in-AllAxioms-clause-err c = tt

pub returns-in-AllAxioms-clause-held : goal.returns-in-AllAxioms-clause-held
returns-in-AllAxioms-clause-held c = tt

pub returns-in-AllAxioms-clause-grows : goal.returns-in-AllAxioms-clause-grows
returns-in-AllAxioms-clause-grows c = Grows_refl c.args.store.now
