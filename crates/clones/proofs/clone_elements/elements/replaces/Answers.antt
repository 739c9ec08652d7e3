use Rattle.std.proofs.Common.{◌≡◌, true, false, get_or, sym, ap, subst₂, ◌∙◌}
use Rattle.tasks.specs.Task.{SymbolTree, symbol_or}
use Rattle.tasks.specs.Meaning.{symbols_at}
use Rattle.clones.specs.Meaning.{map_at}
use Rattle.clones.specs.clone_elements.Elements.{is_kind_of_word, IsSameSignature}
use Rattle.clones.proofs.clone_elements.Looked.{typed_held}
use Rattle.clones.proofs.clone_elements.elements.replaces.Goals as goal
use Rattle.tasks.proofs.outside.Passed.{no_ok, no_value}

pub same_signature-requires-clause-held : goal.same_signature-requires-clause-held
same_signature-requires-clause-held c = c.entry_or-old.ensures.held c.args.store.now (λ k d l. typed_held c.args.store.now (get_or c.args.trial.now.sig.now.symbols k d) (c.requires.trial.signature.typed k d l))

pub same_signature-requires-clause-other_held : goal.same_signature-requires-clause-other_held
same_signature-requires-clause-other_held c = c.entry_or-new.ensures.held c.args.store.now (λ k d l. typed_held c.args.store.now (get_or c.args.trial.now.sig.now.symbols k d) (c.requires.trial.signature.typed k d l))

pub same_signature-requires-clause-map_held : goal.same_signature-requires-clause-map_held
same_signature-requires-clause-map_held c = c.requires.trial.morphism

pub same_signature-requires-clause-known : goal.same_signature-requires-clause-known
same_signature-requires-clause-known c = c.requires.known

pub returns-then-kind-clause-same : goal.returns-then-kind-clause-same
returns-then-kind-clause-same c =
    let s = c.args.store.now in
    let x = c.args.trial.now in
    let m = map_at s x.morphism.now in
    let int = c.requires.trial.signature.int in
    let old = c.entry_or-old.ensures.entry s int ∙ ap (symbol_or (symbols_at s x.sig.now.symbols)) (c.symbol_at_place-symbol.ensures s) in
    let new = c.entry_or-new.ensures.entry s int in
    let kind = ap (λ (e : SymbolTree). is_kind_of_word e.kind c.args.word) (sym new) ∙ sym c.is_kind-kind.ensures ∙ c.if-kind.true in
    (λ r. record { kind = kind; signature = subst₂ (IsSameSignature m) old new (c.in_ok-same.ensures.same.0 r) }, λ h. c.in_ok-same.ensures.same.1 (subst₂ (IsSameSignature m) (sym old) (sym new) h.signature))

pub returns-then-kind-clause-known : goal.returns-then-kind-clause-known
returns-then-kind-clause-known c = c.in_ok-same.ensures.known

pub returns-then-kind-clause-grows : goal.returns-then-kind-clause-grows
returns-then-kind-clause-grows c = c.same_signature.ensures.grows

pub returns-else-kind-clause-same : goal.returns-else-kind-clause-same
returns-else-kind-clause-same c =
    let s = c.args.store.now in
    let new = c.entry_or-new.ensures.entry s c.requires.trial.signature.int in
    (λ r. let e : false ≡ true = sym c.if-kind.false ∙ r in cc, λ h. c.is_kind-kind.ensures ∙ ap (λ (e : SymbolTree). is_kind_of_word e.kind c.args.word) new ∙ h.kind)

pub returns-else-kind-clause-known : goal.returns-else-kind-clause-known
returns-else-kind-clause-known c = c.in_ok-same.ensures.known

pub returns-else-kind-clause-grows : goal.returns-else-kind-clause-grows
returns-else-kind-clause-grows c = c.same_signature.ensures.grows

pub returns-in_err-same-clause-same : goal.returns-in_err-same-clause-same
returns-in_err-same-clause-same c = no_value _ _ c.from_residual.result c.from_residual.ensures.1

pub returns-in_err-same-clause-known : goal.returns-in_err-same-clause-known
returns-in_err-same-clause-known c = no_ok _ _ c.from_residual.result c.from_residual.ensures.1

pub returns-in_err-same-clause-grows : goal.returns-in_err-same-clause-grows
returns-in_err-same-clause-grows c = c.same_signature.ensures.grows
