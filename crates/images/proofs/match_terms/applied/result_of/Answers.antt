use Rattle.std.proofs.Common.{◌≡◌, Some, None, slice_get, option_map, option_copied, IfSome, ap, sym, subst, ◌∙◌}
use Rattle.std.proofs.lemmas.Option.{get_or_from_slice_get, slice_get_within}
use Rattle.trees.specs.Node.{tree_at, Holds}
use Rattle.tasks.specs.declared.signature.Signature.{Signature}
use Rattle.tasks.specs.Task.{SymbolTree}
use Rattle.tasks.specs.Meaning.{SymbolHeld}
use Rattle.images.proofs.match_terms.Entries.{entry_is}
use Rattle.images.proofs.match_terms.applied.result_of.Goals as goal

pub unreachable-requires-in-None : goal.unreachable-requires-in-None
unreachable-requires-in-None c =
    let s = c.args.store.now in
    let symbols = c.args.look.task.now.sig.value.symbols in
    let q : slice_get symbols c.args.function ≡ None = ap (λ (z : Signature). slice_get z.symbols c.args.function) (sym c.deref.ensures) ∙ sym c.get.ensures.value ∙ ap option_copied c.in-None.is in
    let e = ap (λ (x : SymbolTree). x.result) (entry_is s symbols c.args.function None q) in
    absurd (let z = sym e ∙ c.requires.result.is in cc)

pub returns-clause-is : goal.returns-clause-is
returns-clause-is c =
    let s = c.args.store.now in
    let symbols = c.args.look.task.now.sig.value.symbols in
    let q : slice_get symbols c.args.function ≡ Some c.in-Some.info.now = ap (λ (z : Signature). slice_get z.symbols c.args.function) (sym c.deref.ensures) ∙ sym c.get.ensures.value ∙ ap option_copied c.in-Some.is in
    ap (λ (x : SymbolTree). x.result) (entry_is s symbols c.args.function (Some c.in-Some.info.now) q) ∙ ap (option_map (tree_at s)) c.in-Some-result.is

pub returns-clause-held : goal.returns-clause-held
returns-clause-held c =
    let s = c.args.store.now in
    let symbols = c.args.look.task.now.sig.value.symbols in
    let q : slice_get symbols c.args.function ≡ Some c.in-Some.info.now = ap (λ (z : Signature). slice_get z.symbols c.args.function) (sym c.deref.ensures) ∙ sym c.get.ensures.value ∙ ap option_copied c.in-Some.is in
    let h : SymbolHeld s c.in-Some.info.now = subst (SymbolHeld s) (get_or_from_slice_get symbols c.args.function c.in-Some.info.now c.in-Some.info.now q) (c.requires.look.task.symbols c.args.function c.in-Some.info.now (slice_get_within symbols c.args.function c.in-Some.info.now q)) in
    subst (λ o. IfSome o (Holds s)) c.in-Some-result.is h.result
