use Rattle.std.proofs.Common.{◌≡◌, ◌<◌, ◌++◌, ap, sym, ◌∙◌, subst}
use Rattle.tasks.specs.Meaning.{algebraics_at}
use Rattle.checks.specs.decl_checks.Values.{type_symbols, is_member, IsClosedOver}
use Rattle.checks.proofs.decl_checks.Saturated.{AreKnown, left_out, left_smaller, more_known, valued, saturated_iff}
use Rattle.checks.proofs.decl_checks.values.are_inhabited.Goals as goal

pub loop-symbol-smaller : goal.loop-symbol-smaller
loop-symbol-smaller c =
    let ts = algebraics_at c.args.store.now c.args.types.now in
    let group : c.as_slice.result.now ≡ type_symbols ts = c.as_slice.ensures.value ∙ c.in_ok-push_type_symbols.ensures ∙ ap (λ y. y ++ type_symbols ts) c.new-group.ensures.items in
    let n = valued c.as_slice.result.now (type_symbols ts) c.as_slice-in-loop-symbol.result.now c.loop-symbol.known.items ts c.in-Some.symbol group c.as_slice-in-loop-symbol.ensures.value c.in-Some.ensures in
    subst (λ ks. left_out ks ts < left_out c.loop-symbol.known.items ts) (sym c.in_ok-push.ensures.items) (left_smaller (type_symbols ts) c.loop-symbol.known.items ts c.in-Some.symbol n)

pub loop-symbol-preserved : goal.loop-symbol-preserved
loop-symbol-preserved c =
    let ts = algebraics_at c.args.store.now c.args.types.now in
    let group : c.as_slice.result.now ≡ type_symbols ts = c.as_slice.ensures.value ∙ c.in_ok-push_type_symbols.ensures ∙ ap (λ y. y ++ type_symbols ts) c.new-group.ensures.items in
    let n = valued c.as_slice.result.now (type_symbols ts) c.as_slice-in-loop-symbol.result.now c.loop-symbol.known.items ts c.in-Some.symbol group c.as_slice-in-loop-symbol.ensures.value c.in-Some.ensures in
    subst (AreKnown ts) (sym c.in_ok-push.ensures.items) (more_known ts c.loop-symbol.known.items c.in-Some.symbol c.loop-symbol.invariant n)

pub returns : goal.returns
returns c =
    let ts = algebraics_at c.args.store.now c.args.types.now in
    let known = c.loop-symbol.known.items in
    let items : c.push_type_symbols.new.out.items ≡ type_symbols ts = c.in_ok-push_type_symbols.ensures ∙ ap (λ y. y ++ type_symbols ts) c.new-group.ensures.items in
    let closed : IsClosedOver c.as_slice.result.now ts (is_member c.as_slice-in-loop-symbol.result.now) = c.in_default.ensures in
    saturated_iff ts known c.as_slice.result.now c.as_slice-in-loop-symbol.result.now c.as_slice-2.result.now c.as_slice-3.result.now c.are_among.result
    (c.as_slice.ensures.value ∙ items) c.as_slice-in-loop-symbol.ensures.value (c.as_slice-2.ensures.value ∙ items) c.as_slice-3.ensures.value c.loop-symbol.invariant closed c.are_among.ensures
