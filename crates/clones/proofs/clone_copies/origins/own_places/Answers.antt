use Rattle.std.proofs.Common.{◌≡◌, ◌+◌, ◌++◌, ◌<◌, ℕ, List, drop, get_or, length, sym, ap, subst, ◌∙◌, append_assoc}
use Rattle.std.proofs.lemmas.List.{at_drop_more}
use Rattle.tasks.specs.Meaning.{declarations_at}
use Rattle.clones.specs.clone_copies.Origins.{own_at, own_among}
use Rattle.clones.proofs.clone_copies.origins.own_places.Goals as goal
use Rattle.tasks.proofs.outside.Passed.{no_value}

pub loop-place-preserved : goal.loop-place-preserved
loop-place-preserved c = λ s.
    let ds = declarations_at s c.args.decls.now in
    let path = c.args.known.now.theory.path in
    let xs = c.args.known.now.theory.visible in
    let i = c.loop-place.place-index in
    let old = c.loop-place.own.items in
    let items = c.as_slice-place-items.result.now in
    let within : i < length xs = subst (λ (ys : List ℕ). i < length ys) c.as_slice-place-items.ensures c.loop-place-test.true in
    let here : c.push_own.new.own.items ≡ old ++ own_at ds path (get_or xs i 0) =
    c.in_ok-push_own.ensures s ∙ (ap (λ (p : List ℕ). old ++ own_at ds p (get_or items i 0)) c.as_slice-path.ensures ∙ ap (λ (ys : List ℕ). old ++ own_at ds path (get_or ys i 0)) c.as_slice-place-items.ensures) in
    let more = own_among ds path (drop (i + 1) xs) in
    ap (λ (z : List ℕ). z ++ more) here ∙ (append_assoc old (own_at ds path (get_or xs i 0)) more ∙ (sym (at_drop_more (λ (ys : List ℕ). old ++ own_among ds path ys) xs i 0 within) ∙ c.loop-place.invariant s))

pub returns-in_err-push_own : goal.returns-in_err-push_own
returns-in_err-push_own c = no_value _ _ c.from_residual.result c.from_residual.ensures.1
