use Rattle.std.proofs.Common.{◌++◌, ◌+◌, ℕ, List, drop, get_or, sym, ap, ◌∙◌, append_assoc}
use Rattle.std.proofs.lemmas.List.{at_drop_more, at_drop_all}
use mathlib.Core.List.{append-nil}
use Rattle.clones.specs.clone_elements.Replacements.{kept_at, kept_of}
use Rattle.clones.specs.clone_elements.Origins.{origin_at}
use Rattle.clones.specs.clone_elements.Meaning.{effects_at}
use Rattle.clones.proofs.clone_elements.replacements.kept_symbols.Goals as goal
use Rattle.tasks.proofs.outside.Passed.{no_value}

pub loop-place-preserved : goal.loop-place-preserved
loop-place-preserved c = λ s.
    let xs = c.args.source.now.own.now in
    let i = c.loop-place.place-index in
    let o = origin_at s c.args.source.now in
    let f = effects_at c.args.effects.now in
    let old = c.loop-place.out.items in
    let more = kept_of o f (drop (i + 1) xs) in
    ap (λ (z : List ℕ). z ++ more) (c.in_ok-push_kept.ensures s) ∙ (append_assoc old (kept_at o f (get_or xs i 0)) more ∙ (sym (at_drop_more (λ (ys : List ℕ). old ++ kept_of o f ys) xs i 0 c.loop-place-test.true) ∙ c.loop-place.invariant s))

pub returns-in_err-push_kept : goal.returns-in_err-push_kept
returns-in_err-push_kept c = no_value _ _ c.from_residual.result c.from_residual.ensures.1

pub loop-place-init : goal.loop-place-init
loop-place-init c =
    λ s. ap (λ (z : List ℕ). z ++ kept_of (origin_at s c.args.source.now) (effects_at c.args.effects.now) c.args.source.now.own.now) c.new-out.ensures.items

pub returns : goal.returns
returns c =
    λ s. let out = c.loop-place.out.items in
    sym (append-nil out) ∙ (sym (at_drop_all (λ (ys : List ℕ). out ++ kept_of (origin_at s c.args.source.now) (effects_at c.args.effects.now) ys) c.args.source.now.own.now c.loop-place.place-index c.loop-place-test.false) ∙ c.loop-place.invariant s)
