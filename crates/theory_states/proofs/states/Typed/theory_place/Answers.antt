use Rattle.std.proofs.Common.{◌≡◌, ◌<◌, true, false, List, length, map, get_or, slice_get, None, sym, ap, subst, ◌∙◌}
use Rattle.std.specs.List.{find}
use Rattle.theory_states.specs.declared.states.KnownTheory.{KnownTheory}
use Rattle.theory_states.specs.States.{known_has_path}
use Rattle.theory_states.specs.Meaning.{known_at}
use Rattle.theory_states.proofs.Lists.{passed, found, none_left}
use Rattle.theory_states.proofs.states.Typed.theory_place.Goals as goal

pub returns-then-has_path-clause-found : goal.returns-then-has_path-clause-found
returns-then-has_path-clause-found c = λ s.
    let f = known_at s in
    let p = known_has_path c.args.path.now in
    let xs = c.as_slice-list.result.now in
    let i = c.loop-at.at in
    let d = c.index-list-at.result in
    let here : p (f (get_or xs i d)) ≡ true = ap (λ (t : KnownTheory). p (f t)) (sym c.index-list-at.is) ∙ sym (c.has_path.ensures s) ∙ c.if-has_path.true in
    subst (λ (ts : List KnownTheory). slice_get (map f ts) i ≡ find p (map f ts)) c.as_slice-list.ensures (found p f xs i d c.loop-at-test.true here ∙ c.loop-at.invariant s)

pub returns-then-has_path-clause-within : goal.returns-then-has_path-clause-within
returns-then-has_path-clause-within c = subst (λ (ts : List KnownTheory). c.loop-at.at < length ts) c.as_slice-list.ensures c.loop-at-test.true

pub loop-at-preserved : goal.loop-at-preserved
loop-at-preserved c = λ s.
    let f = known_at s in
    let p = known_has_path c.args.path.now in
    let xs = c.as_slice-list.result.now in
    let i = c.loop-at.at in
    let d = c.index-list-at.result in
    let past : p (f (get_or xs i d)) ≡ false = ap (λ (t : KnownTheory). p (f t)) (sym c.index-list-at.is) ∙ sym (c.has_path.ensures s) ∙ c.if-has_path.false in
    sym (passed p f xs i d c.loop-at-test.true past) ∙ c.loop-at.invariant s

pub returns-clause-none : goal.returns-clause-none
returns-clause-none c = λ s.
    let f = known_at s in
    let p = known_has_path c.args.path.now in
    subst (λ (ts : List KnownTheory). find p (map f ts) ≡ None) c.as_slice-list.ensures (sym (c.loop-at.invariant s) ∙ none_left p f c.as_slice-list.result.now c.loop-at.at c.loop-at-test.false)
