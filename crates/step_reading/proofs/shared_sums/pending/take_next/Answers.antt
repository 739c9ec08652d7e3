use Rattle.std.proofs.Common.{rules, refl, sym, ap, ◌∙◌, arith, FitsSigned, of_z, to_z}
use Rattle.std.specs.Int.{w128}
use Rattle.std.proofs.lemmas.Int.{to_z-of_z}
use Rattle.step_reading.proofs.shared_sums.Sums.{below_top, top_last, terms_last}
use Rattle.step_reading.proofs.shared_sums.Steps.{carries_zero, carries_next}
use Rattle.step_reading.proofs.shared_sums.Differing.{differs_next}
use Rattle.step_reading.proofs.shared_sums.pending.take_next.Goals as goal

pub returns-then-n-eq0-clause-told : goal.returns-then-n-eq0-clause-told
returns-then-n-eq0-clause-told c =
    let z = c.args.ints.now in let s = c.args.store.now in let es = c.pop_last.new.self.entries in
    let i : FitsSigned w128 c.in-Some.n = search rules in
    let r = c.in-Some.ensures.removal in
    let t = top_last es (c.in-Some.k, c.in-Some.n) in
    let l = below_top c.in-Some.k es c.in-Some.ensures.all_below in (
      carries_zero z s c.args.pending.now (record { multiples = c.pop_last.new.self; constant = c.args.pending.now.constant }) (c.in-Some.k, c.in-Some.n) r refl (sym (to_z-of_z w128 c.in-Some.n i) ∙ ap (to_z w128) c.if-n-eq0.true),
      (terms_last z s es (c.in-Some.k, c.in-Some.n) (rw r at c.requires.terms)).0,
      rw r (omega (arith, t, l)),
    )

pub spread-requires-clause-held : goal.spread-requires-clause-held
spread-requires-clause-held c =
    (terms_last c.args.ints.now c.args.store.now c.pop_last.new.self.entries (c.in-Some.k, c.in-Some.n) (rw c.in-Some.ensures.removal at c.requires.terms)).1.0

pub spread-requires-clause-terms : goal.spread-requires-clause-terms
spread-requires-clause-terms c =
    (terms_last c.args.ints.now c.args.store.now c.pop_last.new.self.entries (c.in-Some.k, c.in-Some.n) (rw c.in-Some.ensures.removal at c.requires.terms)).0

pub spread-requires-clause-top : goal.spread-requires-clause-top
spread-requires-clause-top c = below_top c.in-Some.k c.pop_last.new.self.entries c.in-Some.ensures.all_below

pub returns-then-goes_on-clause-told : goal.returns-then-goes_on-clause-told
returns-then-goes_on-clause-told c =
    let z = c.args.ints.now in let s = c.args.store.now in let es = c.pop_last.new.self.entries in
    let i : FitsSigned w128 c.in-Some.n = search rules in
    let r = c.in-Some.ensures.removal in
    let t = top_last es (c.in-Some.k, c.in-Some.n) in
    let l = c.in_ok-goes_on.ensures.top in
    let g = rw (c.if-goes_on.true, to_z-of_z w128 c.in-Some.n i) at c.in_ok-goes_on.ensures.told in (
      carries_next z s c.args.pending.now (record { multiples = c.pop_last.new.self; constant = c.args.pending.now.constant }) (c.in-Some.k, c.in-Some.n) r refl c.spread.new.pending g,
      c.in_ok-goes_on.ensures.terms,
      rw r (omega (arith, t, l)),
    )

pub returns-else-goes_on-clause-told : goal.returns-else-goes_on-clause-told
returns-else-goes_on-clause-told c =
    let z = c.args.ints.now in let s = c.args.store.now in let es = c.pop_last.new.self.entries in
    let r = c.in-Some.ensures.removal in
    let h = terms_last z s es (c.in-Some.k, c.in-Some.n) (rw r at c.requires.terms) in
    let g = rw c.if-goes_on.false at c.in_ok-goes_on.ensures.told in
    differs_next z s c.laws.ensures.apart c.in-Some.k h.1.0 c.args.pending.now c.spread.new.pending es c.in-Some.n (λ e. c.if-n-eq0.false (ap (of_z w128) e)) r g.1 (below_top c.in-Some.k es c.in-Some.ensures.all_below) h.0 g.0
