use Rattle.std.proofs.Common.{List, ℕ, Some, ap, ◌∙◌, sym, rules}
use Rattle.scopes.specs.Kept.{meanings_of}
use Rattle.scopes.proofs.Listed.{updates_name, kept_pop, kept_present, popped}
use Rattle.scopes.proofs.entries.Entries.remove_latest.Goals as goal

pub invariant_of-self : goal.invariant_of-self
invariant_of-self c =
    let kept = rw c.in-Some.ensures.items at c.self.invariant in
    let known = ap (λ (n : List ℕ). meanings_of c.self.inside.meanings n) (sym c.as_slice.ensures.value) ∙ sym c.in-Some-get_mut.ensures.value in
    let updates = updates_name c.as_slice.result.now c.self.inside.meanings (c.get_mut.follows.lender c.with_meaning.result) (Some c.with_meaning.result) ((c.get_mut.follows.holds c.with_meaning.result).3 (search rules)) in
    kept_pop c.pop.new.self.items c.in-Some.last c.self.inside.meanings (c.get_mut.follows.lender c.with_meaning.result) c.in-Some-get_mut.known.now c.with_meaning.result
    kept known c.with_meaning.ensures
    (λ q. rw (← c.as_slice.ensures.value) (updates q))

pub returns-in-Some-get_mut : goal.returns-in-Some-get_mut
returns-in-Some-get_mut c = popped c.self.inside.stored.items c.pop.new.self.items c.in-Some.last c.args.self.now c.in-Some.ensures.items c.self.view_is

pub invariant_of-self-in-Some : goal.invariant_of-self-in-Some
invariant_of-self-in-Some c =
    let kept = rw c.in-Some.ensures.items at c.self.invariant in
    let absent = ap (λ (n : List ℕ). meanings_of c.self.inside.meanings n) (sym c.as_slice.ensures.value) ∙ sym c.in_default-get_mut.ensures.value in
    absurd (kept_present c.pop.new.self.items c.in-Some.last c.self.inside.meanings kept absent)

pub returns-in-Some : goal.returns-in-Some
returns-in-Some c = popped c.self.inside.stored.items c.pop.new.self.items c.in-Some.last c.args.self.now c.in-Some.ensures.items c.self.view_is
