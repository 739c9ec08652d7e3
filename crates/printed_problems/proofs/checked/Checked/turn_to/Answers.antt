use Rattle.std.proofs.Common.{◌≡◌, [], refl, rules, sym, ◌∙◌}
use Rattle.printed_problems.specs.Checked.{keys_at}
use Rattle.printed_problems.proofs.Faultless.{turns_empty, same_things}
use Rattle.printed_problems.proofs.checked.Checked.turn_to.Goals as goal

pub returns-then-eq : goal.returns-then-eq
returns-then-eq c =
    let same = sym c.as_slice.ensures.value ∙ same_things c.as_slice.result.now c.as_slice-2.result.now c.eq.result c.eq.ensures c.if-eq.true ∙ c.as_slice-2.ensures.value in
    record { bare = same ∙ c.in_ok-bare.ensures; stays = λ p s h. h }

pub returns : goal.returns
returns c =
    let none : c.new.result.keys ≡ [] = search rules in
    turns_empty c.args.self.now _ (keys_at c.args.things.now c.args.places.now) refl none c.in_ok-bare.ensures
