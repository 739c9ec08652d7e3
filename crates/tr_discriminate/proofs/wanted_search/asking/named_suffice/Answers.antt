use Rattle.std.proofs.Common.{Bool, not, ◌||◌, map, filter, sym, ap, ◌∙◌}
use Rattle.std.specs.List.{list_any}
use Rattle.tr_discriminate.specs.wanted_instances.Instances.{has_variable, mentions}
use Rattle.tr_discriminate.specs.wanted_instances.Wanted.{is_of_symbol}
use Rattle.tr_discriminate.specs.wanted_search.Asking.{asking_at}
use Rattle.tr_discriminate.proofs.wanted_search.Tests.{each_fails}
use Rattle.tr_discriminate.proofs.wanted_search.asking.named_suffice.Goals as goal

pub returns-then-not-is_mentioned_by_named : goal.returns-then-not-is_mentioned_by_named
returns-then-not-is_mentioned_by_named c = λ a g.
    let os = filter is_of_symbol (map (asking_at c.args.store.now) c.args.instances.now) in
    let n = c.loop-number.number in
    sym (each_fails c.args.above n (λ j. not (has_variable j a) || list_any (mentions j) os) c.loop-number-test.true
    (ap (λ (b : Bool). not b || list_any (mentions n) os) (sym (c.has_variable.ensures a g) ∙ c.if-has_variable.true) ∙ (sym c.is_mentioned_by_named.ensures ∙ c.if-not-is_mentioned_by_named.true)))
