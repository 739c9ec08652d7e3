use Rattle.std.proofs.Common.{◌≡◌, Some, sym, ap, ◌∙◌, slice_get}
use Rattle.std.specs.Option.{option_and_then}
use Rattle.word_tables.specs.Words.{place_in_words}
use Rattle.step_lines.specs.rule_words.Rules as spec
use Rattle.step_lines.proofs.rule_words.rule.name_of_word.Goals as goal

pub returns-in-Some : goal.returns-in-Some
returns-in-Some c =
    let p : Some c.in-Some.place ≡ place_in_words c.args.word.now spec.rule_words = sym c.in-Some.is ∙ c.find.ensures.place ∙ ap (place_in_words c.args.word.now) c.rule_words.ensures in
    c.name_at.ensures ∙ ap (option_and_then (slice_get spec.rule_names)) p
