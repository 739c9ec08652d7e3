use Rattle.std.proofs.Common.{[], IsSome, subst}
use Rattle.step_writing.proofs.tree_writing.Reading.{on_ok}
use Rattle.step_writing.proofs.Pushing.{symbol_pushed}
use Rattle.step_writing.proofs.words.push_symbol_name.Goals as goal

pub unreachable-requires : goal.unreachable-requires
unreachable-requires c =
    let none = subst IsSome c.in_default.is (c.find_spelling.ensures.found [] c.requires.names.none c.requires.spelt) in
    absurd (cc)

pub returns : goal.returns
returns c =
    on_ok c.push_word.result c.push_word.ensures
    (λ h. symbol_pushed c.args.x.now c.args.text.now.items c.push_word.new.text.items c.in-Some.spelling.name.now c.args.symbol c.in-Some.spelling.whole h (c.in-Some.ensures.spells [] c.requires.names.none))
