use Rattle.std.proofs.Common.{String, Global, List, ◌∙◌, ap, sym, string_bytes}
use Rattle.std.proofs.lemmas.List.{take_rest, drop-map}
use Rattle.program.specs.Run.{bytes_of_words}
use Rattle.program.proofs.top.words_from.Goals as goal

pub returns-then-at-words : goal.returns-then-at-words
returns-then-at-words c = ap (λ (ws : List (String Global)). bytes_of_words ws) (take_rest c.args.words.now c.args.at) ∙ sym (drop-map string_bytes c.args.at c.args.words.now)
