use Rattle.tokens_why.proofs.Common.{sym, ap, ◌∙◌, place_in_words, placed_kind}
use Rattle.tokens_why.proofs.kinds.word_kind.Goals as goal

pub returns-in-Some : goal.returns-in-Some
returns-in-Some c =
    ap (λ o. placed_kind o c.args.word.now) (sym c.in-Some.is ∙ c.find.ensures.place ∙ ap (place_in_words c.args.word.now) c.requires.words)

pub returns-in-None : goal.returns-in-None
returns-in-None c =
    c.letters_kind.ensures ∙ ap (λ o. placed_kind o c.args.word.now) (sym c.in-None.is ∙ c.find.ensures.place ∙ ap (place_in_words c.args.word.now) c.requires.words)
