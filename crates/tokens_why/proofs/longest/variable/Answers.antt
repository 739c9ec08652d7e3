use Rattle.std.proofs.Common.{◌+◌, drop, get_or, refl, sym, ◌∙◌, arith}
use Rattle.tokens_why.proofs.LongestLemmas.{name-first, name-line}
use Rattle.tokens_why.proofs.TokenLemmas.{no-name, no-variable, variable-at}
use Rattle.tokens_why.proofs.longest.variable.Goals as goal

pub returns-then-start-text : goal.returns-then-start-text
returns-then-start-text c = no-name c.args.text.now c.args.start c.requires.within c.requires.lead (omega arith)

pub returns-then-not-is_lower : goal.returns-then-not-is_lower
returns-then-not-is_lower c =
    let text = c.args.text.now in
    no-variable text c.args.start c.requires.within c.requires.lead (omega arith)
    (λ m _. name-first (get_or text (c.args.start + 1) 0) (drop (c.args.start + 2) text) m (sym c.is_lower.ensures ∙ c.if-not-is_lower.true))

pub returns-then-end-start : goal.returns-then-end-start
returns-then-end-start c =
    let text = c.args.text.now in
    no-variable text c.args.start c.requires.within c.requires.lead (omega arith)
    (λ m le. name-line (get_or text (c.args.start + 1) 0) (drop (c.args.start + 2) text) m c.if-first-eq95.true (omega (arith, c.class_end-end.ensures.place)) le)

pub returns-else-end-start : goal.returns-else-end-start
returns-else-end-start c = record {
  start_is = refl;
  ordered = omega (arith, c.class_end-end.ensures.place);
  longest = variable-at c.args.text.now c.args.start c.class_end-end.result c.requires.within c.requires.lead (omega arith) (sym c.is_lower.ensures ∙ c.if-not-is_lower.false) (λ _. omega (arith, c.class_end-end.ensures.place)) c.class_end-end.ensures.place;
}

pub returns-else-first-eq95 : goal.returns-else-first-eq95
returns-else-first-eq95 c = record {
  start_is = refl;
  ordered = omega (arith, c.class_end-end.ensures.place);
  longest = variable-at c.args.text.now c.args.start c.class_end-end.result c.requires.within c.requires.lead (omega arith) (sym c.is_lower.ensures ∙ c.if-not-is_lower.false) (λ h. absurd (c.if-first-eq95.false h)) c.class_end-end.ensures.place;
}
