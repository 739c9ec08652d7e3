use Rattle.parser.proofs.parse_terms.Common.{◌≡◌, ℕ, ◌≤◌, length, sym, ap, ◌∙◌, get_or-map, get_or_past, length-map, lexeme, Source, nowhere, terminal_at, lexemes}
use Rattle.parser.proofs.parse_terms.tokens.terminal.Goals as goal

pub returns-then-i-source : goal.returns-then-i-source
returns-then-i-source c = c.classify.ensures ∙ sym (ap (λ v. v.terminal) (get_or-map (lexeme c.args.source.text.now) c.args.source.tokens.now c.args.i _ nowhere c.if-i-source.true))

beyond : (z : Source) (i : ℕ) → length z.tokens.now ≤ i → terminal_at (lexemes z) i ≡ nowhere.terminal
beyond z i h = ap (λ v. v.terminal) (get_or_past (lexemes z) i nowhere (rw (length-map z.tokens.now (lexeme z.text.now)) h))

pub returns-else-i-source : goal.returns-else-i-source
returns-else-i-source c = sym (beyond c.args.source c.args.i c.if-i-source.false)
