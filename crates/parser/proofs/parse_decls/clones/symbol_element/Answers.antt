use Rattle.parser.proofs.parse_decls.Cited.{rules, ◌+◌, sym, ap, ◌∙◌, subst, refl, called_of, called, symbol_element, scoped_of, symbol_word_of, IsRead, terminal_at, lexemes, can_next, next, next_within, done, inside, by_start, replaced_start, upto}
use Rattle.grammar.specs.declared.symbols.Symbol.TheVariants as s
use Rattle.parser.proofs.parse_decls.clones.symbol_element.Goals as goal

pub head_name-requires : goal.head_name-requires
head_name-requires c = can_next (replaced_start c.requires.can c.requires.word)

pub overflow_add-j : goal.overflow_add-j
overflow_add-j c = let h = inside c.args.source c.in_ok-replaced.j (next_within (next (replaced_start c.requires.can c.requires.word) c.in_ok-replaced.ensures.read) refl) in search rules

pub head_name-requires-2 : goal.head_name-requires-2
head_name-requires-2 c = can_next (by_start c.requires.can c.requires.word (scoped_of c.in_ok-replaced.replaced) c.in_ok-replaced.j c.in_ok-replaced.ensures.read)

pub returns : goal.returns
returns c = subst (λ w. IsRead (lexemes c.args.source) s.Elem c.args.i (symbol_element c.args.i w (called_of c.in_ok-replaced.replaced) (called_of c.in_ok-by.by)) c.in_ok-by.end) (sym (c.symbol_word-word.ensures ∙ ap symbol_word_of c.terminal.ensures))
    (subst (λ p. IsRead (lexemes c.args.source) s.Elem c.args.i (symbol_element c.args.i (symbol_word_of (terminal_at (lexemes c.args.source) c.args.i)) (called p c.in_ok-replaced.replaced.scopes (scoped_of c.in_ok-replaced.replaced).own) (called_of c.in_ok-by.by)) c.in_ok-by.end) (sym c.in_ok-replaced.ensures.place)
    (subst (λ p. IsRead (lexemes c.args.source) s.Elem c.args.i (symbol_element c.args.i (symbol_word_of (terminal_at (lexemes c.args.source) c.args.i)) (called (c.args.i + 1) c.in_ok-replaced.replaced.scopes (scoped_of c.in_ok-replaced.replaced).own) (called p c.in_ok-by.by.scopes (scoped_of c.in_ok-by.by).own)) c.in_ok-by.end) (sym c.in_ok-by.ensures.place)
    (done (next (by_start c.requires.can c.requires.word (scoped_of c.in_ok-replaced.replaced) c.in_ok-replaced.j c.in_ok-replaced.ensures.read) c.in_ok-by.ensures.read) _ refl (λ k us. refl))))

-- the numbers of tokens, which are at most that of all tokens

pub overflow_add-i : goal.overflow_add-i
overflow_add-i c = let h = upto c.args.source c.args.i c.requires.can.within in search rules
