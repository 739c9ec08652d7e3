use Rattle.parser.proofs.parse_decls.Cited.{sym, ◌∙◌, [], ◌∷◌, refl, terminal_at, can_next, again, next_expr, none_of, pass, start, lexemes, value_start, rules, upto}
use Rattle.grammar.specs.declared.symbols.Symbol.TheVariants as s
use Rattle.tokens_why.specs.declared.terminal.Terminal.TheVariants as t
use Rattle.parser.proofs.parse_decls.bodies.value.Goals as goal

pub expression-requires : goal.expression-requires
expression-requires c = can_next (value_start c.requires (sym c.is_at-is_given.ensures ∙ c.if-is_given.true))

pub returns-then-is_given : goal.returns-then-is_given
returns-then-is_given c = again (next_expr (value_start c.requires (sym c.is_at-is_given.ensures ∙ c.if-is_given.true)) refl c.in_ok-read.ensures.read) 0 refl (λ k us. refl)

pub returns : goal.returns
returns c = again (pass (start c.requires) refl refl (none_of s.Value (t.Equal ∷ []) (terminal_at (lexemes c.args.source) c.args.i) refl ((sym c.is_at-is_given.ensures ∙ c.if-is_given.false), tt))) 0 refl (λ k us. refl)

-- the numbers of tokens, which are at most that of all tokens

pub overflow_add-i : goal.overflow_add-i
overflow_add-i c = let h = upto c.args.source c.args.i c.requires.within in search rules
