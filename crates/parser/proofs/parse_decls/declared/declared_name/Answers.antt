use Rattle.parser.proofs.parse_decls.Cited.{◌+◌, [], sym, ap, ◌∙◌, subst, refl, called, own_of, IsRead, lexemes, can_next, stands_due, done, expand, start, next, inside, lower_own, operator_start, rules, upto}
use Rattle.tokens_why.specs.declared.terminal.Terminal.TheVariants as t
use Rattle.grammar.specs.declared.symbols.Symbol.TheVariants as s
use Rattle.surface.specs.declared.names.Style.TheVariants as style
use Rattle.parser.proofs.parse_decls.declared.declared_name.Goals as goal

pub text-requires : goal.text-requires
text-requires c = inside c.args.source c.args.i (stands_due c.requires refl)

pub returns-then-is_lower : goal.returns-then-is_lower
returns-then-is_lower c = subst (λ o. IsRead (lexemes c.args.source) s.Op c.args.i (called c.args.i [] o) (c.args.i + 1)) (sym (lower_own c.in_ok-lower.ensures (sym c.is_at-is_lower.ensures ∙ c.if-is_lower.true))) (done (expand (start c.requires) t.Lident (sym c.is_at-is_lower.ensures ∙ c.if-is_lower.true) refl refl) _ refl (λ k us. refl))

pub returns-then-is_star : goal.returns-then-is_star
returns-then-is_star c = subst (λ o. IsRead (lexemes c.args.source) s.Op c.args.i (called c.args.i [] o) (c.args.i + 1)) (sym (ap (own_of style.Star) c.in_ok-star.ensures)) (done (expand (start c.requires) t.StarName (sym c.is_at-is_star.ensures ∙ c.if-is_star.true) refl refl) _ refl (λ k us. refl))

pub operator_name-requires : goal.operator_name-requires
operator_name-requires c = can_next (operator_start c.requires (sym c.is_at-is_lower.ensures ∙ c.if-is_lower.false) (sym c.is_at-is_star.ensures ∙ c.if-is_star.false))

pub returns : goal.returns
returns c = let r = c.in_ok-own.ensures in subst (λ o. IsRead (lexemes c.args.source) s.Op c.args.i (called c.args.i [] o) c.in_ok-own.own.end) r.named (done (next (operator_start c.requires (sym c.is_at-is_lower.ensures ∙ c.if-is_lower.false) (sym c.is_at-is_star.ensures ∙ c.if-is_star.false)) r.is) _ refl (λ k us. refl))

-- the numbers of tokens, which are at most that of all tokens

pub overflow_add-result : goal.overflow_add-result
overflow_add-result c = let h = upto c.args.source c.args.i c.requires.within in search rules

pub overflow_add-result-then-is_star : goal.overflow_add-result-then-is_star
overflow_add-result-then-is_star c = let h = upto c.args.source c.args.i c.requires.within in search rules

pub overflow_add-i : goal.overflow_add-i
overflow_add-i c = let h = upto c.args.source c.args.i c.requires.within in search rules
