use Rattle.parser.proofs.parse_terms.Cited.{rules, ◌+◌, [], sym, ap, ◌∙◌, subst, refl, ◌≡◌, ◌&&◌, ◌∷◌, false, own_of, IsRead, terminal_at, lexemes, same, can_next, stands_due, done, expand, start, none_of, pass, next, operator_start, inside, lower_own, upper_own}
use Rattle.tokens_why.specs.declared.terminal.Terminal.TheVariants as t
use Rattle.grammar.specs.declared.symbols.Symbol.TheVariants as s
use Rattle.surface.specs.declared.names.Style.TheVariants as style
use Rattle.parser.proofs.parse_terms.names.own_name.Goals as goal

pub text-requires : goal.text-requires
text-requires c = inside c.args.source c.args.i (stands_due c.requires.can refl)

pub text-requires-then-is_upper : goal.text-requires-then-is_upper
text-requires-then-is_upper c = inside c.args.source c.args.i (stands_due c.requires.can refl)

pub returns-then-is_lower : goal.returns-then-is_lower
returns-then-is_lower c = subst (λ o. IsRead (lexemes c.args.source) s.Qhead c.args.i (record { scopes = []; own = o }) (c.args.i + 1)) (sym (lower_own c.in_ok-lower.ensures (sym c.is_at-is_lower.ensures ∙ c.if-is_lower.true))) (done (expand (start c.requires.can) t.Lident (sym c.is_at-is_lower.ensures ∙ c.if-is_lower.true) refl refl) _ refl (λ k us. refl))

pub returns-then-is_upper : goal.returns-then-is_upper
returns-then-is_upper c = subst (λ o. IsRead (lexemes c.args.source) s.Qhead c.args.i (record { scopes = []; own = o }) (c.args.i + 1)) (sym (upper_own c.in_ok-upper.ensures (sym c.is_at-is_upper.ensures ∙ c.if-is_upper.true))) (done (pass (expand (start c.requires.can) t.Uident (sym c.is_at-is_upper.ensures ∙ c.if-is_upper.true) refl refl) refl refl (none_of s.Scoped (t.Dot ∷ []) (terminal_at (lexemes c.args.source) (c.args.i + 1)) refl (subst (λ b. (b && same t.Dot (terminal_at (lexemes c.args.source) (c.args.i + 1))) ≡ false) (sym c.is_at-is_upper.ensures ∙ c.if-is_upper.true) c.requires.last, tt))) _ refl (λ k us. refl))

pub returns-then-is_star : goal.returns-then-is_star
returns-then-is_star c = subst (λ o. IsRead (lexemes c.args.source) s.Qhead c.args.i (record { scopes = []; own = o }) (c.args.i + 1)) (sym (ap (own_of style.Star) c.in_ok-star.ensures)) (done (expand (start c.requires.can) t.StarName (sym c.is_at-is_star.ensures ∙ c.if-is_star.true) refl refl) _ refl (λ k us. refl))

pub operator_name-requires : goal.operator_name-requires
operator_name-requires c = can_next (operator_start c.requires.can (sym c.is_at-is_lower.ensures ∙ c.if-is_lower.false) (sym c.is_at-is_upper.ensures ∙ c.if-is_upper.false) (sym c.is_at-is_star.ensures ∙ c.if-is_star.false))

pub returns : goal.returns
returns c = let r = c.in_ok-name.ensures in subst (λ o. IsRead (lexemes c.args.source) s.Qhead c.args.i (record { scopes = []; own = o }) c.in_ok-name.name.end) r.named
    (done (next (operator_start c.requires.can (sym c.is_at-is_lower.ensures ∙ c.if-is_lower.false) (sym c.is_at-is_upper.ensures ∙ c.if-is_upper.false) (sym c.is_at-is_star.ensures ∙ c.if-is_star.false)) r.is) _ refl (λ k us. refl))

pub overflow_add-result-then-is_star : goal.overflow_add-result-then-is_star
overflow_add-result-then-is_star c = let h = inside c.args.source c.args.i (stands_due c.requires.can refl) in search rules

pub overflow_add-i : goal.overflow_add-i
overflow_add-i c = let h = inside c.args.source c.args.i (stands_due c.requires.can refl) in search rules
