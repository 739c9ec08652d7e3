use Rattle.parser.proofs.parse_decls.Cited.{◌+◌, ◌&&◌, sym, ap, ◌∙◌, from, lexemes, names_before_colon, names_end, names_over, rules, arith, refl, stands, inside}
use Rattle.tokens_why.specs.declared.terminal.Terminal.TheVariants as t
use Rattle.parser.proofs.parse_decls.parameters.at_names.Goals as goal

pub names-preserved : goal.names-preserved
names-preserved c = let e = sym c.is_at.ensures ∙ c.names-test.true in c.names.invariant ∙ names_over (lexemes c.args.source) c.names.j e

pub returns-then-is_lower : goal.returns-then-is_lower
returns-then-is_lower c = c.is_at-is_typed.ensures ∙ sym (names_end (lexemes c.args.source) c.names.j (sym c.is_at.ensures ∙ c.names-test.false)) ∙ sym c.names.invariant ∙ ap (λ b. b && names_before_colon (from (lexemes c.args.source) (c.args.i + 1))) (sym (sym c.is_at-is_lower.ensures ∙ c.if-is_lower.true))

pub returns : goal.returns
returns c = ap (λ b. b && names_before_colon (from (lexemes c.args.source) (c.args.i + 1))) (sym (sym c.is_at-is_lower.ensures ∙ c.if-is_lower.false))

-- the numbers of tokens, which are at most that of all tokens

pub overflow_add-j : goal.overflow_add-j
overflow_add-j c = let h = inside c.args.source c.args.i (stands (lexemes c.args.source) c.args.i t.Lident (sym c.is_at-is_lower.ensures ∙ c.if-is_lower.true) refl) in search rules

pub names-init : goal.names-init
names-init c = refl

pub overflow_add-j-in-names : goal.overflow_add-j-in-names
overflow_add-j-in-names c = let h = inside c.args.source c.names.j (stands (lexemes c.args.source) c.names.j t.Lident (sym c.is_at.ensures ∙ c.names-test.true) refl) in search rules

pub names-smaller : goal.names-smaller
names-smaller c = let h = inside c.args.source c.names.j (stands (lexemes c.args.source) c.names.j t.Lident (sym c.is_at.ensures ∙ c.names-test.true) refl) in omega (arith, h)
