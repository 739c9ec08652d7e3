use Rattle.parser.proofs.parse_terms.Cited.{rules, ◌+◌, next_within, true, false, sym, ◌∙◌, refl, op, terminal_at, token_at, lexemes, stands_due, done, expand, take, opname_start, prefix_wild, infix_own, inside, prefix_own}
use Rattle.tokens_why.specs.declared.terminal.Terminal.TheVariants as t
use Rattle.parser.proofs.parse_terms.names.operator_name.Goals as goal

pub text-requires : goal.text-requires
text-requires c = inside c.args.source c.args.i (stands_due c.requires refl)

pub returns-then-closed : goal.returns-then-closed
returns-then-closed c = record {
  name = record { op = op c.args.i (terminal_at (lexemes c.args.source) c.args.i) (token_at (lexemes c.args.source) c.args.i).text; prefix = false };
  named = sym (infix_own c.in_ok-word.ensures);
  is = (done (expand (opname_start c.requires) t.RParen (sym c.is_at-closed.ensures ∙ c.if-closed.true) refl refl) _ refl (λ k us. refl));
}

pub returns : goal.returns
returns c = record {
  name = record { op = op c.args.i (terminal_at (lexemes c.args.source) c.args.i) (token_at (lexemes c.args.source) c.args.i).text; prefix = true };
  named = sym (prefix_own c.in_ok-word.ensures);
  is = (done (take (expand (opname_start c.requires) t.Wild (prefix_wild c.requires (sym c.is_at-closed.ensures ∙ c.if-closed.false)) refl refl)) _ refl (λ k us. refl));
}

pub overflow_add-following : goal.overflow_add-following
overflow_add-following c = let h = inside c.args.source c.args.i (stands_due c.requires refl) in search rules

pub overflow_add-result : goal.overflow_add-result
overflow_add-result c = let h = inside c.args.source (c.args.i + 1) (next_within (opname_start c.requires) refl) in search rules

pub overflow_add-result-2 : goal.overflow_add-result-2
overflow_add-result-2 c = let h = inside c.args.source (c.args.i + 1) (next_within (opname_start c.requires) refl) in search rules

pub overflow_add-result-3 : goal.overflow_add-result-3
overflow_add-result-3 c =
    let h = inside c.args.source (c.args.i + 1 + 1) (next_within (expand (opname_start c.requires) t.Wild (prefix_wild c.requires (sym c.is_at-closed.ensures ∙ c.if-closed.false)) refl refl) refl) in
    search rules
