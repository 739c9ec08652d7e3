use Rattle.parser.proofs.parse_decls.Common.{sym, ap, ◌∙◌, subst, refl, called_of, called, prop_element, scoped_of, prop_kind, IsRead, terminal_at, lexemes, can_next, done, next}
use Rattle.parser.proofs.parse_decls.Cited.{rules, upto}
use Rattle.grammar.specs.declared.symbols.Symbol.TheVariants as s
use Rattle.parser.proofs.parse_decls.ClonesRead as R
use Rattle.parser.proofs.parse_decls.clones.prop_element.Goals as goal

pub head_name-requires : goal.head_name-requires
head_name-requires c = can_next (R.prop_start c.requires.can c.requires.no_type c.requires.no_symbol (sym c.is_at-is_all.ensures ∙ c.if-is_all.false))

pub returns-then-is_all : goal.returns-then-is_all
returns-then-is_all c = R.all_read c.requires.can c.requires.no_type c.requires.no_symbol (sym c.is_at-is_all.ensures ∙ c.if-is_all.true)

pub returns : goal.returns
returns c = subst (λ w. IsRead (lexemes c.args.source) s.Elem c.args.i (prop_element c.args.i w (called_of c.in_ok-name.name)) c.in_ok-name.end) (sym (c.prop_kind-kind.ensures ∙ ap prop_kind c.terminal.ensures))
    (subst (λ p. IsRead (lexemes c.args.source) s.Elem c.args.i (prop_element c.args.i (prop_kind (terminal_at (lexemes c.args.source) c.args.i)) (called p c.in_ok-name.name.scopes (scoped_of c.in_ok-name.name).own)) c.in_ok-name.end) (sym c.in_ok-name.ensures.place)
    (done (next (R.prop_start c.requires.can c.requires.no_type c.requires.no_symbol (sym c.is_at-is_all.ensures ∙ c.if-is_all.false)) c.in_ok-name.ensures.read) _ refl (λ k us. refl)))

-- the numbers of tokens, which are at most that of all tokens

pub overflow_add-following : goal.overflow_add-following
overflow_add-following c = let h = upto c.args.source c.args.i c.requires.can.within in search rules

pub overflow_add-result : goal.overflow_add-result
overflow_add-result c = let h = upto c.args.source c.args.i c.requires.can.within in search rules
