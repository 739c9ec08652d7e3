use Rattle.parser.proofs.parse_terms.Cited.{upto, rules, sym, ◌∙◌, subst, refl, Some, None, form_of, lexemes, binds, IsBinder, can_next, expand, typed_binder, untyped_binder}
use Rattle.tokens_why.specs.declared.terminal.Terminal.TheVariants as t
use Rattle.parser.proofs.parse_terms.parts.binder.Goals as goal

pub type_tree-requires : goal.type_tree-requires
type_tree-requires c = let g = c.in_ok-names.ensures in (can_next (expand g.is t.Colon (sym c.is_at-typed.ensures ∙ c.if-typed.true) refl refl))

pub returns-then-typed : goal.returns-then-typed
returns-then-typed c = let g = c.in_ok-names.ensures in subst (λ ns. IsBinder (lexemes c.args.source) c.args.i (binds ns (Some (form_of c.in_ok-ty.ty))) c.in_ok-ty.end) g.spelled
    (typed_binder (lexemes c.args.source) c.args.i g.first g.others c.in_ok-names.j g.is (form_of c.in_ok-ty.ty) c.in_ok-ty.end (sym c.is_at-typed.ensures ∙ c.if-typed.true) c.in_ok-ty.ensures)

pub returns : goal.returns
returns c = let g = c.in_ok-names.ensures in subst (λ ns. IsBinder (lexemes c.args.source) c.args.i (binds ns None) c.in_ok-names.j) g.spelled
    (untyped_binder (lexemes c.args.source) c.args.i g.first g.others c.in_ok-names.j g.is g.ends (sym c.is_at-typed.ensures ∙ c.if-typed.false))

-- the numbers of tokens, which are at most that of all tokens

pub overflow_add-j : goal.overflow_add-j
overflow_add-j c = let h = upto c.args.source c.in_ok-names.j c.in_ok-names.ensures.is.within in search rules
