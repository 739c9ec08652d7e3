use Rattle.parser.proofs.parse_decls.Cited.{List, sym, ap, ◌∙◌, subst, refl, Name, at, SyntaxForm, enclosed, ParamGroup, form_of, types, param_of, param_names, param_types, lexemes, can_next, done, next, IsParam, form_of_node-Group, listed_start, paren_param, paren_start, single_start, rules, upto}
use Rattle.parser.proofs.parse_decls.parameters.param.Goals as goal

pub named_param-requires : goal.named_param-requires
named_param-requires c = record { can = can_next (paren_start c.requires (sym c.is_at-is_paren.ensures ∙ c.if-is_paren.true)); names = (sym c.at_names-is_named.ensures ∙ c.if-is_named.true) }

pub returns-then-is_named : goal.returns-then-is_named
returns-then-is_named c = paren_param c.requires (param_names (param_of c.in_ok-named.named).names (param_of c.in_ok-named.named).of_type) c.in_ok-named.end (sym c.is_at-is_paren.ensures ∙ c.if-is_paren.true) c.in_ok-named.ensures

pub type_list-requires : goal.type_list-requires
type_list-requires c = can_next (listed_start (can_next (paren_start c.requires (sym c.is_at-is_paren.ensures ∙ c.if-is_paren.true))) (sym c.at_names-is_named.ensures ∙ c.if-is_named.false))

pub returns-then-is_paren : goal.returns-then-is_paren
returns-then-is_paren c = subst (λ f. IsParam (lexemes c.args.source) c.args.i (single f c.new.result) c.in_ok-parts.close) (sym (c.new-group.ensures ∙ form_of_node-Group _ _ ∙ ap (λ a. enclosed a (types c.in_ok-parts.parts)) c.place-here.ensures)) (subst (λ ns. IsParam (lexemes c.args.source) c.args.i (single (enclosed (at c.args.i) (types c.in_ok-parts.parts)) ns) c.in_ok-parts.close) (sym c.new.ensures)
    (paren_param c.requires (param_types (types c.in_ok-parts.parts)) c.in_ok-parts.close (sym c.is_at-is_paren.ensures ∙ c.if-is_paren.true) (done (next (listed_start (can_next (paren_start c.requires (sym c.is_at-is_paren.ensures ∙ c.if-is_paren.true))) (sym c.at_names-is_named.ensures ∙ c.if-is_named.false)) c.in_ok-parts.ensures) _ refl (λ k us. refl))))
  where
    single : SyntaxForm → List Name → ParamGroup
    single f ns = record { names = ns; of_type = f }

pub argument-requires : goal.argument-requires
argument-requires c = can_next (single_start c.requires (sym c.is_at-is_paren.ensures ∙ c.if-is_paren.false))

pub returns : goal.returns
returns c = subst (λ ns. IsParam (lexemes c.args.source) c.args.i (single (form_of c.in_ok-one.one) ns) c.in_ok-one.following) (sym c.new-2.ensures)
    (done (next (single_start c.requires (sym c.is_at-is_paren.ensures ∙ c.if-is_paren.false)) c.in_ok-one.ensures) _ refl (λ k us. refl))
  where
    single : SyntaxForm → List Name → ParamGroup
    single f ns = record { names = ns; of_type = f }

-- the numbers of tokens, which are at most that of all tokens

pub overflow_add-following : goal.overflow_add-following
overflow_add-following c = let h = upto c.args.source c.args.i c.requires.within in search rules
