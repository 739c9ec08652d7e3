use Rattle.parser.proofs.parse_decls.Cited.{◌+◌, [], ◌∷◌, map, sym, ap, ◌∙◌, subst, refl, map-append, param_of, lexemes, stands, again, start, can_next, many_more, next, IsConstructor, inside, upper_there, Fields, constructor_done, field_item, field_on, rules, arith, ◌≤◌, upto}
use Rattle.tokens_why.specs.declared.terminal.Terminal.TheVariants as t
use Rattle.parser.proofs.parse_decls.types.constructor.Goals as goal

pub name_at-requires : goal.name_at-requires
name_at-requires c = inside c.args.source c.args.i (stands (lexemes c.args.source) c.args.i t.Uident c.requires.name refl)

pub fields-init : goal.fields-init
fields-init c = subst (λ ts. Fields (lexemes c.args.source) (c.args.i + 1) (map param_of ts) (c.args.i + 1)) (sym c.new-parts.ensures.items) (again (start c.requires.can) 0 refl (λ k us. refl))

pub param-requires : goal.param-requires
param-requires c = can_next (field_item (lexemes c.args.source) (c.args.i + 1) (map param_of c.fields.parts.items) c.fields.j c.fields.invariant (sym c.at_type.ensures ∙ c.fields-test.true))

pub fields-preserved : goal.fields-preserved
fields-preserved c = subst (λ ts. Fields (lexemes c.args.source) (c.args.i + 1) ts c.in_ok-next.end) (sym (ap (map param_of) c.in_ok-push.ensures.items ∙ map-append param_of c.fields.parts.items (c.in_ok-next.next ∷ [])))
    (again (next (field_item (lexemes c.args.source) (c.args.i + 1) (map param_of c.fields.parts.items) c.fields.j c.fields.invariant (sym c.at_type.ensures ∙ c.fields-test.true)) c.in_ok-next.ensures) 0 refl (λ k us. ap (λ v. (v, us.1)) (many_more field_on (map param_of c.fields.parts.items) (param_of c.in_ok-next.next) us.0)))

pub returns : goal.returns
returns c = subst (λ ts. IsConstructor (lexemes c.args.source) c.args.i (record { name = c.in_ok-name.name; fields = map param_of ts }) c.fields.j) (sym c.from_vec-fields.ensures)
    (constructor_done (lexemes c.args.source) c.args.i c.in_ok-name.name (map param_of c.fields.parts.items) c.fields.j (upper_there (lexemes c.args.source) c.args.i c.in_ok-name.name c.in_ok-name.ensures.place c.in_ok-name.ensures.text c.requires.name) (sym c.at_type.ensures ∙ c.fields-test.false) c.fields.invariant)

-- the numbers of tokens, which are at most that of all tokens

pub overflow_add-j : goal.overflow_add-j
overflow_add-j c = let h = upto c.args.source (c.args.i + 1) c.requires.can.within in search rules

pub fields-smaller : goal.fields-smaller
fields-smaller c = let a : c.fields.j + 1 ≤ c.in_ok-next.end = c.in_ok-next.ensures.ahead in let w = upto c.args.source c.in_ok-next.end c.in_ok-next.ensures.within in omega (arith, a, w)
