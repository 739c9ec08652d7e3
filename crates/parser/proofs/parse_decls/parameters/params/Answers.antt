use Rattle.parser.proofs.parse_decls.Cited.{rules, ◌≤◌, ◌+◌, [], ◌∷◌, map, sym, ap, ◌∙◌, subst, refl, append_assoc, append-nil, map-append, param_of, IsRead, terminal_at, lexemes, can_next, again, start, next, done, pass, upto, Params, params_item, params_none}
use Rattle.grammar.specs.declared.symbols.Symbol.TheVariants as s
use Rattle.parser.proofs.parse_decls.parameters.params.Goals as goal

pub params-init : goal.params-init
params-init c = subst (λ ts. Params (lexemes c.args.source) c.args.i (map param_of ts) c.args.i) (sym c.new-params.ensures.items) (again (start c.requires) 0 refl (λ k us. refl))

pub param-requires : goal.param-requires
param-requires c = can_next (params_item (lexemes c.args.source) c.args.i (map param_of c.params.params.items) c.params.j c.params.invariant (sym c.at_type.ensures ∙ c.params-test.true))

pub params-preserved : goal.params-preserved
params-preserved c = subst (λ ts. Params (lexemes c.args.source) c.args.i ts c.in_ok-next.end) (sym (ap (map param_of) c.in_ok-push.ensures.items ∙ map-append param_of c.params.params.items (c.in_ok-next.next ∷ []))) (again (next (params_item (lexemes c.args.source) c.args.i (map param_of c.params.params.items) c.params.j c.params.invariant (sym c.at_type.ensures ∙ c.params-test.true)) c.in_ok-next.ensures) 0 refl (λ k us. ap (λ v. (v, us.1)) (sym (append_assoc (map param_of c.params.params.items) ((param_of c.in_ok-next.next) ∷ []) us.0))))

pub params-smaller : goal.params-smaller
params-smaller c = let a : c.params.j + 1 ≤ c.in_ok-next.end = c.in_ok-next.ensures.ahead in let w = upto c.args.source c.in_ok-next.end c.in_ok-next.ensures.within in search rules

pub returns : goal.returns
returns c = subst (λ ts. IsRead (lexemes c.args.source) s.Params c.args.i (map param_of ts) c.params.j) (sym c.from_vec.ensures) (done (pass c.params.invariant refl refl (params_none (terminal_at (lexemes c.args.source) c.params.j) (sym c.at_type.ensures ∙ c.params-test.false))) _ refl (λ k us. ap (λ v. (v, us)) (append-nil (map param_of c.params.params.items))))
