use Rattle.parser.proofs.parse_decls.Cited.{◌+◌, [], ◌∷◌, ◌++◌, map, sym, ap, ◌∙◌, subst, map-append, can_next, next_within, refl, start, param_of, lexemes, IsRecord, RecordFields, inside, record_closed, record_item, record_more, record_start, rules, arith, ◌≤◌, upto}
use Rattle.parser.proofs.parse_decls.types.record_fields.Goals as goal

pub record_field-requires : goal.record_field-requires
record_field-requires c = can_next (start c.requires)

pub more-init : goal.more-init
more-init c = subst (λ ts. RecordFields (lexemes c.args.source) c.args.i (map param_of ts) c.in_ok-first.j) (sym (c.in_ok-push.ensures.items ∙ ap (λ v. v ++ c.in_ok-first.first ∷ []) c.new-parts.ensures.items))
    (record_start c.requires (param_of c.in_ok-first.first) c.in_ok-first.j c.in_ok-first.ensures)

pub record_field-requires-in-more : goal.record_field-requires-in-more
record_field-requires-in-more c = can_next (record_item (lexemes c.args.source) c.args.i (map param_of c.more.parts.items) c.more.j c.more.invariant (sym c.at_next_field.ensures ∙ c.more-test.true))

pub more-preserved : goal.more-preserved
more-preserved c = subst (λ ts. RecordFields (lexemes c.args.source) c.args.i ts c.in_ok-next.end) (sym (ap (map param_of) c.in_ok-push-2.ensures.items ∙ map-append param_of c.more.parts.items (c.in_ok-next.next ∷ [])))
    (record_more (lexemes c.args.source) c.args.i (map param_of c.more.parts.items) c.more.j c.more.invariant (sym c.at_next_field.ensures ∙ c.more-test.true) (param_of c.in_ok-next.next) c.in_ok-next.end c.in_ok-next.ensures)

pub past_semicolon-semi-requires : goal.past_semicolon-semi-requires
past_semicolon-semi-requires c = inside c.args.source c.more.j (next_within c.more.invariant.is refl)

pub returns : goal.returns
returns c = subst (λ ts. IsRecord (lexemes c.args.source) c.args.i (map param_of ts) c.past_semicolon-semi.result.0 (c.past_semicolon-semi.result.1 + 1)) (sym c.from_vec.ensures)
    (record_closed (lexemes c.args.source) c.args.i (map param_of c.more.parts.items) c.more.j c.more.invariant (sym c.at_next_field.ensures ∙ c.more-test.false) c.past_semicolon-semi.result.0 c.past_semicolon-semi.result.1 c.past_semicolon-semi.ensures.semi c.past_semicolon-semi.ensures.brace)

-- the numbers of tokens, which are at most that of all tokens

pub overflow_add-j : goal.overflow_add-j
overflow_add-j c = let h = upto c.args.source c.more.j c.more.invariant.is.within in search rules

pub more-smaller : goal.more-smaller
more-smaller c = let a : c.more.j + 1 + 1 ≤ c.in_ok-next.end = c.in_ok-next.ensures.ahead in let w = upto c.args.source c.in_ok-next.end c.in_ok-next.ensures.within in omega (arith, a, w)

pub overflow_add-result : goal.overflow_add-result
overflow_add-result c = let r = record_closed (lexemes c.args.source) c.args.i (map param_of c.more.parts.items) c.more.j c.more.invariant (sym c.at_next_field.ensures ∙ c.more-test.false) c.past_semicolon-semi.result.0 c.past_semicolon-semi.result.1 c.past_semicolon-semi.ensures.semi c.past_semicolon-semi.ensures.brace in let h = upto c.args.source (c.past_semicolon-semi.result.1 + 1) r.is.within in search rules
