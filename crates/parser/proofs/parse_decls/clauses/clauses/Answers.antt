use Rattle.parser.proofs.parse_decls.Cited.{rules, ◌≤◌, ◌+◌, [], ◌∷◌, ◌++◌, map, sym, ap, ◌∙◌, subst, refl, map-append, clause_of, lexemes, can_run, stands_due, IsClauses, inside, upto, Claused, bar_start, claused_more, clauses_done, clausing_start}
use Rattle.parser.proofs.parse_decls.clauses.clauses.Goals as goal

pub past_bar-bar-requires : goal.past_bar-bar-requires
past_bar-bar-requires c = inside c.args.source c.args.i (stands_due c.requires refl)

pub clause-requires : goal.clause-requires
clause-requires c = can_run (clausing_start c.requires c.past_bar-bar.result.0 c.past_bar-bar.result.1 c.past_bar-bar.ensures.bar c.past_bar-bar.ensures.begins)

pub more-init : goal.more-init
more-init c = subst (λ ts. Claused (lexemes c.args.source) c.args.i c.past_bar-bar.result.0 (map clause_of ts) c.in_ok-first.j) (sym (c.in_ok-push.ensures.items ∙ ap (λ v. v ++ c.in_ok-first.first ∷ []) c.new-clauses.ensures.items)) (claused_more (lexemes c.args.source) c.args.i c.past_bar-bar.result.0 [] c.past_bar-bar.result.1 (clause_of c.in_ok-first.first) c.in_ok-first.j (clausing_start c.requires c.past_bar-bar.result.0 c.past_bar-bar.result.1 c.past_bar-bar.ensures.bar c.past_bar-bar.ensures.begins) c.in_ok-first.ensures)

pub clause-requires-in-more : goal.clause-requires-in-more
clause-requires-in-more c = can_run (bar_start (lexemes c.args.source) c.args.i c.past_bar-bar.result.0 (map clause_of c.more.clauses.items) c.more.j c.more.invariant (sym c.is_at.ensures ∙ c.more-test.true))

pub more-preserved : goal.more-preserved
more-preserved c = subst (λ ts. Claused (lexemes c.args.source) c.args.i c.past_bar-bar.result.0 ts c.in_ok-next.end) (sym (ap (map clause_of) c.in_ok-push-2.ensures.items ∙ map-append clause_of c.more.clauses.items (c.in_ok-next.next ∷ []))) (claused_more (lexemes c.args.source) c.args.i c.past_bar-bar.result.0 (map clause_of c.more.clauses.items) (c.more.j + 1) (clause_of c.in_ok-next.next) c.in_ok-next.end (bar_start (lexemes c.args.source) c.args.i c.past_bar-bar.result.0 (map clause_of c.more.clauses.items) c.more.j c.more.invariant (sym c.is_at.ensures ∙ c.more-test.true)) c.in_ok-next.ensures)

pub more-smaller : goal.more-smaller
more-smaller c = let a : c.more.j + 1 + 1 ≤ c.in_ok-next.end = c.in_ok-next.ensures.is.ahead in let w = upto c.args.source c.in_ok-next.end c.in_ok-next.ensures.is.within in search rules

pub returns : goal.returns
returns c = subst (λ ts. IsClauses (lexemes c.args.source) c.args.i c.past_bar-bar.result.0 (map clause_of ts) c.more.j) (sym c.from_vec.ensures) (clauses_done (lexemes c.args.source) c.args.i c.past_bar-bar.result.0 (map clause_of c.more.clauses.items) c.more.j c.more.invariant (sym c.is_at.ensures ∙ c.more-test.false))

-- the numbers of tokens, which are at most that of all tokens

pub overflow_add-j : goal.overflow_add-j
overflow_add-j c = let h = upto c.args.source c.more.j c.more.invariant.within in search rules
