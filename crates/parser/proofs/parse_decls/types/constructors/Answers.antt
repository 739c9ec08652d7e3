use Rattle.parser.proofs.parse_decls.Cited.{[], ◌∷◌, ◌++◌, map, sym, ap, ◌∙◌, subst, ◌+◌, refl, map-append, constructor_of, lexemes, IsConstructors, only, can_next, take, Constructors, bar_read, constructors_done, constructors_more, constructors_start, rules, arith, ◌≤◌, upto}
use Rattle.tokens_why.specs.declared.terminal.Terminal.TheVariants as t
use Rattle.parser.proofs.parse_decls.types.constructors.Goals as goal

pub more-init : goal.more-init
more-init c = subst (λ ts. Constructors (lexemes c.args.source) c.args.i (map constructor_of ts) c.in_ok-first.j) (sym (c.in_ok-push.ensures.items ∙ ap (λ v. v ++ c.in_ok-first.first ∷ []) c.new-cons.ensures.items))
    (constructors_start (lexemes c.args.source) c.args.i (constructor_of c.in_ok-first.first) c.in_ok-first.j c.in_ok-first.ensures)

pub constructor-requires-in-more : goal.constructor-requires-in-more
constructor-requires-in-more c = let e = sym c.is_at.ensures ∙ c.more-test.true in record {
  name = (only (bar_read (lexemes c.args.source) c.args.i (map constructor_of c.more.cons.items) c.more.j c.more.invariant e) t.Uident [] refl refl tt);
  can = (can_next (take (bar_read (lexemes c.args.source) c.args.i (map constructor_of c.more.cons.items) c.more.j c.more.invariant e)));
}

pub more-preserved : goal.more-preserved
more-preserved c = subst (λ ts. Constructors (lexemes c.args.source) c.args.i ts c.in_ok-next.end) (sym (ap (map constructor_of) c.in_ok-push-2.ensures.items ∙ map-append constructor_of c.more.cons.items (c.in_ok-next.next ∷ [])))
    (constructors_more (lexemes c.args.source) c.args.i (map constructor_of c.more.cons.items) c.more.j c.more.invariant (sym c.is_at.ensures ∙ c.more-test.true) (constructor_of c.in_ok-next.next) c.in_ok-next.end c.in_ok-next.ensures)

pub returns : goal.returns
returns c = subst (λ ts. IsConstructors (lexemes c.args.source) c.args.i (map constructor_of ts) c.more.j) (sym c.from_vec.ensures) (constructors_done (lexemes c.args.source) c.args.i (map constructor_of c.more.cons.items) c.more.j c.more.invariant (sym c.is_at.ensures ∙ c.more-test.false))

-- the numbers of tokens, which are at most that of all tokens

pub overflow_add-j : goal.overflow_add-j
overflow_add-j c = let h = upto c.args.source c.more.j c.more.invariant.is.within in search rules

pub more-smaller : goal.more-smaller
more-smaller c = let a : c.more.j + 1 + 1 + 0 ≤ c.in_ok-next.end = c.in_ok-next.ensures.is.ahead in let w = upto c.args.source c.in_ok-next.end c.in_ok-next.ensures.is.within in omega (arith, a, w)
