use Rattle.parser.proofs.parse_decls.Cited.{◌≡◌, false, [], ◌∷◌, Some, map, sym, ap, ◌∙◌, subst, refl, append_assoc, map-append, theory_of, lexemes, can_next, again, start, follow, read, Theories, can_file, theories_done, arith, ◌≤◌, ◌+◌, upto}
use Rattle.grammar.specs.declared.symbols.Symbol.TheVariants as s
use Rattle.parser.proofs.parse_decls.files.whole_file.Goals as goal

pub more-init : goal.more-init
more-init c = subst (λ ts. Theories (lexemes c.args.source) (map theory_of ts) 0) (sym c.new-theories.ensures.items) (again (start (can_file c.requires)) 0 refl (λ k us. refl))

pub theory-requires : goal.theory-requires
theory-requires c = record { can = can_next c.more.invariant; word = sym c.at_theory.ensures ∙ c.more-test.true }

pub more-preserved : goal.more-preserved
more-preserved c = subst (λ ts. Theories (lexemes c.args.source) ts c.in_ok-next.end) (sym (ap (map theory_of) c.in_ok-push.ensures.items ∙ map-append theory_of c.more.theories.items (c.in_ok-next.next ∷ [])))
    (again (follow {K = λ k. k} c.in_ok-next.ensures c.more.invariant) 0 refl (λ k us. ap (λ w. (w, us.1)) (sym (append_assoc (map theory_of c.more.theories.items) ((theory_of c.in_ok-next.next) ∷ []) us.0))))

pub returns : goal.returns
returns c = subst (λ ts. read (lexemes c.args.source) 0 false (s.File ∷ []) ≡ Some (map theory_of ts, tt)) (sym c.from_vec.ensures)
    (theories_done (lexemes c.args.source) (map theory_of c.more.theories.items) c.more.j c.more.invariant (sym c.at_theory.ensures ∙ c.more-test.false) c.requires)

-- the numbers of tokens, which are at most that of all tokens

pub more-smaller : goal.more-smaller
more-smaller c = let a : c.more.j + 1 ≤ c.in_ok-next.end = c.in_ok-next.ensures.ahead in let w = upto c.args.source c.in_ok-next.end c.in_ok-next.ensures.within in omega (arith, a, w)
