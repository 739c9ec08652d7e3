use Rattle.parser.proofs.parse_terms.Cited.{inside, next_within, ◌≤◌, rules, arith, [], ◌∷◌, ◌++◌, map, sym, ap, ◌∙◌, subst, ◌+◌, refl, map-append, forms, pattern_of, patterns, lexemes, IsAlternative, again, next, start, can_next, expand, alternative_done, patterned_more}
use Rattle.tokens_why.specs.declared.terminal.Terminal.TheVariants as t
use Rattle.grammar.specs.declared.symbols.Symbol.TheVariants as s
use Rattle.parser.proofs.parse_terms.parts.alternative.Goals as goal

pub pattern-requires : goal.pattern-requires
pattern-requires c = record { within = c.requires.within; following = s.Arm ∷ c.requires.following; values = c.requires.values; reads = c.requires.reads }

pub more-init : goal.more-init
more-init c = record {
  first = pattern_of c.in_ok-first.first;
  others = [];
  spelled = sym (ap (map pattern_of) (c.in_ok-push.ensures.items ∙ ap (λ v. v ++ c.in_ok-first.first ∷ []) c.new-parts.ensures.items));
  is = (again (next (start c.requires) c.in_ok-first.ensures) 1 refl (λ k us. refl));
}

pub pattern-requires-in-more : goal.pattern-requires-in-more
pattern-requires-in-more c = let g = c.more.invariant in (can_next (expand g.is t.Comma (sym c.is_at.ensures ∙ c.more-test.true) refl refl))

pub more-preserved : goal.more-preserved
more-preserved c = let g = c.more.invariant in record {
  first = g.first;
  others = g.others ++ pattern_of c.in_ok-next.next ∷ [];
  spelled = ap (λ v. v ++ pattern_of c.in_ok-next.next ∷ []) g.spelled ∙ sym (ap (map pattern_of) c.in_ok-push-2.ensures.items ∙ map-append pattern_of c.more.parts.items (c.in_ok-next.next ∷ []));
  is = patterned_more (lexemes c.args.source) c.args.i g.first g.others c.more.j g.is (pattern_of c.in_ok-next.next) c.in_ok-next.end (sym c.is_at.ensures ∙ c.more-test.true) c.in_ok-next.ensures;
}

pub returns : goal.returns
returns c = let g = c.more.invariant in subst (λ ts. IsAlternative (lexemes c.args.source) c.args.i (patterns ts) c.more.j) (sym c.from_vec.ensures)
    (subst (λ fs. IsAlternative (lexemes c.args.source) c.args.i (forms fs) c.more.j) g.spelled (alternative_done (lexemes c.args.source) c.args.i g.first g.others c.more.j g.is (sym c.is_at.ensures ∙ c.more-test.false)))

-- the numbers of tokens, which are at most that of all tokens

pub overflow_add-j : goal.overflow_add-j
overflow_add-j c = let h = inside c.args.source c.more.j (next_within c.more.invariant.is refl) in search rules

pub more-smaller : goal.more-smaller
more-smaller c = let h = inside c.args.source c.more.j (next_within c.more.invariant.is refl) in let a : c.more.j + 1 + 1 ≤ c.in_ok-next.end = c.in_ok-next.ensures.ahead in omega (arith, h, a)
