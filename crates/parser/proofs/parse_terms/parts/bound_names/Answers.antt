use Rattle.parser.proofs.parse_terms.Cited.{stands, rules, arith, [], ◌∷◌, ◌++◌, sym, ap, ◌∙◌, subst, refl, name, token_at, lexemes, IsNaming, stands_due, again, start, take, only, inside, named_there, naming_more}
use Rattle.tokens_why.specs.declared.terminal.Terminal.TheVariants as t
use Rattle.parser.proofs.parse_terms.parts.bound_names.Goals as goal

pub name_at-requires : goal.name_at-requires
name_at-requires c = inside c.args.source c.args.i (stands_due c.requires refl)

pub more-init : goal.more-init
more-init c = record {
  first = name c.args.i (token_at (lexemes c.args.source) c.args.i).text;
  others = [];
  spelled = ap (λ n. n ∷ []) (sym (named_there (lexemes c.args.source) c.args.i c.in_ok-first.first c.in_ok-first.ensures.place c.in_ok-first.ensures.text (only (start c.requires) t.Lident [] refl refl tt))) ∙ sym (c.in_ok-push.ensures.items ∙ ap (λ v. v ++ c.in_ok-first.first ∷ []) c.new-names.ensures.items);
  is = (again (take (start c.requires)) 1 refl (λ k us. refl));
}

pub more-preserved : goal.more-preserved
more-preserved c = let g = c.more.invariant in let e = sym c.is_at.ensures ∙ c.more-test.true in record {
  first = g.first;
  others = g.others ++ name c.more.j (token_at (lexemes c.args.source) c.more.j).text ∷ [];
  spelled = ap (λ v. v ++ name c.more.j (token_at (lexemes c.args.source) c.more.j).text ∷ []) g.spelled ∙ ap (λ n. c.more.names.items ++ n ∷ []) (sym (named_there (lexemes c.args.source) c.more.j c.in_ok-next.next c.in_ok-next.ensures.place c.in_ok-next.ensures.text e)) ∙ sym c.in_ok-push-2.ensures.items;
  is = naming_more (lexemes c.args.source) c.args.i g.first g.others c.more.j g.is e;
}

pub returns : goal.returns
returns c = subst (λ ns. IsNaming (lexemes c.args.source) c.args.i ns c.more.j) (sym c.from_vec.ensures) (record { first = c.more.invariant.first; others = c.more.invariant.others; spelled = c.more.invariant.spelled; ends = (sym c.is_at.ensures ∙ c.more-test.false); is = c.more.invariant.is })

-- the numbers of tokens, which are at most that of all tokens

pub overflow_add-j : goal.overflow_add-j
overflow_add-j c = let h = inside c.args.source c.args.i (stands_due c.requires refl) in search rules

pub name_at-requires-in-more : goal.name_at-requires-in-more
name_at-requires-in-more c = inside c.args.source c.more.j (stands (lexemes c.args.source) c.more.j t.Lident (sym c.is_at.ensures ∙ c.more-test.true) refl)

pub overflow_add-j-in-more : goal.overflow_add-j-in-more
overflow_add-j-in-more c = let h = inside c.args.source c.more.j (stands (lexemes c.args.source) c.more.j t.Lident (sym c.is_at.ensures ∙ c.more-test.true) refl) in search rules

pub more-smaller : goal.more-smaller
more-smaller c = let h = inside c.args.source c.more.j (stands (lexemes c.args.source) c.more.j t.Lident (sym c.is_at.ensures ∙ c.more-test.true) refl) in omega (arith, h)
