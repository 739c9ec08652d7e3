use Rattle.parser.proofs.parse_decls.Cited.{[], ◌∷◌, ◌++◌, map, sym, ap, ◌∙◌, subst, ◌+◌, refl, append_assoc, append-nil, map-append, element_of, IsRead, terminal_at, lexemes, done, none_of, pass, start, can_next, again, next, expand, Elements, elements_with, rules, arith, ◌≤◌, upto}
use Rattle.tokens_why.specs.declared.terminal.Terminal.TheVariants as t
use Rattle.grammar.specs.declared.symbols.Symbol.TheVariants as s
use Rattle.parser.proofs.parse_decls.clones.substitution.Goals as goal

pub element-requires : goal.element-requires
element-requires c = can_next (elements_with c.requires (sym c.is_at-is_given.ensures ∙ c.if-is_given.true))

pub more-init : goal.more-init
more-init c = subst (λ ts. Elements (lexemes c.args.source) c.args.i (map element_of ts) c.in_ok-first.j) (sym (c.in_ok-push.ensures.items ∙ ap (λ v. v ++ c.in_ok-first.first ∷ []) c.new-elements.ensures.items))
    (again (next (elements_with c.requires (sym c.is_at-is_given.ensures ∙ c.if-is_given.true)) c.in_ok-first.ensures) 1 refl (λ k us. refl))

pub element-requires-in-more : goal.element-requires-in-more
element-requires-in-more c = can_next (expand c.more.invariant t.Comma (sym c.is_at.ensures ∙ c.more-test.true) refl refl)

pub more-preserved : goal.more-preserved
more-preserved c = subst (λ ts. Elements (lexemes c.args.source) c.args.i ts c.in_ok-next.end) (sym (ap (map element_of) c.in_ok-push-2.ensures.items ∙ map-append element_of c.more.elements.items (c.in_ok-next.next ∷ [])))
    (again (next (expand c.more.invariant t.Comma (sym c.is_at.ensures ∙ c.more-test.true) refl refl) c.in_ok-next.ensures) 1 refl (λ k us. ap (λ w. (w, us.1)) (sym (append_assoc (map element_of c.more.elements.items) ((element_of c.in_ok-next.next) ∷ []) us.0))))

pub returns-then-is_given : goal.returns-then-is_given
returns-then-is_given c = subst (λ ts. IsRead (lexemes c.args.source) s.Subst c.args.i (map element_of ts) c.more.j) (sym c.from_vec.ensures) (done (pass c.more.invariant refl refl (none_of s.Elems (t.Comma ∷ []) (terminal_at (lexemes c.args.source) c.more.j) refl ((sym c.is_at.ensures ∙ c.more-test.false), tt))) _ refl (λ k us. ap (λ w. (w, us)) (append-nil (map element_of c.more.elements.items))))

pub returns : goal.returns
returns c = subst (λ ts. IsRead (lexemes c.args.source) s.Subst c.args.i (map element_of ts) c.args.i) (sym (c.from_vec-2.ensures ∙ c.new-elements.ensures.items)) (done (pass (start c.requires) refl refl (none_of s.Subst (t.WithWord ∷ []) (terminal_at (lexemes c.args.source) c.args.i) refl ((sym c.is_at-is_given.ensures ∙ c.if-is_given.false), tt))) _ refl (λ k us. refl))

-- the numbers of tokens, which are at most that of all tokens

pub overflow_add-i : goal.overflow_add-i
overflow_add-i c = let h = upto c.args.source c.args.i c.requires.within in search rules

pub overflow_add-j : goal.overflow_add-j
overflow_add-j c = let h = upto c.args.source c.more.j c.more.invariant.within in search rules

pub more-smaller : goal.more-smaller
more-smaller c = let a : c.more.j + 1 + 1 ≤ c.in_ok-next.end = c.in_ok-next.ensures.ahead in let w = upto c.args.source c.in_ok-next.end c.in_ok-next.ensures.within in omega (arith, a, w)
