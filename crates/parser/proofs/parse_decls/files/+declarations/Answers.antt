use Rattle.parser.proofs.parse_decls.Cited.{rules, ◌+◌, [], ◌∷◌, map, sym, ap, ◌∙◌, subst, refl, map-append, scope_decl, more_decls, no_decls, decls, decl_of, IsRead, terminal_at, lexemes, same, at, decl_of_node-ScopeDecl, can_next, again, start, follow, many_more, stands, done, expand, many, only, take, next, IsDecl, unopen, inside, upper_there, Declared, decls_many, is_end, scope_start, scope_within, arith, ◌≤◌, upto}
use Rattle.tokens_why.specs.declared.terminal.Terminal.TheVariants as t
use Rattle.grammar.specs.declared.symbols.Symbol.TheVariants as s
use Rattle.parser.proofs.parse_decls.files.+declarations.Goals as goal

pub declaration-scope-requires : goal.declaration-scope-requires
declaration-scope-requires m c = (search rules, (c.requires.can, sym c.is_at-is_scope.ensures ∙ c.if-is_scope.true))

pub declaration-flat_declaration-requires : goal.declaration-flat_declaration-requires
declaration-flat_declaration-requires m c = record { can = c.requires.can; no_end = c.requires.word; no_scope = sym c.is_at-is_scope.ensures ∙ c.if-is_scope.false }

pub scope-name_at-requires : goal.scope-name_at-requires
scope-name_at-requires m c = inside c.args.source (c.args.i + 1) (scope_within c.requires.can c.requires.word)

pub scope-declarations-requires : goal.scope-declarations-requires
scope-declarations-requires m c = let h = inside c.args.source (c.args.i + 1) (scope_within c.requires.can c.requires.word) in (search rules, (can_next (take (scope_start c.requires.can c.requires.word))))

pub scope-returns : goal.scope-returns
scope-returns m c = subst (λ d. IsDecl (lexemes c.args.source) c.args.i d c.in_ok-of.end) (sym (c.new-tree.ensures ∙ decl_of_node-ScopeDecl _ _ _ ∙ ap (λ a. scope_decl a c.in_ok-name.name (decls (map decl_of c.in_ok-of.of))) c.place-here.ensures))
    (again (next (take (scope_start c.requires.can c.requires.word)) c.in_ok-of.ensures) 1 refl (λ k us. ap (λ v. (more_decls (scope_decl (at c.args.i) v (decls (map decl_of c.in_ok-of.of))) us.0, us.1)) (sym (upper_there (lexemes c.args.source) (c.args.i + 1) c.in_ok-name.name c.in_ok-name.ensures.place c.in_ok-name.ensures.text (only (scope_start c.requires.can c.requires.word) t.Uident [] refl refl tt)))))

pub declarations-items-init : goal.declarations-items-init
declarations-items-init m c = subst (λ ts. Declared (lexemes c.args.source) c.args.i (map decl_of ts) c.args.i) (sym c.new-items.ensures.items) (again (start c.requires) 0 refl (λ k us. refl))

pub declarations-declaration-requires : goal.declarations-declaration-requires
declarations-declaration-requires m c = let a = c.items.invariant.ahead in (search rules, (can_next c.items.invariant, (unopen (same t.EndWord (terminal_at (lexemes c.args.source) c.items.j)) (sym c.goes_on.ensures ∙ c.items-test.true))))

pub declarations-items-preserved : goal.declarations-items-preserved
declarations-items-preserved m c = subst (λ ts. Declared (lexemes c.args.source) c.args.i ts c.in_ok-next.end) (sym (ap (map decl_of) c.in_ok-push.ensures.items ∙ map-append decl_of c.items.items.items (c.in_ok-next.next ∷ [])))
    (again (follow {K = λ k. k} c.in_ok-next.ensures c.items.invariant) 0 refl (λ k us. ap (λ w. (w, us.1)) (many_more more_decls (map decl_of c.items.items.items) (decl_of c.in_ok-next.next) us.0)))

pub declarations-overflow_add-result : goal.declarations-overflow_add-result
declarations-overflow_add-result m c = let h = inside c.args.source c.items.j (stands (lexemes c.args.source) c.items.j t.EndWord (is_end (terminal_at (lexemes c.args.source) c.items.j) c.goes_on.result c.goes_on.ensures c.items-test.false) refl) in search rules

pub declarations-returns : goal.declarations-returns
declarations-returns m c = subst (λ ts. IsRead (lexemes c.args.source) s.Decls c.args.i (decls (map decl_of ts)) (c.items.j + 1)) (sym c.from_vec.ensures)
    (subst (λ v. IsRead (lexemes c.args.source) s.Decls c.args.i v (c.items.j + 1)) (decls_many (map decl_of c.items.items.items)) (done (expand c.items.invariant t.EndWord (is_end (terminal_at (lexemes c.args.source) c.items.j) c.goes_on.result c.goes_on.ensures c.items-test.false) refl refl) (many more_decls (map decl_of c.items.items.items) no_decls) refl (λ k us. refl)))

-- the numbers of tokens, which are at most that of all tokens

pub declarations-items-smaller : goal.declarations-items-smaller
declarations-items-smaller m c = let a : c.items.j + 1 ≤ c.in_ok-next.end = c.in_ok-next.ensures.ahead in let w = upto c.args.source c.in_ok-next.end c.in_ok-next.ensures.within in omega (arith, a, w)

pub scope-overflow_add-i : goal.scope-overflow_add-i
scope-overflow_add-i m c = let h = upto c.args.source c.args.i c.requires.can.within in search rules

pub scope-overflow_add-i-2 : goal.scope-overflow_add-i-2
scope-overflow_add-i-2 m c = let h = upto c.args.source c.args.i c.requires.can.within in search rules

pub scope-overflow_add-i-3 : goal.scope-overflow_add-i-3
scope-overflow_add-i-3 m c = let h = upto c.args.source c.args.i c.requires.can.within in search rules
