use Rattle.parser.proofs.parse_terms.Cited.{arith, ◌+◌, [], ◌∷◌, ◌++◌, sym, ap, ◌∙◌, subst, refl, same, own_of, IsRead, terminal_at, lexemes, and_cases, can_next, stands, again, start, Scopes, scopes_done, scopes_more, inside, upper_text}
use Rattle.tokens_why.specs.declared.terminal.Terminal.TheVariants as t
use Rattle.grammar.specs.declared.symbols.Symbol.TheVariants as s
use Rattle.parser.proofs.parse_terms.names.head_name.Goals as goal

pub scopes-init : goal.scopes-init
scopes-init c = subst (λ ws. Scopes (lexemes c.args.source) c.args.i ws c.args.i) (sym c.new-scopes.ensures.items) (again (start c.requires) 0 refl (λ k us. refl))

pub text-requires : goal.text-requires
text-requires c = inside c.args.source c.scopes.j (stands (lexemes c.args.source) c.scopes.j t.Uident (and_cases (same t.Uident (terminal_at (lexemes c.args.source) c.scopes.j)) (same t.Dot (terminal_at (lexemes c.args.source) (c.scopes.j + 1))) (sym c.at_scope.ensures ∙ c.scopes-test.true)).0 refl)

pub scopes-preserved : goal.scopes-preserved
scopes-preserved c = let e = sym c.at_scope.ensures ∙ c.scopes-test.true in
    subst (λ ws. Scopes (lexemes c.args.source) c.args.i ws (c.scopes.j + 1 + 1)) (sym (c.in_ok-push.ensures.items ∙ ap (λ v. c.scopes.scopes.items ++ v ∷ []) (upper_text c.in_ok-word.ensures (and_cases (same t.Uident (terminal_at (lexemes c.args.source) c.scopes.j)) (same t.Dot (terminal_at (lexemes c.args.source) (c.scopes.j + 1))) e).0)))
    (scopes_more (lexemes c.args.source) c.args.i c.scopes.scopes.items c.scopes.j e c.scopes.invariant)

pub own_name-requires : goal.own_name-requires
own_name-requires c = record { can = can_next c.scopes.invariant; last = sym c.at_scope.ensures ∙ c.scopes-test.false }

pub returns-clause-read : goal.returns-clause-read
returns-clause-read c = subst (λ qs. IsRead (lexemes c.args.source) s.Qhead c.args.i (record { scopes = qs; own = own_of c.in_ok-own.own.style c.in_ok-own.own.text }) c.in_ok-own.own.end) (sym c.from_vec.ensures)
    (scopes_done (lexemes c.args.source) c.args.i c.scopes.scopes.items c.scopes.j (own_of c.in_ok-own.own.style c.in_ok-own.own.text) c.in_ok-own.own.end c.scopes.invariant c.in_ok-own.ensures)

pub scopes-smaller : goal.scopes-smaller
scopes-smaller c =
    let h = inside c.args.source c.scopes.j (stands (lexemes c.args.source) c.scopes.j t.Uident (and_cases (same t.Uident (terminal_at (lexemes c.args.source) c.scopes.j)) (same t.Dot (terminal_at (lexemes c.args.source) (c.scopes.j + 1))) (sym c.at_scope.ensures ∙ c.scopes-test.true)).0 refl) in
    omega (arith, h)
