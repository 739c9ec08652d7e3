use Rattle.parser.proofs.parse_terms.Cited.{arith, ◌+◌, [], ◌∷◌, ◌++◌, sym, ap, ◌∙◌, subst, refl, called, IsRead, lexemes, next_within, again, start, TypeScopes, type_name_there, type_scopes_done, type_scopes_more, inside, lower_text, lower_word, upper_text}
use Rattle.grammar.specs.declared.symbols.Symbol.TheVariants as s
use Rattle.parser.proofs.parse_terms.names.lower_name.Goals as goal

pub scopes-init : goal.scopes-init
scopes-init c = subst (λ ws. TypeScopes (lexemes c.args.source) c.args.i ws c.args.i) (sym c.new-scopes.ensures.items) (again (start c.requires) 0 refl (λ k us. refl))

pub text-requires : goal.text-requires
text-requires c = inside c.args.source c.scopes.j (next_within c.scopes.invariant refl)

pub scopes-preserved : goal.scopes-preserved
scopes-preserved c = let e = sym c.is_at.ensures ∙ c.scopes-test.true in
    subst (λ ws. TypeScopes (lexemes c.args.source) c.args.i ws (c.scopes.j + 1 + 1)) (sym (c.in_ok-push.ensures.items ∙ ap (λ v. c.scopes.scopes.items ++ v ∷ []) (upper_text c.in_ok-word.ensures e)))
    (type_scopes_more (lexemes c.args.source) c.args.i c.scopes.scopes.items c.scopes.j c.scopes.invariant e)

pub returns-clause-read : goal.returns-clause-read
returns-clause-read c = let n = sym c.is_at.ensures ∙ c.scopes-test.false in let w = lower_text c.in_ok-last.ensures (type_name_there (lexemes c.args.source) c.args.i c.scopes.scopes.items c.scopes.j c.scopes.invariant n) in
    subst (λ qs. IsRead (lexemes c.args.source) s.Qlid c.args.i (record { scopes = qs; last = c.in_ok-last.last }) (c.scopes.j + 1)) (sym c.from_vec.ensures)
    (subst (λ v. IsRead (lexemes c.args.source) s.Qlid c.args.i (record { scopes = c.scopes.scopes.items; last = v }) (c.scopes.j + 1)) (sym w)
    (type_scopes_done (lexemes c.args.source) c.args.i c.scopes.scopes.items c.scopes.j c.scopes.invariant n))

pub returns-clause-name : goal.returns-clause-name
returns-clause-name c = ap (called c.args.i c.from_vec.result) (lower_word c.in_ok-last.ensures (type_name_there (lexemes c.args.source) c.args.i c.scopes.scopes.items c.scopes.j c.scopes.invariant (sym c.is_at.ensures ∙ c.scopes-test.false)))

pub text-requires-2 : goal.text-requires-2
text-requires-2 c = inside c.args.source c.scopes.j (next_within c.scopes.invariant refl)

pub scopes-smaller : goal.scopes-smaller
scopes-smaller c = let h = inside c.args.source c.scopes.j (next_within c.scopes.invariant refl) in omega (arith, h)
