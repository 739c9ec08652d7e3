use Rattle.parser.proofs.parse_decls.Cited.{◌+◌, sym, ◌∙◌, subst, refl, lexemes, variable_text, stands, IsReadNames, AreTypeVariablesAt, inside, made, named_more, rules, arith}
use Rattle.tokens_why.specs.declared.terminal.Terminal.TheVariants as t
use Rattle.parser.proofs.parse_decls.types.variables.Goals as goal

pub names-init : goal.names-init
names-init c = subst (λ ws. AreTypeVariablesAt (lexemes c.args.source) c.args.i ws c.args.i) (sym c.new-names.ensures.items) refl

pub name_at-requires : goal.name_at-requires
name_at-requires c = inside c.args.source c.names.j (stands (lexemes c.args.source) c.names.j t.TyVar (sym c.is_at.ensures ∙ c.names-test.true) refl)

pub names-preserved : goal.names-preserved
names-preserved c = let e = sym c.is_at.ensures ∙ c.names-test.true in subst (λ ws. AreTypeVariablesAt (lexemes c.args.source) c.args.i ws (c.names.j + 1)) (sym c.in_ok-push.ensures.items)
    (named_more (lexemes c.args.source) c.args.i c.names.names.items c.names.j c.in_ok-next.next e (made (lexemes c.args.source) c.names.j c.in_ok-next.next c.in_ok-next.ensures.place (variable_text c.in_ok-next.ensures.text e)) c.names.invariant)

pub returns : goal.returns
returns c = subst (λ ns. IsReadNames (lexemes c.args.source) c.args.i ns c.names.j) (sym c.from_vec.ensures) (record { names = c.names.invariant; ends = sym c.is_at.ensures ∙ c.names-test.false })

-- the numbers of tokens, which are at most that of all tokens

pub overflow_add-j : goal.overflow_add-j
overflow_add-j c = let h = inside c.args.source c.names.j (stands (lexemes c.args.source) c.names.j t.TyVar (sym c.is_at.ensures ∙ c.names-test.true) refl) in search rules

pub names-smaller : goal.names-smaller
names-smaller c = let h = inside c.args.source c.names.j (stands (lexemes c.args.source) c.names.j t.TyVar (sym c.is_at.ensures ∙ c.names-test.true) refl) in omega (arith, h)
