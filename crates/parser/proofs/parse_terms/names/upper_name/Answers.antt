use Rattle.parser.proofs.parse_terms.Cited.{arith, ◌+◌, sym, ◌∙◌, subst, refl, called, own_of, IsUpperName, lexemes, stands, UpperWords, inside, upper_words_done, upper_words_more, upper_words_start, upper_words_within}
use Rattle.tokens_why.specs.declared.terminal.Terminal.TheVariants as t
use Rattle.surface.specs.declared.names.Style.TheVariants as style
use Rattle.parser.proofs.parse_terms.names.upper_name.Goals as goal

pub text-requires : goal.text-requires
text-requires c = inside c.args.source c.args.i (stands (lexemes c.args.source) c.args.i t.Uident c.requires.first refl)

pub scopes-init : goal.scopes-init
scopes-init c = subst (λ ws. UpperWords (lexemes c.args.source) c.args.i ws c.in_ok-last.last (c.args.i + 1)) (sym c.new-scopes.ensures.items) (upper_words_start (lexemes c.args.source) c.args.i c.in_ok-last.last c.requires.first c.in_ok-last.ensures c.requires.can)

pub text-requires-in-scopes : goal.text-requires-in-scopes
text-requires-in-scopes c = inside c.args.source (c.scopes.j + 1) (upper_words_within (lexemes c.args.source) c.args.i c.scopes.scopes.items c.scopes.last c.scopes.j c.scopes.invariant (sym c.is_at.ensures ∙ c.scopes-test.true))

pub scopes-preserved : goal.scopes-preserved
scopes-preserved c = let e = sym c.is_at.ensures ∙ c.scopes-test.true in
    subst (λ ws. UpperWords (lexemes c.args.source) c.args.i ws c.in_ok-word.word (c.scopes.j + 1 + 1)) (sym c.in_ok-push.ensures.items)
    (upper_words_more (lexemes c.args.source) c.args.i c.scopes.scopes.items c.scopes.last c.scopes.j c.in_ok-word.word c.scopes.invariant e c.in_ok-word.ensures)

pub returns : goal.returns
returns c = let n = sym c.is_at.ensures ∙ c.scopes-test.false in
    subst (λ qs. IsUpperName (lexemes c.args.source) c.args.i (called c.args.i qs (own_of style.Plain c.scopes.last)) c.scopes.j) (sym c.from_vec.ensures)
    (upper_words_done (lexemes c.args.source) c.args.i c.scopes.scopes.items c.scopes.last c.scopes.j c.scopes.invariant n)

pub scopes-smaller : goal.scopes-smaller
scopes-smaller c =
    let h = inside c.args.source (c.scopes.j + 1) (upper_words_within (lexemes c.args.source) c.args.i c.scopes.scopes.items c.scopes.last c.scopes.j c.scopes.invariant (sym c.is_at.ensures ∙ c.scopes-test.true)) in
    omega (arith, h)
