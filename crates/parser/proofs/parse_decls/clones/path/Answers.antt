use Rattle.parser.proofs.parse_decls.Cited.{◌+◌, [], ◌∷◌, ◌++◌, sym, ap, ◌∙◌, subst, refl, append_assoc, IsRead, token_at, lexemes, again, take, done, expand, inside, lower_text, upper_text, Paths, path_at, path_dot, path_last, path_start, path_within, rules, arith}
use Rattle.tokens_why.specs.declared.terminal.Terminal.TheVariants as t
use Rattle.grammar.specs.declared.symbols.Symbol.TheVariants as s
use Rattle.parser.proofs.parse_decls.clones.path.Goals as goal

pub parts-init : goal.parts-init
parts-init c = subst (λ ws. Paths (lexemes c.args.source) c.args.i ws c.args.i) (sym c.new-parts.ensures.items) (path_start c.requires)

pub text-requires : goal.text-requires
text-requires c = inside c.args.source c.parts.j (path_within (lexemes c.args.source) c.args.i c.parts.parts.items c.parts.j c.parts.invariant)

pub text-requires-2 : goal.text-requires-2
text-requires-2 c = inside c.args.source c.parts.j (path_within (lexemes c.args.source) c.args.i c.parts.parts.items c.parts.j c.parts.invariant)

pub parts-preserved : goal.parts-preserved
parts-preserved c = let e = sym c.is_at.ensures ∙ c.parts-test.true in
    subst (λ ws. Paths (lexemes c.args.source) c.args.i ws (c.parts.j + 1 + 1)) (sym (c.in_ok-push.ensures.items ∙ ap (λ v. c.parts.parts.items ++ v ∷ []) (lower_text c.in_ok-word.ensures e)))
    (again (take (path_dot (lexemes c.args.source) c.args.i c.parts.parts.items c.parts.j c.parts.invariant e)) 0 refl (λ k us. ap (λ v. (path_at c.args.i v, us.1)) (sym (append_assoc c.parts.parts.items ((token_at (lexemes c.args.source) c.parts.j).text ∷ []) us.0.parts))))

pub returns : goal.returns
returns c = let n = sym c.is_at.ensures ∙ c.parts-test.false in
    subst (λ ws. IsRead (lexemes c.args.source) s.Path c.args.i (path_at c.args.i ws) (c.parts.j + 1)) (sym (c.from_vec.ensures ∙ c.in_ok-push-2.ensures.items ∙ ap (λ v. c.parts.parts.items ++ v ∷ []) (upper_text c.in_ok-last.ensures (path_last (lexemes c.args.source) c.args.i c.parts.parts.items c.parts.j c.parts.invariant n))))
    (done (expand c.parts.invariant t.Uident (path_last (lexemes c.args.source) c.args.i c.parts.parts.items c.parts.j c.parts.invariant n) refl refl) _ refl (λ k us. refl))

-- the numbers of tokens, which are at most that of all tokens

pub overflow_add-j : goal.overflow_add-j
overflow_add-j c = let h = inside c.args.source c.parts.j (path_within (lexemes c.args.source) c.args.i c.parts.parts.items c.parts.j c.parts.invariant) in search rules

pub overflow_add-j-in-parts : goal.overflow_add-j-in-parts
overflow_add-j-in-parts c = let h = inside c.args.source c.parts.j (path_within (lexemes c.args.source) c.args.i c.parts.parts.items c.parts.j c.parts.invariant) in search rules

pub parts-smaller : goal.parts-smaller
parts-smaller c = let h = inside c.args.source c.parts.j (path_within (lexemes c.args.source) c.args.i c.parts.parts.items c.parts.j c.parts.invariant) in omega (arith, h)

pub overflow_add-result : goal.overflow_add-result
overflow_add-result c = let h = inside c.args.source c.parts.j (path_within (lexemes c.args.source) c.args.i c.parts.parts.items c.parts.j c.parts.invariant) in search rules
