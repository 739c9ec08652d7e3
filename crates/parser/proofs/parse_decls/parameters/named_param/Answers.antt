use Rattle.parser.proofs.parse_decls.Cited.{◌+◌, [], ◌∷◌, ◌++◌, sym, ap, ◌∙◌, subst, refl, form_of, param_names, after_paren, IsRead, from, terminal_at, lexemes, same, names_before_colon, can_next, stands_due, and_cases, done, next, take, inside, named_there, rules, arith, stands, upto}
use Rattle.tokens_why.specs.declared.terminal.Terminal.TheVariants as t
use Rattle.grammar.specs.declared.symbols.Symbol.TheVariants as s
use Rattle.parser.proofs.parse_decls.ParamsRead as P
use Rattle.parser.proofs.parse_decls.parameters.named_param.Goals as goal

pub name_at-requires : goal.name_at-requires
name_at-requires c = inside c.args.source c.args.i (stands_due c.requires.can refl)

pub names-init : goal.names-init
names-init c = subst (λ ns. P.Naming (lexemes c.args.source) c.args.i ns (c.args.i + 1)) (ap (λ n. n ∷ []) (sym (named_there (lexemes c.args.source) c.args.i c.in_ok-first.first c.in_ok-first.ensures.place c.in_ok-first.ensures.text ((and_cases (same t.Lident (terminal_at (lexemes c.args.source) c.args.i)) (names_before_colon (from (lexemes c.args.source) (c.args.i + 1))) c.requires.names).0))) ∙ sym (c.in_ok-push.ensures.items ∙ ap (λ v. v ++ c.in_ok-first.first ∷ []) c.new-names.ensures.items)) (P.naming_start c.requires.can c.requires.names)

pub names-preserved : goal.names-preserved
names-preserved c = subst (λ ns. P.Naming (lexemes c.args.source) c.args.i ns (c.names.j + 1)) (ap (λ n. c.names.names.items ++ n ∷ []) (sym (named_there (lexemes c.args.source) c.names.j c.in_ok-next.next c.in_ok-next.ensures.place c.in_ok-next.ensures.text (sym c.is_at.ensures ∙ c.names-test.true))) ∙ sym c.in_ok-push-2.ensures.items) (P.naming_more (lexemes c.args.source) c.args.i c.names.names.items c.names.j c.names.invariant (sym c.is_at.ensures ∙ c.names-test.true))

pub type_tree-requires : goal.type_tree-requires
type_tree-requires c = can_next (P.type_start (lexemes c.args.source) c.args.i c.names.names.items c.names.j c.names.invariant (sym c.is_at.ensures ∙ c.names-test.false))

pub returns : goal.returns
returns c = subst (λ ns. IsRead (lexemes c.args.source) s.Pparen c.args.i (param_names ns (form_of c.in_ok-ty.ty)) (c.in_ok-ty.end + 1)) (sym c.from_vec.ensures) (subst (λ vs. IsRead (lexemes c.args.source) s.Pparen c.args.i (param_names vs (form_of c.in_ok-ty.ty)) (c.in_ok-ty.end + 1)) c.names.invariant.spelled (done (take (next (P.type_start (lexemes c.args.source) c.args.i c.names.names.items c.names.j c.names.invariant (sym c.is_at.ensures ∙ c.names-test.false)) c.in_ok-ty.ensures)) (param_names (c.names.invariant.first ∷ c.names.invariant.others) (form_of c.in_ok-ty.ty)) refl (λ k us. ap (λ v. (after_paren c.names.invariant.first.at c.names.invariant.first.text v, us)) (P.named_all c.names.invariant.others (form_of c.in_ok-ty.ty)))))

-- the numbers of tokens, which are at most that of all tokens

pub overflow_add-j : goal.overflow_add-j
overflow_add-j c = let h = inside c.args.source c.args.i (stands_due c.requires.can refl) in search rules

pub name_at-requires-in-names : goal.name_at-requires-in-names
name_at-requires-in-names c = inside c.args.source c.names.j (stands (lexemes c.args.source) c.names.j t.Lident (sym c.is_at.ensures ∙ c.names-test.true) refl)

pub overflow_add-j-in-names : goal.overflow_add-j-in-names
overflow_add-j-in-names c = let h = inside c.args.source c.names.j (stands (lexemes c.args.source) c.names.j t.Lident (sym c.is_at.ensures ∙ c.names-test.true) refl) in search rules

pub names-smaller : goal.names-smaller
names-smaller c = let h = inside c.args.source c.names.j (stands (lexemes c.args.source) c.names.j t.Lident (sym c.is_at.ensures ∙ c.names-test.true) refl) in omega (arith, h)

pub overflow_add-j-2 : goal.overflow_add-j-2
overflow_add-j-2 c = let h = upto c.args.source c.names.j c.names.invariant.is.within in search rules

pub overflow_add-result : goal.overflow_add-result
overflow_add-result c = let h = upto c.args.source c.in_ok-ty.end c.in_ok-ty.ensures.within in search rules
