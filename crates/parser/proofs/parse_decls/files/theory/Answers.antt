use Rattle.parser.proofs.parse_decls.Cited.{◌+◌, map, sym, subst, [], ◌∷◌, refl, ◌∙◌, ap, name, decls, decl_of, lexemes, token_at, next_within, only, can_next, take, again, next, IsTheory, inside, upper_there, theory_so, theory_start, rules, upto}
use Rattle.tokens_why.specs.declared.terminal.Terminal.TheVariants as t
use Rattle.parser.proofs.parse_decls.files.theory.Goals as goal

pub name_at-requires : goal.name_at-requires
name_at-requires c = inside c.args.source (c.args.i + 1) (next_within (theory_start c.requires.can c.requires.word) refl)

pub declarations-requires : goal.declarations-requires
declarations-requires c = can_next (take (theory_start c.requires.can c.requires.word))

pub returns : goal.returns
returns c = subst (λ a. IsTheory (lexemes c.args.source) c.args.i (record { at = a; is_module = c.is_at-is_module.result; name = c.in_ok-name.name; decls = decls (map decl_of c.in_ok-decls.decls) }) c.in_ok-decls.end) (sym c.place-here.ensures)
    (again (next (take (theory_start c.requires.can c.requires.word)) c.in_ok-decls.ensures) 1 refl (λ k us. ap (λ v. (theory_so c.args.i v (name (c.args.i + 1) (token_at (lexemes c.args.source) (c.args.i + 1)).text) (decls (map decl_of c.in_ok-decls.decls)) ∷ us.0, us.1)) (sym c.is_at-is_module.ensures) ∙ ap (λ v. (theory_so c.args.i c.is_at-is_module.result v (decls (map decl_of c.in_ok-decls.decls)) ∷ us.0, us.1)) (sym (upper_there (lexemes c.args.source) (c.args.i + 1) c.in_ok-name.name c.in_ok-name.ensures.place c.in_ok-name.ensures.text (only (theory_start c.requires.can c.requires.word) t.Uident [] refl refl tt)))))

-- the numbers of tokens, which are at most that of all tokens

pub overflow_add-i : goal.overflow_add-i
overflow_add-i c = let h = upto c.args.source c.args.i c.requires.can.within in search rules

pub overflow_add-i-2 : goal.overflow_add-i-2
overflow_add-i-2 c = let h = upto c.args.source c.args.i c.requires.can.within in search rules

pub overflow_add-i-3 : goal.overflow_add-i-3
overflow_add-i-3 c = let h = upto c.args.source c.args.i c.requires.can.within in search rules
