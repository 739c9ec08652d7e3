use Rattle.parser.proofs.parse_decls.Cited.{sym, ap, ◌∙◌, subst, refl, use_decl, decl_of_node-UseTheory, lexemes, IsDecl, can_next, again, next, use_start, rules, upto}
use Rattle.parser.proofs.parse_decls.clones.use_declaration.Goals as goal

pub used_theory-requires : goal.used_theory-requires
used_theory-requires c = can_next (use_start c.requires.can c.requires.word)

pub returns : goal.returns
returns c = subst (λ d. IsDecl (lexemes c.args.source) c.args.i d c.in_ok-theory.theory.end) (sym (c.new-tree.ensures ∙ decl_of_node-UseTheory _ _ _ _ ∙ ap (λ a. use_decl a c.in_ok-theory.theory.link c.in_ok-theory.theory.path c.in_ok-theory.theory.name) c.place-here.ensures))
    (again (next (use_start c.requires.can c.requires.word) c.in_ok-theory.ensures) 1 refl (λ k us. refl))

-- the numbers of tokens, which are at most that of all tokens

pub overflow_add-i : goal.overflow_add-i
overflow_add-i c = let h = upto c.args.source c.args.i c.requires.can.within in search rules
