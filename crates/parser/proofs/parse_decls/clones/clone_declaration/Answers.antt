use Rattle.parser.proofs.parse_decls.Cited.{map, sym, ap, ◌∙◌, subst, refl, clone_decl, element_of, decl_of_node-CloneTheory, lexemes, IsDecl, can_next, next, again, clone_used, rules, upto}
use Rattle.parser.proofs.parse_decls.clones.clone_declaration.Goals as goal

pub used_theory-requires : goal.used_theory-requires
used_theory-requires c = can_next (clone_used c.requires.can c.requires.word)

pub substitution-requires : goal.substitution-requires
substitution-requires c = can_next (next (clone_used c.requires.can c.requires.word) c.in_ok-theory.ensures)

pub returns : goal.returns
returns c = subst (λ d. IsDecl (lexemes c.args.source) c.args.i d c.in_ok-elements.end) (sym (c.new-tree.ensures ∙ decl_of_node-CloneTheory _ _ _ _ _ ∙ ap (λ a. clone_decl a c.in_ok-theory.theory.link c.in_ok-theory.theory.path c.in_ok-theory.theory.name (map element_of c.in_ok-elements.elements)) c.place-here.ensures))
    (again (next (next (clone_used c.requires.can c.requires.word) c.in_ok-theory.ensures) c.in_ok-elements.ensures) 1 refl (λ k us. refl))

-- the numbers of tokens, which are at most that of all tokens

pub overflow_add-i : goal.overflow_add-i
overflow_add-i c = let h = upto c.args.source c.args.i c.requires.can.within in search rules
