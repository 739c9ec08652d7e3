use Rattle.parser.proofs.parse_decls.Cited.{option_map, map, sym, ap, ◌∙◌, subst, refl, predicate_decl, tree_of, declared_name, member_of, param_of, decl_of_node-Predicate, lexemes, can_next, again, next, IsDecl, predicate_body, predicate_params, predicate_start, rules, upto}
use Rattle.parser.proofs.parse_decls.declaring.predicate_declaration.Goals as goal

pub declared_name-requires : goal.declared_name-requires
declared_name-requires c = can_next (predicate_start c.requires.can c.requires.word)

pub params-requires : goal.params-requires
params-requires c = can_next (predicate_params c.requires.can c.requires.word c.in_ok-name.ensures)

pub body-requires : goal.body-requires
body-requires c = can_next (predicate_body c.requires.can c.requires.word c.in_ok-name.ensures c.in_ok-bound.ensures)

pub returns : goal.returns
returns c = subst (λ d. IsDecl (lexemes c.args.source) c.args.i d c.in_ok-read.read.end) (sym (c.new-tree.ensures ∙ decl_of_node-Predicate _ _ _ _ _ ∙ ap (λ a. predicate_decl a (declared_name c.in_ok-name.name) (map param_of c.in_ok-bound.bound) (option_map tree_of c.in_ok-read.read.definition) (map member_of c.in_ok-read.read.members)) c.place-here.ensures)) (again (next (predicate_body c.requires.can c.requires.word c.in_ok-name.ensures c.in_ok-bound.ensures) c.in_ok-read.ensures) 1 refl (λ k us. refl))

-- the numbers of tokens, which are at most that of all tokens

pub overflow_add-i : goal.overflow_add-i
overflow_add-i c = let h = upto c.args.source c.args.i c.requires.can.within in search rules
