use Rattle.parser.proofs.parse_decls.Cited.{option_map, map, sym, ap, ◌∙◌, subst, refl, function_decl, form_of, tree_of, declared_name, member_of, param_of, decl_of_node-Function, lexemes, can_next, again, next, IsDecl, function_body, function_params, function_start, function_type, rules, upto}
use Rattle.parser.proofs.parse_decls.declaring.function_declaration.Goals as goal

pub declared_name-requires : goal.declared_name-requires
declared_name-requires c = can_next (function_start c.requires.can c.requires.word)

pub params-requires : goal.params-requires
params-requires c = can_next (function_params c.requires.can c.requires.word c.in_ok-name.ensures)

pub type_tree-requires : goal.type_tree-requires
type_tree-requires c = can_next (function_type c.requires.can c.requires.word c.in_ok-name.ensures c.in_ok-bound.ensures)

pub body-requires : goal.body-requires
body-requires c = can_next (function_body c.requires.can c.requires.word c.in_ok-name.ensures c.in_ok-bound.ensures c.in_ok-ty.ensures)

pub returns : goal.returns
returns c = subst (λ d. IsDecl (lexemes c.args.source) c.args.i d c.in_ok-read.read.end) (sym (c.new-tree.ensures ∙ decl_of_node-Function _ _ _ _ _ _ ∙ ap (λ a. function_decl a (declared_name c.in_ok-name.name) (map param_of c.in_ok-bound.bound) (form_of c.in_ok-ty.ty) (option_map tree_of c.in_ok-read.read.definition) (map member_of c.in_ok-read.read.members)) c.place-here.ensures)) (again (next (function_body c.requires.can c.requires.word c.in_ok-name.ensures c.in_ok-bound.ensures c.in_ok-ty.ensures) c.in_ok-read.ensures) 1 refl (λ k us. refl))

-- the numbers of tokens, which are at most that of all tokens

pub overflow_add-i : goal.overflow_add-i
overflow_add-i c = let h = upto c.args.source c.args.i c.requires.can.within in search rules

pub overflow_add-colon : goal.overflow_add-colon
overflow_add-colon c = let h = upto c.args.source c.in_ok-bound.colon c.in_ok-bound.ensures.within in search rules
