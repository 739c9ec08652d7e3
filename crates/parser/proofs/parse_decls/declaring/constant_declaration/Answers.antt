use Rattle.parser.proofs.parse_decls.Cited.{option_map, sym, ap, ◌∙◌, subst, constant_decl, form_of, tree_of, declared_name, decl_of_node-Constant, lexemes, can_next, can_run, IsDecl, constant_read, constant_start, constant_type, constant_value, rules, upto}
use Rattle.parser.proofs.parse_decls.declaring.constant_declaration.Goals as goal

pub declared_name-requires : goal.declared_name-requires
declared_name-requires c = can_next (constant_start c.requires.can c.requires.word)

pub type_tree-requires : goal.type_tree-requires
type_tree-requires c = can_next (constant_type c.requires.can c.requires.word c.in_ok-name.ensures)

pub value-requires : goal.value-requires
value-requires c = let q = can_run (constant_value c.requires.can c.requires.word c.in_ok-name.ensures c.in_ok-ty.ensures) in record { within = q.within; following = q.following; values = q.values; reads = q.reads }

pub returns : goal.returns
returns c = subst (λ d. IsDecl (lexemes c.args.source) c.args.i d c.in_ok-given.end) (sym (c.new-tree.ensures ∙ decl_of_node-Constant _ _ _ _ ∙ ap (λ a. constant_decl a (declared_name c.in_ok-name.name) (form_of c.in_ok-ty.ty) (option_map tree_of c.in_ok-given.given)) c.place-here.ensures)) (constant_read c.requires.can c.requires.word c.in_ok-name.ensures c.in_ok-ty.ensures c.in_ok-given.ensures)

-- the numbers of tokens, which are at most that of all tokens

pub overflow_add-i : goal.overflow_add-i
overflow_add-i c = let h = upto c.args.source c.args.i c.requires.can.within in search rules

pub overflow_add-colon : goal.overflow_add-colon
overflow_add-colon c = let h = upto c.args.source c.in_ok-name.colon c.in_ok-name.ensures.within in search rules
