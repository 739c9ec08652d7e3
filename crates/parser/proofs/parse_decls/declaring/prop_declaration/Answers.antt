use Rattle.parser.proofs.parse_decls.Common.{sym, ap, ◌∙◌, subst, prop_decl, tree_of, plain_name, decl_of_node-Prop, lexemes, can_next, IsDecl}
use Rattle.parser.proofs.parse_decls.Cited.{rules, upto}
use Rattle.parser.proofs.parse_decls.DeclaringRead as D
use Rattle.parser.proofs.parse_decls.declaring.prop_declaration.Goals as goal

pub prop_name-requires : goal.prop_name-requires
prop_name-requires c = can_next (D.prop_start c.requires.can c.args.kind c.requires.word)

pub expression-requires : goal.expression-requires
expression-requires c = can_next (D.prop_expr c.requires.can c.args.kind c.requires.word c.in_ok-name.ensures)

pub returns : goal.returns
returns c = subst (λ d. IsDecl (lexemes c.args.source) c.args.i d c.in_ok-prop.prop.end) (sym (c.new-tree.ensures ∙ decl_of_node-Prop _ _ _ _ ∙ ap (λ a. prop_decl a c.args.kind (plain_name c.in_ok-name.name) (tree_of c.in_ok-prop.prop.tree)) c.place-here.ensures)) (D.prop_read c.requires.can c.args.kind c.requires.word c.in_ok-name.ensures c.in_ok-prop.ensures.read)

-- the numbers of tokens, which are at most that of all tokens

pub overflow_add-i : goal.overflow_add-i
overflow_add-i c = let h = upto c.args.source c.args.i c.requires.can.within in search rules

pub overflow_add-i-2 : goal.overflow_add-i-2
overflow_add-i-2 c = let h = upto c.args.source c.args.i c.requires.can.within in search rules

pub overflow_add-i-3 : goal.overflow_add-i-3
overflow_add-i-3 c = let h = upto c.args.source c.args.i c.requires.can.within in search rules

pub overflow_add-i-4 : goal.overflow_add-i-4
overflow_add-i-4 c = let h = upto c.args.source c.args.i c.requires.can.within in search rules
