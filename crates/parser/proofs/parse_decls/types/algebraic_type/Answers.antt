use Rattle.parser.proofs.parse_decls.Cited.{rules, [], refl, algebraic_of, lexemes, only, start, next_within, stands, can_next, inside, named_there, algebraic_done, algebraic_equal, algebraic_sign, upto}
use Rattle.tokens_why.specs.declared.terminal.Terminal.TheVariants as t
use Rattle.parser.proofs.parse_decls.types.algebraic_type.Goals as goal

pub name_at-requires : goal.name_at-requires
name_at-requires c = inside c.args.source c.args.i (next_within (start c.requires) refl)

pub overflow_add-j : goal.overflow_add-j
overflow_add-j c = let h = inside c.args.source c.in_ok-vars.j (stands (lexemes c.args.source) c.in_ok-vars.j t.Equal (algebraic_sign c.requires c.in_ok-vars.vars c.in_ok-vars.j c.in_ok-vars.ensures) refl) in search rules

pub algebraic-requires : goal.algebraic-requires
algebraic-requires c = can_next (algebraic_equal c.requires c.in_ok-vars.vars c.in_ok-vars.j c.in_ok-vars.ensures)

pub returns : goal.returns
returns c = algebraic_done c.requires c.in_ok-vars.vars c.in_ok-vars.j c.in_ok-vars.ensures c.in_ok-name.name (algebraic_of c.in_ok-tree.tree) c.in_ok-tree.end
    (named_there (lexemes c.args.source) c.args.i c.in_ok-name.name c.in_ok-name.ensures.place c.in_ok-name.ensures.text (only (start c.requires) t.Lident [] refl refl tt)) c.in_ok-tree.ensures

-- the numbers of tokens, which are at most that of all tokens

pub overflow_add-i : goal.overflow_add-i
overflow_add-i c = let h = upto c.args.source c.args.i c.requires.within in search rules
