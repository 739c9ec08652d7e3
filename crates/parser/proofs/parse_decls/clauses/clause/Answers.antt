use Rattle.parser.proofs.parse_decls.Cited.{clause_read, prop_start, rules, upto}
use Rattle.parser.proofs.parse_terms.Steps.{can_next, start}
use Rattle.parser.proofs.parse_decls.clauses.clause.Goals as goal

pub prop_name-requires : goal.prop_name-requires
prop_name-requires c = can_next (start c.requires)

pub expression-requires : goal.expression-requires
expression-requires c = can_next (prop_start c.requires c.in_ok-name.ensures)

pub returns : goal.returns
returns c = clause_read c.requires c.in_ok-name.ensures c.in_ok-prop.ensures.read

-- the numbers of tokens, which are at most that of all tokens

pub overflow_add-i : goal.overflow_add-i
overflow_add-i c = let h = upto c.args.source c.args.i c.requires.within in search rules

pub overflow_add-i-2 : goal.overflow_add-i-2
overflow_add-i-2 c = let h = upto c.args.source c.args.i c.requires.within in search rules
