use Rattle.parser.proofs.parse_decls.Cited.{map, clause_of, can_next, start, clause_start, inductive_params, inductive_read, rules, upto}
use Rattle.parser.proofs.parse_decls.clauses.inductive_predicate.Goals as goal

pub declared_name-requires : goal.declared_name-requires
declared_name-requires c = can_next (start c.requires)

pub params-requires : goal.params-requires
params-requires c = can_next (inductive_params c.requires c.in_ok-name.ensures)

pub clauses-requires : goal.clauses-requires
clauses-requires c = can_next (clause_start c.requires c.in_ok-name.ensures c.in_ok-params.ensures)

pub returns : goal.returns
returns c = inductive_read c.requires c.in_ok-name.ensures c.in_ok-params.ensures c.in_ok-read.read.bar (map clause_of c.in_ok-read.read.clauses) c.in_ok-read.read.end c.in_ok-read.ensures

-- the numbers of tokens, which are at most that of all tokens

pub overflow_add-equal : goal.overflow_add-equal
overflow_add-equal c = let h = upto c.args.source c.in_ok-params.equal c.in_ok-params.ensures.within in search rules
