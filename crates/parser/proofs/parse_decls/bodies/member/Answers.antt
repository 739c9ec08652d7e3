use Rattle.parser.proofs.parse_decls.Cited.{member_body, member_params, member_read, member_result, rules, upto, ◌+◌}
use Rattle.parser.proofs.parse_terms.Steps.{can_next, start}
use Rattle.parser.proofs.parse_decls.bodies.member.Goals as goal

pub declared_name-requires : goal.declared_name-requires
declared_name-requires c = can_next (start c.requires)

pub params-requires : goal.params-requires
params-requires c = can_next (member_params c.requires c.in_ok-name.ensures)

pub member_result-requires : goal.member_result-requires
member_result-requires c = can_next (member_result c.requires c.in_ok-name.ensures c.in_ok-params.ensures)

pub expression-requires : goal.expression-requires
expression-requires c = can_next (member_body c.requires c.in_ok-name.ensures c.in_ok-params.ensures c.in_ok-result.equal c.in_ok-result.ensures)

pub returns : goal.returns
returns c = member_read c.requires c.in_ok-name.ensures c.in_ok-params.ensures c.in_ok-result.equal c.in_ok-result.ensures c.in_ok-body.ensures.read

-- the numbers of tokens, which are at most that of all tokens

pub overflow_add-equal : goal.overflow_add-equal
overflow_add-equal c = let h = upto c.args.source (c.in_ok-result.equal + 1) c.in_ok-result.ensures.within in search rules
