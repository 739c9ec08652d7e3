use Rattle.parser.proofs.parse_terms.parse.parse_expr.Goals as goal

pub returns-in-Err-clause-refused : goal.returns-in-Err-clause-refused
returns-in-Err-clause-refused c = c.in-Err.ensures.refused c.args.text.now
