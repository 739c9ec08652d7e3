use Rattle.std.proofs.Common.{sym, subst}
use Rattle.parser.proofs.parse_decls.Cited.{IsShallow, rest_terminals}
use Rattle.parser.proofs.parse_decls.sources.parse.Goals as goal

pub returns-in_ok-whole-in-Ok-clause-shallow : goal.returns-in_ok-whole-in-Ok-clause-shallow
returns-in_ok-whole-in-Ok-clause-shallow c = subst IsShallow (sym (rest_terminals c.args.text.now c.args.tokens.now 0)) c.in-Ok.ensures.shallow

pub returns-in-Err-clause-refused : goal.returns-in-Err-clause-refused
returns-in-Err-clause-refused c = c.in-Err.ensures.refused c.args.text.now
