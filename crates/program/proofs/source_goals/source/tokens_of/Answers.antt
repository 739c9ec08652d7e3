use Rattle.std.proofs.Common.{Vec}
use Rattle.std.specs.declared.alloc.Global.{Global}
use Rattle.surface.specs.tokens_why.declared.token.Token.{Token}
use Rattle.program.proofs.source_goals.Faults.{lexical_at, big_literal_at}
use Rattle.program.proofs.source_goals.source.tokens_of.Goals as goal

pub returns-in-Err-Lexical : goal.returns-in-Err-Lexical
returns-in-Err-Lexical c = lexical_at (Vec Token Global) c.args.text.now c.in-Err-Lexical.field-0 c.in-Err-Lexical.byte c.in-Err-Lexical.field-0-is c.in-Err-Lexical.ensures.lexical

pub returns-in-Err-BigLiteral : goal.returns-in-Err-BigLiteral
returns-in-Err-BigLiteral c = big_literal_at (Vec Token Global) c.args.text.now c.in-Err-BigLiteral.field-0 c.in-Err-BigLiteral.byte c.in-Err-BigLiteral.field-0-is c.in-Err-BigLiteral.ensures.big_literal
