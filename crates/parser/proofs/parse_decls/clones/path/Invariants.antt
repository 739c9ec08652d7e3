use Rattle.parser.proofs.parse_decls.Cited.{◌-◌, length, lexemes, Paths}
use Rattle.parser.proofs.parse_decls.clones.path.Given as goal

abbrev pub invariant-parts : goal.invariant-parts
invariant-parts l = Paths (lexemes l.source) l.fn.i l.parts.items l.j

abbrev pub decreases-parts : goal.decreases-parts
decreases-parts l = length l.source.tokens.now - l.j
