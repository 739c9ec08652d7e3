use Rattle.parser.proofs.parse_decls.Cited.{◌-◌, length, map, theory_of, lexemes, Theories}
use Rattle.parser.proofs.parse_decls.files.whole_file.Given as goal

abbrev pub invariant-more : goal.invariant-more
invariant-more l = Theories (lexemes l.source) (map theory_of l.theories.items) l.j

abbrev pub decreases-more : goal.decreases-more
decreases-more l = length l.source.tokens.now - l.j
