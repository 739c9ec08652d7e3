use Rattle.parser.proofs.parse_decls.Cited.{◌-◌, ◌*◌, ◌+◌, length, map, decl_of, lexemes, Declared}
use Rattle.parser.proofs.parse_decls.files.+declarations.Given as goal

abbrev pub decreases-declaration : goal.decreases-declaration
decreases-declaration l = 4 * (length l.source.tokens.now - l.i) + 1

abbrev pub decreases-scope : goal.decreases-scope
decreases-scope l = 4 * (length l.source.tokens.now - l.i)

abbrev pub decreases-declarations : goal.decreases-declarations
decreases-declarations l = 4 * (length l.source.tokens.now - l.i) + 2

abbrev pub invariant-declarations-items : goal.invariant-declarations-items
invariant-declarations-items l = Declared (lexemes l.source) l.fn.i (map decl_of l.items.items) l.j

abbrev pub decreases-declarations-items : goal.decreases-declarations-items
decreases-declarations-items l = length l.source.tokens.now - l.j
