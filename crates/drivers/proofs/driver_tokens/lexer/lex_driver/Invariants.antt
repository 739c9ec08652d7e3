use Rattle.std.proofs.Common.{◌≡◌, ◌≤◌, ◌-◌, ◌++◌, length, drop, map}
use Rattle.drivers.specs.driver_tokens.Tokens.{lexeme_in, lexed, driver_lexemes}
use Rattle.drivers.proofs.driver_tokens.lexer.lex_driver.Given as goal

abbrev pub invariant-loop-at : goal.invariant-loop-at
invariant-loop-at l = record {
  high : l.at ≤ length l.text;
  same : map (lexeme_in l.text) l.found.items ++ lexed (drop l.at l.text) l.at 0 ≡ driver_lexemes l.text;
}

abbrev pub decreases-loop-at : goal.decreases-loop-at
decreases-loop-at l = length l.text - l.at
