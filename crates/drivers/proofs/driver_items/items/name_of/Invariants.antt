use Rattle.std.proofs.Common.{◌≡◌, ◌++◌, map, drop}
use Rattle.std.specs.List.{flat_map}
use Rattle.drivers.specs.driver_tokens.Tokens.{lexeme_in}
use Rattle.drivers.specs.driver_items.Items.{name_bytes}
use Rattle.drivers.proofs.driver_items.items.name_of.Given as goal

abbrev pub invariant-loop-token : goal.invariant-loop-token
invariant-loop-token l = l.name.items ++ flat_map (λ x. name_bytes x.terminal x.text) (map (lexeme_in l.text) (drop l.token-index l.tokens)) ≡ flat_map (λ x. name_bytes x.terminal x.text) (map (lexeme_in l.text) l.tokens)
