use Rattle.std.proofs.Common.{◌≡◌, take, drop, map, []}
use Rattle.elab_groups.specs.parts.Declarations.{words, list_fault}
use Rattle.elab_groups.specs.parts.Written.{written_token_name}
use Rattle.elab_groups.proofs.parts.names.find_repeated.Given as goal

abbrev pub invariant-loop-number : goal.invariant-loop-number
invariant-loop-number l = list_fault (words (map written_token_name (take l.number l.list))) (map written_token_name (drop l.number l.list)) ≡ list_fault [] (map written_token_name l.list)
