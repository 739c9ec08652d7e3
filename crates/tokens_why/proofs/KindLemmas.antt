-- The kind of token that is made of a terminal is of that terminal, by computation.
use Rattle.tokens_why.proofs.Common.{◌≡◌, refl, terminal_of}
use Rattle.tokens_why.specs.declared.terminal.Terminal.{Terminal}
use Rattle.tokens_why.specs.declared.terminal.Terminal.TheVariants as t
use Rattle.tokens_why.specs.Terminals.{kind_by}

pub terminal_of-kind_by : (x : Terminal) → terminal_of (kind_by x) ≡ x
terminal_of-kind_by t.Lident = refl
terminal_of-kind_by _ = refl
