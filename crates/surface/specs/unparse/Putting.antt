-- What is put after the terminals that were written before.
use Rattle.std.specs.Prelude.{◌≡◌, List, ◌++◌, false}
use Rattle.tokens_why.specs.declared.terminal.Terminal.{Terminal}
use Rattle.surface.specs.declared.unparse.writing.Written.{Written}

-- these terminals were put, unless memory was refused
abbrev pub Puts : Written → Written → List Terminal → Type 0
Puts before after ts = after.refused ≡ false
    → (before.refused ≡ false) × (after.terminals.items ≡ before.terminals.items ++ ts)

-- with the terminals that are still to be put, all of these are put, unless memory was refused
abbrev pub Leaves : Written → Written → List Terminal → List Terminal → Type 0
Leaves before now left all = now.refused ≡ false
    → (before.refused ≡ false) × (now.terminals.items ++ left ≡ before.terminals.items ++ all)
