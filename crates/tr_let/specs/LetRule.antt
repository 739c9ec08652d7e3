-- What `eliminate_let` makes of a node over images: of a `let`, its body at its value (Why3 manual,
-- "eliminate_let").
use Rattle.std.specs.Prelude.{◌≡◌, refl}
use Rattle.trees.specs.Tree.{Tree, Two, HLet, head_of}
use Rattle.trees.specs.Binding.{inst}
use Rattle.walking.specs.images.Images.{IsOtherHead}

abbrev pub let_rule : Tree → Tree
let_rule (Two HLet t b) = inst b t
let_rule e = e

-- it leaves types, patterns, lists and branches as they are
pub let_others : (e : Tree) → IsOtherHead (head_of e) → let_rule e ≡ e
let_others (Two HLet t b) h = absurd h
let_others _ h = refl
