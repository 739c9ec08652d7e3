-- Inlining in one pass: each definition's body with the definitions before it inlined, and one rule
-- for the uses of all.
use Rattle.std.specs.Prelude.{ℕ, ◌==◌, if◌then◌else◌, List, [], ◌∷◌}
use Rattle.tasks.specs.trees.Tree.{Tree, Two, Three, HFun, HPred}
use Rattle.tasks.specs.Task.{DefinitionTree}
use Rattle.checks.specs.decl_checks.Structure.{defining_body}
use Rattle.evidence.specs.images.Images.{image}
use Rattle.inlining.specs.Inlining.{use_body}

-- a use of this symbol becomes this body, and at any other node another rule acts
abbrev pub use_rule : ℕ → Tree → (Tree → Tree) → Tree → Tree
use_rule k body f (Three (HFun s) types args ty) =
    if s == k then use_body body types args else f (Three (HFun s) types args ty)
use_rule k body f (Two (HPred s) types args) =
    if s == k then use_body body types args else f (Two (HPred s) types args)
use_rule k body f e = f e

-- with one definition more after those of a rule
abbrev pub next_rule : (Tree → Tree) → DefinitionTree → Tree → Tree
next_rule f d = use_rule d.symbol (image f (defining_body d.equation)) f

-- from the first definition to the last
abbrev pub full_rule_from : (Tree → Tree) → List DefinitionTree → Tree → Tree
full_rule_from f [] = f
full_rule_from f (d ∷ ds) = full_rule_from (next_rule f d) ds

-- the uses of these definitions become their bodies, in which the definitions before are inlined
abbrev pub full_rule : List DefinitionTree → Tree → Tree
full_rule ds = full_rule_from (λ e. e) ds
