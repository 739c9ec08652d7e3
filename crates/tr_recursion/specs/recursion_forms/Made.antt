-- Terms of a branch's equation, and how large terms are that are put in.
use Rattle.std.specs.Prelude.{◌≡◌, ℕ, ◌+◌, ◌<◌, ◌≤◌, List, [], ◌∷◌, ◌++◌, length, get_or, All, IfSome, Some, slice_get}
use Rattle.trees.specs.Tree.{Tree, Two, Three, HFun, size, loose}
use Rattle.trees.specs.Binding.{inst_many}
use Rattle.trees.specs.Node.{tree_at, Holds}
use Rattle.trees.specs.Sorts.{sort_of}
use Rattle.trees.specs.binders.Visits.{HoldTypes}
use Rattle.tasks.specs.declared.signature.SymbolInfo.{SymbolInfo}
use Rattle.tasks.specs.declared.declaration.Def.{Def}
use Rattle.tasks.specs.Equations.{cells}
use Rattle.checks.specs.decl_checks.Structure.{defining_body}
use Rattle.tr_inline.specs.inlining.branch_equations.Branches.{ConstructorBranch, parameters_before, parameters_after, variables_above, matched_parameter, quantifiers, below_quantifiers, HasSides}

-- what the parameters are, where these terms are the fields
abbrev pub parameters_with : List Tree → ℕ → ConstructorBranch → List Tree → List Tree
parameters_with args i b zs =
    variables_above (length zs + length (parameters_after args i)) (parameters_before args i)
    ++ Three (HFun b.symbol) b.types (cells zs) b.type ∷ variables_above 0 (parameters_after args i)

-- two sides with terms in the place of all variables, those of the right one in a body
abbrev pub sides_with : Tree → Tree → List Tree → List Tree → Tree
sides_with (Two h left right) body ps us = Two h (inst_many left ps) (inst_many body us)
sides_with e body ps us = e

-- each has at most so many nodes and loose variables together
abbrev pub HaveRoom : ℕ → List Tree → Type 0
HaveRoom n ts =
    (k : ℕ) (e : Tree) → k < length ts → size (get_or ts k e) + loose (get_or ts k e) ≤ n

-- each branch by which an equation is told has a body of the sort of its sides
abbrev pub AreSided : Tree → Type 0
AreSided e = (p : ℕ × List ConstructorBranch)
    → matched_parameter (quantifiers e) (defining_body e) ≡ Some p
    → All (λ (b : ConstructorBranch). HasSides (sort_of b.body) (below_quantifiers e)) p.1

-- a definition whose entry has types as arguments, and of which what it says can be made
pub record DefinitionIsFit (s : List Tree) (infos : List SymbolInfo) (d : Def) : Type 0 where
  pub held : Holds s d.equation
  pub entry : d.symbol < length infos
  pub args : IfSome (slice_get infos d.symbol) (λ (e : SymbolInfo). HoldTypes s e.args)
  pub sided : AreSided (tree_at s d.equation)
