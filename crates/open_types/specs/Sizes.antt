-- The number of expressions in a surface tree, itself counted, also those in parentheses.
use Rattle.std.specs.Prelude.{ℕ, suc, ◌+◌, List, [], ◌∷◌, Option, option_map}
use Rattle.surface.specs.Trees.{SyntaxTree, SyntaxTrees, Branches, SyntaxTrigger, apply, literal, truth, falsity, group, cast, access, fielded_tree, prefixed, negation, binary, choice, cases, binding, quantified, none, more, no_branch, branch, untriggered, triggered}
use Rattle.surface.specs.Surface as code
use Rattle.surface.specs.declared.expressions.BranchTree.{BranchTree}
use Rattle.surface.specs.declared.expressions.Expr.{Expr}
use Rattle.surface.specs.declared.expressions.FieldValue.{FieldValue}
use Rattle.surface.specs.declared.expressions.TriggerTree.{TriggerTree}

abbrev mutual
  pub source_size : SyntaxTree → ℕ
  source_size (apply a c es) = suc (sizes es)
  source_size (literal a w) = 1
  source_size (truth a) = 1
  source_size (falsity a) = 1
  source_size (group a es) = suc (sizes es)
  source_size (access a e c) = suc (source_size e)
  source_size (fielded_tree a cs es semi) = suc (sizes es)
  source_size (cast a e f) = suc (source_size e)
  source_size (prefixed a o e) = suc (source_size e)
  source_size (negation a e) = suc (source_size e)
  source_size (binary a e o f) = suc (source_size e + source_size f)
  source_size (choice a c e f) = suc (source_size c + source_size e + source_size f)
  source_size (cases a es bar bs) = suc (sizes es + branch_sizes bs)
  source_size (binding a ps e f) = suc (source_size e + source_size f)
  source_size (quantified a all bs g e) = suc (trigger_size g + source_size e)

  pub sizes : SyntaxTrees → ℕ
  sizes none = 0
  sizes (more e es) = source_size e + sizes es

  pub branch_sizes : Branches → ℕ
  branch_sizes no_branch = 0
  branch_sizes (branch pss e bs) = source_size e + branch_sizes bs

  pub trigger_size : SyntaxTrigger → ℕ
  trigger_size untriggered = 0
  trigger_size (triggered es bars) = sizes es

abbrev pub size_of : Expr → ℕ
size_of e = source_size (code.tree_of e)

abbrev pub sizes_of : List Expr → ℕ
sizes_of [] = 0
sizes_of (e ∷ es) = size_of e + sizes_of es

abbrev pub values_size : List FieldValue → ℕ
values_size [] = 0
values_size (f ∷ fs) = size_of f.value + values_size fs

abbrev pub triggers_size : Option TriggerTree → ℕ
triggers_size g = trigger_size (code.trigger (option_map code.terms_of g))

-- of the bodies of branches
abbrev pub branches_size : List BranchTree → ℕ
branches_size [] = 0
branches_size (b ∷ bs) = size_of b.body + branches_size bs
