-- The laws of the crate, as statements.
use Rattle.std.specs.Prelude.{◌≡◌, ℕ, ◌≤◌, List, length, All, get_or}
use Rattle.tasks.specs.trees.declared.Op.TheVariants.{Iff}
use Rattle.tasks.specs.trees.Tree.{Tree, Two, Three, HFun, HPred, HEq, HJoin, loose}
use Rattle.tasks.specs.trees.Binding.{inst_types, inst_many, TyVar, AreClosed}
use Rattle.tasks.specs.Task.{DefinitionTree, TaskTree, nodes}
use Rattle.tasks.specs.Equations.{cells, type_variables, bound_variables}
use Rattle.tasks.specs.Vocabulary.{Vocabulary}
use Rattle.tasks.specs.Valid.{IsDefinition, IsValid}
use Rattle.tasks.proofs.TypeInstances.{IsSoundVocabulary}
use Rattle.checks.specs.decl_checks.Structure.{defining_body}
use Rattle.evidence.specs.images.Images.{IsNodeRule, image}
use Rattle.evidence.specs.images.typing_laws.HasTyping.{HasTyping, IsTypeAt, IsTypedRule}
use Rattle.inlining.specs.declared.modes.InlineMode.{InlineMode}
use Rattle.inlining.specs.Inlining.{unfold_rule, inlined, inlined_task}
use Rattle.inlining.specs.FullBodies.{full_rule}

-- the rule of a definition keeps typing at one node
abbrev pub UsesKeepTyping : Type 0
UsesKeepTyping =
    (v : Vocabulary) → IsSoundVocabulary v → (d : DefinitionTree) → IsDefinition v d
    → IsTypedRule v (unfold_rule d.symbol (defining_body d.equation))
    × IsNodeRule v (unfold_rule d.symbol (defining_body d.equation))

-- formulas at types, with definitions inlined
abbrev pub InlinedAtTypes : Type 0
InlinedAtTypes =
    (v : Vocabulary) → IsSoundVocabulary v → (ys : List Tree)
    → ((j : ℕ) → IsTypeAt v (get_or ys j (TyVar j))) → (ds : List DefinitionTree)
    → All (IsDefinition v) ds
    → (types : List Tree) (e : Tree) → HasTyping v types e
    → inlined ds (inst_types e ys) ≡ inst_types (inlined ds e) ys

-- one pass, in which each use becomes its full body, is the passes of all definitions, from the
-- last to the first
abbrev pub InlinedInOnePass : Type 0
InlinedInOnePass =
    (v : Vocabulary) → IsSoundVocabulary v → (ds : List DefinitionTree) → All (IsDefinition v) ds
    → (types : List Tree) (e : Tree) → HasTyping v types e
    → inlined ds e ≡ image (full_rule ds) e

-- what a valid task becomes is valid, where it isn't too large
abbrev pub InlinedTasksAreValid : Type 0
InlinedTasksAreValid = (t : TaskTree) → IsValid t → (m : InlineMode)
    → nodes (inlined_task m t) ≤ 1048576 → IsValid (inlined_task m t)

-- the right side of an equation, at types and closed arguments, says that the use there is alike
-- the body there
abbrev pub FunctionsAtUses : Type 0
FunctionsAtUses =
    (zs us args : List Tree) (n : ℕ) → length zs ≡ n → length us ≡ length args → AreClosed us
    → (k : ℕ) (body ty : Tree) → loose (cells zs) ≡ 0 → loose (inst_types ty zs) ≡ 0
    → inst_many (inst_types (Two HEq
    (Three (HFun k) (cells (type_variables 0 n)) (cells (bound_variables args)) ty) body) zs) us
    ≡ Two HEq (Three (HFun k) (cells zs) (cells us) (inst_types ty zs))
    (inst_many (inst_types body zs) us)

abbrev pub PredicatesAtUses : Type 0
PredicatesAtUses =
    (zs us args : List Tree) (n : ℕ) → length zs ≡ n → length us ≡ length args → AreClosed us
    → (k : ℕ) (body : Tree) → loose (cells zs) ≡ 0
    → inst_many (inst_types (Two (HJoin Iff)
    (Two (HPred k) (cells (type_variables 0 n)) (cells (bound_variables args))) body) zs) us
    ≡ Two (HJoin Iff) (Two (HPred k) (cells zs) (cells us)) (inst_many (inst_types body zs) us)
