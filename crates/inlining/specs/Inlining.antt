-- Inlining: each use of a defined symbol becomes the body of its definition, at the types and
-- arguments of the use (Why3 manual, "inline_all", "inline_goal", "inline_trivial").
use Rattle.std.specs.Prelude.{ℕ, ◌==◌, Bool, true, false, not, ◌&&◌, if◌then◌else◌, List, [], ◌∷◌, ◌++◌, Result, Ok}
use Rattle.std.specs.List.{list_any}
use Rattle.tasks.specs.trees.Tree.{Tree, Leaf, One, Two, Three, HCell, HBound, HNum, HFun, HPred, HEq}
use Rattle.tasks.specs.trees.Binding.{inst_types, inst_many}
use Rattle.tasks.specs.Task.{DefinitionTree, BodyTree, Defines, DeclarationTree, TaskTree}
use Rattle.tasks.specs.Copying.{with_goal}
use Rattle.tasks.specs.Typing.{members}
use Rattle.evidence.specs.images.Images.{image}
use Rattle.inlining.specs.declared.modes.InlineMode.{InlineMode}
use Rattle.inlining.specs.declared.modes.InlineMode.TheVariants as mode
use Rattle.checks.specs.decl_checks.Structure.{defining_body}
use Rattle.checks.specs.recursive_groups.Groups.{is_recursive}
use Rattle.evidence.specs.changed_tasks.Changed.{changed_task}

-- ---- one definition
-- a body at a list of types, for its type variables, and a list of arguments, for its parameters
abbrev pub use_body : Tree → Tree → Tree → Tree
use_body body types args = inst_many (inst_types body (members types)) (members args)

-- a use of this symbol becomes this body, and any other node stays
abbrev pub unfold_rule : ℕ → Tree → Tree → Tree
unfold_rule k body (Three (HFun f) types args ty) =
    if f == k then use_body body types args else Three (HFun f) types args ty
unfold_rule k body (Two (HPred p) types args) =
    if p == k then use_body body types args else Two (HPred p) types args
unfold_rule k body e = e

-- each use in a tree, its arguments first
abbrev pub with_uses_unfolded : DefinitionTree → Tree → Tree
with_uses_unfolded d e = image (unfold_rule d.symbol (defining_body d.equation)) e

-- from the last definition to the first
abbrev pub inlined : List DefinitionTree → Tree → Tree
inlined [] e = e
inlined (d ∷ ds) e = with_uses_unfolded d (inlined ds e)

-- ---- trivial bodies
-- a parameter other than these
abbrev pub is_other_parameter : List ℕ → Tree → Bool
is_other_parameter seen (One (HBound i) ty) = not (list_any (λ j. j == i) seen)
is_other_parameter seen _ = false

abbrev pub with_parameter : Tree → List ℕ → List ℕ
with_parameter (One (HBound i) ty) seen = i ∷ seen
with_parameter _ seen = seen

-- each is a parameter, and none stands twice
abbrev pub are_distinct_parameters : List ℕ → Tree → Bool
are_distinct_parameters seen (Two HCell a b) =
    is_other_parameter seen a && are_distinct_parameters (with_parameter a seen) b
are_distinct_parameters seen _ = true

-- a parameter, an integer, or one symbol or `=` on distinct parameters
abbrev pub is_trivial : Tree → Bool
is_trivial (One (HBound i) ty) = true
is_trivial (Leaf (HNum z)) = true
is_trivial (Three (HFun f) types args ty) = are_distinct_parameters [] args
is_trivial (Two (HPred p) types args) = are_distinct_parameters [] args
is_trivial (Two HEq a b) = is_other_parameter [] a && is_other_parameter (with_parameter a []) b
is_trivial _ = false

-- ---- tasks
-- the definitions of a group that isn't recursive
abbrev pub plain_definitions : BodyTree → List DefinitionTree
plain_definitions (Defines ds) = if is_recursive ds then [] else ds
plain_definitions _ = []

abbrev pub all_definitions : List DeclarationTree → List DefinitionTree
all_definitions [] = []
all_definitions (d ∷ ds) = plain_definitions d.body ++ all_definitions ds

-- those whose bodies, as they are written, are trivial
abbrev pub trivial_definitions : List DefinitionTree → List DefinitionTree
trivial_definitions [] = []
trivial_definitions (d ∷ ds) =
    if is_trivial (defining_body d.equation) then d
    ∷ trivial_definitions ds else trivial_definitions ds

-- those that are inlined
abbrev pub inlined_definitions : InlineMode → List DeclarationTree → List DefinitionTree
inlined_definitions mode.Trivial ds = trivial_definitions (all_definitions ds)
inlined_definitions mode.Goal ds = all_definitions ds
inlined_definitions mode.All ds = all_definitions ds

abbrev pub inlined_by : InlineMode → (Tree → Tree) → TaskTree → TaskTree
inlined_by mode.Goal g t = with_goal t (g t.goal)
inlined_by mode.Trivial g t = changed_task g t
inlined_by mode.All g t = changed_task g t

-- the definitions that are inlined, in all formulas or in the goal alone
abbrev pub inlined_task : InlineMode → TaskTree → TaskTree
inlined_task m t = inlined_by m (inlined (inlined_definitions m t.decls)) t

-- one task, however large it is
abbrev pub inline_equation : InlineMode → TaskTree → Result (List TaskTree) ℕ
inline_equation m t = Ok (inlined_task m t ∷ [])
