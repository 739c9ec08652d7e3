-- What is inlined keeps typing, and commutes with types: laws for clients' own definitions.
use Rattle.std.specs.Prelude.{◌≡◌, ℕ, List, [], get_or}
use Rattle.trees.specs.Tree.{Tree}
use Rattle.trees.specs.Binding.{inst_types, TyVar}
use Rattle.tasks.specs.Task.{TaskTree}
use Rattle.tasks.specs.Vocabulary.{of_task}
use Rattle.tasks.specs.Valid.{IsValid}
use Rattle.tasks.proofs.TypeInstances.{sound_task}
use Rattle.inlining.specs.declared.modes.InlineMode.{InlineMode}
use Rattle.inlining.specs.Inlining.{inlined, inlined_definitions}
use Rattle.inlining.specs.images.typing_laws.HasTyping.{HasTyping, IsTypeAt, KeepsTyping}
use Rattle.inlining.proofs.Inlined.{task_keeps, inlined_defined}
use Rattle.inlining.proofs.InlinedAtTypes.{inlined_at_types}

pub formula_keeps : (m : InlineMode) (t : TaskTree) → IsValid t → (e : Tree)
    → HasTyping (of_task t) [] e
    → KeepsTyping (of_task t) [] e (inlined (inlined_definitions m t.decls) e)
formula_keeps m t valid e x = task_keeps t valid m [] e x

pub formula_commutes : (m : InlineMode) (t : TaskTree) → IsValid t → (ys : List Tree)
    → ((j : ℕ) → IsTypeAt (of_task t) (get_or ys j (TyVar j))) → (e : Tree)
    → HasTyping (of_task t) [] e
    → inlined (inlined_definitions m t.decls) (inst_types e ys)
    ≡ inst_types (inlined (inlined_definitions m t.decls) e) ys
formula_commutes m t valid ys each e x =
    inlined_at_types (of_task t) (sound_task t valid) ys each (inlined_definitions m t.decls)
    (inlined_defined (of_task t) m t.decls valid.decls) [] e x
