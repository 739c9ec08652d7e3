-- Tasks whose formulas are changed: propositions, locals and goal. What a task declares, and how,
-- stays.
use Rattle.std.specs.Prelude.{◌≡◌, List, [], map}
use Rattle.trees.specs.declared.Sort.TheVariants.{Formula}
use Rattle.trees.specs.Tree.{Tree}
use Rattle.trees.specs.Sorts.{sort_of}
use Rattle.tasks.specs.Task.{BodyTree, Says, DeclarationTree, TaskTree}
use Rattle.tasks.specs.Vocabulary.{Vocabulary}
use Rattle.images.specs.typing_laws.HasTyping.{HasTyping, KeepsTyping}

-- a declaration with this for its formula, if it is a proposition; definitions keep their own
-- equations
abbrev pub with_formula : (Tree → Tree) → DeclarationTree → BodyTree → DeclarationTree
with_formula g d (Says a) = record d { body = Says (g a) }
with_formula g d _ = d

abbrev pub changed_declarations : (Tree → Tree) → List DeclarationTree → List DeclarationTree
changed_declarations g ds = map (λ (d : DeclarationTree). with_formula g d d.body) ds

-- propositions, locals and goal
abbrev pub changed_task : (Tree → Tree) → TaskTree → TaskTree
changed_task g t =
    record t { decls = changed_declarations g t.decls; locals = map g t.locals; goal = g t.goal }

-- what a closed formula becomes is one, with its typing, and has no type variable or parameter that
-- it doesn't have
abbrev pub KeepsFormulas : Vocabulary → (Tree → Tree) → Type 0
KeepsFormulas v g = (e : Tree) → sort_of e ≡ Formula → HasTyping v [] e → KeepsTyping v [] e (g e)
