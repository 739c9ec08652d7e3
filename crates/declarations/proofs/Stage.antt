-- What the one task of a rewriting equation gives.
use Rattle.std.proofs.Common.{◌≡◌, ℕ, ◌<◌, List, [], ◌∷◌, length, get_or}
use Rattle.trees.specs.Tree.{Tree}
use Rattle.tasks.specs.declared.facts.Fact.{Fact}
use Rattle.tasks.specs.Task.{TaskTree, start}
use Rattle.evidence.specs.Drafts.{DraftTree, Refutes}
use Rattle.evidence.specs.Facts.{IsFact}
use Rattle.evidence.specs.Stages.{Gives, IsAmong, EndIn, limited_gives}
use Rattle.evidence.proofs.task_parts.One.{among_one, end_of_one}
use Rattle.evidence.proofs.task_parts.One as one
use Rattle.declarations.specs.Rewritten.{DeclarationRule, rewritten_task}
use Rattle.declarations.specs.Names.{IsOldName}
use Rattle.declarations.specs.Equation.{rewrite_equation}
use Rattle.declarations.proofs.Names.{fact_there}

pub one_task : (g : DeclarationRule) (t : TaskTree) (ts : List TaskTree) → Gives (rewrite_equation g) t ts → ts ≡ rewritten_task g t ∷ []
one_task g t ts e = limited_gives (rewritten_task g t ∷ []) ts e

pub old_fact : (g : DeclarationRule) (t u : TaskTree) (name old : Fact) (types : List Tree) (formula : Tree) → IsAmong (Gives (rewrite_equation g) t) u → IsOldName t (rewritten_task g t) name old → IsFact t u name types formula → IsFact t t old types formula
old_fact g t u name old types formula a o =
    among_one (λ z. IsFact t z name types formula → IsFact t t old types formula) (Gives (rewrite_equation g) t) (rewritten_task g t) u a (one_task g t a.tasks a.is) (fact_there t (rewritten_task g t) name old types formula o)

pub end_there : (g : DeclarationRule) (d : DraftTree) (ends : List ℕ) (ts : List TaskTree) → Gives (rewrite_equation g) d.task ts → EndIn d ends ts → 0 < length ends
end_there g d ends ts e u = one.end_there d ends ts (rewritten_task g d.task) (one_task g d.task ts e) u

pub end_refutes : (g : DeclarationRule) (d : DraftTree) (ends : List ℕ) (ts : List TaskTree) → Gives (rewrite_equation g) d.task ts → EndIn d ends ts → Refutes d (get_or ends 0 0) (start d.task)
end_refutes g d ends ts e u = end_of_one d ends ts (rewritten_task g d.task) (one_task g d.task ts e) u
