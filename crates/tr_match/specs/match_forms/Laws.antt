-- The laws of the crate, as statements.
use Rattle.std.specs.Prelude.{◌≡◌, ℕ, List, get_or}
use Rattle.trees.specs.Tree.{Tree, Two, HCase}
use Rattle.trees.specs.Binding.{inst_types, inst_many, TyVar}
use Rattle.tasks.specs.Task.{TaskTree}
use Rattle.tasks.specs.Vocabulary.{of_task}
use Rattle.tasks.specs.Valid.{IsValid}
use Rattle.images.specs.Open.{IsAt}
use Rattle.images.specs.typing_laws.HasTyping.{HasTyping, IsTypeAt, IsTypedRule}
use Rattle.tr_match.specs.match_forms.Forms.{match_rule}

-- what a `match` becomes is typed as it is
abbrev pub MatchRuleKeepsTyping : Type 0
MatchRuleKeepsTyping = (t : TaskTree) → IsValid t → IsTypedRule (of_task t) (match_rule t)

-- what a node at types becomes is what it becomes, at the types
abbrev pub MatchRuleAtTypes : Type 0
MatchRuleAtTypes =
    (t : TaskTree) → IsValid t → (ys : List Tree)
    → ((j : ℕ) → IsTypeAt (of_task t) (get_or ys j (TyVar j))) → (types : List Tree) (e : Tree)
    → HasTyping (of_task t) types e
    → match_rule t (inst_types e ys) ≡ inst_types (match_rule t e) ys

-- what a `match` at closed terms becomes is what it becomes, at the terms
abbrev pub MatchRuleAtTerms : Type 0
MatchRuleAtTerms = (t : TaskTree) → IsValid t
    → (types env : List Tree) (n : ℕ) (s branches l : Tree)
    → IsAt t types env (Two HCase s branches) l n
    → match_rule t l ≡ inst_many (match_rule t (Two HCase s branches)) env
