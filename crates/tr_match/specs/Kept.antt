-- What `eliminate_match` makes of a task, which is valid and declares the same.
use Rattle.std.specs.Prelude.{◌≡◌, ℕ, List, [], All, Result}
use Rattle.tasks.specs.trees.Tree.{Tree, head_of}
use Rattle.tasks.specs.Task.{TaskTree}
use Rattle.tasks.specs.Vocabulary.{of_task}
use Rattle.tasks.specs.Valid.{IsValid}
use Rattle.evidence.specs.Stages.{Gives, Keeps}
use Rattle.images.specs.Images.{IsOtherHead}
use Rattle.images.specs.typing_laws.HasTyping.{IsTypedRule}
use Rattle.walking.specs.declared.rewriting.formulas.FormulaScope.TheVariants as scope
use Rattle.walking.specs.rewriting.Rewritten.{formulas_equation}
use Rattle.walking.specs.rewriting.Kept.{rewritten_keeps}
use Rattle.walking.specs.evidence.changed_tasks.Changed.{KeepsFormulas}
use Rattle.walking.specs.rewriting.Formulas.{CommutesWithTypes}
use Rattle.walking.specs.rule_rewriting.Rules.{CommutesAtNodes}
use Rattle.tr_match.specs.match_forms.Forms.{match_rule, without_matches}
use Rattle.tr_match.specs.match_forms.lemmas.Rule.{match_others, match_typed_rule, without_keeps}
use Rattle.tr_match.specs.match_forms.lemmas.AtTypes.{match_at_types, without_at_types}

-- ---- the rule at a node
pub match_stays : (t : TaskTree) (e : Tree) → IsOtherHead (head_of e) → match_rule t e ≡ e
match_stays t e h = match_others t e h

pub match_keeps_typing : (t : TaskTree) → IsValid t → IsTypedRule (of_task t) (match_rule t)
match_keeps_typing t valid = match_typed_rule t valid

pub match_commutes : (t : TaskTree) → IsValid t → CommutesAtNodes (of_task t) (match_rule t)
match_commutes t valid ys each types e x = match_at_types t valid ys each types e x

-- ---- a formula
pub matches_keep_typing : (t : TaskTree) → IsValid t → KeepsFormulas (of_task t) (without_matches t)
matches_keep_typing t valid e s x = without_keeps t valid [] e x

pub matches_commute : (t : TaskTree) → IsValid t → CommutesWithTypes (of_task t) (without_matches t)
matches_commute t valid ys each e s x = without_at_types t valid ys each [] e x

-- ---- the task
-- everywhere, each `match` becomes its `if` form
abbrev pub matches_equation : TaskTree → Result (List TaskTree) ℕ
matches_equation t = formulas_equation scope.Everywhere without_matches t

pub matches_keep : (t : TaskTree) (ts : List TaskTree) → IsValid t → Gives matches_equation t ts
    → All (Keeps t) ts
matches_keep t ts valid gives =
    rewritten_keeps scope.Everywhere without_matches (λ u w. matches_keep_typing u w) t ts
    valid gives
