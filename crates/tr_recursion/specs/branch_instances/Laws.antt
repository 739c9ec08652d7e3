-- The laws of the crate, as statements.
use Rattle.std.specs.Prelude.{◌≡◌, ℕ, ◌<◌, true, List, map, length, slice_get, Some}
use Rattle.std.specs.List.{list_all}
use Rattle.tasks.specs.trees.Tree.{Tree, One, Two, HBound, HCase}
use Rattle.tasks.specs.trees.Binding.{inst_types, AreTypes, AreClosed}
use Rattle.tasks.specs.declared.facts.Fact.{Fact}
use Rattle.tasks.specs.declared.facts.Fact.TheVariants as fact
use Rattle.tasks.specs.Task.{symbol_or, DefinitionTree, ConstructorTree, TaskTree, PropositionTree}
use Rattle.tasks.specs.Roles.{ConstructorRole, ProjectionRole, role}
use Rattle.tasks.specs.Looking.{fact_name}
use Rattle.tasks.specs.Vocabulary.{Vocabulary}
use Rattle.tasks.specs.Valid.{IsDefinition, IsValid}
use Rattle.tr_inline.specs.inlining.images.Instances.{for_all_at}
use Rattle.evidence.specs.Facts.{fact_named}
use Rattle.declarations.specs.Rewritten.{rewritten_task}
use Rattle.declarations.specs.Said.{all_said}
use Rattle.checks.specs.decl_checks.Structure.{defining_body}
use Rattle.declarations.specs.spelled_groups.Spelled.{spelling_rule, spelling_said}
use Rattle.tr_inline.specs.inlining.branch_equations.Branches.{ConstructorBranch, quantifiers, are_different, branch_equation, recursion_facts}
use Rattle.tr_recursion.specs.branch_instances.Chosen.{arms_of, has_plain_fields}
use Rattle.tr_recursion.specs.branch_instances.Instances.{SaysChosen}
use Rattle.tr_recursion.specs.branch_instances.Origins.{IsOldFact}

-- The equation of a branch of a definition, at types and at closed terms for its variables, says of
-- a use of the symbol what the body gives there, a `match` of the branch's constructor on terms.
abbrev pub BranchesSayChosen : Type 0
BranchesSayChosen =
    (v : Vocabulary) (m : DefinitionTree) → IsDefinition v m
    → (i : ℕ) (bs : List ConstructorBranch) (type : Tree)
    → defining_body m.equation ≡ Two HCase (One (HBound i) type) (arms_of bs)
    → i < length (symbol_or v.symbols m.symbol).args
    → list_all has_plain_fields bs ≡ true → are_different bs ≡ true
    → (place : ℕ) (b : ConstructorBranch) → slice_get bs place ≡ Some b → (ys : List Tree)
    → AreTypes ys → AreClosed ys → length ys ≡ (symbol_or v.symbols m.symbol).vars
    → (ws : List Tree) → AreClosed ws
    → length ws ≡ quantifiers
    (inst_types (branch_equation (symbol_or v.symbols m.symbol).args m.equation i b) ys)
    → SaysChosen m.symbol (defining_body m.equation) ys
    (for_all_at (inst_types
    (branch_equation (symbol_or v.symbols m.symbol).args m.equation i b) ys) ws)

-- what the new task says follows, place by place, from the fact of the old one whose name is listed
-- for it
abbrev pub SaidFollowsFromFacts : Type 0
SaidFollowsFromFacts =
    (t : TaskTree) → IsValid t → (k : ℕ) (p : PropositionTree) (old : Fact)
    → fact_named (rewritten_task (spelling_rule recursion_facts) t)
    (fact.Proposition k) ≡ Some p
    → slice_get (map fact_name (all_said (spelling_said recursion_facts) t)) k ≡ Some old
    → IsOldFact t old p

-- each projection of a constructor of a valid task is made as the projection to its field
abbrev pub ProjectionsAreMade : Type 0
ProjectionsAreMade = (t : TaskTree) → IsValid t → (k p j : ℕ) (con : ConstructorTree)
    → role t k ≡ ConstructorRole con → slice_get con.projections j ≡ Some p
    → role t p ≡ ProjectionRole con j
