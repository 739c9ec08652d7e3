-- A task with groups spelled out declares the same, and is valid.
use Rattle.std.specs.Prelude.{◌≡◌, ◌≤◌, true, nat_le, ℕ, ◌+◌, List, [], ◌∷◌, All, Result}
use Rattle.std.specs.List.{list_all}
use Rattle.std.proofs.Common.{inr, subst, arith}
use Rattle.std.proofs.lemmas.Bool.Decides.{nat_tests}
use Rattle.std.proofs.lemmas.List.Elements.{All-cons, All-nil}
use Rattle.std.proofs.lemmas.List.Sums.{sum_by-cons}
use Rattle.plain_laws.proofs.Bools.{and_first}
use Rattle.tasks.specs.Task.{TaskTree, DeclarationTree, BodyTree, MakesType, Makes, Defines, Induces, Constructs, Says, made, body_nodes, declaration_nodes, nodes}
use Rattle.tasks.specs.Vocabulary.{of_task}
use Rattle.tasks.specs.Valid.{IsValid}
use Rattle.tasks.proofs.Declared.{matched_made, made_usable, contains_step}
use Rattle.evidence.specs.stage_limits.Limits.{is_small, are_small, task_height}
use Rattle.evidence.specs.Bounded.{gives_small}
use Rattle.evidence.specs.Stages.{Gives, Keeps, limited_gives}
use Rattle.evidence.specs.task_parts.Kept.{one_keeps}
use Rattle.declarations.specs.Rewritten.{rewritten_decls, rewritten_task}
use Rattle.declarations.specs.Equation.{rewrite_equation}
use Rattle.declarations.specs.lemmas.Rewritten.{rewritten_kept}
use Rattle.declarations.specs.spelled_groups.Spelled.{GroupFacts, spelling_rule, SaysSmall, PatternsAreUsable, IsSpelling}
use Rattle.declarations.specs.spelled_groups.Groups.{definition_facts, inductive_facts}
use Rattle.declarations.specs.spelled_groups.Kept.{spelling_keeps, spelling_constructors, spelling_valid}
use Rattle.declarations.specs.spelled_groups.Definitions.{definitions_spelling}
use Rattle.declarations.specs.spelled_groups.Inductives.{IsSmallTree, inductives_spelling}

-- ---- a task that a stage gives has few nodes
at_most : (n m : ℕ) → nat_le n m ≡ true → n ≤ m
at_most n m e = grind (arith, nat_tests)

few_nodes : (u : TaskTree) → are_small (u ∷ []) ≡ true → nodes u ≤ 1048576
few_nodes u e = at_most (nodes u) 1048576
    (and_first (nat_le (nodes u) 1048576) (nat_le (task_height u) 2000)
    (and_first (is_small u) true (and_first (list_all is_small (u ∷ [])) _ e)))

says_small : (b : BodyTree) → body_nodes b ≤ 1048576 → SaysSmall IsSmallTree b
says_small (Says a) l = l
says_small (MakesType k) l = tt
says_small (Makes k) l = tt
says_small (Defines ds) l = tt
says_small (Induces is) l = tt
says_small (Constructs ts) l = tt

small_decls : (ds : List DeclarationTree) → declaration_nodes ds ≤ 1048576
    → All (λ (d : DeclarationTree). SaysSmall IsSmallTree d.body) ds
small_decls [] l = All-nil (λ (d : DeclarationTree). SaysSmall IsSmallTree d.body)
small_decls (d ∷ ds) l =
    let e : declaration_nodes (d ∷ ds) ≡ body_nodes d.body + declaration_nodes ds =
    sum_by-cons (λ (x : DeclarationTree). body_nodes x.body) d ds in
    All-cons (λ (x : DeclarationTree). SaysSmall IsSmallTree x.body) d ds
    (says_small d.body (omega (arith, e, l))) (small_decls ds (omega (arith, e, l)))

patterns_usable : (t : TaskTree) → PatternsAreUsable (of_task t)
patterns_usable t k h =
    made_usable t k (contains_step 0 k (made t.decls) (inr (matched_made t k h)))

-- where what is spelled out are formulas as long as they are small
pub spelled_keep : (f : GroupFacts) → IsSpelling IsSmallTree f → (t : TaskTree) (ts : List TaskTree)
    → IsValid t → Gives (rewrite_equation (spelling_rule f)) t ts → All (Keeps t) ts
spelled_keep f h t ts valid gives =
    let g = spelling_rule f in
    let one = limited_gives (rewritten_task g t ∷ []) ts gives in
    let few : nodes (rewritten_task g t) ≤ 1048576 =
    few_nodes (rewritten_task g t)
    (subst (λ (us : List TaskTree). are_small us ≡ true) one
    (gives_small (rewrite_equation g) t ts gives)) in
    one_keeps t (rewritten_task g t) ts one
    (rewritten_kept g (spelling_keeps IsSmallTree f h) t (spelling_constructors IsSmallTree f h)
    (λ (d : DeclarationTree). SaysSmall IsSmallTree d.body)
    (spelling_valid IsSmallTree f h (of_task t) (patterns_usable t)) valid
    (small_decls (rewritten_decls g t) (omega (arith, few))))

-- ---- definitions that aren't recursive
abbrev pub definitions_equation : TaskTree → Result (List TaskTree) ℕ
definitions_equation t = rewrite_equation (spelling_rule definition_facts) t

pub definitions_keep : (t : TaskTree) (ts : List TaskTree) → IsValid t
    → Gives definitions_equation t ts → All (Keeps t) ts
definitions_keep t ts valid gives =
    spelled_keep definition_facts (definitions_spelling IsSmallTree) t ts valid gives

-- ---- inductive predicates
abbrev pub inductives_equation : TaskTree → Result (List TaskTree) ℕ
inductives_equation t = rewrite_equation (spelling_rule inductive_facts) t

pub inductives_keep : (t : TaskTree) (ts : List TaskTree) → IsValid t
    → Gives inductives_equation t ts → All (Keeps t) ts
inductives_keep t ts valid gives = spelled_keep inductive_facts inductives_spelling t ts valid gives
