-- What a `match` at closed terms becomes is what it becomes, at the terms.
use Rattle.std.proofs.Common.{◌≡◌, ℕ, ◌+◌, ◌≤◌, List, [], ◌∷◌, ◌++◌, map, length, refl, sym, ap, ◌∙◌, arith}
use Rattle.trees.specs.declared.Sort.TheVariants.{Term}
use Rattle.trees.specs.Tree.{Tree, Two, HArm, HCase, pat_vars, loose}
use Rattle.trees.specs.Binding.{change, instantiating_many, inst_many, AreClosed}
use Rattle.trees.specs.Sorts.{WellSorted, sort_of, type_of}
use Rattle.trees.proofs.Many.{inst_many_closed, inst_many_under, inst_many_inst_many, length_map}
use Rattle.tasks.specs.Task.{TaskTree}
use Rattle.tasks.specs.Vocabulary.{of_task}
use Rattle.tasks.specs.Typing.{pattern_types}
use Rattle.tasks.specs.MatchTests.{test, bind}
use Rattle.tasks.specs.Valid.{IsValid}
use Rattle.tasks.proofs.Closing.{typed_closed, typed_sorted}
use Rattle.images.specs.Open.{IsAt}
use Rattle.images.proofs.Environments.{closed_for}
use Rattle.images.proofs.Patterns.{test_at, bind_at}
use Rattle.images.specs.typing_laws.HasTyping.{HasTyping}
use Rattle.images.proofs.typing_laws.Sorted.{typed_has, has_sorts, bound_count}
use Rattle.tr_match.specs.match_forms.Forms.{if_form, match_rule}
use Rattle.tr_match.specs.match_forms.Branches.{ArmTree, arms_tree, IsTypedBranch, AreTypedBranches, IsMatchOf}
use Rattle.tr_match.specs.match_forms.lemmas.Asked.{pattern_anywhere, terms_no_patterns}
use Rattle.tr_match.specs.match_forms.lemmas.Rule.{asked, match_of}

module _ (t : TaskTree) (valid : IsValid t) (env : List Tree) (closed : AreClosed env) (types : List Tree) (s : Tree) (ks : sort_of s ≡ Term) (xs : HasTyping (of_task t) types s) (first : Tree) where
  abbrev at : Tree → Tree
  at e = inst_many e env

  abbrev branch_at : ArmTree → ArmTree
  branch_at b = record { pattern = b.pattern; body = change (instantiating_many env) (0 + pat_vars b.pattern) b.body }

  module _ (b : ArmTree) (w : IsTypedBranch (of_task t) types (type_of s) first b) where
    pattern_same : at b.pattern ≡ b.pattern
    pattern_same =
        let l : loose b.pattern ≤ 0 = typed_closed (of_task t) [] b.pattern (pattern_anywhere (of_task t) types [] b.pattern w.pattern_typed w.pattern) in
        inst_many_closed env 0 b.pattern (omega (arith, l))

    sorted : WellSorted b.pattern
    sorted = typed_sorted (of_task t) types b.pattern (asked t valid types s ks xs first b w).pattern.typed

    abbrev terms : List Tree
    terms = bind t b.pattern s

    abbrev there : List Tree
    there = bind t b.pattern (at s)

    same_test : test t b.pattern (at s) ≡ at (test t b.pattern s)
    same_test = sym (test_at t env b.pattern s sorted)

    body_at : inst_many (branch_at b).body there ≡ at (inst_many b.body terms)
    body_at =
        let a = asked t valid types s ks xs first b w in
        let q : map at terms ≡ there = bind_at t env b.pattern s sorted in
        let n : length there ≡ 0 + pat_vars b.pattern =
        (let c = bound_count HArm b.pattern b.body ((w.pattern, w.body), tt) (has_sorts (of_task t) types b.pattern w.pattern_typed) in omega (arith, sym (ap length q), length_map at terms, a.terms.as_many, c)) in
        inst_many_under env there (0 + pat_vars b.pattern) closed n b.body ∙ ap (λ (z : List Tree). inst_many b.body (env ++ z)) (sym q)
        ∙ sym (inst_many_inst_many env closed terms (terms_no_patterns (of_task t) types (pattern_types b.pattern) terms a.terms) b.body)

  list_at : (bs : List ArmTree) → AreTypedBranches (of_task t) types (type_of s) first bs → at (arms_tree bs) ≡ arms_tree (map branch_at bs)
  list_at [] w = refl
  list_at (b ∷ bs) w = cc (pattern_same b w.0, list_at bs w.1)

  form_at : (b : ArmTree) (bs : List ArmTree) → AreTypedBranches (of_task t) types (type_of s) first (b ∷ bs) → if_form t (at s) (arms_tree (map branch_at (b ∷ bs))) ≡ at (if_form t s (arms_tree (b ∷ bs)))
  form_at b [] w = body_at b w.0
  form_at b (c ∷ bs) w = cc (same_test b w.0, body_at b w.0, form_at c bs w.1)

pub case_at_terms : (t : TaskTree) → IsValid t → (env : List Tree) → AreClosed env → (types : List Tree) (s e : Tree) → HasTyping (of_task t) types (Two HCase s e) → if_form t (inst_many s env) (inst_many e env) ≡ inst_many (if_form t s e) env
case_at_terms t valid env closed types s e x = by (match_of (of_task t) types s e x)
  where
    by : IsMatchOf (of_task t) types s e → if_form t (inst_many s env) (inst_many e env) ≡ inst_many (if_form t s e) env
    by m =
        ap (λ (z : Tree). if_form t (inst_many s env) (inst_many z env)) m.is
        ∙ ap (if_form t (inst_many s env)) (list_at t valid env closed types s x.0.0.0 x.2 m.first.body (m.first ∷ m.others) m.typed)
        ∙ form_at t valid env closed types s x.0.0.0 x.2 m.first.body m.first m.others m.typed ∙ ap (λ (z : Tree). inst_many (if_form t s z) env) (sym m.is)

pub match_at_terms : (t : TaskTree) → IsValid t → (types env : List Tree) (n : ℕ) (s branches l : Tree) → IsAt t types env (Two HCase s branches) l n → match_rule t l ≡ inst_many (match_rule t (Two HCase s branches)) env
match_at_terms t valid types env n s branches l k =
    ap (match_rule t) k.is ∙ case_at_terms t valid env (closed_for (of_task t) types env k.around.terms) types s branches (typed_has (of_task t) types (Two HCase s branches) k.shape.typed)
