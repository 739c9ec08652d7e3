-- What a `match` at types becomes is what it becomes, at the types.
use Rattle.std.proofs.Common.{◌≡◌, ℕ, inl, inr, List, [], ◌∷◌, map, get_or, refl, sym, ap, ◌∙◌}
use Rattle.trees.specs.declared.Sort.TheVariants.{Kind, Term, Formula}
use Rattle.trees.specs.Tree.{Tree, Leaf, One, Two, Three, HTyVar, HCell, HArm, HCase}
use Rattle.trees.specs.Binding.{inst_types, inst_many, TyVar, AreTypes}
use Rattle.trees.specs.Sorts.{sort_of, type_of, IsExpression}
use Rattle.trees.proofs.Instances.{inst_two}
use Rattle.trees.proofs.Many.{inst_types_inst_many}
use Rattle.trees.specs.laws.Sorts.{kind_no_vars}
use Rattle.trees.proofs.Types.{loose_types}
use Rattle.tasks.specs.Task.{TaskTree}
use Rattle.tasks.specs.Vocabulary.{of_task}
use Rattle.tasks.specs.Typing.{pattern_types}
use Rattle.tasks.specs.MatchTests.{test, bind}
use Rattle.tasks.specs.Valid.{IsValid}
use Rattle.images.proofs.Images.{expression_sort}
use Rattle.images.proofs.InstanceLaws.{tests_at_types, terms_at_types}
use Rattle.images.specs.typing_laws.HasTyping.{HasTyping, IsTypeAt}
use Rattle.images.proofs.typing_laws.Sorted.{has_sorts, kinds_only}
use Rattle.images.proofs.TypedImages.{image_at_types}
use Rattle.images.proofs.typing_laws.TypeInstances.{at_one}
use Rattle.tr_match.specs.match_forms.Forms.{if_form, match_rule, without_matches}
use Rattle.tr_match.specs.match_forms.Branches.{ArmTree, arms_tree, IsTypedBranch, AreTypedBranches, IsMatchOf}
use Rattle.tr_match.specs.match_forms.lemmas.Asked.{terms_no_patterns}
use Rattle.tr_match.specs.match_forms.lemmas.Rule.{asked, match_of, match_typed_rule}

-- a type is no `match`
kind_stays : (t : TaskTree) (e : Tree) → HasTyping (of_task t) [] e → sort_of e ≡ Kind
    → match_rule t e ≡ e
kind_stays t (Two HCase s e) x q = absurd (by m.typed.0.body)
  where
    m : IsMatchOf (of_task t) [] s e
    m = match_of (of_task t) [] s e x

    same : IsExpression (sort_of m.first.body) → sort_of m.first.body ≡ Kind
    same h = sym (expression_sort m.first.body h)
        ∙ sym (ap (λ (z : Tree). sort_of (Two HCase s z)) m.is) ∙ q

    by : IsExpression (sort_of m.first.body) → ⊥
    by (inl h) = let z : Term ≡ Kind = sym h ∙ same (inl h) in cc
    by (inr h) = let z : Formula ≡ Kind = sym h ∙ same (inr h) in cc
kind_stays t e x q = refl

module _ (t : TaskTree) (valid : IsValid t) (ys : List Tree)
    (each : (j : ℕ) → IsTypeAt (of_task t) (get_or ys j (TyVar j))) where
  abbrev at : Tree → Tree
  at e = inst_types e ys

  are_types : AreTypes ys
  are_types = record {
    closed = λ j. loose_types (get_or ys j (TyVar j))
        (kinds_only (get_or ys j (TyVar j))
        (has_sorts (of_task t) [] (get_or ys j (TyVar j)) (each j).1) (inl (each j).0));
    no_vars = λ j. kind_no_vars (get_or ys j (TyVar j)) (each j).0;
  }

  abbrev branch_at : ArmTree → ArmTree
  branch_at b = record { pattern = at b.pattern; body = at b.body }

  list_at : (bs : List ArmTree) → at (arms_tree bs) ≡ arms_tree (map branch_at bs)
  list_at [] = refl
  list_at (b ∷ bs) = inst_two ys HCell (Two HArm b.pattern b.body) (arms_tree bs)
      ∙ cc (inst_two ys HArm b.pattern b.body, list_at bs)

  module _ (types : List Tree) (s : Tree) (ks : sort_of s ≡ Term)
      (xs : HasTyping (of_task t) types s) (first : Tree) where
    body_at : (b : ArmTree) → IsTypedBranch (of_task t) types (type_of s) first b
        → inst_many (at b.body) (bind t (at b.pattern) (at s))
        ≡ at (inst_many b.body (bind t b.pattern s))
    body_at b w =
        let a = asked t valid types s ks xs first b w in
        ap (inst_many (at b.body)) (sym (terms_at_types t valid ys types b.pattern s a.pattern))
        ∙ sym (inst_types_inst_many b.body (bind t b.pattern s) ys are_types
        (terms_no_patterns (of_task t) types (pattern_types b.pattern) (bind t b.pattern s)
        a.terms))

    test_at : (b : ArmTree) → IsTypedBranch (of_task t) types (type_of s) first b
        → test t (at b.pattern) (at s) ≡ at (test t b.pattern s)
    test_at b w = sym (tests_at_types t valid ys types b.pattern s
        (asked t valid types s ks xs first b w).pattern)

    form_at : (b : ArmTree) (bs : List ArmTree)
        → AreTypedBranches (of_task t) types (type_of s) first (b ∷ bs)
        → if_form t (at s) (arms_tree (map branch_at (b ∷ bs)))
        ≡ at (if_form t s (arms_tree (b ∷ bs)))
    form_at b [] w = body_at b w.0
    form_at b (c ∷ bs) w = cc (test_at b w.0, body_at b w.0, form_at c bs w.1)

  case_at : (types : List Tree) (s e : Tree) → HasTyping (of_task t) types (Two HCase s e)
      → IsMatchOf (of_task t) types s e → if_form t (at s) (at e) ≡ at (if_form t s e)
  case_at types s e x m =
      ap (λ (z : Tree). if_form t (at s) (at z)) m.is
      ∙ ap (if_form t (at s)) (list_at (m.first ∷ m.others))
      ∙ form_at types s x.0.0.0 x.2 m.first.body m.first m.others m.typed
      ∙ ap (λ (z : Tree). at (if_form t s z)) (sym m.is)

  pub match_at_types : (types : List Tree) (e : Tree) → HasTyping (of_task t) types e
      → match_rule t (at e) ≡ at (match_rule t e)
  match_at_types types (Leaf (HTyVar j)) x =
      kind_stays t (get_or ys j (TyVar j)) (each j).1 (each j).0
  match_at_types types (Leaf _) x = refl
  match_at_types types (One h a) x =
      ap (match_rule t) (at_one (of_task t) ys each h a) ∙ sym (at_one (of_task t) ys each h a)
  match_at_types types (Two HCase s e) x =
      ap (match_rule t) (inst_two ys HCase s e)
      ∙ case_at types s e x (match_of (of_task t) types s e x)
  match_at_types types (Two _ a b) x = refl
  match_at_types types (Three _ a b c) x = refl

  -- so it is of a whole tree
  pub without_at_types : (types : List Tree) (e : Tree) → HasTyping (of_task t) types e
      → without_matches t (at e) ≡ at (without_matches t e)
  without_at_types types e x =
      image_at_types (of_task t) (match_rule t) (match_typed_rule t valid) ys each
      (λ ts a y. match_at_types ts a y) types e x
