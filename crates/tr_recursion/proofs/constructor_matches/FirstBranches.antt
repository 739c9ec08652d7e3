-- The first branch of a closed `match` of a constructor's application, by numbers: it is the constructor's, or on another constructor.
use Rattle.std.proofs.Common.{◌≡◌, ℕ, ◌==◌, Bool, true, false, List, [], ◌∷◌, refl, sym, ap, subst, ◌∙◌}
use Rattle.std.specs.List.{list_all}
use Rattle.trees.specs.declared.TermId.{TermId}
use Rattle.trees.specs.declared.Sort.TheVariants as sort
use Rattle.trees.specs.Tree.{Tree, Leaf, Two, Three, HEnd, HCase, HCell, HArm, HFun, HPatCon}
use Rattle.trees.specs.Node.{tree_at, Holds}
use Rattle.trees.specs.Sorts.{sort_of}
use Rattle.tasks.specs.Task.{symbol_or}
use Rattle.tasks.specs.Vocabulary.{of_task}
use Rattle.tasks.specs.Typing.{TypedUnder, members}
use Rattle.tasks.specs.Equations.{cells}
use Rattle.tasks.specs.Valid.{IsValid}
use Rattle.tasks.specs.MatchTests.{result_at, fields, constructor_projections}
use Rattle.tasks.specs.MatchTests.{test as match_test}
use Rattle.tr_inline.specs.inlining.branch_equations.Branches.{ConstructorBranch, is_plain_field}
use Rattle.tr_recursion.specs.branch_instances.Chosen.{branch_pattern, arms_of, has_plain_fields, IsChosen}
use Rattle.tr_inline.proofs.inlining.images.DataTerms.{cells_members}
use Rattle.evidence.specs.Drafts.{DraftTree, Extends}
use Rattle.congruence.specs.kernel.Right.{IsGroundExpression}
use Rattle.congruence.specs.Alike.{ArePair}
use Rattle.congruence.proofs.Later.{held_later, tree_later}
use Rattle.tr_recursion.specs.declared.constructor_matches.branches.FirstBranch.{FirstBranch}
use Rattle.tr_recursion.specs.constructor_matches.Asked.{IsFirstBranch, IsHere, AreOtherConstructors}
use Rattle.tr_recursion.proofs.constructor_matches.Asked.{ground, asked_later}
use Rattle.tr_recursion.proofs.constructor_matches.Chosen.{HasFirst, HasArm, has_first, arms_are, first_plain, pattern_is, body_is, others_are, chosen_first, chosen_last, chosen_later, more_arms, chosen_constructor, numbers_turned, numbers_differ}
use Rattle.tr_recursion.proofs.constructor_matches.FieldsOf.{plain_test}

-- an asked `match` of an application, whose branches give this
pub record IsChosenAsked (d : DraftTree) (whole scrutinee : TermId) (first : FirstBranch) (right : TermId) : Type 0 where
  pub asked : IsFirstBranch d whole scrutinee first
  pub arms : Tree
  pub are : arms ≡ Two HCell (Two HArm (tree_at d.trees first.pattern) (tree_at d.trees first.body)) (tree_at d.trees first.others)
  pub chosen : IsChosen (tree_at d.trees scrutinee) arms (tree_at d.trees right)
  pub right_held : Holds d.trees right

pub chosen_moved : (s z a b r x : Tree) → z ≡ s → b ≡ a → x ≡ r → IsChosen s a r → IsChosen z b x
chosen_moved s z a b r x p q e h = record { branches = h.branches; are = q ∙ h.are; plain = h.plain; branch = h.branch; args = h.args; is = p ∙ h.is; chosen = h.chosen; gives = e ∙ h.gives }

pub chosen_asked_later : (d d1 : DraftTree) → Extends d d1 → (whole scrutinee : TermId) (first : FirstBranch) (right : TermId) → IsChosenAsked d whole scrutinee first right → IsChosenAsked d1 whole scrutinee first right
chosen_asked_later d d1 x whole scrutinee first right q = record {
  asked = asked_later d d1 x whole scrutinee first q.asked;
  arms = q.arms;
  are = q.are ∙ cc (sym (tree_later d d1 x first.pattern q.asked.pattern_held), sym (tree_later d d1 x first.body q.asked.body_held), sym (tree_later d d1 x first.others q.asked.others_held));
  chosen = chosen_moved _ _ _ _ _ _ (tree_later d d1 x scrutinee q.asked.scrutinee_held) refl (tree_later d d1 x right q.right_held) q.chosen;
  right_held = held_later d d1 x right q.right_held;
}

-- the branches of a `match` that gives this
pub has_arms : (s a r : Tree) → IsChosen s a r → (p : Tree) × ((b : Tree) × ((o : Tree) × (a ≡ Two HCell (Two HArm p b) o)))
has_arms s a r h = let f = has_first s a r h in (branch_pattern f.branch, (f.branch.body, (arms_of f.others, arms_are s a r h)))

pub asked_here : (d : DraftTree) (whole scrutinee arms right : TermId) → ArePair d whole right → Holds d.trees scrutinee → tree_at d.trees whole ≡ Two HCase (tree_at d.trees scrutinee) (tree_at d.trees arms) → IsChosen (tree_at d.trees scrutinee) (tree_at d.trees arms) (tree_at d.trees right)
    → (first : FirstBranch) → Holds d.trees first.pattern → Holds d.trees first.body → Holds d.trees first.others → tree_at d.trees arms ≡ Two HCell (Two HArm (tree_at d.trees first.pattern) (tree_at d.trees first.body)) (tree_at d.trees first.others) → IsChosenAsked d whole scrutinee first right
asked_here d whole scrutinee arms right p hs is h first hp hb ho e = record {
  asked = record { closed = p.left; is = is ∙ ap (Two HCase (tree_at d.trees scrutinee)) e; scrutinee_held = hs; pattern_held = hp; body_held = hb; others_held = ho };
  arms = tree_at d.trees arms;
  are = e;
  chosen = h;
  right_held = p.right.held;
}

arms_listed : (bs : List ConstructorBranch) → sort_of (arms_of bs) ≡ sort.List
arms_listed [] = refl
arms_listed (b ∷ bs) = refl

module _ (d : DraftTree) (whole scrutinee : TermId) (first : FirstBranch) (right : TermId) (q : IsChosenAsked d whole scrutinee first right) where
  abbrev S : Tree
  S = tree_at d.trees scrutinee

  abbrev P : Tree
  P = tree_at d.trees first.pattern

  abbrev A : Tree
  A = tree_at d.trees first.body

  abbrev R : Tree
  R = tree_at d.trees first.others

  abbrev f : HasFirst S q.arms (tree_at d.trees right) q.chosen
  f = has_first S q.arms (tree_at d.trees right) q.chosen

  pub others_listed : sort_of R ≡ sort.List
  others_listed = ap sort_of (others_are S q.arms (tree_at d.trees right) q.chosen P A R q.are) ∙ arms_listed f.others

  pub others_arm : (x y : Tree) → R ≡ Two HCell x y → HasArm R
  others_arm x y e = more_arms f.others R x y (others_are S q.arms (tree_at d.trees right) q.chosen P A R q.are) e

  -- the constructor's
  here_by : f.branch ≡ q.chosen.branch → IsHere d scrutinee first (tree_at d.trees right)
  here_by e = record {
    branch = q.chosen.branch;
    args = q.chosen.args;
    application = q.chosen.is;
    pattern = pattern_is S q.arms (tree_at d.trees right) q.chosen P A R q.are ∙ ap branch_pattern e;
    body = body_is S q.arms (tree_at d.trees right) q.chosen P A R q.are ∙ ap (λ (b : ConstructorBranch). b.body) e;
    plain = subst (λ (b : ConstructorBranch). has_plain_fields b ≡ true) e (first_plain S q.arms (tree_at d.trees right) q.chosen);
    gives = q.chosen.gives;
  }

  pub here_last : R ≡ Leaf HEnd → IsHere d scrutinee first (tree_at d.trees right)
  here_last e = here_by (chosen_last S q.arms (tree_at d.trees right) q.chosen P A R q.are e)

  -- by whether its pattern is on the constructor of the application
  module _ (b : Bool) (on : (c k : ℕ) (xs args ty ys fields type : Tree) → S ≡ Three (HFun c) xs args ty → P ≡ Three (HPatCon k) ys fields type → b ≡ (c == k)) where
    tested : b ≡ (q.chosen.branch.symbol == f.branch.symbol)
    tested = on q.chosen.branch.symbol f.branch.symbol _ _ _ _ _ _ q.chosen.is (pattern_is S q.arms (tree_at d.trees right) q.chosen P A R q.are)

    pub here_on : b ≡ true → IsHere d scrutinee first (tree_at d.trees right)
    here_on e = here_by (chosen_first S q.arms (tree_at d.trees right) q.chosen P A R q.are (numbers_turned q.chosen.branch.symbol f.branch.symbol true (sym tested ∙ e)))

    pub later_on : b ≡ false → IsChosen S R (tree_at d.trees right)
    later_on e = chosen_later S q.arms (tree_at d.trees right) q.chosen P A R q.are (numbers_turned q.chosen.branch.symbol f.branch.symbol false (sym tested ∙ e))

    module _ (valid : IsValid d.task) where
      at_match : IsGroundExpression d.task (Two HCase S (Two HCell (Two HArm P A) R))
      at_match = ground d valid whole scrutinee first q.asked

      arms_typed : TypedUnder (of_task d.task) [] (arms_of q.chosen.branches)
      arms_typed = subst (TypedUnder (of_task d.task) []) (sym q.are ∙ q.chosen.are) at_match.typed.3

      first_typed : TypedUnder (of_task d.task) [] (branch_pattern f.branch)
      first_typed = subst (TypedUnder (of_task d.task) []) (pattern_is S q.arms (tree_at d.trees right) q.chosen P A R q.are) at_match.typed.3.2.2

      fields_plain : list_all is_plain_field (members (cells f.branch.fields)) ≡ true
      fields_plain = ap (list_all is_plain_field) (cells_members f.branch.fields) ∙ first_plain S q.arms (tree_at d.trees right) q.chosen

      pub other_on : (e : Tree) → e ≡ match_test d.task P S → b ≡ false → AreOtherConstructors d.task e
      other_on e m n = record {
        one = q.chosen.branch.symbol;
        two = f.branch.symbol;
        one_types = q.chosen.branch.types;
        one_args = cells q.chosen.args;
        one_type = q.chosen.branch.type;
        two_types = f.branch.types;
        two_args = cells (fields d.task (constructor_projections d.task f.branch.symbol) f.branch.types (Three (HFun q.chosen.branch.symbol) q.chosen.branch.types (cells q.chosen.args) q.chosen.branch.type));
        two_type = result_at (symbol_or d.task.symbols f.branch.symbol).result f.branch.types;
        is = m ∙ ap (λ (z : Tree). match_test d.task z S) (pattern_is S q.arms (tree_at d.trees right) q.chosen P A R q.are) ∙ ap (match_test d.task (branch_pattern f.branch)) q.chosen.is
            ∙ plain_test d.task f.branch.symbol f.branch.types (cells f.branch.fields) f.branch.type (Three (HFun q.chosen.branch.symbol) q.chosen.branch.types (cells q.chosen.args) q.chosen.branch.type) fields_plain first_typed;
        one_made = chosen_constructor d.task [] q.chosen.branch.symbol q.chosen.branches q.chosen.branch arms_typed q.chosen.chosen;
        two_made = first_typed.1.0;
        differ = numbers_differ q.chosen.branch.symbol f.branch.symbol (sym tested ∙ n);
      }
