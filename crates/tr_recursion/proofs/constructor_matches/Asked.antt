-- The first branch of a closed `match` in drafts that grow, with the `match` of the other branches.
use Rattle.std.proofs.Common.{◌≡◌, List, [], sym, ap, subst, ◌∙◌}
use Rattle.trees.specs.declared.TermId.{TermId}
use Rattle.trees.specs.declared.Sort.TheVariants.{Term}
use Rattle.trees.specs.Tree.{Tree, Leaf, Two, HCase, HCell, HArm, HEnd, head_of}
use Rattle.trees.specs.Node.{tree_at, trees_at, Holds}
use Rattle.trees.specs.Binding.{inst_many}
use Rattle.trees.specs.Sorts.{Fits, sort_of, type_of}
use Rattle.tasks.specs.Task.{TaskTree}
use Rattle.tasks.specs.Valid.{IsGroundFormula, IsValid}
use Rattle.tasks.specs.MatchTests.{bind}
use Rattle.tasks.specs.MatchTests.{test as match_test}
use Rattle.congruence.specs.kernel.Right.{IsGroundExpression}
use Rattle.tr_inline.specs.inlining.images.PatternTerms.{IsTypedPattern}
use Rattle.evidence.specs.Drafts.{DraftTree, Extends}
use Rattle.evidence.proofs.Formulas.{formula_later}
use Rattle.congruence.specs.declared.conditionals.Conditional.{Conditional}
use Rattle.congruence.specs.Alike.{ArePair}
use Rattle.congruence.specs.Conditionals.{IsConditional, IsMatchAt, IsLastBranch}
use Rattle.congruence.proofs.Later.{held_later, tree_later, closed_later, pair_later}
use Rattle.tr_recursion.specs.declared.constructor_matches.branches.FirstBranch.{FirstBranch}
use Rattle.tr_recursion.specs.declared.constructor_matches.branches.OpenedBranch.{OpenedBranch}
use Rattle.tr_recursion.specs.constructor_matches.Asked.{IsFirstBranch, IsFirstOpened, IsHere}
use Rattle.tr_recursion.proofs.constructor_matches.MatchParts.{typed_pattern, asked_term, test_ground, inner_sort, inner_type, inner_ground, rest_fits, rest_sort, rest_type, rest_ground}

-- ---- in a later draft
module _ (d d1 : DraftTree) (x : Extends d d1) (whole scrutinee : TermId) (first : FirstBranch) where
  pub asked_later : IsFirstBranch d whole scrutinee first → IsFirstBranch d1 whole scrutinee first
  asked_later q = record {
    closed = closed_later d d1 x whole q.closed;
    is = tree_later d d1 x whole q.closed.held ∙ q.is
        ∙ cc (sym (tree_later d d1 x scrutinee q.scrutinee_held), sym (tree_later d d1 x first.pattern q.pattern_held), sym (tree_later d d1 x first.body q.body_held), sym (tree_later d d1 x first.others q.others_held));
    scrutinee_held = held_later d d1 x scrutinee q.scrutinee_held;
    pattern_held = held_later d d1 x first.pattern q.pattern_held;
    body_held = held_later d d1 x first.body q.body_held;
    others_held = held_later d d1 x first.others q.others_held;
  }

  test_same : (q : IsFirstBranch d whole scrutinee first) (e : Tree) → e ≡ match_test d.task (tree_at d.trees first.pattern) (tree_at d.trees scrutinee) → e ≡ match_test d1.task (tree_at d1.trees first.pattern) (tree_at d1.trees scrutinee)
  test_same q e h =
      h ∙ ap (λ (t : TaskTree). match_test t (tree_at d.trees first.pattern) (tree_at d.trees scrutinee)) (sym x.task)
      ∙ ap (λ (z : Tree). match_test d1.task z (tree_at d.trees scrutinee)) (sym (tree_later d d1 x first.pattern q.pattern_held)) ∙ ap (match_test d1.task (tree_at d1.trees first.pattern)) (sym (tree_later d d1 x scrutinee q.scrutinee_held))

  pub bind_same : (q : IsFirstBranch d whole scrutinee first) → bind d.task (tree_at d.trees first.pattern) (tree_at d.trees scrutinee) ≡ bind d1.task (tree_at d1.trees first.pattern) (tree_at d1.trees scrutinee)
  bind_same q =
      ap (λ (t : TaskTree). bind t (tree_at d.trees first.pattern) (tree_at d.trees scrutinee)) (sym x.task)
      ∙ ap (λ (z : Tree). bind d1.task z (tree_at d.trees scrutinee)) (sym (tree_later d d1 x first.pattern q.pattern_held)) ∙ ap (bind d1.task (tree_at d1.trees first.pattern)) (sym (tree_later d d1 x scrutinee q.scrutinee_held))

  inner_same : (q : IsFirstBranch d whole scrutinee first) (e : Tree) → e ≡ inst_many (tree_at d.trees first.body) (bind d.task (tree_at d.trees first.pattern) (tree_at d.trees scrutinee)) → e ≡ inst_many (tree_at d1.trees first.body) (bind d1.task (tree_at d1.trees first.pattern) (tree_at d1.trees scrutinee))
  inner_same q e h = h ∙ ap (inst_many (tree_at d.trees first.body)) (bind_same q) ∙ ap (λ (z : Tree). inst_many z (bind d1.task (tree_at d1.trees first.pattern) (tree_at d1.trees scrutinee))) (sym (tree_later d d1 x first.body q.body_held))

  pub opened_later : (o : OpenedBranch) → IsFirstOpened d whole scrutinee first o → IsFirstOpened d1 whole scrutinee first o
  opened_later o q = record {
    asked = asked_later q.asked;
    test = formula_later d d1 x o.test q.test;
    test_is = test_same q.asked (tree_at d1.trees o.test) (tree_later d d1 x o.test q.test.held ∙ q.test_is);
    inner = pair_later d d1 x whole o.inner q.inner;
    inner_is = inner_same q.asked (tree_at d1.trees o.inner) (tree_later d d1 x o.inner q.inner.right.held ∙ q.inner_is);
  }

  pub here_later : (q : IsFirstBranch d whole scrutinee first) (right : TermId) → Holds d.trees right → IsHere d scrutinee first (tree_at d.trees right) → IsHere d1 scrutinee first (tree_at d1.trees right)
  here_later q right r h = record {
    branch = h.branch;
    args = h.args;
    application = tree_later d d1 x scrutinee q.scrutinee_held ∙ h.application;
    pattern = tree_later d d1 x first.pattern q.pattern_held ∙ h.pattern;
    body = tree_later d d1 x first.body q.body_held ∙ h.body;
    plain = h.plain;
    gives = tree_later d d1 x right r ∙ h.gives;
  }

-- the last branch
pub last_is : (d : DraftTree) (whole scrutinee : TermId) (first : FirstBranch) (o : OpenedBranch) → IsFirstOpened d whole scrutinee first o → tree_at d.trees first.others ≡ Leaf HEnd → IsLastBranch d.task (tree_at d.trees whole) (tree_at d.trees o.inner)
last_is d whole scrutinee first o q n = record {
  scrutinee = tree_at d.trees scrutinee;
  pattern = tree_at d.trees first.pattern;
  body = tree_at d.trees first.body;
  is = q.asked.is ∙ ap (λ (z : Tree). Two HCase (tree_at d.trees scrutinee) (Two HCell (Two HArm (tree_at d.trees first.pattern) (tree_at d.trees first.body)) z)) n;
  first = q.inner_is;
}

-- ---- the branch opened
module _ (d : DraftTree) (valid : IsValid d.task) (whole scrutinee : TermId) (first : FirstBranch) (q : IsFirstBranch d whole scrutinee first) where
  abbrev S : Tree
  S = tree_at d.trees scrutinee

  abbrev P : Tree
  P = tree_at d.trees first.pattern

  abbrev A : Tree
  A = tree_at d.trees first.body

  abbrev R : Tree
  R = tree_at d.trees first.others

  pub ground : IsGroundExpression d.task (Two HCase S (Two HCell (Two HArm P A) R))
  ground = subst (IsGroundExpression d.task) q.is q.closed.ground

  pub pattern_typed : IsTypedPattern d.task [] P
  pattern_typed = typed_pattern d.task valid S P A R ground

  pub scrutinee_term : sort_of S ≡ Term
  scrutinee_term = asked_term d.task valid S P A R ground

  pub opened_made : (d1 d2 : DraftTree) (x : Extends d d1) (y : Extends d1 d2) (xy : Extends d d2) (test inner : TermId) (ht : Holds d1.trees test) (qt : tree_at d1.trees test ≡ match_test d.task P S) (terms : List TermId) (qs : trees_at d1.trees terms ≡ bind d.task P S)
      (hi : Holds d2.trees inner) (qi : tree_at d2.trees inner ≡ inst_many (tree_at d1.trees first.body) (trees_at d1.trees terms)) → IsFirstOpened d2 whole scrutinee first (record { test = test; inner = inner })
  opened_made d1 d2 x y xy test inner ht qt terms qs hi qi =
      let t2 : tree_at d2.trees test ≡ match_test d.task P S = tree_later d1 d2 y test ht ∙ qt in
      let i2 : tree_at d2.trees inner ≡ inst_many A (bind d.task P S) = qi ∙ ap (λ (z : Tree). inst_many z (trees_at d1.trees terms)) (tree_later d d1 x first.body q.body_held) ∙ ap (inst_many A) qs in
      record {
        asked = asked_later d d2 xy whole scrutinee first q;
        test = record {
          held = held_later d1 d2 y test ht;
          ground = subst (λ (t : TaskTree). IsGroundFormula t (tree_at d2.trees test)) (sym xy.task) (subst (IsGroundFormula d.task) (sym t2) (test_ground d.task valid S P A R ground));
        };
        test_is = test_same d d2 xy whole scrutinee first q (tree_at d2.trees test) t2;
        inner = record {
          left = closed_later d d2 xy whole q.closed;
          right = record { held = hi; ground = subst (λ (t : TaskTree). IsGroundExpression t (tree_at d2.trees inner)) (sym xy.task) (subst (IsGroundExpression d.task) (sym i2) (inner_ground d.task valid S P A R ground)) };
          sort = ap sort_of i2 ∙ inner_sort d.task valid S P A R ground ∙ ap sort_of (sym q.is) ∙ ap sort_of (sym (tree_later d d2 xy whole q.closed.held));
          type = ap type_of i2 ∙ inner_type d.task valid S P A R ground ∙ ap type_of (sym q.is) ∙ ap type_of (sym (tree_later d d2 xy whole q.closed.held));
        };
        inner_is = inner_same d d2 xy whole scrutinee first q (tree_at d2.trees inner) i2;
      }

  -- the `match` with the other branches
  module _ (p a o : Tree) (e : R ≡ Two HCell (Two HArm p a) o) where
    pub fits : Fits (Two HCase S R)
    fits = rest_fits d.task valid S P A R ground p a o e

    module _ (d1 : DraftTree) (x : Extends d d1) (rest : TermId) (hr : Holds d1.trees rest) (qr : tree_at d1.trees rest ≡ Two HCase S R) where
      pub rest_pair : ArePair d1 whole rest
      rest_pair = record {
        left = closed_later d d1 x whole q.closed;
        right = record { held = hr; ground = subst (λ (t : TaskTree). IsGroundExpression t (tree_at d1.trees rest)) (sym x.task) (subst (IsGroundExpression d.task) (sym qr) (rest_ground d.task valid S P A R ground p a o e)) };
        sort = ap sort_of qr ∙ rest_sort d.task valid S P A R ground p a o e ∙ ap sort_of (sym q.is) ∙ ap sort_of (sym (tree_later d d1 x whole q.closed.held));
        type = ap type_of qr ∙ rest_type d.task valid S P A R ground p a o e ∙ ap type_of (sym q.is) ∙ ap type_of (sym (tree_later d d1 x whole q.closed.held));
      }

      module _ (b : OpenedBranch) (n : IsFirstOpened d whole scrutinee first b) where
        abbrev k : Conditional
        k = record { whole = whole; condition = b.test; then_part = b.inner; else_part = rest }

        later : IsFirstOpened d1 whole scrutinee first b
        later = opened_later d d1 x whole scrutinee first b n

        pub conditional_parts : IsConditional d1 k
        conditional_parts = record { whole = later.asked.closed; condition = later.test; then_part = later.inner; else_part = rest_pair }

        pub conditional_match : IsMatchAt d1 k
        conditional_match = record {
          scrutinee = tree_at d1.trees scrutinee;
          pattern = tree_at d1.trees first.pattern;
          body = tree_at d1.trees first.body;
          rest = tree_at d1.trees first.others;
          is = later.asked.is;
          more = ap head_of (tree_later d d1 x first.others q.others_held ∙ e);
          condition = later.test_is;
          first = later.inner_is;
          others = qr ∙ cc (sym (tree_later d d1 x scrutinee q.scrutinee_held), sym (tree_later d d1 x first.others q.others_held));
        }
