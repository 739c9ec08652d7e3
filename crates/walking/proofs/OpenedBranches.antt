-- The first branch of a `match` at an environment: its pattern's test, the terms for the pattern's variables, and its body at these.
use Rattle.std.proofs.Common.{◌≡◌, ℕ, ◌+◌, ◌≤◌, inl, List, [], ◌∷◌, ◌++◌, length, All, refl, sym, ap, subst, ◌∙◌, arith}
use Rattle.std.proofs.lemmas.List.{map-append}
use Rattle.std.proofs.lemmas.List.Elements.{All-append, All-cons, All-nil}
use Rattle.trees.specs.declared.TermId.{TermId}
use Rattle.trees.specs.declared.Sort.TheVariants.{Term}
use Rattle.trees.specs.Tree.{Tree, Two, HCase, HCell, HArm, above_params, pat_vars}
use Rattle.trees.specs.Node.{tree_at, trees_at, Holds}
use Rattle.trees.specs.Facts.{Each}
use Rattle.trees.specs.Binding.{change, instantiating_many, inst_many}
use Rattle.trees.specs.binders.Visits.{HoldTerms}
use Rattle.trees.specs.Sorts.{WellSorted, sort_of, type_of}
use Rattle.tasks.specs.Task.{TaskTree}
use Rattle.tasks.specs.Vocabulary.{of_task}
use Rattle.tasks.specs.Typing.{TypedUnder, pattern_types}
use Rattle.tasks.specs.Valid.{IsGround, IsGroundFormula, IsValid}
use Rattle.tasks.specs.MatchTests.{bind}
use Rattle.tasks.specs.MatchTests.{test as match_test}
use Rattle.tasks.proofs.Closing.{typed_sorted}
use Rattle.congruence.specs.tasks.typed_trees.instances.Instances.{AreFor}
use Rattle.evidence.specs.Drafts.{DraftTree, Extends, IsFormulaAt}
use Rattle.images.specs.Open.{IsAt}
use Rattle.images.specs.PatternTerms.{IsTypedPattern, HasPartsOf, HasOfBoth}
use Rattle.images.proofs.PatternLaws.{matches_typed, matches_closed, matches_parts}
use Rattle.images.proofs.Environments.{at_first, at_second}
use Rattle.congruence.specs.Alike.{IsClosedAt, ArePair}
use Rattle.evidence.proofs.Formulas.{formula_later}
use Rattle.congruence.proofs.Later.{held_later, tree_later, closed_later, pair_later}
use Rattle.walking.proofs.PlacesLater.{all_later, trees_later, place_later}
use Rattle.walking.specs.declared.matching.OpenedBranch.{OpenedBranch}
use Rattle.walking.specs.Opened.{IsOpenedBranch}
use Rattle.walking.specs.Places.{types_for, IsInstanceAt}
use Rattle.walking.proofs.Places.{place_closed, place_sort}
use Rattle.walking.proofs.EqualPlaces.{place_type}
use Rattle.walking.proofs.Binders.{place_above}
use Rattle.walking.proofs.Branches.{arm_pattern, arm_body, types_joined, types_same, case_sort, case_type}

each_all : (P : Tree → Type 0) (es : List Tree) → Each P es → All P es
each_all P [] h = All-nil P
each_all P (e ∷ es) h = All-cons P e es h.0 (each_all P es h.1)

each_weaker : (P Q : Tree → Type 0) → ((e : Tree) → P e → Q e) → (es : List Tree) → Each P es → Each Q es
each_weaker P Q f [] h = tt
each_weaker P Q f (e ∷ es) h = (f e h.0, each_weaker P Q f es h.1)

module _ (d : DraftTree) (env : List TermId) (e left : TermId) (n : ℕ) (p : IsInstanceAt d env e left n) (v : IsValid d.task) (scrutinee pattern body others by pattern_left under others_left : TermId)
    (qe : tree_at d.trees e ≡ Two HCase (tree_at d.trees scrutinee) (Two HCell (Two HArm (tree_at d.trees pattern) (tree_at d.trees body)) (tree_at d.trees others)))
    (ql : tree_at d.trees left ≡ Two HCase (tree_at d.trees by) (Two HCell (Two HArm (tree_at d.trees pattern_left) (tree_at d.trees under)) (tree_at d.trees others_left))) where
  abbrev E : List Tree
  E = trees_at d.trees env

  abbrev P : Tree
  P = tree_at d.trees pattern

  abbrev S : Tree
  S = tree_at d.trees by

  abbrev opened_arms : Tree
  opened_arms = Two HCell (Two HArm P (tree_at d.trees body)) (tree_at d.trees others)

  abbrev left_arms : Tree
  left_arms = Two HCell (Two HArm (tree_at d.trees pattern_left) (tree_at d.trees under)) (tree_at d.trees others_left)

  whole_at : IsAt d.task (types_for E) E (Two HCase (tree_at d.trees scrutinee) opened_arms) (tree_at d.trees left) n
  whole_at = subst (λ (z : Tree). IsAt d.task (types_for E) E z (tree_at d.trees left) n) qe p.at

  arms_at : IsAt d.task (types_for E) E opened_arms left_arms n
  arms_at = at_second d.task (types_for E) E n HCase (tree_at d.trees scrutinee) opened_arms (tree_at d.trees left) S left_arms refl refl whole_at ql

  arm_at : IsAt d.task (types_for E) E (Two HArm P (tree_at d.trees body)) (Two HArm (tree_at d.trees pattern_left) (tree_at d.trees under)) n
  arm_at = at_first d.task (types_for E) E n HCell (Two HArm P (tree_at d.trees body)) (tree_at d.trees others) left_arms (Two HArm (tree_at d.trees pattern_left) (tree_at d.trees under)) (tree_at d.trees others_left) refl refl arms_at refl

  pub others_at : IsAt d.task (types_for E) E (tree_at d.trees others) (tree_at d.trees others_left) n
  others_at = at_second d.task (types_for E) E n HCell (Two HArm P (tree_at d.trees body)) (tree_at d.trees others) left_arms (Two HArm (tree_at d.trees pattern_left) (tree_at d.trees under)) (tree_at d.trees others_left) refl refl arms_at refl

  pub pattern_is : tree_at d.trees pattern_left ≡ P
  pattern_is = arm_pattern d.task (types_for E) E n P (tree_at d.trees body) (tree_at d.trees pattern_left) (tree_at d.trees under) arm_at

  pub opened_left : tree_at d.trees left ≡ Two HCase S (Two HCell (Two HArm P (tree_at d.trees under)) (tree_at d.trees others_left))
  opened_left = ql ∙ ap (λ (z : Tree). Two HCase S (Two HCell (Two HArm z (tree_at d.trees under)) (tree_at d.trees others_left))) pattern_is

  left_typed : TypedUnder (of_task d.task) [] (Two HCase S (Two HCell (Two HArm P (tree_at d.trees under)) (tree_at d.trees others_left)))
  left_typed = subst (TypedUnder (of_task d.task) []) opened_left (place_closed d env e left n p).ground.typed

  left_ground : IsGround (Two HCase S (Two HCell (Two HArm P (tree_at d.trees under)) (tree_at d.trees others_left)))
  left_ground = subst IsGround opened_left (place_closed d env e left n p).ground.ground

  left_above : above_params (Two HCase S (Two HCell (Two HArm P (tree_at d.trees under)) (tree_at d.trees others_left))) ≤ n
  left_above = subst (λ (z : Tree). above_params z ≤ n) opened_left (place_above d env e left n p)

  pub typed_pattern : IsTypedPattern d.task [] P
  typed_pattern = record { sort = left_typed.3.2.0.0.0; typed = left_typed.3.2.2 }

  pub by_term : sort_of S ≡ Term
  by_term = left_typed.0.0.0

  pub by_closed : Holds d.trees by → IsClosedAt d by
  by_closed h = record { held = h; ground = record { sort = inl by_term; typed = left_typed.2; ground = left_ground.0 } }

  pub under_sorted : WellSorted (tree_at d.trees under)
  under_sorted = typed_sorted (of_task d.task) (pattern_types P ++ []) (tree_at d.trees under) left_typed.3.2.3

  by_type : type_of S ≡ type_of P
  by_type = sym left_typed.1.0.0

  opened_parts : HasPartsOf d.task P S
  opened_parts = matches_parts d.task v [] P S typed_pattern

  pub terms_for : AreFor (of_task d.task) (pattern_types P) (bind d.task P S)
  terms_for = matches_closed d.task v P S typed_pattern by_term left_typed.2 by_type

  terms_ground : All IsGround (bind d.task P S)
  terms_ground = each_all IsGround (bind d.task P S) (each_weaker (HasOfBoth P S) IsGround (λ z h. h.variables 0 left_ground.1.0.0 left_ground.0) (bind d.task P S) opened_parts.terms)

  terms_above : All (λ a. above_params a ≤ n) (bind d.task P S)
  terms_above =
      let o : above_params S ≤ n = let l = left_above in omega (arith, l) in
      each_all (λ a. above_params a ≤ n) (bind d.task P S) (each_weaker (HasOfBoth P S) (λ a. above_params a ≤ n) (λ z h. h.above n o) (bind d.task P S) opened_parts.terms)

  -- the test is a formula
  pub test_formula : (id : TermId) → Holds d.trees id → tree_at d.trees id ≡ match_test d.task P S → IsFormulaAt d id
  test_formula id h q =
      let m = matches_typed d.task v [] P S typed_pattern by_term left_typed.2 by_type in
      let g : IsGroundFormula d.task (match_test d.task P S) = record { sort = m.sort; typed = m.formula; ground = opened_parts.formula.variables 0 left_ground.1.0.0 left_ground.0 } in
      record { held = h; ground = subst (IsGroundFormula d.task) (sym q) g }

  -- the body at the terms
  module _ (terms : List TermId) (inner : TermId) (ht : All (Holds d.trees) terms) (qt : trees_at d.trees terms ≡ bind d.task P S) (hb : Holds d.trees body) (hi : Holds d.trees inner) (qi : tree_at d.trees inner ≡ inst_many (tree_at d.trees under) (trees_at d.trees terms)) where
    pub longer_trees : trees_at d.trees (env ++ terms) ≡ E ++ bind d.task P S
    longer_trees = map-append (tree_at d.trees) env terms ∙ ap (λ (z : List Tree). E ++ z) qt

    pub longer_types : types_for (trees_at d.trees (env ++ terms)) ≡ pattern_types P ++ types_for E
    longer_types = ap types_for longer_trees ∙ types_joined E (bind d.task P S) ∙ ap (λ (z : List Tree). z ++ types_for E) (types_same (of_task d.task) (pattern_types P) (bind d.task P S) terms_for)

    body_at : IsAt d.task (pattern_types P ++ types_for E) (E ++ bind d.task P S) (tree_at d.trees body) (tree_at d.trees inner) n
    body_at =
        subst (λ (z : Tree). IsAt d.task (pattern_types P ++ types_for E) (E ++ bind d.task P S) (tree_at d.trees body) z n) (sym (qi ∙ ap (inst_many (tree_at d.trees under)) qt))
        (arm_body d.task (types_for E) E n P (tree_at d.trees body) (tree_at d.trees pattern_left) (tree_at d.trees under) arm_at (bind d.task P S) terms_for terms_ground terms_above)

    pub body_place : IsInstanceAt d (env ++ terms) body inner n
    body_place = record {
      env_held = All-append (Holds d.trees) env terms p.env_held ht;
      open_held = hb;
      left_held = hi;
      sort = arm_at.shape.typed.0.0.1;
      own = let o : above_params (Two HCase (tree_at d.trees scrutinee) opened_arms) ≤ length d.task.params = subst (λ (z : Tree). above_params z ≤ length d.task.params) qe p.own in omega (arith, o);
      order = p.order;
      at = subst (λ (z : List Tree). IsAt d.task z (trees_at d.trees (env ++ terms)) (tree_at d.trees body) (tree_at d.trees inner) n) (sym longer_types)
          (subst (λ (z : List Tree). IsAt d.task (pattern_types P ++ types_for E) z (tree_at d.trees body) (tree_at d.trees inner) n) (sym longer_trees) body_at);
    }

    pub inner_pair : ArePair d left inner
    inner_pair =
        let q = body_place in
        let f = arm_at.shape.typed.0.0.1 in
        record {
          left = place_closed d env e left n p;
          right = place_closed d (env ++ terms) body inner n q;
          sort = place_sort d (env ++ terms) body inner n q ∙ sym (case_sort (tree_at d.trees scrutinee) P (tree_at d.trees body) (tree_at d.trees others) f) ∙ ap sort_of (sym qe) ∙ sym (place_sort d env e left n p);
          type = place_type d (env ++ terms) body inner n q ∙ sym (case_type (tree_at d.trees scrutinee) P (tree_at d.trees body) (tree_at d.trees others) f) ∙ ap type_of (sym qe) ∙ sym (place_type d env e left n p);
        }

-- all of it
pub opened_branch : (d : DraftTree) (env : List TermId) (e left : TermId) (n : ℕ) (p : IsInstanceAt d env e left n) (v : IsValid d.task) (scrutinee pattern body others : TermId) (o : OpenedBranch) (pattern_left : TermId)
    (qe : tree_at d.trees e ≡ Two HCase (tree_at d.trees scrutinee) (Two HCell (Two HArm (tree_at d.trees pattern) (tree_at d.trees body)) (tree_at d.trees others)))
    (ql : tree_at d.trees left ≡ Two HCase (tree_at d.trees o.by) (Two HCell (Two HArm (tree_at d.trees pattern_left) (tree_at d.trees o.under)) (tree_at d.trees o.others)))
    → Holds d.trees body → Holds d.trees o.by → Holds d.trees o.under → Holds d.trees o.others → Holds d.trees o.test → tree_at d.trees o.test ≡ match_test d.task (tree_at d.trees pattern) (tree_at d.trees o.by)
    → All (Holds d.trees) o.terms.items → trees_at d.trees o.terms.items ≡ bind d.task (tree_at d.trees pattern) (tree_at d.trees o.by) → Holds d.trees o.inner → tree_at d.trees o.inner ≡ inst_many (tree_at d.trees o.under) (trees_at d.trees o.terms.items)
    → IsOpenedBranch d env left pattern body n o
opened_branch d env e left n p v scrutinee pattern body others o pattern_left qe ql hb hs hu ho ht et hts ets hi ei = record {
  left_is = opened_left d env e left n p v scrutinee pattern body others o.by pattern_left o.under o.others qe ql;
  by = by_closed d env e left n p v scrutinee pattern body others o.by pattern_left o.under o.others qe ql hs;
  under_held = hu;
  others_held = ho;
  test = test_formula d env e left n p v scrutinee pattern body others o.by pattern_left o.under o.others qe ql o.test ht et;
  test_is = et;
  terms_held = hts;
  terms = ets;
  inner_is = ei;
  pair = inner_pair d env e left n p v scrutinee pattern body others o.by pattern_left o.under o.others qe ql o.terms.items o.inner hts ets hb hi ei;
  place = body_place d env e left n p v scrutinee pattern body others o.by pattern_left o.under o.others qe ql o.terms.items o.inner hts ets hb hi ei;
}

-- terms that are held
pub terms_held_all : (s : List Tree) (ids : List TermId) → HoldTerms s ids → All (Holds s) ids
terms_held_all s [] h = All-nil (Holds s)
terms_held_all s (i ∷ ids) h = All-cons (Holds s) i ids h.0.0 (terms_held_all s ids h.1)

-- a `match` in a later draft
pub branch_later : (d d1 : DraftTree) (x : Extends d d1) (id a p b r : TermId) → Holds d.trees id → Holds d.trees a → Holds d.trees p → Holds d.trees b → Holds d.trees r
    → tree_at d.trees id ≡ Two HCase (tree_at d.trees a) (Two HCell (Two HArm (tree_at d.trees p) (tree_at d.trees b)) (tree_at d.trees r)) → tree_at d1.trees id ≡ Two HCase (tree_at d1.trees a) (Two HCell (Two HArm (tree_at d1.trees p) (tree_at d1.trees b)) (tree_at d1.trees r))
branch_later d d1 x id a p b r hi ha hp hb hr q = tree_later d d1 x id hi ∙ q ∙ sym (cc (tree_later d d1 x a ha, tree_later d d1 x p hp, tree_later d d1 x b hb, tree_later d d1 x r hr))

-- an instance of a `match` with a branch first is one
pub case_left : (d : DraftTree) (env : List TermId) (e left : TermId) (n : ℕ) (T P A R : Tree) → IsInstanceAt d env e left n → tree_at d.trees e ≡ Two HCase T (Two HCell (Two HArm P A) R)
    → tree_at d.trees left ≡ Two HCase (inst_many T (trees_at d.trees env)) (Two HCell (Two HArm (inst_many P (trees_at d.trees env)) (change (instantiating_many (trees_at d.trees env)) (0 + pat_vars P) A)) (inst_many R (trees_at d.trees env)))
case_left d env e left n T P A R p q = p.at.is ∙ ap (λ (z : Tree). inst_many z (trees_at d.trees env)) q

pub case_named : (l s y a r : Tree) → l ≡ Two HCase s y → l ≡ Two HCase a r → y ≡ r
case_named l s y a r p q = let e : Two HCase s y ≡ Two HCase a r = sym p ∙ q in cc (e)

-- ---- in a later draft
pub bind_later : (d d1 : DraftTree) (x : Extends d d1) (pattern by : TermId) → Holds d.trees pattern → Holds d.trees by → bind d1.task (tree_at d1.trees pattern) (tree_at d1.trees by) ≡ bind d.task (tree_at d.trees pattern) (tree_at d.trees by)
bind_later d d1 x pattern by hp hs =
    ap (λ (t : TaskTree). bind t (tree_at d1.trees pattern) (tree_at d1.trees by)) x.task ∙ ap (λ (z : Tree). bind d.task z (tree_at d1.trees by)) (tree_later d d1 x pattern hp) ∙ ap (bind d.task (tree_at d.trees pattern)) (tree_later d d1 x by hs)

pub test_later : (d d1 : DraftTree) (x : Extends d d1) (pattern by : TermId) → Holds d.trees pattern → Holds d.trees by → match_test d1.task (tree_at d1.trees pattern) (tree_at d1.trees by) ≡ match_test d.task (tree_at d.trees pattern) (tree_at d.trees by)
test_later d d1 x pattern by hp hs =
    ap (λ (t : TaskTree). match_test t (tree_at d1.trees pattern) (tree_at d1.trees by)) x.task ∙ ap (λ (z : Tree). match_test d.task z (tree_at d1.trees by)) (tree_later d d1 x pattern hp) ∙ ap (match_test d.task (tree_at d.trees pattern)) (tree_later d d1 x by hs)

pub opened_later : (d d1 : DraftTree) (x : Extends d d1) (env : List TermId) (left pattern body : TermId) (n : ℕ) (o : OpenedBranch) → Holds d.trees pattern → IsOpenedBranch d env left pattern body n o → IsOpenedBranch d1 env left pattern body n o
opened_later d d1 x env left pattern body n o hp w = record {
  left_is = branch_later d d1 x left o.by pattern o.under o.others w.pair.left.held w.by.held hp w.under_held w.others_held w.left_is;
  by = closed_later d d1 x o.by w.by;
  under_held = held_later d d1 x o.under w.under_held;
  others_held = held_later d d1 x o.others w.others_held;
  test = formula_later d d1 x o.test w.test;
  test_is = tree_later d d1 x o.test w.test.held ∙ w.test_is ∙ sym (test_later d d1 x pattern o.by hp w.by.held);
  terms_held = all_later d d1 x o.terms.items w.terms_held;
  terms = trees_later d d1 x o.terms.items w.terms_held ∙ w.terms ∙ sym (bind_later d d1 x pattern o.by hp w.by.held);
  inner_is = tree_later d d1 x o.inner w.pair.right.held ∙ w.inner_is ∙ sym (ap (λ (z : Tree). inst_many z (trees_at d1.trees o.terms.items)) (tree_later d d1 x o.under w.under_held) ∙ ap (inst_many (tree_at d.trees o.under)) (trees_later d d1 x o.terms.items w.terms_held));
  pair = pair_later d d1 x left o.inner w.pair;
  place = place_later d d1 x (env ++ o.terms.items) body o.inner n w.place;
}
