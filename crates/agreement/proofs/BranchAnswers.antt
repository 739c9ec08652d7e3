-- Two `match`es with the same patterns, branch after branch: what links of their tests and bodies give.
use Rattle.std.proofs.Common.{◌≡◌, ◌⊎◌, inl, inr, List, [], ◌∷◌, All, refl, sym, ap, subst, ◌∙◌}
use Rattle.std.proofs.lemmas.List.Elements.{All-head, All-tail}
use Rattle.trees.specs.declared.TermId.{TermId}
use Rattle.trees.specs.Tree.{Tree, Leaf, Two, HEnd, HCase, HCell, HArm, head_of}
use Rattle.trees.specs.Node.{tree_at, Holds}
use Rattle.trees.specs.Binding.{inst_many}
use Rattle.trees.specs.Sorts.{sort_of, type_of}
use Rattle.tasks.specs.MatchTests.{test, bind}
use Rattle.tasks.specs.Valid.{IsGroundFormula, IsValid}
use Rattle.congruence.specs.kernel.Right.{IsGroundExpression}
use Rattle.evidence.specs.Drafts.{DraftTree, Extends, IsFormulaAt}
use Rattle.congruence.specs.declared.alike.AlikeBy.{AlikeBy}
use Rattle.congruence.specs.Alike.{IsClosedAt, ArePair, Shows}
use Rattle.congruence.specs.Conditionals.{IsMatchCases}
use Rattle.congruence.proofs.Later.{held_later, tree_later, closed_later, pair_later, shows_at}
use Rattle.congruence.proofs.CaseParts.{parts_pair}
use Rattle.evidence.proofs.Formulas.{formula_later}
use Rattle.agreement.specs.declared.questions.Link.{Link}
use Rattle.agreement.specs.declared.branches.CaseAt.{CaseAt}
use Rattle.agreement.specs.Agreement.{asked_first, ArePairedBranches}
use Rattle.agreement.specs.Questions.{IsShownLink, links_at}
use Rattle.agreement.specs.Branches.{IsCaseAt, HasMoreBranches, HasTwoBranches, IsRestCase, AreLinkedCases, HasLastBodies, HasMore}
use Rattle.agreement.proofs.PartLists.{Pairs}
use Rattle.agreement.proofs.Shapes.{first_pairs, no_first, sides_same}
use Rattle.agreement.proofs.BranchPairs.{FirstBranches, first_branches, ends_or_more, asked_more}
use Rattle.agreement.proofs.QuestionsLater.{links_later, same_links}
use Rattle.agreement.proofs.CaseTrees as closed

second_cell : (a b x y : Tree) → Two HCell a b ≡ Two HCell x y → b ≡ y
second_cell a b x y e = cc

abbrev link_pair : List Tree → Link → Tree × Tree
link_pair s w = (tree_at s w.left, tree_at s w.right)

-- ---- the first of the branches
module _ (d : DraftTree) (left right : CaseAt) (ls : List Link) (k : AreLinkedCases d left right ls) where
  abbrev S : Tree
  S = tree_at d.trees left.by

  abbrev U : Tree
  U = tree_at d.trees right.by

  left_more : head_of (tree_at d.trees left.arms) ≡ HCell
  left_more = let x : IsGroundExpression d.task (Two HCase S (tree_at d.trees left.arms)) = subst (IsGroundExpression d.task) k.left_case.is k.left_case.closed.ground in x.typed.0.1

  firsts : FirstBranches d.task S U (tree_at d.trees left.arms) (tree_at d.trees right.arms) (links_at d.trees ls)
  firsts = first_branches d.task S U (tree_at d.trees left.arms) (tree_at d.trees right.arms) (links_at d.trees ls) left_more k.paired

  abbrev F : FirstBranches d.task S U (tree_at d.trees left.arms) (tree_at d.trees right.arms) (links_at d.trees ls)
  F = firsts

  more_is : (x y : Tree) → tree_at d.trees left.arms ≡ Two HCell x y → y ≡ F.more
  more_is x y e = second_cell x y (Two HArm F.pattern F.body) F.more (sym e ∙ F.left)

  rest_is : (x y : Tree) → tree_at d.trees right.arms ≡ Two HCell x y → y ≡ F.rest
  rest_is x y e = second_cell x y (Two HArm F.pattern F.other) F.rest (sym e ∙ F.right)

  -- there is a link
  some_by : ls ≡ [] → ((F.more ≡ Leaf HEnd) × ((F.rest ≡ Leaf HEnd) × (F.pairs ≡ []))) ⊎ ((i : Tree) × ((j : Tree) × (F.more ≡ Two HCell i j))) → ⊥
  some_by q (inl e) =
      let b : Tree × Tree = (inst_many F.body (bind d.task F.pattern S), inst_many F.other (bind d.task F.pattern U)) in
      let z : Pairs = b ∷ F.pairs in
      no_first b F.pairs (sym (sym (ap (links_at d.trees) q) ∙ F.is ∙ ap (λ (m : Tree). asked_first m (test d.task F.pattern S, test d.task F.pattern U) z) e.0))
  some_by q (inr h) =
      let x : Tree × Tree = (test d.task F.pattern S, test d.task F.pattern U) in
      let z : Pairs = (inst_many F.body (bind d.task F.pattern S), inst_many F.other (bind d.task F.pattern U)) ∷ F.pairs in
      no_first x z (sym (sym (ap (links_at d.trees) q) ∙ F.is ∙ asked_more F.more h.0 h.1.0 x z h.1.1))

  pub some_branch : ls ≡ [] → ⊥
  some_branch q = some_by q (ends_or_more d.task S U F.more F.rest F.pairs F.others)

  left_is : tree_at d.trees left.whole ≡ Two HCase S (Two HCell (Two HArm F.pattern F.body) F.more)
  left_is = k.left_case.is ∙ ap (λ (z : Tree). Two HCase S z) F.left

  right_is : tree_at d.trees right.whole ≡ Two HCase U (Two HCell (Two HArm F.pattern F.other) F.rest)
  right_is = k.right_case.is ∙ ap (λ (z : Tree). Two HCase U z) F.right

  left_ground : IsGroundExpression d.task (Two HCase S (Two HCell (Two HArm F.pattern F.body) F.more))
  left_ground = subst (IsGroundExpression d.task) left_is k.left_case.closed.ground

  right_ground : IsGroundExpression d.task (Two HCase U (Two HCell (Two HArm F.pattern F.other) F.rest))
  right_ground = subst (IsGroundExpression d.task) right_is k.right_case.closed.ground

  -- a body at the terms
  module _ (v : IsValid d.task) where
    left_pair : (id : TermId) → IsClosedAt d id → tree_at d.trees id ≡ inst_many F.body (bind d.task F.pattern S) → ArePair d left.whole id
    left_pair id c e = record {
      left = k.left_case.closed;
      right = c;
      sort = ap sort_of e ∙ closed.inner_sort d.task v S F.pattern F.body F.more left_ground ∙ sym (ap sort_of left_is);
      type = ap type_of e ∙ closed.inner_type d.task v S F.pattern F.body F.more left_ground ∙ sym (ap type_of left_is);
    }

    right_pair : (id : TermId) → IsClosedAt d id → tree_at d.trees id ≡ inst_many F.other (bind d.task F.pattern U) → ArePair d right.whole id
    right_pair id c e = record {
      left = k.right_case.closed;
      right = c;
      sort = ap sort_of e ∙ closed.inner_sort d.task v U F.pattern F.other F.rest right_ground ∙ sym (ap sort_of right_is);
      type = ap type_of e ∙ closed.inner_type d.task v U F.pattern F.other F.rest right_ground ∙ sym (ap type_of right_is);
    }

    left_test : (id : TermId) → Holds d.trees id → tree_at d.trees id ≡ test d.task F.pattern S → IsFormulaAt d id
    left_test id h e = record { held = h; ground = subst (IsGroundFormula d.task) (sym e) (closed.test_formula d.task v S F.pattern F.body F.more left_ground) }

    right_test : (id : TermId) → Holds d.trees id → tree_at d.trees id ≡ test d.task F.pattern U → IsFormulaAt d id
    right_test id h e = record { held = h; ground = subst (IsGroundFormula d.task) (sym e) (closed.test_formula d.task v U F.pattern F.other F.rest right_ground) }

    -- ---- where it is the last one
    module _ (w : Link) (q : ls ≡ w ∷ []) where
      abbrev only_bodies : Tree × Tree
      only_bodies = (inst_many F.body (bind d.task F.pattern S), inst_many F.other (bind d.task F.pattern U))

      abbrev only_tests : Tree × Tree
      only_tests = (test d.task F.pattern S, test d.task F.pattern U)

      only_is : link_pair d.trees w ∷ [] ≡ asked_first F.more only_tests (only_bodies ∷ F.pairs)
      only_is = sym (ap (links_at d.trees) q) ∙ F.is

      only_by : ((F.more ≡ Leaf HEnd) × ((F.rest ≡ Leaf HEnd) × (F.pairs ≡ []))) ⊎ ((i : Tree) × ((j : Tree) × (F.more ≡ Two HCell i j))) → (F.more ≡ Leaf HEnd) × ((F.rest ≡ Leaf HEnd) × (link_pair d.trees w ≡ only_bodies))
      only_by (inl e) = (e.0, (e.1.0, (first_pairs (link_pair d.trees w) only_bodies [] F.pairs (only_is ∙ ap (λ (z : Tree). asked_first z only_tests (only_bodies ∷ F.pairs)) e.0)).0))
      only_by (inr h) = let z = first_pairs (link_pair d.trees w) only_tests [] (only_bodies ∷ F.pairs) (only_is ∙ asked_more F.more h.0 h.1.0 only_tests (only_bodies ∷ F.pairs) h.1.1) in absurd (no_first only_bodies F.pairs (sym z.1))

      only_ends : (F.more ≡ Leaf HEnd) × ((F.rest ≡ Leaf HEnd) × (link_pair d.trees w ≡ only_bodies))
      only_ends = only_by (ends_or_more d.task S U F.more F.rest F.pairs F.others)

      pub has_last : HasLastBodies d left right w
      has_last =
          let i = All-head (IsShownLink d) w [] (subst (All (IsShownLink d)) q k.linked) in
          let o = only_ends in
          let s = sides_same (tree_at d.trees w.left) (tree_at d.trees w.right) (inst_many F.body (bind d.task F.pattern S)) (inst_many F.other (bind d.task F.pattern U)) o.1.1 in
          record {
            pair = k.pair;
            linked = i;
            left_pair = left_pair w.left i.pair.left s.0;
            right_pair = right_pair w.right i.pair.right s.1;
            left_is = record { scrutinee = S; pattern = F.pattern; body = F.body; is = left_is ∙ ap (λ (z : Tree). Two HCase S (Two HCell (Two HArm F.pattern F.body) z)) o.0; first = s.0 };
            right_is = record { scrutinee = U; pattern = F.pattern; body = F.other; is = right_is ∙ ap (λ (z : Tree). Two HCase U (Two HCell (Two HArm F.pattern F.other) z)) o.1.0; first = s.1 };
          }

    -- ---- where there are more
    module _ (w b : Link) (ws : List Link) (q : ls ≡ w ∷ b ∷ ws) where
      abbrev bodies : Tree × Tree
      bodies = (inst_many F.body (bind d.task F.pattern S), inst_many F.other (bind d.task F.pattern U))

      abbrev tests : Tree × Tree
      tests = (test d.task F.pattern S, test d.task F.pattern U)

      record More : Type 0 where
        pub more : head_of F.more ≡ HCell
        pub test_is : link_pair d.trees w ≡ (test d.task F.pattern S, test d.task F.pattern U)
        pub body_is : link_pair d.trees b ≡ (inst_many F.body (bind d.task F.pattern S), inst_many F.other (bind d.task F.pattern U))
        pub others_are : ArePairedBranches d.task S U F.more F.rest (links_at d.trees ws)

      is : link_pair d.trees w ∷ link_pair d.trees b ∷ links_at d.trees ws ≡ asked_first F.more (test d.task F.pattern S, test d.task F.pattern U) ((inst_many F.body (bind d.task F.pattern S), inst_many F.other (bind d.task F.pattern U)) ∷ F.pairs)
      is = sym (ap (links_at d.trees) q) ∙ F.is

      more_by : ((F.more ≡ Leaf HEnd) × ((F.rest ≡ Leaf HEnd) × (F.pairs ≡ []))) ⊎ ((i : Tree) × ((j : Tree) × (F.more ≡ Two HCell i j))) → More
      more_by (inl e) =
          let z = first_pairs (link_pair d.trees w) bodies (link_pair d.trees b ∷ links_at d.trees ws) F.pairs (is ∙ ap (λ (z : Tree). asked_first z tests (bodies ∷ F.pairs)) e.0) in
          absurd (no_first (link_pair d.trees b) (links_at d.trees ws) (z.1 ∙ e.1.1))
      more_by (inr h) =
          let z = first_pairs (link_pair d.trees w) tests (link_pair d.trees b ∷ links_at d.trees ws) (bodies ∷ F.pairs) (is ∙ asked_more F.more h.0 h.1.0 tests (bodies ∷ F.pairs) h.1.1) in
          let y = first_pairs (link_pair d.trees b) bodies (links_at d.trees ws) F.pairs z.1 in
          record { more = ap head_of h.1.1; test_is = z.0; body_is = y.0; others_are = subst (ArePairedBranches d.task S U F.more F.rest) (sym y.1) F.others }

      has_more : More
      has_more = more_by (ends_or_more d.task S U F.more F.rest F.pairs F.others)

      links : All (IsShownLink d) (w ∷ b ∷ ws)
      links = subst (All (IsShownLink d)) q k.linked

      test_link : IsShownLink d w
      test_link = All-head (IsShownLink d) w (b ∷ ws) links

      body_link : IsShownLink d b
      body_link = All-head (IsShownLink d) b ws (All-tail (IsShownLink d) w (b ∷ ws) links)

      other_links : All (IsShownLink d) ws
      other_links = All-tail (IsShownLink d) b ws (All-tail (IsShownLink d) w (b ∷ ws) links)

      -- the `match`es with the other branches
      rest_firsts : FirstBranches d.task S U F.more F.rest (links_at d.trees ws)
      rest_firsts = first_branches d.task S U F.more F.rest (links_at d.trees ws) has_more.more has_more.others_are

      pub left_two : HasTwoBranches d.trees left.arms
      left_two = record {
        pattern = F.pattern;
        body = F.body;
        next_pattern = rest_firsts.pattern;
        next_body = rest_firsts.body;
        rest = rest_firsts.more;
        is = F.left ∙ ap (λ (z : Tree). Two HCell (Two HArm F.pattern F.body) z) rest_firsts.left;
      }

      pub right_two : HasTwoBranches d.trees right.arms
      right_two = record {
        pattern = F.pattern;
        body = F.other;
        next_pattern = rest_firsts.pattern;
        next_body = rest_firsts.other;
        rest = rest_firsts.rest;
        is = F.right ∙ ap (λ (z : Tree). Two HCell (Two HArm F.pattern F.other) z) rest_firsts.right;
      }

      -- after they are made
      module _ (d2 : DraftTree) (x : Extends d d2) (rl rr : CaseAt) (gl : IsRestCase d2 left rl) (gr : IsRestCase d2 right rr) where
        left_by : tree_at d2.trees rl.by ≡ S
        left_by = ap (tree_at d2.trees) gl.by ∙ tree_later d d2 x left.by k.left_case.by_held

        right_by : tree_at d2.trees rr.by ≡ U
        right_by = ap (tree_at d2.trees) gr.by ∙ tree_later d d2 x right.by k.right_case.by_held

        left_arms : tree_at d2.trees rl.arms ≡ F.more
        left_arms = more_is (Two HArm gl.others.pattern gl.others.body) (tree_at d2.trees rl.arms) (sym (tree_later d d2 x left.arms k.left_case.arms_held) ∙ gl.others.is)

        right_arms : tree_at d2.trees rr.arms ≡ F.rest
        right_arms = rest_is (Two HArm gr.others.pattern gr.others.body) (tree_at d2.trees rr.arms) (sym (tree_later d d2 x right.arms k.right_case.arms_held) ∙ gr.others.is)

        pub go_on : AreLinkedCases d2 rl rr ws
        go_on = record {
          pair = parts_pair d2 left.whole right.whole rl.whole rr.whole (pair_later d d2 x left.whole right.whole k.pair) gl.pair gr.pair;
          left_case = gl.case;
          right_case = gr.case;
          linked = links_later d d2 x ws other_links;
          paired = rw (x.task, left_by, right_by, left_arms, right_arms, same_links d d2 x ws other_links) has_more.others_are;
        }

        -- with evidence for them
        module _ (d3 : DraftTree) (y : Extends d2 d3) (z : Extends d d3) (alike : AlikeBy) (sh : Shows d3 alike (tree_at d2.trees rl.whole) (tree_at d2.trees rr.whole)) where
          tests_same : (tree_at d.trees w.left ≡ test d.task F.pattern S) × (tree_at d.trees w.right ≡ test d.task F.pattern U)
          tests_same = sides_same (tree_at d.trees w.left) (tree_at d.trees w.right) (test d.task F.pattern S) (test d.task F.pattern U) has_more.test_is

          bodies_same : (tree_at d.trees b.left ≡ inst_many F.body (bind d.task F.pattern S)) × (tree_at d.trees b.right ≡ inst_many F.other (bind d.task F.pattern U))
          bodies_same = sides_same (tree_at d.trees b.left) (tree_at d.trees b.right) (inst_many F.body (bind d.task F.pattern S)) (inst_many F.other (bind d.task F.pattern U)) has_more.body_is

          left_cases : IsMatchCases d.task (tree_at d.trees left.whole) (tree_at d.trees w.left) (tree_at d.trees b.left) (tree_at d2.trees rl.whole)
          left_cases = record {
            scrutinee = S;
            pattern = F.pattern;
            body = F.body;
            rest = F.more;
            is = left_is;
            more = has_more.more;
            condition = tests_same.0;
            first = bodies_same.0;
            others = gl.case.is ∙ cc (left_by, left_arms);
          }

          right_cases : IsMatchCases d.task (tree_at d.trees right.whole) (tree_at d.trees w.right) (tree_at d.trees b.right) (tree_at d2.trees rr.whole)
          right_cases = record {
            scrutinee = U;
            pattern = F.pattern;
            body = F.other;
            rest = F.rest;
            is = right_is;
            more = ap head_of rest_firsts.right;
            condition = tests_same.1;
            first = bodies_same.1;
            others = gr.case.is ∙ cc (right_by, right_arms);
          }

          pub joined : HasMore d3 left right w b (record { left = rl.whole; right = rr.whole; alike = alike })
          joined =
              let lt = test_link in
              let lb = body_link in
              let wl = tree_later d d3 z left.whole k.left_case.closed.held in
              let wr = tree_later d d3 z right.whole k.right_case.closed.held in
              let tl = tree_later d d3 z w.left lt.pair.left.held in
              let tr = tree_later d d3 z w.right lt.pair.right.held in
              let bl = tree_later d d3 z b.left lb.pair.left.held in
              let br = tree_later d d3 z b.right lb.pair.right.held in
              let ol = tree_later d2 d3 y rl.whole gl.case.closed.held in
              let or = tree_later d2 d3 y rr.whole gr.case.closed.held in
              record {
                pair = pair_later d d3 z left.whole right.whole k.pair;
                left_parts = record {
                  whole = closed_later d d3 z left.whole k.left_case.closed;
                  condition = formula_later d d3 z w.left (left_test w.left lt.pair.left.held tests_same.0);
                  then_part = pair_later d d3 z left.whole b.left (left_pair b.left lb.pair.left bodies_same.0);
                  else_part = pair_later d2 d3 y left.whole rl.whole gl.pair;
                };
                right_parts = record {
                  whole = closed_later d d3 z right.whole k.right_case.closed;
                  condition = formula_later d d3 z w.right (right_test w.right lt.pair.right.held tests_same.1);
                  then_part = pair_later d d3 z right.whole b.right (right_pair b.right lb.pair.right bodies_same.1);
                  else_part = pair_later d2 d3 y right.whole rr.whole gr.pair;
                };
                left_is = rw (z.task, wl, tl, bl, ol) left_cases;
                right_is = rw (z.task, wr, tr, br, or) right_cases;
                linked = record {
                  condition = shows_at d d3 z w.alike w.left w.right lt.pair.left.held lt.pair.right.held lt.shows;
                  then_part = shows_at d d3 z b.alike b.left b.right lb.pair.left.held lb.pair.right.held lb.shows;
                  else_part = rw (ol, or) sh;
                };
              }

-- ---- in a later draft
pub case_at_later : (d d1 : DraftTree) → Extends d d1 → (c : CaseAt) → IsCaseAt d c → IsCaseAt d1 c
case_at_later d d1 x c k = record {
  closed = closed_later d d1 x c.whole k.closed;
  by_held = held_later d d1 x c.by k.by_held;
  arms_held = held_later d d1 x c.arms k.arms_held;
  is = rw (tree_later d d1 x c.whole k.closed.held, tree_later d d1 x c.by k.by_held, tree_later d d1 x c.arms k.arms_held) k.is;
}

others_later : (d d1 : DraftTree) → Extends d d1 → (arms others : TermId) → Holds d.trees arms → Holds d.trees others → HasMoreBranches d.trees arms others → HasMoreBranches d1.trees arms others
others_later d d1 x arms others ha ho h = record {
  pattern = h.pattern;
  body = h.body;
  next_pattern = h.next_pattern;
  next_body = h.next_body;
  rest = h.rest;
  is = rw (tree_later d d1 x arms ha, tree_later d d1 x others ho) h.is;
  others_are = rw (tree_later d d1 x others ho) h.others_are;
}

pub two_later : (d d1 : DraftTree) → Extends d d1 → (arms : TermId) → Holds d.trees arms → HasTwoBranches d.trees arms → HasTwoBranches d1.trees arms
two_later d d1 x arms ha h = record { pattern = h.pattern; body = h.body; next_pattern = h.next_pattern; next_body = h.next_body; rest = h.rest; is = tree_later d d1 x arms ha ∙ h.is }

pub rest_later : (d d1 : DraftTree) → Extends d d1 → (c r : CaseAt) → Holds d.trees c.arms → IsRestCase d c r → IsRestCase d1 c r
rest_later d d1 x c r ha g = record { by = g.by; others = others_later d d1 x c.arms r.arms ha g.case.arms_held g.others; case = case_at_later d d1 x r g.case; pair = pair_later d d1 x c.whole r.whole g.pair }

-- ---- the `match` with the other branches
module _ (d : DraftTree) (v : IsValid d.task) (c : CaseAt) (k : IsCaseAt d c) (o : TermId) (h : HasMoreBranches d.trees c.arms o) where
  abbrev T : Tree
  T = tree_at d.trees c.by

  whole_is : tree_at d.trees c.whole ≡ Two HCase T (Two HCell (Two HArm h.pattern h.body) (tree_at d.trees o))
  whole_is = k.is ∙ ap (λ (z : Tree). Two HCase T z) h.is

  whole_ground : IsGroundExpression d.task (Two HCase T (Two HCell (Two HArm h.pattern h.body) (tree_at d.trees o)))
  whole_ground = subst (IsGroundExpression d.task) whole_is k.closed.ground

  pub others_ground : IsGroundExpression d.task (Two HCase T (tree_at d.trees o))
  others_ground = closed.rest_ground d.task v T h.pattern h.body (tree_at d.trees o) whole_ground h.next_pattern h.next_body h.rest h.others_are

  module _ (d1 : DraftTree) (x : Extends d d1) (id : TermId) (hi : Holds d1.trees id) (ho : Holds d.trees o) (e : tree_at d1.trees id ≡ Two HCase T (tree_at d.trees o)) where
    others_closed : IsClosedAt d1 id
    others_closed = record { held = hi; ground = rw (x.task, e) others_ground }

    others_case : IsCaseAt d1 (record { whole = id; by = c.by; arms = o })
    others_case = record { closed = others_closed; by_held = held_later d d1 x c.by k.by_held; arms_held = held_later d d1 x o ho; is = e ∙ sym (cc (tree_later d d1 x c.by k.by_held, tree_later d d1 x o ho)) }

    others_pair : ArePair d1 c.whole id
    others_pair =
        let w = tree_later d d1 x c.whole k.closed.held in
        record {
          left = closed_later d d1 x c.whole k.closed;
          right = others_closed;
          sort = ap sort_of e ∙ closed.rest_sort d.task v T h.pattern h.body (tree_at d.trees o) whole_ground h.next_pattern h.next_body h.rest h.others_are ∙ sym (ap sort_of (w ∙ whole_is));
          type = ap type_of e ∙ closed.rest_type d.task v T h.pattern h.body (tree_at d.trees o) whole_ground h.next_pattern h.next_body h.rest h.others_are ∙ sym (ap type_of (w ∙ whole_is));
        }

    pub others_rest : IsRestCase d1 c (record { whole = id; by = c.by; arms = o })
    others_rest = record { by = refl; others = others_later d d1 x c.arms o k.arms_held ho h; case = others_case; pair = others_pair }

-- the others are those after the first
pub next_branches : (s : List Tree) (arms o : TermId) (p a : Tree) → HasTwoBranches s arms → tree_at s arms ≡ Two HCell (Two HArm p a) (tree_at s o) → HasMoreBranches s arms o
next_branches s arms o p a h e =
    let q = second_cell (Two HArm p a) (tree_at s o) (Two HArm h.pattern h.body) (Two HCell (Two HArm h.next_pattern h.next_body) h.rest) (sym e ∙ h.is) in
    record {
      pattern = h.pattern;
      body = h.body;
      next_pattern = h.next_pattern;
      next_body = h.next_body;
      rest = h.rest;
      is = h.is ∙ ap (λ (z : Tree). Two HCell (Two HArm h.pattern h.body) z) (sym q);
      others_are = q;
    }
