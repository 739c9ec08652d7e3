-- The tests and bodies of the first branches of two `match`es with the same patterns are pairs of closed expressions, asked before
-- the whole is answered.
use Rattle.std.proofs.Common.{◌≡◌, ℕ, ◌<◌, ◌≤◌, inl, List, [], ◌∷◌, ◌++◌, refl, sym, ap, subst, ◌∙◌, append_assoc, arith}
use Rattle.std.proofs.lemmas.List.Elements.{All-cons, All-nil}
use Rattle.trees.specs.declared.TermId.{TermId}
use Rattle.trees.specs.Tree.{Tree, Leaf, Two, HEnd, HCase, HCell, HArm, above_params, head_of}
use Rattle.trees.specs.Node.{tree_at, Holds}
use Rattle.trees.specs.Binding.{inst_many}
use Rattle.trees.specs.Sorts.{sort_of, type_of}
use Rattle.tasks.specs.MatchTests.{test, bind}
use Rattle.tasks.specs.Valid.{IsGroundFormula, IsValid}
use Rattle.congruence.specs.kernel.Right.{IsGroundExpression}
use Rattle.evidence.specs.Drafts.{DraftTree, Extends}
use Rattle.evidence.specs.Laws.{AddsTrees_refl, AddsTrees_extends}
use Rattle.congruence.proofs.Later.{held_later, tree_later}
use Rattle.congruence.proofs.CaseParts.{formula_pair}
use Rattle.agreement.specs.declared.questions.Question.{Question}
use Rattle.agreement.specs.declared.branches.Branch.{Branch}
use Rattle.agreement.specs.declared.branches.Cases.{Cases}
use Rattle.agreement.specs.declared.branches.OpenedBranch.{OpenedBranch}
use Rattle.agreement.specs.declared.branches.AskedBranch.{AskedBranch}
use Rattle.agreement.specs.Ranks.{rank, zero_ranks}
use Rattle.agreement.specs.Agreement.{asked_first, ArePairedBranches, ArePartsOf, number_under}
use Rattle.agreement.specs.Questions.{IsAsked, IsLower, AreQuestions, AddsQuestions, questions_at}
use Rattle.agreement.specs.Branches.{first_case, other_case, AreHeld, AreAskedCases, IsAskedBranch}
use Rattle.agreement.proofs.PartLists.{Pairs}
use Rattle.agreement.proofs.PlainParts.{question}
use Rattle.agreement.proofs.BranchPairs.{FirstBranches, first_branches, are_lists, asked_more, case_paired, parts_of_cases}
use Rattle.agreement.proofs.QuestionsLater.{asked_later}
use Rattle.agreement.proofs.CaseTrees as closed

-- ---- in a later draft
module _ (d d1 : DraftTree) (x : Extends d d1) where
  pub case_later : (a b : TermId) → Holds d.trees a → Holds d.trees b → IsGroundExpression d.task (Two HCase (tree_at d.trees a) (tree_at d.trees b)) → IsGroundExpression d1.task (Two HCase (tree_at d1.trees a) (tree_at d1.trees b))
  case_later a b ha hb g = rw (x.task, tree_later d d1 x a ha, tree_later d d1 x b hb) g

  pub arms_later : (id p a r : TermId) → Holds d.trees id → Holds d.trees p → Holds d.trees a → Holds d.trees r
      → tree_at d.trees id ≡ Two HCell (Two HArm (tree_at d.trees p) (tree_at d.trees a)) (tree_at d.trees r) → tree_at d1.trees id ≡ Two HCell (Two HArm (tree_at d1.trees p) (tree_at d1.trees a)) (tree_at d1.trees r)
  arms_later id p a r hi hp ha hr q = tree_later d d1 x id hi ∙ q ∙ sym (cc (tree_later d d1 x p hp, tree_later d d1 x a ha, tree_later d d1 x r hr))

  pub branches_later : (q : Question) (c : Cases) → AreAskedCases d q c → AreAskedCases d1 q c
  branches_later q c k =
      let h = k.held in
      let b = tree_later d d1 x c.by h.by in
      let a = tree_later d d1 x c.arms h.arms in
      let u = tree_later d d1 x c.other_by h.other_by in
      let o = tree_later d d1 x c.other_arms h.other_arms in
      let l = tree_later d d1 x q.left k.whole_held in
      record {
        held = record { by = held_later d d1 x c.by h.by; arms = held_later d d1 x c.arms h.arms; other_by = held_later d d1 x c.other_by h.other_by; other_arms = held_later d d1 x c.other_arms h.other_arms };
        whole_held = held_later d d1 x q.left k.whole_held;
        left = case_later c.by c.arms h.by h.arms k.left;
        right = case_later c.other_by c.other_arms h.other_by h.other_arms k.right;
        sort = rw (b, a, u, o) k.sort;
        type = rw (b, a, u, o) k.type;
        left_above = rw (b, a) k.left_above;
        right_above = rw (u, o) k.right_above;
        ranked = rw (b, a, l) k.ranked;
        paired = (k.paired.0, rw (x.task, b, a, u, o) k.paired.1);
      }

-- the first branches are there
module _ (d : DraftTree) (q : Question) (c : Cases) (k : AreAskedCases d q c) where
  firsts : FirstBranches d.task (tree_at d.trees c.by) (tree_at d.trees c.other_by) (tree_at d.trees c.arms) (tree_at d.trees c.other_arms) k.paired.0
  firsts = first_branches d.task (tree_at d.trees c.by) (tree_at d.trees c.other_by) (tree_at d.trees c.arms) (tree_at d.trees c.other_arms) k.paired.0 k.left.typed.0.1 k.paired.1

  pub left_branch : (p : Tree) × ((a : Tree) × ((r : Tree) × (tree_at d.trees c.arms ≡ Two HCell (Two HArm p a) r)))
  left_branch = let f = firsts in (f.pattern, (f.body, (f.more, f.left)))

  pub right_branch : (p : Tree) × ((a : Tree) × ((r : Tree) × (tree_at d.trees c.other_arms ≡ Two HCell (Two HArm p a) r)))
  right_branch = let f = firsts in (f.pattern, (f.other, (f.rest, f.right)))

-- ---- the questions for the first branches
module _ (d : DraftTree) (v : IsValid d.task) (q : Question) (c : Cases) (k : AreAskedCases d q c) (one two : Branch)
    (e : tree_at d.trees c.arms ≡ Two HCell (Two HArm (tree_at d.trees one.pattern) (tree_at d.trees one.body)) (tree_at d.trees one.others))
    (f : tree_at d.trees c.other_arms ≡ Two HCell (Two HArm (tree_at d.trees two.pattern) (tree_at d.trees two.body)) (tree_at d.trees two.others)) where
  abbrev S : Tree
  S = tree_at d.trees c.by

  abbrev U : Tree
  U = tree_at d.trees c.other_by

  abbrev P : Tree
  P = tree_at d.trees one.pattern

  abbrev A : Tree
  A = tree_at d.trees one.body

  abbrev M : Tree
  M = tree_at d.trees one.others

  abbrev P2 : Tree
  P2 = tree_at d.trees two.pattern

  abbrev B : Tree
  B = tree_at d.trees two.body

  abbrev R : Tree
  R = tree_at d.trees two.others

  gl : IsGroundExpression d.task (Two HCase S (Two HCell (Two HArm P A) M))
  gl = subst (λ (z : Tree). IsGroundExpression d.task (Two HCase S z)) e k.left

  gr : IsGroundExpression d.task (Two HCase U (Two HCell (Two HArm P2 B) R))
  gr = subst (λ (z : Tree). IsGroundExpression d.task (Two HCase U z)) f k.right

  al : above_params (Two HCase S (Two HCell (Two HArm P A) M)) ≤ q.number
  al = subst (λ (z : Tree). above_params (Two HCase S z) ≤ q.number) e k.left_above

  ar : above_params (Two HCase U (Two HCell (Two HArm P2 B) R)) ≤ q.number
  ar = subst (λ (z : Tree). above_params (Two HCase U z) ≤ q.number) f k.right_above

  rl : rank (Two HCase S (Two HCell (Two HArm P A) M)) zero_ranks 0 ≤ rank (tree_at d.trees q.left) zero_ranks 0
  rl = subst (λ (z : Tree). rank (Two HCase S z) zero_ranks 0 ≤ rank (tree_at d.trees q.left) zero_ranks 0) e k.ranked

  one_sort : sort_of (Two HCase U (Two HCell (Two HArm P2 B) R)) ≡ sort_of (Two HCase S (Two HCell (Two HArm P A) M))
  one_sort = sym (ap (λ (z : Tree). sort_of (Two HCase U z)) f) ∙ k.sort ∙ ap (λ (z : Tree). sort_of (Two HCase S z)) e

  one_type : type_of (Two HCase U (Two HCell (Two HArm P2 B) R)) ≡ type_of (Two HCase S (Two HCell (Two HArm P A) M))
  one_type = sym (ap (λ (z : Tree). type_of (Two HCase U z)) f) ∙ k.type ∙ ap (λ (z : Tree). type_of (Two HCase S z)) e

  pairs : (P2 ≡ P) × ((qs : Pairs) × ((k.paired.0 ≡ asked_first M (test d.task P S, test d.task P U) ((inst_many A (bind d.task P S), inst_many B (bind d.task P U)) ∷ qs)) × ArePairedBranches d.task S U M R qs))
  pairs = subst (λ (z : Tree). ArePairedBranches d.task S U (Two HCell (Two HArm P A) M) z k.paired.0) f (subst (λ (z : Tree). ArePairedBranches d.task S U z (tree_at d.trees c.other_arms) k.paired.0) e k.paired.1)

  module _ (left right : OpenedBranch) (ht : Holds d.trees left.test) (hi : Holds d.trees left.inner) (kt : Holds d.trees right.test) (ki : Holds d.trees right.inner)
      (et : tree_at d.trees left.test ≡ test d.task P S) (ei : tree_at d.trees left.inner ≡ inst_many A (bind d.task P S)) (ft : tree_at d.trees right.test ≡ test d.task P2 U) (fi : tree_at d.trees right.inner ≡ inst_many B (bind d.task P2 U)) where
    test_asked : IsAsked d (question left.test right.test q.number)
    test_asked =
        let m = closed.test_above d.task v S P A M gl q.number al in
        let n = closed.test_above d.task v U P2 B R gr q.number ar in
        record {
          pair = formula_pair d left.test right.test (record { held = ht; ground = subst (IsGroundFormula d.task) (sym et) (closed.test_formula d.task v S P A M gl) }) (record { held = kt; ground = subst (IsGroundFormula d.task) (sym ft) (closed.test_formula d.task v U P2 B R gr) });
          left_above = subst (λ (z : Tree). above_params z ≤ q.number) (sym et) m;
          right_above = subst (λ (z : Tree). above_params z ≤ q.number) (sym ft) n;
        }

    body_asked : IsAsked d (question left.inner right.inner q.number)
    body_asked = record {
      pair = record {
        left = record { held = hi; ground = subst (IsGroundExpression d.task) (sym ei) (closed.inner_ground d.task v S P A M gl) };
        right = record { held = ki; ground = subst (IsGroundExpression d.task) (sym fi) (closed.inner_ground d.task v U P2 B R gr) };
        sort = ap sort_of fi ∙ closed.inner_sort d.task v U P2 B R gr ∙ one_sort ∙ sym (closed.inner_sort d.task v S P A M gl) ∙ sym (ap sort_of ei);
        type = ap type_of fi ∙ closed.inner_type d.task v U P2 B R gr ∙ one_type ∙ sym (closed.inner_type d.task v S P A M gl) ∙ sym (ap type_of ei);
      };
      left_above = subst (λ (z : Tree). above_params z ≤ q.number) (sym ei) (closed.inner_open d.task v S P A M gl q.number al).above;
      right_above = subst (λ (z : Tree). above_params z ≤ q.number) (sym fi) (closed.inner_open d.task v U P2 B R gr q.number ar).above;
    }

    test_lower : IsLower d.trees (question left.test right.test q.number) q
    test_lower = let z = closed.test_ranked d.task v S P A M gl in inl (subst (λ (z : Tree). rank z zero_ranks 0 < rank (tree_at d.trees q.left) zero_ranks 0) (sym et) (omega (arith, z, rl)))

    body_lower : IsLower d.trees (question left.inner right.inner q.number) q
    body_lower = let z = closed.inner_ranked d.task v S P A M gl in inl (subst (λ (z : Tree). rank z zero_ranks 0 < rank (tree_at d.trees q.left) zero_ranks 0) (sym ei) (omega (arith, z, rl)))

    abbrev others : Cases
    others = record { by = c.by; arms = one.others; other_by = c.other_by; other_arms = two.others }

    rest : Holds d.trees one.others → Holds d.trees two.others → head_of M ≡ HCell → AreAskedCases d q (record { by = c.by; arms = one.others; other_by = c.other_by; other_arms = two.others })
    rest ho ko h =
        let w = first_branches d.task S U M R pairs.1.0 h pairs.1.1.1 in
        let z = closed.rest_ranked d.task v S P A M gl in
        let lg = closed.rest_ground d.task v S P A M gl w.pattern w.body w.more w.left in
        let rg = closed.rest_ground d.task v U P2 B R gr w.pattern w.other w.rest w.right in
        record {
          held = record { by = k.held.by; arms = ho; other_by = k.held.other_by; other_arms = ko };
          whole_held = k.whole_held;
          left = lg;
          right = rg;
          sort = closed.rest_sort d.task v U P2 B R gr w.pattern w.other w.rest w.right ∙ one_sort ∙ sym (closed.rest_sort d.task v S P A M gl w.pattern w.body w.more w.left);
          type = closed.rest_type d.task v U P2 B R gr w.pattern w.other w.rest w.right ∙ one_type ∙ sym (closed.rest_type d.task v S P A M gl w.pattern w.body w.more w.left);
          left_above = closed.rest_above d.task v S P A M gl q.number al;
          right_above = closed.rest_above d.task v U P2 B R gr q.number ar;
          ranked = omega (arith, z, rl);
          paired = (pairs.1.0, pairs.1.1.1);
        }

    pairs_of : (qs : Pairs) → ArePairedBranches d.task S U M R qs → ArePairedBranches d.task S U (tree_at d.trees c.arms) (tree_at d.trees c.other_arms)
        (asked_first M (tree_at d.trees left.test, tree_at d.trees right.test) ((tree_at d.trees left.inner, tree_at d.trees right.inner) ∷ qs))
    pairs_of qs z =
        let ft2 : tree_at d.trees right.test ≡ test d.task P U = ft ∙ ap (λ (y : Tree). test d.task y U) pairs.0 in
        let fi2 : tree_at d.trees right.inner ≡ inst_many B (bind d.task P U) = fi ∙ ap (λ (y : Tree). inst_many B (bind d.task y U)) pairs.0 in
        let tests : Tree × Tree = (tree_at d.trees left.test, tree_at d.trees right.test) in
        let bodies : Tree × Tree = (tree_at d.trees left.inner, tree_at d.trees right.inner) in
        let tq : tests ≡ (test d.task P S, test d.task P U) = cc (et, ft2) in
        let bq : bodies ≡ (inst_many A (bind d.task P S), inst_many B (bind d.task P U)) = cc (ei, fi2) in
        let both : asked_first M tests (bodies ∷ qs) ≡ asked_first M (test d.task P S, test d.task P U) ((inst_many A (bind d.task P S), inst_many B (bind d.task P U)) ∷ qs) = ap (λ (y : Tree × Tree). asked_first M y (bodies ∷ qs)) tq ∙ ap (λ (y : Tree × Tree). asked_first M (test d.task P S, test d.task P U) (y ∷ qs)) bq in
        subst (λ (y : Tree). ArePairedBranches d.task S U y (tree_at d.trees c.other_arms) (asked_first M tests (bodies ∷ qs))) (sym e) (subst (λ (y : Tree). ArePairedBranches d.task S U (Two HCell (Two HArm P A) M) y (asked_first M tests (bodies ∷ qs))) (sym f) (pairs.0, (qs, (both, z))))

    pub asked_branch : Holds d.trees one.others → Holds d.trees two.others → one.others.0 < c.arms.0
        → IsAskedBranch d q c (record { test = question left.test right.test q.number; body = question left.inner right.inner q.number; others = record { by = c.by; arms = one.others; other_by = c.other_by; other_arms = two.others } })
    asked_branch ho ko below = record {
      test = test_asked;
      body = body_asked;
      test_number = refl;
      body_number = refl;
      test_lower = test_lower;
      body_lower = body_lower;
      below = below;
      arms_held = ho;
      list = are_lists d.task S U M R pairs.1.0 pairs.1.1.1;
      rest = rest ho ko;
      others = (pairs.1.0, pairs.1.1.1);
      same_by = (refl, refl);
      pairs = pairs_of;
    }

-- ---- questions that are added
pub adds_as : (d : DraftTree) (q : Question) (old new : List Question) (P Q : Pairs → Type 0) → ((ps : Pairs) → P ps → Q ps) → AddsQuestions d q old new P → AddsQuestions d q old new Q
adds_as d q old new P Q f n = record { more = n.more; is = n.is; asked = n.asked; numbers = n.numbers; lower = n.lower; pairs = f (questions_at d.trees n.more) n.pairs }

abbrev number_all : ℕ → Question → Type 0
number_all n z = z.number ≡ n

module _ (d d1 d2 : DraftTree) (x : Extends d d1) (y : Extends d1 d2) (q : Question) (c : Cases) (b : AskedBranch) (h : AreAskedCases d q c) (k : IsAskedBranch d1 q c b) where
  abbrev BranchPairs : Pairs → Type 0
  BranchPairs ps = ArePairedBranches d.task (tree_at d.trees c.by) (tree_at d.trees c.other_by) (tree_at d.trees c.arms) (tree_at d.trees c.other_arms) ps

  abbrev LaterPairs : Pairs → Type 0
  LaterPairs ps = ArePairedBranches d1.task (tree_at d1.trees c.by) (tree_at d1.trees c.other_by) (tree_at d1.trees c.arms) (tree_at d1.trees c.other_arms) ps

  as_first : (ps : Pairs) → LaterPairs ps → BranchPairs ps
  as_first ps z =
      let a = tree_later d d1 x c.by h.held.by in
      let u = tree_later d d1 x c.other_by h.held.other_by in
      let l = tree_later d d1 x c.arms h.held.arms in
      let r = tree_later d d1 x c.other_arms h.held.other_arms in
      rw (← x.task, ← a, ← u, ← l, ← r) z

  same_pair : (w : Question) → IsAsked d1 w → ◌≡◌ {A = Tree × Tree} (tree_at d2.trees w.left, tree_at d2.trees w.right) (tree_at d1.trees w.left, tree_at d1.trees w.right)
  same_pair w i = cc (tree_later d1 d2 y w.left i.pair.left.held, tree_later d1 d2 y w.right i.pair.right.held)

  lower_here : (w : Question) → IsAsked d1 w → IsLower d1.trees w q → IsLower d2.trees w q
  lower_here w i l = rw (tree_later d1 d2 y w.left i.pair.left.held, tree_later d1 d2 y q.left (held_later d d1 x q.left h.whole_held)) l

  -- with more branches
  pub more_branches : (i j : Tree) → tree_at d1.trees b.others.arms ≡ Two HCell i j → (old mid last new : List Question) → mid ≡ old ++ b.test ∷ [] → last ≡ mid ++ b.body ∷ []
      → AddsQuestions d2 q last new (ArePairedBranches d1.task (tree_at d1.trees b.others.by) (tree_at d1.trees b.others.other_by) (tree_at d1.trees b.others.arms) (tree_at d1.trees b.others.other_arms)) → AddsQuestions d2 q old new BranchPairs
  more_branches i j s old mid last new e f n =
      let qs = questions_at d2.trees n.more in
      let M = tree_at d1.trees b.others.arms in
      let zs : Pairs = (tree_at d1.trees b.test.left, tree_at d1.trees b.test.right) ∷ (tree_at d1.trees b.body.left, tree_at d1.trees b.body.right) ∷ qs in
      let same : questions_at d2.trees (b.test ∷ b.body ∷ n.more) ≡ zs = cc (same_pair b.test k.test, same_pair b.body k.body) in
      let first : ArePairedBranches d1.task (tree_at d1.trees c.by) (tree_at d1.trees c.other_by) M (tree_at d1.trees b.others.other_arms) qs
      = subst (λ (z : TermId). ArePairedBranches d1.task (tree_at d1.trees z) (tree_at d1.trees c.other_by) M (tree_at d1.trees b.others.other_arms) qs) k.same_by.0 (subst (λ (z : TermId). ArePairedBranches d1.task (tree_at d1.trees b.others.by) (tree_at d1.trees z) M (tree_at d1.trees b.others.other_arms) qs) k.same_by.1 n.pairs) in
      record {
        more = b.test ∷ b.body ∷ n.more;
        is = n.is ∙ ap (λ (z : List Question). z ++ n.more) (f ∙ ap (λ (z : List Question). z ++ b.body ∷ []) e) ∙ append_assoc (old ++ b.test ∷ []) (b.body ∷ []) n.more ∙ append_assoc old (b.test ∷ []) (b.body ∷ n.more);
        asked = All-cons (IsAsked d2) b.test (b.body ∷ n.more) (asked_later d1 d2 y b.test k.test) (All-cons (IsAsked d2) b.body n.more (asked_later d1 d2 y b.body k.body) n.asked);
        numbers = All-cons (number_all q.number) b.test (b.body ∷ n.more) k.test_number (All-cons (number_all q.number) b.body n.more k.body_number n.numbers);
        lower = All-cons (λ (z : Question). IsLower d2.trees z q) b.test (b.body ∷ n.more) (lower_here b.test k.test k.test_lower) (All-cons (λ (z : Question). IsLower d2.trees z q) b.body n.more (lower_here b.body k.body k.body_lower) n.lower);
        pairs = as_first (questions_at d2.trees (b.test ∷ b.body ∷ n.more)) (subst LaterPairs (asked_more M i j (tree_at d1.trees b.test.left, tree_at d1.trees b.test.right) ((tree_at d1.trees b.body.left, tree_at d1.trees b.body.right) ∷ qs) s ∙ sym same) (k.pairs qs first));
      }

-- the last branch
pub last_branch : (d d1 : DraftTree) (x : Extends d d1) (q : Question) (c : Cases) (b : AskedBranch) → AreAskedCases d q c → IsAskedBranch d1 q c b → tree_at d1.trees b.others.arms ≡ Leaf HEnd → (old new : List Question) → new ≡ old ++ b.body ∷ []
    → AddsQuestions d1 q old new (ArePairedBranches d.task (tree_at d.trees c.by) (tree_at d.trees c.other_by) (tree_at d.trees c.arms) (tree_at d.trees c.other_arms))
last_branch d d1 x q c b h k e old new f =
    let bodies : Tree × Tree = (tree_at d1.trees b.body.left, tree_at d1.trees b.body.right) in
    let tests : Tree × Tree = (tree_at d1.trees b.test.left, tree_at d1.trees b.test.right) in
    let o : ArePairedBranches d1.task (tree_at d1.trees c.by) (tree_at d1.trees c.other_by) (Leaf HEnd) (tree_at d1.trees b.others.other_arms) k.others.0
    = subst (λ (z : Tree). ArePairedBranches d1.task (tree_at d1.trees c.by) (tree_at d1.trees c.other_by) z (tree_at d1.trees b.others.other_arms) k.others.0) e k.others.1 in
    let none : ArePairedBranches d1.task (tree_at d1.trees c.by) (tree_at d1.trees c.other_by) (tree_at d1.trees b.others.arms) (tree_at d1.trees b.others.other_arms) [] = subst (λ (z : Tree). ArePairedBranches d1.task (tree_at d1.trees c.by) (tree_at d1.trees c.other_by) z (tree_at d1.trees b.others.other_arms) []) (sym e) (o.0, refl) in
    record {
      more = b.body ∷ [];
      is = f;
      asked = All-cons (IsAsked d1) b.body [] k.body (All-nil (IsAsked d1));
      numbers = All-cons (number_all q.number) b.body [] k.body_number (All-nil (number_all q.number));
      lower = All-cons (λ (z : Question). IsLower d1.trees z q) b.body [] k.body_lower (All-nil (λ (z : Question). IsLower d1.trees z q));
      pairs = as_first d d1 d1 x (AddsTrees_extends d1 d1 (AddsTrees_refl d1)) q c b h k (bodies ∷ []) (subst (λ (z : Tree). ArePairedBranches d1.task (tree_at d1.trees c.by) (tree_at d1.trees c.other_by) (tree_at d1.trees c.arms) (tree_at d1.trees c.other_arms) (asked_first z tests (bodies ∷ []))) e (k.pairs [] none));
    }

-- ---- the whole
module _ (d : DraftTree) (q : Question) (i : IsAsked d q) (c : Cases) (e : tree_at d.trees q.left ≡ first_case d.trees c) (f : tree_at d.trees q.right ≡ other_case d.trees c) (h : AreHeld d.trees c) where
  pub case_branches : (ps : Pairs) → ArePartsOf d.task q.number (tree_at d.trees q.left) (tree_at d.trees q.right) ps → AreAskedCases d q c
  case_branches ps x = record {
    held = h;
    whole_held = i.pair.left.held;
    left = subst (IsGroundExpression d.task) e i.pair.left.ground;
    right = subst (IsGroundExpression d.task) f i.pair.right.ground;
    sort = sym (ap sort_of f) ∙ i.pair.sort ∙ ap sort_of e;
    type = sym (ap type_of f) ∙ i.pair.type ∙ ap type_of e;
    left_above = subst (λ (z : Tree). above_params z ≤ q.number) e i.left_above;
    right_above = subst (λ (z : Tree). above_params z ≤ q.number) f i.right_above;
    ranked = let z : rank (tree_at d.trees q.left) zero_ranks 0 ≡ rank (first_case d.trees c) zero_ranks 0 = ap (λ (z : Tree). rank z zero_ranks 0) e in omega (arith, z);
    paired = (ps, case_paired d.task q.number (tree_at d.trees q.left) (tree_at d.trees q.right) (tree_at d.trees c.by) (tree_at d.trees c.arms) (tree_at d.trees c.other_by) (tree_at d.trees c.other_arms) ps e f x);
  }

  pub case_questions : (d1 : DraftTree) → Extends d d1 → (out : List Question)
      → AddsQuestions d1 q [] out (ArePairedBranches d.task (tree_at d.trees c.by) (tree_at d.trees c.other_by) (tree_at d.trees c.arms) (tree_at d.trees c.other_arms)) → AreQuestions d1 q out
  case_questions d1 x out n =
      let l = tree_later d d1 x q.left i.pair.left.held in
      let r = tree_later d d1 x q.right i.pair.right.held in
      let u : number_under q.number (tree_at d1.trees q.left) ≡ q.number = ap (number_under q.number) (l ∙ e) in
      let p = parts_of_cases d.task q.number (tree_at d.trees q.left) (tree_at d.trees q.right) (tree_at d.trees c.by) (tree_at d.trees c.arms) (tree_at d.trees c.other_by) (tree_at d.trees c.other_arms) (questions_at d1.trees n.more) e f n.pairs in
      subst (AreQuestions d1 q) (sym n.is)
      (record {
        asked = n.asked;
        numbers = λ j z o. n.numbers j z o ∙ sym u;
        parts = rw (x.task, l, r) p;
        lower = n.lower;
      })
