-- What links for the parts of two expressions of one operator say: how many there are, and what each whole is by them.
use Rattle.std.proofs.Common.{◌≡◌, ◌<◌, Bool, List, [], ◌∷◌, length, get_or, ap, arith}
use Rattle.std.proofs.lemmas.List.Elements.{All-head, All-tail}
use Rattle.trees.specs.declared.Op.{Op}
use Rattle.trees.specs.declared.Sort.TheVariants.{Term, Formula}
use Rattle.trees.specs.Tree.{Tree, One, Two, Three, HNot, HJoin, HEq, HIf, HLet}
use Rattle.trees.specs.Node.{tree_at}
use Rattle.trees.specs.Sorts.{sort_of}
use Rattle.tasks.specs.Task.{neg}
use Rattle.evidence.specs.Drafts.{DraftTree, IsFormulaAt}
use Rattle.congruence.specs.declared.alike.AlikeBy.TheVariants as alike
use Rattle.congruence.specs.Conditionals.{IsConditional, IsIfAt}
use Rattle.congruence.specs.Quantifiers.{quantifier_head}
use Rattle.congruence.proofs.CaseParts.{closed_formula, if_parts}
use Rattle.agreement.specs.declared.questions.Question.{Question}
use Rattle.agreement.specs.declared.questions.Link.{Link}
use Rattle.agreement.specs.Agreement.{ArePartsOf}
use Rattle.agreement.specs.Branches.{case_with}
use Rattle.agreement.specs.Questions.{IsShownLink, HasLinkedParts, links_at}
use Rattle.agreement.proofs.AnswerParts.{not_is, join_is, equal_is, if_is, not_count, join_count, equal_count, if_count, let_count, under_count}
use Rattle.agreement.proofs.PlainParts.{under_not, join_left, join_right, equal_terms}

-- a link of the two themselves
abbrev pub itself : Question → Link
itself q = record { left = q.left; right = q.right; alike = alike.Same }

module _ (d : DraftTree) (q : Question) where
  abbrev L : Tree
  L = tree_at d.trees q.left

  abbrev R : Tree
  R = tree_at d.trees q.right

  pub record AreNots (w : Link) : Type 0 where
    pub shown : IsShownLink d w
    pub left : IsFormulaAt d q.left
    pub right : IsFormulaAt d q.right
    pub formula : sort_of (tree_at d.trees w.left) ≡ Formula
    pub left_is : L ≡ neg (tree_at d.trees w.left)
    pub right_is : R ≡ neg (tree_at d.trees w.right)

  pub record AreJoins (op : Op) (w v : Link) : Type 0 where
    pub first : IsShownLink d w
    pub second : IsShownLink d v
    pub left : IsFormulaAt d q.left
    pub right : IsFormulaAt d q.right
    pub first_formula : sort_of (tree_at d.trees w.left) ≡ Formula
    pub second_formula : sort_of (tree_at d.trees v.left) ≡ Formula
    pub left_is : L ≡ Two (HJoin op) (tree_at d.trees w.left) (tree_at d.trees v.left)
    pub right_is : R ≡ Two (HJoin op) (tree_at d.trees w.right) (tree_at d.trees v.right)

  pub record AreEquations (w v : Link) : Type 0 where
    pub first : IsShownLink d w
    pub second : IsShownLink d v
    pub left : IsFormulaAt d q.left
    pub right : IsFormulaAt d q.right
    pub first_term : sort_of (tree_at d.trees w.left) ≡ Term
    pub second_term : sort_of (tree_at d.trees v.left) ≡ Term
    pub left_is : L ≡ Two HEq (tree_at d.trees w.left) (tree_at d.trees v.left)
    pub right_is : R ≡ Two HEq (tree_at d.trees w.right) (tree_at d.trees v.right)

  pub record AreIfs (w v u : Link) : Type 0 where
    pub condition : IsShownLink d w
    pub then_part : IsShownLink d v
    pub else_part : IsShownLink d u
    pub left : IsConditional d (case_with q.left w.left v.left u.left)
    pub right : IsConditional d (case_with q.right w.right v.right u.right)
    pub left_is : IsIfAt d (case_with q.left w.left v.left u.left)
    pub right_is : IsIfAt d (case_with q.right w.right v.right u.right)

  pub record HasOneLink (w : Link) : Type 0 where
    pub shown : IsShownLink d w
    pub parts : ArePartsOf d.task q.number L R (links_at d.trees (w ∷ []))

  pub nots : (ws : List Link) → HasLinkedParts d q ws → (a : Tree) × (L ≡ One HNot a) → (0 < length ws) × ((x : Link) → AreNots (get_or ws 0 x))
  nots [] h a = absurd (omega (arith, not_count d.task q.number L R a.0 (links_at d.trees []) a.1 h.parts))
  nots (w ∷ []) h a =
      let s = not_is d.task q.number L R a.0 (tree_at d.trees w.left) (tree_at d.trees w.right) a.1 h.parts in
      let i = All-head (IsShownLink d) w [] h.linked in (
        omega arith,
        (λ x. record {
          shown = i;
          left = closed_formula d q.left h.asked.pair.left (ap sort_of s.0);
          right = closed_formula d q.right h.asked.pair.right (ap sort_of s.1);
          formula = (under_not d q.left h.asked.pair.left w.left i.pair.left.held s.0).ground.sort;
          left_is = s.0;
          right_is = s.1;
        }),
      )
  nots (w ∷ v ∷ vs) h a = absurd (omega (arith, not_count d.task q.number L R a.0 (links_at d.trees (w ∷ v ∷ vs)) a.1 h.parts))

  pub joins : (ws : List Link) → HasLinkedParts d q ws → (op : Op) → (a : Tree) × ((c : Tree) × (L ≡ Two (HJoin op) a c)) → (1 < length ws) × ((x y : Link) → AreJoins op (get_or ws 0 x) (get_or ws 1 y))
  joins [] h op a = absurd (omega (arith, join_count d.task q.number L R op a.0 a.1.0 (links_at d.trees []) a.1.1 h.parts))
  joins (w ∷ []) h op a = absurd (omega (arith, join_count d.task q.number L R op a.0 a.1.0 (links_at d.trees (w ∷ [])) a.1.1 h.parts))
  joins (w ∷ v ∷ []) h op a =
      let s = join_is d.task q.number L R op a.0 a.1.0 (tree_at d.trees w.left) (tree_at d.trees w.right) (tree_at d.trees v.left) (tree_at d.trees v.right) a.1.1 h.parts in
      let i = All-head (IsShownLink d) w (v ∷ []) h.linked in
      let j = All-head (IsShownLink d) v [] (All-tail (IsShownLink d) w (v ∷ []) h.linked) in
      let c = h.asked.pair.left in (
        omega arith,
        (λ x y. record {
          first = i;
          second = j;
          left = closed_formula d q.left c (ap sort_of s.0);
          right = closed_formula d q.right h.asked.pair.right (ap sort_of s.1);
          first_formula = (join_left d q.left c op w.left v.left i.pair.left.held s.0).ground.sort;
          second_formula = (join_right d q.left c op w.left v.left j.pair.left.held s.0).ground.sort;
          left_is = s.0;
          right_is = s.1;
        }),
      )
  joins (w ∷ v ∷ u ∷ us) h op a = absurd (omega (arith, join_count d.task q.number L R op a.0 a.1.0 (links_at d.trees (w ∷ v ∷ u ∷ us)) a.1.1 h.parts))

  pub equations : (ws : List Link) → HasLinkedParts d q ws → (a : Tree) × ((c : Tree) × (L ≡ Two HEq a c)) → (1 < length ws) × ((x y : Link) → AreEquations (get_or ws 0 x) (get_or ws 1 y))
  equations [] h a = absurd (omega (arith, equal_count d.task q.number L R a.0 a.1.0 (links_at d.trees []) a.1.1 h.parts))
  equations (w ∷ []) h a = absurd (omega (arith, equal_count d.task q.number L R a.0 a.1.0 (links_at d.trees (w ∷ [])) a.1.1 h.parts))
  equations (w ∷ v ∷ []) h a =
      let s = equal_is d.task q.number L R a.0 a.1.0 (tree_at d.trees w.left) (tree_at d.trees w.right) (tree_at d.trees v.left) (tree_at d.trees v.right) a.1.1 h.parts in
      let t = equal_terms d q.left h.asked.pair.left w.left v.left s.0 in (
        omega arith,
        (λ x y. record {
          first = All-head (IsShownLink d) w (v ∷ []) h.linked;
          second = All-head (IsShownLink d) v [] (All-tail (IsShownLink d) w (v ∷ []) h.linked);
          left = closed_formula d q.left h.asked.pair.left (ap sort_of s.0);
          right = closed_formula d q.right h.asked.pair.right (ap sort_of s.1);
          first_term = t.0;
          second_term = t.1;
          left_is = s.0;
          right_is = s.1;
        }),
      )
  equations (w ∷ v ∷ u ∷ us) h a = absurd (omega (arith, equal_count d.task q.number L R a.0 a.1.0 (links_at d.trees (w ∷ v ∷ u ∷ us)) a.1.1 h.parts))

  pub ifs : (ws : List Link) → HasLinkedParts d q ws → (c : Tree) × ((a : Tree) × ((b : Tree) × (L ≡ Three HIf c a b))) → (2 < length ws) × ((x y z : Link) → AreIfs (get_or ws 0 x) (get_or ws 1 y) (get_or ws 2 z))
  ifs [] h a = absurd (omega (arith, if_count d.task q.number L R a.0 a.1.0 a.1.1.0 (links_at d.trees []) a.1.1.1 h.parts))
  ifs (w ∷ []) h a = absurd (omega (arith, if_count d.task q.number L R a.0 a.1.0 a.1.1.0 (links_at d.trees (w ∷ [])) a.1.1.1 h.parts))
  ifs (w ∷ v ∷ []) h a = absurd (omega (arith, if_count d.task q.number L R a.0 a.1.0 a.1.1.0 (links_at d.trees (w ∷ v ∷ [])) a.1.1.1 h.parts))
  ifs (w ∷ v ∷ u ∷ []) h a =
      let s = if_is d.task q.number L R a.0 a.1.0 a.1.1.0 (tree_at d.trees w.left) (tree_at d.trees w.right) (tree_at d.trees v.left) (tree_at d.trees v.right) (tree_at d.trees u.left) (tree_at d.trees u.right) a.1.1.1 h.parts in
      let i = All-head (IsShownLink d) w (v ∷ u ∷ []) h.linked in
      let t = All-tail (IsShownLink d) w (v ∷ u ∷ []) h.linked in
      let j = All-head (IsShownLink d) v (u ∷ []) t in
      let k = All-head (IsShownLink d) u [] (All-tail (IsShownLink d) v (u ∷ []) t) in (
        omega arith,
        (λ x y z. record {
          condition = i;
          then_part = j;
          else_part = k;
          left = if_parts d (case_with q.left w.left v.left u.left) h.asked.pair.left s.0 i.pair.left.held j.pair.left.held k.pair.left.held;
          right = if_parts d (case_with q.right w.right v.right u.right) h.asked.pair.right s.1 i.pair.right.held j.pair.right.held k.pair.right.held;
          left_is = s.0;
          right_is = s.1;
        }),
      )
  ifs (w ∷ v ∷ u ∷ o ∷ os) h a = absurd (omega (arith, if_count d.task q.number L R a.0 a.1.0 a.1.1.0 (links_at d.trees (w ∷ v ∷ u ∷ o ∷ os)) a.1.1.1 h.parts))

  one_link : (ws : List Link) → HasLinkedParts d q ws → length (links_at d.trees ws) ≡ 1 → (0 < length ws) × ((x : Link) → HasOneLink (get_or ws 0 x))
  one_link [] h n = absurd (omega (arith, n))
  one_link (w ∷ []) h n = (omega arith, (λ x. record { shown = All-head (IsShownLink d) w [] h.linked; parts = h.parts }))
  one_link (w ∷ v ∷ vs) h n = absurd (omega (arith, n))

  pub under_link : (ws : List Link) → HasLinkedParts d q ws → (u : Bool) (ty a : Tree) → L ≡ Two (quantifier_head u) ty a → (0 < length ws) × ((x : Link) → HasOneLink (get_or ws 0 x))
  under_link ws h u ty a e = one_link ws h (under_count d.task q.number L R u ty a (links_at d.trees ws) e h.parts)

  pub let_link : (ws : List Link) → HasLinkedParts d q ws → (v a : Tree) → L ≡ Two HLet v a → (0 < length ws) × ((x : Link) → HasOneLink (get_or ws 0 x))
  let_link ws h v a e = one_link ws h (let_count d.task q.number L R v a (links_at d.trees ws) e h.parts)
