-- The parts of two negations, connectives, equations and `if`s are pairs of closed expressions, asked before the whole is answered.
use Rattle.std.proofs.Common.{◌≡◌, ℕ, ◌<◌, ◌≤◌, inl, inr, List, [], ◌∷◌, All, refl, sym, ap, subst, ◌∙◌, arith}
use Rattle.std.proofs.lemmas.List.Elements.{All-cons, All-nil}
use Rattle.trees.specs.declared.TermId.{TermId}
use Rattle.trees.specs.declared.Op.{Op}
use Rattle.trees.specs.declared.Sort.TheVariants.{Term, Formula}
use Rattle.trees.specs.Tree.{Tree, One, Two, Three, HNot, HJoin, HEq, HIf, above_params, loose}
use Rattle.trees.specs.Node.{tree_at, Holds}
use Rattle.trees.specs.Sorts.{sort_of, type_of}
use Rattle.tasks.specs.Vocabulary.{of_task}
use Rattle.tasks.specs.Typing.{TypedUnder}
use Rattle.tasks.specs.Valid.{IsGround}
use Rattle.evidence.specs.Drafts.{DraftTree, IsFormulaAt}
use Rattle.congruence.specs.Alike.{IsClosedAt, ArePair}
use Rattle.congruence.proofs.CaseParts.{formula_pair, parts_pair, if_parts}
use Rattle.agreement.specs.declared.questions.Question.{Question}
use Rattle.agreement.specs.Ranks.{rank, zero_ranks, ranks_put}
use Rattle.agreement.specs.Agreement.{ArePartsOf, number_under}
use Rattle.agreement.specs.Questions.{IsAsked, IsLower, AreQuestions, questions_at}
use Rattle.agreement.proofs.Ranks.{rank_more}
use Rattle.agreement.proofs.PartLists.{Pairs}

abbrev pub question : TermId → TermId → ℕ → Question
question a b n = record { left = a; right = b; number = n }

-- the least ranks of variables
pub rank_zeros : (e : Tree) (w : ℕ) (env : ℕ → ℕ) → rank e zero_ranks w ≤ rank e env w
rank_zeros e w env = rank_more e (loose e) w w zero_ranks env (omega arith) (λ i l. omega arith) (omega arith)

-- ---- the parts of a closed expression
pub formula_at : (d : DraftTree) (id : TermId) → Holds d.trees id → sort_of (tree_at d.trees id) ≡ Formula → TypedUnder (of_task d.task) [] (tree_at d.trees id) → IsGround (tree_at d.trees id) → IsFormulaAt d id
formula_at d id h s t g = record { held = h; ground = record { sort = s; typed = t; ground = g } }

pub term_at : (d : DraftTree) (id : TermId) → Holds d.trees id → sort_of (tree_at d.trees id) ≡ Term → TypedUnder (of_task d.task) [] (tree_at d.trees id) → IsGround (tree_at d.trees id) → IsClosedAt d id
term_at d id h s t g = record { held = h; ground = record { sort = inl s; typed = t; ground = g } }

module _ (d : DraftTree) (id : TermId) (c : IsClosedAt d id) where
  typed_as : (e : Tree) → tree_at d.trees id ≡ e → TypedUnder (of_task d.task) [] e
  typed_as e q = subst (TypedUnder (of_task d.task) []) q c.ground.typed

  ground_as : (e : Tree) → tree_at d.trees id ≡ e → IsGround e
  ground_as e q = subst IsGround q c.ground.ground

  pub under_not : (a : TermId) → Holds d.trees a → tree_at d.trees id ≡ One HNot (tree_at d.trees a) → IsFormulaAt d a
  under_not a h q = let x = typed_as (One HNot (tree_at d.trees a)) q in formula_at d a h x.0 x.2 (ground_as (One HNot (tree_at d.trees a)) q)

  pub join_left : (op : Op) (a b : TermId) → Holds d.trees a → tree_at d.trees id ≡ Two (HJoin op) (tree_at d.trees a) (tree_at d.trees b) → IsFormulaAt d a
  join_left op a b h q = let x = typed_as (Two (HJoin op) (tree_at d.trees a) (tree_at d.trees b)) q in formula_at d a h x.0.0.0 x.2 (ground_as (Two (HJoin op) (tree_at d.trees a) (tree_at d.trees b)) q).0

  pub join_right : (op : Op) (a b : TermId) → Holds d.trees b → tree_at d.trees id ≡ Two (HJoin op) (tree_at d.trees a) (tree_at d.trees b) → IsFormulaAt d b
  join_right op a b h q = let x = typed_as (Two (HJoin op) (tree_at d.trees a) (tree_at d.trees b)) q in formula_at d b h x.0.0.1 x.3 (ground_as (Two (HJoin op) (tree_at d.trees a) (tree_at d.trees b)) q).1

  pub equal_left : (a b : TermId) → Holds d.trees a → tree_at d.trees id ≡ Two HEq (tree_at d.trees a) (tree_at d.trees b) → IsClosedAt d a
  equal_left a b h q = let x = typed_as (Two HEq (tree_at d.trees a) (tree_at d.trees b)) q in term_at d a h x.0.0.0 x.2 (ground_as (Two HEq (tree_at d.trees a) (tree_at d.trees b)) q).0

  pub equal_right : (a b : TermId) → Holds d.trees b → tree_at d.trees id ≡ Two HEq (tree_at d.trees a) (tree_at d.trees b) → IsClosedAt d b
  equal_right a b h q = let x = typed_as (Two HEq (tree_at d.trees a) (tree_at d.trees b)) q in term_at d b h x.0.0.1 x.3 (ground_as (Two HEq (tree_at d.trees a) (tree_at d.trees b)) q).1

  pub equal_terms : (a b : TermId) → tree_at d.trees id ≡ Two HEq (tree_at d.trees a) (tree_at d.trees b) → (sort_of (tree_at d.trees a) ≡ Term) × (sort_of (tree_at d.trees b) ≡ Term) × (type_of (tree_at d.trees a) ≡ type_of (tree_at d.trees b))
  equal_terms a b q = let x = typed_as (Two HEq (tree_at d.trees a) (tree_at d.trees b)) q in (x.0.0.0, x.0.0.1, x.1)

term_pair : (d : DraftTree) (a b : TermId) → IsClosedAt d a → IsClosedAt d b → sort_of (tree_at d.trees a) ≡ Term → sort_of (tree_at d.trees b) ≡ Term → type_of (tree_at d.trees b) ≡ type_of (tree_at d.trees a) → ArePair d a b
term_pair d a b ca cb sa sb q = record { left = ca; right = cb; sort = sb ∙ sym sa; type = q }

-- ---- one, two and three questions
module _ (d : DraftTree) (q : Question) where
  L : Tree
  L = tree_at d.trees q.left

  pub one_part : (p : Question) → IsAsked d p → p.number ≡ number_under q.number (tree_at d.trees q.left) → IsLower d.trees p q → ArePartsOf d.task q.number (tree_at d.trees q.left) (tree_at d.trees q.right) (questions_at d.trees (p ∷ [])) → AreQuestions d q (p ∷ [])
  one_part p a n l x = record {
    asked = All-cons (IsAsked d) p [] a (All-nil (IsAsked d));
    numbers = All-cons (λ (z : Question). z.number ≡ number_under q.number (tree_at d.trees q.left)) p [] n (All-nil (λ (z : Question). z.number ≡ number_under q.number (tree_at d.trees q.left)));
    parts = x;
    lower = All-cons (λ (z : Question). IsLower d.trees z q) p [] l (All-nil (λ (z : Question). IsLower d.trees z q));
  }

  pub more_parts : (p : Question) (ps : List Question) → IsAsked d p → All (IsAsked d) ps → p.number ≡ number_under q.number (tree_at d.trees q.left) → All (λ z. z.number ≡ number_under q.number (tree_at d.trees q.left)) ps
      → IsLower d.trees p q → All (λ z. IsLower d.trees z q) ps → ArePartsOf d.task q.number (tree_at d.trees q.left) (tree_at d.trees q.right) (questions_at d.trees (p ∷ ps)) → AreQuestions d q (p ∷ ps)
  more_parts p ps a as' n ns l ls x = record {
    asked = All-cons (IsAsked d) p ps a as';
    numbers = All-cons (λ (z : Question). z.number ≡ number_under q.number (tree_at d.trees q.left)) p ps n ns;
    parts = x;
    lower = All-cons (λ (z : Question). IsLower d.trees z q) p ps l ls;
  }

  pub two_parts : (p s : Question) → IsAsked d p → IsAsked d s → p.number ≡ number_under q.number (tree_at d.trees q.left) → s.number ≡ number_under q.number (tree_at d.trees q.left)
      → IsLower d.trees p q → IsLower d.trees s q → ArePartsOf d.task q.number (tree_at d.trees q.left) (tree_at d.trees q.right) (questions_at d.trees (p ∷ s ∷ [])) → AreQuestions d q (p ∷ s ∷ [])
  two_parts p s a b n m l k x =
      more_parts p (s ∷ []) a (All-cons (IsAsked d) s [] b (All-nil (IsAsked d))) n (All-cons (λ (z : Question). z.number ≡ number_under q.number (tree_at d.trees q.left)) s [] m (All-nil (λ (z : Question). z.number ≡ number_under q.number (tree_at d.trees q.left)))) l (All-cons (λ (z : Question). IsLower d.trees z q) s [] k (All-nil (λ (z : Question). IsLower d.trees z q))) x

-- ---- by operators
module _ (d : DraftTree) (q : Question) (i : IsAsked d q) where
  same_number : (e : Tree) → tree_at d.trees q.left ≡ e → number_under q.number e ≡ q.number → q.number ≡ number_under q.number (tree_at d.trees q.left)
  same_number e p n = sym (ap (number_under q.number) p ∙ n)

  above_left : (e : Tree) → tree_at d.trees q.left ≡ e → above_params e ≤ q.number
  above_left e p = subst (λ (z : Tree). above_params z ≤ q.number) p i.left_above

  above_right : (e : Tree) → tree_at d.trees q.right ≡ e → above_params e ≤ q.number
  above_right e p = subst (λ (z : Tree). above_params z ≤ q.number) p i.right_above

  lower : (a b : TermId) (e : Tree) → tree_at d.trees q.left ≡ e → rank (tree_at d.trees a) zero_ranks 0 ≤ rank e zero_ranks 0 → a.0 < q.left.0 → IsLower d.trees (question a b q.number) q
  lower a b e p r l = inr (subst (λ (z : Tree). rank (tree_at d.trees a) zero_ranks 0 ≤ rank z zero_ranks 0) (sym p) r, l)

  parts_as : (l r : Tree) (ps : Pairs) → tree_at d.trees q.left ≡ l → tree_at d.trees q.right ≡ r → ArePartsOf d.task q.number (tree_at d.trees q.left) (tree_at d.trees q.right) ps → ArePartsOf d.task q.number l r ps
  parts_as l r ps p s x = subst (λ (z : Tree). ArePartsOf d.task q.number l z ps) s (subst (λ (z : Tree). ArePartsOf d.task q.number z (tree_at d.trees q.right) ps) p x)

  parts_from : (l r : Tree) (ps : Pairs) → tree_at d.trees q.left ≡ l → tree_at d.trees q.right ≡ r → ArePartsOf d.task q.number l r ps → ArePartsOf d.task q.number (tree_at d.trees q.left) (tree_at d.trees q.right) ps
  parts_from l r ps p s x = subst (λ (z : Tree). ArePartsOf d.task q.number (tree_at d.trees q.left) z ps) (sym s) (subst (λ (z : Tree). ArePartsOf d.task q.number z r ps) (sym p) x)

  pub not_asked : (a b : TermId) → Holds d.trees a → Holds d.trees b → tree_at d.trees q.left ≡ One HNot (tree_at d.trees a) → tree_at d.trees q.right ≡ One HNot (tree_at d.trees b) → a.0 < q.left.0 → AreQuestions d q (question a b q.number ∷ [])
  not_asked a b ha hb ql qr l =
      let A = tree_at d.trees a in
      let B = tree_at d.trees b in
      one_part d q (question a b q.number)
      (record { pair = formula_pair d a b (under_not d q.left i.pair.left a ha ql) (under_not d q.right i.pair.right b hb qr); left_above = above_left (One HNot A) ql; right_above = above_right (One HNot B) qr })
      (same_number (One HNot A) ql refl) (lower a b (One HNot A) ql (omega arith) l) (parts_from (One HNot A) (One HNot B) ((A, B) ∷ []) ql qr refl)

  pub join_asked : (op op2 : Op) (a c b e : TermId) → Holds d.trees a → Holds d.trees c → Holds d.trees b → Holds d.trees e
      → tree_at d.trees q.left ≡ Two (HJoin op) (tree_at d.trees a) (tree_at d.trees c) → tree_at d.trees q.right ≡ Two (HJoin op2) (tree_at d.trees b) (tree_at d.trees e) → a.0 < q.left.0 → c.0 < q.left.0
      → (ps : Pairs) → ArePartsOf d.task q.number (tree_at d.trees q.left) (tree_at d.trees q.right) ps → AreQuestions d q (question a b q.number ∷ question c e q.number ∷ [])
  join_asked op op2 a c b e ha hc hb he ql qr la lc ps x =
      let A = tree_at d.trees a in
      let B = tree_at d.trees b in
      let C = tree_at d.trees c in
      let E = tree_at d.trees e in
      let w = parts_as (Two (HJoin op) A C) (Two (HJoin op2) B E) ps ql qr x in
      let al = above_left (Two (HJoin op) A C) ql in
      let ar = above_right (Two (HJoin op2) B E) qr in
      let z = rank_zeros C 0 (ranks_put 0 0 zero_ranks) in
      two_parts d q (question a b q.number) (question c e q.number)
      (record { pair = formula_pair d a b (join_left d q.left i.pair.left op a c ha ql) (join_left d q.right i.pair.right op2 b e hb qr); left_above = omega (arith, al); right_above = omega (arith, ar) })
      (record { pair = formula_pair d c e (join_right d q.left i.pair.left op a c hc ql) (join_right d q.right i.pair.right op2 b e he qr); left_above = omega (arith, al); right_above = omega (arith, ar) })
      (same_number (Two (HJoin op) A C) ql refl) (same_number (Two (HJoin op) A C) ql refl)
      (lower a b (Two (HJoin op) A C) ql (omega arith) la) (lower c e (Two (HJoin op) A C) ql (omega (arith, z)) lc)
      (parts_from (Two (HJoin op) A C) (Two (HJoin op2) B E) ((A, B) ∷ (C, E) ∷ []) ql qr (w.0, refl))

  pub equal_asked : (a c b e : TermId) → Holds d.trees a → Holds d.trees c → Holds d.trees b → Holds d.trees e
      → tree_at d.trees q.left ≡ Two HEq (tree_at d.trees a) (tree_at d.trees c) → tree_at d.trees q.right ≡ Two HEq (tree_at d.trees b) (tree_at d.trees e) → a.0 < q.left.0 → c.0 < q.left.0
      → (ps : Pairs) → ArePartsOf d.task q.number (tree_at d.trees q.left) (tree_at d.trees q.right) ps → AreQuestions d q (question a b q.number ∷ question c e q.number ∷ [])
  equal_asked a c b e ha hc hb he ql qr la lc ps x =
      let A = tree_at d.trees a in
      let B = tree_at d.trees b in
      let C = tree_at d.trees c in
      let E = tree_at d.trees e in
      let w = parts_as (Two HEq A C) (Two HEq B E) ps ql qr x in
      let al = above_left (Two HEq A C) ql in
      let ar = above_right (Two HEq B E) qr in
      let z = rank_zeros C 0 (ranks_put 0 0 zero_ranks) in
      let tl = equal_terms d q.left i.pair.left a c ql in
      let tr = equal_terms d q.right i.pair.right b e qr in
      two_parts d q (question a b q.number) (question c e q.number)
      (record { pair = term_pair d a b (equal_left d q.left i.pair.left a c ha ql) (equal_left d q.right i.pair.right b e hb qr) tl.0 tr.0 w.0; left_above = omega (arith, al); right_above = omega (arith, ar) })
      (record { pair = term_pair d c e (equal_right d q.left i.pair.left a c hc ql) (equal_right d q.right i.pair.right b e he qr) tl.1 tr.1 (sym tr.2 ∙ w.0 ∙ tl.2); left_above = omega (arith, al); right_above = omega (arith, ar) })
      (same_number (Two HEq A C) ql refl) (same_number (Two HEq A C) ql refl)
      (lower a b (Two HEq A C) ql (omega arith) la) (lower c e (Two HEq A C) ql (omega (arith, z)) lc)
      (parts_from (Two HEq A C) (Two HEq B E) ((A, B) ∷ (C, E) ∷ []) ql qr (w.0, refl))

  pub if_asked : (c a b k x y : TermId) → Holds d.trees c → Holds d.trees a → Holds d.trees b → Holds d.trees k → Holds d.trees x → Holds d.trees y
      → tree_at d.trees q.left ≡ Three HIf (tree_at d.trees c) (tree_at d.trees a) (tree_at d.trees b) → tree_at d.trees q.right ≡ Three HIf (tree_at d.trees k) (tree_at d.trees x) (tree_at d.trees y)
      → c.0 < q.left.0 → a.0 < q.left.0 → b.0 < q.left.0 → AreQuestions d q (question c k q.number ∷ question a x q.number ∷ question b y q.number ∷ [])
  if_asked c a b k x y hc ha hb hk hx hy ql qr lc la lb =
      let C = tree_at d.trees c in
      let A = tree_at d.trees a in
      let B = tree_at d.trees b in
      let K = tree_at d.trees k in
      let X = tree_at d.trees x in
      let Y = tree_at d.trees y in
      let al = above_left (Three HIf C A B) ql in
      let ar = above_right (Three HIf K X Y) qr in
      let one = if_parts d (record { whole = q.left; condition = c; then_part = a; else_part = b }) i.pair.left ql hc ha hb in
      let two = if_parts d (record { whole = q.right; condition = k; then_part = x; else_part = y }) i.pair.right qr hk hx hy in
      let n = same_number (Three HIf C A B) ql refl in
      let N : Question → Type 0 = λ z. z.number ≡ number_under q.number (tree_at d.trees q.left) in
      let W : Question → Type 0 = λ z. IsLower d.trees z q in
      let p1 = question a x q.number in
      let p2 = question b y q.number in
      let i1 : IsAsked d p1 = record { pair = parts_pair d q.left q.right a x i.pair one.then_part two.then_part; left_above = omega (arith, al); right_above = omega (arith, ar) } in
      let i2 : IsAsked d p2 = record { pair = parts_pair d q.left q.right b y i.pair one.else_part two.else_part; left_above = omega (arith, al); right_above = omega (arith, ar) } in
      more_parts d q (question c k q.number) (p1 ∷ p2 ∷ [])
      (record { pair = formula_pair d c k one.condition two.condition; left_above = omega (arith, al); right_above = omega (arith, ar) })
      (All-cons (IsAsked d) p1 (p2 ∷ []) i1 (All-cons (IsAsked d) p2 [] i2 (All-nil (IsAsked d))))
      n (All-cons N p1 (p2 ∷ []) n (All-cons N p2 [] n (All-nil N)))
      (lower c k (Three HIf C A B) ql (omega arith) lc)
      (All-cons W p1 (p2 ∷ []) (lower a x (Three HIf C A B) ql (omega arith) la) (All-cons W p2 [] (lower b y (Three HIf C A B) ql (omega arith) lb) (All-nil W)))
      (parts_from (Three HIf C A B) (Three HIf K X Y) ((C, K) ∷ (A, X) ∷ (B, Y) ∷ []) ql qr refl)
