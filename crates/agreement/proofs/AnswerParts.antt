-- What two expressions of one operator are, by their parts.
use Rattle.std.proofs.Common.{◌≡◌, ℕ, Bool, true, false, length, [], ◌∷◌, Some, IsSomeAnd, refl, sym, ap, subst, ◌∙◌}
use Rattle.trees.specs.declared.Op.{Op}
use Rattle.trees.specs.Tree.{Tree, HEnd, Leaf, One, Two, Three, HNot, HJoin, HEq, HForall, HExists, HLet, HIf}
use Rattle.trees.specs.Binding.{inst, Param}
use Rattle.trees.specs.Sorts.{type_of}
use Rattle.tasks.specs.Task.{TaskTree, neg}
use Rattle.congruence.specs.kernel.rules.Forms.{negated, connected, universal, existential, equation_sides, let_of, if_of}
use Rattle.congruence.specs.Quantifiers.{quantifier_head}
use Rattle.agreement.specs.Agreement.{ArePartsOf}
use Rattle.agreement.proofs.PartLists.{Pairs}

neg_of : (r : Tree) (P : Tree → Type 0) → IsSomeAnd (negated (Some r)) P → (b : Tree) × ((r ≡ One HNot b) × P b)
neg_of (One HNot b) P p = (b, (refl, p))
neg_of (Leaf _) P p = absurd p
neg_of (One _ b) P p = absurd p
neg_of (Two _ a b) P p = absurd p
neg_of (Three _ a b c) P p = absurd p

join_of : (r : Tree) (P : Op × Tree × Tree → Type 0) → IsSomeAnd (connected (Some r)) P → (op : Op) × ((b : Tree) × ((e : Tree) × ((r ≡ Two (HJoin op) b e) × P (op, b, e))))
join_of (Two (HJoin op) b e) P p = (op, (b, (e, (refl, p))))
join_of (Leaf _) P p = absurd p
join_of (One _ b) P p = absurd p
join_of (Two _ a b) P p = absurd p
join_of (Three _ a b c) P p = absurd p

equal_of : (r : Tree) (P : Tree × Tree → Type 0) → IsSomeAnd (equation_sides (Some r)) P → (b : Tree) × ((e : Tree) × ((r ≡ Two HEq b e) × P (b, e)))
equal_of (Two HEq b e) P p = (b, (e, (refl, p)))
equal_of (Leaf _) P p = absurd p
equal_of (One _ b) P p = absurd p
equal_of (Two _ a b) P p = absurd p
equal_of (Three _ a b c) P p = absurd p

forall_of : (r : Tree) (P : Tree × Tree → Type 0) → IsSomeAnd (universal (Some r)) P → (b : Tree) × ((e : Tree) × ((r ≡ Two HForall b e) × P (b, e)))
forall_of (Two HForall b e) P p = (b, (e, (refl, p)))
forall_of (Leaf _) P p = absurd p
forall_of (One _ b) P p = absurd p
forall_of (Two _ a b) P p = absurd p
forall_of (Three _ a b c) P p = absurd p

exists_of : (r : Tree) (P : Tree × Tree → Type 0) → IsSomeAnd (existential (Some r)) P → (b : Tree) × ((e : Tree) × ((r ≡ Two HExists b e) × P (b, e)))
exists_of (Two HExists b e) P p = (b, (e, (refl, p)))
exists_of (Leaf _) P p = absurd p
exists_of (One _ b) P p = absurd p
exists_of (Two _ a b) P p = absurd p
exists_of (Three _ a b c) P p = absurd p

let_in : (r : Tree) (P : Tree × Tree → Type 0) → IsSomeAnd (let_of r) P → (b : Tree) × ((e : Tree) × ((r ≡ Two HLet b e) × P (b, e)))
let_in (Two HLet b e) P p = (b, (e, (refl, p)))
let_in (Leaf _) P p = absurd p
let_in (One _ b) P p = absurd p
let_in (Two _ a b) P p = absurd p
let_in (Three _ a b c) P p = absurd p

if_in : (r : Tree) (P : Tree × Tree × Tree → Type 0) → IsSomeAnd (if_of r) P → (c : Tree) × ((a : Tree) × ((b : Tree) × ((r ≡ Three HIf c a b) × P (c, a, b))))
if_in (Three HIf c a b) P p = (c, (a, (b, (refl, p))))
if_in (Leaf _) P p = absurd p
if_in (One _ b) P p = absurd p
if_in (Two _ a b) P p = absurd p
if_in (Three _ a b c) P p = absurd p

-- equal lists of pairs
abbrev one_pair : Tree → Tree → Pairs
one_pair x y = (x, y) ∷ []

abbrev two_pairs : Tree → Tree → Tree → Tree → Pairs
two_pairs x y z w = (x, y) ∷ (z, w) ∷ []

abbrev three_pairs : Tree → Tree → Tree → Tree → Tree → Tree → Pairs
three_pairs x y z w u v = (x, y) ∷ (z, w) ∷ (u, v) ∷ []

abbrev head_pair : Pairs → Tree × Tree
head_pair [] = (Leaf HEnd, Leaf HEnd)
head_pair (p ∷ ps) = p

abbrev tail_pairs : Pairs → Pairs
tail_pairs [] = []
tail_pairs (p ∷ ps) = ps

one_same : (x y a b : Tree) → one_pair x y ≡ one_pair a b → (x ≡ a) × (y ≡ b)
one_same x y a b q = (ap (λ (z : Pairs). (head_pair z).0) q, ap (λ (z : Pairs). (head_pair z).1) q)

two_same : (x y z w a b c e : Tree) → two_pairs x y z w ≡ two_pairs a b c e → ((x ≡ a) × (y ≡ b)) × ((z ≡ c) × (w ≡ e))
two_same x y z w a b c e q = ((ap (λ (z : Pairs). (head_pair z).0) q, ap (λ (z : Pairs). (head_pair z).1) q), (ap (λ (z : Pairs). (head_pair (tail_pairs z)).0) q, ap (λ (z : Pairs). (head_pair (tail_pairs z)).1) q))

three_same : (x y z w u v a b c e f g : Tree) → three_pairs x y z w u v ≡ three_pairs a b c e f g → ((x ≡ a) × (y ≡ b)) × (((z ≡ c) × (w ≡ e)) × ((u ≡ f) × (v ≡ g)))
three_same x y z w u v a b c e f g q = ((ap (λ (z : Pairs). (head_pair z).0) q, ap (λ (z : Pairs). (head_pair z).1) q), ((ap (λ (z : Pairs). (head_pair (tail_pairs z)).0) q, ap (λ (z : Pairs). (head_pair (tail_pairs z)).1) q), (ap (λ (z : Pairs). (head_pair (tail_pairs (tail_pairs z))).0) q, ap (λ (z : Pairs). (head_pair (tail_pairs (tail_pairs z))).1) q)))

module _ (t : TaskTree) (n : ℕ) (l r : Tree) where
  here : (e : Tree) (ps : Pairs) → l ≡ e → ArePartsOf t n l r ps → ArePartsOf t n e r ps
  here e ps q p = subst (λ (z : Tree). ArePartsOf t n z r ps) q p

  pub not_is : (a x y : Tree) → l ≡ One HNot a → ArePartsOf t n l r (one_pair x y) → (l ≡ neg x) × (r ≡ neg y)
  not_is a x y q p =
      let m = neg_of r (λ b. one_pair x y ≡ one_pair a b) (here (One HNot a) (one_pair x y) q p) in
      let s = one_same x y a m.0 m.1.1 in
      (q ∙ ap neg (sym s.0), m.1.0 ∙ ap neg (sym s.1))

  pub join_is : (op : Op) (a c x y z w : Tree) → l ≡ Two (HJoin op) a c → ArePartsOf t n l r (two_pairs x y z w) → (l ≡ Two (HJoin op) x z) × (r ≡ Two (HJoin op) y w)
  join_is op a c x y z w q p =
      let m = join_of r (λ k. (k.0 ≡ op) × (two_pairs x y z w ≡ two_pairs a k.1 c k.2)) (here (Two (HJoin op) a c) (two_pairs x y z w) q p) in
      let o : m.0 ≡ op = m.1.1.1.1.0 in
      let s = two_same x y z w a m.1.0 c m.1.1.0 m.1.1.1.1.1 in
      (q ∙ cc (s.0.0, s.1.0), m.1.1.1.0 ∙ cc (o, s.0.1, s.1.1))

  pub equal_is : (a c x y z w : Tree) → l ≡ Two HEq a c → ArePartsOf t n l r (two_pairs x y z w) → (l ≡ Two HEq x z) × (r ≡ Two HEq y w)
  equal_is a c x y z w q p =
      let m = equal_of r (λ k. (type_of k.0 ≡ type_of a) × (two_pairs x y z w ≡ two_pairs a k.0 c k.1)) (here (Two HEq a c) (two_pairs x y z w) q p) in
      let s = two_same x y z w a m.0 c m.1.0 m.1.1.1.1 in
      (q ∙ cc (s.0.0, s.1.0), m.1.1.0 ∙ cc (s.0.1, s.1.1))

  pub if_is : (c a b x y z w u v : Tree) → l ≡ Three HIf c a b → ArePartsOf t n l r (three_pairs x y z w u v) → (l ≡ Three HIf x z u) × (r ≡ Three HIf y w v)
  if_is c a b x y z w u v q p =
      let m = if_in r (λ k. three_pairs x y z w u v ≡ three_pairs c k.0 a k.1 b k.2) (here (Three HIf c a b) (three_pairs x y z w u v) q p) in
      let s = three_same x y z w u v c m.0 a m.1.0 b m.1.1.0 m.1.1.1.1 in
      (q ∙ cc (s.0.0, s.1.0.0, s.1.1.0), m.1.1.1.0 ∙ cc (s.0.1, s.1.0.1, s.1.1.1))

  pub let_is : (v a x y : Tree) → l ≡ Two HLet v a → ArePartsOf t n l r (one_pair x y) → (x ≡ inst a v) × ((w : Tree) × ((b : Tree) × ((r ≡ Two HLet w b) × (y ≡ inst b w))))
  let_is v a x y q p =
      let m = let_in r (λ k. one_pair x y ≡ one_pair (inst a v) (inst k.1 k.0)) (here (Two HLet v a) (one_pair x y) q p) in
      let s = one_same x y (inst a v) (inst m.1.0 m.0) m.1.1.1 in
      (s.0, (m.0, (m.1.0, (m.1.1.0, s.1))))

  pub under_is : (u : Bool) (ty a x y : Tree) → l ≡ Two (quantifier_head u) ty a → ArePartsOf t n l r (one_pair x y) → (x ≡ inst a (Param n ty)) × ((b : Tree) × ((r ≡ Two (quantifier_head u) ty b) × (y ≡ inst b (Param n ty))))
  under_is true ty a x y q p =
      let m = forall_of r (λ k. (k.0 ≡ ty) × (one_pair x y ≡ one_pair (inst a (Param n ty)) (inst k.1 (Param n ty)))) (here (Two HForall ty a) (one_pair x y) q p) in
      let s = one_same x y (inst a (Param n ty)) (inst m.1.0 (Param n ty)) m.1.1.1.1 in
      (s.0, (m.1.0, (m.1.1.0 ∙ ap (λ (z : Tree). Two HForall z m.1.0) m.1.1.1.0, s.1)))
  under_is false ty a x y q p =
      let m = exists_of r (λ k. (k.0 ≡ ty) × (one_pair x y ≡ one_pair (inst a (Param n ty)) (inst k.1 (Param n ty)))) (here (Two HExists ty a) (one_pair x y) q p) in
      let s = one_same x y (inst a (Param n ty)) (inst m.1.0 (Param n ty)) m.1.1.1.1 in
      (s.0, (m.1.0, (m.1.1.0 ∙ ap (λ (z : Tree). Two HExists z m.1.0) m.1.1.1.0, s.1)))

  -- a quantifier of the same type
  pub under_shape : (u : Bool) (ty a : Tree) (ps : Pairs) → l ≡ Two (quantifier_head u) ty a → ArePartsOf t n l r ps → (b : Tree) × (r ≡ Two (quantifier_head u) ty b)
  under_shape true ty a ps q p =
      let m = forall_of r (λ k. (k.0 ≡ ty) × (ps ≡ one_pair (inst a (Param n ty)) (inst k.1 (Param n ty)))) (here (Two HForall ty a) ps q p) in
      (m.1.0, m.1.1.0 ∙ ap (λ (z : Tree). Two HForall z m.1.0) m.1.1.1.0)
  under_shape false ty a ps q p =
      let m = exists_of r (λ k. (k.0 ≡ ty) × (ps ≡ one_pair (inst a (Param n ty)) (inst k.1 (Param n ty)))) (here (Two HExists ty a) ps q p) in
      (m.1.0, m.1.1.0 ∙ ap (λ (z : Tree). Two HExists z m.1.0) m.1.1.1.0)

  -- the right side, where it is known
  pub let_right : (v a w b x y : Tree) → l ≡ Two HLet v a → r ≡ Two HLet w b → ArePartsOf t n l r (one_pair x y) → y ≡ inst b w
  let_right v a w b x y q e p = (one_same x y (inst a v) (inst b w) (subst (λ (z : Tree). ArePartsOf t n (Two HLet v a) z (one_pair x y)) e (here (Two HLet v a) (one_pair x y) q p))).1

  pub under_right : (u : Bool) (ty a b x y : Tree) → l ≡ Two (quantifier_head u) ty a → r ≡ Two (quantifier_head u) ty b → ArePartsOf t n l r (one_pair x y) → y ≡ inst b (Param n ty)
  under_right true ty a b x y q e p = (one_same x y (inst a (Param n ty)) (inst b (Param n ty)) (subst (λ (z : Tree). ArePartsOf t n (Two HForall ty a) z (one_pair x y)) e (here (Two HForall ty a) (one_pair x y) q p)).1).1
  under_right false ty a b x y q e p = (one_same x y (inst a (Param n ty)) (inst b (Param n ty)) (subst (λ (z : Tree). ArePartsOf t n (Two HExists ty a) z (one_pair x y)) e (here (Two HExists ty a) (one_pair x y) q p)).1).1

  -- how many parts there are
  pub not_count : (a : Tree) (ps : Pairs) → l ≡ One HNot a → ArePartsOf t n l r ps → length ps ≡ 1
  not_count a ps q p = let m = neg_of r (λ b. ps ≡ one_pair a b) (here (One HNot a) ps q p) in ap length m.1.1

  pub join_count : (op : Op) (a c : Tree) (ps : Pairs) → l ≡ Two (HJoin op) a c → ArePartsOf t n l r ps → length ps ≡ 2
  join_count op a c ps q p = let m = join_of r (λ k. (k.0 ≡ op) × (ps ≡ two_pairs a k.1 c k.2)) (here (Two (HJoin op) a c) ps q p) in ap length m.1.1.1.1.1

  pub equal_count : (a c : Tree) (ps : Pairs) → l ≡ Two HEq a c → ArePartsOf t n l r ps → length ps ≡ 2
  equal_count a c ps q p = let m = equal_of r (λ k. (type_of k.0 ≡ type_of a) × (ps ≡ two_pairs a k.0 c k.1)) (here (Two HEq a c) ps q p) in ap length m.1.1.1.1

  pub if_count : (c a b : Tree) (ps : Pairs) → l ≡ Three HIf c a b → ArePartsOf t n l r ps → length ps ≡ 3
  if_count c a b ps q p = let m = if_in r (λ k. ps ≡ three_pairs c k.0 a k.1 b k.2) (here (Three HIf c a b) ps q p) in ap length m.1.1.1.1

  pub let_count : (v a : Tree) (ps : Pairs) → l ≡ Two HLet v a → ArePartsOf t n l r ps → length ps ≡ 1
  let_count v a ps q p = let m = let_in r (λ k. ps ≡ one_pair (inst a v) (inst k.1 k.0)) (here (Two HLet v a) ps q p) in ap length m.1.1.1

  pub under_count : (u : Bool) (ty a : Tree) (ps : Pairs) → l ≡ Two (quantifier_head u) ty a → ArePartsOf t n l r ps → length ps ≡ 1
  under_count true ty a ps q p = let m = forall_of r (λ k. (k.0 ≡ ty) × (ps ≡ one_pair (inst a (Param n ty)) (inst k.1 (Param n ty)))) (here (Two HForall ty a) ps q p) in ap length m.1.1.1.1
  under_count false ty a ps q p = let m = exists_of r (λ k. (k.0 ≡ ty) × (ps ≡ one_pair (inst a (Param n ty)) (inst k.1 (Param n ty)))) (here (Two HExists ty a) ps q p) in ap length m.1.1.1.1
