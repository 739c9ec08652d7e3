-- Cases on the conditional terms of an atom: one at a time, the first one first, and the nodes only
-- grow.
use Rattle.std.proofs.Common.{◌≡◌, ℕ, ◌+◌, ◌≤◌, Option, Some, None, refl, sym, ap, ◌∙◌, arith}
use Rattle.trees.specs.Tree.{Tree, Leaf, One, Two, Three, Head, HCell, HFun, HPred, HEq, HNot, HIf, size}
use Rattle.tr_if.specs.conditionals.Conditionals.{implications, earlier, first_if, one_changed, replace_first, cases_over}

-- ---- no conditional
none_left : (a b : Option Tree) → earlier a b ≡ None → a ≡ None
none_left None b q = refl
none_left (Some e) b q = absurd (cc)

none_right : (a b : Option Tree) → earlier a b ≡ None → b ≡ None
none_right None b q = q
none_right (Some e) b q = absurd (cc)

pub no_first : (e : Tree) (over : Tree → Tree) → first_if e ≡ None → cases_over e over ≡ over e
no_first (Leaf h) over q = refl
no_first (One h a) over q = refl
no_first (Two (HPred p) types args) over q = no_first args (λ xs. over (Two (HPred p) types xs)) q
no_first (Two HEq a b) over q =
    no_first a (λ x. cases_over b (λ y. over (Two HEq x y))) (none_left (first_if a) (first_if b) q)
    ∙ no_first b (λ y. over (Two HEq a y)) (none_right (first_if a) (first_if b) q)
no_first (Two HCell a b) over q =
    no_first a (λ x. cases_over b (λ y. over (Two HCell x y)))
    (none_left (first_if a) (first_if b) q)
    ∙ no_first b (λ y. over (Two HCell a y)) (none_right (first_if a) (first_if b) q)
no_first (Two _ a b) over q = refl
no_first (Three HIf c a b) over q = absurd (cc)
no_first (Three (HFun f) types args ty) over q =
    no_first args (λ xs. over (Three (HFun f) types xs ty)) q
no_first (Three _ a b c) over q = refl

-- ---- the first conditional
module _ (c x y : Tree) where
  same_cases : (p q r s : Tree) → p ≡ r → q ≡ s → implications c p q ≡ implications c r s
  same_cases p q r s m n =
      ap (λ (z : Tree). implications c z q) m ∙ ap (λ (z : Tree). implications c r z) n

  abbrev HasFirst : Tree → Type 0
  HasFirst e = first_if e ≡ Some (Three HIf c x y)

  abbrev ByFirst : Tree → Type 0
  ByFirst e = (over : Tree → Tree)
      → cases_over e over ≡ implications c (cases_over (replace_first e x) over)
      (cases_over (replace_first e y) over)

  -- of two children, in the first or else in the second
  module _ (h : Head) (opens : (a b : Tree) (over : Tree → Tree)
      → cases_over (Two h a b) over
      ≡ cases_over a (λ u. cases_over b (λ w. over (Two h u w)))) where
    first_of_two : (a b : Tree) (o p : Option Tree) → first_if a ≡ o → first_if b ≡ p
        → (HasFirst a → ByFirst a) → (HasFirst b → ByFirst b) → earlier o p ≡ Some (Three HIf c x y)
        → (over : Tree → Tree)
        → cases_over (Two h a b) over
        ≡ implications c (cases_over
        (one_changed o h a b (replace_first a x) (replace_first b x)) over)
        (cases_over (one_changed o h a b (replace_first a y) (replace_first b y)) over)
    first_of_two a b (Some e) p m n left right q over =
        opens a b over ∙ left (m ∙ q) (λ u. cases_over b (λ w. over (Two h u w)))
        ∙ same_cases _ _ _ _ (sym (opens (replace_first a x) b over))
        (sym (opens (replace_first a y) b over))
    first_of_two a b None p m n left right q over =
        opens a b over ∙ no_first a (λ u. cases_over b (λ w. over (Two h u w))) m
        ∙ right (n ∙ q) (λ w. over (Two h a w))
        ∙ same_cases _ _ _ _
        (sym (opens a (replace_first b x) over
        ∙ no_first a (λ u. cases_over (replace_first b x) (λ w. over (Two h u w))) m))
        (sym (opens a (replace_first b y) over
        ∙ no_first a (λ u. cases_over (replace_first b y) (λ w. over (Two h u w))) m))

  pub first_case : (e : Tree) → HasFirst e → ByFirst e
  first_case (Leaf h) q over = absurd (cc)
  first_case (One h a) q over = absurd (cc)
  first_case (Two (HPred p) types args) q over =
      first_case args q (λ xs. over (Two (HPred p) types xs))
  first_case (Two HEq a b) q over =
      first_of_two HEq (λ a b over. refl) a b (first_if a) (first_if b) refl refl (first_case a)
      (first_case b) q over
  first_case (Two HCell a b) q over =
      first_of_two HCell (λ a b over. refl) a b (first_if a) (first_if b) refl refl (first_case a)
      (first_case b) q over
  first_case (Two _ a b) q over = absurd (cc)
  first_case (Three HIf d a b) q over =
      let m : d ≡ c = cc in let n : a ≡ x = cc in let o : b ≡ y = cc in
      ap (λ (z : Tree). implications z (cases_over a over) (cases_over b over)) m
      ∙ same_cases _ _ _ _ (ap (λ (z : Tree). cases_over z over) n)
      (ap (λ (z : Tree). cases_over z over) o)
  first_case (Three (HFun f) types args ty) q over =
      first_case args q (λ xs. over (Three (HFun f) types xs ty))
  first_case (Three _ a b d) q over = absurd (cc)

-- ---- sizes
-- a term in the place of the first conditional counts for it
module _ (w z : Tree) where
  abbrev Counts : Tree → Tree → Type 0
  Counts e made = size made + size w ≡ size e + size z

  two_count : (h : Head) (a b : Tree) (o p : Option Tree) → first_if a ≡ o → first_if b ≡ p
      → (first_if a ≡ Some w → Counts a (replace_first a z))
      → (first_if b ≡ Some w → Counts b (replace_first b z)) → earlier o p ≡ Some w
      → Counts (Two h a b) (one_changed o h a b (replace_first a z) (replace_first b z))
  two_count h a b (Some e) p m n left right q = let l = left (m ∙ q) in omega (arith, l)
  two_count h a b None p m n left right q = let r = right (n ∙ q) in omega (arith, r)

  pub place_count : (e : Tree) → first_if e ≡ Some w → Counts e (replace_first e z)
  place_count (Leaf h) q = absurd (cc)
  place_count (One h a) q = absurd (cc)
  place_count (Two (HPred p) types args) q = let r = place_count args q in omega (arith, r)
  place_count (Two HEq a b) q =
      two_count HEq a b (first_if a) (first_if b) refl refl (place_count a) (place_count b) q
  place_count (Two HCell a b) q =
      two_count HCell a b (first_if a) (first_if b) refl refl (place_count a) (place_count b) q
  place_count (Two _ a b) q = absurd (cc)
  place_count (Three HIf c a b) q = let r : Three HIf c a b ≡ w =
      cc in let s : size c + size a + size b + 1 ≡ size w =
      ap size r in omega (arith, s)
  place_count (Three (HFun f) types args ty) q = let r = place_count args q in omega (arith, r)
  place_count (Three _ a b c) q = absurd (cc)

-- cases have no fewer nodes
pub cases_grow : (e : Tree) (over : Tree → Tree) (n : ℕ) → ((u : Tree) → size u + n ≤ size (over u))
    → size e + n ≤ size (cases_over e over)
cases_grow (Leaf h) over n l = l (Leaf h)
cases_grow (One h a) over n l = l (One h a)
cases_grow (Two (HPred p) types args) over n l =
    let r = cases_grow args (λ xs. over (Two (HPred p) types xs)) (size types + 1 + n)
    (λ u. let q : size types + size u + 1 + n ≤ size (over (Two (HPred p) types u)) =
    l (Two (HPred p) types u) in omega (arith, q)) in
    omega (arith, r)
cases_grow (Two HEq a b) over n l =
    let r = cases_grow a (λ x. cases_over b (λ y. over (Two HEq x y))) (size b + 1 + n)
    (λ u. let s = cases_grow b (λ y. over (Two HEq u y)) (size u + 1 + n)
    (λ w. let q : size u + size w + 1 + n ≤ size (over (Two HEq u w)) =
    l (Two HEq u w) in omega (arith, q)) in omega (arith, s)) in
    omega (arith, r)
cases_grow (Two HCell a b) over n l =
    let r = cases_grow a (λ x. cases_over b (λ y. over (Two HCell x y))) (size b + 1 + n)
    (λ u. let s = cases_grow b (λ y. over (Two HCell u y)) (size u + 1 + n)
    (λ w. let q : size u + size w + 1 + n ≤ size (over (Two HCell u w)) =
    l (Two HCell u w) in omega (arith, q)) in omega (arith, s)) in
    omega (arith, r)
cases_grow (Two h a b) over n l = l (Two h a b)
cases_grow (Three HIf c a b) over n l =
    let r = cases_grow a over n l in let s = cases_grow b over n l in omega (arith, r, s)
cases_grow (Three (HFun f) types args ty) over n l =
    let r = cases_grow args (λ xs. over (Three (HFun f) types xs ty)) (size types + size ty + 1 + n)
    (λ u. let q : size types + size u + size ty + 1 + n ≤ size (over (Three (HFun f) types u ty)) =
    l (Three (HFun f) types u ty) in omega (arith, q)) in
    omega (arith, r)
cases_grow (Three h a b c) over n l = l (Three h a b c)

-- ---- what is so of trees by their parts
pub record IsByParts (Q : Tree → Type 0) : Type 0 where
  pub one : (a : Tree) → Q a → Q (One HNot a)
  pub two : (h : Head) (a b : Tree) → Q a → Q b → Q (Two h a b)
  pub of_two : (h : Head) (a b : Tree) → Q (Two h a b) → Q a × Q b
  pub three : (h : Head) (a b c : Tree) → Q a → Q b → Q c → Q (Three h a b c)
  pub of_three : (h : Head) (a b c : Tree) → Q (Three h a b c) → Q a × (Q b × Q c)

module _ (Q : Tree → Type 0) (r : IsByParts Q) where
  pub implications_keep : (c a b : Tree) → Q c → Q a → Q b → Q (implications c a b)
  implications_keep c a b qc qa qb = r.two _ _ _ (r.two _ c a qc qa) (r.two _ _ b (r.one c qc) qb)

  pub cases_keep : (e : Tree) (over : Tree → Tree) → ((u : Tree) → Q u → Q (over u)) → Q e
      → Q (cases_over e over)
  cases_keep (Leaf h) over k q = k (Leaf h) q
  cases_keep (One h a) over k q = k (One h a) q
  cases_keep (Two (HPred p) types args) over k q =
      let m = r.of_two (HPred p) types args q in
      cases_keep args (λ xs. over (Two (HPred p) types xs))
      (λ u w. k (Two (HPred p) types u) (r.two (HPred p) types u m.0 w)) m.1
  cases_keep (Two HEq a b) over k q =
      let m = r.of_two HEq a b q in
      cases_keep a (λ x. cases_over b (λ y. over (Two HEq x y)))
      (λ u w. cases_keep b (λ y. over (Two HEq u y))
      (λ s t. k (Two HEq u s) (r.two HEq u s w t)) m.1) m.0
  cases_keep (Two HCell a b) over k q =
      let m = r.of_two HCell a b q in
      cases_keep a (λ x. cases_over b (λ y. over (Two HCell x y)))
      (λ u w. cases_keep b (λ y. over (Two HCell u y))
      (λ s t. k (Two HCell u s) (r.two HCell u s w t)) m.1) m.0
  cases_keep (Two h a b) over k q = k (Two h a b) q
  cases_keep (Three HIf c a b) over k q =
      let m = r.of_three HIf c a b q in
      implications_keep c (cases_over a over) (cases_over b over) m.0
      (cases_keep a over k m.1.0) (cases_keep b over k m.1.1)
  cases_keep (Three (HFun f) types args ty) over k q =
      let m = r.of_three (HFun f) types args ty q in
      cases_keep args (λ xs. over (Three (HFun f) types xs ty))
      (λ u w. k (Three (HFun f) types u ty) (r.three (HFun f) types u ty m.0 w m.1.1)) m.1.0
  cases_keep (Three h a b c) over k q = k (Three h a b c) q
