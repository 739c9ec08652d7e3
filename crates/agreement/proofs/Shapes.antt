-- What a tree is of which parts are taken, and lists of pairs with a first one.
use Rattle.std.proofs.Common.{◌≡◌, ℕ, [], ◌∷◌, IsSomeAnd, refl, ap}
use Rattle.trees.specs.Tree.{Tree, Leaf, One, Two, Three, HCell, HArm, HCase, HFun, HPred}
use Rattle.congruence.specs.kernel.rules.Forms.{application_parts}
use Rattle.agreement.specs.Agreement.{cell_parts, arm_parts, case_parts, predicate_parts}
use Rattle.agreement.proofs.PartLists.{Pairs}

pub cell_in : (r : Tree) (P : Tree × Tree → Type 0) → IsSomeAnd (cell_parts r) P → (b : Tree) × ((e : Tree) × ((r ≡ Two HCell b e) × P (b, e)))
cell_in (Two HCell b e) P p = (b, (e, (refl, p)))
cell_in (Leaf _) P p = absurd p
cell_in (One _ b) P p = absurd p
cell_in (Two _ a b) P p = absurd p
cell_in (Three _ a b c) P p = absurd p

pub function_in : (r : Tree) (P : ℕ × Tree × Tree → Type 0) → IsSomeAnd (application_parts r) P → (g : ℕ) × ((ts : Tree) × ((y : Tree) × ((ty : Tree) × ((r ≡ Three (HFun g) ts y ty) × P (g, ts, y)))))
function_in (Three (HFun g) ts y ty) P p = (g, (ts, (y, (ty, (refl, p)))))
function_in (Leaf _) P p = absurd p
function_in (One _ b) P p = absurd p
function_in (Two _ a b) P p = absurd p
function_in (Three _ a b c) P p = absurd p

pub predicate_in : (r : Tree) (P : ℕ × Tree × Tree → Type 0) → IsSomeAnd (predicate_parts r) P → (g : ℕ) × ((ts : Tree) × ((y : Tree) × ((r ≡ Two (HPred g) ts y) × P (g, ts, y))))
predicate_in (Two (HPred g) ts y) P p = (g, (ts, (y, (refl, p))))
predicate_in (Leaf _) P p = absurd p
predicate_in (One _ b) P p = absurd p
predicate_in (Two _ a b) P p = absurd p
predicate_in (Three _ a b c) P p = absurd p

pub arm_in : (r : Tree) (P : Tree × Tree → Type 0) → IsSomeAnd (arm_parts r) P → (b : Tree) × ((e : Tree) × ((r ≡ Two HArm b e) × P (b, e)))
arm_in (Two HArm b e) P p = (b, (e, (refl, p)))
arm_in (Leaf _) P p = absurd p
arm_in (One _ b) P p = absurd p
arm_in (Two _ a b) P p = absurd p
arm_in (Three _ a b c) P p = absurd p

pub case_in : (r : Tree) (P : Tree × Tree → Type 0) → IsSomeAnd (case_parts r) P → (b : Tree) × ((e : Tree) × ((r ≡ Two HCase b e) × P (b, e)))
case_in (Two HCase b e) P p = (b, (e, (refl, p)))
case_in (Leaf _) P p = absurd p
case_in (One _ b) P p = absurd p
case_in (Two _ a b) P p = absurd p
case_in (Three _ a b c) P p = absurd p

pub first_pairs : (p q : Tree × Tree) (ps qs : Pairs) → p ∷ ps ≡ q ∷ qs → (p ≡ q) × (ps ≡ qs)
first_pairs p q ps qs e = (cc, cc)

pub no_first : (p : Tree × Tree) (ps : Pairs) → p ∷ ps ≡ [] → ⊥
no_first p ps e = cc

pub sides_same : (a b x y : Tree) → ◌≡◌ {A = Tree × Tree} (a, b) (x, y) → (a ≡ x) × (b ≡ y)
sides_same a b x y e = (ap (λ (z : Tree × Tree). z.0) e, ap (λ (z : Tree × Tree). z.1) e)
