-- Another term in the place of the first conditional of an open tree at an environment: the first variable beyond the environment
-- leaves a hole there, which a closed term fills.
use Rattle.std.proofs.Common.{◌≡◌, ℕ, ◌-◌, ◌≤◌, List, length, Option, Some, None, refl, sym, ap, ◌∙◌, arith}
use Rattle.tasks.specs.trees.Tree.{Tree, Leaf, One, Two, Three, HCell, HFun, HPred, HEq, HIf, loose}
use Rattle.tasks.specs.trees.Binding.{inst, inst_many, Bound}
use Rattle.tasks.proofs.trees.Laws.{inst_closed}
use Rattle.tasks.proofs.trees.Many.{many_above}
use Rattle.evidence.proofs.images.Holes.{hole_here}
use Rattle.tr_if.specs.conditionals.Conditionals.{earlier, first_if, one_changed, replace_first}

-- the conditional in its own place
module _ (w : Tree) where
  cell_self : (a b : Tree) (o : Option Tree) → first_if a ≡ o → (first_if a ≡ Some w → replace_first a w ≡ a) → (first_if b ≡ Some w → replace_first b w ≡ b) → earlier o (first_if b) ≡ Some w
      → one_changed o HCell a b (replace_first a w) (replace_first b w) ≡ Two HCell a b
  cell_self a b (Some e) m left right q = ap (λ (z : Tree). Two HCell z b) (left (m ∙ q))
  cell_self a b None m left right q = ap (λ (z : Tree). Two HCell a z) (right q)

  equation_self : (a b : Tree) (o : Option Tree) → first_if a ≡ o → (first_if a ≡ Some w → replace_first a w ≡ a) → (first_if b ≡ Some w → replace_first b w ≡ b) → earlier o (first_if b) ≡ Some w
      → one_changed o HEq a b (replace_first a w) (replace_first b w) ≡ Two HEq a b
  equation_self a b (Some e) m left right q = ap (λ (z : Tree). Two HEq z b) (left (m ∙ q))
  equation_self a b None m left right q = ap (λ (z : Tree). Two HEq a z) (right q)

  pub in_own_place : (e : Tree) → first_if e ≡ Some w → replace_first e w ≡ e
  in_own_place (Leaf h) q = refl
  in_own_place (One h a) q = refl
  in_own_place (Two (HPred p) types args) q = ap (λ (z : Tree). Two (HPred p) types z) (in_own_place args q)
  in_own_place (Two HEq a b) q = equation_self a b (first_if a) refl (in_own_place a) (in_own_place b) q
  in_own_place (Two HCell a b) q = cell_self a b (first_if a) refl (in_own_place a) (in_own_place b) q
  in_own_place (Two _ a b) q = refl
  in_own_place (Three HIf c a b) q = let r : Three HIf c a b ≡ w = cc in sym r
  in_own_place (Three (HFun f) types args ty) q = ap (λ (z : Tree). Three (HFun f) types z ty) (in_own_place args q)
  in_own_place (Three _ a b c) q = refl

module _ (env : List Tree) (ty : Tree) where
  abbrev at : Tree → Tree
  at e = inst_many e env

  -- the first variable beyond the environment
  abbrev pub beyond : Tree
  beyond = Bound (length env) ty

  pub beyond_at : inst_many beyond env ≡ Bound 0 (inst_many ty env)
  beyond_at =
      let n : length env - length env ≡ 0 = omega arith in
      many_above env 0 (length env) (at ty) (omega arith) ∙ ap (λ (j : ℕ). Bound j (at ty)) n

  -- ---- the hole filled
  module _ (z : Tree) (closed : loose (inst_many z env) ≡ 0) where
    abbrev filled : Tree → Tree
    filled e = inst (at (replace_first e beyond)) (at z)

    abbrev Fills : Tree → Type 0
    Fills e = loose (at e) ≤ 0 → filled e ≡ at (replace_first e z)

    stays : (e : Tree) → loose (at e) ≤ 0 → inst (at e) (at z) ≡ at e
    stays e l = inst_closed (at e) (at z) l

    cell_filled : (o : Option Tree) (a b : Tree) → loose (at a) ≤ 0 → loose (at b) ≤ 0 → filled a ≡ at (replace_first a z) → filled b ≡ at (replace_first b z)
        → inst (at (one_changed o HCell a b (replace_first a beyond) (replace_first b beyond))) (at z) ≡ at (one_changed o HCell a b (replace_first a z) (replace_first b z))
    cell_filled (Some e) a b la lb p q = ap (λ (m : Tree). Two HCell m (inst (at b) (at z))) p ∙ ap (λ (m : Tree). Two HCell (at (replace_first a z)) m) (stays b lb)
    cell_filled None a b la lb p q = ap (λ (m : Tree). Two HCell m (filled b)) (stays a la) ∙ ap (λ (m : Tree). Two HCell (at a) m) q

    equation_filled : (o : Option Tree) (a b : Tree) → loose (at a) ≤ 0 → loose (at b) ≤ 0 → filled a ≡ at (replace_first a z) → filled b ≡ at (replace_first b z)
        → inst (at (one_changed o HEq a b (replace_first a beyond) (replace_first b beyond))) (at z) ≡ at (one_changed o HEq a b (replace_first a z) (replace_first b z))
    equation_filled (Some e) a b la lb p q = ap (λ (m : Tree). Two HEq m (inst (at b) (at z))) p ∙ ap (λ (m : Tree). Two HEq (at (replace_first a z)) m) (stays b lb)
    equation_filled None a b la lb p q = ap (λ (m : Tree). Two HEq m (filled b)) (stays a la) ∙ ap (λ (m : Tree). Two HEq (at a) m) q

    pub hole_filled : (e : Tree) → Fills e
    hole_filled (Leaf h) l = stays (Leaf h) l
    hole_filled (One h a) l = stays (One h a) l
    hole_filled (Two (HPred p) types args) l =
        let lt : loose (at types) ≤ 0 = omega (arith, l) in let la : loose (at args) ≤ 0 = omega (arith, l) in
        ap (λ (m : Tree). Two (HPred p) m (filled args)) (stays types lt) ∙ ap (λ (m : Tree). Two (HPred p) (at types) m) (hole_filled args la)
    hole_filled (Two HEq a b) l =
        let la : loose (at a) ≤ 0 = omega (arith, l) in let lb : loose (at b) ≤ 0 = omega (arith, l) in equation_filled (first_if a) a b la lb (hole_filled a la) (hole_filled b lb)
    hole_filled (Two HCell a b) l =
        let la : loose (at a) ≤ 0 = omega (arith, l) in let lb : loose (at b) ≤ 0 = omega (arith, l) in cell_filled (first_if a) a b la lb (hole_filled a la) (hole_filled b lb)
    hole_filled (Two h a b) l = stays (Two h a b) l
    hole_filled (Three HIf c a b) l = ap (λ (m : Tree). inst m (at z)) beyond_at ∙ hole_here (at z) closed (at ty)
    hole_filled (Three (HFun f) types args r) l =
        let lt : loose (at types) ≤ 0 = omega (arith, l) in let la : loose (at args) ≤ 0 = omega (arith, l) in let lr : loose (at r) ≤ 0 = omega (arith, l) in
        ap (λ (m : Tree). Three (HFun f) m (filled args) (inst (at r) (at z))) (stays types lt) ∙ ap (λ (m : Tree). Three (HFun f) (at types) m (inst (at r) (at z))) (hole_filled args la)
        ∙ ap (λ (m : Tree). Three (HFun f) (at types) (at (replace_first args z)) m) (stays r lr)
    hole_filled (Three h a b c) l = stays (Three h a b c) l
