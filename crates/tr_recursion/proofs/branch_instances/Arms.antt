-- Branches on constructors: as a tree, under changes, and the one on a constructor.
use Rattle.std.proofs.Common.{◌≡◌, ◌≢◌, ℕ, zero, suc, ◌+◌, ◌==◌, ◌&&◌, ◌||◌, not, slice_get, Bool, true, false, if◌then◌else◌, List, [], ◌∷◌, map, length, Some, refl, sym, ap, ◌∙◌, arith}
use Rattle.std.specs.List.{list_all, list_any}
use Rattle.std.proofs.lemmas.Bool.Decides.{nat_tests}
use Rattle.tasks.proofs.plain_laws.Bools.{and_first, and_second}
use Rattle.tasks.specs.trees.Tree.{Tree, One, Two, Three, HCell, HArm, HPatAny, HPatVar, HPatCon, pat_vars}
use Rattle.tasks.specs.trees.Binding.{Change, change}
use Rattle.tasks.specs.Equations.{cells}
use Rattle.tr_inline.specs.inlining.branch_equations.Branches.{ConstructorBranch, is_plain_field, is_variable_field, bound_fields, are_different}
use Rattle.tr_recursion.specs.branch_instances.Chosen.{branch_pattern, arms_of, has_plain_fields, chosen_branch}

-- ---- as a tree
-- how many variables there are among fields
abbrev pub variable_count : List Tree → ℕ
variable_count [] = 0
variable_count (p ∷ ps) = if is_variable_field p then suc (variable_count ps) else variable_count ps

pub bound_count : (ps zs : List Tree) → length zs ≡ length ps → length (bound_fields ps zs) ≡ variable_count ps
bound_count [] [] l = refl
bound_count [] (z ∷ zs) l = absurd (omega (arith, l))
bound_count (p ∷ ps) [] l = absurd (omega (arith, l))
bound_count (p ∷ ps) (z ∷ zs) l = by (is_variable_field p) (bound_count ps zs (omega (arith, l)))
  where
    by : (b : Bool) → length (bound_fields ps zs) ≡ variable_count ps → length (if b then z ∷ bound_fields ps zs else bound_fields ps zs) ≡ (if b then suc (variable_count ps) else variable_count ps)
    by true q = ap suc q
    by false q = q

field_vars : (p : Tree) (n : ℕ) → is_plain_field p ≡ true → pat_vars p + n ≡ (if is_variable_field p then suc n else n)
field_vars (One HPatVar ty) n k = omega arith
field_vars (One HPatAny ty) n k = omega arith
field_vars _ n k = absurd (cc)

pub cells_vars : (ps : List Tree) → list_all is_plain_field ps ≡ true → pat_vars (cells ps) ≡ variable_count ps
cells_vars [] k = refl
cells_vars (p ∷ ps) k =
    ap (λ (n : ℕ). pat_vars p + n) (cells_vars ps (and_second (is_plain_field p) (list_all is_plain_field ps) k)) ∙ field_vars p (variable_count ps) (and_first (is_plain_field p) (list_all is_plain_field ps) k)

-- ---- the one on a constructor
abbrev Names : ℕ → List ConstructorBranch → Bool
Names k bs = list_any (λ (x : ConstructorBranch). x.symbol == k) bs

not_named : (k : ℕ) (bs : List ConstructorBranch) (i : ℕ) (b : ConstructorBranch) → Names k bs ≡ false → slice_get bs i ≡ Some b → b.symbol ≡ k → ⊥
not_named k [] i b n e q = cc
not_named k (x ∷ xs) i b n e q = by (x.symbol == k) refl n i e (λ j m r. not_named k xs j b m r q)
  where
    by : (t : Bool) → (x.symbol == k) ≡ t → (t || Names k xs) ≡ false → (i : ℕ) → slice_get (x ∷ xs) i ≡ Some b → ((j : ℕ) → Names k xs ≡ false → slice_get xs j ≡ Some b → ⊥) → ⊥
    by true u m i e f = cc
    by false u m zero e f = let s : x ≡ b = cc in let v : x.symbol ≡ k = ap (λ (z : ConstructorBranch). z.symbol) s ∙ q in grind (arith, nat_tests)
    by false u m (suc i) e f = f i m e

pub chosen_of : (bs : List ConstructorBranch) (i : ℕ) (b : ConstructorBranch) → are_different bs ≡ true → slice_get bs i ≡ Some b → chosen_branch b.symbol bs ≡ Some b
chosen_of [] i b d e = absurd (cc)
chosen_of (x ∷ xs) zero b d e =
    let s : x ≡ b = cc in
    let u : (x.symbol == b.symbol) ≡ true = let v : x.symbol ≡ b.symbol = ap (λ (z : ConstructorBranch). z.symbol) s in grind (arith, nat_tests) in
    ap (λ (z : Bool). if z then Some x else chosen_branch b.symbol xs) u ∙ ap (λ (z : ConstructorBranch). Some z) s
chosen_of (x ∷ xs) (suc i) b d e =
    let n : not (Names x.symbol xs) ≡ true = and_first (not (Names x.symbol xs)) (are_different xs) d in
    let m : Names x.symbol xs ≡ false = none n in
    let u : (x.symbol == b.symbol) ≡ false = let v : x.symbol ≢ b.symbol = (λ q. not_named x.symbol xs i b m e (sym q)) in grind (arith, nat_tests) in
    ap (λ (z : Bool). if z then Some x else chosen_branch b.symbol xs) u ∙ chosen_of xs i b (and_second (not (Names x.symbol xs)) (are_different xs) d) e
  where
    flipped : (t : Bool) → not t ≡ true → t ≡ false
    flipped true q = absurd (cc)
    flipped false q = refl

    none : not (Names x.symbol xs) ≡ true → Names x.symbol xs ≡ false
    none q = flipped (Names x.symbol xs) q

-- ---- under a change
module _ (f : Change) where
  abbrev pub changed : ℕ → ConstructorBranch → ConstructorBranch
  changed d b = record { symbol = b.symbol; types = change f d b.types; fields = map (change f d) b.fields; type = change f d b.type; body = change f (d + variable_count b.fields) b.body }

  pub changed_cells : (d : ℕ) (ps : List Tree) → change f d (cells ps) ≡ cells (map (change f d) ps)
  changed_cells d [] = refl
  changed_cells d (p ∷ ps) = let n : d + 0 ≡ d = omega arith in ap (λ (m : ℕ). Two HCell (change f d p) (change f m (cells ps))) n ∙ ap (Two HCell (change f d p)) (changed_cells d ps)

  changed_pattern : (d : ℕ) (b : ConstructorBranch) → change f d (branch_pattern b) ≡ branch_pattern (changed d b)
  changed_pattern d b = ap (λ (z : Tree). Three (HPatCon b.symbol) (change f d b.types) z (change f d b.type)) (changed_cells d b.fields)

  pub changed_arms : (d : ℕ) (bs : List ConstructorBranch) → list_all has_plain_fields bs ≡ true → change f d (arms_of bs) ≡ arms_of (map (changed d) bs)
  changed_arms d [] k = refl
  changed_arms d (b ∷ bs) k =
      let n : d + 0 ≡ d = omega arith in
      let m : pat_vars (branch_pattern b) ≡ variable_count b.fields = cells_vars b.fields (and_first (has_plain_fields b) (list_all has_plain_fields bs) k) in
      ap (λ (i : ℕ). Two HCell (Two HArm (change f d (branch_pattern b)) (change f (d + pat_vars (branch_pattern b)) b.body)) (change f i (arms_of bs))) n
      ∙ ap (λ (i : ℕ). Two HCell (Two HArm (change f d (branch_pattern b)) (change f (d + i) b.body)) (change f d (arms_of bs))) m
      ∙ ap (λ (z : Tree). Two HCell (Two HArm z (change f (d + variable_count b.fields) b.body)) (change f d (arms_of bs))) (changed_pattern d b)
      ∙ ap (Two HCell (Two HArm (branch_pattern (changed d b)) (change f (d + variable_count b.fields) b.body))) (changed_arms d bs (and_second (has_plain_fields b) (list_all has_plain_fields bs) k))

  field_kept : (d : ℕ) (p : Tree) → is_plain_field p ≡ true → (is_plain_field (change f d p) ≡ true) × (is_variable_field (change f d p) ≡ is_variable_field p)
  field_kept d (One HPatVar ty) k = (refl, refl)
  field_kept d (One HPatAny ty) k = (refl, refl)
  field_kept d _ k = absurd (cc)

  pub count_kept : (d : ℕ) (ps : List Tree) → list_all is_plain_field ps ≡ true → variable_count (map (change f d) ps) ≡ variable_count ps
  count_kept d [] k = refl
  count_kept d (p ∷ ps) k =
      ap (λ (t : Bool). if t then suc (variable_count (map (change f d) ps)) else variable_count (map (change f d) ps)) (field_kept d p (and_first (is_plain_field p) (list_all is_plain_field ps) k)).1
      ∙ ap (λ (n : ℕ). if is_variable_field p then suc n else n) (count_kept d ps (and_second (is_plain_field p) (list_all is_plain_field ps) k))

  pub fields_plain : (d : ℕ) (ps : List Tree) → list_all is_plain_field ps ≡ true → list_all is_plain_field (map (change f d) ps) ≡ true
  fields_plain d [] k = refl
  fields_plain d (p ∷ ps) k =
      ap (λ (z : Bool). z && list_all is_plain_field (map (change f d) ps)) (field_kept d p (and_first (is_plain_field p) (list_all is_plain_field ps) k)).0 ∙ fields_plain d ps (and_second (is_plain_field p) (list_all is_plain_field ps) k)

  pub fields_bound : (d : ℕ) (ps zs : List Tree) → list_all is_plain_field ps ≡ true → bound_fields (map (change f d) ps) zs ≡ bound_fields ps zs
  fields_bound d [] [] k = refl
  fields_bound d [] (z ∷ zs) k = refl
  fields_bound d (p ∷ ps) [] k = refl
  fields_bound d (p ∷ ps) (z ∷ zs) k =
      ap (λ (t : Bool). if t then z ∷ bound_fields (map (change f d) ps) zs else bound_fields (map (change f d) ps) zs) (field_kept d p (and_first (is_plain_field p) (list_all is_plain_field ps) k)).1
      ∙ ap (λ (w : List Tree). if is_variable_field p then z ∷ w else w) (fields_bound d ps zs (and_second (is_plain_field p) (list_all is_plain_field ps) k))

  pub all_plain : (d : ℕ) (bs : List ConstructorBranch) → list_all has_plain_fields bs ≡ true → list_all has_plain_fields (map (changed d) bs) ≡ true
  all_plain d [] k = refl
  all_plain d (b ∷ bs) k = ap (λ (z : Bool). z && list_all has_plain_fields (map (changed d) bs)) (fields_plain d b.fields (and_first (has_plain_fields b) (list_all has_plain_fields bs) k)) ∙ all_plain d bs (and_second (has_plain_fields b) (list_all has_plain_fields bs) k)

  pub changed_choice : (d c : ℕ) (bs : List ConstructorBranch) (b : ConstructorBranch) → chosen_branch c bs ≡ Some b → chosen_branch c (map (changed d) bs) ≡ Some (changed d b)
  changed_choice d c [] b e = absurd (cc)
  changed_choice d c (x ∷ xs) b e = by (x.symbol == c) e (changed_choice d c xs b)
    where
      by : (t : Bool) → (if t then Some x else chosen_branch c xs) ≡ Some b → (chosen_branch c xs ≡ Some b → chosen_branch c (map (changed d) xs) ≡ Some (changed d b)) → (if t then Some (changed d x) else chosen_branch c (map (changed d) xs)) ≡ Some (changed d b)
      by true q g = let s : x ≡ b = cc in ap (λ (z : ConstructorBranch). Some (changed d z)) s
      by false q g = g q
