-- The clauses of each predicate among those of a group.
use Rattle.std.proofs.Common.{◌≡◌, ℕ, ◌+◌, ◌≤◌, zero, suc, List, [], ◌∷◌, ◌++◌, map, length, take, drop, refl, sym, ap, ◌∙◌, arith, append_assoc, length-append, length-drop}
use Rattle.std.proofs.Math.ListN.{length-map}
use Rattle.std.specs.List.{All}
use Rattle.std.proofs.lemmas.List.{map-append}
use Rattle.std.proofs.lemmas.List.Elements.{All-append, All-cons, All-nil, recursion_from_All, All-from_recursion}
use Rattle.std.specs.List.{AllByRecursion}
use Rattle.tasks.specs.trees.declared.TermId.{TermId}
use Rattle.tasks.specs.trees.Tree.{Tree}
use Rattle.tasks.specs.trees.Node.{tree_at, Holds}
use Rattle.tasks.specs.declared.declaration.Ind.{Ind}
use Rattle.tasks.specs.Task.{InductiveTree}
use Rattle.tasks.specs.Meaning.{trees_at, inductive_at, inductives_at, InductiveHeld}
use Rattle.elab_groups.specs.parts.Declarations.{InductivePredicate}
use Rattle.elab_declarations.specs.inductive_declarations.Inductives.{formula, formula_members, induced}

-- ---- the first of a list, and those after them
module _ {A B : Type 0} (f : A → B) where
  take_map : (n : ℕ) (xs : List A) → take n (map f xs) ≡ map f (take n xs)
  take_map zero xs = refl
  take_map (suc n) [] = refl
  take_map (suc n) (x ∷ xs) = ap (λ (ys : List B). f x ∷ ys) (take_map n xs)

  drop_map : (n : ℕ) (xs : List A) → drop n (map f xs) ≡ map f (drop n xs)
  drop_map zero xs = refl
  drop_map (suc n) [] = refl
  drop_map (suc n) (x ∷ xs) = drop_map n xs

module _ {A : Type 0} (P : A → Type 0) where
  take_each : (n : ℕ) (xs : List A) → AllByRecursion P xs → AllByRecursion P (take n xs)
  take_each zero xs h = tt
  take_each (suc n) [] h = tt
  take_each (suc n) (x ∷ xs) h = (h.0, take_each n xs h.1)

  drop_each : (n : ℕ) (xs : List A) → AllByRecursion P xs → AllByRecursion P (drop n xs)
  drop_each zero xs h = h
  drop_each (suc n) [] h = tt
  drop_each (suc n) (x ∷ xs) h = drop_each n xs h.1

  pub all_taken : (n : ℕ) (xs : List A) → All P xs → All P (take n xs)
  all_taken n xs h = All-from_recursion P (take n xs) (take_each n xs (recursion_from_All P xs h))

  pub all_dropped : (n : ℕ) (xs : List A) → All P xs → All P (drop n xs)
  all_dropped n xs h = All-from_recursion P (drop n xs) (drop_each n xs (recursion_from_All P xs h))

-- ---- as many as its clauses
pub formulas_count : (d : InductivePredicate) (ds : List InductivePredicate) → length (formula_members (d ∷ ds)) ≡ length d.clauses + length (formula_members ds)
formulas_count d ds = length-append (map (formula d.called) d.clauses) (formula_members ds) ∙ ap (λ (n : ℕ). n + length (formula_members ds)) (length-map d.clauses (formula d.called))

pub clauses_within : (d : InductivePredicate) (ds : List InductivePredicate) (n : ℕ) → n ≡ length (formula_members (d ∷ ds)) → length d.clauses ≤ n
clauses_within d ds n e = let q = formulas_count d ds in omega (arith, e, q)

pub others_count : (d : InductivePredicate) (ds : List InductivePredicate) (ids : List TermId) → length ids ≡ length (formula_members (d ∷ ds)) → length (drop (length d.clauses) ids) ≡ length (formula_members ds)
others_count d ds ids e = let q = formulas_count d ds in let l = length-drop (length d.clauses) ids in omega (arith, e, q, l)

-- ---- a predicate with its clauses, after others
pub induced_step : (s : List Tree) (list new : List Ind) (k : ℕ) (d : InductivePredicate) (ds : List InductivePredicate) (ids : List TermId) (one : Ind)
    → one.symbol ≡ k → one.clauses ≡ take (length d.clauses) ids
    → inductives_at s new ≡ inductives_at s (list ++ one ∷ []) ++ induced (suc k) ds (trees_at s (drop (length d.clauses) ids))
    → inductives_at s new ≡ inductives_at s list ++ induced k (d ∷ ds) (trees_at s ids)
induced_step s list new k d ds ids one e t q =
    let n = length d.clauses in
    let first : inductive_at s one ≡ record { symbol = k; clauses = take n (trees_at s ids) } = cc (e, ap (trees_at s) t ∙ sym (take_map (tree_at s) n ids)) in
    let rest = induced (suc k) ds (drop n (trees_at s ids)) in
    q ∙ (ap (λ (bs : List Tree). inductives_at s (list ++ one ∷ []) ++ induced (suc k) ds bs) (sym (drop_map (tree_at s) n ids))
    ∙ (ap (λ (is : List InductiveTree). is ++ rest) (map-append (inductive_at s) list (one ∷ []))
    ∙ (append_assoc (inductives_at s list) (inductive_at s one ∷ []) rest ∙ ap (λ (i : InductiveTree). inductives_at s list ++ i ∷ rest) first)))

pub induced_held : (s : List Tree) (list : List Ind) (one : Ind) (n : ℕ) (ids : List TermId) → one.clauses ≡ take n ids → All (Holds s) ids → All (InductiveHeld s) list → All (InductiveHeld s) (list ++ one ∷ [])
induced_held s list one n ids e h k =
    All-append (InductiveHeld s) list (one ∷ []) k (All-cons (InductiveHeld s) one [] (record { clauses = rw e (all_taken (Holds s) n ids h) }) (All-nil (InductiveHeld s)))
