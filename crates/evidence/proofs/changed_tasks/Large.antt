-- What is too large in a task makes the task too large, and such a task is refused.
use Rattle.std.proofs.Common.{◌≡◌, ℕ, zero, suc, ◌<◌, ◌≤◌, Bool, true, false, ◌&&◌, nat_le, if◌then◌else◌, inl, inr, List, [], ◌∷◌, length, get_or, Ok, Err, refl, ap, ◌∙◌, arith}
use Rattle.std.specs.Prelude.{sum_by}
use Rattle.std.proofs.lemmas.Bool.{lt-leb}
use Rattle.std.proofs.lemmas.List.Sums.{sum_by-cons}
use Rattle.trees.specs.Tree.{Tree, size, height}
use Rattle.tasks.specs.Task.{DeclarationTree, TaskTree, body_nodes, nodes}
use Rattle.evidence.specs.stage_limits.Limits.{TooLarge, greatest_by, body_height, task_height, is_small, limited}
use Rattle.evidence.specs.changed_tasks.Limits.{IsAbove, IsLarge, AreLarge, IsLargeBody, AreLargeDeclarations, IsLargeTask}

above_more : (n m h k : ℕ) → n ≤ m → h ≤ k → IsAbove n h → IsAbove m k
above_more n m h k p q (inl l) = inl (omega arith)
above_more n m h k p q (inr l) = inr (omega arith)

sum_at : {A : Type 0} (f : A → ℕ) (xs : List A) (i : ℕ) (d : A) → i < length xs → f (get_or xs i d) ≤ sum_by f xs
sum_at f [] i d l = absurd (omega arith)
sum_at f (x ∷ xs) zero d l = let n = sum_by-cons f x xs in omega (arith, n)
sum_at f (x ∷ xs) (suc i) d l = let n = sum_by-cons f x xs in let m = sum_at f xs i d (omega arith) in omega (arith, n, m)

greatest_at : {A : Type 0} (f : A → ℕ) (xs : List A) (i : ℕ) (d : A) → i < length xs → f (get_or xs i d) ≤ greatest_by f xs
greatest_at f [] i d l = absurd (omega arith)
greatest_at f (x ∷ xs) zero d l = omega arith
greatest_at f (x ∷ xs) (suc i) d l = let m = greatest_at f xs i d (omega arith) in omega (arith, m)

pub large_declaration : (ds : List DeclarationTree) (i : ℕ) (d : DeclarationTree) → i < length ds → IsLargeBody (get_or ds i d).body → AreLargeDeclarations ds
large_declaration ds i d l =
    above_more _ _ _ _ (sum_at (λ (x : DeclarationTree). body_nodes x.body) ds i d l) (greatest_at (λ (x : DeclarationTree). body_height x.body) ds i d l)

pub large_formula : (es : List Tree) (i : ℕ) (e : Tree) → i < length es → IsLarge (get_or es i e) → AreLarge es
large_formula es i e l = above_more _ _ _ _ (sum_at size es i e l) (greatest_at height es i e l)

module _ (t : TaskTree) where
  pub large_declarations : AreLargeDeclarations t.decls → IsLargeTask t
  large_declarations = above_more _ _ _ _ (omega arith) (omega arith)

  pub large_locals : AreLarge t.locals → IsLargeTask t
  large_locals = above_more _ _ _ _ (omega arith) (omega arith)

  pub large_goal : IsLarge t.goal → IsLargeTask t
  large_goal = above_more _ _ _ _ (omega arith) (omega arith)

  not_small : IsLargeTask t → is_small t ≡ false
  not_small (inl l) = let e : nat_le (nodes t) 1048576 ≡ false = lt-leb _ _ l in ap (λ (b : Bool). b && nat_le (task_height t) 2000) e
  not_small (inr l) =
      let e : nat_le (task_height t) 2000 ≡ false = lt-leb _ _ l in
      ap (λ (b : Bool). nat_le (nodes t) 1048576 && b) e ∙ and_false (nat_le (nodes t) 1048576)
    where
      and_false : (b : Bool) → b && false ≡ false
      and_false true = refl
      and_false false = refl

  pub large_refused : IsLargeTask t → limited (t ∷ []) ≡ Err TooLarge
  large_refused l = by (is_small t) (not_small l)
    where
      by : (b : Bool) → b ≡ false → (if (b && true) && nat_le (sum_by nodes (t ∷ [])) 8388608 then Ok (t ∷ []) else Err TooLarge) ≡ Err TooLarge
      by true e = absurd (cc)
      by false e = refl
