-- Marks by number, and what is marked as a store grows.
use Rattle.std.proofs.Common.{◌≡◌, ◌⊎◌, ℕ, zero, suc, Bool, true, false, IsTrue, List, [], ◌∷◌, ◌++◌, get_or, inl, inr, refl, sym, ap, subst, arith}
use Rattle.std.proofs.Math.ListN.{set}
use Rattle.tasks.specs.trees.declared.TermId.{TermId}
use Rattle.tasks.specs.trees.Tree.{Tree, Leaf, HEnd}
use Rattle.tasks.specs.trees.Node.{tree_at, Holds, Grows}
use Rattle.tasks.specs.Task.{TaskTree}
use Rattle.tasks.specs.Vocabulary.{of_task}
use Rattle.tasks.specs.Open.{OpenTyped}
use Rattle.kernel.specs.Open.{OpenIn, IsOpen}
use Rattle.step_reading.specs.Marks.{has_mark, IsTypedAt, AreMarkedTyped}

pub pushed_false : (ms : List Bool) (k : ℕ) → has_mark (ms ++ false ∷ []) k ≡ has_mark ms k
pushed_false [] zero = refl
pushed_false [] (suc k) = refl
pushed_false (m ∷ ms) zero = refl
pushed_false (m ∷ ms) (suc k) = pushed_false ms k

pub set_true : (ms : List Bool) (i k : ℕ) → IsTrue (has_mark (set ms i true) k) → IsTrue (has_mark ms k) ⊎ (k ≡ i)
set_true [] i k h = inl h
set_true (m ∷ ms) zero zero h = inr refl
set_true (m ∷ ms) zero (suc k) h = inl h
set_true (m ∷ ms) (suc i) zero h = inl h
set_true (m ∷ ms) (suc i) (suc k) h = elim (set_true ms i k h) [ inl x ↦ inl x | inr e ↦ inr (ap (λ (n : ℕ). suc n) e) ]

pub none_typed : (t : TaskTree) (s : List Tree) → AreMarkedTyped t s []
none_typed t s k h = absurd (cc)

pub typed_later : (t u : TaskTree) (s s' : List Tree) (ms : List Bool) → t ≡ u → Grows s s' → AreMarkedTyped t s ms → AreMarkedTyped u s' ms
typed_later t u s s' ms e g a k h =
    let x = a k h in
    record { held = omega (arith, x.held, g.longer); typed = subst (λ (z : TaskTree). OpenIn z (get_or s' k (Leaf HEnd))) e (subst (OpenIn t) (sym (g.same k x.held)) x.typed) }

-- one more
pub typed_more : (t : TaskTree) (s : List Tree) (old new : List Bool) (id : TermId) → AreMarkedTyped t s old → ((k : ℕ) → IsTrue (has_mark new k) → IsTrue (has_mark old k) ⊎ (k ≡ id.0)) → Holds s id → OpenIn t (tree_at s id)
    → AreMarkedTyped t s new
typed_more t s old new id a f h o k m = elim (f k m) [ inl x ↦ a k x | inr e ↦ subst (λ (z : ℕ). IsTypedAt t s z) (sym e) (record { held = h; typed = o }) ]

pub marked_open : (t : TaskTree) (s : List Tree) (ms : List Bool) (id : TermId) → AreMarkedTyped t s ms → IsTrue (has_mark ms id.0) → IsOpen t s id
marked_open t s ms id a h = (a id.0 h).typed

pub end_open : (t : TaskTree) (e : Tree) → e ≡ Leaf HEnd → OpenTyped (of_task t) e
end_open t e is = rw is (tt, tt)
