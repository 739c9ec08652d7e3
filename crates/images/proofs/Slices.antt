-- Places of two lists, one after the other.
use Rattle.std.proofs.Common.{◌≡◌, ℕ, zero, suc, ◌+◌, ◌<◌, List, [], ◌∷◌, ◌++◌, length, slice_get, refl, ap, arith}

pub slice_front : {A : Type 0} (xs ys : List A) (i : ℕ) → i < length xs → slice_get (xs ++ ys) i ≡ slice_get xs i
slice_front [] ys i l = absurd (omega arith)
slice_front (x ∷ xs) ys zero l = refl
slice_front (x ∷ xs) ys (suc i) l = slice_front xs ys i (omega arith)

pub slice_after : {A : Type 0} (xs ys : List A) (i j : ℕ) → i ≡ length xs + j → slice_get (xs ++ ys) i ≡ slice_get ys j
slice_after [] ys i j q = ap (slice_get ys) (omega (arith, q))
slice_after (x ∷ xs) ys zero j q = absurd (omega arith)
slice_after (x ∷ xs) ys (suc i) j q = slice_after xs ys i j (omega (arith, q))
