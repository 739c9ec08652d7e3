-- Laws of results and what is said of their values.
use Rattle.std.proofs.Common.{Err, IfOk, List, Ok, OnOk, Result, if◌then◌else◌, is_ok, ℕ, ◌≡◌}

pub ok_any : {X E P : Type 0} (r : Result X E) → P → OnOk r P
ok_any (Ok x) p = p
ok_any (Err e) p = tt

pub if_ok_both : {T E : Type 0} (r : Result T E) (P Q R : T → Type 0) → ((x : T) → P x → Q x → R x) → IfOk r P → IfOk r Q → IfOk r R
if_ok_both (Ok x) P Q R f p q = f x p q
if_ok_both (Err e) P Q R f p q = tt

pub ok_items : {X E : Type 0} (r : Result X E) (q a b : List ℕ) → q ≡ (if is_ok r then a else b) → OnOk r (q ≡ a)
ok_items (Ok x) q a b e = e
ok_items (Err x) q a b e = tt
