-- What stands at a place of a list, by a reference to it.
use Rattle.std.proofs.Common.{◌≡◌, ℕ, zero, suc, ◌<◌, ◌≤◌, nat_lt, List, [], ◌∷◌, length, get_or, All, IfSome, Option, Some, None, slice_get, refl, sym, ap, subst, ◌∙◌, arith}
use Rattle.std.specs.Borrow.{Bor}
use Rattle.std.specs.Option.{is_some, option_map, option_copied}
use Rattle.std.proofs.lemmas.Bool.Decides.{nat_tests}
use Rattle.std.proofs.lemmas.List.Elements.{All-head, All-tail}
use Rattle.tasks.proofs.plain_laws.Lists.{got_held as held_at}

none_past : {A : Type 0} (xs : List A) (i : ℕ) → length xs ≤ i → None ≡ slice_get xs i
none_past [] i le = refl
none_past (x ∷ xs) zero le = absurd (omega arith)
none_past (x ∷ xs) (suc i) le = none_past xs i (omega arith)

some_at : {A : Type 0} (xs : List A) (i : ℕ) (d : A) → i < length xs → Some (get_or xs i d) ≡ slice_get xs i
some_at [] i d lt = absurd (omega arith)
some_at (x ∷ xs) zero d lt = refl
some_at (x ∷ xs) (suc i) d lt = some_at xs i d (omega arith)

pub slice_got : {A : Type 0} (r : Option (Bor A)) (xs : List A) (i : ℕ) → is_some r ≡ nat_lt i (length xs) → IfSome r (λ x. x.now ≡ get_or xs i x.now) → option_map (λ e. e.now) r ≡ slice_get xs i
slice_got None xs i e h = let le : length xs ≤ i = grind (arith, nat_tests) in none_past xs i le
slice_got (Some x) xs i e h = let lt : i < length xs = grind (arith, nat_tests) in ap Some h ∙ some_at xs i x.now lt

pub copied_map : {A B : Type 0} (f : A → B) (r : Option (Bor A)) → option_map (λ i. f i.now) r ≡ option_map f (option_copied r)
copied_map f None = refl
copied_map f (Some x) = refl

pub held_copied : {A : Type 0} (P : A → Type 0) (r : Option (Bor A)) (xs : List A) (i : ℕ) → option_copied r ≡ slice_get xs i → All P xs → IfSome r (λ x. P x.now)
held_copied P None xs i e h = tt
held_copied P (Some x) xs i e h = subst (λ o. IfSome o P) (sym e) (held_at P xs i h)
