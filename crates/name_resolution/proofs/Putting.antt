-- What is put at places stands to what belongs there.
use Rattle.std.proofs.Common.{◌≡◌, ℕ, ◌≤◌, zero, suc, arith, Bool, true, false, List, [], ◌∷◌, map, length, replicate, get_or, slice_set, refl, ap, ◌∙◌}
use Rattle.std.specs.List.{AllByRecursion}
use Rattle.name_resolution.specs.Records.{standing_at, put_at_places, named_after, each_named}
pub use Rattle.tasks.proofs.plain_laws.Bools.{and_both as both_named}

-- two lists of one length, of which what stands at a place stands to what stands there
abbrev pub ArePaired : {A B : Type 0} → (A → B → Type 0) → List A → List B → Type 0
ArePaired P [] [] = Unit {0}
ArePaired P (x ∷ xs) (y ∷ ys) = P x y × ArePaired P xs ys
ArePaired P [] (y ∷ ys) = ⊥
ArePaired P (x ∷ xs) [] = ⊥

-- and only at places that are named
abbrev pub ArePairedWhere : {A B : Type 0} → (A → B → Type 0) → List Bool → List A → List B → Type 0
ArePairedWhere P [] [] [] = Unit {0}
ArePairedWhere P (b ∷ bs) (x ∷ xs) (y ∷ ys) = (b ≡ true → P x y) × ArePairedWhere P bs xs ys
ArePairedWhere P [] [] (y ∷ ys) = ⊥
ArePairedWhere P [] (x ∷ xs) [] = ⊥
ArePairedWhere P [] (x ∷ xs) (y ∷ ys) = ⊥
ArePairedWhere P (b ∷ bs) [] [] = ⊥
ArePairedWhere P (b ∷ bs) [] (y ∷ ys) = ⊥
ArePairedWhere P (b ∷ bs) (x ∷ xs) [] = ⊥

module _ {A B : Type 0} (P : A → B → Type 0) (d : A) where
  set_paired : (xs : List A) (ys : List B) (p : ℕ) (y : B) → ArePaired P xs ys → P (get_or xs p d) y → ArePaired P xs (slice_set ys p y)
  set_paired [] [] p y h k = tt
  set_paired [] (z ∷ ys) p y h k = absurd h
  set_paired (x ∷ xs) [] p y h k = absurd h
  set_paired (x ∷ xs) (z ∷ ys) zero y h k = (k, h.1)
  set_paired (x ∷ xs) (z ∷ ys) (suc p) y h k = (h.0, set_paired xs ys p y h.1 k)

  pub put_paired : (ps : List ℕ) (xs : List A) (zs ys : List B) → ArePaired P xs ys → ArePaired P (standing_at d ps xs) zs → ArePaired P xs (put_at_places ps zs ys)
  put_paired [] xs zs ys h k = h
  put_paired (p ∷ ps) xs [] ys h k = h
  put_paired (p ∷ ps) xs (z ∷ zs) ys h k = put_paired ps xs zs (slice_set ys p z) (set_paired xs ys p z h k.0) k.1

  set_where : (bs : List Bool) (xs : List A) (ys : List B) (p : ℕ) (y : B) → ArePairedWhere P bs xs ys → P (get_or xs p d) y → ArePairedWhere P (slice_set bs p true) xs (slice_set ys p y)
  set_where [] [] [] p y h k = tt
  set_where [] [] (z ∷ ys) p y h k = absurd h
  set_where [] (x ∷ xs) [] p y h k = absurd h
  set_where [] (x ∷ xs) (z ∷ ys) p y h k = absurd h
  set_where (b ∷ bs) [] [] p y h k = absurd h
  set_where (b ∷ bs) [] (z ∷ ys) p y h k = absurd h
  set_where (b ∷ bs) (x ∷ xs) [] p y h k = absurd h
  set_where (b ∷ bs) (x ∷ xs) (z ∷ ys) zero y h k = (λ _. k, h.1)
  set_where (b ∷ bs) (x ∷ xs) (z ∷ ys) (suc p) y h k = (h.0, set_where bs xs ys p y h.1 k)

  put_where : (ps : List ℕ) (bs : List Bool) (xs : List A) (zs ys : List B) → ArePairedWhere P bs xs ys → ArePaired P (standing_at d ps xs) zs → ArePairedWhere P (named_after ps bs) xs (put_at_places ps zs ys)
  put_where [] bs xs zs ys h k = h
  put_where (p ∷ ps) bs xs [] ys h k = absurd k
  put_where (p ∷ ps) bs xs (z ∷ zs) ys h k = put_where ps (slice_set bs p true) xs zs (slice_set ys p z) (set_where bs xs ys p z h k.0) k.1

  where_all : (bs : List Bool) (xs : List A) (ys : List B) → ArePairedWhere P bs xs ys → each_named bs ≡ true → ArePaired P xs ys
  where_all [] [] [] h k = tt
  where_all [] [] (z ∷ ys) h k = absurd h
  where_all [] (x ∷ xs) [] h k = absurd h
  where_all [] (x ∷ xs) (z ∷ ys) h k = absurd h
  where_all (b ∷ bs) [] [] h k = absurd h
  where_all (b ∷ bs) [] (z ∷ ys) h k = absurd h
  where_all (b ∷ bs) (x ∷ xs) [] h k = absurd h
  where_all (b ∷ bs) (x ∷ xs) (z ∷ ys) h k = let both = both_named b (each_named bs) k in (h.0 both.0, where_all bs xs ys h.1 both.1)

  where_none : (xs : List A) (y : B) → ArePairedWhere P (replicate (length xs) false) xs (replicate (length xs) y)
  where_none [] y = tt
  where_none (x ∷ xs) y = (λ e. absurd (cc (e)), where_none xs y)

  -- values of all places, whatever stood there before
  pub all_put : (ps : List ℕ) (xs : List A) (zs : List B) (y : B) → ArePaired P (standing_at d ps xs) zs → each_named (named_after ps (replicate (length xs) false)) ≡ true → ArePaired P xs (put_at_places ps zs (replicate (length xs) y))
  all_put ps xs zs y h k = where_all (named_after ps (replicate (length xs) false)) xs (put_at_places ps zs (replicate (length xs) y)) (put_where ps (replicate (length xs) false) xs zs (replicate (length xs) y) (where_none xs y) h) k

-- ---- all of what is put
module _ {A : Type 0} (P : A → Type 0) where
  set_all : (ys : List A) (p : ℕ) (y : A) → AllByRecursion P ys → P y → AllByRecursion P (slice_set ys p y)
  set_all [] p y h k = tt
  set_all (z ∷ ys) zero y h k = (k, h.1)
  set_all (z ∷ ys) (suc p) y h k = (h.0, set_all ys p y h.1 k)

  pub put_all : (ps : List ℕ) (zs ys : List A) → AllByRecursion P zs → AllByRecursion P ys → AllByRecursion P (put_at_places ps zs ys)
  put_all [] zs ys h k = k
  put_all (p ∷ ps) [] ys h k = k
  put_all (p ∷ ps) (z ∷ zs) ys h k = put_all ps zs (slice_set ys p z) h.1 (set_all ys p z k h.0)

module _ {A B : Type 0} (f : A → B) where
  set_map : (ys : List A) (p : ℕ) (y : A) → map f (slice_set ys p y) ≡ slice_set (map f ys) p (f y)
  set_map [] p y = refl
  set_map (z ∷ ys) zero y = refl
  set_map (z ∷ ys) (suc p) y = ap (λ (r : List B). f z ∷ r) (set_map ys p y)

  pub put_map : (ps : List ℕ) (zs ys : List A) → map f (put_at_places ps zs ys) ≡ put_at_places ps (map f zs) (map f ys)
  put_map [] zs ys = refl
  put_map (p ∷ ps) [] ys = refl
  put_map (p ∷ ps) (z ∷ zs) ys = put_map ps zs (slice_set ys p z) ∙ ap (put_at_places ps (map f zs)) (set_map ys p z)

  pub at_places_map : (d : A) (ps : List ℕ) (xs : List A) → standing_at (f d) ps (map f xs) ≡ map f (standing_at d ps xs)
  at_places_map d [] xs = refl
  at_places_map d (p ∷ ps) xs = cc (got xs p, at_places_map d ps xs)
    where
      got : (xs : List A) (p : ℕ) → get_or (map f xs) p (f d) ≡ f (get_or xs p d)
      got [] zero = refl
      got [] (suc p) = refl
      got (x ∷ xs) zero = refl
      got (x ∷ xs) (suc p) = got xs p

pub put_length : {A : Type 0} (ps : List ℕ) (zs ys : List A) → length (put_at_places ps zs ys) ≡ length ys
put_length [] zs ys = refl
put_length (p ∷ ps) [] ys = refl
put_length (p ∷ ps) (z ∷ zs) ys = put_length ps zs (slice_set ys p z) ∙ set_length ys p z
  where
    set_length : {A : Type 0} (ys : List A) (p : ℕ) (y : A) → length (slice_set ys p y) ≡ length ys
    set_length [] p y = refl
    set_length (z ∷ ys) zero y = refl
    set_length (z ∷ ys) (suc p) y = ap suc (set_length ys p y)

-- nothing is put beyond the end
pub set_past : {A : Type 0} (ys : List A) (p : ℕ) (y : A) → length ys ≤ p → slice_set ys p y ≡ ys
set_past [] p y l = refl
set_past (z ∷ ys) zero y l = absurd (omega (arith, l))
set_past {A = A} (z ∷ ys) (suc p) y l = ap (λ (r : List A). z ∷ r) (set_past ys p y (omega (arith, l)))
