-- Laws of lists and what is at a place of one.
use Rattle.std.proofs.Common.{All, Bool, IfSome, List, None, Some, [], ap, append_assoc, arith, bytes_eq, drop, false, get_or, length, map, refl, slice_get, suc, sym, take, true, zero, ℕ, ◌++◌, ◌+◌, ◌<◌, ◌∙◌, ◌∷◌, ◌≡◌}
use Rattle.std.proofs.lemmas.List.{append-nil, drop_more, map_more, take_more}
use Rattle.std.proofs.lemmas.List.Concat.{flat_map-append}
use Rattle.std.proofs.lemmas.List.Elements.{All-cons, All-head, All-nil, All-tail}
use Rattle.std.proofs.lemmas.Slice.Eq.{bytes_eq-Decides}
use Rattle.std.specs.Cmp.Lexicographic.{nat_list_eq_equiv}
use Rattle.std.specs.List.{Contains, flat_map}
use Rattle.std.specs.Map.{AreApart, IsKeyTest, KeepsOthers, lookup}
use Rattle.std.specs.Str.{bytes_eq}

-- a piece, and then the rest
pub then_piece : (o p q a rest : List ℕ) → p ≡ o ++ a → q ≡ p ++ rest → q ≡ o ++ (a ++ rest)
then_piece o p q a rest e f = f ∙ ap (λ z. z ++ rest) e ∙ append_assoc o a rest

pub bytes_apart : (name q key : List ℕ) → bytes_eq name q ≡ false → bytes_eq name key ≡ true → bytes_eq q key ≡ false
bytes_apart name q key differs same = nat_list_eq_equiv.symm q key ∙ sym (nat_list_eq_equiv.congr name key q same) ∙ differs

pub bytes_are : (w v : List ℕ) → bytes_eq w v ≡ true → w ≡ v
bytes_are w v h = (bytes_eq-Decides w v).0 h

pub bytes_same : (w : List ℕ) → bytes_eq w w ≡ true
bytes_same w = (bytes_eq-Decides w w).1 refl

pub flat_more : {X Y A : Type 0} (f : Y → List A) (g : X → Y) (xs : List X) (i : ℕ) (d : X) → i < length xs → flat_map f (map g (take (i + 1) xs)) ≡ flat_map f (map g (take i xs)) ++ f (g (get_or xs i d))
flat_more f g xs i d h = ap (flat_map f) (map_more g xs i d h) ∙ flat_map-append f (map g (take i xs)) (g (get_or xs i d) ∷ []) ∙ ap (λ z. flat_map f (map g (take i xs)) ++ z) (append-nil (f (g (get_or xs i d))))

-- what a query for another key finds
pub other_entries : {K X : Type 0} (eq : K → K → Bool) (test : K → Bool) (old new : List (K × X)) → KeepsOthers eq test old new → (other : K → Bool) → IsKeyTest eq other → AreApart test other → lookup other new ≡ lookup other old
unfolding KeepsOthers
other_entries eq test old new h = h

pub got_none : {X Y : Type 0} (f : X → Y) (xs : List X) (k : ℕ) (z : Y) → slice_get xs k ≡ None → get_or (map f xs) k z ≡ z
got_none f [] k z h = refl
got_none f (y ∷ ys) zero z h = absurd (cc)
got_none f (y ∷ ys) (suc k) z h = got_none f ys k z h

pub flat_take : {X A : Type 0} (f : X → List A) (xs : List X) (i : ℕ) (d : X) → i < length xs → flat_map f (take (i + 1) xs) ≡ flat_map f (take i xs) ++ f (get_or xs i d)
flat_take f xs i d h = ap (flat_map f) (take_more xs i d h) ∙ flat_map-append f (take i xs) (get_or xs i d ∷ []) ∙ ap (λ z. flat_map f (take i xs) ++ z) (append-nil (f (get_or xs i d)))

-- the line of one thing, and then those of the others
pub lines_step : {X : Type 0} (f : X → List ℕ) (xs : List X) (i : ℕ) (d : X) (old new all : List ℕ) → i < length xs → new ≡ old ++ f (get_or xs i d) → old ++ flat_map f (drop i xs) ≡ all → new ++ flat_map f (drop (i + 1) xs) ≡ all
lines_step f xs i d old new all h e so =
    let rest = flat_map f (drop (i + 1) xs) in
    ap (λ z. z ++ rest) e ∙ append_assoc old (f (get_or xs i d)) rest ∙ ap (λ z. old ++ z) (ap (flat_map f) (sym (drop_more xs i d h))) ∙ so

pub All-left : {X : Type 0} (P : X → Type 0) (as_ bs : List X) → All P (as_ ++ bs) → All P as_
All-left P [] bs g = All-nil P
All-left P (x ∷ as_) bs g = All-cons P x as_ (All-head P x (as_ ++ bs) g) (All-left P as_ bs (All-tail P x (as_ ++ bs) g))

pub All-right : {A : Type 0} (P : A → Type 0) (xs ys : List A) → All P (xs ++ ys) → All P ys
All-right P [] ys a = a
All-right P (x ∷ xs) ys a = All-right P xs ys (λ k d l. a (suc k) d (omega arith))

-- what is left from a place on
pub drop_at : {X : Type 0} (xs : List X) (i : ℕ) (x : X) → x ≡ get_or xs i x → i < length xs → drop i xs ≡ x ∷ drop (i + 1) xs
drop_at xs i x is l = drop_more xs i x l ∙ ap (λ z. z ∷ drop (i + 1) xs) (sym is)

-- ---- what is at a place
pub got_left : {X : Type 0} (xs ys : List X) (i : ℕ) → i < length xs → slice_get (xs ++ ys) i ≡ slice_get xs i
got_left [] ys i l = absurd (omega arith)
got_left (x ∷ xs) ys zero l = refl
got_left (x ∷ xs) ys (suc i) l = got_left xs ys i (omega arith)

pub got_last : {X : Type 0} (xs : List X) (x : X) → slice_get (xs ++ x ∷ []) (length xs) ≡ Some x
got_last [] x = refl
got_last (y ∷ ys) x = got_last ys x

pub got_held : {X : Type 0} (P : X → Type 0) (xs : List X) (i : ℕ) → All P xs → IfSome (slice_get xs i) P
got_held P [] i h = tt
got_held P (x ∷ xs) zero h = All-head P x xs h
got_held P (x ∷ xs) (suc i) h = got_held P xs i (All-tail P x xs h)

pub first_contained : {X : Type 0} (x : X) (xs : List X) → Contains (x ∷ xs) x
first_contained x xs = (0, omega arith, refl)

pub got_contained : {X : Type 0} (xs : List X) (i : ℕ) (x : X) → slice_get xs i ≡ Some x → Contains xs x
got_contained [] i x q = absurd (cc)
got_contained (y ∷ ys) zero x q = let e : y ≡ x = cc in (0, omega arith, e)
got_contained (y ∷ ys) (suc i) x q = let h = got_contained ys i x q in (suc h.0, let l = h.1 in omega (arith, l), h.2)
