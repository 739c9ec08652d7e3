-- Texts that grow piece by piece.
use Rattle.std.proofs.Common.{◌≡◌, ℕ, ◌+◌, ◌<◌, ◌≤◌, zero, suc, List, [], ◌∷◌, ◌++◌, map, length, get_or, slice_get, drop, Some, refl, sym, ap, ◌∙◌, append_assoc, arith}
use Rattle.std.proofs.lemmas.List.{drop_more}
use Rattle.drivers.specs.declared.driver_items.kinds.Piece.{Piece}
use Rattle.printed_problems.specs.Templates.{piece_text, by_pieces}

-- ---- templates, from a piece on
module _ (texts : List (List ℕ)) (ps : List Piece) (i : ℕ) where
  pub pieces_step : (p : Piece) (old new all : List ℕ) → i < length ps → p ≡ get_or ps i p → new ≡ old ++ piece_text texts p → old ++ by_pieces (drop i ps) texts ≡ all → new ++ by_pieces (drop (i + 1) ps) texts ≡ all
  pieces_step p old new all h is e so =
      let rest = by_pieces (drop (i + 1) ps) texts in
      ap (λ z. z ++ rest) e ∙ append_assoc old (piece_text texts p) rest
      ∙ ap (λ z. old ++ z) (ap (λ (q : Piece). piece_text texts q ++ rest) is ∙ ap (λ z. by_pieces z texts) (sym (drop_more ps i p h))) ∙ so

-- ---- arguments
module _ {X Y : Type 0} (f : Y → List ℕ) (g : X → Y) where
  pub argument_there : (xs : List X) (n : ℕ) (x : X) → n < length xs → x ≡ get_or xs n x → get_or (map f (map g xs)) n [] ≡ f (g x)
  argument_there xs n x h e = at xs n h ∙ ap (λ y. f (g y)) (sym e)
    where
      at : (ys : List X) (i : ℕ) → i < length ys → get_or (map f (map g ys)) i [] ≡ f (g (get_or ys i x))
      at [] i l = absurd (omega arith)
      at (y ∷ ys) zero l = refl
      at (y ∷ ys) (suc i) l = at ys i (omega arith)

  pub argument_past : (xs : List X) (n : ℕ) → length xs ≤ n → get_or (map f (map g xs)) n [] ≡ []
  argument_past [] n h = refl
  argument_past (x ∷ xs) zero h = absurd (omega arith)
  argument_past (x ∷ xs) (suc n) h = argument_past xs n (omega arith)

pub get_mapped : {X Y : Type 0} (f : X → Y) (xs : List X) (i : ℕ) (d : X) → i < length xs → slice_get (map f xs) i ≡ Some (f (get_or xs i d))
get_mapped f [] i d h = absurd (omega arith)
get_mapped f (x ∷ xs) zero d h = refl
get_mapped f (x ∷ xs) (suc i) d h = get_mapped f xs i d (omega arith)
