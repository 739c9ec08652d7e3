-- Where the template of an entry goes.
use Rattle.std.proofs.Common.{◌≡◌, ℕ, zero, suc, ◌<◌, ◌≤◌, true, false, nat_eq, nat_lt, cond, List, [], ◌∷◌, ◌++◌, length, slice_set, get_or, refl, sym, ap, ◌∙◌, arith}
use Rattle.std.proofs.lemmas.Bool.Decides.{nat_tests}
use Rattle.drivers.specs.declared.driver_items.kinds.Piece.{Piece}
use Rattle.drivers.specs.driver_parts.Parts.{with_template_at, IsPlaceOf}

abbrev pub Template : Type 0
Template = ℕ × List Piece

-- no template before a place is that of an entry
abbrev pub NoneBefore : List Template → ℕ → ℕ → Type 0
NoneBefore ts entry place = (k : ℕ) → k < place → (get_or ts k (0, [])).0 ≡ entry → ⊥

abbrev pub none : Template
none = (0, [])

some_set : (ts : List Template) (entry : ℕ) (pieces : List Piece) (i : ℕ) → NoneBefore ts entry i → i < length ts → (get_or ts i none).0 ≡ entry → with_template_at ts entry pieces ≡ slice_set ts i (entry, pieces)
some_set [] entry pieces i n lt e = absurd (omega arith)
some_set (t ∷ ts) entry pieces zero n lt e =
    let here : nat_eq t.0 entry ≡ true = grind (arith, nat_tests) in
    ap (λ v. cond v ((entry, pieces) ∷ ts) (t ∷ with_template_at ts entry pieces)) here
some_set (t ∷ ts) entry pieces (suc i) n lt e =
    let other : t.0 ≡ entry → ⊥ = n 0 (omega arith) in
    let here : nat_eq t.0 entry ≡ false = grind (arith, nat_tests) in
    ap (λ v. cond v ((entry, pieces) ∷ ts) (t ∷ with_template_at ts entry pieces)) here
    ∙ ap (λ v. t ∷ v) (some_set ts entry pieces i (λ k l. n (suc k) (omega arith)) (omega arith) e)

none_set : (ts : List Template) (entry : ℕ) (pieces : List Piece) → NoneBefore ts entry (length ts) → with_template_at ts entry pieces ≡ ts ++ (entry, pieces) ∷ []
none_set [] entry pieces n = refl
none_set (t ∷ ts) entry pieces n =
    let other : t.0 ≡ entry → ⊥ = n 0 (omega arith) in
    let here : nat_eq t.0 entry ≡ false = grind (arith, nat_tests) in
    ap (λ v. cond v ((entry, pieces) ∷ ts) (t ∷ with_template_at ts entry pieces)) here
    ∙ ap (λ v. t ∷ v) (none_set ts entry pieces (λ k l. n (suc k) (omega arith)))

pub place-found : (ts : List Template) (entry i : ℕ) → NoneBefore ts entry i → i < length ts → (get_or ts i none).0 ≡ entry → IsPlaceOf ts entry i
place-found ts entry i n lt e = λ pieces.
    let within : nat_lt i (length ts) ≡ true = grind (arith, nat_tests) in
    some_set ts entry pieces i n lt e ∙ ap (λ v. cond v (slice_set ts i (entry, pieces)) (ts ++ (entry, pieces) ∷ [])) (sym within)

pub place-none : (ts : List Template) (entry i : ℕ) → NoneBefore ts entry i → length ts ≤ i → i ≤ length ts → IsPlaceOf ts entry (length ts)
place-none ts entry i n le ge = λ pieces.
    let past : nat_lt (length ts) (length ts) ≡ false = grind (arith, nat_tests) in
    none_set ts entry pieces (λ k l. n k (omega arith)) ∙ ap (λ v. cond v (slice_set ts (length ts) (entry, pieces)) (ts ++ (entry, pieces) ∷ [])) (sym past)
