-- What the map of a clone takes each symbol and each type symbol to: of what is replaced one of its replacements, of what is copied
-- its number among the copies, and else itself.
use Rattle.std.proofs.Common.{◌≡◌, ◌⊎◌, inl, inr, ℕ, ◌+◌, ◌==◌, if◌then◌else◌, suc, Bool, true, false, List, [], ◌∷◌, slice_get, Contains, Option, Some, None, refl, sym, ap, subst, ◌∙◌, arith}
use Rattle.tasks.specs.trees.Tree.{Tree}
use Rattle.elaboration_laws.specs.clones.Mapped.{Map}
use Rattle.elaboration_laws.proofs.Places.{none_here, cases_of, here}
use Rattle.elaboration_laws.specs.clones.clone_elements.Replacements.{same_map, with_symbol, with_type, with_numbers, with_symbols, with_mapped_types, map_of}
use Rattle.tasks.proofs.plain_laws.Bools.{same_number}
use Rattle.elaboration_laws.proofs.Numbers.{types_leave, symbols_leave, numbers_leave, later}
use Rattle.elaboration_laws.proofs.Widths.{same_width as itself}
pub use Rattle.tasks.proofs.plain_laws.Lists.{got_contained as contained}

-- ---- numbers from one on
pub record IsAt (n : ℕ) (ks : List ℕ) (k j : ℕ) : Type 0 where
  pub place : ℕ
  pub at : slice_get ks place ≡ Some k
  pub is : j ≡ n + place

numbers_at : (ks : List ℕ) (n : ℕ) (m : Map) (k : ℕ) → IsAt n ks k ((with_numbers n ks m).symbols k) ⊎ ((Contains ks k → ⊥) × ((with_numbers n ks m).symbols k ≡ m.symbols k))
numbers_at [] n m k = inr ((λ c. none_here k c), refl)
numbers_at (j ∷ ks) n m k = of (numbers_at ks (n + 1) (with_symbol j n m) k)
  where
    now : ℕ
    now = (with_numbers (n + 1) ks (with_symbol j n m)).symbols k

    by : (Contains ks k → ⊥) → (b : Bool) → (j == k) ≡ b → now ≡ (if b then n else m.symbols k) → IsAt n (j ∷ ks) k now ⊎ ((Contains (j ∷ ks) k → ⊥) × (now ≡ m.symbols k))
    by out true q e = inl (record { place = 0; at = ap (λ (i : ℕ). Some i) (same_number j k q); is = omega (arith, e) })
    by out false q e = inr ((λ c. absent (cases_of j k ks c)), e)
      where
        absent : (j ≡ k) ⊎ Contains ks k → ⊥
        absent (inl z) = let y : (j == k) ≡ true = ap (λ (i : ℕ). j == i) (sym z) ∙ itself j in let x : true ≡ false = sym y ∙ q in cc
        absent (inr z) = out z

    of : IsAt (n + 1) ks k now ⊎ ((Contains ks k → ⊥) × (now ≡ (with_symbol j n m).symbols k)) → IsAt n (j ∷ ks) k now ⊎ ((Contains (j ∷ ks) k → ⊥) × (now ≡ m.symbols k))
    of (inl h) = inl (record { place = suc h.place; at = h.at; is = let e = h.is in omega (arith, e) })
    of (inr h) = by h.0 (j == k) refl h.1

-- ---- symbols for symbols
pair_is : (p : ℕ × ℕ) (k v : ℕ) → p.0 ≡ k → v ≡ p.1 → p ≡ (k, v)
pair_is p k v a b = ap (λ (i : ℕ). (i, p.1)) a ∙ ap (λ (i : ℕ). (k, i)) (sym b)

symbols_at : (ps : List (ℕ × ℕ)) (m : Map) (k : ℕ) → Contains ps (k, (with_symbols ps m).symbols k) ⊎ (((n : ℕ) → Contains ps (k, n) → ⊥) × ((with_symbols ps m).symbols k ≡ m.symbols k))
symbols_at [] m k = inr ((λ n c. none_here (k, n) c), refl)
symbols_at (p ∷ ps) m k = of (symbols_at ps (with_symbol p.0 p.1 m) k)
  where
    now : ℕ
    now = (with_symbols ps (with_symbol p.0 p.1 m)).symbols k

    by : ((n : ℕ) → Contains ps (k, n) → ⊥) → (b : Bool) → (p.0 == k) ≡ b → now ≡ (if b then p.1 else m.symbols k) → Contains (p ∷ ps) (k, now) ⊎ (((n : ℕ) → Contains (p ∷ ps) (k, n) → ⊥) × (now ≡ m.symbols k))
    by out true q e = inl (subst (λ (z : ℕ × ℕ). Contains (p ∷ ps) z) (pair_is p k now (same_number p.0 k q) e) (here p ps))
    by out false q e = inr ((λ n c. absent n (cases_of p (k, n) ps c)), e)
      where
        absent : (n : ℕ) → (p ≡ (k, n)) ⊎ Contains ps (k, n) → ⊥
        absent n (inl z) = let y : (p.0 == k) ≡ true = ap (λ (i : ℕ × ℕ). i.0 == k) z ∙ itself k in let x : true ≡ false = sym y ∙ q in cc
        absent n (inr z) = out n z

    of : Contains ps (k, now) ⊎ (((n : ℕ) → Contains ps (k, n) → ⊥) × (now ≡ (with_symbol p.0 p.1 m).symbols k)) → Contains (p ∷ ps) (k, now) ⊎ (((n : ℕ) → Contains (p ∷ ps) (k, n) → ⊥) × (now ≡ m.symbols k))
    of (inl h) = inl (later p (k, now) ps h)
    of (inr h) = by h.0 (p.0 == k) refl h.1

-- ---- types for type symbols
pub record IsReplacedBy (ps : List (ℕ × Tree)) (k : ℕ) (o : Option Tree) : Type 0 where
  pub type : Tree
  pub is : o ≡ Some type
  pub there : Contains ps (k, type)

type_is : (p : ℕ × Tree) (k : ℕ) → p.0 ≡ k → p ≡ (k, p.1)
type_is p k a = ap (λ (i : ℕ). (i, p.1)) a

types_at : (ps : List (ℕ × Tree)) (m : Map) (k : ℕ) → IsReplacedBy ps k ((with_mapped_types ps m).types k) ⊎ (((t : Tree) → Contains ps (k, t) → ⊥) × ((with_mapped_types ps m).types k ≡ m.types k))
types_at [] m k = inr ((λ t c. none_here (k, t) c), refl)
types_at (p ∷ ps) m k = of (types_at ps (with_type p.0 p.1 m) k)
  where
    now : Option Tree
    now = (with_mapped_types ps (with_type p.0 p.1 m)).types k

    by : ((t : Tree) → Contains ps (k, t) → ⊥) → (b : Bool) → (p.0 == k) ≡ b → now ≡ (if b then Some p.1 else m.types k) → IsReplacedBy (p ∷ ps) k now ⊎ (((t : Tree) → Contains (p ∷ ps) (k, t) → ⊥) × (now ≡ m.types k))
    by out true q e = inl (record { type = p.1; is = e; there = subst (λ (z : ℕ × Tree). Contains (p ∷ ps) z) (type_is p k (same_number p.0 k q)) (here p ps) })
    by out false q e = inr ((λ t c. absent t (cases_of p (k, t) ps c)), e)
      where
        absent : (t : Tree) → (p ≡ (k, t)) ⊎ Contains ps (k, t) → ⊥
        absent t (inl z) = let y : (p.0 == k) ≡ true = ap (λ (i : ℕ × Tree). i.0 == k) z ∙ itself k in let x : true ≡ false = sym y ∙ q in cc
        absent t (inr z) = out t z

    of : IsReplacedBy ps k now ⊎ (((t : Tree) → Contains ps (k, t) → ⊥) × (now ≡ (with_type p.0 p.1 m).types k)) → IsReplacedBy (p ∷ ps) k now ⊎ (((t : Tree) → Contains (p ∷ ps) (k, t) → ⊥) × (now ≡ m.types k))
    of (inl h) = inl (record { type = h.type; is = h.is; there = later p (k, h.type) ps h.there })
    of (inr h) = by h.0 (p.0 == k) refl h.1

-- ---- each leaves the others

types_same : (ps : List (ℕ × Tree)) (a b : Map) (k : ℕ) → a.types k ≡ b.types k → (with_mapped_types ps a).types k ≡ (with_mapped_types ps b).types k
types_same [] a b k q = q
types_same (p ∷ ps) a b k q = types_same ps (with_type p.0 p.1 a) (with_type p.0 p.1 b) k (ap (λ (o : Option Tree). if p.0 == k then Some p.1 else o) q)

-- ---- the map
-- what no symbol replaces has a new number or stays
abbrev pub IsOther : List (ℕ × ℕ) → ℕ → List ℕ → ℕ → ℕ → Type 0
IsOther symbols first others k j = ((n : ℕ) → Contains symbols (k, n) → ⊥) × (IsAt first others k j ⊎ ((Contains others k → ⊥) × (j ≡ k)))

module _ (types : List (ℕ × Tree)) (symbols : List (ℕ × ℕ)) (first : ℕ) (others : List ℕ) where
  abbrev numbered : Map
  numbered = with_numbers first others same_map

  abbrev m : Map
  m = map_of types symbols first others

  pub symbol_cases : (k : ℕ) → Contains symbols (k, m.symbols k) ⊎ IsOther symbols first others k (m.symbols k)
  symbol_cases k = of (symbols_at symbols numbered k) (numbers_at others first same_map k)
    where
      before : ℕ
      before = (with_symbols symbols numbered).symbols k

      same : m.symbols k ≡ before
      same = types_leave types (with_symbols symbols numbered) k

      else_is : before ≡ numbered.symbols k → IsAt first others k (numbered.symbols k) ⊎ ((Contains others k → ⊥) × (numbered.symbols k ≡ same_map.symbols k)) → IsAt first others k (m.symbols k) ⊎ ((Contains others k → ⊥) × (m.symbols k ≡ k))
      else_is q (inl h) = inl (subst (IsAt first others k) (sym (same ∙ q)) h)
      else_is q (inr h) = inr (h.0, same ∙ (q ∙ h.1))

      of : Contains symbols (k, before) ⊎ (((n : ℕ) → Contains symbols (k, n) → ⊥) × (before ≡ numbered.symbols k)) → IsAt first others k (numbered.symbols k) ⊎ ((Contains others k → ⊥) × (numbered.symbols k ≡ same_map.symbols k))
          → Contains symbols (k, m.symbols k) ⊎ IsOther symbols first others k (m.symbols k)
      of (inl h) z = inl (subst (λ (j : ℕ). Contains symbols (k, j)) (sym same) h)
      of (inr h) z = inr (h.0, else_is h.1 z)

  before_none : (k : ℕ) → (with_symbols symbols numbered).types k ≡ None
  before_none k = symbols_leave symbols numbered k ∙ numbers_leave first others same_map k

  pub type_cases : (k : ℕ) → IsReplacedBy types k (m.types k) ⊎ (((t : Tree) → Contains types (k, t) → ⊥) × (m.types k ≡ None))
  type_cases k = of (types_at types (with_symbols symbols numbered) k)
    where
      of : IsReplacedBy types k (m.types k) ⊎ (((t : Tree) → Contains types (k, t) → ⊥) × (m.types k ≡ (with_symbols symbols numbered).types k)) → IsReplacedBy types k (m.types k) ⊎ (((t : Tree) → Contains types (k, t) → ⊥) × (m.types k ≡ None))
      of (inl h) = inl h
      of (inr h) = inr (h.0, h.1 ∙ before_none k)

-- two maps that replace the same types
pub types_alike : (types : List (ℕ × Tree)) (symbols symbols2 : List (ℕ × ℕ)) (first first2 : ℕ) (others others2 : List ℕ) (k : ℕ) → (map_of types symbols first others).types k ≡ (map_of types symbols2 first2 others2).types k
types_alike types symbols symbols2 first first2 others others2 k =
    types_same types (with_symbols symbols (with_numbers first others same_map)) (with_symbols symbols2 (with_numbers first2 others2 same_map)) k
    (before_none types symbols first others k ∙ sym (before_none types symbols2 first2 others2 k))
