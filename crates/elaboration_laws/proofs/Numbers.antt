-- What a map of a clone takes symbols and type symbols to: each is new, or is replaced, or stays.
use Rattle.std.proofs.Common.{◌≡◌, ℕ, ◌+◌, ◌==◌, if◌then◌else◌, suc, Bool, true, false, List, [], ◌∷◌, slice_get, Some, IfSome, refl, subst, arith}
use Rattle.std.specs.List.{Contains}
use Rattle.elab_groups.specs.trees.Tree.{Tree}
use Rattle.clones.specs.Mapped.{Map}
use Rattle.clones.specs.clone_elements.Replacements.{same_map, with_symbol, with_type, with_numbers, with_symbols, with_mapped_types, map_of}
use Rattle.elab_groups.proofs.plain_laws.Bools.{same_number}
pub use Rattle.elab_groups.proofs.plain_laws.Lists.{first_contained as here}

pub later : {X : Type 0} (y x : X) (xs : List X) → Contains xs x → Contains (y ∷ xs) x
later y x xs h = (suc h.0, let l = h.1 in omega (arith, l), h.2)

-- ---- numbers of symbols
module _ (P : ℕ → ℕ → Type 0) where
  symbol_has : (j new : ℕ) (m : Map) → P j new → ((k : ℕ) → P k (m.symbols k)) → (k : ℕ) → P k ((with_symbol j new m).symbols k)
  symbol_has j new m p h k = of (j == k) refl
    where
      of : (b : Bool) → (j == k) ≡ b → P k (if b then new else m.symbols k)
      of true q = subst (λ (i : ℕ). P i new) (same_number j k q) p
      of false q = h k

  numbers_have : (ks : List ℕ) (n : ℕ) (m : Map) → ((i k : ℕ) → slice_get ks i ≡ Some k → P k (n + i)) → ((k : ℕ) → P k (m.symbols k)) → (k : ℕ) → P k ((with_numbers n ks m).symbols k)
  numbers_have [] n m f h = h
  numbers_have (j ∷ ks) n m f h =
      let first : P j n = subst (P j) (omega arith) (f 0 j refl) in
      numbers_have ks (n + 1) (with_symbol j n m) (λ i k q. subst (P k) (omega arith) (f (suc i) k q)) (symbol_has j n m first h)

  symbols_have : (ps : List (ℕ × ℕ)) (m : Map) → ((p : ℕ × ℕ) → Contains ps p → P p.0 p.1) → ((k : ℕ) → P k (m.symbols k)) → (k : ℕ) → P k ((with_symbols ps m).symbols k)
  symbols_have [] m f h = h
  symbols_have (p ∷ ps) m f h = symbols_have ps (with_symbol p.0 p.1 m) (λ q c. f q (later p q ps c)) (symbol_has p.0 p.1 m (f p (here p ps)) h)

-- ---- types
module _ (Q : ℕ → Tree → Type 0) where
  type_has : (j : ℕ) (ty : Tree) (m : Map) → Q j ty → ((k : ℕ) → IfSome (m.types k) (Q k)) → (k : ℕ) → IfSome ((with_type j ty m).types k) (Q k)
  type_has j ty m p h k = of (j == k) refl
    where
      of : (b : Bool) → (j == k) ≡ b → IfSome (if b then Some ty else m.types k) (Q k)
      of true q = subst (λ (i : ℕ). Q i ty) (same_number j k q) p
      of false q = h k

  types_have : (ps : List (ℕ × Tree)) (m : Map) → ((p : ℕ × Tree) → Contains ps p → Q p.0 p.1) → ((k : ℕ) → IfSome (m.types k) (Q k)) → (k : ℕ) → IfSome ((with_mapped_types ps m).types k) (Q k)
  types_have [] m f h = h
  types_have (p ∷ ps) m f h = types_have ps (with_type p.0 p.1 m) (λ q c. f q (later p q ps c)) (type_has p.0 p.1 m (f p (here p ps)) h)

-- ---- each leaves the others
pub types_leave : (ps : List (ℕ × Tree)) (m : Map) (k : ℕ) → (with_mapped_types ps m).symbols k ≡ m.symbols k
types_leave [] m k = refl
types_leave (p ∷ ps) m k = types_leave ps (with_type p.0 p.1 m) k

pub symbols_leave : (ps : List (ℕ × ℕ)) (m : Map) (k : ℕ) → (with_symbols ps m).types k ≡ m.types k
symbols_leave [] m k = refl
symbols_leave (p ∷ ps) m k = symbols_leave ps (with_symbol p.0 p.1 m) k

pub numbers_leave : (n : ℕ) (ks : List ℕ) (m : Map) (k : ℕ) → (with_numbers n ks m).types k ≡ m.types k
numbers_leave n [] m k = refl
numbers_leave n (j ∷ ks) m k = numbers_leave (n + 1) ks (with_symbol j n m) k

-- ---- the map
module _ (types : List (ℕ × Tree)) (symbols : List (ℕ × ℕ)) (first : ℕ) (others : List ℕ) where
  pub symbol_of : (P : ℕ → ℕ → Type 0) → ((k : ℕ) → P k k) → ((i k : ℕ) → slice_get others i ≡ Some k → P k (first + i)) → ((p : ℕ × ℕ) → Contains symbols p → P p.0 p.1) → (k : ℕ) → P k ((map_of types symbols first others).symbols k)
  symbol_of P stays anew replaced k =
      let m = with_symbols symbols (with_numbers first others same_map) in
      let e = types_leave types m k in
      rw e (symbols_have P symbols (with_numbers first others same_map) replaced (numbers_have P others first same_map anew stays) k)

  pub type_of : (Q : ℕ → Tree → Type 0) → ((p : ℕ × Tree) → Contains types p → Q p.0 p.1) → (k : ℕ) → IfSome ((map_of types symbols first others).types k) (Q k)
  type_of Q f k =
      let n = with_numbers first others same_map in
      types_have Q types (with_symbols symbols n) f (λ j. let a = symbols_leave symbols n j in let b = numbers_leave first others same_map j in rw (a, b) tt) k
