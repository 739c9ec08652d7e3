-- The entries of tuples in a signature, and the declarations of widths one after another.
use Rattle.std.proofs.Common.{◌≡◌, ℕ, zero, suc, ◌<◌, ◌+◌, ◌-◌, ◌||◌, if◌then◌else◌, codes, List, [], ◌∷◌, ◌++◌, length, get_or, drop, Option, Some, None, refl, sym, ap, ◌∙◌, arith, add-one, IfSome}
use Rattle.std.specs.List.{flat_map, range_with_len}
use Rattle.std.specs.Fmt.{decimal}
use Rattle.std.proofs.lemmas.List.{append-nil, get_or-take, get_or-drop, length-take, length-drop, length-map, length_push}
use Rattle.std.proofs.lemmas.List.Concat.{flat_map-append}
use Rattle.trees.specs.Tree.{Tree}
use Rattle.tasks.specs.Task.{SymbolTree, symbol_or, int_symbol, DeclarationTree}
use Rattle.tasks.specs.Equations.{type_variables}
use Rattle.tasks.specs.Valid.{own_type}
use Rattle.tasks.specs.declared.signature.SymbolInfo.{SymbolInfo}
use Rattle.tasks.specs.Meaning.{symbol_at, symbols_at}
use Rattle.tasks.specs.Entries.{builtin, projections, tuple_entries, tuple_in}
use Rattle.theory_states.specs.goal_tasks.Named.{is_among}
use Rattle.theory_states.specs.goal_tasks.Gathered.{GainsSymbols}
use Rattle.theory_states.specs.goal_tasks.Tuples.{tuples_of, tuples_in, tuple_declaration}
use Rattle.theory_states.specs.goal_tasks.Meaning.{IsTupleAt, AreTuples}

-- ---- the entries
projections_count : (theory constructor : List ℕ) (vars : ℕ) (type : Tree) (i : ℕ) (fs : List Tree) → length (projections theory constructor vars type i fs) ≡ length fs
projections_count theory constructor vars type i [] = refl
projections_count theory constructor vars type i (f ∷ fs) = ap suc (projections_count theory constructor vars type (suc i) fs)

pub variables_count : (from n : ℕ) → length (type_variables from n) ≡ n
variables_count from zero = refl
variables_count from (suc n) = ap suc (variables_count (from + 1) n)

entries_count : (k n : ℕ) → length (tuple_entries k n) ≡ n + 2
entries_count k n = omega (arith, projections_count builtin (codes "Tuple" ++ decimal n) n (own_type k n) 1 (type_variables 0 n), variables_count 0 n)

module _ (symbols : List SymbolTree) (n c : ℕ) (at : IsTupleAt symbols n c) where
  -- they are there
  pub within : c + n < length symbols
  within =
      let count = ap length at.entries ∙ entries_count (c - 1) n in
      let taken = length-take (n + 2) (drop (c - 1) symbols) in
      let left = length-drop (c - 1) symbols in
      let first = at.type_before in
      omega arith

  entry : (i : ℕ) → i < n + 2 → symbol_or symbols (c - 1 + i) ≡ get_or (tuple_entries (c - 1) n) i int_symbol
  entry i l = sym (get_or-drop (c - 1) symbols i int_symbol) ∙ sym (get_or-take (n + 2) (drop (c - 1) symbols) i int_symbol l) ∙ ap (λ z. get_or z i int_symbol) at.entries

  pub type_name : (symbol_or symbols (c - 1)).name ≡ codes "tuple" ++ decimal n
  type_name = let q : c - 1 ≡ c - 1 + 0 = omega arith in ap (λ z. (symbol_or symbols z).name) q ∙ ap (λ (e : SymbolTree). e.name) (entry 0 (omega arith))

  pub con_args : (symbol_or symbols c).args ≡ type_variables 0 n
  con_args = let first = at.type_before in let q : c ≡ c - 1 + 1 = omega arith in ap (λ z. (symbol_or symbols z).args) q ∙ ap (λ (e : SymbolTree). e.args) (entry 1 (omega arith))

-- ---- widths
range_last : (a n : ℕ) → range_with_len a (suc n) ≡ range_with_len a n ++ (a + n) ∷ []
range_last a zero = let q : a ≡ a + 0 = omega arith in ap (λ z. z ∷ []) q
range_last a (suc n) = let q : a + 1 + n ≡ a + suc n = omega arith in ap (λ z. a ∷ z) (range_last (a + 1) n ∙ ap (λ z. range_with_len (a + 1) n ++ z ∷ []) q)

range_more : (a n : ℕ) → range_with_len a (n + 1) ≡ range_with_len a n ++ (a + n) ∷ []
range_more a n = ap (range_with_len a) (add-one n) ∙ range_last a n

-- a list of numbers from one on, with one more
pub numbers_more : (a k : ℕ) (old new : List ℕ) → new ≡ old ++ k ∷ [] → (old ≡ range_with_len a (length old)) × (a + length old ≡ k) → (new ≡ range_with_len a (length new)) × (a + length new ≡ k + 1)
numbers_more a k old new q h =
    let count : length new ≡ length old + 1 = ap length q ∙ length_push old k in (
      q ∙ ap (λ z. old ++ z ∷ []) (sym h.1) ∙ ap (λ z. z ++ (a + length old) ∷ []) h.0 ∙ sym (range_more a (length old)) ∙ ap (range_with_len a) (sym count),
      omega (arith, count, h.1),
    )

-- those of the widths below a number
abbrev pub tuples_below : List SymbolTree → List ℕ → ℕ → List DeclarationTree
tuples_below symbols ks n = flat_map (λ m. tuples_of ks m (tuple_in symbols m)) (range_with_len 0 n)

pub tuples_more : (symbols : List SymbolTree) (ks : List ℕ) (n : ℕ) → tuples_below symbols ks (n + 1) ≡ tuples_below symbols ks n ++ tuples_of ks n (tuple_in symbols n)
tuples_more symbols ks n =
    let f = λ (m : ℕ). tuples_of ks m (tuple_in symbols m) in
    ap (flat_map f) (range_more 0 n) ∙ flat_map-append f (range_with_len 0 n) ((0 + n) ∷ []) ∙ ap (λ z. flat_map f (range_with_len 0 n) ++ z) (append-nil (f (0 + n))) ∙ let q : 0 + n ≡ n = omega arith in ap (λ z. flat_map f (range_with_len 0 n) ++ f z) q

-- ---- what is named counts alone
same_of : (ks ns : List ℕ) → ((k : ℕ) → is_among ks k ≡ is_among ns k) → (n : ℕ) (o : Option ℕ) → tuples_of ks n o ≡ tuples_of ns n o
same_of ks ns e n None = refl
same_of ks ns e n (Some c) = ap (λ b. if (b || is_among ks (c - 1)) then tuple_declaration n (c - 1) ∷ [] else []) (e c) ∙ ap (λ b. if (is_among ns c || b) then tuple_declaration n (c - 1) ∷ [] else []) (e (c - 1))

same_over : (ks ns : List ℕ) → ((k : ℕ) → is_among ks k ≡ is_among ns k) → (symbols : List SymbolTree) (ms : List ℕ) → flat_map (λ m. tuples_of ks m (tuple_in symbols m)) ms ≡ flat_map (λ m. tuples_of ns m (tuple_in symbols m)) ms
same_over ks ns e symbols [] = refl
same_over ks ns e symbols (m ∷ ms) = ap (λ z. z ++ flat_map (λ m. tuples_of ks m (tuple_in symbols m)) ms) (same_of ks ns e m (tuple_in symbols m)) ∙ ap (λ z. tuples_of ns m (tuple_in symbols m) ++ z) (same_over ks ns e symbols ms)

pub tuples_same : (symbols : List SymbolTree) (found ks : List ℕ) → GainsSymbols [] found ks → tuples_in symbols found ≡ tuples_in symbols ks
tuples_same symbols found ks g = same_over found ks g.each symbols (range_with_len 0 (length symbols))

-- ---- the entries in code
pub entry_within : (s : List Tree) (xs : List SymbolInfo) (n c : ℕ) → IsTupleAt (symbols_at s xs) n c → c + n < length xs
entry_within s xs n c at = let w = within (symbols_at s xs) n c at in let l = length-map xs (symbol_at s) in omega arith

pub entry_is : (s : List Tree) (xs : List SymbolInfo) (k : ℕ) (x : SymbolInfo) → k < length xs → x ≡ get_or xs k x → symbol_at s x ≡ symbol_or (symbols_at s xs) k
entry_is s [] k x h e = absurd (omega arith)
entry_is s (y ∷ ys) zero x h e = ap (symbol_at s) e
entry_is s (y ∷ ys) (suc k) x h e = entry_is s ys k x (omega arith) e

pub tuple_there : (symbols : List SymbolTree) → AreTuples symbols → (n : ℕ) (o : Option ℕ) → o ≡ tuple_in symbols n → IfSome o (IsTupleAt symbols n)
tuple_there symbols are n None q = tt
tuple_there symbols are n (Some c) q = are n c (sym q)
