-- What is built in stays right with the entries of tuples, and with entries of a source.
use Rattle.std.proofs.Common.{◌≡◌, ◌⊎◌, inl, inr, ℕ, ◌+◌, ◌-◌, ◌<◌, ◌≤◌, ◌==◌, ◌&&◌, not, zero, suc, cond, Bool, true, false, List, [], ◌∷◌, ◌++◌, take, drop, length, slice_get, All, Option, Some, None, codes, decimal, refl, sym, ap, subst, ◌∙◌, arith, length-drop, append_assoc, append-nil}
use Rattle.std.specs.Str.{bytes_eq}
use Rattle.std.proofs.lemmas.Bool.{eqb-true}
use Rattle.std.proofs.lemmas.List.Elements.{All-nil, All-cons}
use Rattle.elab_groups.specs.trees.Tree.{Tree}
use Rattle.elab_groups.specs.tasks.declared.signature.SymbolKind.TheVariants.{Projection}
use Rattle.elab_groups.specs.tasks.Task.{SymbolTree, int_symbol}
use Rattle.elab_groups.specs.tasks.Equations.{type_variables}
use Rattle.elab_groups.specs.tasks.Vocabulary.{is_constructor_kind}
use Rattle.elab_groups.specs.tasks.Valid.{own_type}
use Rattle.elab_groups.specs.surface.Lexeme.{Word}
use Rattle.elab_groups.specs.parts.Entries.{projections, builtin, tuple_entries, is_tuple, tuple_from, tuple_in, wanting_tuple, wanting_tuples}
use Rattle.elaboration_laws.specs.Scopes.{is_projection_kind}
use Rattle.elaboration_laws.proofs.Extended.{further, in_either, slice_all}
use Rattle.elaboration_laws.specs.Lists.{is_built}
use Rattle.theory_states.specs.goal_tasks.Meaning.{IsTupleAt, AreTuples}
use Rattle.elaboration_laws.specs.Built.{IsOfTuple, IsBuiltRight}
use Rattle.theory_states.proofs.goal_tasks.TuplesMade.{variables_count as count_variables}

projections_count : (theory constructor : Word) (vars : ℕ) (t : Tree) (i : ℕ) (fs : List Tree) → length (projections theory constructor vars t i fs) ≡ length fs
projections_count theory constructor vars t i [] = refl
projections_count theory constructor vars t i (f ∷ fs) = ap suc (projections_count theory constructor vars t (suc i) fs)

-- ---- the first constructor of a width, in two lists
found_front : (n k c : ℕ) (xs ys : List SymbolTree) → tuple_from n k xs ≡ Some c → tuple_from n k (xs ++ ys) ≡ Some c
found_front n k c [] ys q = absurd (cc)
found_front n k c (x ∷ xs) ys q = of (is_tuple n x) (tuple_from n (suc k) xs) q (λ z. found_front n (suc k) c xs ys z)
  where
    of : (b : Bool) (m : Option ℕ) → cond b (Some k) m ≡ Some c → (m ≡ Some c → tuple_from n (suc k) (xs ++ ys) ≡ Some c) → cond b (Some k) (tuple_from n (suc k) (xs ++ ys)) ≡ Some c
    of true m z f = z
    of false m z f = f z

found_back : (n k : ℕ) (xs ys : List SymbolTree) → tuple_from n k xs ≡ None → tuple_from n k (xs ++ ys) ≡ tuple_from n (k + length xs) ys
found_back n k [] ys q = let z : k ≡ k + 0 = omega arith in ap (λ (i : ℕ). tuple_from n i ys) z
found_back n k (x ∷ xs) ys q = of (is_tuple n x) (tuple_from n (suc k) xs) q (λ z. found_back n (suc k) xs ys z)
  where
    of : (b : Bool) (m : Option ℕ) → cond b (Some k) m ≡ None → (m ≡ None → tuple_from n (suc k) (xs ++ ys) ≡ tuple_from n (suc k + length xs) ys) → cond b (Some k) (tuple_from n (suc k) (xs ++ ys)) ≡ tuple_from n (k + length (x ∷ xs)) ys
    of true m z f = absurd (cc)
    of false m z f = let s : suc k + length xs ≡ k + suc (length xs) = omega arith in f z ∙ ap (λ (i : ℕ). tuple_from n i ys) s

-- an entry that isn't built in is no constructor of tuples
none_found : (n k : ℕ) (es : List SymbolTree) → All (λ (e : SymbolTree). bytes_eq e.theory builtin ≡ false) es → tuple_from n k es ≡ None
none_found n k [] h = refl
none_found n k (e ∷ es) h = let q : bytes_eq e.theory builtin ≡ false = h 0 e (omega arith) in of (is_constructor_kind e.kind) (bytes_eq e.theory builtin) q (none_found n (suc k) es (λ i d l. h (suc i) d (omega arith)))
  where
    of : (a b : Bool) → b ≡ false → tuple_from n (suc k) es ≡ None → cond (a && (b && (e.vars == n && length e.args == n))) (Some k) (tuple_from n (suc k) es) ≡ None
    of true b z f = rw z f
    of false b z f = f

-- ---- entries at a constructor
take_front : (n : ℕ) (xs ys : List SymbolTree) → n ≤ length xs → take n (xs ++ ys) ≡ take n xs
take_front zero xs ys l = refl
take_front (suc n) [] ys l = absurd (omega arith)
take_front (suc n) (x ∷ xs) ys l = ap (λ (r : List SymbolTree). x ∷ r) (take_front n xs ys (omega arith))

drop_front : (n : ℕ) (xs ys : List SymbolTree) → n ≤ length xs → drop n (xs ++ ys) ≡ drop n xs ++ ys
drop_front zero xs ys l = refl
drop_front (suc n) [] ys l = absurd (omega arith)
drop_front (suc n) (x ∷ xs) ys l = drop_front n xs ys (omega arith)

drop_all : (xs ys : List SymbolTree) → drop (length xs) (xs ++ ys) ≡ ys
drop_all [] ys = refl
drop_all (x ∷ xs) ys = drop_all xs ys

drop_length : (n : ℕ) (xs : List SymbolTree) → n ≤ length xs → n + length (drop n xs) ≡ length xs
drop_length zero xs l = omega arith
drop_length (suc n) [] l = absurd (omega arith)
drop_length (suc n) (x ∷ xs) l = let q = drop_length n xs (omega arith) in omega (arith, q)

take_whole : (n : ℕ) (xs : List SymbolTree) → n ≡ length xs → take n xs ≡ xs
take_whole zero [] q = refl
take_whole zero (x ∷ xs) q = absurd (omega (arith, q))
take_whole (suc n) [] q = absurd (omega (arith, q))
take_whole (suc n) (x ∷ xs) q = ap (λ (r : List SymbolTree). x ∷ r) (take_whole n xs (omega (arith, q)))

-- ---- the entries of a width after others

no_projection : (theory constructor : Word) (vars : ℕ) (t : Tree) (i : ℕ) (fs : List Tree) → All (λ (e : SymbolTree). e.kind ≡ Projection) (projections theory constructor vars t i fs)
no_projection theory constructor vars t i [] = All-nil (λ (e : SymbolTree). e.kind ≡ Projection)
no_projection theory constructor vars t i (f ∷ fs) = All-cons (λ (e : SymbolTree). e.kind ≡ Projection) _ (projections theory constructor vars t (suc i) fs) refl (no_projection theory constructor vars t (suc i) fs)

none_of_projections : (n k : ℕ) (es : List SymbolTree) → All (λ (e : SymbolTree). e.kind ≡ Projection) es → tuple_from n k es ≡ None
none_of_projections n k [] h = refl
none_of_projections n k (e ∷ es) h = let q : e.kind ≡ Projection = h 0 e (omega arith) in rw q (none_of_projections n (suc k) es (λ i d l. h (suc i) d (omega arith)))

entries_count : (k n : ℕ) → length (tuple_entries k n) ≡ n + 2
entries_count k n = let a = projections_count builtin (codes "Tuple" ++ decimal n) n (own_type k n) 1 (type_variables 0 n) in let b = count_variables 0 n in omega (arith, a, b)

take_long : (m : ℕ) (xs : List SymbolTree) → length (take m xs) ≡ m → m ≤ length xs
take_long zero xs q = omega arith
take_long (suc m) [] q = absurd (omega (arith, q))
take_long (suc m) (x ∷ xs) q = let l = take_long m xs (omega (arith, q)) in omega arith

pub within : (symbols : List SymbolTree) (n c : ℕ) → IsTupleAt symbols n c → c + n < length symbols
within symbols n c h =
    let count : length (take (n + 2) (drop (c - 1) symbols)) ≡ n + 2 = ap length h.entries ∙ entries_count (c - 1) n in
    let long = take_long (n + 2) (drop (c - 1) symbols) count in
    let left = length-drop (c - 1) symbols in
    let first = h.type_before in
    omega (arith, long, left, first)

tuple_more : (xs ys : List SymbolTree) (n c : ℕ) → IsTupleAt xs n c → IsTupleAt (xs ++ ys) n c
tuple_more xs ys n c h =
    let l = within xs n c h in
    let p = h.type_before in
    let a = drop_front (c - 1) xs ys (omega arith) in
    let long = drop_length (c - 1) xs (omega arith) in
    let b = take_front (n + 2) (drop (c - 1) xs) ys (omega (arith, long, l, p)) in
    record { type_before = p; entries = ap (take (n + 2)) a ∙ (b ∙ h.entries) }

module _ (k n : ℕ) where
  own : List SymbolTree
  own = projections builtin (codes "Tuple" ++ decimal n) n (own_type k n) 1 (type_variables 0 n)

  -- its constructor is the one of its width
  own_found : (m j c : ℕ) → tuple_from m j (tuple_entries k n) ≡ Some c → (m ≡ n) × (c ≡ suc j)
  own_found m j c q = of (n == m) (length (type_variables 0 n) == m) refl q
    where
      of : (a b : Bool) → (n == m) ≡ a → cond (a && b) (Some (suc j)) (tuple_from m (suc (suc j)) (projections builtin (codes "Tuple" ++ decimal n) n (own_type k n) 1 (type_variables 0 n))) ≡ Some c → (m ≡ n) × (c ≡ suc j)
      of true true z y = (sym (eqb-true n m z), cc)
      of true false z y = let none = none_of_projections m (suc (suc j)) _ (no_projection builtin (codes "Tuple" ++ decimal n) n (own_type k n) 1 (type_variables 0 n)) in absurd (cc)
      of false b z y = let none = none_of_projections m (suc (suc j)) _ (no_projection builtin (codes "Tuple" ++ decimal n) n (own_type k n) 1 (type_variables 0 n)) in absurd (cc)

  own_there : (j : ℕ) → tuple_from n j (tuple_entries k n) ≡ Some (suc j)
  own_there j =
      let q : (n == n) ≡ true = same n in
      let l : (length (type_variables 0 n) == n) ≡ true = let c = count_variables 0 n in rw c (same n) in
      rw (q, l) refl
    where
      same : (i : ℕ) → (i == i) ≡ true
      same i = grind arith

-- ---- more entries
of_tuple_more : (xs ys : List SymbolTree) (k : ℕ) → IsOfTuple xs k → IsOfTuple (xs ++ ys) k
of_tuple_more xs ys k t = record { width = t.width; constructor = t.constructor; found = found_front t.width 0 t.constructor xs ys t.found; is = t.is }

either_more : (xs ys : List SymbolTree) (k : ℕ) → (k ≡ 0) ⊎ IsOfTuple xs k → (k ≡ 0) ⊎ IsOfTuple (xs ++ ys) k
either_more xs ys k (inl q) = inl q
either_more xs ys k (inr t) = inr (of_tuple_more xs ys k t)

-- tuples of more entries are those that were there, or these
more_tuples : (xs ys : List SymbolTree) → AreTuples xs → ((n c : ℕ) → tuple_in xs n ≡ None → tuple_from n (length xs) ys ≡ Some c → IsTupleAt (xs ++ ys) n c) → AreTuples (xs ++ ys)
more_tuples xs ys h f = λ n c q. of n c q (tuple_in xs n) refl
  where
    of : (n c : ℕ) → tuple_in (xs ++ ys) n ≡ Some c → (o : Option ℕ) → tuple_in xs n ≡ o → IsTupleAt (xs ++ ys) n c
    of n c q (Some d) z =
        let y : tuple_in (xs ++ ys) n ≡ Some d = found_front n 0 d xs ys z in
        let same : d ≡ c = cc in
        subst (λ (i : ℕ). IsTupleAt (xs ++ ys) n i) same (tuple_more xs ys n d (h n d z))
    of n c q None z =
        let y = found_back n 0 xs ys z in
        let l : 0 + length xs ≡ length xs = omega arith in
        f n c z (sym (ap (λ (i : ℕ). tuple_from n i ys) l) ∙ sym y ∙ q)

-- ---- the entries of a width
and_false : (b : Bool) → (b && false) ≡ true → ⊥
and_false true q = let z : false ≡ true = q in cc
and_false false q = let z : false ≡ true = q in cc

module _ (xs : List SymbolTree) (h : IsBuiltRight xs) (n : ℕ) (wanting : tuple_in xs n ≡ None) where
  abbrev L : ℕ
  L = length xs

  abbrev ys : List SymbolTree
  ys = tuple_entries L n

  here : IsTupleAt (xs ++ ys) n (suc L)
  here =
      let z : suc L - 1 ≡ L = omega arith in
      let whole = entries_count L n in
      record {
        type_before = omega arith;
        entries = ap (λ (i : ℕ). take (n + 2) (drop i (xs ++ ys))) z ∙ (ap (take (n + 2)) (drop_all xs ys) ∙ (take_whole (n + 2) ys (sym whole) ∙ ap (λ (i : ℕ). tuple_entries i n) (sym z)));
      }

  found : tuple_in (xs ++ ys) n ≡ Some (suc L)
  found = let l : 0 + L ≡ L = omega arith in found_back n 0 xs ys wanting ∙ (ap (λ (i : ℕ). tuple_from n i ys) l ∙ own_there L n L)

  alone_new : (i : ℕ) (e : SymbolTree) → slice_get ys i ≡ Some e → is_built e ≡ true → (k : ℕ) → k ≡ L + i → IsOfTuple (xs ++ ys) k
  alone_new zero e q b k z = record { width = n; constructor = suc L; found = found; is = inr (omega (arith, z)) }
  alone_new (suc zero) e q b k z = record { width = n; constructor = suc L; found = found; is = inl (omega (arith, z)) }
  alone_new (suc (suc i)) e q b k z =
      let p : e.kind ≡ Projection = slice_all (λ (x : SymbolTree). x.kind ≡ Projection) _ (no_projection builtin (codes "Tuple" ++ decimal n) n (own_type L n) 1 (type_variables 0 n)) i e q in
      absurd (and_false (bytes_eq e.theory builtin) (rw p at b))

  width_kept : IsBuiltRight (xs ++ ys)
  width_kept = record {
    int = further xs ys 0 int_symbol h.int;
    tuples = more_tuples xs ys h.tuples (λ m c none q. let z = own_found L n m L c q in let a = z.0 in let b = z.1 in rw (a, b) here);
    alone = λ k e q b. of k e q b (in_either xs ys k e q);
  }
    where
      of : (k : ℕ) (e : SymbolTree) → slice_get (xs ++ ys) k ≡ Some e → is_built e ≡ true → (slice_get xs k ≡ Some e) ⊎ ((length xs ≤ k) × (slice_get ys (k - length xs) ≡ Some e)) → (k ≡ 0) ⊎ IsOfTuple (xs ++ ys) k
      of k e q b (inl z) = either_more xs ys k (h.alone k e z b)
      of k e q b (inr z) = inr (alone_new (k - length xs) e z.1 b k (omega (arith, z.0)))

one_kept : (xs : List SymbolTree) (n : ℕ) (m : Option ℕ) → tuple_in xs n ≡ m → IsBuiltRight xs → IsBuiltRight (xs ++ wanting_tuple xs n m)
one_kept xs n None q h = width_kept xs h n q
one_kept xs n (Some k) q h = rw append-nil h

widths_kept : (xs : List SymbolTree) (ns : List ℕ) → IsBuiltRight xs → IsBuiltRight (xs ++ wanting_tuples xs ns)
widths_kept xs [] h = rw append-nil h
widths_kept xs (n ∷ ns) h =
    let more = wanting_tuple xs n (tuple_in xs n) in
    subst IsBuiltRight (append_assoc xs more (wanting_tuples (xs ++ more) ns)) (widths_kept (xs ++ more) ns (one_kept xs n (tuple_in xs n) refl h))

-- ---- entries of a source
abbrev pub IsOfSource : SymbolTree → Type 0
IsOfSource e = bytes_eq e.theory builtin ≡ false

pub source_kept : (xs ys : List SymbolTree) → IsBuiltRight xs → All IsOfSource ys → IsBuiltRight (xs ++ ys)
source_kept xs ys h s = record {
  int = further xs ys 0 int_symbol h.int;
  tuples = more_tuples xs ys h.tuples (λ n c none q. let z = none_found n (length xs) ys s in absurd (cc));
  alone = λ k e q b. of k e b (in_either xs ys k e q);
}
  where
    not_built : (a b : Bool) → a ≡ false → (a && b) ≡ true → ⊥
    not_built true b z q = let y : true ≡ false = z in cc
    not_built false b z q = let y : false ≡ true = q in cc

    of : (k : ℕ) (e : SymbolTree) → is_built e ≡ true → (slice_get xs k ≡ Some e) ⊎ ((length xs ≤ k) × (slice_get ys (k - length xs) ≡ Some e)) → (k ≡ 0) ⊎ IsOfTuple (xs ++ ys) k
    of k e b (inl z) = either_more xs ys k (h.alone k e z b)
    of k e b (inr z) = absurd (not_built (bytes_eq e.theory builtin) (not (is_projection_kind e.kind)) (slice_all IsOfSource ys s (k - length xs) e z.1) b)

pub all_kept : (xs own : List SymbolTree) (ns : List ℕ) → IsBuiltRight xs → All IsOfSource own → IsBuiltRight (xs ++ (wanting_tuples xs ns ++ own))
all_kept xs own ns h s =
    let tuples = wanting_tuples xs ns in
    subst IsBuiltRight (append_assoc xs tuples own) (source_kept (xs ++ tuples) own (widths_kept xs ns h) s)
