-- The entries of tuples are typed, and there is a constructor of each width that was wanting.
use Rattle.std.proofs.Common.{◌≡◌, ℕ, ◌+◌, ◌<◌, ◌==◌, ◌&&◌, ◌||◌, zero, suc, Bool, true, false, cond, List, [], ◌∷◌, ◌++◌, length, slice_get, All, Option, Some, None, IfSome, IsSomeAnd, codes, decimal, eq-eqb, refl, sym, ap, subst, ◌∙◌, arith, append_assoc, append-nil, length-append}
use Rattle.std.specs.Option.{is_some}
use Rattle.std.specs.Str.{bytes_eq}
use Rattle.std.proofs.lemmas.Bool.{eqb-true}
use Rattle.std.proofs.lemmas.List.Elements.{All-nil, All-cons}
use Rattle.elab_groups.specs.trees.Tree.{Tree, Leaf, HTyVar}
use Rattle.elab_groups.specs.tasks.declared.signature.SymbolKind.{SymbolKind}
use Rattle.elab_groups.specs.tasks.declared.signature.SymbolKind.TheVariants.{Kind, Constructor}
use Rattle.elab_groups.specs.tasks.Equations.{cells, type_variables}
use Rattle.elab_groups.specs.tasks.Task.{SymbolTree, symbol_or}
use Rattle.elab_groups.specs.tasks.Vocabulary.{Vocabulary, is_empty, is_constructor_kind}
use Rattle.elab_groups.specs.tasks.Typing.{members, IsTypeSymbol}
use Rattle.elab_groups.specs.tasks.Valid.{VariablesBelow, IsTypeIn, own_type}
use Rattle.elab_groups.specs.surface.Lexeme.{Word}
use Rattle.elab_groups.specs.name_resolution.variables.Seen.{has_width}
use Rattle.elab_groups.specs.parts.Entries.{type_entry, projections, constructor_entries, builtin, tuple_entries, is_tuple, tuple_from, tuple_in, wanting_tuple, wanting_tuples, other_words, field_entries, named_entries}
use Rattle.elaboration_laws.specs.Signature.{with_entries, IsTuple}
use Rattle.elaboration_laws.specs.Scopes.{NamesNew, IsTypedEntry, IsTypedSignature}
use Rattle.elaboration_laws.proofs.Over.{IsOver, over_good, cells_over, members_cells}
use Rattle.elaboration_laws.proofs.Instances.{variables_over}
use Rattle.elaboration_laws.proofs.Extended.{signature_more, news_front, news_later, records_later}
use Rattle.elaboration_laws.proofs.Scopes.{typed_entry}
use Rattle.elab_groups.proofs.plain_laws.Bools.{and_both as both_true}
use Rattle.theory_states.proofs.goal_tasks.TuplesMade.{variables_count as count_variables}

-- ---- a type symbol at its own type variables
module _ (v : Vocabulary) where
  pub variables_in : (m k n : ℕ) → m + k ≡ n → All (IsTypeIn v n) (type_variables m k)
  variables_in m zero n q = All-nil (IsTypeIn v n)
  variables_in m (suc k) n q = All-cons (IsTypeIn v n) (Leaf (HTyVar m)) (type_variables (m + 1) k) (record { sort = refl; typed = (tt, tt); variables = omega (arith, q) }) (variables_in (m + 1) k n (omega (arith, q)))

  cells_below : (m k n : ℕ) → m + k ≡ n → VariablesBelow n (cells (type_variables m k))
  cells_below m zero n q = tt
  cells_below m (suc k) n q = (omega (arith, q), cells_below (m + 1) k n (omega (arith, q)))

  pub own_in : (k n : ℕ) → IsTypeSymbol v k n → IsTypeIn v n (own_type k n)
  own_in k n h =
      let count : length (members (cells (type_variables 0 n))) ≡ n = ap length (members_cells (type_variables 0 n)) ∙ count_variables 0 n in
      let o : IsOver v true (own_type k n) = (rw count h, cells_over v (type_variables 0 n) (variables_over v 0 n)) in
      let g = over_good v true [] (own_type k n) o in
      record { sort = g.1; typed = g.0.0; variables = cells_below 0 n n (omega arith) }

  pub type_entry_typed : (theory name : Word) (n : ℕ) → IsTypedEntry v (type_entry theory name n)
  type_entry_typed theory name n = record { types = record { args = All-nil (IsTypeIn v n); result = tt }; result = λ m. absurd m }

  projections_typed : (theory name : Word) (n : ℕ) (t : Tree) (i : ℕ) (fs : List Tree) → IsTypeIn v n t → All (IsTypeIn v n) fs → All (IsTypedEntry v) (projections theory name n t i fs)
  projections_typed theory name n t i [] h k = All-nil (IsTypedEntry v)
  projections_typed theory name n t i (f ∷ fs) h k =
      All-cons (IsTypedEntry v) _ (projections theory name n t (suc i) fs) (record { types = record { args = All-cons (IsTypeIn v n) t [] h (All-nil (IsTypeIn v n)); result = k 0 f (omega arith) }; result = λ m. tt })
      (projections_typed theory name n t (suc i) fs h (λ j d l. k (suc j) d (omega arith)))

  -- a constructor with its projections
  pub constructor_typed : (theory name : Word) (n : ℕ) (t : Tree) (fs : List Tree) → IsTypeIn v n t → All (IsTypeIn v n) fs → All (IsTypedEntry v) (constructor_entries theory name n t fs)
  constructor_typed theory name n t fs h k =
      All-cons (IsTypedEntry v) _ (projections theory name n t 1 fs) (record { types = record { args = k; result = h }; result = λ m. tt }) (projections_typed theory name n t 1 fs h k)

  -- a constructor with fields that may have names
  fields_typed : (theory within name : Word) (n : ℕ) (t : Tree) (i : ℕ) (ws : List Word) (fs : List Tree) → IsTypeIn v n t → All (IsTypeIn v n) fs → All (IsTypedEntry v) (field_entries theory within name n t i ws fs)
  fields_typed theory within name n t i ws [] h k = All-nil (IsTypedEntry v)
  fields_typed theory within name n t i ws (f ∷ fs) h k =
      All-cons (IsTypedEntry v) _ (field_entries theory within name n t (suc i) (other_words ws) fs) (record { types = record { args = All-cons (IsTypeIn v n) t [] h (All-nil (IsTypeIn v n)); result = k 0 f (omega arith) }; result = λ m. tt })
      (fields_typed theory within name n t (suc i) (other_words ws) fs h (λ j d l. k (suc j) d (omega arith)))

  pub named_typed : (theory within name : Word) (n : ℕ) (t : Tree) (ws : List Word) (fs : List Tree) → IsTypeIn v n t → All (IsTypeIn v n) fs → All (IsTypedEntry v) (named_entries theory within name n t ws fs)
  named_typed theory within name n t ws fs h k =
      All-cons (IsTypedEntry v) _ (field_entries theory within name n t 1 ws fs) (record { types = record { args = k; result = h }; result = λ m. tt }) (fields_typed theory within name n t 1 ws fs h k)

-- an entry after others
at_end : (xs : List SymbolTree) (e : SymbolTree) (ys : List SymbolTree) → slice_get (xs ++ e ∷ ys) (length xs) ≡ Some e
at_end [] e ys = refl
at_end (x ∷ xs) e ys = at_end xs e ys

pub last_type : (base : Vocabulary) (xs ys : List SymbolTree) (theory name : Word) (n : ℕ) → is_empty theory ≡ false → NamesNew base (length xs) (xs ++ type_entry theory name n ∷ ys) → IsTypeSymbol (with_entries base (xs ++ type_entry theory name n ∷ ys)) (length xs) n
last_type base xs ys theory name n q news = let z = at_end xs (type_entry theory name n) ys in ((news (length xs) (type_entry theory name n) (omega arith) z).usable (rw q refl), rw z (refl, refl))

tuple_typed : (base : Vocabulary) (symbols : List SymbolTree) (n : ℕ) → NamesNew base (length symbols) (symbols ++ tuple_entries (length symbols) n) → All (IsTypedEntry (with_entries base (symbols ++ tuple_entries (length symbols) n))) (tuple_entries (length symbols) n)
tuple_typed base symbols n news =
    let k = length symbols in
    let name = codes "tuple" ++ decimal n in
    let rest = constructor_entries builtin (codes "Tuple" ++ decimal n) n (own_type k n) (type_variables 0 n) in
    let v = with_entries base (symbols ++ tuple_entries k n) in
    All-cons (IsTypedEntry v) (type_entry builtin name n) rest (type_entry_typed v builtin name n)
    (constructor_typed v builtin (codes "Tuple" ++ decimal n) n (own_type k n) (type_variables 0 n) (own_in v k n (last_type base symbols rest builtin name n refl news)) (variables_in v 0 n n (omega arith)))

one_typed : (base : Vocabulary) (symbols : List SymbolTree) (n : ℕ) (m : Option ℕ) → NamesNew base (length symbols) (symbols ++ wanting_tuple symbols n m) → IsTypedSignature base symbols → IsTypedSignature base (symbols ++ wanting_tuple symbols n m)
one_typed base symbols n None news h = signature_more base symbols (tuple_entries (length symbols) n) h (tuple_typed base symbols n news) news (records_later base symbols (tuple_entries (length symbols) n) refl news)
one_typed base symbols n (Some k) news h = rw append-nil h

pub tuples_typed : (base : Vocabulary) (symbols : List SymbolTree) (ns : List ℕ) → NamesNew base (length symbols) (symbols ++ wanting_tuples symbols ns) → IsTypedSignature base symbols → IsTypedSignature base (symbols ++ wanting_tuples symbols ns)
tuples_typed base symbols [] news h = rw append-nil h
tuples_typed base symbols (n ∷ ns) news h =
    let more = wanting_tuple symbols n (tuple_in symbols n) in
    let rest = wanting_tuples (symbols ++ more) ns in
    let same = append_assoc symbols more rest in
    let all : NamesNew base (length symbols) ((symbols ++ more) ++ rest) = subst (λ (es : List SymbolTree). NamesNew base (length symbols) es) (sym same) news in
    subst (IsTypedSignature base) same
    (tuples_typed base (symbols ++ more) ns (news_later base (length symbols) (length (symbols ++ more)) ((symbols ++ more) ++ rest) (omega (arith, length-append symbols more)) all) (one_typed base symbols n (tuple_in symbols n) (news_front base (length symbols) (symbols ++ more) rest all) h))

-- ---- a constructor of a width
some_cond : (b : Bool) (k : ℕ) (m : Option ℕ) → is_some (cond b (Some k) m) ≡ (b || is_some m)
some_cond true k m = refl
some_cond false k m = refl

abbrev pub has_tuple : ℕ → ℕ → List SymbolTree → Bool
has_tuple n k es = is_some (tuple_from n k es)

pub tuple_front : (n k : ℕ) (xs ys : List SymbolTree) → has_tuple n k xs ≡ true → has_tuple n k (xs ++ ys) ≡ true
tuple_front n k [] ys h = absurd (cc)
tuple_front n k (x ∷ xs) ys h = of (is_tuple n x) (tuple_from n (suc k) xs) h (λ q. tuple_front n (suc k) xs ys q)
  where
    of : (b : Bool) (m : Option ℕ) → is_some (cond b (Some k) m) ≡ true → (is_some m ≡ true → has_tuple n (suc k) (xs ++ ys) ≡ true) → is_some (cond b (Some k) (tuple_from n (suc k) (xs ++ ys))) ≡ true
    of true m q f = refl
    of false m q f = f q

tuple_after : (n k : ℕ) (xs ys : List SymbolTree) → ((j : ℕ) → has_tuple n j ys ≡ true) → has_tuple n k (xs ++ ys) ≡ true
tuple_after n k [] ys h = h k
tuple_after n k (x ∷ xs) ys h = of (is_tuple n x) (tuple_after n (suc k) xs ys h)
  where
    of : (b : Bool) → has_tuple n (suc k) (xs ++ ys) ≡ true → is_some (cond b (Some k) (tuple_from n (suc k) (xs ++ ys))) ≡ true
    of true q = refl
    of false q = q

own_tuple : (n k j : ℕ) → has_tuple n j (tuple_entries k n) ≡ true
own_tuple n k j =
    let q : (n == n) ≡ true = eq-eqb n n refl in
    let l : (length (type_variables 0 n) == n) ≡ true = eq-eqb (length (type_variables 0 n)) n (count_variables 0 n) in
    rw (q, l) refl

one_there : (symbols : List SymbolTree) (n : ℕ) (m : Option ℕ) → tuple_in symbols n ≡ m → has_tuple n 0 (symbols ++ wanting_tuple symbols n m) ≡ true
one_there symbols n None h = tuple_after n 0 symbols (tuple_entries (length symbols) n) (λ j. own_tuple n (length symbols) j)
one_there symbols n (Some k) h = tuple_front n 0 symbols [] (ap is_some h)

either_there : (n m : ℕ) (xs rest : List SymbolTree) (c b : Bool) → (m == n) ≡ b → (b || c) ≡ true → has_tuple m 0 xs ≡ true → (c ≡ true → has_tuple n 0 (xs ++ rest) ≡ true) → has_tuple n 0 (xs ++ rest) ≡ true
either_there n m xs rest c true q k h f = let e : m ≡ n = eqb-true m n q in tuple_front n 0 xs rest (rw e at h)
either_there n m xs rest c false q k h f = f k

pub tuples_there : (symbols : List SymbolTree) (ns : List ℕ) (n : ℕ) → has_width n ns ≡ true → is_some (tuple_in (symbols ++ wanting_tuples symbols ns) n) ≡ true
tuples_there symbols [] n h = absurd (cc)
tuples_there symbols (m ∷ ns) n h =
    let more = wanting_tuple symbols m (tuple_in symbols m) in
    let rest = wanting_tuples (symbols ++ more) ns in
    subst (λ (es : List SymbolTree). has_tuple n 0 es ≡ true) (append_assoc symbols more rest)
    (either_there n m (symbols ++ more) rest (has_width n ns) (m == n) refl h (one_there symbols m (tuple_in symbols m) refl) (λ q. tuples_there (symbols ++ more) ns n q))

-- ---- what is found is one
abbrev IsFoundTuple : List SymbolTree → ℕ → Option ℕ → Type 0
IsFoundTuple all n m = IfSome m (λ (k : ℕ). (k < length all) × (is_tuple n (symbol_or all k) ≡ true) × (slice_get all k ≡ Some (symbol_or all k)))

tuple_found : (n : ℕ) (es all : List SymbolTree) (k : ℕ) → ((j : ℕ) → j < length es → slice_get all (k + j) ≡ Some (symbol_or es j)) → (k + length es ≡ length all) → ((j : ℕ) → j < length es → symbol_or all (k + j) ≡ symbol_or es j) → IsFoundTuple all n (tuple_from n k es)
tuple_found n [] all k h l g = tt
tuple_found n (e ∷ es) all k h l g =
    of (is_tuple n e) refl (tuple_from n (suc k) es) (tuple_found n es all (suc k) (λ j x. let q : suc k + j ≡ k + suc j = omega arith in ap (slice_get all) q ∙ h (suc j) (omega arith)) (omega (arith, l)) (λ j x. let q : suc k + j ≡ k + suc j = omega arith in ap (symbol_or all) q ∙ g (suc j) (omega arith)))
  where
    of : (b : Bool) → is_tuple n e ≡ b → (m : Option ℕ) → IsFoundTuple all n m → IsFoundTuple all n (cond b (Some k) m)
    of true q m x =
        let z : k ≡ k + 0 = omega arith in
        let s : symbol_or all k ≡ e = ap (symbol_or all) z ∙ g 0 (omega arith) in
        (omega (arith, l), rw s q, ap (slice_get all) z ∙ h 0 (omega arith) ∙ ap (λ (i : SymbolTree). Some i) (sym s))
    of false q m x = x

module _ (base : Vocabulary) (symbols : List SymbolTree) (sig : IsTypedSignature base symbols) where
  found_in : (n : ℕ) → IsFoundTuple symbols n (tuple_in symbols n)
  found_in n = tuple_found n symbols symbols 0 (λ j l. let q : 0 + j ≡ j = omega arith in ap (slice_get symbols) q ∙ entry_at symbols j l) (omega arith) (λ j l. let q : 0 + j ≡ j = omega arith in ap (symbol_or symbols) q)
    where
      entry_at : (es : List SymbolTree) (j : ℕ) → j < length es → slice_get es j ≡ Some (symbol_or es j)
      entry_at [] j l = absurd (omega arith)
      entry_at (e ∷ es) zero l = refl
      entry_at (e ∷ es) (suc j) l = entry_at es j (omega arith)

  constructor_kind : (k : SymbolKind) → is_constructor_kind k ≡ true → k ≡ Constructor
  constructor_kind Constructor q = refl
  constructor_kind _ q = absurd (cc)

  tuple_is : (n k : ℕ) → k < length symbols → is_tuple n (symbol_or symbols k) ≡ true → slice_get symbols k ≡ Some (symbol_or symbols k) → IsTuple (with_entries base symbols) n k
  tuple_is n k l q s =
      let e = symbol_or symbols k in
      let a = both_true (is_constructor_kind e.kind) (bytes_eq e.theory builtin && (e.vars == n && length e.args == n)) q in
      let b = both_true (bytes_eq e.theory builtin) (e.vars == n && length e.args == n) a.1 in
      let c = both_true (e.vars == n) (length e.args == n) b.1 in
      let kind = constructor_kind e.kind a.0 in
      let may = sig.tuples n k e s q in
      let it = typed_entry base symbols sig k l may in
      record {
        symbol = record { usable = may; signature = record { entry = l; kind = λ z. let y : Constructor ≡ Kind = sym kind ∙ z in cc; types = it.types }; result = it.result };
        kind = kind;
        vars = eqb-true e.vars n c.0;
        args = eqb-true (length e.args) n c.1;
      }

  pub tuple_of : (n : ℕ) → is_some (tuple_in symbols n) ≡ true → IsSomeAnd (tuple_in symbols n) (IsTuple (with_entries base symbols) n)
  tuple_of n h = of (tuple_in symbols n) h (found_in n)
    where
      of : (m : Option ℕ) → is_some m ≡ true → IsFoundTuple symbols n m → IsSomeAnd m (IsTuple (with_entries base symbols) n)
      of None q x = absurd (cc)
      of (Some k) q x = tuple_is n k x.0 x.1 x.2
