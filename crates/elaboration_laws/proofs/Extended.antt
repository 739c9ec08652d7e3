-- What is typed over a signature is typed over one with further entries.
use Rattle.std.proofs.Common.{◌≡◌, ℕ, ◌+◌, ◌-◌, ◌<◌, ◌≤◌, ◌==◌, ◌&&◌, ◌⊎◌, zero, suc, Bool, true, false, cond, inl, inr, subst, List, [], ◌∷◌, ◌++◌, length, get_or, slice_get, All, Option, Some, None, IfSome, IsSomeAnd, IsTrue, refl, sym, ap, ◌∙◌, arith, length-append}
use Rattle.std.specs.Str.{bytes_eq}
use Rattle.std.proofs.lemmas.List.Elements.{All-append}
use Rattle.elab_groups.specs.trees.Tree.{Tree, Leaf, One, Two, Three, Head, HTyRigid, HTyApp, HPred, HFun, HPatCon}
use Rattle.elab_groups.specs.tasks.Task.{SymbolTree, symbol_or, int_symbol}
use Rattle.elab_groups.specs.tasks.declared.signature.SymbolKind.{SymbolKind}
use Rattle.elab_groups.specs.tasks.declared.signature.SymbolKind.TheVariants.{Constructor}
use Rattle.elab_groups.specs.tasks.Vocabulary.{Vocabulary, is_constructor_kind}
use Rattle.elab_groups.specs.tasks.Typing.{entry, LeafTyped, OneTyped, TwoTyped, ThreeTyped, TypedUnder, bound_types}
use Rattle.elab_groups.specs.tasks.Valid.{IsTypeIn, HasTypes}
use Rattle.elab_groups.specs.scopes.declared.Table.{Table}
use Rattle.elab_groups.specs.scopes.declared.Table.TheVariants.{Types, Symbols, Propositions, Scopes}
use Rattle.elab_groups.specs.scopes.declared.Referent.TheVariants as stands
use Rattle.elab_groups.specs.name_resolution.Records.{is_projection, constructor_before}
use Rattle.elab_groups.specs.name_resolution.Where.{MeaningTree, NamesTree}
use Rattle.elab_groups.proofs.parts.RecordsKept.{before_below, entry_kept, before_kept}
use Rattle.elab_groups.specs.open_types.Scoped.{IsScopedEntry}
use Rattle.elab_groups.specs.parts.Entries.{builtin, is_tuple}
use Rattle.elaboration_laws.specs.Signature.{with_entries}
use Rattle.elaboration_laws.proofs.Words.{same_word}
use Rattle.elaboration_laws.proofs.Signed.{entry_scoped}
use Rattle.elaboration_laws.specs.Scopes.{is_projection_kind, is_nameable, NamesNew, IsSubvocabulary, AgreeBelow, IsTypedEntry, IsTypedSignature, IsTypeNumber, IsSymbolNumber, IsTypedThing, AreTypedScopes}
use Rattle.elaboration_laws.proofs.Declarations.{below as slice_below}
use Rattle.elab_groups.proofs.plain_laws.Bools.{and_both as both_true}
use Rattle.std.proofs.lemmas.Option.{slice_get-get_or as some_at}

module _ (v w : Vocabulary) (h : IsSubvocabulary v w) where
  some_more : (k : ℕ) (o : Option SymbolTree) (P : SymbolTree → Type 0) → entry v k ≡ o → IsSomeAnd o P → IsSomeAnd (entry w k) P
  some_more k None P q x = absurd x
  some_more k (Some e) P q x = rw (h.entries k e q) x

  there : (o : Option SymbolTree) (P : SymbolTree → Type 0) → IsSomeAnd o P → (e : SymbolTree) × (o ≡ Some e)
  there None P x = absurd x
  there (Some e) P x = (e, refl)

  leaf_more : (g : Head) → LeafTyped v g → LeafTyped w g
  leaf_more (HTyRigid k) x = let z = there (entry v k) _ x.1 in (h.rigid k z.0 z.1 x.0, some_more k (entry v k) _ refl x.1)
  leaf_more _ x = x

  one_more : (types : List Tree) (g : Head) (a : Tree) → OneTyped v types g a → OneTyped w types g a
  one_more types (HTyApp k) a x = let z = there (entry v k) _ x.1 in (h.usable k z.0 z.1 x.0, some_more k (entry v k) _ refl x.1)
  one_more types _ a x = x

  two_more : (g : Head) (a b : Tree) → TwoTyped v g a b → TwoTyped w g a b
  two_more (HPred p) a b x = let z = there (entry v p) _ x.1 in (h.usable p z.0 z.1 x.0, some_more p (entry v p) _ refl x.1)
  two_more _ a b x = x

  three_more : (g : Head) (a b c : Tree) → ThreeTyped v g a b c → ThreeTyped w g a b c
  three_more (HFun f) a b c x = let z = there (entry v f) _ x.1 in (h.usable f z.0 z.1 x.0, some_more f (entry v f) _ refl x.1)
  three_more (HPatCon k) a b c x = let z = there (entry v k) _ x.1 in (h.matched k z.0 z.1 x.0, some_more k (entry v k) _ refl x.1)
  three_more _ a b c x = x

  pub typed_more : (types : List Tree) (e : Tree) → TypedUnder v types e → TypedUnder w types e
  typed_more types (Leaf g) x = (x.0, leaf_more g x.1)
  typed_more types (One g a) x = (x.0, one_more types g a x.1, typed_more types a x.2)
  typed_more types (Two g a b) x = (x.0, two_more g a b x.1, typed_more types a x.2, typed_more (bound_types g a ++ types) b x.3)
  typed_more types (Three g a b c) x = (x.0, three_more g a b c x.1, typed_more types a x.2, typed_more types b x.3, typed_more types c x.4)

  pub type_more : (n : ℕ) (t : Tree) → IsTypeIn v n t → IsTypeIn w n t
  type_more n t x = record { sort = x.sort; typed = typed_more [] t x.typed; variables = x.variables }

  result_more : (n : ℕ) (r : Option Tree) → IfSome r (IsTypeIn v n) → IfSome r (IsTypeIn w n)
  result_more n None x = tt
  result_more n (Some t) x = type_more n t x

  pub types_more : (e : SymbolTree) → HasTypes v e → HasTypes w e
  types_more e x = record { args = λ k d l. type_more e.vars (get_or e.args k d) (x.args k d l); result = result_more e.vars e.result x.result }

  pub entry_more : (e : SymbolTree) → IsTypedEntry v e → IsTypedEntry w e
  entry_more e x = record { types = types_more e x.types; result = x.result }

-- ---- further entries
pub further : (xs ys : List SymbolTree) (k : ℕ) (e : SymbolTree) → slice_get xs k ≡ Some e → slice_get (xs ++ ys) k ≡ Some e
further [] ys k e h = absurd (cc)
further (x ∷ xs) ys zero e h = h
further (x ∷ xs) ys (suc k) e h = further xs ys k e h

pub entries_part : (base : Vocabulary) (xs ys : List SymbolTree) → IsSubvocabulary (with_entries base xs) (with_entries base (xs ++ ys))
entries_part base xs ys = record { entries = λ k e h. further xs ys k e h; rigid = λ k e q h. h; usable = λ k e q h. h; matched = λ k e q h. h }

-- an entry of two lists is one of the first or of the second
pub in_either : (xs ys : List SymbolTree) (k : ℕ) (e : SymbolTree) → slice_get (xs ++ ys) k ≡ Some e → (slice_get xs k ≡ Some e) ⊎ ((length xs ≤ k) × (slice_get ys (k - length xs) ≡ Some e))
in_either [] ys k e h = let q : k - 0 ≡ k = omega arith in inr (omega arith, ap (slice_get ys) q ∙ h)
in_either (x ∷ xs) ys zero e h = inl h
in_either (x ∷ xs) ys (suc k) e h = of (in_either xs ys k e h)
  where
    of : (slice_get xs k ≡ Some e) ⊎ ((length xs ≤ k) × (slice_get ys (k - length xs) ≡ Some e)) → (slice_get xs k ≡ Some e) ⊎ ((length (x ∷ xs) ≤ suc k) × (slice_get ys (suc k - length (x ∷ xs)) ≡ Some e))
    of (inl q) = inl q
    of (inr q) = let z : suc k - suc (length xs) ≡ k - length xs = omega arith in inr (omega (arith, q.0), ap (slice_get ys) z ∙ q.1)

pub slice_all : (P : SymbolTree → Type 0) (es : List SymbolTree) → All P es → (k : ℕ) (e : SymbolTree) → slice_get es k ≡ Some e → P e
slice_all P [] h k e q = absurd (cc)
slice_all P (x ∷ xs) h zero e q = let z : x ≡ e = cc in subst P z (h 0 x (omega arith))
slice_all P (x ∷ xs) h (suc k) e q = slice_all P xs (λ j d l. h (suc j) d (omega arith)) k e q

-- ---- what may be named of more entries
pub news_front : (base : Vocabulary) (n : ℕ) (xs ys : List SymbolTree) → NamesNew base n (xs ++ ys) → NamesNew base n xs
news_front base n xs ys h = λ k e l q. h k e l (further xs ys k e q)

pub news_later : (base : Vocabulary) (n m : ℕ) (xs : List SymbolTree) → n ≤ m → NamesNew base n xs → NamesNew base m xs
news_later base n m xs o h = λ k e l q. h k e (omega arith) q

-- a tuple's constructor has the theory of what is built in
tuple_builtin : (n : ℕ) (e : SymbolTree) → is_tuple n e ≡ true → IsTrue (is_nameable e)
tuple_builtin n e q =
    let a = both_true (is_constructor_kind e.kind) (bytes_eq e.theory builtin && (e.vars == n && length e.args == n)) q in
    let b = both_true (bytes_eq e.theory builtin) (e.vars == n && length e.args == n) a.1 in
    rw (same_word e.theory builtin b.0, no_projection e.kind a.0) refl
  where
    no_projection : (k : SymbolKind) → is_constructor_kind k ≡ true → is_projection_kind k ≡ false
    no_projection Constructor z = refl
    no_projection _ z = absurd (cc)

-- ---- the constructors before fields
pub plain_before : (symbols : List SymbolTree) (k : ℕ) → is_projection (symbol_or symbols k).kind ≡ false → constructor_before symbols k ≡ k
plain_before symbols zero h = refl
plain_before symbols (suc k) h = ap (λ (b : Bool). cond b (constructor_before symbols k) (suc k)) h

-- after an entry that is no projection
pub before_from : (symbols : List SymbolTree) (n : ℕ) → is_projection (symbol_or symbols n).kind ≡ false → (d k : ℕ) → k ≡ n + d → n ≤ constructor_before symbols k
before_from symbols n h zero k e = let q : k ≡ n = omega (arith, e) in subst (λ (i : ℕ). n ≤ constructor_before symbols i) (sym q) (let p = plain_before symbols n h in omega (arith, p))
before_from symbols n h (suc d) zero e = absurd (omega (arith, e))
before_from symbols n h (suc d) (suc k) e = of (is_projection (symbol_or symbols (suc k)).kind) (before_from symbols n h d k (omega (arith, e)))
  where
    of : (b : Bool) → n ≤ constructor_before symbols k → n ≤ cond b (constructor_before symbols k) (suc k)
    of true l = l
    of false l = omega (arith, e)

abbrev pub BeginsPlain : List SymbolTree → Type 0
BeginsPlain [] = Unit {0}
BeginsPlain (e ∷ es) = is_projection e.kind ≡ false

-- of the fields from a number on
abbrev pub RecordsFrom : Vocabulary → ℕ → List SymbolTree → Type 0
RecordsFrom base n symbols = (k : ℕ) → n ≤ k → k < length symbols → IsTrue (base.usable k) → (symbol_or symbols (constructor_before symbols k)).kind ≡ Constructor → IsTrue (base.usable (constructor_before symbols k))

begins_at : (xs ys : List SymbolTree) → 0 < length ys → BeginsPlain ys → is_projection (symbol_or (xs ++ ys) (length xs)).kind ≡ false
begins_at [] [] l h = absurd (omega (arith, l))
begins_at [] (e ∷ ys) l h = h
begins_at (x ∷ xs) ys l h = begins_at xs ys l h

pub records_later : (base : Vocabulary) (xs ys : List SymbolTree) → BeginsPlain ys → NamesNew base (length xs) (xs ++ ys) → RecordsFrom base (length xs) (xs ++ ys)
records_later base xs ys h news = λ k l m u q.
    let c = constructor_before (xs ++ ys) k in
    let some : 0 < length ys = omega (arith, l, m, length-append xs ys) in
    let from : length xs ≤ constructor_before (xs ++ ys) k = before_from (xs ++ ys) (length xs) (begins_at xs ys some h) (k - length xs) k (omega (arith, l)) in
    let there = some_at (xs ++ ys) c int_symbol (omega (arith, m, before_below (xs ++ ys) k)) in
    let new = news c (symbol_or (xs ++ ys) c) from there in
    new.pattern (new.matched q)

pub signature_more : (base : Vocabulary) (xs ys : List SymbolTree) → IsTypedSignature base xs → All (IsTypedEntry (with_entries base (xs ++ ys))) ys → NamesNew base (length xs) (xs ++ ys) → RecordsFrom base (length xs) (xs ++ ys) → IsTypedSignature base (xs ++ ys)
signature_more base xs ys h typed news later =
    let v = with_entries base xs in
    let w = with_entries base (xs ++ ys) in
    record {
      int = further xs ys 0 int_symbol h.int;
      int_usable = h.int_usable;
      scoped = All-append IsScopedEntry xs ys h.scoped (λ k d l. entry_scoped w (get_or ys k d) (typed k d l).types);
      entries = λ k e q u. typed_at k e q u (in_either xs ys k e q);
      constructors = λ k e q u c. matched_at k e q u c (in_either xs ys k e q);
      patterns = λ k e q u. pattern_at k e q u (in_either xs ys k e q);
      tuples = λ n k e q z. tuple_at n k e q z (in_either xs ys k e q);
      records = λ k l u q. record_at k l u q (in_either xs ys k (symbol_or (xs ++ ys) k) (some_at (xs ++ ys) k int_symbol l));
    }
  where
    typed_at : (k : ℕ) (e : SymbolTree) → slice_get (xs ++ ys) k ≡ Some e → IsTrue (base.usable k) → (slice_get xs k ≡ Some e) ⊎ ((length xs ≤ k) × (slice_get ys (k - length xs) ≡ Some e)) → IsTypedEntry (with_entries base (xs ++ ys)) e
    typed_at k e q u (inl z) = entry_more (with_entries base xs) (with_entries base (xs ++ ys)) (entries_part base xs ys) e (h.entries k e z u)
    typed_at k e q u (inr z) = slice_all (IsTypedEntry (with_entries base (xs ++ ys))) ys typed (k - length xs) e z.1

    matched_at : (k : ℕ) (e : SymbolTree) → slice_get (xs ++ ys) k ≡ Some e → IsTrue (base.usable k) → e.kind ≡ Constructor → (slice_get xs k ≡ Some e) ⊎ ((length xs ≤ k) × (slice_get ys (k - length xs) ≡ Some e)) → IsTrue (base.matched k)
    matched_at k e q u c (inl z) = h.constructors k e z u c
    matched_at k e q u c (inr z) = (news k e z.0 q).matched c

    pattern_at : (k : ℕ) (e : SymbolTree) → slice_get (xs ++ ys) k ≡ Some e → IsTrue (base.matched k) → (slice_get xs k ≡ Some e) ⊎ ((length xs ≤ k) × (slice_get ys (k - length xs) ≡ Some e)) → IsTrue (base.usable k)
    pattern_at k e q u (inl z) = h.patterns k e z u
    pattern_at k e q u (inr z) = (news k e z.0 q).pattern u

    tuple_at : (n k : ℕ) (e : SymbolTree) → slice_get (xs ++ ys) k ≡ Some e → is_tuple n e ≡ true → (slice_get xs k ≡ Some e) ⊎ ((length xs ≤ k) × (slice_get ys (k - length xs) ≡ Some e)) → IsTrue (base.usable k)
    tuple_at n k e q t (inl z) = h.tuples n k e z t
    tuple_at n k e q t (inr z) = (news k e z.0 q).usable (tuple_builtin n e t)

    record_at : (k : ℕ) → k < length (xs ++ ys) → IsTrue (base.usable k) → (symbol_or (xs ++ ys) (constructor_before (xs ++ ys) k)).kind ≡ Constructor
        → (slice_get xs k ≡ Some (symbol_or (xs ++ ys) k)) ⊎ ((length xs ≤ k) × (slice_get ys (k - length xs) ≡ Some (symbol_or (xs ++ ys) k))) → IsTrue (base.usable (constructor_before (xs ++ ys) k))
    record_at k l u q (inl z) =
        let m : k < length xs = slice_below xs k (symbol_or (xs ++ ys) k) z in
        let c : constructor_before xs k ≡ constructor_before (xs ++ ys) k = before_kept xs ys k m in
        let kind = ap (λ (e : SymbolTree). e.kind) (entry_kept xs ys (constructor_before xs k) (omega (arith, m, before_below xs k)) ∙ ap (symbol_or (xs ++ ys)) c) in
        subst (λ (j : ℕ). IsTrue (base.usable j)) c (h.records k m u (kind ∙ q))
    record_at k l u q (inr z) = later k z.0 l u q

-- ---- over a vocabulary that may name the same of the entries
module _ (v w : Vocabulary) (symbols : List SymbolTree) (a : AgreeBelow v w (length symbols)) where
  abbrev IsSame : (Vocabulary → ℕ → Bool) → Type 0
  IsSame f = (k : ℕ) → k < length symbols → f v k ≡ f w k

  along : (x y : Bool) → x ≡ y → IsTrue x → IsTrue y
  along x y q h = subst (λ (b : Bool). IsTrue b) q h

  pub agrees_part : IsSubvocabulary (with_entries v symbols) (with_entries w symbols)
  agrees_part = record {
    entries = λ k e q. q;
    rigid = λ k e q h. along (v.rigid k) (w.rigid k) (a.rigid k (slice_below symbols k e q)) h;
    usable = λ k e q h. along (v.usable k) (w.usable k) (a.usable k (slice_below symbols k e q)) h;
    matched = λ k e q h. along (v.matched k) (w.matched k) (a.matched k (slice_below symbols k e q)) h;
  }

  pub signature_agrees : IsTypedSignature v symbols → IsTypedSignature w symbols
  signature_agrees h = record {
    int = h.int;
    int_usable = along (v.usable 0) (w.usable 0) (a.usable 0 (slice_below symbols 0 int_symbol h.int)) h.int_usable;
    scoped = h.scoped;
    entries = λ k e q u. entry_more (with_entries v symbols) (with_entries w symbols) agrees_part e (h.entries k e q (back k e q u));
    constructors = λ k e q u c. agrees_part.matched k e q (h.constructors k e q (back k e q u) c);
    patterns = λ k e q m. agrees_part.usable k e q (h.patterns k e q (along (w.matched k) (v.matched k) (sym (a.matched k (slice_below symbols k e q))) m));
    tuples = λ n k e q t. agrees_part.usable k e q (h.tuples n k e q t);
    records = λ k l u q.
        let c = constructor_before symbols k in
        let m = before_below symbols k in
        along (v.usable c) (w.usable c) (a.usable c (omega (arith, l, m))) (h.records k l (along (w.usable k) (v.usable k) (sym (a.usable k l)) u) q);
  }
    where
      back : (k : ℕ) (e : SymbolTree) → slice_get symbols k ≡ Some e → IsTrue (w.usable k) → IsTrue (v.usable k)
      back k e q u = along (w.usable k) (v.usable k) (sym (a.usable k (slice_below symbols k e q))) u

-- ---- scopes
module _ (v w : Vocabulary) (part : IsSubvocabulary v w) where
  found : (k : ℕ) → k < length v.symbols → (k < length w.symbols) × (symbol_or w.symbols k ≡ symbol_or v.symbols k)
  found k l =
      let q = part.entries k (symbol_or v.symbols k) (some_at v.symbols k int_symbol l) in
      (slice_below w.symbols k (symbol_or v.symbols k) q, slice_or w.symbols k (symbol_or v.symbols k) q)
    where
      slice_or : (es : List SymbolTree) (k : ℕ) (e : SymbolTree) → slice_get es k ≡ Some e → symbol_or es k ≡ e
      slice_or [] k e q = absurd (cc)
      slice_or (x ∷ xs) zero e q = cc
      slice_or (x ∷ xs) (suc k) e q = slice_or xs k e q

  usable_more : (k : ℕ) → k < length v.symbols → IsTrue (v.usable k) → IsTrue (w.usable k)
  usable_more k l u = part.usable k (symbol_or v.symbols k) (some_at v.symbols k int_symbol l) u

  type_number_more : (k : ℕ) → IsTypeNumber v k → IsTypeNumber w k
  type_number_more k h = let z = found k h.there in record { there = z.0; usable = usable_more k h.there h.usable; kind = ap (λ (e : SymbolTree). e.kind) z.1 ∙ h.kind }

  symbol_number_more : (k : ℕ) → IsSymbolNumber v k → IsSymbolNumber w k
  symbol_number_more k h = let z = found k h.there in record { there = z.0; usable = usable_more k h.there h.usable; kind = λ e. h.kind (sym (ap (λ (x : SymbolTree). x.kind) z.1) ∙ e) }

  pub thing_more : (table : Table) (t : MeaningTree) → IsTypedThing v table t → IsTypedThing w table t
  thing_more Types (stands.Entry k) h = type_number_more k h
  thing_more Types (stands.Alias vars t) h = type_more v w part vars t h
  thing_more Symbols (stands.Entry k) h = symbol_number_more k h
  thing_more Symbols (stands.Alias vars t) h = absurd h
  thing_more Propositions t h = h
  thing_more Scopes t h = h

  pub scopes_part : (names : NamesTree) → AreTypedScopes v names → AreTypedScopes w names
  scopes_part names h = λ k es i. λ j e x. thing_more (get_or (get_or names.entries k es) j e).table (get_or (get_or names.entries k es) j e).thing (h k es i j e x)

pub scopes_extended : (base : Vocabulary) (xs ys : List SymbolTree) (names : NamesTree) → AreTypedScopes (with_entries base xs) names → AreTypedScopes (with_entries base (xs ++ ys)) names
scopes_extended base xs ys names h = scopes_part (with_entries base xs) (with_entries base (xs ++ ys)) (entries_part base xs ys) names h
