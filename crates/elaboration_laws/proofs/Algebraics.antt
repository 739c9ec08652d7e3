-- Algebraic types are valid: their entries are at the numbers that their declaration names.
use Rattle.std.proofs.Common.{◌≡◌, ℕ, ◌+◌, ◌<◌, ◌≤◌, zero, suc, true, false, List, [], ◌∷◌, ◌++◌, length, slice_get, All, IsTrue, Some, refl, sym, ap, subst, ◌∙◌, arith, length-append, append_assoc}
use Rattle.std.proofs.lemmas.List.Elements.{All-nil, All-cons, All-append}
use Rattle.elab_groups.specs.trees.Tree.{Tree}
use Rattle.elab_groups.specs.tasks.declared.signature.SymbolKind.TheVariants.{Kind, Constructor, Projection}
use Rattle.elab_groups.specs.tasks.Task.{SymbolTree, symbol_or, ConstructorTree, AlgebraicTree}
use Rattle.elab_groups.specs.tasks.Vocabulary.{Vocabulary, is_empty}
use Rattle.elab_groups.specs.tasks.Typing.{IsTypeSymbol}
use Rattle.elab_groups.specs.tasks.Valid.{IsTypeIn, own_type, AreProjections, IsConstructorOf, IsAlgebraic}
use Rattle.elab_groups.specs.scopes.Names.{EntryOf}
use Rattle.elab_groups.specs.scopes.declared.Table.TheVariants.{Types, Symbols}
use Rattle.elab_groups.specs.scopes.declared.Referent.TheVariants as stands
use Rattle.elab_groups.specs.surface.Lexeme.{Word}
use Rattle.elab_groups.specs.name_resolution.Where.{Where, NamesTree}
use Rattle.elab_declarations.specs.elab_groups.members.Members.{parameter_types, words_of_parameters}
use Rattle.elab_declarations.proofs.elab_groups.members.MembersScoped.{types_count}
use Rattle.elab_groups.specs.parts.Declarations.{AlgebraicConstructor as ConstructorOf, AlgebraicType, words, with_vars}
use Rattle.std.specs.Str.{bytes_eq}
use Rattle.elab_groups.specs.parts.Entries.{builtin, type_entry, other_words, field_entries, named_entries}
use Rattle.elab_declarations.specs.type_declarations.Algebraics.{NumberedName, count_fields, entry_count, numbering_from, numbered_constructors, with_numbered, with_constructors, with_types, type_entries, constructor_trees, algebraic_trees, constructors_entries, group_entries}
use Rattle.elaboration_laws.specs.Signature.{with_entries}
use Rattle.elaboration_laws.specs.Scopes.{is_nameable, IsNamedBy, NamesNew, IsTypedEntry, IsTypedSignature, IsTypeNumber, IsSymbolNumber, IsTypedThing, AreTypedScopes}
use Rattle.elaboration_laws.proofs.Scopes.{scopes_more, typed_entry, OnTypes}
use Rattle.elaboration_laws.proofs.Tuples.{own_in, named_typed}
use Rattle.elaboration_laws.proofs.Extended.{slice_all}
use Rattle.elab_declarations.proofs.type_declarations.Placed.{AreNumbered, constructors_numbered}
use Rattle.elab_declarations.proofs.type_declarations.Made.{cons_length as count_cons, fields_length as count_entries}

-- ---- entries at numbers, which may be named
pub record IsThere (base : Vocabulary) (all : List SymbolTree) (k : ℕ) (e : SymbolTree) : Type 0 where
  pub at : slice_get all k ≡ Some e
  pub named : IsNamedBy base k e

abbrev pub EntriesAt : Vocabulary → List SymbolTree → ℕ → List SymbolTree → Type 0
EntriesAt base all n [] = Unit {0}
EntriesAt base all n (e ∷ es) = IsThere base all n e × EntriesAt base all (n + 1) es

pub at_end : (xs ys : List SymbolTree) (e : SymbolTree) (k : ℕ) → k ≡ length xs → slice_get (xs ++ e ∷ ys) k ≡ Some e
at_end [] ys e k q = rw q refl
at_end (x ∷ xs) ys e zero q = absurd (omega (arith, q))
at_end (x ∷ xs) ys e (suc k) q = at_end xs ys e k (omega (arith, q))

pub entries_at : (base : Vocabulary) (m : ℕ) (es xs ys : List SymbolTree) (n : ℕ) → n ≡ length xs → m ≤ n → NamesNew base m (xs ++ (es ++ ys)) → EntriesAt base (xs ++ (es ++ ys)) n es
entries_at base m [] xs ys n q l news = tt
entries_at base m (e ∷ es) xs ys n q l news =
    let same : (xs ++ e ∷ []) ++ (es ++ ys) ≡ xs ++ e ∷ (es ++ ys) = append_assoc xs (e ∷ []) (es ++ ys) in
    let here = at_end xs (es ++ ys) e n q in (
      record { at = here; named = news n e l here },
      subst (λ (all : List SymbolTree). EntriesAt base all (n + 1) es) same
          (entries_at base m es (xs ++ e ∷ []) ys (n + 1) (omega (arith, q, length-append xs (e ∷ []))) (omega arith) (subst (λ (all : List SymbolTree). NamesNew base m all) (sym same) news)),
    )

entries_split : (base : Vocabulary) (all : List SymbolTree) (es fs : List SymbolTree) (n m : ℕ) → m ≡ n + length es → EntriesAt base all n (es ++ fs) → EntriesAt base all n es × EntriesAt base all m fs
entries_split base all [] fs n m q h = (tt, subst (λ (k : ℕ). EntriesAt base all k fs) (omega (arith, q)) h)
entries_split base all (e ∷ es) fs n m q h = let r = entries_split base all es fs (n + 1) m (omega (arith, q)) h.1 in ((h.0, r.0), r.1)

pub got : (es : List SymbolTree) (k : ℕ) (e : SymbolTree) → slice_get es k ≡ Some e → (k < length es) × (symbol_or es k ≡ e)
got [] k e q = absurd (cc)
got (x ∷ xs) zero e q = (omega arith, cc)
got (x ∷ xs) (suc k) e q = let r = got xs k e q in (omega (arith, r.0), r.1)

entry_there : (es : List SymbolTree) (j : ℕ) → j < length es → (e : SymbolTree) × (slice_get es j ≡ Some e)
entry_there [] j l = absurd (omega arith)
entry_there (e ∷ es) zero l = (e, refl)
entry_there (e ∷ es) (suc j) l = entry_there es j (omega arith)

module _ (theory within : Word) (named : is_empty theory ≡ false) where
  -- ---- over a signature that has them
  module _ (base : Vocabulary) (source : bytes_eq theory builtin ≡ false) (all : List SymbolTree) (sig : IsTypedSignature base all) where
    abbrev v : Vocabulary
    v = with_entries base all

    type_there : (name : Word) (vars i : ℕ) → IsThere base all i (type_entry theory name vars) → IsTypeNumber v i
    type_there name vars i h = let g = got all i (type_entry theory name vars) h.at in record { there = g.0; usable = h.named.usable (rw named refl); kind = ap (λ (e : SymbolTree). e.kind) g.1 }

    projections_valid : (name : Word) (type vars i : ℕ) (ws : List Word) (fs : List Tree) (n : ℕ) → EntriesAt base all n (field_entries theory within name vars (own_type type vars) i ws fs) → AreProjections v type vars fs (numbering_from n fs)
    projections_valid name type vars i ws [] n h = tt
    projections_valid name type vars i ws (f ∷ fs) n h =
        let g = got all n _ h.0.at in
        let kind : (symbol_or all n).kind ≡ Projection = ap (λ (e : SymbolTree). e.kind) g.1 in (
          record {
            signature = record { entry = g.0; kind = λ q. let z : Projection ≡ Kind = sym kind ∙ q in cc; types = (typed_entry base all sig n g.0 (h.0.named.usable (rw (named, source) refl))).types };
            kind = kind;
            vars_are = ap (λ (e : SymbolTree). e.vars) g.1;
            args = ap (λ (e : SymbolTree). e.args) g.1;
            result = ap (λ (e : SymbolTree). e.result) g.1;
          },
          projections_valid name type vars (suc i) (other_words ws) fs (n + 1) h.1,
        )

    constructor_valid : (name : Word) (type vars n : ℕ) (ws : List Word) (fs : List Tree) → EntriesAt base all n (named_entries theory within name vars (own_type type vars) ws fs) → IsConstructorOf v type vars (record { symbol = n; fields = fs; projections = numbering_from (n + 1) fs })
    constructor_valid name type vars n ws fs h =
        let g = got all n _ h.0.at in
        let kind : (symbol_or all n).kind ≡ Constructor = ap (λ (e : SymbolTree). e.kind) g.1 in
        record {
          signature = record { entry = g.0; kind = λ q. let z : Constructor ≡ Kind = sym kind ∙ q in cc; types = (typed_entry base all sig n g.0 (h.0.named.usable (rw named refl))).types };
          kind = kind;
          vars_are = ap (λ (e : SymbolTree). e.vars) g.1;
          args = ap (λ (e : SymbolTree). e.args) g.1;
          result = ap (λ (e : SymbolTree). e.result) g.1;
          projections = projections_valid name type vars 1 ws fs (n + 1) h.1;
        }

    -- the first constructor's entries, and those of the others
    first_entries : (vars n : ℕ) (t : Tree) (w : Where) (k : ConstructorOf) (ks : List ConstructorOf) → EntriesAt base all n (constructors_entries theory within vars t (k ∷ ks) (constructor_trees w n (k ∷ ks)))
        → EntriesAt base all n (named_entries theory within k.own vars t (words_of_parameters k.fields) (parameter_types w k.fields)) × EntriesAt base all (n + (count_fields k.fields + 1)) (constructors_entries theory within vars t ks (constructor_trees w (n + (count_fields k.fields + 1)) ks))
    first_entries vars n t w k ks h =
        let fs = parameter_types w k.fields in
        let ws = words_of_parameters k.fields in
        let one = named_entries theory within k.own vars t ws fs in
        let p : length (field_entries theory within k.own vars t 1 ws fs) ≡ length fs = count_entries theory within k.own vars t 1 ws fs in
        entries_split base all one (constructors_entries theory within vars t ks (constructor_trees w (n + (count_fields k.fields + 1)) ks)) n (n + (count_fields k.fields + 1)) (omega (arith, p, types_count w k.fields)) h

    constructors_valid : (type vars : ℕ) (w : Where) (ks : List ConstructorOf) (n : ℕ) → EntriesAt base all n (constructors_entries theory within vars (own_type type vars) ks (constructor_trees w n ks)) → All (IsConstructorOf v type vars) (constructor_trees w n ks)
    constructors_valid type vars w [] n h = All-nil (IsConstructorOf v type vars)
    constructors_valid type vars w (k ∷ ks) n h =
        let e = first_entries vars n (own_type type vars) w k ks h in
        All-cons (IsConstructorOf v type vars) _ (constructor_trees w (n + (count_fields k.fields + 1)) ks) (constructor_valid k.own type vars n (words_of_parameters k.fields) (parameter_types w k.fields) e.0) (constructors_valid type vars w ks (n + (count_fields k.fields + 1)) e.1)

    -- the first type's entries, and those of the others
    group_split : (w : Where) (a : AlgebraicType) (ts : List AlgebraicType) (i n : ℕ) → EntriesAt base all n (group_entries theory within (a ∷ ts) (algebraic_trees w i n (a ∷ ts)))
        → EntriesAt base all n (constructors_entries theory within (length a.vars) (own_type i (length a.vars)) a.constructors (constructor_trees (with_vars w (words a.vars)) n a.constructors))
        × EntriesAt base all (n + entry_count a.constructors) (group_entries theory within ts (algebraic_trees w (i + 1) (n + entry_count a.constructors) ts))
    group_split w a ts i n h =
        let t = own_type i (length a.vars) in
        let wa = with_vars w (words a.vars) in
        entries_split base all (constructors_entries theory within (length a.vars) t a.constructors (constructor_trees wa n a.constructors)) (group_entries theory within ts (algebraic_trees w (i + 1) (n + entry_count a.constructors) ts)) n (n + entry_count a.constructors)
        (omega (arith, count_cons theory within (length a.vars) t wa n a.constructors)) h

    pub groups_valid : (w : Where) (ts : List AlgebraicType) (i n : ℕ) → EntriesAt base all i (type_entries theory within ts) → EntriesAt base all n (group_entries theory within ts (algebraic_trees w i n ts)) → All (IsAlgebraic v) (algebraic_trees w i n ts)
    groups_valid w [] i n g h = All-nil (IsAlgebraic v)
    groups_valid w (a ∷ ts) i n g h =
        let e = group_split w a ts i n h in
        let there = got all i _ g.0.at in
        let vars : (symbol_or all i).vars ≡ length a.vars = ap (λ (x : SymbolTree). x.vars) there.1 in
        let cons = constructors_valid i (length a.vars) (with_vars w (words a.vars)) a.constructors n e.0 in
        All-cons (IsAlgebraic v) _ (algebraic_trees w (i + 1) (n + entry_count a.constructors) ts) (record {
          entry = record { entry = there.0; kind = ap (λ (x : SymbolTree). x.kind) there.1; types = (typed_entry base all sig i there.0 (g.0.named.usable (rw named refl))).types };
          cons = subst (λ (m : ℕ). All (IsConstructorOf v i m) (constructor_trees (with_vars w (words a.vars)) n a.constructors)) (sym vars) cons;
        }) (groups_valid w ts (i + 1) (n + entry_count a.constructors) g.1 e.1)

    -- ---- names
    -- a symbol of the theory
    record IsOwnSymbol (e : SymbolTree) : Type 0 where
      nameable : IsTrue (is_nameable e)
      kind : e.kind ≡ Kind → ⊥

    there_at : (es : List SymbolTree) (n j : ℕ) (e : SymbolTree) → EntriesAt base all n es → slice_get es j ≡ Some e → IsThere base all (n + j) e
    there_at [] n j e h q = absurd (cc)
    there_at (x ∷ es) n zero e h q = let same : x ≡ e = cc in let m : n ≡ n + 0 = omega arith in subst (λ (i : ℕ). IsThere base all i e) m (subst (IsThere base all n) same h.0)
    there_at (x ∷ es) n (suc j) e h q = let m : n + 1 + j ≡ n + suc j = omega arith in subst (λ (i : ℕ). IsThere base all i e) m (there_at es (n + 1) j e h.1 q)

    symbol_there : (k : ℕ) (e : SymbolTree) → IsThere base all k e → IsOwnSymbol e → IsSymbolNumber v k
    symbol_there k e h s = let g = got all k e h.at in record { there = g.0; usable = h.named.usable s.nameable; kind = λ q. s.kind (ap (λ (x : SymbolTree). x.kind) (sym g.1) ∙ q) }

    fields_own : (name : Word) (vars : ℕ) (t : Tree) (i : ℕ) (ws : List Word) (fs : List Tree) → All IsOwnSymbol (field_entries theory within name vars t i ws fs)
    fields_own name vars t i ws [] = All-nil IsOwnSymbol
    fields_own name vars t i ws (f ∷ fs) = All-cons IsOwnSymbol _ (field_entries theory within name vars t (suc i) (other_words ws) fs) (record { nameable = rw (named, source) refl; kind = λ q. cc }) (fields_own name vars t (suc i) (other_words ws) fs)

    constructors_own : (vars : ℕ) (t : Tree) (ks : List ConstructorOf) (cs : List ConstructorTree) → All IsOwnSymbol (constructors_entries theory within vars t ks cs)
    constructors_own vars t [] cs = All-nil IsOwnSymbol
    constructors_own vars t (k ∷ ks) [] = All-nil IsOwnSymbol
    constructors_own vars t (k ∷ ks) (c ∷ cs) =
        let ws = words_of_parameters k.fields in
        All-append IsOwnSymbol (named_entries theory within k.own vars t ws c.fields) (constructors_entries theory within vars t ks cs)
        (All-cons IsOwnSymbol _ (field_entries theory within k.own vars t 1 ws c.fields) (record { nameable = rw named refl; kind = λ q. cc }) (fields_own k.own vars t 1 ws c.fields))
        (constructors_own vars t ks cs)

    numbered_scoped : (xs : List NumberedName) (names : NamesTree) → AreNumbered (IsSymbolNumber v) xs → AreTypedScopes v names → AreTypedScopes v (with_numbered xs names)
    numbered_scoped [] names h k = k
    numbered_scoped (x ∷ xs) names h k = numbered_scoped xs _ h.1 (scopes_more (IsTypedThing v) names Symbols x.name (stands.Entry x.number) true h.0 k)

    constructors_scoped : (vars : ℕ) (t : Tree) (w : Where) (ks : List ConstructorOf) (n : ℕ) (names : NamesTree) → EntriesAt base all n (constructors_entries theory within vars t ks (constructor_trees w n ks)) → AreTypedScopes v names → AreTypedScopes v (with_constructors n ks names)
    constructors_scoped vars t w ks n names h k =
        let es = constructors_entries theory within vars t ks (constructor_trees w n ks) in
        let l : length es ≡ entry_count ks = count_cons theory within vars t w n ks in
        let each : (j : ℕ) → j < entry_count ks → IsSymbolNumber v (n + j) =
        λ j m. let e = entry_there es j (omega (arith, l, m)) in symbol_there (n + j) e.0 (there_at es n j e.0 h e.1) (slice_all IsOwnSymbol es (constructors_own vars t ks (constructor_trees w n ks)) j e.0 e.1) in
        numbered_scoped (numbered_constructors n ks) names (constructors_numbered (IsSymbolNumber v) n ks each) k

    pub types_scoped : (w : Where) (ts : List AlgebraicType) (i n : ℕ) (names : NamesTree) → EntriesAt base all i (type_entries theory within ts) → EntriesAt base all n (group_entries theory within ts (algebraic_trees w i n ts)) → AreTypedScopes v names → AreTypedScopes v (with_types i n ts names)
    types_scoped w [] i n names g h k = k
    types_scoped w (a ∷ ts) i n names g h k =
        let e = group_split w a ts i n h in
        let one = scopes_more (IsTypedThing v) names Types a.called.name (stands.Entry i) true (type_there (within ++ a.called.name) (length a.vars) i g.0) k in
        types_scoped w ts (i + 1) (n + entry_count a.constructors) _ g.1 e.1 (constructors_scoped (length a.vars) (own_type i (length a.vars)) (with_vars w (words a.vars)) a.constructors n _ e.0 one)

    -- of types alone
    abbrev pub TypesOn : NamesTree → Type 0
    TypesOn names = All (λ (es : List (EntryOf Tree)). All (λ (e : EntryOf Tree). OnTypes v e.table e.thing) es) names.entries

    numbered_on : (xs : List NumberedName) (names : NamesTree) → TypesOn names → TypesOn (with_numbered xs names)
    numbered_on [] names k = k
    numbered_on (x ∷ xs) names k = numbered_on xs _ (scopes_more (OnTypes v) names Symbols x.name (stands.Entry x.number) true tt k)

    pub types_on : (ts : List AlgebraicType) (i n : ℕ) (names : NamesTree) → EntriesAt base all i (type_entries theory within ts) → TypesOn names → TypesOn (with_types i n ts names)
    types_on [] i n names g k = k
    types_on (a ∷ ts) i n names g k =
        types_on ts (i + 1) (n + entry_count a.constructors) _ g.1 (numbered_on (numbered_constructors n a.constructors) _ (scopes_more (OnTypes v) names Types a.called.name (stands.Entry i) true (type_there (within ++ a.called.name) (length a.vars) i g.0) k))

  -- ---- entries of types over a signature that has the types
  module _ (v : Vocabulary) where
    -- fields of types over the signature
    abbrev pub ConsIn : ℕ → List ConstructorTree → Type 0
    ConsIn n [] = Unit {0}
    ConsIn n (c ∷ cs) = All (IsTypeIn v n) c.fields × ConsIn n cs

    abbrev pub GroupIn : List AlgebraicType → List AlgebraicTree → Type 0
    GroupIn [] ys = Unit {0}
    GroupIn (a ∷ ts) [] = Unit {0}
    GroupIn (a ∷ ts) (y ∷ ys) = (IsTypeSymbol v y.symbol (length a.vars) × ConsIn (length a.vars) y.cons) × GroupIn ts ys

    cons_typed : (vars : ℕ) (t : Tree) (ks : List ConstructorOf) (cs : List ConstructorTree) → IsTypeIn v vars t → ConsIn vars cs → All (IsTypedEntry v) (constructors_entries theory within vars t ks cs)
    cons_typed vars t [] cs h k = All-nil (IsTypedEntry v)
    cons_typed vars t (x ∷ ks) [] h k = All-nil (IsTypedEntry v)
    cons_typed vars t (x ∷ ks) (c ∷ cs) h k =
        All-append (IsTypedEntry v) (named_entries theory within x.own vars t (words_of_parameters x.fields) c.fields) (constructors_entries theory within vars t ks cs) (named_typed v theory within x.own vars t (words_of_parameters x.fields) c.fields h k.0) (cons_typed vars t ks cs h k.1)

    pub group_typed : (ts : List AlgebraicType) (ys : List AlgebraicTree) → GroupIn ts ys → All (IsTypedEntry v) (group_entries theory within ts ys)
    group_typed [] ys h = All-nil (IsTypedEntry v)
    group_typed (a ∷ ts) [] h = All-nil (IsTypedEntry v)
    group_typed (a ∷ ts) (y ∷ ys) h =
        All-append (IsTypedEntry v) (constructors_entries theory within (length a.vars) (own_type y.symbol (length a.vars)) a.constructors y.cons) (group_entries theory within ts ys)
        (cons_typed (length a.vars) (own_type y.symbol (length a.vars)) a.constructors y.cons (own_in v y.symbol (length a.vars) h.0.0) h.0.1) (group_typed ts ys h.1)
