-- A theory that begins is sound, and one that ends stays so.
use Rattle.std.proofs.Common.{◌≡◌, ◌≢◌, ◌⊎◌, inl, inr, ℕ, ◌+◌, ◌-◌, ◌<◌, ◌&&◌, ◌||◌, zero, suc, cond, Bool, true, false, List, [], ◌∷◌, ◌++◌, length, get_or, slice_get, All, Option, Some, None, IsTrue, codes, refl, sym, ap, subst, ◌∙◌, arith, append-nil, not}
use Rattle.std.specs.List.{Contains}
use Rattle.std.specs.Str.{bytes_eq}
use Rattle.std.specs.Fmt.{decimal}
use Rattle.std.proofs.lemmas.List.Elements.{All-nil, All-cons, All-append, All-contains, Contains-get_or, Contains-append_left, Contains-append_right}
use Rattle.elab_groups.specs.trees.Facts.{TyVarsBelow}
use Rattle.elab_groups.specs.tasks.declared.signature.SymbolKind.{SymbolKind}
use Rattle.elab_groups.specs.tasks.declared.signature.SymbolKind.TheVariants.{Constructor, Projection}
use Rattle.elab_groups.specs.name_resolution.Records.{is_projection, constructor_before}
use Rattle.elaboration_laws.proofs.Extended.{plain_before}
use Rattle.elab_groups.specs.tasks.Task.{SymbolTree, int_symbol, symbol_or, DeclarationTree}
use Rattle.elab_groups.specs.tasks.Equations.{type_variables}
use Rattle.elab_groups.specs.tasks.Vocabulary.{Vocabulary, is_empty, passes, is_constructor_kind}
use Rattle.elab_groups.specs.tasks.Typing.{IsTypeSymbol}
use Rattle.elab_groups.specs.tasks.Valid.{own_type}
use Rattle.elab_groups.specs.open_types.Scoped.{IsScopedEntry}
use Rattle.elab_groups.specs.parts.Entries.{builtin, is_tuple, type_entry}
use Rattle.elaboration_laws.specs.Scopes.{is_projection_kind, IsTypedEntry, IsTypedSignature}
use Rattle.elaboration_laws.proofs.Scopes.{no_names}
use Rattle.elaboration_laws.proofs.Words.{self_word}
use Rattle.elaboration_laws.proofs.Tuples.{variables_in, own_in, type_entry_typed, constructor_typed}
use Rattle.elaboration_laws.specs.Moves.{IsTypedMove}
use Rattle.elaboration_laws.specs.Lists.{is_built, after}
use Rattle.theory_states.specs.goal_tasks.Meaning.{IsTupleAt}
use Rattle.elaboration_laws.specs.Built.{IsOfTuple, IsBuiltRight}
use Rattle.elaboration_laws.proofs.TupleDecls.{type_is, constructor_is}
use Rattle.elaboration_laws.proofs.Kept.{within}
use Rattle.elaboration_laws.proofs.Joined.{matched_usable}
use Rattle.elaboration_laws.proofs.Grown.{none_sound}
use Rattle.elaboration_laws.proofs.TaskOutcomes.{begins as begins_right}
use Rattle.elaboration_laws.proofs.Distinct.{distinct_pairs}
use Rattle.theory_states.specs.States.{KnownTree, StateTree, at_places, opened_empty, known_as, known_named}
use Rattle.elaboration_laws.specs.Whole.{IsWhole}
use Rattle.elaboration_laws.specs.Sound.{IsSoundAxiom, IsSoundAmong, IsSoundTheory, IsSoundKnown, IsSoundOpened, paths, IsSoundState, AreSoundTheories}
use Rattle.elaboration_laws.proofs.Places.{none_here, cases_of, from_places, slice_in}
use Rattle.elaboration_laws.proofs.Names.{or_left as left_true}
use Rattle.elab_groups.proofs.plain_laws.Bools.{and_both as both_true}
use Rattle.std.proofs.lemmas.Option.{slice_get-get_or as some_at}
use Rattle.elaboration_laws.proofs.Numbers.{later}

-- ---- what is built in is typed
pub slice_or : (es : List SymbolTree) (k : ℕ) (e : SymbolTree) → slice_get es k ≡ Some e → symbol_or es k ≡ e
slice_or [] k e q = absurd (cc)
slice_or (x ∷ xs) zero e q = cc
slice_or (x ∷ xs) (suc k) e q = slice_or xs k e q

or_none : (a : Bool) → IsTrue (a || false) → IsTrue a
or_none true h = refl
or_none false h = h

-- what is built in is no projection
pub built_plain : (e : SymbolTree) → is_built e ≡ true → is_projection e.kind ≡ false
built_plain e h = of e.kind (both_true (bytes_eq e.theory builtin) (not (is_projection_kind e.kind)) h).1
  where
    of : (k : SymbolKind) → not (is_projection_kind k) ≡ true → is_projection k ≡ false
    of Projection q = absurd (cc (q))
    of _ q = refl

module _ (symbols : List SymbolTree) (built : IsBuiltRight symbols) where
  abbrev v : Vocabulary
  v = after symbols [] []

  usable_built : (k : ℕ) (e : SymbolTree) → slice_get symbols k ≡ Some e → IsTrue (v.usable k) → is_built e ≡ true
  usable_built k e q h = subst (λ (o : Option SymbolTree). IsTrue (passes is_built o)) q (or_none (passes is_built (slice_get symbols k)) h)

  built_usable : (k : ℕ) (e : SymbolTree) → slice_get symbols k ≡ Some e → is_built e ≡ true → IsTrue (v.usable k)
  built_usable k e q h = left_true (passes is_built (slice_get symbols k)) false (subst (λ (o : Option SymbolTree). IsTrue (passes is_built o)) (sym q) h)

  int_typed : IsTypedEntry v int_symbol
  int_typed = type_entry_typed v builtin (codes "int") 0

  module _ (k : ℕ) (e : SymbolTree) (q : slice_get symbols k ≡ Some e) (t : IsOfTuple symbols k) where
    abbrev n : ℕ
    n = t.width

    abbrev c : ℕ
    c = t.constructor

    at : IsTupleAt symbols n c
    at = built.tuples n c t.found

    below : c + n < length symbols
    below = within symbols n c at

    type_there : slice_get symbols (c - 1) ≡ Some (type_entry builtin (codes "tuple" ++ decimal n) n)
    type_there = some_at symbols (c - 1) int_symbol (let l = below in omega arith) ∙ ap (λ (x : SymbolTree). Some x) (type_is symbols n c at)

    type_symbol : IsTypeSymbol v (c - 1) n
    type_symbol = (built_usable (c - 1) (type_entry builtin (codes "tuple" ++ decimal n) n) type_there refl, rw type_there (refl, refl))

    of_tuple : (k ≡ c) ⊎ (suc k ≡ c) → IsTypedEntry v e
    of_tuple (inl z) =
        let is : symbol_or symbols c ≡ e = ap (symbol_or symbols) (sym z) ∙ slice_or symbols k e q in
        let typed = constructor_typed v builtin (codes "Tuple" ++ decimal n) n (own_type (c - 1) n) (type_variables 0 n) (own_in v (c - 1) n type_symbol) (variables_in v 0 n n (let l = below in omega arith)) in
        subst (IsTypedEntry v) (sym (constructor_is symbols n c at) ∙ is) (typed 0 int_symbol (omega arith))
    of_tuple (inr z) =
        let i : c - 1 ≡ k = omega arith in
        let is : symbol_or symbols (c - 1) ≡ e = ap (symbol_or symbols) i ∙ slice_or symbols k e q in
        subst (IsTypedEntry v) (sym (type_is symbols n c at) ∙ is) (type_entry_typed v builtin (codes "tuple" ++ decimal n) n)

  pub entry_built : (k : ℕ) (e : SymbolTree) → slice_get symbols k ≡ Some e → (k ≡ 0) ⊎ IsOfTuple symbols k → IsTypedEntry v e
  entry_built k e q (inl z) = let same : Some int_symbol ≡ Some e = sym built.int ∙ ap (slice_get symbols) (sym z) ∙ q in let i : int_symbol ≡ e = cc in subst (IsTypedEntry v) i int_typed
  entry_built k e q (inr t) = of_tuple k e q t t.is

  tuple_built : (n : ℕ) (e : SymbolTree) → is_tuple n e ≡ true → is_built e ≡ true
  tuple_built n e q =
      let a = both_true (is_constructor_kind e.kind) _ q in
      let b = both_true (bytes_eq e.theory builtin) _ a.1 in
      rw (b.0, no_projection e.kind a.0) refl
    where
      no_projection : (k : SymbolKind) → is_constructor_kind k ≡ true → is_projection_kind k ≡ false
      no_projection Constructor z = refl
      no_projection _ z = absurd (cc)

  con_matched : (k : ℕ) (e : SymbolTree) → slice_get symbols k ≡ Some e → is_built e ≡ true → e.kind ≡ Constructor → IsTrue (v.matched k)
  con_matched k e q b z =
      let both : (is_built e && is_constructor_kind e.kind) ≡ true = rw (b, z) refl in
      left_true (passes (λ (i : SymbolTree). is_built i && is_constructor_kind i.kind) (slice_get symbols k)) false (subst (λ (o : Option SymbolTree). IsTrue (passes (λ (i : SymbolTree). is_built i && is_constructor_kind i.kind) o)) (sym q) both)

  pub built_typed : All IsScopedEntry symbols → IsTypedSignature v symbols
  built_typed scoped = record {
    int = built.int;
    int_usable = built_usable 0 int_symbol built.int refl;
    scoped = scoped;
    entries = λ k e q h. entry_built k e q (built.alone k e q (usable_built k e q h));
    constructors = λ k e q h z. con_matched k e q (usable_built k e q h) z;
    patterns = λ k e q h. matched_usable symbols [] k h;
    tuples = λ n k e q z. built_usable k e q (tuple_built n e z);
    records = λ k l u q.
        let b = usable_built k (symbol_or symbols k) (some_at symbols k int_symbol l) u in
        subst (λ (j : ℕ). IsTrue (v.usable j)) (sym (plain_before symbols k (built_plain (symbol_or symbols k) b))) u;
  }

-- ---- a theory begins
module _ (symbols : List SymbolTree) (decls : List DeclarationTree) (built : IsBuiltRight symbols) (scoped : All IsScopedEntry symbols) (path : List ℕ) where
  nothing_whole : IsWhole decls []
  nothing_whole = λ j k d e q r c z. absurd (none_here k c)

  empty_sound : IsSoundTheory symbols symbols decls path [] [] [] []
  empty_sound = record {
    sound = none_sound symbols built;
    others = none_sound symbols built;
    signature = built_typed symbols built scoped;
    typed_moves = All-nil (IsTypedMove (after symbols [] []));
    sound_goals = All-nil (IsSoundAmong symbols []);
    sound_axioms = All-nil (IsSoundAxiom decls);
    below = All-nil (λ (k : ℕ). k < length decls);
    once = distinct_pairs [] tt;
    whole = nothing_whole;
  }

  begun_sound : is_empty path ≡ false → bytes_eq path builtin ≡ false → ((d : DeclarationTree) → Contains decls d → d.theory ≢ path) → IsSoundOpened symbols decls (opened_empty path)
  begun_sound named source new = record {
    named = named;
    source = source;
    theory = empty_sound;
    scopes = no_names (after symbols [] []);
    own = λ k d q e. absurd (new d (slice_in decls k d q) e);
  }

-- a path that no theory before has
new_path : (ts : List KnownTree) (path : List ℕ) → known_named ts path ≡ None → Contains (paths ts) path → ⊥
new_path [] path q c = none_here path c
new_path (t ∷ ts) path q c = of (bytes_eq t.path path) refl q (cases_of t.path path (paths ts) c) (λ r d. new_path ts path r d)
  where
    of : (b : Bool) → bytes_eq t.path path ≡ b → cond b (Some t) (known_named ts path) ≡ None → (t.path ≡ path) ⊎ Contains (paths ts) path → (known_named ts path ≡ None → Contains (paths ts) path → ⊥) → ⊥
    of true z r s f = absurd (cc)
    of false z r (inl e) f = let u : bytes_eq t.path path ≡ true = ap (bytes_eq t.path) (sym e) ∙ self_word t.path in let w : true ≡ false = sym u ∙ z in cc
    of false z r (inr d) f = f r d

pub begins : (symbols : List SymbolTree) (decls : List DeclarationTree) (known : List KnownTree) (path : List ℕ) (number : ℕ) → AreSoundTheories symbols decls known
    → is_empty path ≡ false → bytes_eq path builtin ≡ false → known_named known path ≡ None
    → IsSoundState (record { symbols = symbols; decls = decls; known = known; opened = opened_empty path; number = number })
begins symbols decls known path number h named source new = record {
  opened = begun_sound symbols decls h.built h.scoped path named source strange;
  known = h.known;
  apart = λ i t l. λ j e m. strange (get_or (at_places decls (get_or known i t).visible) j e) (from_known (get_or known i t) (get_or (at_places decls (get_or known i t).visible) j e) (Contains-get_or (at_places decls (get_or known i t).visible) j e m));
  of = λ k d l. later path (get_or decls k d).theory (paths known) (h.of k d l);
}
  where
    strange : (d : DeclarationTree) → Contains decls d → d.theory ≢ path
    strange d c e = new_path known path new (subst (λ (p : List ℕ). Contains (paths known) p) e (All-contains (λ (x : DeclarationTree). Contains (paths known) x.theory) decls d h.of c))

    from_known : (t : KnownTree) (d : DeclarationTree) → Contains (at_places decls t.visible) d → Contains decls d
    from_known t d c = let z = from_places decls t.visible d c in slice_in decls z.0 d z.2

-- ---- a theory ends
paths_last : (ts : List KnownTree) (t : KnownTree) → paths (ts ++ t ∷ []) ≡ paths ts ++ t.path ∷ []
paths_last [] t = refl
paths_last (x ∷ ts) t = ap (λ (ps : List (List ℕ)). x.path ∷ ps) (paths_last ts t)

pub ends : (c : StateTree) → IsSoundState c → AreSoundTheories c.symbols c.decls (c.known ++ known_as c.opened ∷ [])
ends c h = record {
  built = h.opened.theory.sound.built;
  scoped = h.opened.theory.signature.scoped;
  known = All-append (IsSoundKnown c.symbols c.decls) c.known (known_as c.opened ∷ []) h.known
      (All-cons (IsSoundKnown c.symbols c.decls) (known_as c.opened) [] (record { earlier = c.symbols; later = []; symbols = sym (append-nil c.symbols); theory = h.opened.theory }) (All-nil (IsSoundKnown c.symbols c.decls)));
  of = λ k d l. place (get_or c.decls k d).theory (cases_of c.opened.path (get_or c.decls k d).theory (paths c.known) (h.of k d l));
}
  where
    place : (t : List ℕ) → (c.opened.path ≡ t) ⊎ Contains (paths c.known) t → Contains (paths (c.known ++ known_as c.opened ∷ [])) t
    place t (inl e) = subst (λ (ps : List (List ℕ)). Contains ps t) (sym (paths_last c.known (known_as c.opened))) (Contains-append_right (paths c.known) (c.opened.path ∷ []) t (0, omega arith, e))
    place t (inr i) = subst (λ (ps : List (List ℕ)). Contains ps t) (sym (paths_last c.known (known_as c.opened))) (Contains-append_left (paths c.known) (c.opened.path ∷ []) t i)

pub nothing_sound : AreSoundTheories (int_symbol ∷ []) [] []
nothing_sound = record {
  built = begins_right;
  scoped = All-cons IsScopedEntry int_symbol [] int_scoped (All-nil IsScopedEntry);
  known = All-nil (IsSoundKnown (int_symbol ∷ []) []);
  of = All-nil (λ (d : DeclarationTree). Contains [] d.theory);
}
  where
    int_scoped : IsScopedEntry int_symbol
    int_scoped = record { args = All-nil (TyVarsBelow 0); result = tt }
