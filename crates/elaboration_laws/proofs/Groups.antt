-- A group of algebraic types is valid.
use Rattle.std.proofs.Common.{◌≡◌, ℕ, ◌+◌, ◌≤◌, suc, true, false, List, [], ◌∷◌, ◌++◌, length, get_or, All, Option, None, IfSome, refl, sym, ap, subst, ◌∙◌, arith, length-append, append_assoc, append-nil}
use Rattle.std.proofs.lemmas.List.Elements.{All-nil, All-cons}
use Rattle.std.proofs.Math.ListN.{length-map}
use Rattle.elab_groups.specs.trees.Tree.{Tree}
use Rattle.elab_groups.specs.tasks.Task.{SymbolTree, ConstructorTree, AlgebraicTree}
use Rattle.elab_groups.specs.tasks.Vocabulary.{Vocabulary, is_empty}
use Rattle.elab_groups.specs.tasks.Typing.{IsTypeSymbol}
use Rattle.elab_groups.specs.tasks.Valid.{IsTypeIn, IsAlgebraic, IsValidDecl, own_type}
use Rattle.elab_groups.specs.surface.Lexeme.{Word}
use Rattle.elab_groups.specs.name_resolution.Abstract.{no_types, more_types}
use Rattle.elab_groups.specs.name_resolution.declared.NamingFault.{NamingFault}
use Rattle.elab_groups.specs.name_resolution.Faults.{first_of, form_fault, forms_fault}
use Rattle.elab_groups.specs.name_resolution.Where.{Where}
use Rattle.elab_groups.specs.name_resolution.variables.Seen.{SeenTree, has_width, form_seen}
use Rattle.elab_groups.specs.open_types.Scoped.{IsScoped}
use Rattle.elab_groups.specs.open_types.Pieces.{type_at}
use Rattle.elab_groups.proofs.open_types.Below.{AreBelow}
use Rattle.elab_groups.proofs.open_types.Walking.{none_both}
use Rattle.elab_groups.specs.parts.Elaborated.{unseen}
use Rattle.elab_groups.specs.parts.Entries.{tuple_in}
use Rattle.elab_groups.specs.parts.Declarations.{TokenName, Parameter, AlgebraicConstructor, AlgebraicType, words, with_vars, params_seen, params_fault, constructors_fault, types_fault}
use Rattle.elab_declarations.specs.elab_groups.members.Members.{type_copies, parameter_types}
use Rattle.elab_declarations.proofs.elab_groups.members.ParamsClosed.{fields_below}
use Rattle.elab_groups.specs.parts.Outcomes.{Setting, tuples_wanting}
use Rattle.elab_groups.proofs.parts.Scopes.{tuples_below}
use Rattle.elab_declarations.specs.type_declarations.Algebraics.{constructors_seen, types_seen, group_seen, count_fields, entry_count, first_type, first_constructor, group_names, type_entries, constructor_trees, algebraic_trees, group_trees, group_entries, group_outcome, constructors_entries}
use Rattle.elab_declarations.specs.type_declarations.Algebraics as group
use Rattle.elaboration_laws.specs.Signature.{with_entries, IsMeaning, HasTuple}
use Rattle.elaboration_laws.specs.Scopes.{NamesNew, IsTypedEntry, IsTypedSignature, AreTypedScopes}
use Rattle.elaboration_laws.proofs.Over.{AreOver, over_good}
use Rattle.elaboration_laws.proofs.Signed.{forms_by}
use Rattle.elaboration_laws.proofs.Widths.{IsWithin, forms_tuples}
use Rattle.elaboration_laws.proofs.Bodies.{params_grow}
use Rattle.elaboration_laws.proofs.Scopes.{types_alone, types_meant}
use Rattle.elaboration_laws.proofs.Extended.{entries_part, news_front, news_later, type_more, signature_more, scopes_extended, BeginsPlain, records_later}
use Rattle.elaboration_laws.proofs.Tuples.{has_tuple, tuple_front, tuples_there, tuple_of, type_entry_typed}
use Rattle.elaboration_laws.specs.Valid.{IsTypedSetting, IsValidOutcome}
use Rattle.elaboration_laws.proofs.Settings.{inside, inside_typed, of_below, meaning_scoped}
use Rattle.elaboration_laws.proofs.Algebraics.{EntriesAt, entries_at, groups_valid, types_scoped, TypesOn, types_on, ConsIn, GroupIn, group_typed}

-- ---- widths
constructors_grow : (ks : List AlgebraicConstructor) (s : SeenTree) → IsWithin s (constructors_seen s ks)
constructors_grow [] s = λ n h. h
constructors_grow (k ∷ ks) s = λ n h. constructors_grow ks (params_seen s k.fields) n (params_grow k.fields s n h)

types_grow : (ts : List AlgebraicType) (s : SeenTree) → IsWithin s (types_seen s ts)
types_grow [] s = λ n h. h
types_grow (a ∷ ts) s = λ n h. types_grow ts (constructors_seen s a.constructors) n (constructors_grow a.constructors s n h)

-- ---- entries of types
-- entries of types and constructors begin with no projection
begins_both : (xs ys : List SymbolTree) → BeginsPlain xs → BeginsPlain ys → BeginsPlain (xs ++ ys)
begins_both [] ys h k = k
begins_both (x ∷ xs) ys h k = h

types_plain : (theory within : Word) (ts : List AlgebraicType) → BeginsPlain (type_entries theory within ts)
types_plain theory within [] = tt
types_plain theory within (a ∷ ts) = refl

constructors_plain : (theory within : Word) (vars : ℕ) (type : Tree) (ks : List AlgebraicConstructor) (cs : List ConstructorTree) → BeginsPlain (constructors_entries theory within vars type ks cs)
constructors_plain theory within vars type [] cs = tt
constructors_plain theory within vars type (k ∷ ks) [] = tt
constructors_plain theory within vars type (k ∷ ks) (c ∷ cs) = refl

group_plain : (theory within : Word) (ts : List AlgebraicType) (ys : List AlgebraicTree) → BeginsPlain (group_entries theory within ts ys)
group_plain theory within [] ys = tt
group_plain theory within (a ∷ ts) [] = tt
group_plain theory within (a ∷ ts) (y ∷ ys) =
    let cons = constructors_entries theory within (length a.vars) (own_type y.symbol (length a.vars)) a.constructors y.cons in
    begins_both cons (group_entries theory within ts ys) (constructors_plain theory within (length a.vars) (own_type y.symbol (length a.vars)) a.constructors y.cons) (group_plain theory within ts ys)

module _ (theory within : Word) where
  count_types : (ts : List AlgebraicType) → length (type_entries theory within ts) ≡ length ts
  count_types [] = refl
  count_types (a ∷ ts) = ap suc (count_types ts)

  types_typed : (v : Vocabulary) (ts : List AlgebraicType) → All (IsTypedEntry v) (type_entries theory within ts)
  types_typed v [] = All-nil (IsTypedEntry v)
  types_typed v (a ∷ ts) = All-cons (IsTypedEntry v) _ (type_entries theory within ts) (type_entry_typed v theory (within ++ a.called.name) (length a.vars)) (types_typed v ts)

-- ---- fields, where the names of types stand for types over the signature
module _ (base : Vocabulary) (w : Where) (sig : IsTypedSignature base w.symbols) (types : (qs : List Word) (x : Word) → IfSome (w.types qs x) (IsMeaning (with_entries base w.symbols))) (found : w.tuples ≡ tuple_in w.symbols) where
  abbrev v : Vocabulary
  v = with_entries base w.symbols

  abbrev HaveAll : SeenTree → Type 0
  HaveAll s = (n : ℕ) → has_width n s.widths ≡ true → HasTuple base w n

  scoped : (vs : List Word) → IsScoped (with_vars w vs)
  scoped vs = record {
    symbols = sig.scoped;
    types = λ qs x. meaning_scoped v _ (types qs x);
    tuples = rw found (tuples_below w.symbols sig.int);
  }

  each_in : (n : ℕ) (ts : List Tree) → AreOver v ts → AreBelow n ts → All (IsTypeIn v n) ts
  each_in n [] o b = All-nil (IsTypeIn v n)
  each_in n (t ∷ ts) o b = let g = over_good v true [] t o.0 in All-cons (IsTypeIn v n) t ts (record { sort = g.1; typed = g.0.0; variables = of_below n t b.0 }) (each_in n ts o.1 b.1)

  -- of fields, each type once for each name
  both_over : (ts us : List Tree) → AreOver v ts → AreOver v us → AreOver v (ts ++ us)
  both_over [] us o q = q
  both_over (t ∷ ts) us o q = (o.0, both_over ts us o.1 q)

  copies_over : (t : Tree) (xs : List TokenName) → AreOver v (t ∷ []) → AreOver v (type_copies t xs)
  copies_over t [] o = o
  copies_over t (x ∷ []) o = o
  copies_over t (x ∷ y ∷ ys) o = (o.0, copies_over t (y ∷ ys) o)

  params_over : (vs : List Word) (ps : List Parameter) (s : SeenTree) → HaveAll (params_seen s ps) → params_fault (with_vars w vs) false ps ≡ None → AreOver v (parameter_types (with_vars w vs) ps)
  params_over vs [] s g q = tt
  params_over vs (p ∷ ps) s g q =
      let wa = with_vars w vs in
      let k = none_both (form_fault wa false p.of_type) (params_fault wa false ps) q in
      let one = more_types p.of_type no_types in
      let tuples = forms_tuples base wa one s (λ m h. g m (params_grow ps (form_seen s p.of_type) m h)) in
      let free : forms_fault wa false one ≡ None = ap (λ (f : Option NamingFault). first_of f None) k.0 in
      both_over (type_copies (type_at wa p.of_type) p.names) (parameter_types wa ps)
      (copies_over (type_at wa p.of_type) p.names (forms_by base wa sig.int sig.int_usable types one free tuples)) (params_over vs ps (form_seen s p.of_type) g k.1)

  fields_in : (a : AlgebraicType) (ps : List Parameter) (s : SeenTree) → HaveAll (params_seen s ps) → params_fault (with_vars w (words a.vars)) false ps ≡ None → All (IsTypeIn v (length a.vars)) (parameter_types (with_vars w (words a.vars)) ps)
  fields_in a ps s g q =
      let wa = with_vars w (words a.vars) in
      let n : length (words a.vars) ≡ length a.vars = length-map a.vars (λ (i : TokenName). i.name) in
      subst (λ (m : ℕ). All (IsTypeIn v m) (parameter_types wa ps)) n (each_in (length (words a.vars)) (parameter_types wa ps) (params_over (words a.vars) ps s g q) (fields_below wa (scoped (words a.vars)) ps q))

  -- over a signature with further entries
  module _ (u : Vocabulary) (more : (n : ℕ) (t : Tree) → IsTypeIn v n t → IsTypeIn u n t) where
    cons_in : (theory within : Word) (named : is_empty theory ≡ false) (a : AlgebraicType) (ks : List AlgebraicConstructor) (n : ℕ) (s : SeenTree) → HaveAll (constructors_seen s ks) → constructors_fault (with_vars w (words a.vars)) ks ≡ None → ConsIn theory within named u (length a.vars) (constructor_trees (with_vars w (words a.vars)) n ks)
    cons_in theory within named a [] n s g q = tt
    cons_in theory within named a (k ∷ ks) n s g q =
        let wa = with_vars w (words a.vars) in
        let p = none_both (params_fault wa false k.fields) (constructors_fault wa ks) q in
        let t = params_seen s k.fields in
        let fs = fields_in a k.fields s (λ m h. g m (constructors_grow ks t m h)) p.0 in
        ((λ j d l. more (length a.vars) (get_or (parameter_types wa k.fields) j d) (fs j d l)), cons_in theory within named a ks (n + (count_fields k.fields + 1)) t g p.1)

    group_in : (theory within : Word) (all : List SymbolTree) → u ≡ with_entries base all → (named : is_empty theory ≡ false) (ts : List AlgebraicType) (i n : ℕ) (s : SeenTree) → EntriesAt base all i (type_entries theory within ts) → HaveAll (types_seen s ts) → types_fault w ts ≡ None
        → GroupIn theory within named u ts (algebraic_trees w i n ts)
    group_in theory within all e named [] i n s h g q = tt
    group_in theory within all e named (a ∷ ts) i n s h g q =
        let p = none_both (constructors_fault (with_vars w (words a.vars)) a.constructors) (types_fault w ts) q in
        let t = constructors_seen s a.constructors in
        let symbol : IsTypeSymbol (with_entries base all) i (length a.vars) = (h.0.named.usable (rw named refl), rw h.0.at (refl, refl)) in
        ((subst (λ (x : Vocabulary). IsTypeSymbol x i (length a.vars)) (sym e) symbol, cons_in theory within named a a.constructors n s (λ m z. g m (types_grow ts t m z)) p.0), group_in theory within all e named ts (i + 1) (n + entry_count a.constructors) t h.1 g p.1)

module _ (base : Vocabulary) (c : Setting) (h : IsTypedSetting base c) where
  pub group_valid : (ts : List AlgebraicType) → types_fault (group.inside_types c ts) ts ≡ None → NamesNew base (length c.symbols) (c.symbols ++ (group_outcome c ts).symbols) → IsValidOutcome base c (group_outcome c ts)
  group_valid ts q all_news =
      let seen = group_seen ts in
      let tuples = tuples_wanting c seen in
      let front = inside base c h seen in
      let T = type_entries c.theory c.within ts in
      let w = group.inside_types c ts in
      let S = c.symbols ++ (tuples ++ T) in
      let i = first_type c ts in
      let n = first_constructor c ts in
      let G = group_entries c.theory c.within ts (group_trees c ts) in
      let A = S ++ G in
      let nil : T ++ [] ≡ T = append-nil T in
      let assoc : front ++ T ≡ S = append_assoc c.symbols tuples T in
      let split : A ≡ c.symbols ++ (tuples ++ (T ++ G)) = append_assoc c.symbols (tuples ++ T) G ∙ ap (λ (es : List SymbolTree). c.symbols ++ es) (append_assoc tuples T G) in
      let m = length c.symbols in
      let news_all : NamesNew base m A = subst (λ (es : List SymbolTree). NamesNew base m es) (sym split) all_news in
      let news_types : NamesNew base m (front ++ T) = subst (λ (es : List SymbolTree). NamesNew base m es) (sym assoc) (news_front base m S G news_all) in
      let news : NamesNew base m front = news_front base m front T news_types in
      let past : m ≤ length front = omega (arith, length-append c.symbols tuples) in
      let v = with_entries base S in
      let news_front' : NamesNew base (length front) (front ++ T) = news_later base m (length front) (front ++ T) past news_types in
      let sig : IsTypedSignature base S = subst (IsTypedSignature base) assoc
      (signature_more base front T (inside_typed base c h seen news) (types_typed c.theory c.within (with_entries base (front ++ T)) ts) news_front' (records_later base front T (types_plain c.theory c.within ts) news_front')) in
      let whole_types : front ++ (T ++ []) ≡ S = ap (λ (es : List SymbolTree). front ++ es) nil ∙ assoc in
      let at_types : EntriesAt base S i T = subst (λ (all : List SymbolTree). EntriesAt base all i T) whole_types
      (entries_at base m T front [] i refl past (subst (λ (all : List SymbolTree). NamesNew base m all) (sym whole_types) (news_front base m S G news_all))) in
      let scopes : AreTypedScopes v c.scope = scopes_extended base c.symbols (tuples ++ T) c.scope h.scopes in
      let on : TypesOn c.theory c.within h.theory base h.source S sig (group_names c ts) = types_on c.theory c.within h.theory base h.source S sig ts i n c.scope at_types (types_alone v c.scope scopes) in
      let meant = types_meant base S sig (group_names c ts) on in
      let widths : (k : ℕ) → has_width k seen.widths ≡ true → HasTuple base w k = λ k z. tuple_of base S sig k (subst (λ (es : List SymbolTree). has_tuple k 0 es ≡ true) assoc (tuple_front k 0 front T (tuples_there c.symbols seen.widths k z))) in
      let whole_is : front ++ (T ++ G) ≡ A = sym (append_assoc front T G) ∙ ap (λ (es : List SymbolTree). es ++ G) assoc in
      let types_here : EntriesAt base A i T = subst (λ (all : List SymbolTree). EntriesAt base all i T) whole_is
      (entries_at base m T front G i refl past (subst (λ (all : List SymbolTree). NamesNew base m all) (sym whole_is) news_all)) in
      let u = with_entries base A in
      let in_ = group_in base w sig meant refl u (λ k t x. type_more v u (entries_part base S G) k t x) c.theory c.within A refl h.theory ts i n unseen types_here widths q in
      let past_types : m ≤ length S = omega (arith, length-append c.symbols (tuples ++ T)) in
      let news_last = news_later base m (length S) A past_types news_all in
      let whole : IsTypedSignature base A = signature_more base S G sig (group_typed c.theory c.within h.theory u ts (group_trees c ts) in_) news_last (records_later base S G (group_plain c.theory c.within ts (group_trees c ts)) news_last) in
      let count : n ≡ length S = omega (arith, count_types c.theory c.within ts, length-append front T, ap length assoc) in
      let last : G ++ [] ≡ G = append-nil G in
      let whole_last : S ++ (G ++ []) ≡ A = ap (λ (es : List SymbolTree). S ++ es) last in
      let cons_here : EntriesAt base A n G = subst (λ (all : List SymbolTree). EntriesAt base all n G) whole_last
      (entries_at base m G S [] n count (omega (arith, count, past_types)) (subst (λ (all : List SymbolTree). NamesNew base m all) (sym whole_last) news_all)) in
      let old : AreTypedScopes u c.scope = scopes_extended base S G c.scope scopes in
      let new : AreTypedScopes u (group_names c ts) = types_scoped c.theory c.within h.theory base h.source A whole w ts i n c.scope types_here cons_here old in
      let valid : All (IsAlgebraic u) (group_trees c ts) = groups_valid c.theory c.within h.theory base h.source A whole w ts i n types_here cons_here in
      let decls : All (IsValidDecl u) (group_outcome c ts).decls = All-cons (IsValidDecl u) _ [] valid (All-nil (IsValidDecl u)) in
      record { signature = subst (IsTypedSignature base) split whole; scopes = subst (λ (es : List SymbolTree). AreTypedScopes (with_entries base es) (group_names c ts)) split new; decls = subst (λ (es : List SymbolTree). All (IsValidDecl (with_entries base es)) (group_outcome c ts).decls) split decls }
