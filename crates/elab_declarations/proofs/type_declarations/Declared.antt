-- What is declared where further names are made: the same, but for the names that were made since.
use Rattle.std.proofs.Common.{◌≡◌, ℕ, Bool, true, false, cond, zero, suc, List, [], ◌∷◌, ◌++◌, map, length, get_or, set, Option, Some, None, option_map, refl, sym, ap, subst, ◌∙◌, append_assoc, Result, Ok, Err, IfErr}
use Rattle.std.specs.Prelude.{◌||◌, ◌&&◌, ◌+◌, OnOk}
use Rattle.std.proofs.lemmas.List.{map-append, append-nil}
use Rattle.std.specs.Option.{is_some}
use Rattle.std.specs.Str.{bytes_eq}
use Rattle.scopes.specs.declared.Table.{Table}
use Rattle.scopes.specs.declared.Table.TheVariants.{Types, Symbols}
use Rattle.scopes.specs.Names.{NamesOf, ScopeNames, ScopeEntry, is_named, is_declared, innermost, with_entry}
use Rattle.surface.specs.Lexeme.{Word}
use Rattle.name_resolution.specs.declared.NamingFault.{NamingFault}
use Rattle.name_resolution.specs.declared.NamingFault.TheVariants as names
use Rattle.name_resolution.specs.Faults.{first_of, fault_if}
use Rattle.name_resolution.specs.Naming.{Tells}
use Rattle.name_resolution.specs.Where.{place_of}
use Rattle.elab_groups.specs.parts.Declarations.{TokenName, Parameter, AlgebraicConstructor, AlgebraicType, words, called_names, names_of_parameters, constructor_names, list_fault}
use Rattle.elab_groups.specs.members.Members.{parameter_words}
use Rattle.elab_groups.specs.parts.Outcomes.{declared_in, IsNameRefused}
use Rattle.elab_groups.proofs.parts.Alike.{both}
use Rattle.name_resolution.proofs.Told.{three as first_assoc}
use Rattle.elab_declarations.specs.NewNames.{name_made}
use Rattle.elab_declarations.specs.type_declarations.Algebraics.{NumberedName, count_fields, numbered_names, numbered_fields, numbered_constructors, with_numbered, with_constructors, symbols_made, constructors_made, constructor_words, types_made}

-- ---- an answer on one name
pub name_before : (d b : Bool) (i : ℕ) → b ≡ true → fault_if (d || b) (names.Duplicate i) ≡ Some (names.Duplicate i)
name_before true b i h = refl
name_before false b i h = rw h refl

pub name_told : (d b : Bool) (i : ℕ) (r : Result Unit NamingFault) → b ≡ false → OnOk r (d ≡ false) → IfErr r (IsNameRefused d i) → Tells r (fault_if (d || b) (names.Duplicate i))
name_told d b i (Ok v) e h k = rw (h, e) refl
name_told d b i (Err names.Memory) e h k = tt
name_told d b i (Err (names.Unknown t)) e h k = absurd (cc (k.1))
name_told d b i (Err (names.Duplicate t)) e h k = rw (k.0) (ap Some (sym k.1))
name_told d b i (Err (names.WrongKind t)) e h k = absurd (cc (k.1))
name_told d b i (Err (names.Arity t)) e h k = absurd (cc (k.1))

-- ---- words among others
abbrev pub is_among : Word → List Word → Bool
is_among y ws = is_some (place_of y ws)

pub some_step : (b : Bool) (m : Option ℕ) → is_some (cond b (Some 0) (option_map suc m)) ≡ (b || is_some m)
some_step true m = refl
some_step false None = refl
some_step false (Some k) = refl

pub or_assoc : (a b c : Bool) → (a || (b || c)) ≡ ((a || b) || c)
or_assoc true b c = refl
or_assoc false b c = refl

pub among_append : (y : Word) (us vs : List Word) → is_among y (us ++ vs) ≡ (is_among y us || is_among y vs)
among_append y [] vs = refl
among_append y (u ∷ us) vs =
    some_step (bytes_eq u y) (place_of y (us ++ vs)) ∙ (ap (λ (b : Bool). bytes_eq u y || b) (among_append y us vs) ∙ (or_assoc (bytes_eq u y) (is_among y us) (is_among y vs) ∙ ap (λ (b : Bool). b || is_among y vs) (sym (some_step (bytes_eq u y) (place_of y us)))))

-- ---- names that were made since are in a list
abbrev pub Agrees : List Word → (Word → Bool) → (Word → Bool) → Type 0
Agrees before d d' = (y : Word) → (d' y || is_among y before) ≡ (d y || is_among y before)

pub agrees_more : (before more : List Word) (d d' : Word → Bool) → Agrees before d d' → Agrees (before ++ more) d d'
agrees_more before more d d' h y =
    let p = is_among y before in
    let q = is_among y more in
    ap (λ (b : Bool). d' y || b) (among_append y before more) ∙ (or_assoc (d' y) p q ∙ (ap (λ (b : Bool). b || q) (h y) ∙ (sym (or_assoc (d y) p q) ∙ ap (λ (b : Bool). d y || b) (sym (among_append y before more)))))

pub agrees_both : (before : List Word) (d d' d'' : Word → Bool) → Agrees before d d' → Agrees before d' d'' → Agrees before d d''
agrees_both before d d' d'' h k y = k y ∙ h y

-- ---- one further name
absorbed : (c d a : Bool) → (c || a) ≡ a → ((c || d) || a) ≡ (d || a)
absorbed false d a h = refl
absorbed true true a h = refl
absorbed true false a h = h

entered : (u : Table) (y : Word) (e : ScopeEntry) (a : Bool) → ((is_named u y e && e.declared) || a) ≡ a → (ess : List (List ScopeEntry)) (i : ℕ)
    → (is_declared u y (get_or (set ess i (e ∷ get_or ess i [])) i []) || a) ≡ (is_declared u y (get_or ess i []) || a)
entered u y e a h [] i = refl
entered u y e a h (es ∷ ess) zero = absorbed (is_named u y e && e.declared) (is_declared u y es) a h
entered u y e a h (es ∷ ess) (suc i) = entered u y e a h ess i

last_among : (b : Bool) (y x : Word) (before : List Word) → bytes_eq x y ≡ b → ((b && true) || is_among y (before ++ x ∷ [])) ≡ is_among y (before ++ x ∷ [])
last_among false y x before h = refl
last_among true y x before h =
    let one : is_among y (x ∷ []) ≡ true = ap (λ (b : Bool). is_some {T = ℕ} (cond b (Some 0) None)) h in
    sym (among_append y before (x ∷ []) ∙ (ap (λ (b : Bool). is_among y before || b) one ∙ right_true (is_among y before)))
  where
    right_true : (a : Bool) → (a || true) ≡ true
    right_true true = refl
    right_true false = refl

module _ (names : ScopeNames) (x : Word) (k : ℕ) where
  pub type_entered : (before : List Word) → Agrees (before ++ x ∷ []) (declared_in names Types) (declared_in (with_entry Types x k true names) Types)
  type_entered before y = entered Types y _ (is_among y (before ++ x ∷ [])) (last_among (bytes_eq x y) y x before refl) names.entries (innermost names)

  pub symbol_entered : (before : List Word) → Agrees (before ++ x ∷ []) (declared_in names Symbols) (declared_in (with_entry Symbols x k true names) Symbols)
  symbol_entered before y = entered Symbols y _ (is_among y (before ++ x ∷ [])) (last_among (bytes_eq x y) y x before refl) names.entries (innermost names)

  pub symbols_past : (before : List Word) → Agrees before (declared_in names Symbols) (declared_in (with_entry Types x k true names) Symbols)
  symbols_past before y = entered Symbols y _ (is_among y before) refl names.entries (innermost names)

  pub types_past : (before : List Word) → Agrees before (declared_in names Types) (declared_in (with_entry Symbols x k true names) Types)
  types_past before y = entered Types y _ (is_among y before) refl names.entries (innermost names)

-- ---- names with the numbers of their entries
abbrev pub numbered_words : List NumberedName → List Word
numbered_words xs = map (λ (x : NumberedName). x.name) xs

abbrev token_word : TokenName → Word
token_word c = c.name

pub named_words : (n : ℕ) (cs : List TokenName) → numbered_words (numbered_names n cs) ≡ words cs
named_words n [] = refl
named_words n (c ∷ cs) = ap (λ (ws : List Word). c.name ∷ ws) (named_words (n + 1) cs)

both_words : (xs ys : List NumberedName) (cs ds : List TokenName) → numbered_words xs ≡ words cs → numbered_words ys ≡ words ds → numbered_words (xs ++ ys) ≡ words (cs ++ ds)
both_words xs ys cs ds p q =
    map-append (λ (x : NumberedName). x.name) xs ys
    ∙ (ap (λ (ws : List Word). ws ++ numbered_words ys) p ∙ (ap (λ (ws : List Word). words cs ++ ws) q ∙ sym (map-append token_word cs ds)))

pub fields_words : (n : ℕ) (ps : List Parameter) → numbered_words (numbered_fields n ps) ≡ words (names_of_parameters ps)
fields_words n [] = refl
fields_words n (p ∷ ps) =
    let m = n + length (parameter_words p.names) in
    both_words (numbered_names n p.names) (numbered_fields m ps) p.names (names_of_parameters ps) (named_words n p.names) (fields_words m ps)

constructors_words : (n : ℕ) (ks : List AlgebraicConstructor) → numbered_words (numbered_constructors n ks) ≡ constructor_words ks
constructors_words n [] = refl
constructors_words n (k ∷ ks) =
    let m = n + (count_fields k.fields + 1) in
    both_words (numbered_names n (called_names k.called)) (numbered_fields (n + 1) k.fields ++ numbered_constructors m ks) (called_names k.called) (names_of_parameters k.fields ++ constructor_names ks) (named_words n (called_names k.called))
    (both_words (numbered_fields (n + 1) k.fields) (numbered_constructors m ks) (names_of_parameters k.fields) (constructor_names ks) (fields_words (n + 1) k.fields) (constructors_words m ks))

pub with_both : {A : Type 0} (xs ys : List NumberedName) (names : NamesOf A) → with_numbered (xs ++ ys) names ≡ with_numbered ys (with_numbered xs names)
with_both [] ys names = refl
with_both (x ∷ xs) ys names = with_both xs ys (with_entry Symbols x.name x.number true names)

pub numbered_entered : (xs : List NumberedName) (names : ScopeNames) (before : List Word)
    → Agrees (before ++ numbered_words xs) (declared_in names Symbols) (declared_in (with_numbered xs names) Symbols)
numbered_entered [] names before = λ y. refl
numbered_entered (x ∷ xs) names before =
    let d = declared_in names Symbols in
    let d1 = declared_in (with_entry Symbols x.name x.number true names) Symbols in
    let d2 = declared_in (with_numbered (x ∷ xs) names) Symbols in
    let more = numbered_words xs in
    subst (λ (ws : List Word). Agrees ws d d2) (append_assoc before (x.name ∷ []) more)
    (agrees_both ((before ++ x.name ∷ []) ++ more) d d1 d2 (agrees_more (before ++ x.name ∷ []) more d d1 (symbol_entered names x.name x.number before)) (numbered_entered xs (with_entry Symbols x.name x.number true names) (before ++ x.name ∷ [])))

numbered_kept : (xs : List NumberedName) (names : ScopeNames) (before : List Word) → Agrees before (declared_in names Types) (declared_in (with_numbered xs names) Types)
numbered_kept [] names before = λ y. refl
numbered_kept (x ∷ xs) names before =
    agrees_both before (declared_in names Types) (declared_in (with_entry Symbols x.name x.number true names) Types) (declared_in (with_numbered (x ∷ xs) names) Types) (types_past names x.name x.number before) (numbered_kept xs (with_entry Symbols x.name x.number true names) before)

-- ---- constructors
pub constructors_entered : (n : ℕ) (ks : List AlgebraicConstructor) (names : ScopeNames) (before : List Word)
    → Agrees (before ++ constructor_words ks) (declared_in names Symbols) (declared_in (with_constructors n ks names) Symbols)
constructors_entered n ks names before =
    subst (λ (ws : List Word). Agrees (before ++ ws) (declared_in names Symbols) (declared_in (with_constructors n ks names) Symbols)) (constructors_words n ks) (numbered_entered (numbered_constructors n ks) names before)

pub types_kept : (n : ℕ) (ks : List AlgebraicConstructor) (names : ScopeNames) (before : List Word) → Agrees before (declared_in names Types) (declared_in (with_constructors n ks names) Types)
types_kept n ks names before = numbered_kept (numbered_constructors n ks) names before

-- ---- faults
pub symbols_same : (d d' : Word → Bool) (before : List Word) (cs : List TokenName) → Agrees before d d' → symbols_made d' before cs ≡ symbols_made d before cs
symbols_same d d' before [] h = refl
symbols_same d d' before (c ∷ cs) h =
    both (ap (λ (b : Bool). fault_if b (names.Duplicate c.at)) (h c.name)) (symbols_same d d' (before ++ c.name ∷ []) cs (agrees_more before (c.name ∷ []) d d' h))

pub symbols_append : (d : Word → Bool) (before : List Word) (cs ds : List TokenName) → symbols_made d before (cs ++ ds) ≡ first_of (symbols_made d before cs) (symbols_made d (before ++ words cs) ds)
symbols_append d before [] ds = ap (λ (ws : List Word). symbols_made d ws ds) (sym (append-nil before))
symbols_append d before (c ∷ cs) ds =
    let f = name_made (d c.name) before c in
    let next = before ++ c.name ∷ [] in
    ap (first_of f) (symbols_append d next cs ds ∙ ap (λ (ws : List Word). first_of (symbols_made d next cs) (symbols_made d ws ds)) (append_assoc before (c.name ∷ []) (words cs)))
    ∙ sym (first_assoc f (symbols_made d next cs) (symbols_made d (before ++ words (c ∷ cs)) ds))

-- after names that were made since
pub symbols_after : (names : ScopeNames) (xs : List NumberedName) (before ws : List Word) (cs : List TokenName) → numbered_words xs ≡ ws
    → symbols_made (declared_in (with_numbered xs names) Symbols) (before ++ ws) cs ≡ symbols_made (declared_in names Symbols) (before ++ ws) cs
symbols_after names xs before ws cs e =
    let d = declared_in names Symbols in
    let d' = declared_in (with_numbered xs names) Symbols in
    symbols_same d d' (before ++ ws) cs (subst (λ (vs : List Word). Agrees (before ++ vs) d d') e (numbered_entered xs names before))

pub types_same : (d d' : Table → Word → Bool) (us vs : List Word) (ts : List AlgebraicType) → Agrees us (d Types) (d' Types) → Agrees vs (d Symbols) (d' Symbols) → types_made d' us vs ts ≡ types_made d us vs ts
types_same d d' us vs [] h k = refl
types_same d d' us vs (a ∷ ts) h k =
    both (ap (λ (b : Bool). fault_if b (names.Duplicate a.called.at)) (h a.called.name))
    (ap (first_of (list_fault [] a.vars))
    (both (symbols_same (d Symbols) (d' Symbols) vs (constructor_names a.constructors) k)
    (types_same d d' (us ++ a.called.name ∷ []) (vs ++ constructor_words a.constructors) ts (agrees_more us (a.called.name ∷ []) (d Types) (d' Types) h) (agrees_more vs (constructor_words a.constructors) (d Symbols) (d' Symbols) k))))

-- after a first type
module _ (names : ScopeNames) (us vs : List Word) (a : AlgebraicType) (i n : ℕ) where
  abbrev named : ScopeNames
  named = with_entry Types a.called.name i true names

  abbrev after : ScopeNames
  after = with_constructors n a.constructors named

  pub first_constructors : constructors_made (declared_in named Symbols) vs a.constructors ≡ constructors_made (declared_in names Symbols) vs a.constructors
  first_constructors = symbols_same (declared_in names Symbols) (declared_in named Symbols) vs (constructor_names a.constructors) (symbols_past names a.called.name i vs)

  pub rest_types : (ts : List AlgebraicType) → types_made (declared_in after) (us ++ a.called.name ∷ []) (vs ++ constructor_words a.constructors) ts ≡ types_made (declared_in names) (us ++ a.called.name ∷ []) (vs ++ constructor_words a.constructors) ts
  rest_types ts =
      let us' = us ++ a.called.name ∷ [] in
      let vs' = vs ++ constructor_words a.constructors in
      types_same (declared_in names) (declared_in after) us' vs' ts
      (agrees_both us' (declared_in names Types) (declared_in named Types) (declared_in after Types) (type_entered names a.called.name i us) (types_kept n a.constructors named us'))
      (agrees_both vs' (declared_in names Symbols) (declared_in named Symbols) (declared_in after Symbols) (symbols_past names a.called.name i vs') (constructors_entered n a.constructors named vs))
