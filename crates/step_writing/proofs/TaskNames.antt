-- The table of a valid task names what its right steps have, by words.
use Rattle.std.proofs.Common.{◌≡◌, ◌≢◌, ℕ, ◌+◌, ◌<◌, ◌≤◌, ◌^◌, ◌==◌, ◌&&◌, nat_le, nat_lt, Bool, true, false, zero, suc, if◌then◌else◌, List, [], ◌∷◌, ◌++◌, map, filter, take, length, get_or, All, Option, Some, None, slice_get, inl, inr, refl, sym, ap, subst, ◌∙◌, arith, Contains, IsTrue}
use Rattle.std.specs.Prelude.{codes, AllPairs, IsSomeAnd, not, decimal}
use Rattle.std.specs.List.{list_all, flat_map}
use Rattle.std.specs.Option.{option_and_then, option_map, is_some}
use Rattle.std.specs.Str.{bytes_eq}
use Rattle.std.proofs.lemmas.Bool.Decides.{nat_tests}
use Rattle.std.proofs.lemmas.Slice.Eq.{bytes_eq-Decides}
use Rattle.std.proofs.lemmas.List.{length-append}
use Rattle.std.proofs.lemmas.List.Elements.{All-cons, All-nil, All-append}
use Rattle.std.proofs.lemmas.Fmt.{decimal_is_IsNumeral}
use Rattle.std.proofs.lemmas.Str.Parse.{digit_from_value}
use Rattle.std.specs.Str.Parse.{AllDigits}
use Rattle.kernel.specs.trees.Tree.{Tree, Leaf, One, Two, Three, Head, HEnd, HTyVar, HTyRigid, HTyApp, HPred, HFun, HPatCon}
use Rattle.kernel.specs.tasks.declared.signature.SymbolKind.TheVariants.{Kind, Predicate}
use Rattle.kernel.specs.tasks.Task.{SymbolTree, int_symbol, TaskTree, DeclarationTree, symbol_or, made, declared}
use Rattle.kernel.specs.tasks.Roles.{RoleTree, PlainRole, maker, role, role_by}
use Rattle.kernel.specs.tasks.Vocabulary.{of_task}
use Rattle.kernel.specs.tasks.Typing.{members, MakesTerms, IsUse, HasResult}
use Rattle.kernel.specs.tasks.Valid.{IsGround, IsValid}
use Rattle.kernel.proofs.tasks.Declared.{any_iff, contains_cases, contains_step, none_in, maker_made, usable_made, matched_made}
use Rattle.kernel.specs.trees.Binding.{inst_types}
use Rattle.kernel.specs.rules.Trees.{RuleTree, RDef, RClause, RInv, StepTree, step_or, sequents}
use Rattle.kernel.specs.tasks.Inversion.{inversion}
use Rattle.kernel.specs.rules.Rows.{IsRuleRow, Adds, IsAtTypes, equation, clauses}
use Rattle.kernel.specs.Right.{IsRight, AreRight}
use Rattle.kernel.specs.Open.{OpenIn}
use Rattle.name_tables.specs.declared.name_entries.names.NameOf.{NameOf}
use Rattle.name_tables.specs.declared.name_entries.names.NameOf.TheVariants.{Int, Rigid, Symbol}
use Rattle.name_tables.specs.declared.name_entries.names.NameEntry.{NameEntry}
use Rattle.step_lines.specs.tree_lines.Named.{meaning_by, entry_meaning, entry_named, entry_type}
use Rattle.step_lines.specs.tree_lines.Words.{each}
use Rattle.name_tables.specs.Occurrences.{Occurrence, whole_occurrence}
use Rattle.name_tables.specs.Spelling.{after_dots, own_name, operator_words, word_in, spelt, is_spelt_byte, is_prefix_operator_name, fixity, operator_name, clean_byte, lower_case, clean_first, clean, name_at_place}
use Rattle.name_tables.specs.Tables.{is_same, distinct, is_in, thing_of, occurrence_place, task_things, named_thing, entry_at_place, entries_from, task_names, NamesDiffer}
use Rattle.step_writing.specs.tree_writing.Spelt.{IsSpelt}
use Rattle.step_writing.specs.tree_writing.Naming.{type_name}
use Rattle.step_writing.specs.tree_writing.Whole.{TopNamed}
use Rattle.kernel.specs.tasks.Words.{IsPlainByte, IsLineWord, NamesAreWords}
use Rattle.step_writing.specs.Named.{IsName, AreWords, rule_symbols, step_trees, IsNamedTree, IsNamedStep, AreNamed}
use Rattle.step_writing.proofs.Plain.{past_plain}
use Rattle.step_writing.proofs.Rightness.{part_open, part_ground, step_open, step_ground, same_default}
use Rattle.tasks.proofs.plain_laws.Bools.{and_both as both, same_number}

-- ---- each symbol of a task is in its table
record HasThing (os : List Occurrence) (k : ℕ) : Type 0 where
  pub place : ℕ
  pub thing : Occurrence
  pub there : slice_get os place ≡ Some thing
  pub symbol : thing.symbol ≡ k
  pub types : thing.types ≡ Leaf HEnd

kept : {X : Type 0} (p : X → Bool) (os : List X) (i : ℕ) (o : X) → slice_get os i ≡ Some o → p o ≡ true → (j : ℕ) × (slice_get (filter p os) j ≡ Some o)
kept p [] i o e t = absurd (cc)
kept p (x ∷ xs) zero o e t = let same : x ≡ o = cc in (zero, rw (ap p same ∙ t) e)
kept p (x ∷ xs) (suc i) o e t = let m = kept p xs i o e t in at (p x) refl m where
  at : (b : Bool) → p x ≡ b → ((j : ℕ) × (slice_get (filter p xs) j ≡ Some o)) → (j : ℕ) × (slice_get (if b then x ∷ filter p xs else filter p xs) j ≡ Some o)
  at true q m = (suc m.0, m.1)
  at false q m = m

thing_there : (ks : List ℕ) (k : ℕ) → Contains ks k → HasThing (distinct (map whole_occurrence ks)) k
thing_there [] k h = absurd (none_in k h)
thing_there (x ∷ ks) k h = elim (contains_cases x k ks h) [
  | inl e ↦ record { place = 0; thing = whole_occurrence x; there = refl; symbol = sym e; types = refl }
  | inr m ↦ later (thing_there ks k m)
] where
  later : HasThing (distinct (map whole_occurrence ks)) k → HasThing (distinct (map whole_occurrence (x ∷ ks))) k
  later p = at (is_same (whole_occurrence x) p.thing) refl where
    at : (b : Bool) → is_same (whole_occurrence x) p.thing ≡ b → HasThing (distinct (map whole_occurrence (x ∷ ks))) k
    at true q = record { place = 0; thing = whole_occurrence x; there = refl; symbol = same_number x p.thing.symbol (both (x == p.thing.symbol) _ q).0 ∙ p.symbol; types = refl }
    at false q = let m = kept (λ (o : Occurrence). not (is_same (whole_occurrence x) o)) (distinct (map whole_occurrence ks)) p.place p.thing p.there (ap not q) in record { place = suc m.0; thing = p.thing; there = m.1; symbol = p.symbol; types = p.types }

entry_there : (t : TaskTree) (things os : List Occurrence) (place i : ℕ) (o : Occurrence) → slice_get os i ≡ Some o → slice_get (entries_from t things place os) i ≡ Some (entry_at_place t things (place + i) o)
entry_there t things [] place i o e = absurd (cc)
entry_there t things (x ∷ os) place zero o e =
    let same : x ≡ o = cc in
    let here : place ≡ place + 0 = omega arith in
    ap (λ (y : Occurrence). Some (entry_at_place t things place y)) same ∙ ap (λ (n : ℕ). Some (entry_at_place t things n o)) here
entry_there t things (x ∷ os) place (suc i) o e =
    let on : place + 1 + i ≡ place + suc i = omega arith in
    entry_there t things os (place + 1) i o e ∙ ap (λ (n : ℕ). Some (entry_at_place t things n o)) on

within : (xs : List NameEntry) (j : ℕ) (x : NameEntry) → slice_get xs j ≡ Some x → (j < length xs) × ((y : NameEntry) → get_or xs j y ≡ x)
within [] j x k = absurd (cc)
within (z ∷ zs) zero x k = (omega arith, λ y. let s : z ≡ x = cc in s)
within (z ∷ zs) (suc j) x k = let m = within zs j x k in (omega (arith, m.0), m.1)

-- the first entry with a name, where names differ
first_named : (table : List NameEntry) (i : ℕ) (e : NameEntry) → NamesDiffer table → slice_get table i ≡ Some e → entry_named table e.name ≡ Some e
first_named [] i e d h = absurd (cc)
first_named (n ∷ ns) zero e d h =
    let same : n ≡ e = cc in
    subst (λ (x : NameEntry). entry_named (n ∷ ns) x.name ≡ Some x) same (rw ((bytes_eq-Decides n.name n.name).1 refl) refl)
first_named (n ∷ ns) (suc i) e d h = at (bytes_eq n.name e.name) refl (first_named ns i e (λ a b x l w. d (suc a) (suc b) x (omega (arith, l)) (omega (arith, w))) h) where
  at : (b : Bool) → bytes_eq n.name e.name ≡ b → entry_named ns e.name ≡ Some e → (if b then Some n else entry_named ns e.name) ≡ Some e
  at true q more =
      let m = within ns i e h in
      absurd (d 0 (suc i) n (omega arith) (omega (arith, m.0)) ((bytes_eq-Decides n.name e.name).0 q ∙ ap (λ (x : NameEntry). x.name) (sym (m.1 n))))
  at false q more = more

module _ (t : TaskTree) (differ : NamesDiffer (task_names t)) where
  spelt_whole : (k : ℕ) (types : List Tree) → Contains (declared t) k → IsSpelt (task_names t) (named_thing t.rigid k) types
  spelt_whole k types h =
      let p = thing_there (declared t) k h in
      let e = entry_at_place t (task_things t) (0 + p.place) p.thing in
      let there : slice_get (task_names t) p.place ≡ Some e = entry_there t (task_things t) (task_things t) 0 p.place p.thing p.there in
      let none : e.types ≡ [] = ap (λ (x : Tree). map (λ type. occurrence_place (task_things t) (thing_of type)) (members x)) p.types in
      record {
        name = e.name;
        whole = true;
        spells = ap (option_and_then (entry_meaning (task_names t))) (first_named (task_names t) p.place e differ there)
            ∙ ap (λ (l : List ℕ). option_map (meaning_by e.symbol) (each (λ j. entry_type (length (task_names t)) (task_names t) j) l)) none
            ∙ ap (λ (n : NameOf). Some (meaning_by n [])) (ap (named_thing t.rigid) p.symbol);
      }

-- ---- the symbols of a valid task are apart
place_left : (xs ys : List ℕ) (k : ℕ) → Contains xs k → Contains (xs ++ ys) k
place_left [] ys k h = absurd (none_in k h)
place_left (x ∷ xs) ys k h = elim (contains_cases x k xs h) [ inl e ↦ contains_step x k (xs ++ ys) (inl e) | inr m ↦ contains_step x k (xs ++ ys) (inr (place_left xs ys k m)) ]

place_right : (xs ys : List ℕ) (k : ℕ) → Contains ys k → Contains (xs ++ ys) k
place_right [] ys k h = h
place_right (x ∷ xs) ys k h = contains_step x k (xs ++ ys) (inr (place_right xs ys k h))

rest_apart : (x : ℕ) (xs : List ℕ) → AllPairs (λ j k. j ≢ k) (x ∷ xs) → AllPairs (λ j k. j ≢ k) xs
rest_apart x xs a i j d l w = a (suc i) (suc j) d (omega (arith, l)) (omega (arith, w))

head_apart : (x : ℕ) (xs : List ℕ) (k : ℕ) → AllPairs (λ j k. j ≢ k) (x ∷ xs) → Contains xs k → x ≡ k → ⊥
head_apart x xs k a h e = a 0 (suc h.0) k (omega arith) (omega (arith, h.1)) (e ∙ sym h.2)

halves_apart : (xs ys : List ℕ) (k : ℕ) → AllPairs (λ j k. j ≢ k) (xs ++ ys) → Contains xs k → Contains ys k → ⊥
halves_apart [] ys k a h m = none_in k h
halves_apart (x ∷ xs) ys k a h m = elim (contains_cases x k xs h) [
  | inl e ↦ head_apart x (xs ++ ys) k a (place_right xs ys k m) (sym e)
  | inr n ↦ halves_apart xs ys k (rest_apart x (xs ++ ys) a) n m
]

same_zero : (k : ℕ) → (k ≡ 0 → ⊥) → (k == 0) ≡ false
same_zero zero h = absurd (h refl)
same_zero (suc k) h = grind (arith, nat_tests)

module _ (t : TaskTree) (valid : IsValid t) (differ : NamesDiffer (task_names t)) where
  rigid_spelt : (k : ℕ) (types : List Tree) → Contains t.rigid k → IsSpelt (task_names t) (Rigid k) types
  rigid_spelt k types h =
      let all = place_left t.rigid (made t.decls) k h in
      let not_zero : (k == 0) ≡ false = same_zero k (λ e. head_apart 0 (t.rigid ++ made t.decls) k valid.once all (sym e)) in
      let rigid : is_in k t.rigid ≡ true = (any_iff k t.rigid).1 h in
      let is : named_thing t.rigid k ≡ Rigid k = ap (λ b. if b then Int else (if is_in k t.rigid then Rigid k else Symbol k)) not_zero ∙ ap (λ b. if b then Rigid k else Symbol k) rigid in
      subst (λ (n : NameOf). IsSpelt (task_names t) n types) is (spelt_whole t differ k types (contains_step 0 k (t.rigid ++ made t.decls) (inr all)))

  pub made_spelt : (k : ℕ) (types : List Tree) → Contains (made t.decls) k → IsSpelt (task_names t) (Symbol k) types
  made_spelt k types h =
      let all = place_right t.rigid (made t.decls) k h in
      let not_zero : (k == 0) ≡ false = same_zero k (λ e. head_apart 0 (t.rigid ++ made t.decls) k valid.once all (sym e)) in
      let apart = rest_apart 0 (t.rigid ++ made t.decls) valid.once in
      let is : named_thing t.rigid k ≡ Symbol k = ap (λ b. if b then Int else (if is_in k t.rigid then Rigid k else Symbol k)) not_zero ∙ no_rigid (is_in k t.rigid) refl (λ m. halves_apart t.rigid (made t.decls) k apart m h) in
      subst (λ (n : NameOf). IsSpelt (task_names t) n types) is (spelt_whole t differ k types (contains_step 0 k (t.rigid ++ made t.decls) (inr all)))
    where
      no_rigid : (b : Bool) → is_in k t.rigid ≡ b → (Contains t.rigid k → ⊥) → (if b then Rigid k else Symbol k) ≡ Symbol k
      no_rigid false e n = refl
      no_rigid true e n = absurd (n ((any_iff k t.rigid).0 e))

  type_spelt : (k : ℕ) (types : List Tree) → Contains (0 ∷ made t.decls) k → IsSpelt (task_names t) (type_name k) types
  type_spelt zero types h = spelt_whole t differ 0 types (contains_step 0 0 (t.rigid ++ made t.decls) (inl refl))
  type_spelt (suc k) types h = elim (contains_cases 0 (suc k) (made t.decls) h) [ inl e ↦ absurd (cc) | inr m ↦ made_spelt (suc k) types m ]

  -- what isn't a type isn't `int`
  no_int : (k : ℕ) (P : SymbolTree → Type 0) → (P int_symbol → ⊥) → IsSomeAnd (slice_get t.symbols k) P → (k ≡ 0 → ⊥)
  no_int k P never h e = never (subst (λ (o : Option SymbolTree). IsSomeAnd o P) (ap (slice_get t.symbols) e ∙ valid.int) h)

  used_spelt : (k : ℕ) (types : List Tree) (P : SymbolTree → Type 0) → (P int_symbol → ⊥) → IsTrue ((of_task t).usable k) → IsSomeAnd (slice_get t.symbols k) P → IsSpelt (task_names t) (Symbol k) types
  used_spelt k types P never u h = elim (contains_cases 0 k (made t.decls) (usable_made t k u)) [ inl e ↦ absurd (no_int k P never h e) | inr m ↦ made_spelt k types m ]

  leaf_named : (h : Head) → OpenIn t (Leaf h) → IsGround (Leaf h) → TopNamed (task_names t) (Leaf h)
  leaf_named (HTyVar j) o g = omega (arith, g)
  leaf_named (HTyRigid k) o g = rigid_spelt k [] ((any_iff k t.rigid).0 o.1.0)
  leaf_named _ o g = tt

  one_named : (h : Head) (a : Tree) → OpenIn t (One h a) → TopNamed (task_names t) (One h a)
  one_named (HTyApp k) a o = type_spelt k (members a) (usable_made t k o.1.0)
  one_named _ a o = tt

  two_named : (h : Head) (a b : Tree) → OpenIn t (Two h a b) → TopNamed (task_names t) (Two h a b)
  two_named (HPred k) a b o = used_spelt k (members a) (λ (e : SymbolTree). (e.kind ≡ Predicate) × IsUse e a b) (λ p. let f : Kind ≡ Predicate = p.0 in absurd (cc)) o.1.0.0 o.1.0.1
  two_named _ a b o = tt

  three_named : (h : Head) (a b c : Tree) → OpenIn t (Three h a b c) → TopNamed (task_names t) (Three h a b c)
  three_named (HFun k) a b c o = used_spelt k (members a) (λ (e : SymbolTree). MakesTerms e.kind × IsUse e a b × HasResult e a c) (λ p. p.0) o.1.0 o.1.1
  three_named (HPatCon k) a b c o = made_spelt k (members a) (matched_made t k o.1.0)
  three_named _ a b c o = tt

  top_named : (e : Tree) → OpenIn t e → IsGround e → TopNamed (task_names t) e
  top_named (Leaf h) o g = leaf_named h o g
  top_named (One h a) o g = one_named h a o
  top_named (Two h a b) o g = two_named h a b o
  top_named (Three h a b c) o g = three_named h a b c o

  tree_named : (e : Tree) → OpenIn t e → IsGround e → IsNamedTree (task_names t) e
  tree_named e o g x p = top_named x (part_open (of_task t) x e p o) (part_ground x e p g)

  -- the symbol that a rule names is declared
  role_there : {A : Type 0} (k : ℕ) (f : RoleTree → Option A) (P : A → Type 0) → f PlainRole ≡ None → IsSomeAnd (f (role t k)) P → Contains (made t.decls) k
  role_there {A} k f P none h = at (maker t.decls k) refl where
    at : (o : Option DeclarationTree) → maker t.decls k ≡ o → Contains (made t.decls) k
    at None e = absurd (subst (λ (o : Option A). IsSomeAnd o P) (ap (λ (m : Option DeclarationTree). f (role_by k m)) e ∙ none) h)
    at (Some d) e = maker_made k t.decls (ap is_some e)

  symbols_spelt : (q : List Tree) (r : RuleTree) (ps : List (List Tree)) → IsRuleRow t q r ps → All (λ k. IsSpelt (task_names t) (Symbol k) []) (rule_symbols r)
  symbols_spelt q (RDef k types) ps w = All-cons (λ k. IsSpelt (task_names t) (Symbol k) []) k [] (made_spelt k [] (role_there k equation (λ e. IsAtTypes t k types × Adds q ps ((inst_types e types ∷ []) ∷ [])) refl w)) (All-nil (λ k. IsSpelt (task_names t) (Symbol k) []))
  symbols_spelt q (RClause k c types) ps w = All-cons (λ k. IsSpelt (task_names t) (Symbol k) []) k [] (made_spelt k [] (role_there k (λ x. option_and_then (λ cs. slice_get cs c) (clauses x)) (λ a. IsAtTypes t k types × Adds q ps ((inst_types a types ∷ []) ∷ [])) refl w)) (All-nil (λ k. IsSpelt (task_names t) (Symbol k) []))
  symbols_spelt q (RInv k types) ps w = All-cons (λ k. IsSpelt (task_names t) (Symbol k) []) k [] (made_spelt k [] (role_there k clauses (λ cs. IsAtTypes t k types × Adds q ps ((inst_types (inversion k (symbol_or t.symbols k) cs) types ∷ []) ∷ [])) refl w)) (All-nil (λ k. IsSpelt (task_names t) (Symbol k) []))
  symbols_spelt q _ ps w = All-nil (λ k. IsSpelt (task_names t) (Symbol k) [])

  step_named : (before : List StepTree) (st : StepTree) → IsRight t before st → IsNamedStep (task_names t) st
  step_named before st h =
      let o = step_open t before st h in
      let g = step_ground t before st h in
      record { trees = λ k d l. tree_named (get_or (step_trees st) k d) (o k d l) (g k d l); symbols = symbols_spelt st.sequent st.rule (sequents before st.premises) h.row }

  pub steps_named : (steps : List StepTree) → AreRight t steps → AreNamed (task_names t) steps
  steps_named steps h k d l = subst (IsNamedStep (task_names t)) (same_default steps k d l) (step_named (take k steps) (step_or steps k) (h k l))

-- ---- the names are words
first_plain : (c : ℕ) (cs : List ℕ) → IsLineWord (c ∷ cs) → IsPlainByte c
first_plain c cs a = a 0 c (omega arith)

rest_word : (c : ℕ) (cs : List ℕ) → IsLineWord (c ∷ cs) → IsLineWord cs
rest_word c cs a k d h = a (suc k) d (omega (arith, h))

after_word : (found cs : List ℕ) → IsLineWord found → IsLineWord cs → IsLineWord (after_dots found cs)
after_word found [] a b = a
after_word found (c ∷ cs) a b = at (c == 46) (after_word cs cs (rest_word c cs b) (rest_word c cs b)) (after_word found cs a (rest_word c cs b)) where
  at : (x : Bool) → IsLineWord (after_dots cs cs) → IsLineWord (after_dots found cs) → IsLineWord (if x then after_dots cs cs else after_dots found cs)
  at true m n = m
  at false m n = n

abbrev words_past : List (ℕ × List ℕ) → Bool
words_past [] = true
words_past (w ∷ ws) = list_all (λ c. nat_lt 32 c) w.1 && words_past ws

word_in_word : (ws : List (ℕ × List ℕ)) (c : ℕ) → words_past ws ≡ true → IsLineWord (word_in ws c)
word_in_word [] c e = All-nil IsPlainByte
word_in_word (w ∷ ws) c e =
    let b = both (list_all (λ x. nat_lt 32 x) w.1) (words_past ws) e in
    at (c == w.0) (past_plain w.1 b.0) (word_in_word ws c b.1)
  where
    at : (x : Bool) → IsLineWord w.1 → IsLineWord (word_in ws c) → IsLineWord (if x then w.1 else word_in ws c)
    at true m n = m
    at false m n = n

spelt_word : (cs : List ℕ) → IsLineWord (flat_map spelt cs)
spelt_word [] = All-nil IsPlainByte
spelt_word (c ∷ cs) = All-append IsPlainByte (spelt c) (flat_map spelt cs) (word_in_word operator_words c refl) (spelt_word cs)

fixity_word : (b : Bool) → IsLineWord (fixity b)
fixity_word true = past_plain (codes "prefix") refl
fixity_word false = past_plain (codes "infix") refl

cleaned : (c : ℕ) → IsPlainByte c → IsPlainByte (clean_byte c)
cleaned c h = at (c == 39) where
  at : (b : Bool) → IsPlainByte (if b then 113 else c)
  at true = (λ e. omega (arith, e), λ e. omega (arith, e))
  at false = h

upper_low : (c : ℕ) → (nat_le 65 c && nat_le c 90) ≡ true → 65 ≤ c
upper_low c e = grind (arith, nat_tests)

lowered : (c : ℕ) → IsPlainByte c → IsPlainByte (lower_case c)
lowered c h = at (nat_le 65 c && nat_le c 90) refl where
  at : (b : Bool) → (nat_le 65 c && nat_le c 90) ≡ b → IsPlainByte (if b then c + 32 else c)
  at true q = let k = upper_low c q in (λ e. omega (arith, e, k), λ e. omega (arith, e, k))
  at false q = h

clean_rest : (cs : List ℕ) → IsLineWord cs → IsLineWord (map clean_byte cs)
clean_rest [] a = All-nil IsPlainByte
clean_rest (c ∷ cs) a = All-cons IsPlainByte (clean_byte c) (map clean_byte cs) (cleaned c (first_plain c cs a)) (clean_rest cs (rest_word c cs a))

first_word : (c : ℕ) → IsPlainByte c → IsLineWord (clean_first c)
first_word c h = at (c == 95) where
  at : (b : Bool) → IsLineWord (if b then codes "u_" else lower_case (clean_byte c) ∷ [])
  at true = past_plain (codes "u_") refl
  at false = All-cons IsPlainByte (lower_case (clean_byte c)) [] (lowered (clean_byte c) (cleaned c h)) (All-nil IsPlainByte)

clean_word : (x : List ℕ) → IsLineWord x → IsLineWord (clean x)
clean_word [] a = a
clean_word (c ∷ cs) a = at (is_spelt_byte c) where
  at : (b : Bool) → IsLineWord (if b then operator_name (c ∷ cs) else clean_first c ++ map clean_byte cs)
  at true = All-append IsPlainByte (fixity (is_prefix_operator_name (c ∷ cs))) (flat_map spelt (c ∷ cs)) (fixity_word (is_prefix_operator_name (c ∷ cs))) (spelt_word (c ∷ cs))
  at false = All-append IsPlainByte (clean_first c) (map clean_byte cs) (first_word c (first_plain c cs a)) (clean_rest cs (rest_word c cs a))

digits_word : (ds : List ℕ) → AllDigits 10 ds → IsLineWord ds
digits_word [] d = All-nil IsPlainByte
digits_word (c ∷ cs) d =
    let k = digit_from_value c d.0 in
    All-cons IsPlainByte c cs (λ e. omega (arith, k, e), λ e. omega (arith, k, e)) (digits_word cs d.1)

place_word : (x : List ℕ) (n : ℕ) → n < 2 ^ 64 → IsLineWord x → IsLineWord (name_at_place x n)
place_word x n h a =
    All-append IsPlainByte (clean (own_name x)) (95 ∷ decimal n) (clean_word (own_name x) (after_word x x a a))
    (All-cons IsPlainByte 95 (decimal n) (λ e. omega (arith, e), λ e. omega (arith, e)) (digits_word (decimal n) (decimal_is_IsNumeral n h).0.1))

ends : (x ds : List ℕ) → x ++ 95 ∷ ds ≡ 58 ∷ [] → ⊥
ends [] ds e = let f : 95 ≡ 58 = ap (λ (l : List ℕ). get_or l 0 0) e in omega (arith, f)
ends (c ∷ cs) ds e = let f = ap (λ (l : List ℕ). length l) e in omega (arith, f, length-append cs (95 ∷ ds))

no_colon : (x ds : List ℕ) → x ++ 95 ∷ ds ≢ codes ":"
no_colon x ds e = ends x ds e

own_word : (ss : List SymbolTree) (k : ℕ) → All (λ (e : SymbolTree). IsLineWord e.name) ss → IsLineWord (symbol_or ss k).name
own_word [] k a = past_plain (codes "int") refl
own_word (e ∷ es) zero a = a 0 e (omega arith)
own_word (e ∷ es) (suc k) a = own_word es k (λ j d h. a (suc j) d (omega (arith, h)))

abbrev Named : NameEntry → Type 0
Named n = IsName n.name

entries_words : (t : TaskTree) (things : List Occurrence) (place : ℕ) (os : List Occurrence) → NamesAreWords t → place + length os ≤ 2 ^ 64 → All Named (entries_from t things place os)
entries_words t things place [] a h = All-nil Named
entries_words t things place (o ∷ os) a h =
    let name = (symbol_or t.symbols o.symbol).name in
    All-cons Named (entry_at_place t things place o) (entries_from t things (place + 1) os) (record { word = place_word name place (omega (arith, h)) (own_word t.symbols o.symbol a); no_colon = no_colon (clean (own_name name)) (decimal place) })
    (entries_words t things (place + 1) os a (omega (arith, h)))

entries_long : (t : TaskTree) (things : List Occurrence) (place : ℕ) (os : List Occurrence) → length (entries_from t things place os) ≡ length os
entries_long t things place [] = refl
entries_long t things place (o ∷ os) = ap suc (entries_long t things (place + 1) os)

pub names_words : (t : TaskTree) → NamesAreWords t → length (task_names t) ≤ 2 ^ 64 → AreWords (task_names t)
names_words t a h = entries_words t (task_things t) 0 (task_things t) a (omega (arith, h, entries_long t (task_things t) 0 (task_things t)))
