-- What a reader finds in the table by a word: the symbol, or the type, that was printed by it.
use Rattle.std.proofs.Common.{◌≡◌, ◌≢◌, ℕ, ◌≤◌, ◌^◌, ◌==◌, ◌&&◌, ◌||◌, not, Bool, true, false, if◌then◌else◌, List, [], ◌∷◌, ◌++◌, length, slice_get, codes, Option, Some, None, IsSomeAnd, IsTrue, bytes_eq, refl, sym, ap, subst, ◌∙◌, arith, inl, inr}
use Rattle.std.specs.Option.{is_some}
use Rattle.std.proofs.lemmas.Option.{get_or_from_slice_get, slice_get_within}
use Rattle.std.proofs.lemmas.Bool.Decides.{Decides-eqb}
use Rattle.std.proofs.lemmas.List.{length-map}
use Rattle.tasks.specs.trees.declared.Sort.TheVariants.{Kind, List as ListSort}
use Rattle.tasks.specs.trees.Tree.{Tree, Leaf, One, Two, Three, Head, HTyVar, HTyRigid, HTyApp, HEnd, HCell, HNum, HTrue, HFalse, HArm, above_ty_vars}
use Rattle.tasks.specs.trees.Sorts.{sort_of, IsList, WellSorted, LeafFits}
use Rattle.tasks.proofs.trees.Types.{OnlyTypes, only_types}
use Rattle.tasks.specs.declared.signature.SymbolKind.TheVariants as kinds
use Rattle.tasks.specs.Task.{SymbolTree, symbol_or, int_symbol}
use Rattle.tasks.specs.Typing.{members, TypedUnder}
use Rattle.tasks.proofs.Closing.{typed_sorted}
use Rattle.linear_leaf.specs.Valuations.{same_tree}
use Rattle.linear_leaf.proofs.SameTree.{same_is}
use Rattle.printed_problems.specs.drivers.declared.driver_items.kinds.Piece.{Piece}
use Rattle.printed_problems.specs.drivers.driver_items.Syntaxes.{syntax_of}
use Rattle.printed_problems.specs.drivers.declared.driver_items.kinds.Syntax.TheVariants.{Smt}
use Rattle.name_tables.specs.declared.name_entries.names.NameEntry.{NameEntry}
use Rattle.name_tables.specs.Occurrences.{Occurrence, occurrence, whole_occurrence, in_type}
use Rattle.name_tables.specs.Tables.{is_same, occurrence_place, thing_of}
use Rattle.name_tables.specs.Seen.{has, AreIn}
use Rattle.name_tables.proofs.Gathering.{same_occurrence, same_itself}
use Rattle.printed_problems.specs.Templates.{template_of, has_template}
use Rattle.printed_problems.specs.Problems.{is_kind}
use Rattle.printed_problems.specs.printed_terms.Texts.{printed_name, text_of_entry, sort_text, by_template, printed_sort, name_at}
use Rattle.printed_problems.proofs.printed_terms.Members.{sort_members}
use Rattle.part_texts.specs.smt_law.Plain.{IsFreeWord, IsPlainWord, ArePlain, EqualityIsPlain, is_type, arity}
use Rattle.part_texts.proofs.smt_law.Forms.{Known, word_of}
use Rattle.part_texts.proofs.smt_law.Back.{first_where, at_none, is_called, is_type_called, is_symbol_called, is_rigid, type_at, type_called}
use Rattle.part_texts.proofs.smt_law.Words.{equals_free}
use Rattle.tasks.proofs.plain_laws.Bools.{and_first as and_left, and_second as and_right}
use Rattle.std.proofs.lemmas.Bool.{or_right, and_from as and_true}
use Rattle.tasks.proofs.plain_laws.Lists.{bytes_are as same_word, bytes_same as its_word}

abbrev pub IsThere : Known → Occurrence → Type 0
IsThere c o = has c.printing.things o ≡ true

-- a thing of the table has a name there, which is free and not `=`
pub record IsNamed (c : Known) (o : Occurrence) : Type 0 where
  pub named : NameEntry
  pub stands : slice_get c.printing.names (occurrence_place c.printing.things o) ≡ Some named
  pub free : IsFreeWord named.name
  pub no_equals : named.name ≢ codes "="

pub record IsReader (c : Known) : Type 0 where
  pub smt : syntax_of c.printing.driver.printer ≡ Smt
  pub plain : ArePlain c.printing.driver c.vocabulary.symbols c.printing.names c.words
  pub params : length c.params ≤ 2 ^ 64
  pub named : (o : Occurrence) → IsThere c o → IsNamed c o
  pub apart : (o q : Occurrence) → IsThere c o → IsThere c q → printed_name c.printing o ≡ printed_name c.printing q → o ≡ q
  pub rigid : (k : ℕ) → IsThere c (whole_occurrence k) → IsTrue (c.vocabulary.rigid k) → is_rigid c (whole_occurrence k) ≡ true
  pub usable : (k : ℕ) (types : Tree) → IsThere c (occurrence k types) → IsTrue (c.vocabulary.usable k) → is_rigid c (occurrence k types) ≡ false

-- ---- the first that passes
pub first_is : (test : Occurrence → Bool) (os : List Occurrence) (o : Occurrence) → has os o ≡ true → test o ≡ true → ((y : Occurrence) → has os y ≡ true → test y ≡ true → y ≡ o) → first_where test os ≡ o
first_is test [] o h t only = absurd (cc)
first_is test (x ∷ xs) o h t only = elim (test x) as (λ b. test x ≡ b → (if b then x else first_where test xs) ≡ o) [
  | true ↦ λ e. only x (ap (λ c. c || has xs x) (same_itself x)) e
  | false ↦ λ e. first_is test xs o (later e) t (λ y k. only y (or_right (is_same y x) (has xs y) k))
] refl
  where
    later : test x ≡ false → has xs o ≡ true
    later e = elim (is_same o x) as (λ b. is_same o x ≡ b → (b || has xs o) ≡ true → has xs o ≡ true) [
      | true ↦ λ s _. let q : true ≡ false = sym t ∙ ap test (same_occurrence o x s) ∙ e in absurd (cc)
      | false ↦ λ s k. k
    ] refl h

-- ---- the empty list of types
leaf_list : (h : Head) → LeafFits h → sort_of (Leaf h) ≡ ListSort → Leaf h ≡ Leaf HEnd
leaf_list HEnd f s = refl
leaf_list HCell f s = absurd f
leaf_list HArm f s = absurd f
leaf_list (HNum z) f s = absurd (cc)
leaf_list HTrue f s = absurd (cc)
leaf_list HFalse f s = absurd (cc)
leaf_list _ f s = absurd (cc)

one_list : (h : Head) (a : Tree) → (n : ℕ) → h ≡ HTyApp n → sort_of (One h a) ≡ ListSort → ⊥
one_list h a n e s = let k : Kind ≡ ListSort = sym (ap (λ (g : Head). sort_of (One g a)) e) ∙ s in cc

some_member : (h : Head) (a b : Tree) → h ≡ HCell → length (members (Two h a b)) ≡ 0 → ⊥
some_member h a b e n = let m : length (a ∷ members b) ≡ 0 = subst (λ (g : Head). length (members (Two g a b)) ≡ 0) e n in omega (arith, m)

empty_by : (e : Tree) → WellSorted e → OnlyTypes e → sort_of e ≡ ListSort → length (members e) ≡ 0 → e ≡ Leaf HEnd
empty_by (Leaf h) w o s n = leaf_list h w s
empty_by (One h a) w o s n = absurd (one_list h a o.0.0 o.0.1 s)
empty_by (Two h a b) w o s n = absurd (some_member h a b o.0 n)
empty_by (Three h a b c) w o s n = absurd o

pub empty_types : (e : Tree) → WellSorted e → IsList Kind e → length (members e) ≡ 0 → e ≡ Leaf HEnd
empty_types e w l n = empty_by e w (only_types e w (inr l)) l.0 n

none_same : (e : Tree) → e ≡ Leaf HEnd → same_tree e (Leaf HEnd) ≡ true
none_same e h = ap (λ (z : Tree). same_tree z (Leaf HEnd)) h

-- ---- what is in a table
pub in_first : (os xs ys : List Occurrence) → AreIn os (xs ++ ys) → AreIn os xs
in_first os [] ys h = tt
in_first os (x ∷ xs) ys h = (h.0, in_first os xs ys h.1)

pub in_rest : (os xs ys : List Occurrence) → AreIn os (xs ++ ys) → AreIn os ys
in_rest os [] ys h = h
in_rest os (x ∷ xs) ys h = in_rest os xs ys h.1

-- ---- the entry of a symbol
entry_by : (symbols : List SymbolTree) (k : ℕ) (P : SymbolTree → Type 0) (o : Option SymbolTree) → slice_get symbols k ≡ o → IsSomeAnd o P → P (symbol_or symbols k)
entry_by symbols k P None e h = absurd h
entry_by symbols k P (Some x) e h = subst P (sym (get_or_from_slice_get symbols k x int_symbol e)) h

pub entry_has : (symbols : List SymbolTree) (k : ℕ) (P : SymbolTree → Type 0) → IsSomeAnd (slice_get symbols k) P → P (symbol_or symbols k)
entry_has symbols k P h = entry_by symbols k P (slice_get symbols k) refl h

module _ (c : Known) (r : IsReader c) where
  -- ---- templates
  pub record HasPlain (k : ℕ) : Type 0 where
    pub vars : (symbol_or c.vocabulary.symbols k).vars ≡ 0
    pub word : IsPlainWord c.printing.names (c.words.of_symbol k)
    pub no_equals : c.words.of_symbol k ≢ codes "="

  plain_by : (k : ℕ) (t : Option (List Piece)) → template_of c.printing.driver k ≡ t → is_some t ≡ true → HasPlain k
  plain_by k None e h = absurd (cc)
  plain_by k (Some pieces) e h = let p = r.plain.each k pieces e in record { vars = p.vars; word = p.plain; no_equals = p.no_equality }

  pub has_plain : (k : ℕ) → has_template c.printing.driver k ≡ true → HasPlain k
  has_plain k h = plain_by k (template_of c.printing.driver k) refl h

  -- ---- words
  its_name : (o : Occurrence) (t : IsThere c o) → printed_name c.printing o ≡ (r.named o t).named.name
  its_name o t = ap text_of_entry (r.named o t).stands

  pub record IsPlainThing (o : Occurrence) : Type 0 where
    pub free : IsFreeWord (word_of c o)
    pub no_equals : word_of c o ≢ codes "="

  plain_thing_by : (o : Occurrence) → IsThere c o → (b : Bool) → has_template c.printing.driver o.symbol ≡ b
      → IsFreeWord (if b then c.words.of_symbol o.symbol else printed_name c.printing o) × ((if b then c.words.of_symbol o.symbol else printed_name c.printing o) ≢ codes "=")
  plain_thing_by o t true e = let p = has_plain o.symbol e in (p.word.free, p.no_equals)
  plain_thing_by o t false e = let n = r.named o t in (subst IsFreeWord (sym (its_name o t)) n.free, λ q. n.no_equals (sym (its_name o t) ∙ q))

  pub plain_thing : (o : Occurrence) → IsThere c o → IsPlainThing o
  plain_thing o t = let p = plain_thing_by o t (has_template c.printing.driver o.symbol) refl in record { free = p.0; no_equals = p.1 }

  -- a name of the table is no word of a template
  named_apart : (o : Occurrence) → IsThere c o → (w : List ℕ) → IsPlainWord c.printing.names w → w ≡ printed_name c.printing o → ⊥
  named_apart o t w p e =
      let n = r.named o t in
      let i = occurrence_place c.printing.things o in
      p.no_name i n.named (slice_get_within c.printing.names i n.named n.stands) (ap (λ (z : NameEntry). z.name) (get_or_from_slice_get c.printing.names i n.named n.named n.stands) ∙ sym (its_name o t) ∙ sym e)

  -- the word of equality
  equality_by : (t : Option (List Piece)) → EqualityIsPlain c.printing.names c.words.of_equality t → IsFreeWord c.words.of_equality
  equality_by None e = subst IsFreeWord (sym e) equals_free
  equality_by (Some pieces) e = e.1.free

  pub equality_free : IsFreeWord c.words.of_equality
  equality_free = equality_by c.printing.driver.eq_template r.plain.equality

  name_no_equality : (o : Occurrence) → IsThere c o → (t : Option (List Piece)) → EqualityIsPlain c.printing.names c.words.of_equality t → printed_name c.printing o ≢ c.words.of_equality
  name_no_equality o t None e q = (r.named o t).no_equals (sym (its_name o t) ∙ q ∙ e)
  name_no_equality o t (Some pieces) e q = named_apart o t c.words.of_equality e.1 (sym q)

  no_equality_by : (o : Occurrence) → IsThere c o → is_type c.vocabulary.symbols o.symbol ≡ false → arity c.vocabulary.symbols o.symbol ≡ 2 → (b : Bool) → has_template c.printing.driver o.symbol ≡ b
      → (if b then c.words.of_symbol o.symbol else printed_name c.printing o) ≢ c.words.of_equality
  no_equality_by o t k n true e = r.plain.apart o.symbol e k n
  no_equality_by o t k n false e = name_no_equality o t c.printing.driver.eq_template r.plain.equality

  -- no function or predicate on two arguments has it
  pub no_equality : (o : Occurrence) → IsThere c o → is_type c.vocabulary.symbols o.symbol ≡ false → arity c.vocabulary.symbols o.symbol ≡ 2 → word_of c o ≢ c.words.of_equality
  no_equality o t k n = no_equality_by o t k n (has_template c.printing.driver o.symbol) refl

  -- ---- two things with one word
  at_none_types : (o : Occurrence) → has_template c.printing.driver o.symbol ≡ true → at_none c o ≡ true → o.types ≡ Leaf HEnd
  at_none_types o h n = same_is o.types (Leaf HEnd) (sym (ap (λ b. not b || same_tree o.types (Leaf HEnd)) h) ∙ n)

  one_word : (y o : Occurrence) → IsThere c y → IsThere c o → at_none c y ≡ true → at_none c o ≡ true
      → is_type c.vocabulary.symbols y.symbol ≡ is_type c.vocabulary.symbols o.symbol
      → (has_template c.printing.driver y.symbol ≡ true → has_template c.printing.driver o.symbol ≡ true → arity c.vocabulary.symbols y.symbol ≡ arity c.vocabulary.symbols o.symbol)
      → (a b : Bool) → has_template c.printing.driver y.symbol ≡ a → has_template c.printing.driver o.symbol ≡ b
      → (if a then c.words.of_symbol y.symbol else printed_name c.printing y) ≡ (if b then c.words.of_symbol o.symbol else printed_name c.printing o) → y ≡ o
  one_word y o ty to ny mo k n true true e f w =
      let s = r.plain.differ y.symbol o.symbol e f k (n e f) w in
      let p = at_none_types y e ny ∙ sym (at_none_types o f mo) in
      (λ i. occurrence (s i) (p i))
  one_word y o ty to ny mo k n true false e f w = absurd (named_apart o to (c.words.of_symbol y.symbol) (has_plain y.symbol e).word w)
  one_word y o ty to ny mo k n false true e f w = absurd (named_apart y ty (c.words.of_symbol o.symbol) (has_plain o.symbol f).word (sym w))
  one_word y o ty to ny mo k n false false e f w = r.apart y o ty to w

  one_called : (w : List ℕ) (y o : Occurrence) → IsThere c y → IsThere c o → is_called c w y ≡ true → is_called c w o ≡ true
      → is_type c.vocabulary.symbols y.symbol ≡ is_type c.vocabulary.symbols o.symbol
      → (has_template c.printing.driver y.symbol ≡ true → has_template c.printing.driver o.symbol ≡ true → arity c.vocabulary.symbols y.symbol ≡ arity c.vocabulary.symbols o.symbol)
      → y ≡ o
  one_called w y o ty to hy ho k n =
      let wy = same_word w (word_of c y) (and_left (bytes_eq w (word_of c y)) (at_none c y) hy) in
      let wo = same_word w (word_of c o) (and_left (bytes_eq w (word_of c o)) (at_none c o) ho) in
      one_word y o ty to (and_right (bytes_eq w (word_of c y)) (at_none c y) hy) (and_right (bytes_eq w (word_of c o)) (at_none c o) ho) k n
      (has_template c.printing.driver y.symbol) (has_template c.printing.driver o.symbol) refl refl (sym wy ∙ wo)

  its_call : (o : Occurrence) → at_none c o ≡ true → is_called c (word_of c o) o ≡ true
  its_call o n = and_true (bytes_eq (word_of c o) (word_of c o)) (at_none c o) (its_word (word_of c o)) n

  -- type symbols with a template have no argument
  no_arity : (k : ℕ) → is_type c.vocabulary.symbols k ≡ true → has_template c.printing.driver k ≡ true → arity c.vocabulary.symbols k ≡ 0
  no_arity k t h = ap (λ b. if b then (symbol_or c.vocabulary.symbols k).vars else length (symbol_or c.vocabulary.symbols k).args) t ∙ (has_plain k h).vars

  pub type_found : (o : Occurrence) → IsThere c o → is_type c.vocabulary.symbols o.symbol ≡ true → at_none c o ≡ true → first_where (is_type_called c (word_of c o)) c.printing.things ≡ o
  type_found o t k n =
      first_is (is_type_called c (word_of c o)) c.printing.things o t (and_true (is_type c.vocabulary.symbols o.symbol) (is_called c (word_of c o) o) k (its_call o n)) (λ y ty h.
      let ky = and_left (is_type c.vocabulary.symbols y.symbol) (is_called c (word_of c o) y) h in
      one_called (word_of c o) y o ty t (and_right (is_type c.vocabulary.symbols y.symbol) (is_called c (word_of c o) y) h) (its_call o n) (ky ∙ sym k)
      (λ e f. no_arity y.symbol ky e ∙ sym (no_arity o.symbol k f)))

  not_true : (b : Bool) → not b ≡ true → b ≡ false
  not_true true h = absurd (cc)
  not_true false h = refl

  pub symbol_found : (o : Occurrence) (n : ℕ) → IsThere c o → is_type c.vocabulary.symbols o.symbol ≡ false → arity c.vocabulary.symbols o.symbol ≡ n → at_none c o ≡ true
      → first_where (is_symbol_called c (word_of c o) n) c.printing.things ≡ o
  symbol_found o n t k a z =
      let w = word_of c o in
      let as_many = (Decides-eqb (arity c.vocabulary.symbols o.symbol) n).1 a in
      first_is (is_symbol_called c w n) c.printing.things o t
      (and_true (not (is_type c.vocabulary.symbols o.symbol)) ((arity c.vocabulary.symbols o.symbol == n) && is_called c w o) (ap not k) (and_true (arity c.vocabulary.symbols o.symbol == n) (is_called c w o) as_many (its_call o z))) (λ y ty h.
      let ky = not_true (is_type c.vocabulary.symbols y.symbol) (and_left (not (is_type c.vocabulary.symbols y.symbol)) ((arity c.vocabulary.symbols y.symbol == n) && is_called c w y) h) in
      let more = and_right (not (is_type c.vocabulary.symbols y.symbol)) ((arity c.vocabulary.symbols y.symbol == n) && is_called c w y) h in
      let ay = (Decides-eqb (arity c.vocabulary.symbols y.symbol) n).0 (and_left (arity c.vocabulary.symbols y.symbol == n) (is_called c w y) more) in
      one_called w y o ty t (and_right (arity c.vocabulary.symbols y.symbol == n) (is_called c w y) more) (its_call o z) (ky ∙ sym k) (λ e f. ay ∙ sym a))

  -- what is at as many types as its symbol has variables is at none where that has a template
  pub at_none_by : (k : ℕ) (types : Tree) → WellSorted types → IsList Kind types → length (members types) ≡ (symbol_or c.vocabulary.symbols k).vars → at_none c (occurrence k types) ≡ true
  at_none_by k types w l n = elim (has_template c.printing.driver k) as (λ b. has_template c.printing.driver k ≡ b → (not b || same_tree types (Leaf HEnd)) ≡ true) [
    | true ↦ λ e. none_same types (empty_types types w l (n ∙ (has_plain k e).vars))
    | false ↦ λ e. refl
  ] refl

  -- ---- types
  -- a type as its sort: the word, and what a reader makes of it
  pub record IsSort (type : Tree) : Type 0 where
    pub text : sort_text c.printing type ≡ word_of c (thing_of type)
    pub free : IsFreeWord (word_of c (thing_of type))
    pub told : type_called c (word_of c (thing_of type)) ≡ type

  sort_by_is : (k place : ℕ) (args : List (List ℕ)) (t : Option (List Piece)) → template_of c.printing.driver k ≡ t → (is_some t ≡ true → length args ≡ 0) → is_type c.vocabulary.symbols k ≡ true
      → by_template t args (name_at c.printing place) ≡ (if is_some t then c.words.of_symbol k else name_at c.printing place)
  sort_by_is k place args None e n ty = refl
  sort_by_is k place [] (Some pieces) e n ty =
      let p = r.plain.each k pieces e in
      p.shape [] (sym (no_arity k ty (ap is_some e)))
  sort_by_is k place (x ∷ xs) (Some pieces) e n ty = let m = n refl in absurd (omega (arith, m))

  rigid_sort : (k : ℕ) → IsThere c (whole_occurrence k) → IsTrue (c.vocabulary.rigid k) → is_type c.vocabulary.symbols k ≡ true → IsSort (Leaf (HTyRigid k))
  rigid_sort k t v ty =
      let found = type_found (whole_occurrence k) t ty (or_right (not (has_template c.printing.driver k)) true refl) in
      record {
        text = sort_by_is k (occurrence_place c.printing.things (whole_occurrence k)) [] (template_of c.printing.driver k) refl (λ _. refl) ty;
        free = (plain_thing (whole_occurrence k) t).free;
        told = ap (type_at c) found ∙ ap (λ b. if b then Leaf (HTyRigid k) else One (HTyApp k) (Leaf HEnd)) (r.rigid k t v);
      }

  symbol_sort : (k : ℕ) (args : Tree) → IsThere c (occurrence k args) → IsTrue (c.vocabulary.usable k) → is_type c.vocabulary.symbols k ≡ true
      → WellSorted args → IsList Kind args → length (members args) ≡ (symbol_or c.vocabulary.symbols k).vars → IsSort (One (HTyApp k) args)
  symbol_sort k args t u ty w l n =
      let found = type_found (occurrence k args) t ty (at_none_by k args w l n) in
      let texts : length (printed_sort c.printing args).members ≡ length (members args) = ap length (sort_members c.printing args) ∙ length-map (members args) (sort_text c.printing) in
      record {
        text = sort_by_is k (occurrence_place c.printing.things (occurrence k args)) (printed_sort c.printing args).members (template_of c.printing.driver k) refl (λ h. texts ∙ n ∙ (has_plain k h).vars) ty;
        free = (plain_thing (occurrence k args) t).free;
        told = ap (type_at c) found ∙ ap (λ b. if b then Leaf (HTyRigid k) else One (HTyApp k) args) (r.usable k args t u);
      }

  leaf_sort_is : (types : List Tree) (h : Head) → TypedUnder c.vocabulary types (Leaf h) → sort_of (Leaf h) ≡ Kind → above_ty_vars (Leaf h) ≡ 0 → AreIn c.printing.things (in_type (Leaf h)) → IsSort (Leaf h)
  leaf_sort_is types (HTyVar j) x s g t = absurd (omega (arith, g))
  leaf_sort_is types (HTyRigid k) x s g t =
      let e = entry_has c.vocabulary.symbols k (λ e. (e.kind ≡ kinds.Kind) × (e.vars ≡ 0)) x.1.1 in
      rigid_sort k t.0 x.1.0 (ap is_kind e.0)
  leaf_sort_is types HEnd x s g t = absurd (cc)
  leaf_sort_is types (HNum z) x s g t = absurd (cc)
  leaf_sort_is types HTrue x s g t = absurd (cc)
  leaf_sort_is types HFalse x s g t = absurd (cc)
  leaf_sort_is types _ x s g t = absurd x.0

  one_sort_is : (types : List Tree) (h : Head) (a : Tree) → OnlyTypes (One h a) → TypedUnder c.vocabulary types (One h a) → AreIn c.printing.things (in_type (One h a)) → IsSort (One h a)
  one_sort_is types (HTyApp k) a o x t =
      let e = entry_has c.vocabulary.symbols k (λ e. (e.kind ≡ kinds.Kind) × (length (members a) ≡ e.vars)) x.1.1 in
      symbol_sort k a (in_rest c.printing.things (in_type a) (occurrence k a ∷ []) t).0 x.1.0 (ap is_kind e.0) (typed_sorted c.vocabulary types a x.2) x.0 e.1
  one_sort_is types _ a o x t = let e = o.0.1 in absurd (cc)

  two_no_sort : (h : Head) (a b : Tree) → h ≡ HCell → sort_of (Two h a b) ≡ Kind → ⊥
  two_no_sort h a b e s = let k : ListSort ≡ Kind = sym (ap (λ (g : Head). sort_of (Two g a b)) e) ∙ s in cc

  pub sort_is : (types : List Tree) (e : Tree) → TypedUnder c.vocabulary types e → sort_of e ≡ Kind → above_ty_vars e ≡ 0 → AreIn c.printing.things (in_type e) → IsSort e
  sort_is types (Leaf h) x s g t = leaf_sort_is types h x s g t
  sort_is types (One h a) x s g t = one_sort_is types h a (only_types (One h a) (typed_sorted c.vocabulary types (One h a) x) (inl s)) x t
  sort_is types (Two h a b) x s g t = absurd (two_no_sort h a b (only_types (Two h a b) (typed_sorted c.vocabulary types (Two h a b) x) (inl s)).0 s)
  sort_is types (Three h a b d) x s g t = absurd (only_types (Three h a b d) (typed_sorted c.vocabulary types (Three h a b d) x) (inl s))
