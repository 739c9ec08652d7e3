-- Lists of entries as they grow by one, and the map beside them.
use Rattle.std.proofs.Common.{◌≡◌, ℕ, ◌+◌, ◌-◌, Bool, true, false, cond, ◌&&◌, ◌||◌, List, [], ◌∷◌, ◌++◌, length, drop, map, Option, Some, None, Vec, sym, refl, ap, ◌∙◌, arith, append_assoc}
use Rattle.std.proofs.lemmas.Grind.{common_steps}
use Rattle.std.specs.HashMap.{HashMap, get_by, UpdatesBy}
use Rattle.std.specs.Map.{lookup, IsKeyTest, AreApart, KeepsOthers}
use Rattle.std.specs.Cmp.Lexicographic.{nat_list_eq_equiv}
use Rattle.std.specs.Str.{bytes_eq}
use Rattle.std.proofs.lemmas.Slice.Eq.{bytes_eq-Decides}
use Rattle.scopes.specs.declared.Table.{Table}
use Rattle.scopes.specs.declared.Table.TheVariants.{Types, Symbols, Propositions, Scopes}
use Rattle.scopes.specs.declared.entries.Meaning.{Meaning}
use Rattle.scopes.specs.declared.entries.Meanings.{Meanings}
use Rattle.scopes.specs.declared.entries.Stored.{Stored}
use Rattle.scopes.specs.declared.entries.Item.{Item}
use Rattle.scopes.specs.Names.{TypeName, ScopeEntry, is_named, same_table, latest, is_declared, imported}
use Rattle.scopes.specs.Kept.{stored_entry, entries_before, latest_first, brought_entry, brought_before, was_declared, meaning_thing, with_meaning, latest_meaning, meaning_in, stored_meaning, KeepBefore, meanings_of, IsKeptMap}
use Rattle.plain_laws.proofs.Lists.{bytes_apart as apart, bytes_are as bytes_eq_is, bytes_same as bytes_eq_refl, other_entries}

pub same_table_is : (t u : Table) → same_table t u ≡ true → t ≡ u
same_table_is Types Types h = refl
same_table_is Symbols Symbols h = refl
same_table_is Propositions Propositions h = refl
same_table_is Scopes Scopes h = refl
same_table_is Types Symbols h = cc
same_table_is Types Propositions h = cc
same_table_is Types Scopes h = cc
same_table_is Symbols Types h = cc
same_table_is Symbols Propositions h = cc
same_table_is Symbols Scopes h = cc
same_table_is Propositions Types h = cc
same_table_is Propositions Symbols h = cc
same_table_is Propositions Scopes h = cc
same_table_is Scopes Types h = cc
same_table_is Scopes Symbols h = cc
same_table_is Scopes Propositions h = cc

pub same_table_refl : (t : Table) → same_table t t ≡ true
same_table_refl Types = refl
same_table_refl Symbols = refl
same_table_refl Propositions = refl
same_table_refl Scopes = refl

thing_at : (b : Bool) (e : ScopeEntry) (m : Option Meaning) (rest : Option TypeName) → meaning_thing m ≡ rest → meaning_thing (cond b (with_meaning e m) m) ≡ cond b (Some e.thing) rest
thing_at true e m rest h = refl
thing_at false e m rest h = h

pub thing_of-meaning : (t : Table) (n : List ℕ) (es : List ScopeEntry) → meaning_thing (latest_meaning t n es) ≡ latest t n es
thing_of-meaning t n [] = refl
thing_of-meaning t n (e ∷ es) = thing_at (is_named t n e) e (latest_meaning t n es) (latest t n es) (thing_of-meaning t n es)

declared_at : (b : Bool) (e : ScopeEntry) (m : Option Meaning) (rest : Bool) → was_declared m ≡ rest → was_declared (cond b (with_meaning e m) m) ≡ ((b && e.declared) || rest)
declared_at true e m rest h = ap (λ (d : Bool). e.declared || d) h
declared_at false e m rest h = h

pub was_declared-meaning : (t : Table) (n : List ℕ) (es : List ScopeEntry) → was_declared (latest_meaning t n es) ≡ is_declared t n es
was_declared-meaning t n [] = refl
was_declared-meaning t n (e ∷ es) = declared_at (is_named t n e) e (latest_meaning t n es) (is_declared t n es) (was_declared-meaning t n es)

pub entries_before-snoc : (es : List ScopeEntry) (xs : List Stored) (x : Stored) → entries_before es (xs ++ x ∷ []) ≡ stored_entry x ∷ entries_before es xs
entries_before-snoc es [] x = refl
entries_before-snoc es (y ∷ ys) x = entries_before-snoc (stored_entry y ∷ es) ys x

pub length-entries_before : (es : List ScopeEntry) (xs : List Stored) → length (entries_before es xs) ≡ length xs + length es
length-entries_before es [] = omega arith
length-entries_before es (y ∷ ys) = omega (arith, length-entries_before (stored_entry y ∷ es) ys)

pub length-latest_first : (xs : List Stored) → length (latest_first xs) ≡ length xs
length-latest_first xs = omega (arith, length-entries_before [] xs)

pub brought_before-snoc : (es : List ScopeEntry) (xs : List Item) (x : Item) → brought_before es (xs ++ x ∷ []) ≡ brought_entry x ∷ brought_before es xs
brought_before-snoc es [] x = refl
brought_before-snoc es (y ∷ ys) x = brought_before-snoc (brought_entry y ∷ es) ys x

-- a further item, in the form of the loop that makes the items
pub items_more : (xs old : List Stored) (items new : List Item) (x : Stored) (it : Item)
    → xs ≡ old ++ x ∷ [] → new ≡ items ++ it ∷ [] → brought_entry it ≡ imported (stored_entry x)
    → ((more : List ScopeEntry) → brought_before more items ≡ map imported (latest_first old) ++ more)
    → (more : List ScopeEntry) → brought_before more new ≡ map imported (latest_first xs) ++ more
items_more xs old items new x it is_xs is_new same before more =
    ap (brought_before more) is_new ∙ brought_before-snoc more items it ∙ ap (λ (e : ScopeEntry). e ∷ brought_before more items) same
    ∙ ap (λ (es : List ScopeEntry). imported (stored_entry x) ∷ es) (before more)
    ∙ sym (ap (λ (es : List ScopeEntry). map imported es ++ more) (ap latest_first is_xs ∙ entries_before-snoc [] old x))

-- the list without its last element
pub popped : (stored xs : List Stored) (x : Stored) (now : List ScopeEntry) → stored ≡ xs ++ x ∷ [] → latest_first stored ≡ now → latest_first xs ≡ drop 1 now
popped stored xs x now is_stored is_now =
    let whole : stored_entry x ∷ latest_first xs ≡ now = sym (entries_before-snoc [] xs x) ∙ ap latest_first (sym is_stored) ∙ is_now in
    let first : drop 1 (stored_entry x ∷ latest_first xs) ≡ latest_first xs = refl in
    sym first ∙ ap (drop 1) whole

pub keep_before-snoc : (es : List ScopeEntry) (xs : List Stored) (x : Stored) → KeepBefore es xs → x.before ≡ latest_meaning x.table x.name.items (entries_before es xs) → KeepBefore es (xs ++ x ∷ [])
keep_before-snoc es [] x h b = (b, tt)
keep_before-snoc es (y ∷ ys) x h b = (h.0, keep_before-snoc (stored_entry y ∷ es) ys x h.1 b)

pub keep_before-front : (es : List ScopeEntry) (xs : List Stored) (x : Stored) → KeepBefore es (xs ++ x ∷ []) → KeepBefore es xs
keep_before-front es [] x h = tt
keep_before-front es (y ∷ ys) x h = (h.0, keep_before-front (stored_entry y ∷ es) ys x h.1)

pub keep_before-last : (es : List ScopeEntry) (xs : List Stored) (x : Stored) → KeepBefore es (xs ++ x ∷ []) → x.before ≡ latest_meaning x.table x.name.items (entries_before es xs)
keep_before-last es [] x h = h.0
keep_before-last es (y ∷ ys) x h = keep_before-last (stored_entry y ∷ es) ys x h.1

pub length-brought_before : (es : List ScopeEntry) (xs : List Item) → length (brought_before es xs) ≡ length xs + length es
length-brought_before es [] = omega arith
length-brought_before es (y ∷ ys) = omega (arith, length-brought_before (brought_entry y ∷ es) ys)

brought_before-append : (es : List ScopeEntry) (xs : List Item) → brought_before es xs ≡ brought_before [] xs ++ es
brought_before-append es [] = refl
brought_before-append es (y ∷ ys) =
    let one : brought_before (brought_entry y ∷ []) ys ≡ brought_before [] ys ++ brought_entry y ∷ [] = brought_before-append (brought_entry y ∷ []) ys in
    brought_before-append (brought_entry y ∷ es) ys ∙ sym (append_assoc (brought_before [] ys) (brought_entry y ∷ []) es) ∙ ap (λ l. l ++ es) (sym one)

drop-append-rest : (p es : List ScopeEntry) → drop (length (p ++ es) - length es) (p ++ es) ≡ es
drop-append-rest p es = grind (arith, common_steps)

pub drop-brought_before : (es : List ScopeEntry) (xs : List Item) → drop (length (brought_before es xs) - length es) (brought_before es xs) ≡ es
drop-brought_before es xs = rw (brought_before-append es xs) (drop-append-rest (brought_before [] xs) es)

-- what a map has at a name, after a change at one
pub updates_name : {Y X S : Type 0} (name : List ℕ) (old new : HashMap (Vec ℕ Y) X S) (w : Option X) → UpdatesBy (λ x y. bytes_eq x.items y.items) (λ k. bytes_eq name k.items) old new w
    → (q : List ℕ) → get_by (λ k. bytes_eq q k.items) new ≡ cond (bytes_eq name q) w (get_by (λ k. bytes_eq q k.items) old)
updates_name name old new w h q = at (bytes_eq name q) refl where
  at : (b : Bool) → bytes_eq name q ≡ b → get_by (λ k. bytes_eq q k.items) new ≡ cond b w (get_by (λ k. bytes_eq q k.items) old)
  at true same = ap (λ (n : List ℕ). get_by (λ k. bytes_eq n k.items) new) (sym (bytes_eq_is name q same)) ∙ h.1
  at false differs = other_entries (λ x y. bytes_eq x.items y.items) (λ k. bytes_eq name k.items) old.entries new.entries h.3 (λ k. bytes_eq q k.items) (λ x y. nat_list_eq_equiv.congr q x.items y.items) (λ k. apart name q k.items differs)

module _ {Y S : Type 0} where
  -- the meaning at a name, where the map changed at one
  changed : (x : Stored) (q : List ℕ) (old new : HashMap (Vec ℕ Y) Meanings S) (next : Meanings) → meanings_of new q ≡ cond (bytes_eq x.name.items q) (Some next) (meanings_of old q) → (t : Table) → stored_meaning t (meanings_of new q) ≡ cond (bytes_eq x.name.items q) (meaning_in t next) (stored_meaning t (meanings_of old q))
  changed x q old new next e t = rw e (at (bytes_eq x.name.items q)) where
    at : (b : Bool) → stored_meaning t (cond b (Some next) (meanings_of old q)) ≡ cond b (meaning_in t next) (stored_meaning t (meanings_of old q))
    at true = refl
    at false = refl

  -- a further entry
  pub kept_push : (xs : List Stored) (x : Stored) (old new : HashMap (Vec ℕ Y) Meanings S) (known next : Meanings)
      → IsKeptMap xs old
      → ((t : Table) → meaning_in t known ≡ latest_meaning t x.name.items (latest_first xs))
      → ((t : Table) → meaning_in t next ≡ cond (same_table t x.table) (with_meaning (stored_entry x) x.before) (meaning_in t known))
      → x.before ≡ meaning_in x.table known
      → ((q : List ℕ) → meanings_of new q ≡ cond (bytes_eq x.name.items q) (Some next) (meanings_of old q))
      → IsKeptMap (xs ++ x ∷ []) new
  kept_push xs x old new known next kept is_known is_next is_before updates = record {
    meanings = λ t q. changed x q old new next (updates q) t ∙ step t q (bytes_eq x.name.items q) (same_table t x.table) refl refl ∙ ap (latest_meaning t q) (sym (entries_before-snoc [] xs x));
    before = keep_before-snoc [] xs x kept.before (is_before ∙ is_known x.table);
  } where
    step : (t : Table) (q : List ℕ) (b s : Bool) → bytes_eq x.name.items q ≡ b → same_table t x.table ≡ s
        → cond b (meaning_in t next) (stored_meaning t (meanings_of old q)) ≡ cond (s && b) (with_meaning (stored_entry x) (latest_meaning t q (latest_first xs))) (latest_meaning t q (latest_first xs))
    step t q true true hb hs =
        let same_name : x.name.items ≡ q = bytes_eq_is _ _ hb in
        let same : t ≡ x.table = same_table_is _ _ hs in
        is_next t ∙ ap (λ (s : Bool). cond s (with_meaning (stored_entry x) x.before) (meaning_in t known)) hs
        ∙ ap (with_meaning (stored_entry x)) (is_before ∙ is_known x.table ∙ ap (λ (u : Table). latest_meaning u x.name.items (latest_first xs)) (sym same) ∙ ap (λ (n : List ℕ). latest_meaning t n (latest_first xs)) same_name)
    step t q true false hb hs =
        let same_name : x.name.items ≡ q = bytes_eq_is _ _ hb in
        is_next t ∙ ap (λ (s : Bool). cond s (with_meaning (stored_entry x) x.before) (meaning_in t known)) hs ∙ is_known t ∙ ap (λ (n : List ℕ). latest_meaning t n (latest_first xs)) same_name
    step t q false true hb hs = kept.meanings t q
    step t q false false hb hs = kept.meanings t q

  -- the last entry goes
  pub kept_pop : (xs : List Stored) (x : Stored) (old new : HashMap (Vec ℕ Y) Meanings S) (known next : Meanings)
      → IsKeptMap (xs ++ x ∷ []) old
      → meanings_of old x.name.items ≡ Some known
      → ((t : Table) → meaning_in t next ≡ cond (same_table t x.table) x.before (meaning_in t known))
      → ((q : List ℕ) → meanings_of new q ≡ cond (bytes_eq x.name.items q) (Some next) (meanings_of old q))
      → IsKeptMap xs new
  kept_pop xs x old new known next kept is_known is_next updates = record {
    meanings = λ t q. changed x q old new next (updates q) t ∙ step t q (bytes_eq x.name.items q) (same_table t x.table) refl refl;
    before = keep_before-front [] xs x kept.before;
  } where
    old_at : (t : Table) (q : List ℕ) → stored_meaning t (meanings_of old q) ≡ latest_meaning t q (stored_entry x ∷ latest_first xs)
    old_at t q = kept.meanings t q ∙ ap (latest_meaning t q) (entries_before-snoc [] xs x)

    step : (t : Table) (q : List ℕ) (b s : Bool) → bytes_eq x.name.items q ≡ b → same_table t x.table ≡ s
        → cond b (meaning_in t next) (stored_meaning t (meanings_of old q)) ≡ latest_meaning t q (latest_first xs)
    step t q true true hb hs =
        let same_name : x.name.items ≡ q = bytes_eq_is _ _ hb in
        let same : t ≡ x.table = same_table_is _ _ hs in
        is_next t ∙ ap (λ (s : Bool). cond s x.before (meaning_in t known)) hs
        ∙ keep_before-last [] xs x kept.before ∙ ap (λ (u : Table). latest_meaning u x.name.items (latest_first xs)) (sym same) ∙ ap (λ (n : List ℕ). latest_meaning t n (latest_first xs)) same_name
    step t q true false hb hs =
        let same_name : x.name.items ≡ q = bytes_eq_is _ _ hb in
        is_next t ∙ ap (λ (s : Bool). cond s x.before (meaning_in t known)) hs
        ∙ sym (ap (stored_meaning t) is_known) ∙ old_at t x.name.items
        ∙ ap (λ (s : Bool). cond (s && bytes_eq x.name.items x.name.items) (with_meaning (stored_entry x) (latest_meaning t x.name.items (latest_first xs))) (latest_meaning t x.name.items (latest_first xs))) hs
        ∙ ap (λ (n : List ℕ). latest_meaning t n (latest_first xs)) same_name
    step t q false true hb hs = old_at t q ∙ ap (λ (s : Bool). cond (s && bytes_eq x.name.items q) (with_meaning (stored_entry x) (latest_meaning t q (latest_first xs))) (latest_meaning t q (latest_first xs))) hs
        ∙ ap (λ (b : Bool). cond b (with_meaning (stored_entry x) (latest_meaning t q (latest_first xs))) (latest_meaning t q (latest_first xs))) hb
    step t q false false hb hs = old_at t q ∙ ap (λ (s : Bool). cond (s && bytes_eq x.name.items q) (with_meaning (stored_entry x) (latest_meaning t q (latest_first xs))) (latest_meaning t q (latest_first xs))) hs

  -- the name of an entry has a meaning
  pub kept_present : (xs : List Stored) (x : Stored) (old : HashMap (Vec ℕ Y) Meanings S) → IsKeptMap (xs ++ x ∷ []) old → meanings_of old x.name.items ≡ None → ⊥
  kept_present xs x old kept absent =
      let names = x.name.items in
      let named : is_named x.table x.name.items (stored_entry x) ≡ true = ap (λ (s : Bool). s && bytes_eq x.name.items x.name.items) (same_table_refl x.table) ∙ bytes_eq_refl x.name.items in
      let there : stored_meaning x.table (meanings_of old x.name.items) ≡ latest_meaning x.table x.name.items (stored_entry x ∷ latest_first xs) = kept.meanings x.table x.name.items ∙ ap (latest_meaning x.table x.name.items) (entries_before-snoc [] xs x) in
      let some : latest_meaning x.table x.name.items (stored_entry x ∷ latest_first xs) ≡ with_meaning (stored_entry x) (latest_meaning x.table x.name.items (latest_first xs)) = ap (λ (b : Bool). cond b (with_meaning (stored_entry x) (latest_meaning x.table x.name.items (latest_first xs))) (latest_meaning x.table x.name.items (latest_first xs))) named in
      let none : stored_meaning x.table (meanings_of old x.name.items) ≡ None = ap (stored_meaning x.table) absent in
      cc
