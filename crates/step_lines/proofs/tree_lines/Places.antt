-- The places of the entries by their names.
use Rattle.std.proofs.Common.{◌≡◌, ℕ, ◌+◌, ◌-◌, ◌<◌, ◌≤◌, Bool, true, false, cond, List, ◌∷◌, length, get_or, drop, Option, Some, Vec, slice_get, sym, refl, ap, ◌∙◌, arith}
use Rattle.std.proofs.lemmas.List.{drop_more}
use Rattle.std.proofs.lemmas.Option.{slice_get_read}
use Rattle.std.specs.Option.{option_and_then}
use Rattle.std.specs.HashMap.{HashMap, get_by, UpdatesBy}
use Rattle.std.specs.Map.{lookup, IsKeyTest, AreApart, KeepsOthers}
use Rattle.std.specs.Cmp.Lexicographic.{nat_list_eq_equiv}
use Rattle.std.specs.Str.{bytes_eq}
use Rattle.std.proofs.lemmas.Slice.Eq.{bytes_eq-Decides}
use Rattle.name_tables.specs.declared.name_entries.names.NameEntry.{NameEntry}
use Rattle.step_lines.specs.tree_lines.Named.{entry_named}
use Rattle.tasks.proofs.plain_laws.Lists.{bytes_apart as apart, bytes_are as bytes_eq_is, other_entries}

-- what a map has at a name, after a change at one
updates_name : {Y X S : Type 0} (name : List ℕ) (old new : HashMap (Vec ℕ Y) X S) (w : Option X) → UpdatesBy (λ x y. bytes_eq x.items y.items) (λ k. bytes_eq name k.items) old new w
    → (q : List ℕ) → get_by (λ k. bytes_eq q k.items) new ≡ cond (bytes_eq name q) w (get_by (λ k. bytes_eq q k.items) old)
updates_name name old new w h q = at (bytes_eq name q) refl where
  at : (b : Bool) → bytes_eq name q ≡ b → get_by (λ k. bytes_eq q k.items) new ≡ cond b w (get_by (λ k. bytes_eq q k.items) old)
  at true same = ap (λ (n : List ℕ). get_by (λ k. bytes_eq n k.items) new) (sym (bytes_eq_is name q same)) ∙ h.1
  at false differs = other_entries (λ x y. bytes_eq x.items y.items) (λ k. bytes_eq name k.items) old.entries new.entries h.3 (λ k. bytes_eq q k.items) (λ x y. nat_list_eq_equiv.congr q x.items y.items) (λ k. apart name q k.items differs)

first_or : (table : List NameEntry) (i : ℕ) (n : NameEntry) (b : Bool) (old : Option ℕ) (rest : List NameEntry) (q : List ℕ) → slice_get table i ≡ Some n → option_and_then (slice_get table) old ≡ entry_named rest q
    → option_and_then (slice_get table) (cond b (Some i) old) ≡ cond b (Some n) (entry_named rest q)
first_or table i n true old rest q e h = e
first_or table i n false old rest q e h = h

-- one entry more, before those so far
pub entry_more : {Y S : Type 0} (table : List NameEntry) (i : ℕ) (n : NameEntry) (old new : HashMap (Vec ℕ Y) ℕ S) (name : List ℕ) → 0 < i → i ≤ length table → n ≡ get_or table (i - 1) n → name ≡ n.name → UpdatesBy (λ x y. bytes_eq x.items y.items) (λ k. bytes_eq name k.items) old new (Some (i - 1))
    → (q : List ℕ) → option_and_then (slice_get table) (get_by (λ k. bytes_eq q k.items) old) ≡ entry_named (drop i table) q
    → option_and_then (slice_get table) (get_by (λ k. bytes_eq q k.items) new) ≡ entry_named (drop (i - 1) table) q
entry_more table i n old new name some within is named u q h =
    let lt : i - 1 < length table = omega arith in
    let back : i - 1 + 1 ≡ i = omega arith in
    let cut : drop (i - 1) table ≡ n ∷ drop i table = drop_more table (i - 1) n lt ∙ ap (λ m. m ∷ drop (i - 1 + 1) table) (sym is) ∙ ap (λ k. n ∷ drop k table) back in
    let there : slice_get table (i - 1) ≡ Some n = slice_get_read table (length table) (i - 1) n refl lt is in
    ap (option_and_then (slice_get table)) (updates_name name old new (Some (i - 1)) u q)
    ∙ first_or table (i - 1) n (bytes_eq name q) (get_by (λ k. bytes_eq q k.items) old) (drop i table) q there h
    ∙ ap (λ m. cond (bytes_eq m q) (Some n) (entry_named (drop i table) q)) named
    ∙ ap (λ ns. entry_named ns q) (sym cut)
