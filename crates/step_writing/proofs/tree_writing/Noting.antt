-- The places of names, by symbols and lists of types.
use Rattle.std.proofs.Common.{◌≡◌, ℕ, zero, suc, ◌+◌, ◌<◌, ◌⊎◌, inl, inr, Bool, true, false, cond, List, [], ◌∷◌, length, get_or, Option, Some, None, IsSome, IfSome, slice_get, sym, refl, ap, subst, ◌∙◌, arith}
use Rattle.std.specs.Option.{option_map, option_and_then}
use Rattle.std.specs.Str.{bytes_eq}
use Rattle.std.specs.HashMap.{HashMap, get}
use Rattle.std.proofs.lemmas.Slice.Eq.{bytes_eq-Decides}
use Rattle.tasks.specs.trees.declared.TermId.{TermId}
use Rattle.tasks.specs.trees.Tree.{Tree, Leaf, HEnd}
use Rattle.tasks.specs.trees.Node.{tree_at, Holds, Grows}
use Rattle.tasks.proofs.Growth.{held_later, tree_later}
use Rattle.name_tables.specs.declared.name_entries.names.NameOf.{NameOf}
use Rattle.name_tables.specs.declared.name_entries.names.NameOf.TheVariants.{Int, Rigid, Symbol}
use Rattle.name_tables.specs.declared.name_entries.names.NameEntry.{NameEntry}
use Rattle.step_lines.specs.tree_lines.Named.{NameMeaning, meaning, meaning_by, entry_meaning, entry_named, cells}
use Rattle.step_writing.specs.declared.tree_writing.spelling.Spelling.{Spelling}
use Rattle.step_writing.specs.tree_writing.Spelt.{Key, key_of, same_key, IsPlaceNoted, IsReached, AreNoted, IsSpelt, Spells}
use Rattle.tasks.proofs.plain_laws.Options.{same_some as some_place}

same_key_is : (p q : Key) → same_key p q ≡ true → (p.0 ≡ q.0) × (p.1 ≡ q.1) × (p.2 ≡ q.2)
same_key_is p q h = (grind arith, grind arith, grind arith)

same_key_self : (p : Key) → same_key p p ≡ true
same_key_self p = grind arith

whole_key : (p q : Key) → (p.0 ≡ q.0) × (p.1 ≡ q.1) × (p.2 ≡ q.2) → p ≡ q
whole_key p q h = ap (λ (x : ℕ). (x, p.1, p.2)) h.0 ∙ ap (λ (y : ℕ). (q.0, y, p.2)) h.1 ∙ ap (λ (z : ℕ). (q.0, q.1, z)) h.2

pub key_parts : (a b : NameOf) (i j : ℕ) → key_of a i ≡ key_of b j → (a ≡ b) × (i ≡ j)
key_parts Int Int i j e = (refl, ap (λ (k : Key). k.2) e)
key_parts Int (Rigid l) i j e = absurd (omega (arith, ap (λ (k : Key). k.0) e))
key_parts Int (Symbol l) i j e = absurd (omega (arith, ap (λ (k : Key). k.0) e))
key_parts (Rigid k) Int i j e = absurd (omega (arith, ap (λ (k : Key). k.0) e))
key_parts (Rigid k) (Rigid l) i j e = (ap Rigid (ap (λ (k : Key). k.1) e), ap (λ (k : Key). k.2) e)
key_parts (Rigid k) (Symbol l) i j e = absurd (omega (arith, ap (λ (k : Key). k.0) e))
key_parts (Symbol k) Int i j e = absurd (omega (arith, ap (λ (k : Key). k.0) e))
key_parts (Symbol k) (Rigid l) i j e = absurd (omega (arith, ap (λ (k : Key). k.0) e))
key_parts (Symbol k) (Symbol l) i j e = (ap Symbol (ap (λ (k : Key). k.1) e), ap (λ (k : Key). k.2) e)

-- lists with the same cells are the same
pub cells_parts : (xs ys : List Tree) → cells xs ≡ cells ys → xs ≡ ys
cells_parts [] [] e = refl
cells_parts [] (y ∷ ys) e = absurd (cc)
cells_parts (x ∷ xs) [] e = absurd (cc)
cells_parts (x ∷ xs) (y ∷ ys) e =
    let first : x ≡ y = cc in
    let rest : cells xs ≡ cells ys = cc in
    ap (λ z. z ∷ xs) first ∙ ap (λ zs. y ∷ zs) (cells_parts xs ys rest)

pub no_cells : (xs : List Tree) → cells xs ≡ Leaf HEnd → xs ≡ []
no_cells xs e = cells_parts xs [] e

some_entry : (i j : NameEntry) → Some i ≡ Some j → i ≡ j
some_entry i j e = cc

some_meaning : (i j : NameMeaning) → Some i ≡ Some j → i ≡ j
some_meaning i j e = cc

module _ {S : Type 0} (table : List NameEntry) where
  pub noted_grown : (s s' : List Tree) (places : HashMap Key ℕ S) (n : ℕ) → Grows s s' → AreNoted s table places n → AreNoted s' table places n
  noted_grown s s' places n g h = record {
    sound = λ q place e. let k = h.sound q place e in record {
      entry = k.entry;
      there = k.there;
      stands_for = k.stands_for;
      means = k.means;
      list = k.list;
      held = held_later s s' g k.list k.held;
      types = tree_later s s' g k.list k.held ∙ k.types;
      key = k.key;
    };
    reached = λ i e m lt there means. let k = h.reached i e m lt there means in record {
      list = k.list;
      held = held_later s s' g k.list k.held;
      types = tree_later s s' g k.list k.held ∙ k.types;
      found = k.found;
    };
  }

  pub noted_start : (s : List Tree) (places : HashMap Key ℕ S) → ((q : Key) → get same_key places q ≡ None) → AreNoted s table places 0
  noted_start s places none = record {
    sound = λ q place e. absurd (let k : Some place ≡ None = sym e ∙ none q in cc);
    reached = λ i e m lt. absurd (omega arith);
  }

  -- an entry whose name stands for nothing
  pub noted_none : (s : List Tree) (places : HashMap Key ℕ S) (n : ℕ) (x : NameEntry) → slice_get table n ≡ Some x → meaning table x.name ≡ None → AreNoted s table places n → AreNoted s table places (n + 1)
  noted_none s places n x is none h = record {
    sound = h.sound;
    reached = λ i e m lt there means. at i e m lt there means;
  } where
    at : (i : ℕ) (e : NameEntry) (m : NameMeaning) → i < n + 1 → slice_get table i ≡ Some e → meaning table e.name ≡ Some m → IsReached s table places m
    at i e m lt there means = by (grind arith) where
      by : (i < n) ⊎ (i ≡ n) → IsReached s table places m
      by (inl below) = h.reached i e m below there means
      by (inr last) =
          let same : x ≡ e = some_entry x e (sym is ∙ ap (slice_get table) (sym last) ∙ there) in
          absurd (let k : None ≡ Some m = sym none ∙ ap (λ (y : NameEntry). meaning table y.name) same ∙ means in cc)

  -- an entry more
  module _ (s : List Tree) (old new : HashMap Key ℕ S) (n : ℕ) (x : NameEntry) (m : NameMeaning) (list : TermId)
      (is : slice_get table n ≡ Some x) (means : meaning table x.name ≡ Some m) (held : Holds s list) (types : tree_at s list ≡ cells m.types)
      (updates : (q : Key) → get same_key new q ≡ cond (same_key (key_of m.symbol list.0) q) (Some n) (get same_key old q)) where
    note : (q : Key) → same_key (key_of m.symbol list.0) q ≡ true → IsPlaceNoted s table new q n
    note q same = record {
      entry = x;
      there = is;
      stands_for = m;
      means = means;
      list = list;
      held = held;
      types = types;
      key = sym (whole_key (key_of m.symbol list.0) q (same_key_is (key_of m.symbol list.0) q same));
    }

    sound_more : AreNoted s table old n → (q : Key) (place : ℕ) → get same_key new q ≡ Some place → IsPlaceNoted s table new q place
    sound_more h q place e = at (same_key (key_of m.symbol list.0) q) refl (sym (updates q) ∙ e) where
      at : (b : Bool) → same_key (key_of m.symbol list.0) q ≡ b → cond b (Some n) (get same_key old q) ≡ Some place → IsPlaceNoted s table new q place
      at true same there = subst (IsPlaceNoted s table new q) (some_place n place there) (note q same)
      at false same there = let k = h.sound q place there in record {
        entry = k.entry;
        there = k.there;
        stands_for = k.stands_for;
        means = k.means;
        list = k.list;
        held = k.held;
        types = k.types;
        key = k.key;
      }

    still : (q : Key) → IsSome (get same_key old q) → IsSome (get same_key new q)
    still q h = subst IsSome (sym (updates q)) (at (same_key (key_of m.symbol list.0) q)) where
      at : (b : Bool) → IsSome (cond b (Some n) (get same_key old q))
      at true = refl
      at false = h

    here : IsSome (get same_key new (key_of m.symbol list.0))
    here = subst IsSome (sym (updates (key_of m.symbol list.0) ∙ ap (λ b. cond b (Some n) (get same_key old (key_of m.symbol list.0))) (same_key_self (key_of m.symbol list.0)))) refl

    reached_here : IsReached s table new m
    reached_here = record { list = list; held = held; types = types; found = here }

    pub noted_more : AreNoted s table old n → AreNoted s table new (n + 1)
    noted_more h = record {
      sound = sound_more h;
      reached = at;
    } where
      at : (i : ℕ) (e : NameEntry) (u : NameMeaning) → i < n + 1 → slice_get table i ≡ Some e → meaning table e.name ≡ Some u → IsReached s table new u
      at i e u lt there known = by (grind arith) where
        by : (i < n) ⊎ (i ≡ n) → IsReached s table new u
        by (inl below) = let k = h.reached i e u below there known in record { list = k.list; held = k.held; types = k.types; found = still (key_of u.symbol k.list.0) k.found }
        by (inr last) =
            let same : x ≡ e = some_entry x e (sym is ∙ ap (slice_get table) (sym last) ∙ there) in
            let one : m ≡ u = some_meaning m u (sym means ∙ ap (λ (y : NameEntry). meaning table y.name) same ∙ known) in
            subst (IsReached s table new) one reached_here

-- an entry with a name
named_place : (table : List NameEntry) (name : List ℕ) (e : NameEntry) → entry_named table name ≡ Some e → (i : ℕ) × (i < length table) × (slice_get table i ≡ Some e) × (e.name ≡ name)
named_place [] name e h = absurd (cc)
named_place (n ∷ ns) name e h = at (λ k. named_place ns name e k) (bytes_eq n.name name) refl h where
  at : (entry_named ns name ≡ Some e → (i : ℕ) × (i < length ns) × (slice_get ns i ≡ Some e) × (e.name ≡ name)) → (b : Bool) → bytes_eq n.name name ≡ b → cond b (Some n) (entry_named ns name) ≡ Some e → (i : ℕ) × (i < length (n ∷ ns)) × (slice_get (n ∷ ns) i ≡ Some e) × (e.name ≡ name)
  at rest true same k = (zero, omega arith, k, ap (λ (y : NameEntry). y.name) (sym (some_entry n e k)) ∙ (bytes_eq-Decides n.name name).0 same)
  at rest false differs k = let p = rest k in (suc p.0, omega (arith, p.1), p.2, p.3)

spelt_meaning : (table : List NameEntry) (name : List ℕ) (m : NameMeaning) → meaning table name ≡ Some m → (e : NameEntry) × (entry_named table name ≡ Some e)
spelt_meaning table name m h = at (entry_named table name) refl h where
  at : (o : Option NameEntry) → entry_named table name ≡ o → option_and_then (entry_meaning table) o ≡ Some m → (e : NameEntry) × (entry_named table name ≡ Some e)
  at None is k = absurd (cc)
  at (Some e) is k = (e, is)

module _ {S : Type 0} (s : List Tree) (table : List NameEntry) (places : HashMap Key ℕ S) (noted : AreNoted s table places (length table)) where
  -- what is found for a symbol and a list
  pub found_means : (symbol : NameOf) (list : TermId) (place : ℕ) (types : List Tree) (e : NameEntry) → get same_key places (key_of symbol list.0) ≡ Some place → tree_at s list ≡ cells types → slice_get table place ≡ Some e → meaning table e.name ≡ Some (meaning_by symbol types)
  found_means symbol list place types e found is there =
      let k : IsPlaceNoted s table places (key_of symbol list.0) place = noted.sound (key_of symbol list.0) place found in
      let parts = key_parts symbol k.stands_for.symbol list.0 k.list.0 k.key in
      let one : k.entry ≡ e = some_entry k.entry e (sym k.there ∙ there) in
      let tree : cells k.stands_for.types ≡ cells types = sym k.types ∙ ap (λ (i : ℕ). get_or s i (Leaf HEnd)) (sym parts.1) ∙ is in
      ap (λ (y : NameEntry). meaning table y.name) (sym one) ∙ k.means
      ∙ ap (λ (a : NameOf). Some (meaning_by a k.stands_for.types)) (sym parts.0) ∙ ap (λ (ts : List Tree). Some (meaning_by symbol ts)) (cells_parts k.stands_for.types types tree)

  pub found_there : (symbol : NameOf) (list : TermId) (place : ℕ) → get same_key places (key_of symbol list.0) ≡ Some place → IsSome (slice_get table place)
  found_there symbol list place found = let k : IsPlaceNoted s table places (key_of symbol list.0) place = noted.sound (key_of symbol list.0) place found in subst IsSome (sym k.there) refl

  -- a name is found where there is one
  module _ (apart : (a b : TermId) → Holds s a → Holds s b → tree_at s a ≡ tree_at s b → a ≡ b) where
    reached_at : (symbol : NameOf) (list : TermId) (types : List Tree) (name : List ℕ) → Holds s list → tree_at s list ≡ cells types → meaning table name ≡ Some (meaning_by symbol types) → IsSome (get same_key places (key_of symbol list.0))
    reached_at symbol list types name held is means =
        let e = spelt_meaning table name (meaning_by symbol types) means in
        let p = named_place table name e.0 e.1 in
        let k : IsReached s table places (meaning_by symbol types) = noted.reached p.0 e.0 (meaning_by symbol types) p.1 p.2 (ap (meaning table) p.3 ∙ means) in
        let same : k.list ≡ list = apart k.list list k.held held (k.types ∙ sym is) in
        subst (λ (l : TermId). IsSome (get same_key places (key_of symbol l.0))) same k.found

    pub is_reached : (symbol : NameOf) (end list : TermId) (types : List Tree) → Holds s end → tree_at s end ≡ Leaf HEnd → Holds s list → tree_at s list ≡ cells types → IsSpelt table symbol types
        → IsSome (get same_key places (key_of symbol end.0)) ⊎ IsSome (get same_key places (key_of symbol list.0))
    is_reached symbol end list types end_held none held is h = at h.whole h.spells where
      at : (b : Bool) → Spells table symbol types h.name b → IsSome (get same_key places (key_of symbol end.0)) ⊎ IsSome (get same_key places (key_of symbol list.0))
      at true k = inl (reached_at symbol end [] h.name end_held none k)
      at false k = inr (reached_at symbol list types h.name held is k)

-- what is known of a spelling, by the entry at its place
module _ (table : List NameEntry) (place : ℕ) (r : Option Spelling) (whole : Bool)
    (names : option_map (λ (w : Spelling). w.name.now) r ≡ option_map (λ (e : NameEntry). e.name) (slice_get table place)) (wholes : IfSome r (λ w. w.whole ≡ whole)) where
  pub spelling_is : (P : List ℕ → Bool → Type 0) → ((e : NameEntry) → slice_get table place ≡ Some e → P e.name whole) → IfSome r (λ w. P w.name.now w.whole)
  spelling_is P h = at r names wholes (slice_get table place) refl where
    at : (o : Option Spelling) → option_map (λ (w : Spelling). w.name.now) o ≡ option_map (λ (e : NameEntry). e.name) (slice_get table place) → IfSome o (λ w. w.whole ≡ whole) → (x : Option NameEntry) → slice_get table place ≡ x → IfSome o (λ w. P w.name.now w.whole)
    at None n k x is = tt
    at (Some w) n k None is = absurd (let z : Some w.name.now ≡ None = n ∙ ap (option_map (λ (e : NameEntry). e.name)) is in cc)
    at (Some w) n k (Some e) is =
        let z : Some w.name.now ≡ Some e.name = n ∙ ap (option_map (λ (y : NameEntry). y.name)) is in
        let same : w.name.now ≡ e.name = cc in
        subst (λ (b : Bool). P w.name.now b) (sym k) (subst (λ (a : List ℕ). P a whole) (sym same) (h e is))

  pub spelling_there : IsSome (slice_get table place) → IsSome r
  spelling_there h = at r names (slice_get table place) refl h where
    at : (o : Option Spelling) → option_map (λ (w : Spelling). w.name.now) o ≡ option_map (λ (e : NameEntry). e.name) (slice_get table place) → (x : Option NameEntry) → slice_get table place ≡ x → IsSome x → IsSome o
    at (Some w) n x is k = refl
    at None n None is k = absurd (cc)
    at None n (Some e) is k = absurd (let z : None ≡ Some e.name = n ∙ ap (option_map (λ (y : NameEntry). y.name)) is in cc)
