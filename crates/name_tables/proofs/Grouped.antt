-- The instances of each symbol, and what a problem's table has of them.
use Rattle.std.proofs.Common.{◌≡◌, ◌≢◌, ℕ, ◌<◌, ◌+◌, ◌-◌, suc, zero, Bool, true, false, cond, ◌||◌, ◌&&◌, ◌==◌, if◌then◌else◌, List, [], ◌∷◌, ◌++◌, filter, map, length, get_or, set, take, min, refl, sym, ap, subst, ◌∙◌, arith, inl, inr, Option, get_or-set_other, get_or-set_same}
use Rattle.std.specs.List.{flat_map}
use Rattle.std.proofs.lemmas.Bool.{cases_lt}
use Rattle.std.proofs.lemmas.Bool.Decides.{nat_tests}
use Rattle.std.proofs.lemmas.List.{append-nil, take_more, get_or_append_left, get_or-append_right, get_or_past}
use Rattle.std.proofs.lemmas.List.Elements.{filter-append, All-push, All-set}
use Rattle.trees.specs.Tree.{Tree, above_ty_vars}
use Rattle.trees.specs.declared.ints.Ints.{Ints}
use Rattle.tasks.specs.Task.{TaskTree, declared}
use Rattle.name_tables.specs.Occurrences.{Occurrence, whole_occurrence}
use Rattle.name_tables.specs.Tables.{is_same, is_interpreted, is_instance_of, symbol_instances, task_things}
use Rattle.name_tables.specs.Seen.{occurrence_at, seen_occurrences, has, with_one, with_all, AreIn, KeyHeld, KeysHeld, GainsKeys}
use Rattle.name_tables.specs.Groups.{in_group, IsFilled, IsKeyPushed, AreGroups, instances_in}
use Rattle.name_tables.specs.Fronts.{things_among}
use Rattle.name_tables.proofs.Gathering.{same_occurrence, with_one_there, with_one_new, with_all-append, added_in}
use Rattle.name_tables.proofs.Distinct.{distinct_is}

-- one that is in a list of what is there, is there
pub has_in : (zs os : List Occurrence) (o : Occurrence) → AreIn zs os → has os o ≡ true → has zs o ≡ true
has_in zs [] o h e = absurd (cc)
has_in zs (q ∷ qs) o h e = elim (is_same o q) as (λ b. is_same o q ≡ b → (b || has qs o) ≡ true → has zs o ≡ true) [
  | true ↦ λ k _. subst (λ (z : Occurrence). has zs z ≡ true) (sym (same_occurrence o q k)) h.0
  | false ↦ λ k more. has_in zs qs o h.1 more
] refl e

-- what passes a test stays in the filter
pub has_filter : (p : Occurrence → Bool) (xs : List Occurrence) (o : Occurrence) → p o ≡ true → has xs o ≡ true → has (filter p xs) o ≡ true
has_filter p [] o h e = e
has_filter p (x ∷ xs) o h e = elim (is_same o x) as (λ b. is_same o x ≡ b → (b || has xs o) ≡ true → has (filter p (x ∷ xs)) o ≡ true) [
  | true ↦ λ k _.
      let passes : p x ≡ true = subst (λ (z : Occurrence). p z ≡ true) (same_occurrence o x k) h in
      ap (λ c. has (cond c (x ∷ filter p xs) (filter p xs)) o) passes ∙ ap (λ c. c || has (filter p xs) o) k
  | false ↦ λ k more.
      let rest = has_filter p xs o h more in
      elim (p x) as (λ c. has (cond c (x ∷ filter p xs) (filter p xs)) o ≡ true) [ true ↦ ap (λ c. c || has (filter p xs) o) k ∙ rest | false ↦ rest ]
] refl e

-- a filter of what was gathered adds as much as a filter of all
filter_gathered : (p : Occurrence → Bool) (acc seen xs : List Occurrence) → with_all acc (filter p (with_all seen xs)) ≡ with_all (with_all acc (filter p seen)) (filter p xs)
filter_gathered p acc seen [] = refl
filter_gathered p acc seen (x ∷ xs) = filter_gathered p acc (with_one seen x) xs ∙ ap (λ z. with_all z (filter p xs)) (by (has seen x) refl) ∙ joined (p x)
  where
    one : Bool → List Occurrence
    one b = cond b (with_one (with_all acc (filter p seen)) x) (with_all acc (filter p seen))

    there : has seen x ≡ true → (b : Bool) → p x ≡ b → with_all acc (filter p seen) ≡ one b
    there h true e = sym (with_one_there (with_all acc (filter p seen)) x (has_in (with_all acc (filter p seen)) (filter p seen) x (added_in acc (filter p seen)) (has_filter p seen x e h)))
    there h false e = refl

    pushed : (b : Bool) → with_all acc (filter p seen ++ cond b (x ∷ []) []) ≡ one b
    pushed true = with_all-append acc (filter p seen) (x ∷ [])
    pushed false = ap (with_all acc) (append-nil (filter p seen))

    by : (c : Bool) → has seen x ≡ c → with_all acc (filter p (with_one seen x)) ≡ one (p x)
    by true h = ap (λ z. with_all acc (filter p z)) (with_one_there seen x h) ∙ there h (p x) refl
    by false h = ap (λ z. with_all acc (filter p z)) (with_one_new seen x h) ∙ ap (with_all acc) (filter-append p seen (x ∷ [])) ∙ pushed (p x)

    joined : (b : Bool) → with_all (one b) (filter p xs) ≡ with_all (with_all acc (filter p seen)) (cond b (x ∷ filter p xs) (filter p xs))
    joined true = refl
    joined false = refl

filter_of_map : {X Y : Type 0} (p : Y → Bool) (f : X → Y) (xs : List X) → map f (filter (λ x. p (f x)) xs) ≡ filter p (map f xs)
filter_of_map p f [] = refl
filter_of_map {X} {Y} p f (x ∷ xs) = elim (p (f x)) as (λ b. map f (cond b (x ∷ filter (λ y. p (f y)) xs) (filter (λ y. p (f y)) xs)) ≡ cond b (f x ∷ filter p (map f xs)) (filter p (map f xs))) [
  | true ↦ ap (λ z. f x ∷ z) (filter_of_map p f xs)
  | false ↦ filter_of_map p f xs
]

abbrev no_keys : List (ℕ × ℕ)
no_keys = []

alone : (n : ℕ) → get_or (no_keys ∷ []) n no_keys ≡ no_keys
alone zero = refl
alone (suc n) = refl

-- a group without keys at the end changes none
pub filled_more : (groups : List (List (ℕ × ℕ))) (k : ℕ) → get_or (groups ++ [] ∷ []) k [] ≡ get_or groups k []
filled_more groups k = elim (cases_lt k (length groups)) [
  | inl l ↦ get_or_append_left groups (no_keys ∷ []) no_keys k l
  | inr l ↦ get_or-append_right groups (no_keys ∷ []) (length groups) k no_keys refl l ∙ alone (k - length groups) ∙ sym (get_or_past groups k no_keys l)
]

-- a key is put into the group of its symbol
pub pushed_here : (s : List Tree) (groups : List (List (ℕ × ℕ))) (key : ℕ × ℕ) (group : List (ℕ × ℕ)) → key.0 < length groups → get_or groups key.0 [] ≡ group → is_instance_of key.0 (occurrence_at s key) ≡ true
    → KeyHeld s key → IsKeyPushed s groups (set groups key.0 (group ++ key ∷ [])) key
pushed_here s groups key group h e ground held = record {
  held = λ a. All-set (KeysHeld s) groups key.0 (group ++ key ∷ []) (All-push (KeyHeld s) group key (subst (KeysHeld s) e (a key.0 [] h)) held) a;
  each = λ k. at k (key.0 == k) refl;
}
  where
    at : (k : ℕ) (b : Bool) → (key.0 == k) ≡ b → get_or (set groups key.0 (group ++ key ∷ [])) k [] ≡ get_or groups k [] ++ in_group s k (key ∷ [])
    at k true q =
        let same : key.0 ≡ k = grind (arith, nat_tests) in
        let there : in_group s key.0 (key ∷ []) ≡ key ∷ [] = ap (λ c. cond c (key ∷ []) []) ground in
        rw (← same) (get_or-set_same groups key.0 (group ++ key ∷ []) [] h ∙ (λ i. sym e i ++ sym there i))
    at k false q =
        let ne : k ≢ key.0 = grind (arith, nat_tests) in
        let out : in_group s k (key ∷ []) ≡ [] = ap (λ c. cond (c && (above_ty_vars (occurrence_at s key).types == 0)) (key ∷ []) []) q in
        get_or-set_other groups key.0 k (group ++ key ∷ []) [] ne ∙ sym (append-nil (get_or groups k [])) ∙ ap (λ z. get_or groups k [] ++ z) (sym out)

-- after what makes its group
pub pushed_later : (s : List Tree) (old middle new : List (List (ℕ × ℕ))) (key : ℕ × ℕ) → IsFilled old middle key.0 → IsKeyPushed s middle new key → IsKeyPushed s old new key
pushed_later s old middle new key f p = record { held = λ a. p.held (f.held s a); each = λ k. p.each k ∙ ap (λ z. z ++ in_group s k (key ∷ [])) (f.same k) }

-- a key whose types are told to be ground is an instance of its symbol
pub told_ground : (key : ℕ × ℕ) (s : List Tree) (told : ℕ) → told ≡ min (above_ty_vars (occurrence_at s key).types) 18446744073709551615 → told ≡ 0 → is_instance_of key.0 (occurrence_at s key) ≡ true
told_ground key s told e z =
    let same : (key.0 == key.0) ≡ true = grind (arith, nat_tests) in
    let none : (above_ty_vars (occurrence_at s key).types == 0) ≡ true = grind (arith, nat_tests) in
    rw (same, none) refl

-- one key more
pub group_step : (s : List Tree) (keys : List (ℕ × ℕ)) (i : ℕ) (key : ℕ × ℕ) (old new : List (List (ℕ × ℕ))) → i < length keys → AreGroups s (take i keys) old
    → IsKeyPushed s old new (get_or keys i key) → AreGroups s (take (i + 1) keys) new
group_step s keys i key old new h a p = record {
  held = p.held a.held;
  each = λ k.
      p.each k ∙ ap (λ z. z ++ in_group s k (get_or keys i key ∷ [])) (a.each k)
      ∙ sym (ap (in_group s k) (take_more keys i key h) ∙ filter-append (λ (x : ℕ × ℕ). is_instance_of k (occurrence_at s x)) (take i keys) (get_or keys i key ∷ []));
}

-- what is added of a symbol is what a table has of it, where these are the occurrences
module _ (s : List Tree) (ints : Option Ints) (keys : List (ℕ × ℕ)) (groups : List (List (ℕ × ℕ))) (a : AreGroups s keys groups) where
  one_instances : (k : ℕ) → instances_in s ints groups k ≡ symbol_instances ints (seen_occurrences s keys) k
  one_instances k = elim (is_interpreted ints k) as (λ b. (if b then whole_occurrence k ∷ [] else seen_occurrences s (get_or groups k [])) ≡ (if b then whole_occurrence k ∷ [] else filter (is_instance_of k) (seen_occurrences s keys))) [
    | true ↦ refl
    | false ↦ ap (seen_occurrences s) (a.each k) ∙ filter_of_map (is_instance_of k) (occurrence_at s) keys
  ]

  pub each_instances : (ks : List ℕ) → flat_map (instances_in s ints groups) ks ≡ flat_map (symbol_instances ints (seen_occurrences s keys)) ks
  each_instances [] = refl
  each_instances (k ∷ ks) = (λ i. one_instances k i ++ each_instances ks i)

-- what a table has, where these occur
pub among_gained : (s : List Tree) (t : TaskTree) (seen : List (ℕ × ℕ)) (groups : List (List (ℕ × ℕ))) (ks : List ℕ) (keys : List (ℕ × ℕ)) → AreGroups s seen groups → ks ≡ declared t
    → GainsKeys s [] (flat_map (instances_in s t.ints groups) ks) keys → seen_occurrences s keys ≡ things_among t (seen_occurrences s seen)
among_gained s t seen groups ks keys a e g =
    g.is ∙ ap (λ z. with_all [] (flat_map (instances_in s t.ints groups) z)) e ∙ ap (with_all []) (each_instances s t.ints seen groups a (declared t))
    ∙ distinct_is (flat_map (symbol_instances t.ints (seen_occurrences s seen)) (declared t))

-- a table has the same of what is there once each
module _ (ints : Option Ints) (os : List Occurrence) where
  same_instances : (acc : List Occurrence) (k : ℕ) → with_all acc (symbol_instances ints (with_all [] os) k) ≡ with_all acc (symbol_instances ints os k)
  same_instances acc k = elim (is_interpreted ints k) as (λ b. with_all acc (if b then whole_occurrence k ∷ [] else filter (is_instance_of k) (with_all [] os)) ≡ with_all acc (if b then whole_occurrence k ∷ [] else filter (is_instance_of k) os)) [
    | true ↦ refl
    | false ↦ filter_gathered (is_instance_of k) acc [] os
  ]

  all_instances : (acc : List Occurrence) (ks : List ℕ) → with_all acc (flat_map (symbol_instances ints (with_all [] os)) ks) ≡ with_all acc (flat_map (symbol_instances ints os) ks)
  all_instances acc [] = refl
  all_instances acc (k ∷ ks) =
      with_all-append acc (symbol_instances ints (with_all [] os) k) (flat_map (symbol_instances ints (with_all [] os)) ks)
      ∙ ap (λ z. with_all z (flat_map (symbol_instances ints (with_all [] os)) ks)) (same_instances acc k)
      ∙ all_instances (with_all acc (symbol_instances ints os k)) ks
      ∙ sym (with_all-append acc (symbol_instances ints os k) (flat_map (symbol_instances ints os) ks))

pub gathered_among : (t : TaskTree) (os : List Occurrence) → things_among t (with_all [] os) ≡ things_among t os
gathered_among t os = sym (distinct_is (flat_map (symbol_instances t.ints (with_all [] os)) (declared t))) ∙ all_instances t.ints os [] (declared t) ∙ distinct_is (flat_map (symbol_instances t.ints os) (declared t))

-- what a task's table has
pub task_gained : (s : List Tree) (t : TaskTree) (ks : List ℕ) (keys : List (ℕ × ℕ)) → ks ≡ declared t → GainsKeys s [] (map whole_occurrence ks) keys → seen_occurrences s keys ≡ task_things t
task_gained s t ks keys e g = g.is ∙ ap (λ z. with_all [] (map whole_occurrence z)) e ∙ distinct_is (map whole_occurrence (declared t))
