-- What words refer to, by numbers in a store and as trees.
use Rattle.std.proofs.Common.{◌≡◌, ℕ, zero, suc, ◌-◌, ◌≤◌, min, List, [], ◌∷◌, ◌++◌, length, take, drop, get_or, All, IfSome, Option, Some, None, slice_get, refl, sym, ap, subst, ◌∙◌, arith}
use Rattle.std.specs.Option.{option_map, option_and_then}
use Rattle.std.specs.Borrow.{Bor}
use Rattle.std.proofs.lemmas.List.{map-append, take-map, drop-map, take_min, drop_min, take_all, length-drop}
use Rattle.std.proofs.lemmas.List.Elements.{All-cons, All-nil}
use Rattle.std.proofs.lemmas.Option.{slice_get-map}
use Rattle.trees.specs.declared.TermId.{TermId}
use Rattle.trees.specs.Tree.{Tree}
use Rattle.trees.specs.Node.{tree_at, Holds, Grows}
use Rattle.trees.specs.binders.Visits.{HoldTypes, typing_stays_ready, trees_stay}
use Rattle.trees.specs.declared.Sort.TheVariants.{Kind}
use Rattle.tasks.specs.Task.{TaskTree}
use Rattle.tasks.specs.Meaning.{trees_at, task_at}
use Rattle.tasks.proofs.Growth.{all_held_later, trees_later, task_held_later, task_later}
use Rattle.name_tables.specs.declared.name_entries.names.NameEntry.{NameEntry}
use Rattle.step_lines.specs.declared.tree_lines.known.EarlierLines.{EarlierLines}
use Rattle.step_lines.specs.tree_lines.Words.{LineWord, texts, number, at_number, each}
use Rattle.step_lines.specs.tree_lines.Named.{NameMeaning, meaning, named_type_at}
use Rattle.step_lines.specs.tree_lines.Lines.{Earlier, meaning_types, named_use, used_on, type_of_line}
use Rattle.step_lines.specs.tree_lines.Made.{IsTypeHeld, KnownHeld, earlier_at}

module _ (s : List Tree) where
  pub at_trees : (xs : List TermId) (w : LineWord) → at_number (trees_at s xs) w ≡ option_map (tree_at s) (at_number xs w)
  at_trees xs w = at (number w) where
    at : (o : Option ℕ) → option_and_then (slice_get (trees_at s xs)) o ≡ option_map (tree_at s) (option_and_then (slice_get xs) o)
    at None = refl
    at (Some k) = slice_get-map (tree_at s) xs k

  both_trees : (o : Option TermId) (o' : Option (List TermId)) → option_and_then (λ y. option_map (λ ys. y ∷ ys) (option_map (trees_at s) o')) (option_map (tree_at s) o) ≡ option_map (trees_at s) (option_and_then (λ y. option_map (λ ys. y ∷ ys) o') o)
  both_trees None o' = refl
  both_trees (Some y) None = refl
  both_trees (Some y) (Some ys) = refl

  pub each_trees : (xs : List TermId) (ws : List LineWord) → each (at_number (trees_at s xs)) ws ≡ option_map (trees_at s) (each (at_number xs) ws)
  each_trees xs [] = refl
  each_trees xs (w ∷ ws) =
      ap (option_and_then (λ y. option_map (λ ys. y ∷ ys) (each (at_number (trees_at s xs)) ws))) (at_trees xs w)
      ∙ ap (λ o'. option_and_then (λ y. option_map (λ ys. y ∷ ys) o') (option_map (tree_at s) (at_number xs w))) (each_trees xs ws)
      ∙ both_trees (at_number xs w) (each (at_number xs) ws)

  slice_type : (xs : List TermId) (k : ℕ) → HoldTypes s xs → IfSome (slice_get xs k) (IsTypeHeld s)
  slice_type [] k h = tt
  slice_type (x ∷ xs) zero h = h.0
  slice_type (x ∷ xs) (suc k) h = slice_type xs k h.1

  pub at_type : (xs : List TermId) (w : LineWord) → HoldTypes s xs → IfSome (at_number xs w) (IsTypeHeld s)
  at_type xs w h = at (number w) where
    at : (o : Option ℕ) → IfSome (option_and_then (slice_get xs) o) (IsTypeHeld s)
    at None = tt
    at (Some k) = slice_type xs k h

  both_types : (o : Option TermId) (o' : Option (List TermId)) → IfSome o (IsTypeHeld s) → IfSome o' (HoldTypes s) → IfSome (option_and_then (λ y. option_map (λ ys. y ∷ ys) o') o) (HoldTypes s)
  both_types None o' a b = tt
  both_types (Some y) None a b = tt
  both_types (Some y) (Some ys) a b = (a, b)

  pub each_types : (xs : List TermId) (ws : List LineWord) → HoldTypes s xs → IfSome (each (at_number xs) ws) (HoldTypes s)
  each_types xs [] h = tt
  each_types xs (w ∷ ws) h = both_types (at_number xs w) (each (at_number xs) ws) (at_type xs w h) (each_types xs ws h)

  slice_held : (xs : List TermId) (k : ℕ) → All (Holds s) xs → IfSome (slice_get xs k) (Holds s)
  slice_held [] k h = tt
  slice_held (x ∷ xs) zero h = h 0 x (omega arith)
  slice_held (x ∷ xs) (suc k) h = slice_held xs k (λ i d lt. h (suc i) d (omega arith))

  pub at_held : (xs : List TermId) (w : LineWord) → All (Holds s) xs → IfSome (at_number xs w) (Holds s)
  at_held xs w h = at (number w) where
    at : (o : Option ℕ) → IfSome (option_and_then (slice_get xs) o) (Holds s)
    at None = tt
    at (Some k) = slice_held xs k h

  both_held : (o : Option TermId) (o' : Option (List TermId)) → IfSome o (Holds s) → IfSome o' (λ ids. All (Holds s) ids) → IfSome (option_and_then (λ y. option_map (λ ys. y ∷ ys) o') o) (λ ids. All (Holds s) ids)
  both_held None o' a b = tt
  both_held (Some y) None a b = tt
  both_held (Some y) (Some ys) a b = All-cons (Holds s) y ys a b

  pub each_held : (xs : List TermId) (ws : List LineWord) → All (Holds s) xs → IfSome (each (at_number xs) ws) (λ ids. All (Holds s) ids)
  each_held xs [] h = All-nil (Holds s)
  each_held xs (w ∷ ws) h = both_held (at_number xs w) (each (at_number xs) ws) (at_held xs w h) (each_held xs ws h)

  -- the types at which a name stands, and those that words refer to
  pub types_made : (xs : List TermId) (ws : List LineWord) (front more all : List TermId) → Some more ≡ each (at_number xs) ws → all ≡ front ++ more → Some (trees_at s all) ≡ option_map (λ types. trees_at s front ++ types) (each (at_number (trees_at s xs)) ws)
  types_made xs ws front more all e is = ap (λ l. Some (trees_at s l)) is ∙ ap Some (map-append (tree_at s) front more) ∙ ap (option_map (λ types. trees_at s front ++ types)) (ap (option_map (trees_at s)) e ∙ sym (each_trees xs ws))

  pub types_missing : (xs : List TermId) (ws : List LineWord) (front : List TermId) → None ≡ each (at_number xs) ws → None ≡ option_map (λ types. trees_at s front ++ types) (each (at_number (trees_at s xs)) ws)
  types_missing xs ws front e = ap (option_map (λ types. trees_at s front ++ types)) (ap (option_map (trees_at s)) e ∙ sym (each_trees xs ws))

-- the words for types, and those for parts
pub words_taken : (n : ℕ) (ws : List (Bor LineWord)) (c : ℕ) → c ≡ min n (length ws) → texts (take c ws) ≡ take n (texts ws)
words_taken n ws c e = ap (λ k. texts (take k ws)) e ∙ ap texts (take_min n ws) ∙ sym (take-map (λ (w : Bor LineWord). w.now) n ws)

pub words_left : (n : ℕ) (ws : List (Bor LineWord)) (c : ℕ) → c ≡ min n (length ws) → texts (drop c ws) ≡ drop n (texts ws)
words_left n ws c e = ap (λ k. texts (drop k ws)) e ∙ ap texts (drop_min n ws) ∙ sym (drop-map (λ (w : Bor LineWord). w.now) n ws)

-- what is left of a slice from a place on
pub slice_left : {A : Type 0} (c : ℕ) (ws : List A) → take (length ws - c) (drop c ws) ≡ drop c ws
slice_left c ws = take_all (length ws - c) (drop c ws) (omega (arith, length-drop c ws))

-- what was known goes on to be
module _ (s s' : List Tree) (g : Grows s s') (x : EarlierLines) (h : KnownHeld s x) where
  pub known_later : KnownHeld s' x
  known_later = record {
    task = task_held_later s s' g x.task.now h.task;
    names = h.names;
    types = typing_stays_ready s s' x.types.now g h.types;
    patterns = all_held_later s s' g x.patterns.now h.patterns;
    expressions = all_held_later s s' g x.expressions.now h.expressions;
  }

  pub earlier_later : earlier_at s' x ≡ earlier_at s x
  earlier_later =
      let mk : List Tree → List Tree → List Tree → Earlier = λ ts ps es. record { types = ts; patterns = ps; expressions = es } in
      let ts = trees_stay Kind s s' x.types.now g h.types in
      let ps = trees_later s s' g x.patterns.now h.patterns in
      let es = trees_later s s' g x.expressions.now h.expressions in
      ap (λ l. mk l (trees_at s' x.patterns.now) (trees_at s' x.expressions.now)) ts ∙ ap (λ l. mk (trees_at s x.types.now) l (trees_at s' x.expressions.now)) ps ∙ ap (mk (trees_at s x.types.now) (trees_at s x.patterns.now)) es

  -- what is said of a task and of earlier lines is said of them in the grown store
  pub known_same : (P : TaskTree → Earlier → Type 0) → P (task_at s' x.task.now) (earlier_at s' x) → P (task_at s x.task.now) (earlier_at s x)
  known_same P p = subst (P (task_at s x.task.now)) earlier_later (subst (λ t. P t (earlier_at s' x)) (task_later s s' g x.task.now h.task) p)

  pub types_same : (n : NameMeaning) (ws : List LineWord) → meaning_types (task_at s' x.task.now) x.table.now (earlier_at s' x) n ws ≡ meaning_types (task_at s x.task.now) x.table.now (earlier_at s x) n ws
  types_same n ws =
      ap (λ t. meaning_types t x.table.now (earlier_at s' x) n ws) (task_later s s' g x.task.now h.task) ∙ ap (λ r. meaning_types (task_at s x.task.now) x.table.now r n ws) earlier_later

  pub uses_same : (parts : List TermId) → All (Holds s) parts → (ws : List LineWord) (n : NameMeaning) → named_use (task_at s' x.task.now) x.table.now (earlier_at s' x) (at_number (trees_at s' parts)) ws n ≡ named_use (task_at s x.task.now) x.table.now (earlier_at s x) (at_number (trees_at s parts)) ws n
  uses_same parts held ws n =
      ap (λ t. named_use t x.table.now (earlier_at s' x) (at_number (trees_at s' parts)) ws n) (task_later s s' g x.task.now h.task)
      ∙ ap (λ r. named_use (task_at s x.task.now) x.table.now r (at_number (trees_at s' parts)) ws n) earlier_later
      ∙ ap (λ ps. named_use (task_at s x.task.now) x.table.now (earlier_at s x) (at_number ps) ws n) (trees_later s s' g parts held)

-- a name, and the words after it
module _ (t : TaskTree) (names : List NameEntry) (r : Earlier) where
  pub words_used : (part : LineWord → Option Tree) (ws : List (Bor LineWord)) (d : Bor LineWord) (n : NameMeaning) → 1 ≤ length ws → Some n ≡ meaning names (get_or ws 0 d).now → named_use t names r part (texts (take (length ws - 1) (drop 1 ws))) n ≡ used_on t names r part (texts ws)
  words_used part [] d n some e = absurd (omega arith)
  words_used part (w ∷ ws) d n some e = ap (λ l. named_use t names r part (texts l) n) (slice_left 1 (w ∷ ws)) ∙ ap (option_and_then (named_use t names r part (texts ws))) e

  abbrev typed : List LineWord → NameMeaning → Option Tree
  typed ws n = option_and_then (named_type_at n.symbol) (meaning_types t names r n ws)

  pub words_typed : (ws : List (Bor LineWord)) (d : Bor LineWord) (n : NameMeaning) → 1 ≤ length ws → Some n ≡ meaning names (get_or ws 0 d).now → typed (texts (take (length ws - 1) (drop 1 ws))) n ≡ type_of_line t names r (texts ws)
  words_typed [] d n some e = absurd (omega arith)
  words_typed (w ∷ ws) d n some e = ap (λ l. typed (texts l) n) (slice_left 1 (w ∷ ws)) ∙ ap (option_and_then (typed (texts ws))) e
