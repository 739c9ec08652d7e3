-- Arguments taken one after another, by the kinds that are left.
use Rattle.std.proofs.Common.{◌≡◌, ℕ, ◌+◌, ◌-◌, ◌<◌, ◌≤◌, List, [], ◌∷◌, ◌++◌, length, map, take, drop, get_or, Option, Some, None, refl, sym, ap, ◌∙◌, append_assoc, append-nil, arith}
use Rattle.std.specs.Option.{option_map, option_and_then}
use Rattle.std.specs.Borrow.{Bor}
use Rattle.std.proofs.lemmas.List.{drop_more, drop_all, map-append}
use Rattle.trees.specs.declared.TermId.{TermId}
use Rattle.trees.specs.Tree.{Tree}
use Rattle.trees.specs.Node.{tree_at, Holds}
use Rattle.tasks.specs.Task.{TaskTree}
use Rattle.tasks.specs.Meaning.{trees_at}
use Rattle.step_lines.specs.declared.rule_words.argument.Argument.{Argument}
use Rattle.step_lines.specs.declared.rule_words.argument.Argument.TheVariants as made
use Rattle.name_tables.specs.declared.name_entries.names.NameEntry.{NameEntry}
use Rattle.step_lines.specs.declared.rule_words.argument.ArgumentKind.{ArgumentKind}
use Rattle.step_lines.specs.declared.rule_words.argument.ArgumentKind.TheVariants as kind
use Rattle.step_lines.specs.rule_words.Arguments.{ArgumentTree, AType, argument_at, arguments_at, ArgumentHeld}
use Rattle.step_lines.specs.tree_lines.Words.{LineWord, texts}
use Rattle.step_lines.specs.tree_lines.Named.{meaning}
use Rattle.step_lines.specs.tree_lines.Lines.{Earlier}
use Rattle.step_lines.proofs.tree_lines.Making.{slice_left}
use Rattle.step_lines.specs.Steps.{argument, then_argument, arguments, next_kinds, types_named, own_types}

pub first_and_rest : {A : Type 0} (xs : List A) (d : A) → 1 ≤ length xs → xs ≡ get_or xs 0 d ∷ take (length xs - 1) (drop 1 xs)
first_and_rest [] d h = absurd (omega arith)
first_and_rest (x ∷ xs) d h = ap (λ l. x ∷ l) (sym (slice_left 1 (x ∷ xs)))

onto_pushed : (acc : List ArgumentTree) (y : ArgumentTree) (o : Option (List ArgumentTree)) → option_map (λ ys. (acc ++ y ∷ []) ++ ys) o ≡ option_map (λ ys. acc ++ ys) (option_map (λ ys. y ∷ ys) o)
onto_pushed acc y None = refl
onto_pushed acc y (Some ys) = ap Some (append_assoc acc (y ∷ []) ys)

module _ (t : TaskTree) (names : List NameEntry) (r : Earlier) where
  step : (left again : List ArgumentKind) (k : ArgumentKind) (others : List ArgumentKind) (w : LineWord) (ws : List LineWord) → next_kinds left again ≡ k ∷ others → arguments t names r left again (w ∷ ws) ≡ then_argument t names r k w (arguments t names r others again ws)
  step [] [] k others w ws h = cc
  step [] (j ∷ js) k others w ws h =
      let a : j ≡ k = cc in
      let b : js ≡ others = cc in
      ap (λ x. then_argument t names r x w (arguments t names r js (j ∷ js) ws)) a ∙ ap (λ l. then_argument t names r k w (arguments t names r l (j ∷ js) ws)) b
  step (j ∷ js) again k others w ws h =
      let a : j ≡ k = cc in
      let b : js ≡ others = cc in
      ap (λ x. then_argument t names r x w (arguments t names r js again ws)) a ∙ ap (λ l. then_argument t names r k w (arguments t names r l again ws)) b

  none_left : (left again : List ArgumentKind) (w : LineWord) (ws : List LineWord) → next_kinds left again ≡ [] → arguments t names r left again (w ∷ ws) ≡ None
  none_left [] [] w ws h = refl
  none_left [] (j ∷ js) w ws h = cc
  none_left (j ∷ js) again w ws h = cc

  module _ (left again found : List ArgumentKind) (d' : ArgumentKind) (next : found ≡ next_kinds left again) (ws : List (Bor LineWord)) (i : ℕ) (d : Bor LineWord) (acc : List ArgumentTree) (all : Option (List ArgumentTree)) (lt : i < length ws)
      (h : option_map (λ ys. acc ++ ys) (arguments t names r left again (texts (drop i ws))) ≡ all) where
    abbrev rest : List LineWord
    rest = texts (drop (i + 1) ws)

    cut : option_map (λ ys. acc ++ ys) (arguments t names r left again ((get_or ws i d).now ∷ rest)) ≡ all
    cut = let k = rw (drop_more ws i d lt) at h in k

    pub arguments_more : (a : ArgumentTree) → 1 ≤ length found → Some a ≡ argument t names r (get_or found 0 d') (get_or ws i d).now
        → option_map (λ ys. (acc ++ a ∷ []) ++ ys) (arguments t names r (take (length found - 1) (drop 1 found)) again rest) ≡ all
    arguments_more a some e =
        let others = take (length found - 1) (drop 1 found) in
        let taken = step left again (get_or found 0 d') others (get_or ws i d).now rest (sym next ∙ first_and_rest found d' some) in
        onto_pushed acc a (arguments t names r others again rest)
        ∙ ap (λ o. option_map (λ ys. acc ++ ys) (option_and_then (λ x. option_map (λ args. x ∷ args) (arguments t names r others again rest)) o)) e
        ∙ ap (option_map (λ ys. acc ++ ys)) (sym taken) ∙ cut

    pub arguments_missing : 1 ≤ length found → None ≡ argument t names r (get_or found 0 d') (get_or ws i d).now → None ≡ all
    arguments_missing some e =
        let others = take (length found - 1) (drop 1 found) in
        let taken = step left again (get_or found 0 d') others (get_or ws i d).now rest (sym next ∙ first_and_rest found d' some) in
        ap (λ o. option_map (λ ys. acc ++ ys) (option_and_then (λ x. option_map (λ args. x ∷ args) (arguments t names r others again rest)) o)) e
        ∙ ap (option_map (λ ys. acc ++ ys)) (sym taken) ∙ cut

    pub arguments_too_many : length found < 1 → None ≡ all
    arguments_too_many few = ap (option_map (λ ys. acc ++ ys)) (sym (none_left left again (get_or ws i d).now rest (sym next ∙ empty found few))) ∙ cut where
      empty : (xs : List ArgumentKind) → length xs < 1 → xs ≡ []
      empty [] lt = refl
      empty (x ∷ xs) lt = absurd (omega arith)

  -- the end of the words
  module _ (left again : List ArgumentKind) (ws : List (Bor LineWord)) (i : ℕ) (acc : List ArgumentTree) (all : Option (List ArgumentTree)) (le : length ws ≤ i)
      (h : option_map (λ ys. acc ++ ys) (arguments t names r left again (texts (drop i ws))) ≡ all) where
    ended : option_map (λ ys. acc ++ ys) (arguments t names r left again []) ≡ all
    ended = let k = rw (drop_all i ws le) at h in k

    pub arguments_done : length left < 1 → Some acc ≡ all
    arguments_done few = at left few ended where
      at : (l : List ArgumentKind) → length l < 1 → option_map (λ ys. acc ++ ys) (arguments t names r l again []) ≡ all → Some acc ≡ all
      at [] lt e = ap Some (sym (append-nil acc)) ∙ e
      at (x ∷ xs) lt e = absurd (omega arith)

    pub arguments_too_few : 1 ≤ length left → None ≡ all
    arguments_too_few some = at left some ended where
      at : (l : List ArgumentKind) → 1 ≤ length l → option_map (λ ys. acc ++ ys) (arguments t names r l again []) ≡ all → None ≡ all
      at [] lt e = absurd (omega arith)
      at (x ∷ xs) lt e = e

  -- the types of the name that a rule begins with
  pub own_symbol : (ks : List ArgumentKind) (ws : List (Bor LineWord)) (d : ArgumentKind) (d' : Bor LineWord) → 1 ≤ length ks → 1 ≤ length ws → get_or ks 0 d ≡ kind.Symbol → types_named (meaning names (get_or ws 0 d').now) ≡ own_types t names r ks (texts ws)
  own_symbol [] ws d d' h k e = absurd (omega arith)
  own_symbol (j ∷ js) [] d d' h k e = absurd (omega arith)
  own_symbol (kind.Symbol ∷ js) (w ∷ ws) d d' h k e = refl
  own_symbol (kind.Number ∷ js) (w ∷ ws) d d' h k e = cc
  own_symbol (kind.Integer ∷ js) (w ∷ ws) d d' h k e = cc
  own_symbol (kind.Expression ∷ js) (w ∷ ws) d d' h k e = cc
  own_symbol (kind.Type ∷ js) (w ∷ ws) d d' h k e = cc

  pub own_none : (ks : List ArgumentKind) (ws : List (Bor LineWord)) → length ks < 1 → [] ≡ own_types t names r ks (texts ws)
  own_none [] ws h = refl
  own_none (j ∷ js) ws h = absurd (omega arith)

  pub own_no_word : (ks : List ArgumentKind) (ws : List (Bor LineWord)) → length ws < 1 → [] ≡ own_types t names r ks (texts ws)
  own_no_word [] ws h = refl
  own_no_word (kind.Symbol ∷ js) [] h = refl
  own_no_word (kind.Number ∷ js) [] h = refl
  own_no_word (kind.Integer ∷ js) [] h = refl
  own_no_word (kind.Expression ∷ js) [] h = refl
  own_no_word (kind.Type ∷ js) [] h = refl
  own_no_word (j ∷ js) (w ∷ ws) h = absurd (omega arith)

  pub own_other : (ks : List ArgumentKind) (ws : List (Bor LineWord)) (d : ArgumentKind) → 1 ≤ length ks → (get_or ks 0 d ≡ kind.Symbol → ⊥) → [] ≡ own_types t names r ks (texts ws)
  own_other [] ws d h n = absurd (omega arith)
  own_other (kind.Symbol ∷ js) ws d h n = absurd (n refl)
  own_other (kind.Number ∷ js) ws d h n = refl
  own_other (kind.Integer ∷ js) ws d h n = refl
  own_other (kind.Expression ∷ js) ws d h n = refl
  own_other (kind.Type ∷ js) ws d h n = refl

-- types as arguments
pub type_taken : (s : List Tree) (types : List TermId) (i : ℕ) (d : TermId) (all : List Argument) (whole : List ArgumentTree) → i < length types → arguments_at s all ++ map AType (trees_at s (drop i types)) ≡ whole
    → arguments_at s (all ++ made.Type (get_or types i d) ∷ []) ++ map AType (trees_at s (drop (i + 1) types)) ≡ whole
unfolding argument_at
type_taken s types i d all whole lt h =
    ap (λ l. l ++ map AType (trees_at s (drop (i + 1) types))) (map-append (argument_at s) all (made.Type (get_or types i d) ∷ []))
    ∙ append_assoc (arguments_at s all) (AType (tree_at s (get_or types i d)) ∷ []) (map AType (trees_at s (drop (i + 1) types)))
    ∙ (let k = rw (drop_more types i d lt) at h in k)

pub type_is_held : (s : List Tree) (y : TermId) → Holds s y → ArgumentHeld s (made.Type y)
unfolding ArgumentHeld
type_is_held s y h = h
