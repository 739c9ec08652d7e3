-- Rules and steps put together of what their words write.
use Rattle.std.proofs.Common.{◌≡◌, ℕ, ◌-◌, min, List, [], ◌++◌, length, take, drop, Option, Some, None, refl, sym, ap, ◌∙◌}
use Rattle.std.specs.Option.{option_map, option_and_then}
use Rattle.std.specs.Borrow.{Bor}
use Rattle.std.proofs.lemmas.List.{map-append}
use Rattle.trees.specs.Tree.{Tree}
use Rattle.trees.specs.Node.{Grows}
use Rattle.tasks.specs.Task.{TaskTree}
use Rattle.tasks.specs.Meaning.{task_at}
use Rattle.tasks.proofs.Growth.{task_later}
use Rattle.name_tables.specs.declared.name_entries.names.NameEntry.{NameEntry}
use Rattle.rules.specs.Trees.{RuleTree, StepTree}
use Rattle.step_lines.specs.declared.rule_words.argument.Argument.{Argument}
use Rattle.step_lines.specs.declared.rule_words.argument.ArgumentKind.{ArgumentKind}
use Rattle.step_lines.specs.rule_words.Arguments.{ArgumentTree, argument_at, arguments_at}
use Rattle.step_lines.specs.rule_words.Forms.{KindsOf}
use Rattle.step_lines.specs.declared.tree_lines.known.EarlierLines.{EarlierLines}
use Rattle.step_lines.specs.tree_lines.Words.{LineWord, texts, number, at_number, each}
use Rattle.step_lines.specs.tree_lines.Lines.{Earlier}
use Rattle.step_lines.specs.tree_lines.Made.{KnownHeld, earlier_at}
use Rattle.step_lines.proofs.tree_lines.Making.{words_taken, words_left, slice_left, earlier_later}
use Rattle.step_lines.specs.Steps.{arguments, own_types, rule_arguments, rule_of_words, step_ended, step_of_line, step_by, before_colon, after_colon}

module _ (t : TaskTree) (names : List NameEntry) (r : Earlier) (ks : KindsOf) (ws : List (Bor LineWord)) (c : ℕ) (cut : c ≡ min (length ks.first) (length ws)) where
  abbrev firsts : List LineWord → Option (List ArgumentTree)
  firsts l = arguments t names r ks.first [] l

  abbrev rests : List LineWord → Option (List ArgumentTree)
  rests l = arguments t names r [] ks.repeated l

  abbrev whole : List ArgumentTree → List ArgumentTree → Option (List ArgumentTree)
  whole own first = option_map (λ rest. first ++ (own ++ rest)) (rests (drop (length ks.first) (texts ws)))

  first_words : firsts (texts (take c ws)) ≡ firsts (take (length ks.first) (texts ws))
  first_words = ap firsts (words_taken (length ks.first) ws c cut)

  rest_words : rests (texts (take (length ws - c) (drop c ws))) ≡ rests (drop (length ks.first) (texts ws))
  rest_words = ap (λ l. rests (texts l)) (slice_left c ws) ∙ ap rests (words_left (length ks.first) ws c cut)

  pub all_made : (own first rest : List ArgumentTree) → own ≡ own_types t names r ks.first (texts ws) → Some first ≡ firsts (texts (take c ws)) → Some rest ≡ rests (texts (take (length ws - c) (drop c ws))) → Some (first ++ (own ++ rest)) ≡ rule_arguments t names r ks (texts ws)
  all_made own first rest o f k =
      ap (option_map (λ l. first ++ (own ++ l))) (k ∙ rest_words) ∙ ap (λ w. whole w first) o ∙ ap (option_and_then (whole (own_types t names r ks.first (texts ws)))) (f ∙ first_words)

  pub no_first : None ≡ firsts (texts (take c ws)) → None ≡ rule_arguments t names r ks (texts ws)
  no_first f = ap (option_and_then (whole (own_types t names r ks.first (texts ws)))) (f ∙ first_words)

  pub no_rest : (first : List ArgumentTree) → Some first ≡ firsts (texts (take c ws)) → None ≡ rests (texts (take (length ws - c) (drop c ws))) → None ≡ rule_arguments t names r ks (texts ws)
  no_rest first f k =
      ap (option_map (λ l. first ++ (own_types t names r ks.first (texts ws) ++ l))) (k ∙ rest_words) ∙ ap (option_and_then (whole (own_types t names r ks.first (texts ws)))) (f ∙ first_words)

pub three_lists : (s : List Tree) (all first own rest : List Argument) → all ≡ first ++ (own ++ rest) → arguments_at s all ≡ arguments_at s first ++ (arguments_at s own ++ arguments_at s rest)
three_lists s all first own rest e =
    ap (arguments_at s) e ∙ map-append (argument_at s) first (own ++ rest) ∙ ap (λ l. arguments_at s first ++ l) (map-append (argument_at s) own rest)

-- what was known says the same in a grown store
module _ (s s' : List Tree) (g : Grows s s') (x : EarlierLines) (h : KnownHeld s x) where
  pub arguments_same : (ks again : List ArgumentKind) (ws : List LineWord) → arguments (task_at s' x.task.now) x.table.now (earlier_at s' x) ks again ws ≡ arguments (task_at s x.task.now) x.table.now (earlier_at s x) ks again ws
  arguments_same ks again ws =
      ap (λ t. arguments t x.table.now (earlier_at s' x) ks again ws) (task_later s s' g x.task.now h.task) ∙ ap (λ r. arguments (task_at s x.task.now) x.table.now r ks again ws) (earlier_later s s' g x h)

-- a step by the words after its sequent's
module _ (t : TaskTree) (names : List NameEntry) (r : Earlier) (ws front back : List LineWord) (cut : before_colon ws ≡ front) (left : after_colon ws ≡ Some back) where
  abbrev by_rule : List Tree → List LineWord → RuleTree → Option StepTree
  by_rule sequent last rule = option_map (step_by sequent rule) (each number last)

  abbrev by_last : List Tree → List LineWord → List LineWord → Option StepTree
  by_last sequent before last = option_and_then (by_rule sequent last) (rule_of_words t names r before)

  ended : (sequent : List Tree) → by_last sequent front back ≡ step_ended t names r sequent ws
  ended sequent = ap (λ l. by_last sequent l back) (sym cut) ∙ ap (option_and_then (by_last sequent (before_colon ws))) (sym left)

  pub step_made : (sequent : List Tree) (rule : RuleTree) (premises : List ℕ) → Some rule ≡ rule_of_words t names r front → Some premises ≡ each number back → Some (step_by sequent rule premises) ≡ step_ended t names r sequent ws
  step_made sequent rule premises e k = ap (option_map (step_by sequent rule)) k ∙ ap (option_and_then (by_rule sequent back)) e ∙ ended sequent

  pub no_rule : (sequent : List Tree) → None ≡ rule_of_words t names r front → None ≡ step_ended t names r sequent ws
  no_rule sequent e = ap (option_and_then (by_rule sequent back)) e ∙ ended sequent

  pub no_premises : (sequent : List Tree) (rule : RuleTree) → Some rule ≡ rule_of_words t names r front → None ≡ each number back → None ≡ step_ended t names r sequent ws
  no_premises sequent rule e k = ap (option_map (step_by sequent rule)) k ∙ ap (option_and_then (by_rule sequent back)) e ∙ ended sequent

  -- a line's step: its sequent first
  pub sequent_made : (sequent : List Tree) → Some sequent ≡ each (at_number r.expressions) front → step_ended t names r sequent back ≡ step_of_line t names r ws
  sequent_made sequent e =
      ap (option_and_then (λ q. step_ended t names r q back)) (e ∙ ap (each (at_number r.expressions)) (sym cut)) ∙ ap (option_and_then (λ rest. option_and_then (λ q. step_ended t names r q rest) (each (at_number r.expressions) (before_colon ws)))) (sym left)

  pub no_sequent : None ≡ each (at_number r.expressions) front → None ≡ step_of_line t names r ws
  no_sequent e =
      ap (option_and_then (λ q. step_ended t names r q back)) (e ∙ ap (each (at_number r.expressions)) (sym cut)) ∙ ap (option_and_then (λ rest. option_and_then (λ q. step_ended t names r q rest) (each (at_number r.expressions) (before_colon ws)))) (sym left)

pub no_end : (t : TaskTree) (names : List NameEntry) (r : Earlier) (sequent : List Tree) (ws : List LineWord) → after_colon ws ≡ None → None ≡ step_ended t names r sequent ws
no_end t names r sequent ws e = rw e refl

pub no_colon : (t : TaskTree) (names : List NameEntry) (r : Earlier) (ws : List LineWord) → after_colon ws ≡ None → None ≡ step_of_line t names r ws
no_colon t names r ws e = rw e refl
