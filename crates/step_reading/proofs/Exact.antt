-- A file whose steps derive the task has no wrong line, and a file has one first wrong line at most.
use Rattle.std.proofs.Common.{◌≡◌, ℕ, zero, suc, List, [], ◌∷◌, Option, Some, None, refl, sym, ap, ◌∙◌}
use Rattle.std.specs.Prelude.{IsSomeAnd}
use Rattle.tasks.specs.Task.{TaskTree}
use Rattle.rules.specs.Trees.{StepTree}
use Rattle.name_tables.specs.declared.name_entries.names.NameEntry.{NameEntry}
use Rattle.step_reading.specs.Words.{lines_of}
use Rattle.step_lines.specs.Steps.{Thing}
use Rattle.step_reading.specs.Lines.{Reading, nothing_read, line_thing, IsGood, reading_with, AreRead, IsWrongLine, StepsOf, LinesMake, IsWrongAmong}
use Rattle.step_reading.specs.declared.fault.ReadFault.{ReadFault}
use Rattle.step_reading.specs.declared.fault.ReadFault.TheVariants.{Memory, WrongLine}
use Rattle.step_reading.specs.Reading.{IsReadFault}

first_of : (o : Option Thing) (P Q : Thing → Type 0) → IsSomeAnd o (λ x. P x × Q x) → IsSomeAnd o P
first_of None P Q h = absurd h
first_of (Some x) P Q h = h.0

-- what holds of one thing holds of it together
both_of : (o : Option Thing) (P Q R : Thing → Type 0) → IsSomeAnd o (λ x. P x × Q x) → IsSomeAnd o (λ x. P x × R x) → (x : Thing) × Q x × R x
both_of None P Q R h k = absurd h
both_of (Some x) P Q R h k = (x, h.1, k.1)

module _ (t : TaskTree) (names : List NameEntry) (tallest : Option ℕ) where
  pub read_not_wrong : (lines : List (List ℕ)) (r : Reading) (steps : List StepTree) (k : ℕ) → AreRead t names tallest r lines steps → IsWrongLine t names tallest r lines k → ⊥
  read_not_wrong [] r steps k a w = w.1 a.1
  read_not_wrong (line ∷ lines) r steps zero a w = w (first_of (line_thing t names r.earlier line) (IsGood t tallest r.steps) (λ x. AreRead t names tallest (reading_with r x) lines steps) a)
  read_not_wrong (line ∷ lines) r steps (suc k) a w =
      let b = both_of (line_thing t names r.earlier line) (IsGood t tallest r.steps) (λ x. AreRead t names tallest (reading_with r x) lines steps) (λ x. IsWrongLine t names tallest (reading_with r x) lines k) a w in
      read_not_wrong lines (reading_with r b.0) steps k b.1 b.2

  pub one_wrong_line : (lines : List (List ℕ)) (r : Reading) (k j : ℕ) → IsWrongLine t names tallest r lines k → IsWrongLine t names tallest r lines j → k ≡ j
  one_wrong_line [] r k j v w = v.0 ∙ sym w.0
  one_wrong_line (line ∷ lines) r zero zero v w = refl
  one_wrong_line (line ∷ lines) r zero (suc j) v w = absurd (v (first_of (line_thing t names r.earlier line) (IsGood t tallest r.steps) (λ x. IsWrongLine t names tallest (reading_with r x) lines j) w))
  one_wrong_line (line ∷ lines) r (suc k) zero v w = absurd (w (first_of (line_thing t names r.earlier line) (IsGood t tallest r.steps) (λ x. IsWrongLine t names tallest (reading_with r x) lines k) v))
  one_wrong_line (line ∷ lines) r (suc k) (suc j) v w =
      let b = both_of (line_thing t names r.earlier line) (IsGood t tallest r.steps) (λ x. IsWrongLine t names tallest (reading_with r x) lines k) (λ x. IsWrongLine t names tallest (reading_with r x) lines j) v w in
      ap suc (one_wrong_line lines (reading_with r b.0) k j b.1 b.2)

  -- among lines that are all right none is wrong
  pub none_wrong : (lines : List (List ℕ)) (r r' : Reading) (k : ℕ) → LinesMake t names tallest r lines r' → IsWrongAmong t names tallest r lines k → ⊥
  none_wrong [] r r' k a w = w
  none_wrong (line ∷ lines) r r' zero a w = w (first_of (line_thing t names r.earlier line) (IsGood t tallest r.steps) (λ x. LinesMake t names tallest (reading_with r x) lines r') a)
  none_wrong (line ∷ lines) r r' (suc k) a w =
      let b = both_of (line_thing t names r.earlier line) (IsGood t tallest r.steps) (λ x. LinesMake t names tallest (reading_with r x) lines r') (λ x. IsWrongAmong t names tallest (reading_with r x) lines k) a w in
      none_wrong lines (reading_with r b.0) r' k b.1 b.2

  -- a refusal of a file whose steps derive the task is want of memory
  pub refused_for_memory : (bytes : List ℕ) (e : ReadFault) → IsReadFault t names tallest bytes e → (steps : List StepTree) → StepsOf t names tallest bytes steps → e ≡ Memory
  refused_for_memory bytes Memory h = λ steps a. refl
  refused_for_memory bytes (WrongLine line) h = λ steps a. absurd (read_not_wrong (lines_of bytes) nothing_read steps h.0 a h.2)
