-- Reading line by line: what right lines make, and which line is the first wrong one.
use Rattle.std.proofs.Common.{◌≡◌, ℕ, zero, suc, List, [], ◌∷◌, ◌++◌, length, Option, Some, None, Bool, true, false, refl, sym, ap, subst, arith}
use Rattle.std.specs.Prelude.{IsSomeAnd, IsTrue}
use Rattle.tasks.specs.Task.{TaskTree}
use Rattle.kernel.specs.Right.{AreRight, last_starts}
use Rattle.kernel.proofs.Growth.{right_more}
use Rattle.name_tables.specs.declared.name_entries.names.NameEntry.{NameEntry}
use Rattle.step_lines.specs.Steps.{Thing, TypeOf, PatternOf, ExpressionOf, StepOf}
use Rattle.step_reading.specs.Lines.{Reading, nothing_read, line_thing, IsGood, LineIsRight, reading_with, AreRead, IsWrongLine, LinesMake, IsWrongAmong}
use Rattle.step_reading.specs.Reading.{MakesGood}

abbrev OnlyFalse : Bool → Type 0
OnlyFalse true = ⊥
OnlyFalse false = Unit {0}

pub no_true : IsTrue false → ⊥
no_true h = subst OnlyFalse h tt

some_more : (o : Option Thing) (P Q : Thing → Type 0) → ((x : Thing) → P x → Q x) → IsSomeAnd o P → IsSomeAnd o Q
some_more None P Q f h = absurd h
some_more (Some x) P Q f h = f x h

from_some : (o : Option Thing) (P : Thing → Type 0) (Z : Type 0) → ((x : Thing) → P x → Z) → IsSomeAnd o P → Z
from_some None P Z f h = absurd h
from_some (Some x) P Z f h = f x h

module _ (t : TaskTree) (names : List NameEntry) (tallest : Option ℕ) where
  -- what a line makes, and what holds of what was read then
  abbrev Next : Reading → List ℕ → (Reading → Type 0) → Type 0
  Next r line P = IsSomeAnd (line_thing t names r.earlier line) (λ x. IsGood t tallest r.steps x × P (reading_with r x))

  next_more : (r : Reading) (line : List ℕ) (P Q : Reading → Type 0) → ((q : Reading) → P q → Q q) → Next r line P → Next r line Q
  next_more r line P Q f h =
      some_more (line_thing t names r.earlier line) (λ x. IsGood t tallest r.steps x × P (reading_with r x)) (λ x. IsGood t tallest r.steps x × Q (reading_with r x)) (λ x k. (k.0, f (reading_with r x) k.1)) h

  -- one right line more
  pub make_more : (lines : List (List ℕ)) (line : List ℕ) (r0 r : Reading) (x : Thing) → LinesMake t names tallest r0 lines r → MakesGood t names tallest r line x
      → LinesMake t names tallest r0 (lines ++ line ∷ []) (reading_with r x)
  make_more [] line r0 r x h m = subst (λ q. Next q line (λ p. reading_with r x ≡ p)) h (subst (λ o. IsSomeAnd o (λ y. IsGood t tallest r.steps y × (reading_with r x ≡ reading_with r y))) (sym m.made) (m.good, refl))
  make_more (l ∷ lines) line r0 r x h m = next_more r0 l (λ q. LinesMake t names tallest q lines r) (λ q. LinesMake t names tallest q (lines ++ line ∷ []) (reading_with r x)) (λ q k. make_more lines line q r x k m) h

  -- the line after right ones is wrong
  pub wrong_after : (lines : List (List ℕ)) (line : List ℕ) (r0 r : Reading) → LinesMake t names tallest r0 lines r → (LineIsRight t names tallest r line → ⊥) → IsWrongAmong t names tallest r0 (lines ++ line ∷ []) (length lines)
  wrong_after [] line r0 r h n = subst (λ q. LineIsRight t names tallest q line → ⊥) h n
  wrong_after (l ∷ lines) line r0 r h n = next_more r0 l (λ q. LinesMake t names tallest q lines r) (λ q. IsWrongAmong t names tallest q (lines ++ line ∷ []) (length lines)) (λ q k. wrong_after lines line q r k n) h

  -- the first wrong line stays so, whatever lines follow
  pub wrong_longer : (lines more : List (List ℕ)) (r : Reading) (k : ℕ) → IsWrongAmong t names tallest r lines k → IsWrongAmong t names tallest r (lines ++ more) k
  wrong_longer [] more r k w = absurd w
  wrong_longer (l ∷ lines) more r zero w = w
  wrong_longer (l ∷ lines) more r (suc k) w = next_more r l (λ q. IsWrongAmong t names tallest q lines k) (λ q. IsWrongAmong t names tallest q (lines ++ more) k) (λ q v. wrong_longer lines more q k v) w

  pub wrong_of_file : (lines : List (List ℕ)) (r : Reading) (k : ℕ) → IsWrongAmong t names tallest r lines k → IsWrongLine t names tallest r lines k
  wrong_of_file [] r k w = absurd w
  wrong_of_file (l ∷ lines) r zero w = w
  wrong_of_file (l ∷ lines) r (suc k) w = next_more r l (λ q. IsWrongAmong t names tallest q lines k) (λ q. IsWrongLine t names tallest q lines k) (λ q v. wrong_of_file lines q k v) w

  -- all lines are right, and the last step has the start, or not
  pub read_to_end : (lines : List (List ℕ)) (r0 r : Reading) → LinesMake t names tallest r0 lines r → last_starts t r.steps → AreRead t names tallest r0 lines r.steps
  read_to_end [] r0 r h s = (ap (λ q. q.steps) h, subst (λ q. last_starts t q.steps) h s)
  read_to_end (l ∷ lines) r0 r h s = next_more r0 l (λ q. LinesMake t names tallest q lines r) (λ q. AreRead t names tallest q lines r.steps) (λ q k. read_to_end lines q r k s) h

  pub no_start : (lines : List (List ℕ)) (r0 r : Reading) → LinesMake t names tallest r0 lines r → (last_starts t r.steps → ⊥) → IsWrongLine t names tallest r0 lines (length lines)
  no_start [] r0 r h n = (refl, subst (λ q. last_starts t q.steps → ⊥) h n)
  no_start (l ∷ lines) r0 r h n = next_more r0 l (λ q. LinesMake t names tallest q lines r) (λ q. IsWrongLine t names tallest q lines (length lines)) (λ q k. no_start lines q r k n) h

  good_kept : (r : Reading) (x : Thing) → AreRight t r.steps → IsGood t tallest r.steps x → AreRight t (reading_with r x).steps
  good_kept r (TypeOf a) h g = h
  good_kept r (PatternOf a) h g = h
  good_kept r (ExpressionOf a) h g = h
  good_kept r (StepOf st) h g = right_more t r.steps st h g

  made_right : (lines : List (List ℕ)) (r0 r : Reading) → AreRight t r0.steps → LinesMake t names tallest r0 lines r → AreRight t r.steps
  made_right [] r0 r a h = subst (λ q. AreRight t q.steps) (sym h) a
  made_right (l ∷ lines) r0 r a h =
      from_some (line_thing t names r0.earlier l) (λ x. IsGood t tallest r0.steps x × LinesMake t names tallest (reading_with r0 x) lines r) (AreRight t r.steps) (λ x k. made_right lines (reading_with r0 x) r (good_kept r0 x a k.0) k.1) h

  -- the steps of right lines are right
  pub steps_right : (lines : List (List ℕ)) (r : Reading) → LinesMake t names tallest nothing_read lines r → AreRight t r.steps
  steps_right lines r h = made_right lines nothing_read r (λ k l. absurd (omega arith)) h
