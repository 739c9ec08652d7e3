-- A step file is a derivation or has a first wrong line, never both, and one such line.
use Rattle.std.proofs.Common.{◌≡◌, ◌+◌, ◌∙◌, ℕ, zero, suc, List, [], ◌∷◌, Option, Some, None, IsSomeAnd, sym, ap, refl}
use Rattle.tasks.specs.Task.{TaskTree}
use Rattle.rules.specs.Trees.{StepTree}
use Rattle.step_writing.specs.name_tables.declared.name_entries.names.NameEntry.{NameEntry}
use Rattle.step_writing.specs.step_reading.Words.{lines_of}
use Rattle.step_writing.specs.step_reading.Lines.{Reading, nothing_read, line_thing, IsGood, reading_with, AreRead, IsWrongLine, StepsOf, FirstWrong}

some_both : {A : Type 0} (o : Option A) (P Q : A → Type 0) (C : Type 0) → IsSomeAnd o P → IsSomeAnd o Q → ((x : A) → P x → Q x → C) → C
some_both None P Q C p q f = absurd p
some_both (Some x) P Q C p q f = f x p q

some_first : {A : Type 0} (o : Option A) (P Q : A → Type 0) → IsSomeAnd o (λ x. P x × Q x) → IsSomeAnd o P
some_first None P Q p = p
some_first (Some x) P Q p = p.0

module _ (t : TaskTree) (names : List NameEntry) (tallest : Option ℕ) where
  read_no_wrong : (r : Reading) (lines : List (List ℕ)) (steps : List StepTree) (k : ℕ) → AreRead t names tallest r lines steps → IsWrongLine t names tallest r lines k → ⊥
  read_no_wrong r [] steps k a w = w.1 a.1
  read_no_wrong r (line ∷ lines) steps zero a w = w (some_first (line_thing t names r.earlier line) (IsGood t tallest r.steps) (λ x. AreRead t names tallest (reading_with r x) lines steps) a)
  read_no_wrong r (line ∷ lines) steps (suc k) a w =
      some_both (line_thing t names r.earlier line) (λ x. IsGood t tallest r.steps x × AreRead t names tallest (reading_with r x) lines steps) (λ x. IsGood t tallest r.steps x × IsWrongLine t names tallest (reading_with r x) lines k) ⊥ a w
      (λ x p q. read_no_wrong (reading_with r x) lines steps k p.1 q.1)

  wrong_once : (r : Reading) (lines : List (List ℕ)) (k l : ℕ) → IsWrongLine t names tallest r lines k → IsWrongLine t names tallest r lines l → k ≡ l
  wrong_once r [] k l a b = a.0 ∙ sym b.0
  wrong_once r (line ∷ lines) zero zero a b = refl
  wrong_once r (line ∷ lines) zero (suc l) a b = absurd (a (some_first (line_thing t names r.earlier line) (IsGood t tallest r.steps) (λ x. IsWrongLine t names tallest (reading_with r x) lines l) b))
  wrong_once r (line ∷ lines) (suc k) zero a b = absurd (b (some_first (line_thing t names r.earlier line) (IsGood t tallest r.steps) (λ x. IsWrongLine t names tallest (reading_with r x) lines k) a))
  wrong_once r (line ∷ lines) (suc k) (suc l) a b =
      some_both (line_thing t names r.earlier line) (λ x. IsGood t tallest r.steps x × IsWrongLine t names tallest (reading_with r x) lines k) (λ x. IsGood t tallest r.steps x × IsWrongLine t names tallest (reading_with r x) lines l) (suc k ≡ suc l) a b
      (λ x p q. ap suc (wrong_once (reading_with r x) lines k l p.1 q.1))

  read_once : (r : Reading) (lines : List (List ℕ)) (steps others : List StepTree) → AreRead t names tallest r lines steps → AreRead t names tallest r lines others → steps ≡ others
  read_once r [] steps others a b = a.0 ∙ sym b.0
  read_once r (line ∷ lines) steps others a b =
      some_both (line_thing t names r.earlier line) (λ x. IsGood t tallest r.steps x × AreRead t names tallest (reading_with r x) lines steps) (λ x. IsGood t tallest r.steps x × AreRead t names tallest (reading_with r x) lines others) (steps ≡ others) a b
      (λ x p q. read_once (reading_with r x) lines steps others p.1 q.1)

pub one_outcome : (t : TaskTree) (names : List NameEntry) (tallest : Option ℕ) (bytes : List ℕ) (steps : List StepTree) (line : ℕ) → StepsOf t names tallest bytes steps → FirstWrong t names tallest bytes line → ⊥
one_outcome t names tallest bytes steps line a w = read_no_wrong t names tallest nothing_read (lines_of bytes) steps w.0 a w.2

pub one_wrong : (t : TaskTree) (names : List NameEntry) (tallest : Option ℕ) (bytes : List ℕ) (line other : ℕ) → FirstWrong t names tallest bytes line → FirstWrong t names tallest bytes other → line ≡ other
one_wrong t names tallest bytes line other a b =
    let same : a.0 ≡ b.0 = wrong_once t names tallest nothing_read (lines_of bytes) a.0 b.0 a.2 b.2 in
    a.1 ∙ ap (λ (k : ℕ). k + 1) same ∙ sym b.1

pub one_list : (t : TaskTree) (names : List NameEntry) (tallest : Option ℕ) (bytes : List ℕ) (steps others : List StepTree) → StepsOf t names tallest bytes steps → StepsOf t names tallest bytes others → steps ≡ others
one_list t names tallest bytes steps others a b = read_once t names tallest nothing_read (lines_of bytes) steps others a b
