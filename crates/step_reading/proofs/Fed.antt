-- What a reader holds as bytes come, and what its refusals say.
use Rattle.std.proofs.Common.{◌≡◌, ℕ, ◌+◌, ◌<◌, ◌==◌, false, List, [], ◌∷◌, ◌++◌, length, get_or, take, drop, All, Option, Some, None, Result, Ok, Err, refl, sym, ap, subst, ◌∙◌, arith}
use Rattle.std.specs.Prelude.{IfSome, IfNone, IfOk, IfErr, OnOk, IsErrAnd}
use Rattle.std.proofs.lemmas.List.Elements.{All-nil}
use Rattle.std.proofs.lemmas.List.{append_assoc, append-nil, take-append-drop, take_more}
use Rattle.tasks.specs.trees.declared.TermId.{TermId}
use Rattle.tasks.specs.trees.Tree.{Tree}
use Rattle.tasks.specs.trees.Node.{Holds}
use Rattle.trees.specs.binders.Visits.{HoldTypes}
use Rattle.tasks.specs.Task.{TaskTree}
use Rattle.tasks.specs.declared.task.Task.{Task}
use Rattle.tasks.specs.Meaning.{trees_at, task_at}
use Rattle.kernel.specs.Right.{last_starts}
use Rattle.rules.specs.declared.rule.Step.{Step}
use Rattle.rules.specs.Meaning.{steps_at, StepHeld, StepsHeld}
use Rattle.name_tables.specs.declared.name_entries.names.NameEntry.{NameEntry}
use Rattle.step_reading.specs.Words.{lines_of, ended_lines}
use Rattle.step_reading.specs.Marks.{AreMarkedTyped}
use Rattle.step_reading.specs.Lines.{nothing_read, reading_of, LinesMake, IsWrongLine, FirstWrongAmong, StepsOf}
use Rattle.step_reading.specs.Reading.{ReadHeld, reading_at, IsReadFault}
use Rattle.step_reading.specs.Fed.{AreTablesOf, AreLinesRead, AreBytesRead, IsLineFault, IsUnfinished, IsFed}
use Rattle.step_reading.specs.declared.fault.ReadFault.{ReadFault}
use Rattle.step_reading.specs.declared.fault.ReadFault.TheVariants.{Memory, WrongLine}
use Rattle.step_reading.specs.declared.ended.ReadLines.{ReadLines}
use Rattle.step_reading.specs.declared.feeding.StepReader.{StepReader}
use Rattle.step_reading.proofs.Splitting.{kept, part_ended, part_longer, ended_parts, lines_parts, has_parts, ended_more}
use Rattle.step_reading.proofs.Progress.{wrong_longer, wrong_of_file, read_to_end, no_start}
use Rattle.step_reading.proofs.Exact.{none_wrong}
use Rattle.step_reading.proofs.Marking.{none_typed}

-- bytes and a piece of which so many were read
pub fed_so_far : (bytes piece : List ℕ) (i : ℕ) → i < length piece → bytes ++ take (i + 1) piece ≡ (bytes ++ take i piece) ++ get_or piece i 0 ∷ []
fed_so_far bytes piece i h = ap (λ p. bytes ++ p) (take_more piece i 0 h) ∙ sym (append_assoc bytes (take i piece) (get_or piece i 0 ∷ []))

pub fed_whole : (bytes piece : List ℕ) (i : ℕ) → (bytes ++ take i piece) ++ drop i piece ≡ bytes ++ piece
fed_whole bytes piece i = append_assoc bytes (take i piece) (drop i piece) ∙ ap (λ p. bytes ++ p) (take-append-drop i piece)

nothing : (w : List ℕ) → length w ≡ 0 → w ≡ []
nothing [] e = refl
nothing (c ∷ cs) e = absurd (omega (arith, e))

-- nothing of a file is left
pub fed_all : (front rest bytes : List ℕ) → front ++ rest ≡ bytes → length rest ≡ 0 → front ≡ bytes
fed_all front rest bytes e n = sym (append-nil front) ∙ ap (λ l. front ++ l) (sym (nothing rest n)) ∙ e

-- what is said of an answer, by two things that are
pub both_ok : {Z : Type 0} {P Q R : Type 0} (r : Result Z ReadFault) → OnOk r P → OnOk r Q → (P → Q → R) → OnOk r R
both_ok (Ok v) p q f = f p q
both_ok (Err e) p q f = tt

-- steps that are those of lines
pub if_items : {Z : Type 0} (r : Result Z ReadFault) (items : Z → List Step) (steps : List Step) (S : Type 0) (P : List Step → Type 0) → IfOk r (λ v. items v ≡ steps) → IfOk r (λ _. S) → (S → P steps) → IfOk r (λ v. P (items v))
if_items (Ok v) items steps S P is h f = subst P (sym is) (f h)
if_items (Err e) items steps S P is h f = tt

-- a refusal that is passed on says the same
pub passed_on : {V : Type 0} (r : Result V ReadFault) (e : ReadFault) (P : ReadFault → Type 0) → IsErrAnd r (λ x. x ≡ e) → P e → IfErr r P
passed_on (Ok v) e P is h = tt
passed_on (Err x) e P is h = subst P (sym is) h

module _ (t : TaskTree) (names : List NameEntry) (tallest : Option ℕ) where
  -- nothing was read yet
  pub none_fed : (s : List Tree) (l : ReadLines) → l.read.types.items ≡ [] → l.read.patterns.items ≡ [] → l.read.expressions.items ≡ [] → l.read.steps.items ≡ [] → l.marks.items ≡ [] → l.ended ≡ 0 → l.rest.items ≡ []
      → AreBytesRead t names tallest s [] l
  none_fed s l types patterns expressions steps marks ended rest = record {
    lines = [];
    parts = ap (λ w. w ∷ []) (sym rest);
    read = record {
      made = ap (λ x. reading_of (trees_at s x) (trees_at s l.read.patterns.items) (trees_at s l.read.expressions.items) (steps_at s l.read.steps.items)) types
          ∙ ap (λ x. reading_of [] (trees_at s x) (trees_at s l.read.expressions.items) (steps_at s l.read.steps.items)) patterns
          ∙ ap (λ x. reading_of [] [] (trees_at s x) (steps_at s l.read.steps.items)) expressions
          ∙ ap (λ x. reading_of [] [] [] (steps_at s x)) steps;
      count = ended;
      held = record {
        types = subst (HoldTypes s) (sym types) tt;
        patterns = subst (λ (x : List TermId). All (Holds s) x) (sym patterns) (All-nil (Holds s));
        expressions = subst (λ (x : List TermId). All (Holds s) x) (sym expressions) (All-nil (Holds s));
        steps = subst (StepsHeld s) (sym steps) (All-nil (StepHeld s));
      };
      marks = subst (AreMarkedTyped t s) (sym marks) (none_typed t s);
    };
  }

  fault_more : (lines more : List (List ℕ)) (e : ReadFault) → IsLineFault t names tallest lines e → IsLineFault t names tallest (lines ++ more) e
  fault_more lines more Memory h = tt
  fault_more lines more (WrongLine line) h = (h.0, h.1, wrong_longer t names tallest lines more nothing_read h.0 h.2)

  -- what a refusal says stays true as bytes come
  pub fault_longer : (bytes more : List ℕ) (e : ReadFault) → IsLineFault t names tallest (ended_lines bytes) e → IsLineFault t names tallest (ended_lines (bytes ++ more)) e
  fault_longer bytes more e h =
      let m = ended_more bytes more in
      subst (λ ls. IsLineFault t names tallest ls e) (sym m.are) (fault_more (ended_lines bytes) m.others e h)

  lines_fault : (lines : List (List ℕ)) (bytes : List ℕ) → lines_of bytes ≡ lines → (e : ReadFault) → IsLineFault t names tallest lines e → IsReadFault t names tallest bytes e
  lines_fault lines bytes is Memory h = tt
  lines_fault lines bytes is (WrongLine line) h = (h.0, h.1, subst (λ ls. IsWrongLine t names tallest nothing_read ls h.0) (sym is) (wrong_of_file t names tallest lines nothing_read h.0 h.2))

  -- a fault of ended lines is one of the file
  pub fault_of_file : (bytes : List ℕ) (e : ReadFault) → IsLineFault t names tallest (ended_lines bytes) e → IsReadFault t names tallest bytes e
  fault_of_file bytes e h =
      let p = has_parts bytes in
      let is = lines_parts bytes p.front p.last p.are ∙ ap (λ ls. ls ++ kept p.last) (sym (ended_parts bytes p.front p.last p.are)) in
      lines_fault (ended_lines bytes ++ kept p.last) bytes is e (fault_more (ended_lines bytes) (kept p.last) e h)

  module _ (s : List Tree) (bytes : List ℕ) (l : ReadLines) (h : AreBytesRead t names tallest s bytes l) where
    ended_are : ended_lines bytes ≡ h.lines
    ended_are = ended_parts bytes h.lines l.rest.items h.parts

    ended_next : ended_lines (bytes ++ 10 ∷ []) ≡ h.lines ++ l.rest.items ∷ []
    ended_next = ended_parts (bytes ++ 10 ∷ []) (h.lines ++ l.rest.items ∷ []) [] (part_ended bytes h.lines l.rest.items h.parts)

    -- none of the ended lines is wrong
    pub ended_right : (line : ℕ) → FirstWrongAmong t names tallest (ended_lines bytes) line → ⊥
    ended_right line w = none_wrong t names tallest h.lines nothing_read (reading_at s l.read) w.0 h.read.made (subst (λ ls. FirstWrongAmong t names tallest ls line) ended_are w).2

    -- a line feed ends the unfinished line
    pub line_fed : (s' : List Tree) (l' : ReadLines) → AreLinesRead t names tallest s' (h.lines ++ l.rest.items ∷ []) l' → l'.rest.items ≡ [] → AreBytesRead t names tallest s' (bytes ++ 10 ∷ []) l'
    line_fed s' l' r e = record { lines = h.lines ++ l.rest.items ∷ []; parts = part_ended bytes h.lines l.rest.items h.parts ∙ ap (λ w. (h.lines ++ l.rest.items ∷ []) ++ w ∷ []) (sym e); read = r }

    pub line_fault : (e : ReadFault) → IsLineFault t names tallest (h.lines ++ l.rest.items ∷ []) e → IsLineFault t names tallest (ended_lines (bytes ++ 10 ∷ [])) e
    line_fault e f = subst (λ ls. IsLineFault t names tallest ls e) (sym ended_next) f

    -- any other byte goes to it
    pub byte_kept : (c : ℕ) → (c == 10) ≡ false → (l' : ReadLines) → l'.read ≡ l.read → l'.marks.items ≡ l.marks.items → l'.ended ≡ l.ended → l'.rest.items ≡ l.rest.items ++ c ∷ [] → AreBytesRead t names tallest s (bytes ++ c ∷ []) l'
    byte_kept c n l' read marks ended rest = record {
      lines = h.lines;
      parts = part_longer bytes h.lines l.rest.items h.parts c n ∙ ap (λ w. h.lines ++ w ∷ []) (sym rest);
      read = record {
        made = subst (λ r. LinesMake t names tallest nothing_read h.lines (reading_at s r)) (sym read) h.read.made;
        count = ended ∙ h.read.count;
        held = subst (ReadHeld s) (sym read) h.read.held;
        marks = subst (AreMarkedTyped t s) (sym marks) h.read.marks;
      };
    }

    -- all lines are ended
    pub all_ended : length l.rest.items ≡ 0 → AreLinesRead t names tallest s (lines_of bytes) l
    all_ended e = subst (λ ls. AreLinesRead t names tallest s ls l) (sym (lines_parts bytes h.lines l.rest.items h.parts ∙ ap (λ w. h.lines ++ kept w) (nothing l.rest.items e) ∙ append-nil h.lines)) h.read

    kept_all : (w : List ℕ) → (length w ≡ 0 → ⊥) → kept w ≡ w ∷ []
    kept_all [] n = absurd (n refl)
    kept_all (c ∷ cs) n = refl

    last_ended : (length l.rest.items ≡ 0 → ⊥) → lines_of bytes ≡ ended_lines (bytes ++ 10 ∷ [])
    last_ended n = lines_parts bytes h.lines l.rest.items h.parts ∙ ap (λ ls. h.lines ++ ls) (kept_all l.rest.items n) ∙ sym ended_next

    -- the last line was ended by a line feed that isn't there
    pub last_read : (length l.rest.items ≡ 0 → ⊥) → (s' : List Tree) (l' : ReadLines) → AreBytesRead t names tallest s' (bytes ++ 10 ∷ []) l' → AreLinesRead t names tallest s' (lines_of bytes) l'
    last_read n s' l' b = subst (λ ls. AreLinesRead t names tallest s' ls l') (sym (last_ended n ∙ ended_parts (bytes ++ 10 ∷ []) b.lines l'.rest.items b.parts)) b.read

    pub last_fault : (length l.rest.items ≡ 0 → ⊥) → (e : ReadFault) → IsLineFault t names tallest (ended_lines (bytes ++ 10 ∷ [])) e → IsReadFault t names tallest bytes e
    last_fault n e f = lines_fault (ended_lines (bytes ++ 10 ∷ [])) bytes (last_ended n) e f

  -- the lines of a file are all read
  module _ (s : List Tree) (bytes : List ℕ) (l : ReadLines) (h : AreLinesRead t names tallest s (lines_of bytes) l) where
    pub file_read : last_starts t (reading_at s l.read).steps → StepsOf t names tallest bytes (reading_at s l.read).steps
    file_read starts = read_to_end t names tallest (lines_of bytes) nothing_read (reading_at s l.read) h.made starts

    pub file_fault : (e : ReadFault) → IsUnfinished t (reading_at s l.read).steps l.ended e → IsReadFault t names tallest bytes e
    file_fault Memory h' = tt
    file_fault (WrongLine line) h' = (length (lines_of bytes), h'.0 ∙ ap (λ k. k + 1) h.count, no_start t names tallest (lines_of bytes) nothing_read (reading_at s l.read) h.made h'.1)

-- a reader that was fed bytes, as the next piece comes
module _ (s : List Tree) (task : Task) (names : List NameEntry) (bytes : List ℕ) (r : StepReader) (h : IsFed s task names bytes r) where
  pub bytes_read : r.fault ≡ None → AreBytesRead (task_at s task) names r.tallest s bytes r.lines
  bytes_read e = subst (λ o. IfNone o (AreBytesRead (task_at s task) names r.tallest s bytes r.lines)) e h.read

  pub fault_said : (e : ReadFault) → r.fault ≡ Some e → IsLineFault (task_at s task) names r.tallest (ended_lines bytes) e
  fault_said e is = subst (λ o. IfSome o (IsLineFault (task_at s task) names r.tallest (ended_lines bytes))) is h.fault

  -- it refused before
  pub still_refused : (more : List ℕ) (e : ReadFault) → r.fault ≡ Some e → IsFed s task names (bytes ++ more) r
  still_refused more e is = record {
    tables = h.tables;
    read = subst (λ o. IfNone o (AreBytesRead (task_at s task) names r.tallest s (bytes ++ more) r.lines)) (sym is) tt;
    fault = subst (λ o. IfSome o (IsLineFault (task_at s task) names r.tallest (ended_lines (bytes ++ more)))) (sym is) (fault_longer (task_at s task) names r.tallest bytes more e (fault_said e is));
  }

-- a reader after a piece
module _ (t : TaskTree) (s : List Tree) (task : Task) (names : List NameEntry) (bytes : List ℕ) (r : StepReader) (same : task_at s task ≡ t) (tables' : IfSome r.tables (AreTablesOf task names)) where
  -- that it read
  pub fed_on : r.fault ≡ None → AreBytesRead t names r.tallest s bytes r.lines → IsFed s task names bytes r
  fed_on is b = record {
    tables = tables';
    read = subst (λ o. IfNone o (AreBytesRead (task_at s task) names r.tallest s bytes r.lines)) (sym is) (subst (λ u. AreBytesRead u names r.tallest s bytes r.lines) (sym same) b);
    fault = subst (λ o. IfSome o (IsLineFault (task_at s task) names r.tallest (ended_lines bytes))) (sym is) tt;
  }

  -- that it refused
  pub now_refused : (e : ReadFault) → r.fault ≡ Some e → IsLineFault t names r.tallest (ended_lines bytes) e → IsFed s task names bytes r
  now_refused e is f = record {
    tables = tables';
    read = subst (λ o. IfNone o (AreBytesRead (task_at s task) names r.tallest s bytes r.lines)) (sym is) tt;
    fault = subst (λ o. IfSome o (IsLineFault (task_at s task) names r.tallest (ended_lines bytes))) (sym is) (subst (λ u. IsLineFault u names r.tallest (ended_lines bytes) e) (sym same) f);
  }
