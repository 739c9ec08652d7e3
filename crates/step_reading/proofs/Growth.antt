-- What was read so far, as a store grows.
use Rattle.std.proofs.Common.{◌≡◌, ℕ, ◌+◌, List, [], ◌∷◌, ◌++◌, All, Option, Some, None, refl, sym, ap, subst, ◌∙◌}
use Rattle.std.specs.Prelude.{IsSomeAnd}
use Rattle.std.proofs.lemmas.List.{map-append, length-append}
use Rattle.std.proofs.lemmas.List.Elements.{All-push}
use Rattle.tasks.specs.trees.declared.TermId.{TermId}
use Rattle.tasks.specs.trees.declared.Sort.TheVariants.{Kind}
use Rattle.tasks.specs.trees.Tree.{Tree}
use Rattle.tasks.specs.trees.Node.{tree_at, Holds, Grows}
use Rattle.tasks.specs.trees.Sorts.{sort_of}
use Rattle.trees.specs.binders.Visits.{HoldTypes, typing_stays_ready, trees_stay}
use Rattle.tasks.specs.declared.task.Task.{Task}
use Rattle.tasks.specs.Task.{TaskTree}
use Rattle.tasks.specs.Vocabulary.{of_task}
use Rattle.tasks.specs.Meaning.{trees_at, task_at, TaskHeld}
use Rattle.tasks.proofs.Growth.{held_later, all_held_later, trees_later, task_later}
use Rattle.rules.specs.declared.rule.Step.{Step}
use Rattle.rules.specs.Trees.{StepTree}
use Rattle.rules.specs.Meaning.{step_at, steps_at, StepHeld, StepsHeld}
use Rattle.kernel.proofs.Growth.{step_held_later, step_later, steps_held_later, steps_later}
use Rattle.name_tables.specs.declared.name_entries.names.NameEntry.{NameEntry}
use Rattle.step_lines.proofs.tree_lines.Growing.{types_pushed}
use Rattle.step_lines.specs.declared.thing.MadeThing.{MadeThing}
use Rattle.step_lines.specs.declared.thing.MadeThing.TheVariants as made
use Rattle.step_lines.specs.Steps.{Thing, TypeOf, PatternOf, ExpressionOf, StepOf}
use Rattle.step_lines.specs.Made.{ThingHeld, ThingFits, thing_at}
use Rattle.step_reading.specs.declared.read.Read.{Read}
use Rattle.step_reading.specs.Lines.{Reading, nothing_read, LinesMake, reading_of, IsGood, LineIsRight, line_thing, reading_with}
use Rattle.step_reading.specs.Reading.{ReadHeld, reading_at, MakesGood, IsReadKept}
use Rattle.step_reading.specs.declared.ended.ReadLines.{ReadLines}
use Rattle.step_reading.specs.Marks.{AreMarkedTyped}
use Rattle.step_reading.specs.Fed.{AreLinesRead}
use Rattle.step_reading.proofs.Progress.{make_more}
use Rattle.tasks.proofs.Closing.{open_sorted}

pub good_fits : (t : TaskTree) (tallest : Option ℕ) (before : List StepTree) (x : Thing) → IsGood t tallest before x → ThingFits x
good_fits t tallest before (TypeOf e) g = open_sorted (of_task t) e g.typed
good_fits t tallest before (PatternOf e) g = open_sorted (of_task t) e g.typed
good_fits t tallest before (ExpressionOf e) g = open_sorted (of_task t) e g.typed
good_fits t tallest before (StepOf st) g = tt

-- a line that makes nothing that fits is wrong
pub line_refused : (t : TaskTree) (names : List NameEntry) (tallest : Option ℕ) (r : Reading) (line : List ℕ) → ((x : Thing) → line_thing t names r.earlier line ≡ Some x → ThingFits x → ⊥) → LineIsRight t names tallest r line → ⊥
line_refused t names tallest r line h = at (line_thing t names r.earlier line) h where
  at : (o : Option Thing) → ((x : Thing) → o ≡ Some x → ThingFits x → ⊥) → IsSomeAnd o (IsGood t tallest r.steps) → ⊥
  at None k g = absurd g
  at (Some x) k g = k x refl (good_fits t tallest r.steps x g)

-- what a line made stays
module _ (s s' : List Tree) (g : Grows s s') where
  pub thing_held_later : (x : MadeThing) → ThingHeld s x → ThingHeld s' x
  thing_held_later (made.Type y) h = (held_later s s' g y h.0, ap sort_of (g.same y.0 h.0) ∙ h.1)
  thing_held_later (made.Pattern p) h = held_later s s' g p h
  thing_held_later (made.Expression e) h = held_later s s' g e h
  thing_held_later (made.Derived st) h = step_held_later s s' g st h

  pub thing_later : (x : MadeThing) → ThingHeld s x → thing_at s' x ≡ thing_at s x
  thing_later (made.Type y) h = ap TypeOf (g.same y.0 h.0)
  thing_later (made.Pattern p) h = ap PatternOf (g.same p.0 h)
  thing_later (made.Expression e) h = ap ExpressionOf (g.same e.0 h)
  thing_later (made.Derived st) h = ap StepOf (step_later s s' g st h)

module _ (s s' : List Tree) (g : Grows s s') (r : Read) (h : ReadHeld s r) where
  pub read_later : ReadHeld s' r
  read_later = record {
    types = typing_stays_ready s s' r.types.items g h.types;
    patterns = all_held_later s s' g r.patterns.items h.patterns;
    expressions = all_held_later s s' g r.expressions.items h.expressions;
    steps = steps_held_later s s' g r.steps.items h.steps;
  }

  pub reading_later : reading_at s' r ≡ reading_at s r
  reading_later =
      ap (λ l. reading_of l (trees_at s' r.patterns.items) (trees_at s' r.expressions.items) (steps_at s' r.steps.items)) (trees_stay Kind s s' r.types.items g h.types)
      ∙ ap (λ l. reading_of (trees_at s r.types.items) l (trees_at s' r.expressions.items) (steps_at s' r.steps.items)) (trees_later s s' g r.patterns.items h.patterns)
      ∙ ap (λ l. reading_of (trees_at s r.types.items) (trees_at s r.patterns.items) l (steps_at s' r.steps.items)) (trees_later s s' g r.expressions.items h.expressions)
      ∙ ap (reading_of (trees_at s r.types.items) (trees_at s r.patterns.items) (trees_at s r.expressions.items)) (steps_later s s' g r.steps.items h.steps)

-- one thing more
module _ (s : List Tree) (r r' : Read) (h : ReadHeld s r) where
  abbrev mk : List TermId → List TermId → List TermId → List Step → Reading
  mk ts ps es steps = reading_of (trees_at s ts) (trees_at s ps) (trees_at s es) (steps_at s steps)

  pub kept_held : (x : MadeThing) → IsReadKept x r r' → ThingHeld s x → ReadHeld s r'
  kept_held (made.Type y) k t = record {
    types = subst (HoldTypes s) (sym k.0) (types_pushed s r.types.items y h.types t);
    patterns = subst (λ (l : List TermId). All (Holds s) l) (sym k.1) h.patterns;
    expressions = subst (λ (l : List TermId). All (Holds s) l) (sym k.2) h.expressions;
    steps = subst (StepsHeld s) (sym k.3) h.steps;
  }
  kept_held (made.Pattern p) k t = record {
    types = subst (HoldTypes s) (sym k.0) h.types;
    patterns = subst (λ (l : List TermId). All (Holds s) l) (sym k.1) (All-push (Holds s) r.patterns.items p h.patterns t);
    expressions = subst (λ (l : List TermId). All (Holds s) l) (sym k.2) h.expressions;
    steps = subst (StepsHeld s) (sym k.3) h.steps;
  }
  kept_held (made.Expression e) k t = record {
    types = subst (HoldTypes s) (sym k.0) h.types;
    patterns = subst (λ (l : List TermId). All (Holds s) l) (sym k.1) h.patterns;
    expressions = subst (λ (l : List TermId). All (Holds s) l) (sym k.2) (All-push (Holds s) r.expressions.items e h.expressions t);
    steps = subst (StepsHeld s) (sym k.3) h.steps;
  }
  kept_held (made.Derived st) k t = record {
    types = subst (HoldTypes s) (sym k.0) h.types;
    patterns = subst (λ (l : List TermId). All (Holds s) l) (sym k.1) h.patterns;
    expressions = subst (λ (l : List TermId). All (Holds s) l) (sym k.2) h.expressions;
    steps = subst (StepsHeld s) (sym k.3) (All-push (StepHeld s) r.steps.items st h.steps t);
  }

  four : (ts ps es : List TermId) (steps : List Step) → r'.types.items ≡ ts → r'.patterns.items ≡ ps → r'.expressions.items ≡ es → r'.steps.items ≡ steps → reading_at s r' ≡ mk ts ps es steps
  four ts ps es steps a b c d =
      ap (λ l. mk l r'.patterns.items r'.expressions.items r'.steps.items) a ∙ ap (λ l. mk ts l r'.expressions.items r'.steps.items) b ∙ ap (λ l. mk ts ps l r'.steps.items) c ∙ ap (mk ts ps es) d

  pub kept_after : (x : MadeThing) → IsReadKept x r r' → reading_at s r' ≡ reading_with (reading_at s r) (thing_at s x)
  kept_after (made.Type y) k = four (r.types.items ++ y ∷ []) r.patterns.items r.expressions.items r.steps.items k.0 k.1 k.2 k.3 ∙ ap (λ l. reading_of l (trees_at s r.patterns.items) (trees_at s r.expressions.items) (steps_at s r.steps.items)) (map-append (tree_at s) r.types.items (y ∷ []))
  kept_after (made.Pattern p) k = four r.types.items (r.patterns.items ++ p ∷ []) r.expressions.items r.steps.items k.0 k.1 k.2 k.3 ∙ ap (λ l. reading_of (trees_at s r.types.items) l (trees_at s r.expressions.items) (steps_at s r.steps.items)) (map-append (tree_at s) r.patterns.items (p ∷ []))
  kept_after (made.Expression e) k = four r.types.items r.patterns.items (r.expressions.items ++ e ∷ []) r.steps.items k.0 k.1 k.2 k.3 ∙ ap (λ l. reading_of (trees_at s r.types.items) (trees_at s r.patterns.items) l (steps_at s r.steps.items)) (map-append (tree_at s) r.expressions.items (e ∷ []))
  kept_after (made.Derived st) k = four r.types.items r.patterns.items r.expressions.items (r.steps.items ++ st ∷ []) k.0 k.1 k.2 k.3 ∙ ap (reading_of (trees_at s r.types.items) (trees_at s r.patterns.items) (trees_at s r.expressions.items)) (map-append (step_at s) r.steps.items (st ∷ []))

-- one line more
module _ (s s' : List Tree) (g : Grows s s') (t : TaskTree) (names : List NameEntry) (tallest : Option ℕ) (lines : List (List ℕ)) (line : List ℕ) (l l' : ReadLines) (h : AreLinesRead t names tallest s lines l)
    (x : MadeThing) (k : IsReadKept x l.read l'.read) (held : ThingHeld s' x) (m : MakesGood t names tallest (reading_at s l.read) line (thing_at s' x)) (n : l'.ended ≡ l.ended + 1) (marks : AreMarkedTyped t s' l'.marks.items) where
  pub line_read : AreLinesRead t names tallest s' (lines ++ line ∷ []) l'
  line_read =
      let e : reading_with (reading_at s l.read) (thing_at s' x) ≡ reading_at s' l'.read = ap (λ q. reading_with q (thing_at s' x)) (sym (reading_later s s' g l.read h.held)) ∙ sym (kept_after s' l.read l'.read (read_later s s' g l.read h.held) x k) in
      record {
        made = subst (LinesMake t names tallest nothing_read (lines ++ line ∷ [])) e (make_more t names tallest lines line nothing_read (reading_at s l.read) (thing_at s' x) h.made m);
        count = n ∙ ap (λ i. i + 1) h.count ∙ sym (length-append lines (line ∷ []));
        held = kept_held s' l.read l'.read (read_later s s' g l.read h.held) x k held;
        marks = marks;
      }

-- a thing is good in the grown store exactly where it is in the old one
module _ (s s' : List Tree) (g : Grows s s') (task : Task) (held : TaskHeld s task) (r : Read) (h : ReadHeld s r) (names : List NameEntry) (tallest : Option ℕ) (line : List ℕ) (x : Thing)
    (made' : line_thing (task_at s task) names (reading_at s r).earlier line ≡ Some x) where
  pub good_made : IsGood (task_at s' task) tallest (steps_at s' r.steps.items) x → MakesGood (task_at s task) names tallest (reading_at s r) line x
  good_made k = record {
    made = made';
    good = subst (λ t. IsGood t tallest (steps_at s r.steps.items) x) (task_later s s' g task held) (subst (λ l. IsGood (task_at s' task) tallest l x) (steps_later s s' g r.steps.items h.steps) k);
  }

  pub wrong_made : (IsGood (task_at s' task) tallest (steps_at s' r.steps.items) x → ⊥) → LineIsRight (task_at s task) names tallest (reading_at s r) line → ⊥
  wrong_made n l =
      let k : IsGood (task_at s task) tallest (steps_at s r.steps.items) x = subst (λ o. IsSomeAnd o (IsGood (task_at s task) tallest (steps_at s r.steps.items))) made' l in
      n (subst (λ t. IsGood t tallest (steps_at s' r.steps.items) x) (sym (task_later s s' g task held)) (subst (λ l'. IsGood (task_at s task) tallest l' x) (sym (steps_later s s' g r.steps.items h.steps)) k))

-- what holds of a task and a line holds of equal ones
pub moved : (P : TaskTree → List ℕ → Type 0) (t t' : TaskTree) (line line' : List ℕ) → t ≡ t' → line ≡ line' → P t line → P t' line'
moved P t t' line line' e f p = subst (P t') f (subst (λ u. P u line) e p)
