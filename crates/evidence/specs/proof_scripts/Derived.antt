-- What lines are left of a script, what the first one means, and what steps refute.
use Rattle.std.specs.Prelude.{◌≡◌, ℕ, ◌≤◌, suc, List, [], ◌∷◌, ◌++◌, map, drop, length, All}
use Rattle.trees.specs.Tree.{Tree}
use Rattle.tasks.specs.Meaning.{trees_at}
use Rattle.evidence.specs.Drafts.{DraftTree, Refutes, RefuteAll, AreFormulas}
use Rattle.evidence.specs.declared.proof_scripts.line.Formulas.{Formulas}
use Rattle.evidence.specs.declared.proof_scripts.line.Opened.{Opened}
use Rattle.evidence.specs.declared.proof_scripts.script.Derived.{Derived}
use Rattle.evidence.specs.proof_scripts.Scripts.{LineTree, GivenLine, KeptLine, word_rule, WordHeld, ids_of, added_ids, added_at, sequents_under, IsByRule, Follows}
use Rattle.evidence.specs.proof_scripts.Words.{rule_past, WordFits}

-- the formulas that each premise adds
abbrev pub AreAdded : DraftTree → List Formulas → Type 0
AreAdded d fs = All (AreFormulas d) (map ids_of fs)

abbrev pub all_added : List Tree → List Formulas → List (List Tree)
all_added s fs = map (trees_at s) (map ids_of fs)

-- after so many lines the others refute what is left, over any draft
pub record Consumes (f : List Tree) (ls : List LineTree) (ts : List (List Tree))
    (n : ℕ) : Type 0 where
  pub left : (d : DraftTree) (rest : List (List Tree)) → Follows d f ls (ts ++ rest)
      → Follows d f (drop n ls) rest

-- further numbers of steps that refute the front with each of these tails
pub record RefuteUnder (d : DraftTree) (old new : List ℕ) (f : List Tree)
    (ts : List (List Tree)) : Type 0 where
  pub more : List ℕ
  pub is : new ≡ old ++ more
  pub refute : RefuteAll d more (map (λ t. f ++ t) ts)

-- a step for the front and a tail by some lines, at least one
pub record IsByLines (d : DraftTree) (f t : List Tree) (ls : List LineTree)
    (r : Derived) : Type 0 where
  pub refutes : Refutes d r.step (f ++ t)
  pub consumes : Consumes f ls (t ∷ []) r.used
  pub some : 1 ≤ r.used
  pub within : r.used ≤ length ls

-- steps for the front and these tails by so many lines
pub record AreByLines (d : DraftTree) (f : List Tree) (ts : List (List Tree)) (ls : List LineTree)
    (old new : List ℕ) (n : ℕ) : Type 0 where
  pub refute : RefuteUnder d old new f ts
  pub consumes : Consumes f ls ts n
  pub within : n ≤ length ls

-- a step for the front and a tail by a rule, where one line more is before those that its premises
-- take
pub record IsByRuleAndLines (d : DraftTree) (f t : List Tree) (ls : List LineTree)
    (added : List (List Tree)) (r : Derived) : Type 0 where
  pub refutes : Refutes d r.step (f ++ t)
  pub following : ℕ
  pub is : r.used ≡ suc following
  pub consumes : Consumes f ls (sequents_under t added) following
  pub within : following ≤ length ls

-- the line has a rule
abbrev pub HasRule : LineTree → Type 0
HasRule (GivenLine k n) = ⊥
HasRule (KeptLine k ps) = ⊥
HasRule _ = Unit {0}

-- some lines after this one refute the sequent and others with it
pub record CanOpen (d : DraftTree) (f t : List Tree) (l : LineTree) : Type 0 where
  pub more : List LineTree
  pub rest : List (List Tree)
  pub follows : Follows d f (l ∷ more) (t ∷ rest)

-- the line's rule, with what its premises add, which lines after it refute, over any draft
pub record IsLineOpened (d : DraftTree) (f t : List Tree) (l : LineTree) (o : Opened) : Type 0 where
  pub word : WordHeld d.trees o.word
  pub fits : WordFits o.before o.word
  pub first : All (AreFormulas d) (added_ids o.sides.first)
  pub second : All (AreFormulas d) (added_ids o.sides.second)
  pub rule : IsByRule d.task (f ++ t) (rule_past o.before (word_rule d.trees o.word))
      (added_at d.trees o.sides.first ++ added_at d.trees o.sides.second)
  pub opens : (g : DraftTree) (ls : List LineTree) (r : List (List Tree))
      → Follows g f (l ∷ ls) (t ∷ r)
      → Follows g f ls ((sequents_under t (added_at d.trees o.sides.first)
      ++ sequents_under t (added_at d.trees o.sides.second)) ++ r)
