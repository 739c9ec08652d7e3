-- Scripts of derivations: a list of lines, each of which says by what rule a sequent is refuted and
-- which formulas each premise adds to it. The lines come in the order in which the sequents open: a
-- premise's lines follow its step's line.
use Rattle.std.specs.Prelude.{◌≡◌, ◌≤◌, ◌+◌, ℕ, List, [], ◌∷◌, ◌++◌, map, length, slice_get, All, Option, Some, None, IsSomeAnd}
use Rattle.trees.specs.Binding.{inst, Param}
use Rattle.trees.specs.declared.TermId.{TermId}
use Rattle.trees.specs.Tree.{Tree}
use Rattle.trees.specs.Node.{tree_at, Holds}
use Rattle.trees.specs.declared.Op.{Op}
use Rattle.tasks.specs.Task.{TaskTree, neg}
use Rattle.tasks.specs.Meaning.{trees_at}
use Rattle.rules.specs.Trees.{RuleTree, RNotTrue, RClash, RCut, RForall, RNotForall, RLetDef, RIfDef, RMatchDef, RNotNot, RIrrefl, RExists, RNotExists, RReplace, RFalse, RRefl, RDistinct, RProject}
use Rattle.rules.specs.Forms.{negated, connected, universal, existential, equation_sides, let_of, if_of, equal, alike, by_cases}
use Rattle.rules.specs.Rows.{IsRuleRow, IsNew, where_true, where_false}
use Rattle.evidence.specs.Drafts.{DraftTree, Refutes, IsFormulaAt, RefutesAt}
use Rattle.evidence.specs.Rules.{NamesOwn, holding_rule, failing_rule}
use Rattle.evidence.specs.proof_scripts.Added.{AreComparable}
use Rattle.evidence.specs.declared.proof_scripts.line.Word.{Word}
use Rattle.evidence.specs.declared.proof_scripts.line.Word.TheVariants as word
use Rattle.evidence.specs.declared.proof_scripts.line.Formulas.{Formulas}
use Rattle.evidence.specs.declared.proof_scripts.line.Formulas.TheVariants as formulas
use Rattle.evidence.specs.declared.proof_scripts.line.Places.{Places}
use Rattle.evidence.specs.declared.proof_scripts.line.Places.TheVariants as places
use Rattle.evidence.specs.declared.proof_scripts.line.Line.{Line}
use Rattle.evidence.specs.declared.proof_scripts.line.Line.TheVariants as line

-- a line in trees: an earlier step that refutes the front and so many formulas at the end; one that
-- refutes the formulas at some places of the tail; the rule on a connective, or on its negation, at
-- a place of the tail; a cut; a rule with its places in the tail, whose premises add what the rule
-- says; a rule without places, with the formula that its only premise adds
pub data LineTree : Type 0 where
  GivenLine : (step count : ℕ) → LineTree
  KeptLine : (step : ℕ) → (places : List ℕ) → LineTree
  HoldingLine : (op : Op) → (place : ℕ) → LineTree
  FailingLine : (op : Op) → (place : ℕ) → LineTree
  CutLine : (formula : Tree) → LineTree
  TailLine : (rule : RuleTree) → LineTree
  MadeLine : (rule : RuleTree) → (added : Tree) → LineTree

-- the rule that a word names
abbrev pub word_rule : List Tree → Word → RuleTree
word_rule s (word.NotTrue i) = RNotTrue i
word_rule s (word.Clash i j) = RClash i j
word_rule s (word.Holding op i) = holding_rule op i
word_rule s (word.Failing op i) = failing_rule op i
word_rule s (word.Cut a) = RCut (tree_at s a)
word_rule s (word.Forall i t) = RForall i (tree_at s t)
word_rule s (word.NotForall i n) = RNotForall i n
word_rule s (word.LetDef e) = RLetDef (tree_at s e)
word_rule s (word.IfDef e) = RIfDef (tree_at s e)
word_rule s (word.MatchDef e) = RMatchDef (tree_at s e)
word_rule s (word.NotNot i) = RNotNot i
word_rule s (word.Irrefl i) = RIrrefl i
word_rule s (word.Exists i n) = RExists i n
word_rule s (word.NotExists i t) = RNotExists i (tree_at s t)
word_rule s (word.Replace i j e) = RReplace i j (tree_at s e)
word_rule s (word.False i) = RFalse i
word_rule s (word.Refl e) = RRefl (tree_at s e)
word_rule s (word.Distinct i) = RDistinct i
word_rule s (word.Project e) = RProject (tree_at s e)

abbrev pub WordHeld : List Tree → Word → Type 0
WordHeld s (word.Cut a) = Holds s a
WordHeld s (word.Forall i t) = Holds s t
WordHeld s (word.LetDef e) = Holds s e
WordHeld s (word.IfDef e) = Holds s e
WordHeld s (word.MatchDef e) = Holds s e
WordHeld s (word.NotExists i t) = Holds s t
WordHeld s (word.Replace i j e) = Holds s e
WordHeld s (word.Refl e) = Holds s e
WordHeld s (word.Project e) = Holds s e
WordHeld s _ = Unit {0}

-- the words of the rules that a line names by its places and trees alone
abbrev pub IsMaker : Word → Type 0
IsMaker (word.Holding op i) = ⊥
IsMaker (word.Failing op i) = ⊥
IsMaker (word.Cut a) = ⊥
IsMaker (word.MatchDef e) = ⊥
IsMaker (word.Project e) = ⊥
IsMaker _ = Unit {0}

-- the words of those of them that have one premise
abbrev pub HasOnePremise : Word → Type 0
HasOnePremise (word.NotNot i) = Unit {0}
HasOnePremise (word.Forall i t) = Unit {0}
HasOnePremise (word.NotForall i n) = Unit {0}
HasOnePremise (word.Exists i n) = Unit {0}
HasOnePremise (word.NotExists i t) = Unit {0}
HasOnePremise (word.Replace i j e) = Unit {0}
HasOnePremise (word.LetDef e) = Unit {0}
HasOnePremise (word.IfDef e) = Unit {0}
HasOnePremise (word.Refl e) = Unit {0}
HasOnePremise _ = ⊥

abbrev pub ids_of : Formulas → List TermId
ids_of (formulas.One a) = a ∷ []
ids_of (formulas.Two a b) = a ∷ b ∷ []

-- the formulas that a premise adds, where there is one
abbrev pub added_ids : Option Formulas → List (List TermId)
added_ids None = []
added_ids (Some fs) = ids_of fs ∷ []

abbrev pub added_at : List Tree → Option Formulas → List (List Tree)
added_at s fs = map (trees_at s) (added_ids fs)

abbrev pub places_of : Places → List ℕ
places_of (places.One i) = i ∷ []
places_of (places.Two i j) = i ∷ j ∷ []
places_of (places.Three i j k) = i ∷ j ∷ k ∷ []

-- so many places more before them are no more than a number can tell
abbrev pub PlacesFit : ℕ → Places → Type 0
PlacesFit n (places.One i) = n + i ≤ 18446744073709551615
PlacesFit n (places.Two i j) = (n + i ≤ 18446744073709551615) × (n + j ≤ 18446744073709551615)
PlacesFit n (places.Three i j k) =
    (n + i ≤ 18446744073709551615) × (n + j ≤ 18446744073709551615) × (n + k ≤ 18446744073709551615)

-- a `match` by its parts, and a projection by the field
abbrev pub branch_line : (whole body : Tree) → LineTree
branch_line w x = MadeLine (RMatchDef w) (alike w x)

abbrev pub branches_line : (whole test body rest : Tree) → LineTree
branches_line w c x y = MadeLine (RMatchDef w) (by_cases c w x y)

abbrev pub field_line : (whole field : Tree) → LineTree
field_line w x = MadeLine (RProject w) (alike w x)

abbrev pub script_line_at : List Tree → Line → LineTree
script_line_at s (line.Given k n) = GivenLine k n
script_line_at s (line.Kept k ps) = KeptLine k (places_of ps)
script_line_at s (line.Holding op i) = HoldingLine op i
script_line_at s (line.Failing op i) = FailingLine op i
script_line_at s (line.Cut a) = CutLine (tree_at s a)
script_line_at s (line.Rule w) = TailLine (word_rule s w)
script_line_at s (line.Branch w x) = branch_line (tree_at s w) (tree_at s x)
script_line_at s (line.Branches w c x y) =
    branches_line (tree_at s w) (tree_at s c) (tree_at s x) (tree_at s y)
script_line_at s (line.Field w x) = field_line (tree_at s w) (tree_at s x)

abbrev pub lines_at : List Tree → List Line → List LineTree
lines_at s ls = map (script_line_at s) ls

-- the numbers of a line are those of formulas and trees of the draft
abbrev pub LineHeld : DraftTree → Line → Type 0
LineHeld d (line.Given k n) = Unit {0}
LineHeld d (line.Kept k ps) = Unit {0}
LineHeld d (line.Holding op i) = Unit {0}
LineHeld d (line.Failing op i) = Unit {0}
LineHeld d (line.Cut a) = IsFormulaAt d a
LineHeld d (line.Rule w) = WordHeld d.trees w × IsMaker w
LineHeld d (line.Branch w x) = AreComparable d w x
LineHeld d (line.Branches w c x y) = IsFormulaAt d c × AreComparable d w x × AreComparable d w y
LineHeld d (line.Field w x) = AreComparable d w x

abbrev pub LinesHeld : DraftTree → List Line → Type 0
LinesHeld d ls = All (LineHeld d) ls

-- a sequent with the formulas of each premise after it
abbrev pub sequents_under : List Tree → List (List Tree) → List (List Tree)
sequents_under t added = map (λ x. t ++ x) added

-- the step refutes the front and so many formulas at the end of the tail
pub record IsGiven (d : DraftTree) (f t : List Tree) (k n : ℕ) : Type 0 where
  pub before : List Tree
  pub last : List Tree
  pub is : t ≡ before ++ last
  pub as_many : length last ≡ n
  pub refutes : Refutes d k (f ++ last)

-- the rule refutes the sequent where each premise with these formulas is refuted
pub record IsByRule (t : TaskTree) (s : List Tree) (r : RuleTree)
    (added : List (List Tree)) : Type 0 where
  pub names : NamesOwn t r
  pub row : IsRuleRow t s r (sequents_under s added)

-- one premise, that adds this of what was found
abbrev pub one_added : {X : Type 0} → Option X → (X → Tree) → List (List Tree)
one_added None g = []
one_added (Some x) g = (g x ∷ []) ∷ []

-- What the premises of a rule add to a sequent, by the formulas at its places and by its trees: the
-- same as in the table of rules.
abbrev pub adds : List Tree → RuleTree → List (List Tree)
adds s (RNotNot i) = one_added (negated (negated (slice_get s i))) (λ a. a)
adds s (RForall i e) = one_added (universal (slice_get s i)) (λ p. inst p.1 e)
adds s (RNotForall i n) =
    one_added (universal (negated (slice_get s i))) (λ p. neg (inst p.1 (Param n p.0)))
adds s (RExists i n) = one_added (existential (slice_get s i)) (λ p. inst p.1 (Param n p.0))
adds s (RNotExists i e) = one_added (existential (negated (slice_get s i))) (λ p. neg (inst p.1 e))
adds s (RRefl e) = (equal e e ∷ []) ∷ []
adds s (RReplace i j e) = one_added (equation_sides (slice_get s i)) (λ p. inst e p.1)
adds s (RLetDef e) = one_added (let_of e) (λ p. alike e (inst p.1 p.0))
adds s (RIfDef e) = one_added (if_of e) (λ p. by_cases p.0 e p.1 p.2)
adds s _ = []

-- the rule has a row in the table of rules over this sequent, by what its premises add
pub record IsOfTail (t : TaskTree) (s : List Tree) (r : RuleTree) : Type 0 where
  pub names : NamesOwn t r
  pub row : IsRuleRow t s r (sequents_under s (adds s r))

-- the parameter that a rule takes is in none of these formulas either
abbrev pub IsNewTo : List Tree → RuleTree → Type 0
IsNewTo f (RNotForall i n) = IsNew n f
IsNewTo f (RExists i n) = IsNew n f
IsNewTo f _ = Unit {0}

-- The lines refute the front with each of these tails, one after the other.
abbrev pub Follows : DraftTree → List Tree → List LineTree → List (List Tree) → Type 0
Follows d f [] [] = Unit {0}
Follows d f [] (t ∷ ts) = ⊥
Follows d f (l ∷ ls) [] = ⊥
Follows d f (GivenLine k n ∷ ls) (t ∷ ts) = IsGiven d f t k n × Follows d f ls ts
Follows d f (KeptLine k ps ∷ ls) (t ∷ ts) = RefutesAt d t ps k × Follows d f ls ts
Follows d f (HoldingLine op i ∷ ls) (t ∷ ts) =
    IsSomeAnd (connected (slice_get t i))
    (λ p. (p.0 ≡ op) × Follows d f ls (sequents_under t (where_true op p.1 p.2) ++ ts))
Follows d f (FailingLine op i ∷ ls) (t ∷ ts) =
    IsSomeAnd (connected (negated (slice_get t i)))
    (λ p. (p.0 ≡ op) × Follows d f ls (sequents_under t (where_false op p.1 p.2) ++ ts))
Follows d f (TailLine r ∷ ls) (t ∷ ts) =
    IsOfTail d.task t r × IsNewTo f r × Follows d f ls (sequents_under t (adds t r) ++ ts)
Follows d f (MadeLine r a ∷ ls) (t ∷ ts) =
    IsByRule d.task (f ++ t) r ((a ∷ []) ∷ []) × Follows d f ls ((t ++ a ∷ []) ∷ ts)
Follows d f (CutLine a ∷ ls) (t ∷ ts) =
    Follows d f ls (sequents_under t ((a ∷ []) ∷ (neg a ∷ []) ∷ []) ++ ts)

-- they refute these, and others after them
pub record CanFollow (d : DraftTree) (f : List Tree) (ls : List LineTree)
    (ts : List (List Tree)) : Type 0 where
  pub rest : List (List Tree)
  pub follows : Follows d f ls (ts ++ rest)
