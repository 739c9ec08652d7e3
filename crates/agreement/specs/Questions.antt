-- Pairs of closed expressions that are asked to agree, by numbers, with evidence for their parts.
use Rattle.std.specs.Prelude.{◌≡◌, ◌⊎◌, ℕ, ◌<◌, ◌≤◌, List, [], ◌∷◌, ◌++◌, map, length, get_or, All, Some}
use Rattle.indexmap.specs.IndexMap.{IndexMap, get}
use Rattle.trees.specs.declared.TermId.{TermId}
use Rattle.trees.specs.declared.Sort.TheVariants.{Term}
use Rattle.trees.specs.Tree.{Tree, Leaf, HEnd, above_params}
use Rattle.trees.specs.Node.{tree_at, trees_at, Holds}
use Rattle.trees.specs.Sorts.{type_of, IsList}
use Rattle.trees.specs.binders.Known.{same_pair}
use Rattle.tasks.specs.Task.{neg}
use Rattle.tasks.specs.Vocabulary.{of_task}
use Rattle.tasks.specs.Typing.{TypedUnder, members}
use Rattle.tasks.specs.Valid.{IsGround}
use Rattle.images.specs.Templates.{listed}
use Rattle.congruence.specs.kernel.rules.Forms.{alike}
use Rattle.evidence.specs.Drafts.{DraftTree, Refutes}
use Rattle.congruence.specs.declared.alike.AlikeBy.{AlikeBy}
use Rattle.congruence.specs.declared.applications.SymbolAt.{SymbolAt}
use Rattle.congruence.specs.Applications.{applied, IsSymbolHeld}
use Rattle.congruence.specs.Alike.{IsClosedAt, ArePair, Shows}
use Rattle.agreement.specs.declared.questions.Question.{Question}
use Rattle.agreement.specs.declared.questions.Link.{Link}
use Rattle.agreement.specs.Agreement.{ArePaired, ArePartsOf, AgreeWithin, number_under}
use Rattle.agreement.specs.Ranks.{rank, zero_ranks}

-- a pair with its step: it refutes the negation of the claim that the two are alike
pub record IsProvedPair (d : DraftTree) (a : TermId × TermId × ℕ) : Type 0 where
  pub left : Holds d.trees a.0
  pub right : Holds d.trees a.1
  pub refutes : Refutes d a.2 (neg (alike (tree_at d.trees a.0) (tree_at d.trees a.1)) ∷ [])

-- the pairs, in trees
abbrev pub pairs_at : List Tree → List (TermId × TermId × ℕ) → List (Tree × Tree)
pairs_at s atoms = map (λ a. (tree_at s a.0, tree_at s a.1)) atoms

abbrev pub questions_at : List Tree → List Question → List (Tree × Tree)
questions_at s qs = map (λ q. (tree_at s q.left, tree_at s q.right)) qs

abbrev pub links_at : List Tree → List Link → List (Tree × Tree)
links_at s xs = map (λ x. (tree_at s x.left, tree_at s x.right)) xs

-- two expressions with parameters below the next one's number
pub record IsAsked (d : DraftTree) (q : Question) : Type 0 where
  pub pair : ArePair d q.left q.right
  pub left_above : above_params (tree_at d.trees q.left) ≤ q.number
  pub right_above : above_params (tree_at d.trees q.right) ≤ q.number

-- evidence for two expressions
pub record IsShownLink (d : DraftTree) (x : Link) : Type 0 where
  pub pair : ArePair d x.left x.right
  pub shows : Shows d x.alike (tree_at d.trees x.left) (tree_at d.trees x.right)

-- a question, with evidence for the parts of its two expressions
pub record HasLinkedParts (d : DraftTree) (q : Question) (links : List Link) : Type 0 where
  pub asked : IsAsked d q
  pub linked : All (IsShownLink d) links
  pub parts : ArePartsOf d.task q.number (tree_at d.trees q.left) (tree_at d.trees q.right)
      (links_at d.trees links)

-- the first question is asked before the second is answered
abbrev pub IsLower : List Tree → Question → Question → Type 0
IsLower s p q = (rank (tree_at s p.left) zero_ranks 0 < rank (tree_at s q.left) zero_ranks 0)
    ⊎ ((rank (tree_at s p.left) zero_ranks 0 ≤ rank (tree_at s q.left) zero_ranks 0)
    × (p.left.0 < q.left.0))

-- the questions for the parts of two expressions
pub record AreQuestions (d : DraftTree) (q : Question) (qs : List Question) : Type 0 where
  pub asked : All (IsAsked d) qs
  pub numbers : All (λ p. p.number ≡ number_under q.number (tree_at d.trees q.left)) qs
  pub parts : ArePartsOf d.task q.number (tree_at d.trees q.left) (tree_at d.trees q.right)
      (questions_at d.trees qs)
  pub lower : All (λ p. IsLower d.trees p q) qs

-- the two agree, with the number of the next parameter
abbrev pub AgreeAsked : DraftTree → List (Tree × Tree) → Question → Type 0
AgreeAsked d pairs q =
    (m : ℕ) × AgreeWithin m d.task pairs q.number (tree_at d.trees q.left) (tree_at d.trees q.right)

-- they have parts that agree
abbrev pub AgreeByParts : DraftTree → List (Tree × Tree) → Question → Type 0
AgreeByParts d pairs q = (m : ℕ)
    × ((ps : List (Tree × Tree))
    × (ArePartsOf d.task q.number (tree_at d.trees q.left) (tree_at d.trees q.right) ps
    × All (λ p. AgreeWithin m d.task pairs (number_under q.number (tree_at d.trees q.left)) p.0
    p.1) ps))

-- evidence for each question is added, in order
pub record AddsLinks (d d1 : DraftTree) (old new : List Link) (qs : List Question) : Type 0 where
  pub more : List Link
  pub is : new ≡ old ++ more
  pub links : All (IsShownLink d1) more
  pub same : links_at d1.trees more ≡ questions_at d.trees qs

-- questions are added, in order, and their pairs of trees are these
pub record AddsQuestions (d : DraftTree) (q : Question) (old new : List Question)
    (Are : List (Tree × Tree) → Type 0) : Type 0 where
  pub more : List Question
  pub is : new ≡ old ++ more
  pub asked : All (IsAsked d) more
  pub numbers : All (λ p. p.number ≡ q.number) more
  pub lower : All (λ p. IsLower d.trees p q) more
  pub pairs : Are (questions_at d.trees more)

-- two lists of closed terms of the same types, whose members are asked before a question is
-- answered
pub record AreLists (d : DraftTree) (q : Question) (list other : TermId) : Type 0 where
  pub held : Holds d.trees list × Holds d.trees other
  pub terms : IsList Term (tree_at d.trees list) × IsList Term (tree_at d.trees other)
  pub typed : TypedUnder (of_task d.task) [] (tree_at d.trees list)
      × TypedUnder (of_task d.task) [] (tree_at d.trees other)
  pub ground : IsGround (tree_at d.trees list) × IsGround (tree_at d.trees other)
  pub above : (above_params (tree_at d.trees list) ≤ q.number)
      × (above_params (tree_at d.trees other) ≤ q.number)
  pub types : map type_of (members (tree_at d.trees list))
      ≡ map type_of (members (tree_at d.trees other))
  pub below : list.0 < q.left.0
  pub ranked : rank (tree_at d.trees list) zero_ranks 0 ≤ rank (tree_at d.trees q.left) zero_ranks 0
  pub paired : (ps : List (Tree × Tree))
      × ArePaired (tree_at d.trees list) (tree_at d.trees other) ps

-- an application to a list that begins with these terms, and links for the terms after them and
-- those of another list
pub record CanReplace (d : DraftTree) (symbol : SymbolAt) (before : List TermId)
    (left list other : TermId) (links : List Link) : Type 0 where
  pub symbol_held : IsSymbolHeld d.trees symbol
  pub before_held : All (Holds d.trees) before
  pub whole : IsClosedAt d left
  pub list_held : Holds d.trees list
  pub other_held : Holds d.trees other
  pub is : tree_at d.trees left
      ≡ applied d.trees symbol (listed (trees_at d.trees before) (tree_at d.trees list))
  pub linked : All (IsShownLink d) links
  pub paired : ArePaired (tree_at d.trees list) (tree_at d.trees other) (links_at d.trees links)

-- ---- what is remembered
-- each remembered pair of numbers is that of two trees that this evidence shows alike
abbrev pub AreKnownAlike : {S : Type 0} → DraftTree → IndexMap (ℕ × ℕ) AlikeBy S → Type 0
AreKnownAlike d m = (k n : ℕ) (w : AlikeBy) → get same_pair m (k, n) ≡ Some w
    → (k < length d.trees) × ((n < length d.trees)
    × Shows d w (get_or d.trees k (Leaf HEnd)) (get_or d.trees n (Leaf HEnd)))
