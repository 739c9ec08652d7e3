-- `match`es by their numbers, two of which have the same patterns, with questions and evidence for
-- their branches.
use Rattle.std.specs.Prelude.{◌≡◌, ◌<◌, ◌≤◌, List, ◌∷◌, All}
use Rattle.trees.specs.declared.TermId.{TermId}
use Rattle.trees.specs.declared.Sort.TheVariants as sort
use Rattle.trees.specs.Tree.{Tree, Two, HCase, HCell, HArm, above_params, head_of}
use Rattle.trees.specs.Node.{tree_at, Holds}
use Rattle.trees.specs.Sorts.{sort_of, type_of}
use Rattle.congruence.specs.kernel.Right.{IsGroundExpression}
use Rattle.evidence.specs.Drafts.{DraftTree}
use Rattle.congruence.specs.declared.conditionals.Conditional.{Conditional}
use Rattle.congruence.specs.Alike.{IsClosedAt, ArePair}
use Rattle.congruence.specs.Conditionals.{IsConditional, IsMatchAt, IsLastBranch, AreLinked}
use Rattle.agreement.specs.declared.questions.Question.{Question}
use Rattle.agreement.specs.declared.questions.Link.{Link}
use Rattle.agreement.specs.declared.branches.Cases.{Cases}
use Rattle.agreement.specs.declared.branches.AskedBranch.{AskedBranch}
use Rattle.agreement.specs.declared.branches.CaseAt.{CaseAt}
use Rattle.agreement.specs.Ranks.{rank, zero_ranks}
use Rattle.agreement.specs.Agreement.{asked_first, ArePairedBranches}
use Rattle.agreement.specs.Questions.{IsAsked, IsLower, IsShownLink, links_at}

-- the two `match`es, in trees
abbrev pub first_case : List Tree → Cases → Tree
first_case s c = Two HCase (tree_at s c.by) (tree_at s c.arms)

abbrev pub other_case : List Tree → Cases → Tree
other_case s c = Two HCase (tree_at s c.other_by) (tree_at s c.other_arms)

-- numbers that the draft holds
pub record AreHeld (s : List Tree) (c : Cases) : Type 0 where
  pub by : Holds s c.by
  pub arms : Holds s c.arms
  pub other_by : Holds s c.other_by
  pub other_arms : Holds s c.other_arms

-- two closed `match`es with the same patterns, whose branches are asked before a question is
-- answered
pub record AreAskedCases (d : DraftTree) (q : Question) (c : Cases) : Type 0 where
  pub held : AreHeld d.trees c
  pub whole_held : Holds d.trees q.left
  pub left : IsGroundExpression d.task (first_case d.trees c)
  pub right : IsGroundExpression d.task (other_case d.trees c)
  pub sort : sort_of (other_case d.trees c) ≡ sort_of (first_case d.trees c)
  pub type : type_of (other_case d.trees c) ≡ type_of (first_case d.trees c)
  pub left_above : above_params (first_case d.trees c) ≤ q.number
  pub right_above : above_params (other_case d.trees c) ≤ q.number
  pub ranked : rank (first_case d.trees c) zero_ranks 0 ≤ rank (tree_at d.trees q.left) zero_ranks 0
  pub paired : (ps : List (Tree × Tree))
      × ArePairedBranches d.task (tree_at d.trees c.by) (tree_at d.trees c.other_by)
      (tree_at d.trees c.arms) (tree_at d.trees c.other_arms) ps

-- the questions for their first branches, with the other branches
pub record IsAskedBranch (d : DraftTree) (q : Question) (c : Cases) (b : AskedBranch) : Type 0 where
  pub test : IsAsked d b.test
  pub body : IsAsked d b.body
  pub test_number : b.test.number ≡ q.number
  pub body_number : b.body.number ≡ q.number
  pub test_lower : IsLower d.trees b.test q
  pub body_lower : IsLower d.trees b.body q
  pub below : b.others.arms.0 < c.arms.0
  pub arms_held : Holds d.trees b.others.arms
  pub list : sort_of (tree_at d.trees b.others.arms) ≡ sort.List
  pub rest : head_of (tree_at d.trees b.others.arms) ≡ HCell → AreAskedCases d q b.others
  pub others : (qs : List (Tree × Tree))
      × ArePairedBranches d.task (tree_at d.trees c.by) (tree_at d.trees c.other_by)
      (tree_at d.trees b.others.arms) (tree_at d.trees b.others.other_arms) qs
  pub same_by : (b.others.by ≡ c.by) × (b.others.other_by ≡ c.other_by)
  pub pairs : (qs : List (Tree × Tree))
      → ArePairedBranches d.task (tree_at d.trees c.by) (tree_at d.trees c.other_by)
      (tree_at d.trees b.others.arms) (tree_at d.trees b.others.other_arms) qs
      → ArePairedBranches d.task (tree_at d.trees c.by) (tree_at d.trees c.other_by)
      (tree_at d.trees c.arms) (tree_at d.trees c.other_arms)
      (asked_first (tree_at d.trees b.others.arms)
      (tree_at d.trees b.test.left, tree_at d.trees b.test.right)
      ((tree_at d.trees b.body.left, tree_at d.trees b.body.right) ∷ qs))

-- a closed `match`, with the numbers of its term and its branches
pub record IsCaseAt (d : DraftTree) (c : CaseAt) : Type 0 where
  pub closed : IsClosedAt d c.whole
  pub by_held : Holds d.trees c.by
  pub arms_held : Holds d.trees c.arms
  pub is : tree_at d.trees c.whole ≡ Two HCase (tree_at d.trees c.by) (tree_at d.trees c.arms)

-- a list of branches with others after the first
pub record HasMoreBranches (s : List Tree) (arms others : TermId) : Type 0 where
  pub pattern : Tree
  pub body : Tree
  pub next_pattern : Tree
  pub next_body : Tree
  pub rest : Tree
  pub is : tree_at s arms ≡ Two HCell (Two HArm pattern body) (tree_at s others)
  pub others_are : tree_at s others ≡ Two HCell (Two HArm next_pattern next_body) rest

-- a list of two or more branches
pub record HasTwoBranches (s : List Tree) (arms : TermId) : Type 0 where
  pub pattern : Tree
  pub body : Tree
  pub next_pattern : Tree
  pub next_body : Tree
  pub rest : Tree
  pub is : tree_at s arms ≡ Two HCell (Two HArm pattern body)
      (Two HCell (Two HArm next_pattern next_body) rest)

-- the second is the first `match` with the branches after its first one
pub record IsRestCase (d : DraftTree) (first rest : CaseAt) : Type 0 where
  pub by : rest.by ≡ first.by
  pub others : HasMoreBranches d.trees first.arms rest.arms
  pub case : IsCaseAt d rest
  pub pair : ArePair d first.whole rest.whole

-- two closed `match`es with the same patterns, and evidence for their tests and bodies
pub record AreLinkedCases (d : DraftTree) (left right : CaseAt) (links : List Link) : Type 0 where
  pub pair : ArePair d left.whole right.whole
  pub left_case : IsCaseAt d left
  pub right_case : IsCaseAt d right
  pub linked : All (IsShownLink d) links
  pub paired : ArePairedBranches d.task (tree_at d.trees left.by) (tree_at d.trees right.by)
      (tree_at d.trees left.arms) (tree_at d.trees right.arms) (links_at d.trees links)

-- they have one branch each, and this is evidence for the bodies
pub record HasLastBodies (d : DraftTree) (left right : CaseAt) (body : Link) : Type 0 where
  pub pair : ArePair d left.whole right.whole
  pub linked : IsShownLink d body
  pub left_pair : ArePair d left.whole body.left
  pub right_pair : ArePair d right.whole body.right
  pub left_is : IsLastBranch d.task (tree_at d.trees left.whole) (tree_at d.trees body.left)
  pub right_is : IsLastBranch d.task (tree_at d.trees right.whole) (tree_at d.trees body.right)

abbrev pub case_with : TermId → TermId → TermId → TermId → Conditional
case_with w c a b = record { whole = w; condition = c; then_part = a; else_part = b }

-- they have more, and this is evidence for the first tests and bodies, and for the `match`es with
-- the other branches
pub record HasMore (d : DraftTree) (left right : CaseAt) (test body others : Link) : Type 0 where
  pub pair : ArePair d left.whole right.whole
  pub left_parts : IsConditional d (case_with left.whole test.left body.left others.left)
  pub right_parts : IsConditional d (case_with right.whole test.right body.right others.right)
  pub left_is : IsMatchAt d (case_with left.whole test.left body.left others.left)
  pub right_is : IsMatchAt d (case_with right.whole test.right body.right others.right)
  pub linked : AreLinked d (case_with left.whole test.left body.left others.left)
      (case_with right.whole test.right body.right others.right)
      (record { condition = test.alike; then_part = body.alike; else_part = others.alike })
