-- Steps that refute a disjunction's negation with each of its formulas.
use Rattle.std.specs.Prelude.{◌≡◌, ℕ, ◌<◌, List, [], ◌∷◌, ◌++◌, map, Contains}
use Rattle.tasks.specs.trees.declared.TermId.{TermId}
use Rattle.tasks.specs.trees.declared.Op.TheVariants.{Or}
use Rattle.tasks.specs.trees.Tree.{Tree, Two, HJoin}
use Rattle.tasks.specs.trees.Node.{tree_at, Holds}
use Rattle.tasks.specs.Task.{neg}
use Rattle.evidence.specs.Drafts.{DraftTree, Refutes, RefuteAll, IsFormulaAt}
use Rattle.tr_algebraic.specs.declared.law_evidence.cases.Disjunction.{Disjunction}
use Rattle.tr_algebraic.specs.declared.law_evidence.cases.Disjunction.TheVariants.{Empty, Alone, Parts}
use Rattle.tr_algebraic.specs.law_evidence.Shapes.{disjuncts}

-- the first formula of a disjunction, and the others
pub record AreDisjunctionParts (s : List Tree) (e first rest : TermId) : Type 0 where
  pub is : tree_at s e ≡ Two (HJoin Or) (tree_at s first) (tree_at s rest)
  pub first_held : Holds s first
  pub rest_held : Holds s rest
  pub below : rest.0 < e.0

-- the disjunction that a formula is
abbrev pub IsDisjunction : List Tree → TermId → Disjunction → Type 0
IsDisjunction s e Empty = disjuncts (tree_at s e) ≡ []
IsDisjunction s e Alone = disjuncts (tree_at s e) ≡ tree_at s e ∷ []
IsDisjunction s e (Parts first rest) = AreDisjunctionParts s e first rest

-- a disjunction whose formulas are among those of another
pub record IsPartOf (d : DraftTree) (whole part : TermId) : Type 0 where
  pub formula : IsFormulaAt d part
  pub among : (c : Tree) → Contains (disjuncts (tree_at d.trees part)) c
      → Contains (disjuncts (tree_at d.trees whole)) c

-- the negation of a formula, with each of these
abbrev pub with_each : Tree → List Tree → List (List Tree)
with_each w cs = map (λ (c : Tree). neg w ∷ c ∷ []) cs

-- steps after others for the formulas of such a disjunction
abbrev pub MakeCases : DraftTree → DraftTree → TermId → TermId → List ℕ → List ℕ → Type 0
MakeCases d d1 whole part old new =
    (done : List (List Tree)) → RefuteAll d old done
    → RefuteAll d1 new (done
    ++ with_each (tree_at d.trees whole) (disjuncts (tree_at d.trees part)))

-- a step for a later formula of a disjunction
pub record IsLaterStep (d : DraftTree) (whole case : TermId) (inner : ℕ) : Type 0 where
  pub first : Tree
  pub rest : Tree
  pub is : tree_at d.trees whole ≡ Two (HJoin Or) first rest
  pub refutes : Refutes d inner (neg rest ∷ tree_at d.trees case ∷ [])
