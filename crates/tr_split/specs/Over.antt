-- What a part is under, and what its end gives.
use Rattle.std.specs.Prelude.{◌≡◌, ℕ, List, [], ◌∷◌, ◌++◌, map}
use Rattle.tasks.specs.trees.declared.TermId.{TermId}
use Rattle.tasks.specs.trees.Tree.{Tree, Two, HForall, HLet}
use Rattle.tasks.specs.trees.Node.{tree_at, Holds}
use Rattle.tasks.specs.trees.Binding.{inst}
use Rattle.tasks.specs.Task.{neg}
use Rattle.evidence.specs.Drafts.{DraftTree, Refutes, IsFormulaAt}
use Rattle.evidence.specs.proof_scripts.Added.{IsClosedTermAt}
use Rattle.tr_split.specs.parts.Split.{imp, split}
use Rattle.tr_split.specs.declared.over.Over.{Over}
use Rattle.tr_split.specs.declared.over.Over.TheVariants as stands

-- a step refutes the formulas and the negation of a part under this
pub record PartOf (d : DraftTree) (k : ℕ) (front : List Tree) (whole : Tree → Tree) : Type 0 where
  pub part : Tree
  pub refutes : Refutes d k (front ++ neg (whole part) ∷ [])

-- a step refutes some formulas and a negation
pub record IsEnd (d : DraftTree) (k : ℕ) : Type 0 where
  pub front : List Tree
  pub whole : Tree
  pub refutes : Refutes d k (front ++ neg whole ∷ [])

-- a closed term of some type
pub record IsTypedTermAt (d : DraftTree) (id : TermId) : Type 0 where
  pub ty : Tree
  pub term : IsClosedTermAt d ty id

-- a step refutes some formulas and the negation of a part under a quantifier; a term has its type
pub record IsUniversalEnd (d : DraftTree) (k : ℕ) (front : List Tree) (id : TermId) : Type 0 where
  pub ty : Tree
  pub term : IsClosedTermAt d ty id
  pub end : PartOf d k front (Two HForall ty)

-- a term at which a quantifier is opened, or the value of a `let`
abbrev pub IsClosedIn : DraftTree → Tree → TermId → Type 0
IsClosedIn d (Two HForall ty b) t = IsClosedTermAt d ty t
IsClosedIn d (Two HLet v b) t = (v ≡ tree_at d.trees t) × IsTypedTermAt d t
IsClosedIn d _ t = ⊥

-- a quantifier or a `let`
abbrev pub IsBinding : Tree → Type 0
IsBinding (Two HForall a b) = Unit {0}
IsBinding (Two HLet a b) = Unit {0}
IsBinding _ = ⊥

-- ---- what a part is under
abbrev pub whole_of : List Tree → Over → Tree → Tree
whole_of s (stands.Hypothesis h) a = imp (tree_at s h) a
whole_of s (stands.Universal ty t) a = Two HForall (tree_at s ty) a
whole_of s (stands.Value v) a = Two HLet (tree_at s v) a

-- the part alone: under a hypothesis it is the same, and under a binder that is opened it is an
-- instance
abbrev pub inner_of : List Tree → Over → Tree → Tree
inner_of s (stands.Hypothesis h) a = a
inner_of s (stands.Universal ty t) a = inst a (tree_at s t)
inner_of s (stands.Value v) a = inst a (tree_at s v)

-- what is assumed for the part alone
abbrev pub extra_of : List Tree → Over → List Tree
extra_of s (stands.Hypothesis h) = tree_at s h ∷ []
extra_of s (stands.Universal ty t) = []
extra_of s (stands.Value v) = []

abbrev pub OverHeld : DraftTree → Over → Type 0
OverHeld d (stands.Hypothesis h) = IsFormulaAt d h
OverHeld d (stands.Universal ty t) = Holds d.trees ty × IsClosedTermAt d (tree_at d.trees ty) t
OverHeld d (stands.Value v) = IsTypedTermAt d v

-- the parts of a formula under what they are under, and alone
abbrev pub wholes : List Tree → Over → Tree → List Tree
wholes s o a = map (whole_of s o) (split a)

abbrev pub inners : List Tree → Over → Tree → List Tree
inners s o a = map (inner_of s o) (split a)
