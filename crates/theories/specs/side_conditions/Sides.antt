-- The side conditions of a declaration: each match takes all values, and then the declarations pass
-- their checks (Why3 manual, "pattern matching", "logical declarations"). The first match in
-- reading order counts before any check.
use Rattle.std.specs.Prelude.{◌≡◌, ◌⊎◌, ℕ, List, [], ◌∷◌, map, All, Result, Ok, Err}
use Rattle.trees.specs.Tree.{Tree}
use Rattle.trees.specs.Node.{Holds}
use Rattle.tasks.specs.Task.{SymbolTree, BodyTree, DeclarationTree}
use Rattle.tasks.specs.Meaning.{trees_at}
use Rattle.checks.specs.match_cover.Shapes.{IsPattern, HaveOneType, AreExhaustive}
use Rattle.checks.specs.decl_checks.Checks.{HasNoFault, HasFault}
use Rattle.checks.specs.declared.decl_checks.fault.CheckFault.{CheckFault}
use Rattle.open_types.specs.declared.draft.MatchAt.{MatchAt}
use Rattle.theories.specs.declared.side_conditions.sides.SideFault.{SideFault}
use Rattle.theories.specs.declared.side_conditions.sides.SideFault.TheVariants.{Memory, NotExhaustive, Check}

-- a match by its token, with its patterns
abbrev pub IsCovered : List SymbolTree → ℕ × List Tree → Type 0
IsCovered symbols m = AreExhaustive symbols m.1

-- the first match that doesn't take all values has this token
abbrev pub IsFirstOpenMatch : List SymbolTree → List (ℕ × List Tree) → ℕ → Type 0
IsFirstOpenMatch symbols [] token = ⊥
IsFirstOpenMatch symbols (m ∷ ms) token =
    ((m.0 ≡ token) × (IsCovered symbols m → ⊥))
    ⊎ (IsCovered symbols m × IsFirstOpenMatch symbols ms token)

-- the first declaration with a fault has this one
abbrev pub IsFirstCheckFault : List SymbolTree → List BodyTree → CheckFault → Type 0
IsFirstCheckFault symbols [] f = ⊥
IsFirstCheckFault symbols (b ∷ bs) f =
    HasFault symbols b f ⊎ (HasNoFault symbols b × IsFirstCheckFault symbols bs f)

abbrev pub IsSideFault : List SymbolTree → List (ℕ × List Tree) → List BodyTree → SideFault → Type 0
IsSideFault symbols ms bs Memory = Unit {0}
IsSideFault symbols ms bs (NotExhaustive token) = IsFirstOpenMatch symbols ms token
IsSideFault symbols ms bs (Check f) = All (IsCovered symbols) ms × IsFirstCheckFault symbols bs f

-- the patterns of a match are held, well typed and of one type
pub record IsMatch (s : List Tree) (symbols : List SymbolTree) (m : MatchAt) : Type 0 where
  pub held : All (Holds s) m.patterns
  pub patterns : All (IsPattern symbols) (trees_at s m.patterns)
  pub one_type : HaveOneType (trees_at s m.patterns)

abbrev pub bodies : List DeclarationTree → List BodyTree
bodies ds = map (λ (d : DeclarationTree). d.body) ds

-- answers of the two halves
abbrev pub MatchesAnswer : List SymbolTree → List (ℕ × List Tree) → Result Unit SideFault → Type 0
MatchesAnswer symbols ms (Ok u) = All (IsCovered symbols) ms
MatchesAnswer symbols ms (Err Memory) = Unit {0}
MatchesAnswer symbols ms (Err (NotExhaustive token)) = IsFirstOpenMatch symbols ms token
MatchesAnswer symbols ms (Err (Check f)) = ⊥

abbrev pub ChecksAnswer : List SymbolTree → List BodyTree → Result Unit SideFault → Type 0
ChecksAnswer symbols bs (Ok u) = All (HasNoFault symbols) bs
ChecksAnswer symbols bs (Err Memory) = Unit {0}
ChecksAnswer symbols bs (Err (NotExhaustive token)) = ⊥
ChecksAnswer symbols bs (Err (Check f)) = IsFirstCheckFault symbols bs f
