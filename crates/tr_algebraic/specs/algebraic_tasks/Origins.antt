-- Where the propositions of a task with laws come from: a proposition of the old task, or a law, of
-- a kind.
use Rattle.std.specs.Prelude.{◌≡◌, ℕ, ◌+◌, List, [], ◌∷◌, ◌++◌, map, slice_get, Some, Contains}
use Rattle.tasks.specs.trees.Tree.{Tree}
use Rattle.tasks.specs.Task.{SymbolTree, AlgebraicTree, BodyTree, Constructs, Says, DeclarationTree, PropositionTree, TaskTree, props}
use Rattle.tasks.specs.Facts.{said_in}
use Rattle.tr_algebraic.specs.declared.algebraic_forms.origins.LawKind.{LawKind}
use Rattle.tr_algebraic.specs.algebraic_forms.Groups.{LawTree, group_laws}
use Rattle.tr_algebraic.specs.declared.algebraic_tasks.origins.PropositionOrigin.{PropositionOrigin}
use Rattle.tr_algebraic.specs.declared.algebraic_tasks.origins.PropositionOrigin.TheVariants.{Proposition, Law}

-- a proposition with its origin
pub record PlacedTree : Type 0 where
  pub origin : PropositionOrigin
  pub says : PropositionTree

abbrev pub law_says : LawTree → PropositionTree
law_says x = record { vars = x.vars; formula = x.formula }

abbrev pub placed_law : LawTree → PlacedTree
placed_law x = record { origin = Law x.kind; says = law_says x }

-- what the propositions in the place of a declaration say, where so many propositions are before it
abbrev pub placed_by : List SymbolTree → ℕ → DeclarationTree → BodyTree → List PlacedTree
placed_by symbols n d (Says a) =
    record { origin = Proposition n; says = record { vars = d.vars; formula = a } } ∷ []
placed_by symbols n d (Constructs ts) = map placed_law (group_laws symbols ts)
placed_by symbols n d _ = []

abbrev pub placed_from : List SymbolTree → ℕ → List DeclarationTree → List PlacedTree
placed_from symbols n [] = []
placed_from symbols n (d ∷ ds) =
    placed_by symbols n d d.body ++ placed_from symbols (n + said_in d.body) ds

abbrev pub origins : List PlacedTree → List PropositionOrigin
origins xs = map (λ (x : PlacedTree). x.origin) xs

-- what a proposition says once the formulas of the old ones have become others
abbrev pub says_after : (Tree → Tree) → PropositionOrigin → PropositionTree → PropositionTree
says_after g (Proposition n) p = record { vars = p.vars; formula = g p.formula }
says_after g (Law kind) p = p

-- a law of this kind, of a group of algebraic types among these declarations
pub record IsLawThere (symbols : List SymbolTree) (ds : List DeclarationTree) (kind : LawKind)
    (p : PropositionTree) : Type 0 where
  pub decl : DeclarationTree
  pub there : Contains ds decl
  pub types : List AlgebraicTree
  pub body : decl.body ≡ Constructs types
  pub law : LawTree
  pub among : Contains (group_laws symbols types) law
  pub kind_is : law.kind ≡ kind
  pub says : law_says law ≡ p

-- the proposition comes from the old task's of a number, whose formula became another, or it is a
-- law of the old task's types
abbrev pub ComesFrom : TaskTree → (Tree → Tree) → PropositionOrigin → PropositionTree → Type 0
ComesFrom t g (Proposition n) p =
    (old : PropositionTree) × (slice_get (props t) n ≡ Some old)
    × (p ≡ record { vars = old.vars; formula = g old.formula })
ComesFrom t g (Law kind) p = IsLawThere t.symbols t.decls kind p
