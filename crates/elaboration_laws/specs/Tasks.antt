-- What is before a goal, and the goal, so that its task is valid.
use Rattle.std.specs.Prelude.{◌≡◌, ◌≢◌, ℕ, false, List, [], ◌∷◌, map, All, AllPairs, slice_get, Some}
use Rattle.std.specs.List.{Contains}
use Rattle.std.specs.Str.{bytes_eq}
use Rattle.elab_groups.specs.trees.Tree.{Tree}
use Rattle.elab_groups.specs.trees.Binding.{inst_types}
use Rattle.elab_groups.specs.tasks.Task.{SymbolTree, symbol_or, Says, DeclarationTree, made, made_by}
use Rattle.elab_groups.specs.tasks.Rigid.{rigid_symbol}
use Rattle.elab_groups.specs.tasks.Vocabulary.{is_empty}
use Rattle.elab_groups.specs.tasks.Valid.{IsFormulaOver, IsQuoted}
use Rattle.elab_groups.specs.surface.declared.declarations.PropKind.{PropKind}
use Rattle.elab_groups.specs.surface.declared.declarations.PropKind.TheVariants.{Axiom}
use Rattle.elab_groups.specs.name_resolution.Records.{is_projection, constructor_before}
use Rattle.elab_groups.specs.parts.Entries.{builtin}
use Rattle.elab_declarations.specs.Outcomes.{rigid_types}
use Rattle.elaboration_laws.specs.Lists.{after, AreValidAfter}
use Rattle.theory_states.specs.goal_tasks.Theories.{GoalTree}
use Rattle.elaboration_laws.specs.Built.{IsBuiltRight}

-- an entry of a theory of a source or of a library
pub record IsOwnSymbol (symbols : List SymbolTree) (k : ℕ) : Type 0 where
  pub stands : is_empty (symbol_or symbols k).theory ≡ false
  pub other : bytes_eq (symbol_or symbols k).theory builtin ≡ false

-- what a declaration makes is of its theory
abbrev pub IsOfTheory : List SymbolTree → DeclarationTree → Type 0
IsOfTheory symbols d = All (λ (k : ℕ). (symbol_or symbols k).theory ≡ d.theory) (made_by d.body)

-- Entries that are made together: the first of them is no projection, and with each one there is
-- the constructor before it, whose fields come after it.
pub record HasRecords (symbols : List SymbolTree) (ks : List ℕ) : Type 0 where
  pub first : (k : ℕ) → slice_get ks 0 ≡ Some k → is_projection (symbol_or symbols k).kind ≡ false
  pub before : All (λ (k : ℕ). Contains ks (constructor_before symbols k)) ks

-- declarations are valid where they are; no symbol is made twice, and none that is built in
pub record AreSound (symbols : List SymbolTree) (ds : List DeclarationTree) : Type 0 where
  pub built : IsBuiltRight symbols
  pub valid : AreValidAfter symbols [] ds
  pub once : AllPairs (λ j k. j ≢ k) (made ds)
  pub own : All (IsOwnSymbol symbols) (made ds)
  pub theories : All (IsOfTheory symbols) ds
  pub records : All (λ (d : DeclarationTree). HasRecords symbols (made_by d.body)) ds

-- the entry of a type variable of a goal, whose name has a quote
pub record IsQuotedAt (symbols : List SymbolTree) (k : ℕ) : Type 0 where
  pub name : List ℕ
  pub quoted : IsQuoted name
  pub entry : slice_get symbols k ≡ Some (rigid_symbol name)

-- a goal after declarations
pub record IsSoundGoal (symbols : List SymbolTree) (ds : List DeclarationTree)
    (g : GoalTree) : Type 0 where
  pub rigid : All (IsQuotedAt symbols) g.rigid
  pub once : AllPairs (λ j k. j ≢ k) g.rigid
  pub formula : IsFormulaOver (after symbols g.rigid ds) [] 0 g.prop

-- a goal, or a lemma, which is one until it is proved
abbrev pub IsToProve : PropKind → Type 0
IsToProve Axiom = ⊥
IsToProve _ = Unit {0}

-- the goal of what a proposition says: its formula at these type variables
pub record IsGoalSaid (said : List DeclarationTree) (own : List ℕ) (g : GoalTree) : Type 0 where
  pub formula : Tree
  pub says : map (λ (d : DeclarationTree). d.body) said ≡ Says formula ∷ []
  pub prop : g.prop ≡ inst_types formula (rigid_types own)
  pub rigid : g.rigid ≡ own

-- a goal is after sound declarations, and is well formed
pub record IsSoundAfter (symbols : List SymbolTree) (ds : List DeclarationTree)
    (g : GoalTree) : Type 0 where
  pub before : AreSound symbols ds
  pub goal : IsSoundGoal symbols ds g
