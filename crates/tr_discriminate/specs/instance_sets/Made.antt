-- Declarations that are put after others over a store, with a bound for the nodes of instances.
use Rattle.std.specs.Prelude.{◌≡◌, ◌≤◌, ◌<◌, ◌+◌, true, if◌then◌else◌, ℕ, List, [], ◌++◌, map, All, Option, Some, None}
use Rattle.std.specs.List.{flat_map}
use Rattle.tasks.specs.trees.declared.TermId.{TermId}
use Rattle.tasks.specs.trees.declared.Sort.TheVariants.{Kind}
use Rattle.tasks.specs.trees.Tree.{Tree, above_ty_vars}
use Rattle.tasks.specs.trees.Sorts.{sort_of}
use Rattle.tasks.specs.trees.Binding.{inst_types}
use Rattle.tasks.specs.declared.declaration.Decl.{Decl}
use Rattle.tasks.specs.Task.{BodyTree, Says, DeclarationTree, declaration_nodes}
use Rattle.tasks.specs.Meaning.{declarations_at, DeclHeld}
use Rattle.trees.specs.binders.Visits.{HoldTypes}
use Rattle.evidence.specs.declared.stage.StageFault.{StageFault}
use Rattle.evidence.specs.declared.stage.StageFault.TheVariants as fault
use Rattle.name_tables.specs.Occurrences.{Occurrence}
use Rattle.name_tables.specs.Seen.{seen_occurrences, KeysHeld, GainsKeys}
use Rattle.tr_discriminate.specs.wanted_instances.Instances.{inner_instances, instance_types}
use Rattle.tr_discriminate.specs.wanted_instances.Wanted.{wanted_types, wanted_formulas}
use Rattle.tr_discriminate.specs.wanted_instances.Discriminated.{is_monomorphic, said_at, proposition_of}

-- a set of instances, and the types in them in the order of their ranks
pub record IsRanked (s : List Tree) (keys types : List (ℕ × ℕ)) : Type 0 where
  pub held : KeysHeld s keys
  pub types_are : GainsKeys s [] (flat_map instance_types (seen_occurrences s keys)) types

abbrev pub IsTypeTree : Tree → Type 0
IsTypeTree ty = sort_of ty ≡ Kind

abbrev pub AreTypeLists : List Tree → List (List TermId) → Type 0
AreTypeLists s yss = All (HoldTypes s) yss

-- a proposition's wanted assignments are of types for all of its type variables, so its instances
-- have none
pub record IsSearchable (s : List Occurrence) (vars : ℕ) (a : Tree) : Type 0 where
  pub above : above_ty_vars a ≤ vars
  pub kinds : All (All IsTypeTree) (wanted_types s (proposition_of vars a))
  pub closed : All (λ (e : Tree). is_monomorphic e ≡ true)
      (wanted_formulas s (proposition_of vars a))

abbrev pub IsSearchableBody : List Occurrence → ℕ → BodyTree → Type 0
IsSearchableBody s vars (Says a) = IsSearchable s vars a
IsSearchableBody s vars _ = Unit {0}

abbrev pub polymorphic_formula : BodyTree → Option Tree
polymorphic_formula (Says a) = if is_monomorphic a then None else Some a
polymorphic_formula _ = None

abbrev pub monomorphic_formula : BodyTree → Option Tree
monomorphic_formula (Says a) = if is_monomorphic a then Some a else None
monomorphic_formula _ = None

-- the instances of a proposition at lists of types
abbrev pub instances_of : DeclarationTree → Tree → List (List Tree) → List DeclarationTree
instances_of d a yss = map (said_at d) (map (inst_types a) yss)

-- These declarations were put after others. Of the nodes that were allowed so many are left, no
-- fewer than the new ones take.
pub record PutsDeclarations (s : List Tree) (old : List Decl) (allowed : ℕ)
    (ds : List DeclarationTree) (s1 : List Tree) (new : List Decl) (left : ℕ) : Type 0 where
  pub held : All (DeclHeld s1) new
  pub are : declarations_at s1 new ≡ declarations_at s old ++ ds
  pub few : left ≤ allowed
  pub spent : allowed ≤ left + declaration_nodes ds

-- want of memory, or that these declarations have more nodes than are allowed
abbrev pub IsAboveAllowed : ℕ → List DeclarationTree → StageFault → Type 0
IsAboveAllowed allowed ds fault.Memory = Unit {0}
IsAboveAllowed allowed ds (fault.Misplaced decl) = ⊥
IsAboveAllowed allowed ds fault.TooLarge = allowed < declaration_nodes ds

-- ---- what monomorphic propositions say
abbrev pub option_instances : Option Tree → List Occurrence
option_instances None = []
option_instances (Some a) = inner_instances a

abbrev pub said_instances : List DeclarationTree → List Occurrence
said_instances ds =
    flat_map (λ (d : DeclarationTree). option_instances (monomorphic_formula d.body)) ds
