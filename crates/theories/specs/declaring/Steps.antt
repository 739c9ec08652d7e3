-- The steps of the typing of a declaration in code: what is elaborated and checked, or why it is
-- refused.
use Rattle.std.specs.Prelude.{◌≡◌, ℕ, List, map, All, Some}
use Rattle.tasks.specs.trees.Tree.{Tree}
use Rattle.tasks.specs.Task.{SymbolTree, BodyTree}
use Rattle.tasks.specs.Meaning.{symbols_at, declarations_at}
use Rattle.tasks.specs.Valid.{IsQuoted}
use Rattle.surface.specs.declared.declarations.PropKind.{PropKind}
use Rattle.surface.specs.Declarations as source
use Rattle.elaboration_laws.specs.checks.decl_checks.Checks.{HasNoFault}
use Rattle.elab_groups.specs.open_types.Drafts.{match_at}
use Rattle.elab_groups.specs.declared.parts.ElabFault.{ElabFault}
use Rattle.elab_groups.specs.declared.parts.made.Elaborated.{Elaborated}
use Rattle.elab_groups.specs.name_resolution.Abstract.{Expression}
use Rattle.elab_groups.specs.parts.Declarations.{TokenName, Declaration, proposition_declaration, declaration}
use Rattle.elab_groups.specs.parts.Outcomes.{Setting, IsKept}
use Rattle.elab_declarations.specs.Outcomes.{proposition_seen, IsElaborated, IsRefusal}
use Rattle.theories.specs.declared.side_conditions.sides.SideFault.{SideFault}
use Rattle.theories.specs.side_conditions.Sides.{IsCovered, IsSideFault, bodies}
use Rattle.theory_states.specs.declared.fault.SourceFault.{SourceFault}
use Rattle.theory_states.specs.declared.states.Opened.{Opened}
use Rattle.theory_states.specs.declared.states.Typed.{Typed}
use Rattle.theory_states.specs.Meaning.{state_at}
use Rattle.elaboration_laws.specs.TypedStates.{state_setting}
use Rattle.theories.specs.declaring.Faults.{elaboration_fault, side_fault}

-- for its names or its types
abbrev pub IsRefusedBy : Setting → Declaration → SourceFault → Type 0
IsRefusedBy c d f = (g : ElabFault) × IsRefusal c d g × (f ≡ elaboration_fault g)

-- for a side condition, in the declaration of a number
abbrev pub IsRefusedFor : ℕ → List SymbolTree → List (ℕ × List Tree) → List BodyTree
    → SourceFault → Type 0
IsRefusedFor n symbols ms bs f =
    (g : SideFault) × IsSideFault symbols ms bs g × (f ≡ side_fault n g)

-- what is made is right, and its names are in the scope of the open theory
pub record IsNextState (s : List Tree) (t : Typed) (o : Opened) (d : source.SyntaxDeclaration)
    (s' : List Tree) (t' : Typed) (o' : Opened) (made : Elaborated) : Type 0 where
  pub parts : Declaration
  pub of : declaration d ≡ Some parts
  pub elaborated : IsElaborated (state_setting (state_at s t o)) parts t.sig s' t'.sig o'.scope made
  pub kept : IsKept s' t'.sig o'.scope made
  pub covered : All (IsCovered (symbols_at s' t'.sig.symbols)) (map (match_at s') made.matches)
  pub checked : All (HasNoFault (symbols_at s' t'.sig.symbols))
      (bodies (declarations_at s' made.decls))
  pub typed : t' ≡ record t { sig = t'.sig }
  pub opened : o' ≡ record o { scope = o'.scope }

-- the type variables of a proposition have names with a quote, as those of the tokens of a text
abbrev pub AreQuoted : source.SyntaxDeclaration → Type 0
AreQuoted d = (k : PropKind) (y : TokenName) (x : Expression)
    → declaration d ≡ Some (proposition_declaration k y x) → All IsQuoted (proposition_seen x).vars
