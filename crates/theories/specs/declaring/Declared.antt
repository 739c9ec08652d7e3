-- The typing of a declaration of a theory, and its first fault (Why3 manual, "theories", "logical
-- declarations"): its names, its types, whether its matches take all values, and then its other
-- side conditions; and what becomes known by it.
use Rattle.std.specs.Prelude.{◌≡◌, ℕ, List, [], ◌∷◌, ◌++◌, length, All, Option, Some, None}
use Rattle.tasks.specs.trees.Tree.{Tree}
use Rattle.tasks.specs.trees.Binding.{inst_types}
use Rattle.tasks.specs.Task.{BodyTree, Says, DeclarationTree}
use Rattle.surface.specs.Lexeme.{Word}
use Rattle.surface.specs.Declarations as source
use Rattle.surface.specs.declared.declarations.PropKind.{PropKind}
use Rattle.surface.specs.declared.declarations.PropKind.TheVariants as kind
use Rattle.elaboration_laws.specs.checks.decl_checks.Checks.{HasNoFault}
use Rattle.elab_groups.specs.name_resolution.Abstract.{Expression, expression}
use Rattle.elab_groups.specs.declared.parts.ElabFault.{ElabFault}
use Rattle.elab_groups.specs.parts.Declarations.{Declaration, declaration}
use Rattle.elab_groups.specs.parts.Outcomes.{Outcome}
use Rattle.elab_declarations.specs.Outcomes.{proposition_seen, rigid_types, IsOutcome, names_fault, IsRefusal}
use Rattle.theories.specs.declared.side_conditions.sides.SideFault.{SideFault}
use Rattle.theories.specs.side_conditions.Sides.{IsCovered, IsSideFault, bodies}
use Rattle.elaboration_laws.specs.theory_states.goal_tasks.Theories.{GoalTree}
use Rattle.theories.specs.declaring.Made.{moves_declared}
use Rattle.theory_states.specs.declared.fault.SourceFault.{SourceFault}
use Rattle.theory_states.specs.declared.states.AxiomAt.{AxiomAt}
use Rattle.theory_states.specs.States.{StateTree, with_declaration, with_declarations}
use Rattle.elaboration_laws.specs.TypedStates.{state_setting}
use Rattle.theories.specs.declaring.Faults.{elaboration_fault, side_fault}

-- ---- what becomes known
abbrev pub known_formula : BodyTree → Option Tree
known_formula (Says e) = Some e
known_formula _ = None

-- what is to be proved: a lemma at its rigid types; a goal has them
abbrev pub to_prove : PropKind → List ℕ → Tree → Tree
to_prove kind.Lemma rigid e = inst_types e (rigid_types rigid)
to_prove _ rigid e = e

abbrev pub goals_said : PropKind → ℕ → List ℕ → Word → Option Tree → List GoalTree
goals_said k before rigid name None = []
goals_said k before rigid name (Some e) =
    record { name = name; before = before; prop = to_prove k rigid e; rigid = rigid } ∷ []

-- a goal, before which the visible declarations stand
abbrev pub with_declared_goal : PropKind → List ℕ → DeclarationTree → StateTree → StateTree
with_declared_goal k rigid d c =
    record c {
      opened = record c.opened {
        goals = c.opened.goals ++ goals_said k (length c.opened.visible) rigid d.name
            (known_formula d.body);
      };
    }

-- the last declaration is an axiom with these type variables
abbrev pub with_axiom : AxiomAt → StateTree → StateTree
with_axiom x c = record c { opened = record c.opened { axioms = c.opened.axioms ++ x ∷ [] } }

-- an axiom is known; a lemma is known, and a goal until it is proved; a goal isn't known
abbrev pub with_proposition : PropKind → List Word → List ℕ → DeclarationTree → StateTree
    → StateTree
with_proposition kind.Axiom vars rigid d c =
    with_axiom (record { decl = length c.decls; vars = vars }) (with_declaration d c)
with_proposition kind.Lemma vars rigid d c =
    with_declaration d (with_declared_goal kind.Lemma rigid d c)
with_proposition kind.Goal vars rigid d c = with_declared_goal kind.Goal rigid d c

-- a proposition makes one declaration
abbrev pub with_proposed : PropKind → List Word → List ℕ → List DeclarationTree → StateTree
    → StateTree
with_proposed k vars rigid [] c = c
with_proposed k vars rigid (d ∷ ds) c = with_proposition k vars rigid d c

abbrev pub proposition_in : source.SyntaxDeclaration → Option (PropKind × Expression)
proposition_in (source.prop_decl a k c e) = Some (k, expression e)
proposition_in _ = None

abbrev pub known_by : Option (PropKind × Expression) → List ℕ → List DeclarationTree → StateTree
    → StateTree
known_by None rigid ds c = with_declarations ds c
known_by (Some p) rigid ds c = with_proposed p.0 (proposition_seen p.1).vars rigid ds c

-- the entries and the names that it makes
abbrev pub with_named : source.SyntaxDeclaration → Outcome → StateTree → StateTree
with_named d o c = record c {
  symbols = c.symbols ++ o.symbols;
  opened =
      record c.opened { scope = o.scope; moves = c.opened.moves ++ moves_declared o.scope d };
}

-- ---- a declaration that is no use, clone or scope
pub record IsDeclared (d : source.SyntaxDeclaration) (c c' : StateTree) : Type 0 where
  pub parts : Declaration
  pub of : declaration d ≡ Some parts
  pub outcome : Outcome
  pub is : IsOutcome (state_setting c) parts outcome
  pub named : names_fault (state_setting c) parts ≡ None
  pub covered : All (IsCovered (c.symbols ++ outcome.symbols)) outcome.matches
  pub checked : All (HasNoFault (c.symbols ++ outcome.symbols)) (bodies outcome.decls)
  pub known : c' ≡ known_by (proposition_in d) outcome.rigid outcome.decls
      (with_named d outcome c)

-- its first fault: of its names and types; else, as it has an outcome, of its side conditions
pub data IsDeclaredFault (d : source.SyntaxDeclaration) (c : StateTree)
    (f : SourceFault) : Type 0 where
  of_elaboration : (x : Declaration) (g : ElabFault) → declaration d ≡ Some x
      → IsRefusal (state_setting c) x g → f ≡ elaboration_fault g → IsDeclaredFault d c f
  of_sides : (x : Declaration) (o : Outcome) (g : SideFault) → declaration d ≡ Some x
      → IsOutcome (state_setting c) x o → names_fault (state_setting c) x ≡ None
      → IsSideFault (c.symbols ++ o.symbols) o.matches (bodies o.decls) g
      → f ≡ side_fault c.number g → IsDeclaredFault d c f
