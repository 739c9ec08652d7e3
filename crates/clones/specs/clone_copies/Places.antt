-- The copies of a theory's declarations, and the others joined at their places; what an axiom
-- becomes (Why3 manual, "theory cloning").
use Rattle.std.specs.Prelude.{ℕ, ◌+◌, if◌then◌else◌, Bool, List, [], ◌∷◌, ◌++◌, map, length, Option, Some, None}
use Rattle.tasks.specs.trees.Tree.{Tree}
use Rattle.tasks.specs.trees.Binding.{inst_types}
use Rattle.tasks.specs.Task.{BodyTree, MakesType, Makes, Defines, Induces, Constructs, Says, DeclarationTree}
use Rattle.tasks.specs.Rigid.{rigid_symbol}
use Rattle.elab_groups.specs.surface.Lexeme.{Word}
use Rattle.elab_groups.specs.surface.declared.declarations.PropKind.{PropKind}
use Rattle.elab_groups.specs.surface.declared.declarations.PropKind.TheVariants as kind
use Rattle.clones.specs.Mapped.{Map}
use Rattle.clones.specs.Copies.{declaration_copied}
use Rattle.theory_states.specs.goal_tasks.Theories.{GoalTree}
use Rattle.theory_states.specs.declared.states.AxiomAt.{AxiomAt}
use Rattle.theory_states.specs.States.{StateTree, joined_places, with_declaration}
use Rattle.clones.specs.clone_elements.Left.{decl_or}
use Rattle.clones.specs.clone_elements.Replacements.{PlacedEffects, is_replaced, kind_or}
use Rattle.clones.specs.clone_copies.Origins.{Axioms, is_own}
pub use Rattle.elab_groups.specs.parts.Outcomes.{rigid_types}

-- the path of the theory that is cloned and its axioms, what becomes of its declarations, whether
-- all axioms that aren't named stay axioms, the map, and the names of the scopes of the copies,
-- each followed by a dot
pub record Copying : Type 0 where
  pub path : Word
  pub axioms : Axioms
  pub effects : PlacedEffects
  pub all : Bool
  pub mapping : Map
  pub within : Word

-- ---- an axiom's copy
-- as an axiom
abbrev pub axiom_at : ℕ → List Word → AxiomAt
axiom_at place vars = record { decl = place; vars = vars }

abbrev pub with_copied_axiom : List Word → DeclarationTree → StateTree → StateTree
with_copied_axiom vars d c = record (with_declaration d c) {
  opened = record (with_declaration d c).opened
      { axioms = c.opened.axioms ++ axiom_at (length c.decls) vars ∷ [] };
}

-- as a goal: its type variables are the next entries
abbrev pub next_numbers : ℕ → List Word → List ℕ
next_numbers k [] = []
next_numbers k (v ∷ vs) = k ∷ next_numbers (k + 1) vs

abbrev pub goal_of : Word → ℕ → Tree → List ℕ → GoalTree
goal_of name before e ks =
    record { name = name; before = before; prop = inst_types e (rigid_types ks); rigid = ks }

abbrev pub goal_with : List Word → Word → BodyTree → StateTree → StateTree
goal_with vars name (Says e) c = record c {
  symbols = c.symbols ++ map rigid_symbol vars;
  opened = record c.opened {
    goals =
        c.opened.goals ++ goal_of name (length c.opened.visible) e
        (next_numbers (length c.symbols) vars) ∷ [];
  };
}
goal_with vars name (MakesType k) c = c
goal_with vars name (Makes k) c = c
goal_with vars name (Defines ds) c = c
goal_with vars name (Induces ds) c = c
goal_with vars name (Constructs ds) c = c

abbrev pub with_copied_goal : List Word → DeclarationTree → StateTree → StateTree
with_copied_goal vars d c = goal_with vars d.name d.body c

-- a lemma is known after its goal
abbrev pub with_kind : PropKind → List Word → DeclarationTree → StateTree → StateTree
with_kind kind.Axiom vars d c = with_copied_axiom vars d c
with_kind kind.Lemma vars d c = with_declaration d (with_copied_goal vars d c)
with_kind kind.Goal vars d c = with_copied_goal vars d c

-- ---- all copies
abbrev pub with_copy : Copying → ℕ → Option (List Word) → DeclarationTree → StateTree → StateTree
with_copy x k None d c = with_declaration d c
with_copy x k (Some vars) d c = with_kind (kind_or (x.effects k) x.all) vars d c

abbrev pub copy_of : Copying → StateTree → ℕ → DeclarationTree
copy_of x c k = declaration_copied x.mapping c.opened.path x.within (decl_or c.decls k)

abbrev pub with_joined : ℕ → StateTree → StateTree
with_joined k c =
    record c { opened = record c.opened { visible = joined_places c.opened.visible (k ∷ []) } }

-- an own declaration is copied unless it is replaced, another one is joined
abbrev pub with_own : Copying → ℕ → StateTree → StateTree
with_own x k c =
    if is_replaced (x.effects k) then c else with_copy x k (x.axioms k) (copy_of x c k) c

abbrev pub with_place : Copying → ℕ → StateTree → StateTree
with_place x k c = if is_own c.decls x.path k then with_own x k c else with_joined k c

abbrev pub with_places : Copying → List ℕ → StateTree → StateTree
with_places x [] c = c
with_places x (k ∷ ks) c = with_places x ks (with_place x k c)
