-- No declaration is lost where others are copied or joined.
use Rattle.std.proofs.Common.{◌≡◌, ℕ, ◌≤◌, Bool, true, false, cond, List, [], ◌∷◌, length, Option, Some, None, refl, ap, arith, length-append}
use Rattle.tasks.specs.Task.{BodyTree, MakesType, Makes, Defines, Induces, Constructs, Says, DeclarationTree}
use Rattle.elab_groups.specs.surface.declared.declarations.PropKind.{PropKind}
use Rattle.elab_groups.specs.surface.declared.declarations.PropKind.TheVariants as kind
use Rattle.theory_states.specs.States.{StateTree, with_declaration}
use Rattle.clones.specs.clone_elements.Replacements.{is_replaced, kind_or}
use Rattle.clones.specs.clone_copies.Origins.{is_own}
use Rattle.clones.specs.clone_copies.Places.{Copying, goal_with, with_copied_goal, with_kind, with_copy, copy_of, with_own, with_joined, with_place}

declared : (d : DeclarationTree) (c : StateTree) → length c.decls ≤ length (with_declaration d c).decls
declared d c = omega (arith, length-append c.decls (d ∷ []))

goal_keeps : (vars : List (List ℕ)) (name : List ℕ) (b : BodyTree) (c : StateTree) → (goal_with vars name b c).decls ≡ c.decls
goal_keeps vars name (Says e) c = refl
goal_keeps vars name (MakesType k) c = refl
goal_keeps vars name (Makes k) c = refl
goal_keeps vars name (Defines ds) c = refl
goal_keeps vars name (Induces ds) c = refl
goal_keeps vars name (Constructs ds) c = refl

kind_longer : (k : PropKind) (vars : List (List ℕ)) (d : DeclarationTree) (c : StateTree) → length c.decls ≤ length (with_kind k vars d c).decls
kind_longer kind.Axiom vars d c = declared d c
kind_longer kind.Lemma vars d c = omega (arith, ap length (goal_keeps vars d.name d.body c), declared d (with_copied_goal vars d c))
kind_longer kind.Goal vars d c = omega (arith, ap length (goal_keeps vars d.name d.body c))

copy_longer : (x : Copying) (k : ℕ) (o : Option (List (List ℕ))) (d : DeclarationTree) (c : StateTree) → length c.decls ≤ length (with_copy x k o d c).decls
copy_longer x k None d c = declared d c
copy_longer x k (Some vars) d c = kind_longer (kind_or (x.effects k) x.all) vars d c

either : (b : Bool) (n : ℕ) (c e : StateTree) → n ≤ length c.decls → n ≤ length e.decls → n ≤ length (cond b c e).decls
either true n c e h g = h
either false n c e h g = g

pub place_longer : (x : Copying) (k : ℕ) (c : StateTree) → length c.decls ≤ length (with_place x k c).decls
place_longer x k c =
    either (is_own c.decls x.path k) (length c.decls) (with_own x k c) (with_joined k c) (either (is_replaced (x.effects k)) (length c.decls) c (with_copy x k (x.axioms k) (copy_of x c k) c) (omega arith) (copy_longer x k (x.axioms k) (copy_of x c k) c)) (omega arith)
