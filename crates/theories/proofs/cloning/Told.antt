-- What is told of elements, over the signature and the theory that they were read with.
use Rattle.std.proofs.Common.{◌≡◌, ℕ, List, ◌++◌, None, subst}
use Rattle.tasks.specs.trees.Tree.{Tree}
use Rattle.tasks.specs.Task.{SymbolTree}
use Rattle.elab_groups.specs.name_resolution.Where.{NamesTree}
use Rattle.surface.specs.Declarations.{Element}
use Rattle.theory_states.specs.declared.fault.SourceFault.{SourceFault}
use Rattle.clones.specs.declared.clone_elements.elements.Replacement.{Replacement}
use Rattle.clones.specs.clone_elements.Left.{Origin}
use Rattle.clones.specs.clone_elements.Rights.{rights_fault, rights_tuples}
use Rattle.clones.specs.clone_elements.Replacements.{SideTree, no_effects, tried_map}
use Rattle.clones.specs.clone_elements.Elements.{SidesTold}
use Rattle.clones.specs.clone_elements.Meaning.{IsReplacement}
use Rattle.theories.specs.cloning.Cloned.{sides_over, IsElementFault}
use Rattle.theories.specs.cloning.ReadElements.{AreElementsRead, IsElementsFault, in_elements}

pub along : {A B C : Type 0} (P : A → B → C → Type 0) {a a' : A} {b b' : B} {c c' : C} → a ≡ a' → b ≡ b' → c ≡ c' → P a b c → P a' b' c'
along {A} {B} {C} P {a} {a'} {b} {b'} {c} {c'} p q r x = subst (λ (z : C). P a' b' z) r (subst (λ (y : B). P a' y c) q (subst (λ (y : A). P y b c) p x))

module _ (symbols : List SymbolTree) (scope : NamesTree) (o : Origin) (es : List Element) (names : rights_fault symbols scope es ≡ None)
    (a : List SymbolTree) (x : Origin) (xs : List SideTree) (p : a ≡ symbols ++ rights_tuples symbols es) (q : x ≡ o) (r : xs ≡ sides_over o symbols scope es) where
  abbrev Right : List SymbolTree → Origin → List SideTree → Type 0
  Right b y ys = SidesTold b y (tried_map b y ys) no_effects ys None

  pub is_read : (s' : List Tree) (replacement : Replacement) → Right a x xs → IsReplacement s' a x xs replacement → AreElementsRead symbols scope o es s' replacement
  is_read s' replacement told h = record { names = names; right = along Right p q r told; replacement = along (λ b y ys. IsReplacement s' b y ys replacement) p q r h }

  pub is_read_fault : (number : ℕ) (f : SourceFault) → IsElementFault number a x xs f → IsElementsFault number symbols scope o es f
  is_read_fault number f h = in_elements names (along (λ b y ys. IsElementFault number b y ys f) p q r h)
