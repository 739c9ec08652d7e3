-- The faults of a clone, from what is told of its parts.
use Rattle.std.proofs.Common.{◌≡◌, ℕ, List, Option, Some, None, Err, refl}
use Rattle.surface.specs.declared.names.Path.{Path}
use Rattle.surface.specs.Declarations.{Element}
use Rattle.elab_groups.specs.name_resolution.declared.NamingFault.{NamingFault}
use Rattle.elab_groups.specs.name_resolution.declared.NamingFault.TheVariants as names
use Rattle.elab_groups.specs.name_resolution.Naming.{Tells}
use Rattle.theory_states.specs.declared.fault.SourceFault.{SourceFault}
use Rattle.theory_states.specs.declared.fault.SourceFault.TheVariants.{Memory}
use Rattle.theory_states.specs.States.{KnownTree, StateTree, known_named}
use Rattle.theory_states.specs.Uses.{path_text, OrMemory}
use Rattle.clones.specs.clone_elements.Rights.{all_variables_fault}
use Rattle.clones.specs.clone_copies.Origins.{origin_of}
use Rattle.theories.specs.cloning.Cloned.{naming, IsNamesFault, IsCloneFault, of_clone_names, of_elements}
use Rattle.theories.specs.cloning.ReadElements.{IsElementsFault, in_names, in_elements}

pub names_fault : (number : ℕ) (g : NamingFault) (o : Option NamingFault) → Tells (Err g) o → OrMemory (IsNamesFault number o) (naming number g)
names_fault number names.Memory o h = tt
names_fault number (names.Unknown token) o h = record { fault = names.Unknown token; first = h; is = refl }
names_fault number (names.Duplicate token) o h = record { fault = names.Duplicate token; first = h; is = refl }
names_fault number (names.WrongKind token) o h = record { fault = names.WrongKind token; first = h; is = refl }
names_fault number (names.Arity token) o h = record { fault = names.Arity token; first = h; is = refl }

pub or_weaker : (P Q : SourceFault → Type 0) → ((f : SourceFault) → P f → Q f) → (f : SourceFault) → OrMemory P f → OrMemory Q f
or_weaker P Q g Memory h = tt
or_weaker P Q g f h = g f h

-- the elements of a theory that is known
pub read_fault : (p : Path) (es : List Element) (c : StateTree) (t : KnownTree) → all_variables_fault es ≡ None → known_named c.known (path_text p.parts) ≡ Some t
    → (f : SourceFault) → IsElementsFault c.number c.symbols c.opened.scope (origin_of c.decls t) es f → IsCloneFault p es c f
read_fault p es c t v q f (in_names h) = of_clone_names t v q h
read_fault p es c t v q f (in_elements n h) = of_elements t v q n h
