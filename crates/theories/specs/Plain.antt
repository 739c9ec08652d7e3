-- What a clone asks of theories beside that they are sound: each axiom is a proposition.
use Rattle.std.specs.Prelude.{◌≡◌, ◌<◌, List, length, slice_get, All, Some}
use Rattle.tasks.specs.Task.{BodyTree, Says, DeclarationTree}
use Rattle.theory_states.specs.declared.states.AxiomAt.{AxiomAt}
use Rattle.theory_states.specs.States.{KnownTree, StateTree}

abbrev pub IsSaid : BodyTree → Type 0
IsSaid (Says e) = Unit {0}
IsSaid _ = ⊥

-- the declaration of an axiom says a proposition
pub record IsPlainAxiom (decls : List DeclarationTree) (a : AxiomAt) : Type 0 where
  pub there : a.decl < length decls
  pub said : (d : DeclarationTree) → slice_get decls a.decl ≡ Some d → IsSaid d.body

abbrev pub ArePlainAxioms : List DeclarationTree → List AxiomAt → Type 0
ArePlainAxioms decls axioms = All (IsPlainAxiom decls) axioms

-- those of theories, where none is open
abbrev pub ArePlainTheories : List DeclarationTree → List KnownTree → Type 0
ArePlainTheories decls ts = All (λ (t : KnownTree). ArePlainAxioms decls t.axioms) ts

pub record IsPlainState (c : StateTree) : Type 0 where
  pub known : ArePlainTheories c.decls c.known
  pub opened : ArePlainAxioms c.decls c.opened.axioms
