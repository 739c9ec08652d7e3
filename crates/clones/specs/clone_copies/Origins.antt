-- What a theory that is cloned has of its own: its declarations by their places, and its axioms
-- (Why3 manual, "theory cloning").
use Rattle.std.specs.Prelude.{ℕ, ◌==◌, if◌then◌else◌, Bool, List, [], ◌∷◌, ◌++◌, Option, Some, None}
use Rattle.std.specs.Option.{is_some}
use Rattle.std.specs.Str.{bytes_eq}
use Rattle.tasks.specs.Task.{DeclarationTree}
use Rattle.elab_groups.specs.surface.Lexeme.{Word}
use Rattle.clones.specs.clone_elements.Left.{Origin, decl_or}
use Rattle.theory_states.specs.declared.states.AxiomAt.{AxiomAt}
use Rattle.theory_states.specs.States.{KnownTree}

-- a declaration of the theory with this path
abbrev pub is_own : List DeclarationTree → Word → ℕ → Bool
is_own ds path k = bytes_eq (decl_or ds k).theory path

-- those of these places
abbrev pub own_at : List DeclarationTree → Word → ℕ → List ℕ
own_at ds path k = if is_own ds path k then k ∷ [] else []

abbrev pub own_among : List DeclarationTree → Word → List ℕ → List ℕ
own_among ds path [] = []
own_among ds path (k ∷ ks) = own_at ds path k ++ own_among ds path ks

abbrev pub own_places : List DeclarationTree → KnownTree → List ℕ
own_places ds t = own_among ds t.path t.visible

-- the names of the type variables of the axiom at a place; of equal places the last counts
abbrev pub Axioms : Type 0
Axioms = ℕ → Option (List Word)

abbrev pub no_axioms : Axioms
no_axioms k = None

abbrev pub with_axioms : List AxiomAt → Axioms → Axioms
with_axioms [] f = f
with_axioms (a ∷ as_) f = with_axioms as_ (λ q. if a.decl == q then Some a.vars else f q)

abbrev pub axioms_at : List AxiomAt → Axioms
axioms_at as_ = with_axioms as_ no_axioms

abbrev pub origin_of : List DeclarationTree → KnownTree → Origin
origin_of ds t =
    record { decls = ds; own = own_places ds t; axioms = λ k. is_some (axioms_at t.axioms k) }
