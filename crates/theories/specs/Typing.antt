-- The typing of a theory's declarations, one after another, and their first fault (Why3 manual,
-- "theories").
use Rattle.std.specs.Prelude.{◌≡◌, ◌⊎◌, ℕ, ◌+◌, true, false, codes, List, [], ◌∷◌, ◌++◌}
use Rattle.elaboration_laws.specs.scopes.Names.{with_scope, is_declared, entries_of, innermost}
use Rattle.elaboration_laws.specs.scopes.declared.Table.TheVariants.{Scopes}
use Rattle.theory_states.specs.declared.moves.Move.TheVariants.{Opens, Closes}
use Rattle.theory_states.specs.Moves.{left}
use Rattle.surface.specs.declared.names.Name.{Name}
use Rattle.surface.specs.Declarations.{SyntaxDeclaration, SyntaxDeclarations, use_decl, clone_decl, scope_decl, no_decls, more_decls}
use Rattle.theory_states.specs.declared.fault.SourceFault.{SourceFault}
use Rattle.theory_states.specs.declared.fault.SourceFault.TheVariants.{Duplicate}
use Rattle.theory_states.specs.States.{StateTree}
use Rattle.theory_states.specs.Uses.{IsTheoryUsed, IsUnknownTheory}
use Rattle.theories.specs.declaring.Declared.{IsDeclared, IsDeclaredFault}
use Rattle.theories.specs.cloning.Cloned.{IsCloned, IsCloneFault}

-- one step after another, and a fault after a step
pub record ThenStep (R S : StateTree → StateTree → Type 0) (c c' : StateTree) : Type 0 where
  pub between : StateTree
  pub first : R c between
  pub second : S between c'

pub record FaultThen (R : StateTree → StateTree → Type 0) (Is : StateTree → SourceFault → Type 0)
    (c : StateTree) (f : SourceFault) : Type 0 where
  pub between : StateTree
  pub first : R c between
  pub fault : Is between f

-- a step for each of a list, in order, and the first fault of these
abbrev pub Steps : {X : Type 0} → (X → StateTree → StateTree → Type 0) → List X → StateTree
    → StateTree → Type 0
Steps R [] c c' = c ≡ c'
Steps R (x ∷ xs) c c' = ThenStep (R x) (Steps R xs) c c'

abbrev pub FirstFault : {X : Type 0} → (X → StateTree → StateTree → Type 0)
    → (X → StateTree → SourceFault → Type 0) → List X → StateTree → SourceFault → Type 0
FirstFault R Is [] c f = ⊥
FirstFault R Is (x ∷ xs) c f = Is x c f ⊎ FaultThen (R x) (FirstFault R Is xs) c f

-- the next declaration has the next number
abbrev pub IsPassed : StateTree → StateTree → Type 0
IsPassed c c' = c' ≡ record c { number = c.number + 1 }

-- ---- scopes
-- the innermost scope declared no scope of this name, and one is opened
pub record IsOpened (n : Name) (c c' : StateTree) : Type 0 where
  pub new : is_declared Scopes n.text (entries_of c.opened.scope (innermost c.opened.scope)) ≡ false
  pub is : c' ≡ record c {
    opened = record c.opened {
      scope = with_scope n.text true c.opened.scope;
      within = c.opened.within ++ (n.text ++ codes ".");
      moves = c.opened.moves ++ Opens n.text ∷ [];
    };
    number = c.number + 1;
  }

-- it is left again, so that these scopes are open
abbrev pub IsLeft : List ℕ → StateTree → StateTree → Type 0
IsLeft outer c c' = c' ≡ record c {
  opened = record c.opened {
    scope = left c.opened.scope;
    within = outer;
    moves = c.opened.moves ++ Closes ∷ [];
  };
}

pub record IsTwice (n : Name) (c : StateTree) (f : SourceFault) : Type 0 where
  pub declared : is_declared Scopes n.text
      (entries_of c.opened.scope (innermost c.opened.scope)) ≡ true
  pub is : f ≡ Duplicate c.number n.at

-- ---- declarations
-- a declaration, typed so where it is no use, clone or scope; a use or a clone; or a scope with its
-- declarations
abbrev mutual
  pub IsTypedBy : (SyntaxDeclaration → StateTree → StateTree → Type 0) → SyntaxDeclaration
      → StateTree → StateTree → Type 0
  IsTypedBy D (use_decl a l p n) c c' = ThenStep (IsTheoryUsed l p n) IsPassed c c'
  IsTypedBy D (clone_decl a l p n es) c c' = ThenStep (IsCloned l p n es) IsPassed c c'
  IsTypedBy D (scope_decl a n ds) c c' =
      ThenStep (IsOpened n) (ThenStep (AreTypedBy D ds) (IsLeft c.opened.within)) c c'
  IsTypedBy D d c c' = ThenStep (D d) IsPassed c c'

  pub AreTypedBy : (SyntaxDeclaration → StateTree → StateTree → Type 0) → SyntaxDeclarations
      → StateTree → StateTree → Type 0
  AreTypedBy D no_decls c c' = c ≡ c'
  AreTypedBy D (more_decls d ds) c c' = ThenStep (IsTypedBy D d) (AreTypedBy D ds) c c'

abbrev pub IsDeclarationTyped : SyntaxDeclaration → StateTree → StateTree → Type 0
IsDeclarationTyped = IsTypedBy IsDeclared

abbrev pub AreDeclarationsTyped : SyntaxDeclarations → StateTree → StateTree → Type 0
AreDeclarationsTyped = AreTypedBy IsDeclared

-- the fault of a declaration, and the first fault of declarations
abbrev mutual
  pub IsDeclarationFault : SyntaxDeclaration → StateTree → SourceFault → Type 0
  IsDeclarationFault (use_decl a l p n) c f = IsUnknownTheory p c.known c.number f
  IsDeclarationFault (clone_decl a l p n es) c f = IsCloneFault p es c f
  IsDeclarationFault (scope_decl a n ds) c f =
      IsTwice n c f ⊎ FaultThen (IsOpened n) (AreFaulty ds) c f
  IsDeclarationFault d c f = IsDeclaredFault d c f

  pub AreFaulty : SyntaxDeclarations → StateTree → SourceFault → Type 0
  AreFaulty no_decls c f = ⊥
  AreFaulty (more_decls d ds) c f =
      IsDeclarationFault d c f ⊎ FaultThen (IsDeclarationTyped d) (AreFaulty ds) c f
