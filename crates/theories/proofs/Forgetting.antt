-- What is typed soundly is typed.
use Rattle.std.proofs.Common.{ℕ, List, [], ◌∷◌, inl, inr}
use Rattle.surface.specs.Declarations.{SyntaxDeclaration, SyntaxDeclarations, SyntaxTheory, type_decl, algebraic_decl, function_decl, predicate_decl, constant_decl, inductive_decl, prop_decl, use_decl, clone_decl, scope_decl, no_decls, more_decls}
use Rattle.surface.specs.declared.declarations.File.{File}
use Rattle.surface.specs.SurfaceDeclarations.{file_of}
use Rattle.elaboration_laws.specs.theory_states.goal_tasks.Theories.{TheoriesTree}
use Rattle.theory_states.specs.declared.fault.SourceFault.{SourceFault}
use Rattle.theory_states.specs.States.{StateTree}
use Rattle.theories.specs.Typing.{Steps, FirstFault, IsDeclarationTyped, AreDeclarationsTyped}
use Rattle.theories.specs.Files.{IsNewTheoryBy, IsNewTheory, AreTypedInBy, AreTypedIn, IsEmbeddedBy, IsEmbedded, AreEmbeddedInBy, AreEmbeddedIn, nothing_known, IsLibraryTypedBy, IsLibraryTyped, TheoriesOf}
use Rattle.theories.specs.Sound.{IsSoundlyTyped, AreSoundlyTyped, SoundTheoriesOf}

mutual
  pub decl_forgotten : (d : SyntaxDeclaration) (c c' : StateTree) → IsSoundlyTyped d c c' → IsDeclarationTyped d c c'
  decl_forgotten (type_decl a n vs f) c c' h = record { between = h.between; first = h.first.declared; second = h.second }
  decl_forgotten (algebraic_decl a ts) c c' h = record { between = h.between; first = h.first.declared; second = h.second }
  decl_forgotten (function_decl a x ps f e ms) c c' h = record { between = h.between; first = h.first.declared; second = h.second }
  decl_forgotten (predicate_decl a x ps e ms) c c' h = record { between = h.between; first = h.first.declared; second = h.second }
  decl_forgotten (constant_decl a x f e) c c' h = record { between = h.between; first = h.first.declared; second = h.second }
  decl_forgotten (inductive_decl a ds) c c' h = record { between = h.between; first = h.first.declared; second = h.second }
  decl_forgotten (prop_decl a k x e) c c' h = record { between = h.between; first = h.first.declared; second = h.second }
  decl_forgotten (use_decl a l p n) c c' h = h
  decl_forgotten (clone_decl a l p n es) c c' h = h
  decl_forgotten (scope_decl a n ds) c c' h = record {
    between = h.between;
    first = h.first;
    second = record { between = h.second.between; first = decls_forgotten ds h.between h.second.between h.second.first; second = h.second.second };
  }

  pub decls_forgotten : (ds : SyntaxDeclarations) (c c' : StateTree) → AreSoundlyTyped ds c c' → AreDeclarationsTyped ds c c'
  decls_forgotten no_decls c c' h = h
  decls_forgotten (more_decls d ds) c c' h = record { between = h.between; first = decl_forgotten d c h.between h.first; second = decls_forgotten ds h.between c' h.second }

-- ---- lists of steps
module _ {X : Type 0} (R Q : X → StateTree → StateTree → Type 0) (k : (x : X) (c c' : StateTree) → R x c c' → Q x c c') where
  pub steps_so : (xs : List X) (c c' : StateTree) → Steps R xs c c' → Steps Q xs c c'
  steps_so [] c c' h = h
  steps_so (x ∷ xs) c c' h = record { between = h.between; first = k x c h.between h.first; second = steps_so xs h.between c' h.second }

  pub first_so : (F : X → StateTree → SourceFault → Type 0) (xs : List X) (c : StateTree) (f : SourceFault) → FirstFault R F xs c f → FirstFault Q F xs c f
  first_so F [] c f h = h
  first_so F (x ∷ xs) c f h = elim h [ inl i ↦ inl i | inr i ↦ inr (record { between = i.between; first = k x c i.between i.first; fault = first_so F xs i.between f i.fault }) ]

-- ---- theories
pub new_forgotten : (path : List ℕ) (ds : SyntaxDeclarations) (c c' : StateTree) → IsNewTheoryBy AreSoundlyTyped path ds c c' → IsNewTheory path ds c c'
new_forgotten path ds c c' h =
    let t = h.typed in
    record {
      new = h.new;
      typed = record {
        between = t.between;
        first = t.first;
        second = record { between = t.second.between; first = decls_forgotten ds t.between t.second.between t.second.first; second = t.second.second };
      };
    }

pub source_forgotten : (ts : List SyntaxTheory) (c c' : StateTree) → AreTypedInBy AreSoundlyTyped ts c c' → AreTypedIn ts c c'
source_forgotten ts c c' h = steps_so (λ (t : SyntaxTheory). IsNewTheoryBy AreSoundlyTyped t.name.text t.decls) (λ (t : SyntaxTheory). IsNewTheory t.name.text t.decls) (λ (t : SyntaxTheory). new_forgotten t.name.text t.decls) ts c c' h

pub embedded_forgotten : (path : List ℕ) (t : SyntaxTheory) (c c' : StateTree) → IsEmbeddedBy AreSoundlyTyped path t c c' → IsEmbedded path t c c'
embedded_forgotten path t c c' h = record { between = h.between; first = new_forgotten path t.decls c h.between h.first; second = h.second }

pub file_forgotten : (f : List ℕ × File) (c c' : StateTree) → AreEmbeddedInBy AreSoundlyTyped f.0 (file_of f.1) c c' → AreEmbeddedIn f.0 (file_of f.1) c c'
file_forgotten f c c' h = steps_so (IsEmbeddedBy AreSoundlyTyped f.0) (IsEmbedded f.0) (embedded_forgotten f.0) (file_of f.1) c c' h

pub library_forgotten : (c : StateTree) → IsLibraryTypedBy AreSoundlyTyped c → IsLibraryTyped c
library_forgotten c h = record {
  files = h.files;
  are = h.are;
  typed = steps_so (λ (f : List ℕ × File). AreEmbeddedInBy AreSoundlyTyped f.0 (file_of f.1)) (λ (f : List ℕ × File). AreEmbeddedIn f.0 (file_of f.1)) file_forgotten h.files nothing_known c h.typed;
}

pub forgotten : (source : List SyntaxTheory) (all : TheoriesTree) → SoundTheoriesOf source all → TheoriesOf source all
forgotten source all h = record {
  before = h.before;
  library = library_forgotten h.before h.library;
  after = h.after;
  typed = source_forgotten source h.before h.after h.typed;
  are = h.are;
}
