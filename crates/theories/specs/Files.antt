-- The theories of a source, after those of the embedded library, and the first fault (Why3 manual,
-- "theories").
use Rattle.std.specs.Prelude.{◌≡◌, ◌⊎◌, ℕ, ◌+◌, ◌||◌, Bool, true, false, List, [], ◌∷◌, ◌++◌, map, length, Some}
use Rattle.std.specs.Option.{is_some}
use Rattle.std.specs.Str.{bytes_eq}
use Rattle.tasks.specs.Task.{int_symbol}
use Rattle.tasks.specs.Vocabulary.{is_empty}
use Rattle.surface.specs.Declarations.{SyntaxDeclarations, SyntaxTheory}
use Rattle.surface.specs.declared.declarations.File.{File}
use Rattle.surface.specs.SurfaceDeclarations.{file_of}
use Rattle.parser.specs.std_theories.Library.{AreFilesOf, library}
use Rattle.elaboration_laws.specs.elab_groups.parts.Entries.{builtin}
use Rattle.elaboration_laws.specs.theory_states.goal_tasks.Theories.{KnownTheoryTree, TheoriesTree}
use Rattle.theory_states.specs.declared.fault.SourceFault.{SourceFault}
use Rattle.theory_states.specs.declared.fault.SourceFault.TheVariants.{Duplicate}
use Rattle.theory_states.specs.States.{KnownTree, StateTree, at_places, known_named, known_as, opened_empty}
use Rattle.theories.specs.Ints.{int_entries}
use Rattle.theories.specs.Typing.{ThenStep, FaultThen, Steps, FirstFault, AreDeclarationsTyped, AreFaulty}

-- ---- a theory
-- a theory with this path begins, and its header has a number
abbrev pub IsTheoryBegun : List ℕ → StateTree → StateTree → Type 0
IsTheoryBegun path c c' = c' ≡ record c { opened = opened_empty path; number = c.number + 1 }

-- the open theory ends, and is known
abbrev pub IsEnded : StateTree → StateTree → Type 0
IsEnded c c' = c' ≡ record c { known = c.known ++ known_as c.opened ∷ []; opened = opened_empty [] }

-- its declarations are typed in this way
abbrev pub IsTypedTheoryBy : (SyntaxDeclarations → StateTree → StateTree → Type 0) → List ℕ
    → SyntaxDeclarations → StateTree → StateTree → Type 0
IsTypedTheoryBy T path ds = ThenStep (IsTheoryBegun path) (ThenStep (T ds) IsEnded)

abbrev pub IsTheoryFault : List ℕ → SyntaxDeclarations → StateTree → SourceFault → Type 0
IsTheoryFault path ds = FaultThen (IsTheoryBegun path) (AreFaulty ds)

-- ---- the theories of a file
-- a path is taken where a theory has it, and so is that of what is built in; no theory of a source
-- is without a name
abbrev pub is_path_taken : List ℕ → List KnownTree → Bool
is_path_taken path known =
    is_empty path || (bytes_eq path builtin || is_some (known_named known path))

-- a theory whose path is new
pub record IsNewTheoryBy (T : SyntaxDeclarations → StateTree → StateTree → Type 0) (path : List ℕ)
    (ds : SyntaxDeclarations) (c c' : StateTree) : Type 0 where
  pub new : is_path_taken path c.known ≡ false
  pub typed : IsTypedTheoryBy T path ds c c'

abbrev pub IsNewTheory : List ℕ → SyntaxDeclarations → StateTree → StateTree → Type 0
IsNewTheory = IsNewTheoryBy AreDeclarationsTyped

-- a path that is taken, told at the theory's name, or a fault of the theory
pub data IsNewFault (path : List ℕ) (token : ℕ) (ds : SyntaxDeclarations) (c : StateTree)
    (f : SourceFault) : Type 0 where
  twice : is_path_taken path c.known ≡ true → f ≡ Duplicate c.number token
      → IsNewFault path token ds c f
  inside : is_path_taken path c.known ≡ false → IsTheoryFault path ds c f
      → IsNewFault path token ds c f

-- each theory of a source has its name as its path
abbrev pub AreTypedInBy : (SyntaxDeclarations → StateTree → StateTree → Type 0) → List SyntaxTheory
    → StateTree → StateTree → Type 0
AreTypedInBy T = Steps (λ (t : SyntaxTheory). IsNewTheoryBy T t.name.text t.decls)

abbrev pub AreTypedIn : List SyntaxTheory → StateTree → StateTree → Type 0
AreTypedIn = AreTypedInBy AreDeclarationsTyped

abbrev pub AreFaultyIn : List SyntaxTheory → StateTree → SourceFault → Type 0
AreFaultyIn = FirstFault (λ (t : SyntaxTheory). IsNewTheory t.name.text t.decls)
    (λ (t : SyntaxTheory). IsNewFault t.name.text t.name.at t.decls)

-- ---- the embedded library
-- each theory has the path of its file, and its declarations have numbers of their own
abbrev pub IsRestarted : StateTree → StateTree → Type 0
IsRestarted c c' = c' ≡ record c { number = 0 }

abbrev pub IsEmbeddedBy : (SyntaxDeclarations → StateTree → StateTree → Type 0) → List ℕ
    → SyntaxTheory → StateTree → StateTree → Type 0
IsEmbeddedBy T path t = ThenStep (IsNewTheoryBy T path t.decls) IsRestarted

abbrev pub IsEmbedded : List ℕ → SyntaxTheory → StateTree → StateTree → Type 0
IsEmbedded = IsEmbeddedBy AreDeclarationsTyped

abbrev pub AreEmbeddedInBy : (SyntaxDeclarations → StateTree → StateTree → Type 0) → List ℕ
    → List SyntaxTheory → StateTree → StateTree → Type 0
AreEmbeddedInBy T path = Steps (IsEmbeddedBy T path)

abbrev pub AreEmbeddedIn : List ℕ → List SyntaxTheory → StateTree → StateTree → Type 0
AreEmbeddedIn = AreEmbeddedInBy AreDeclarationsTyped

abbrev pub AreEmbeddedFaultyIn : List ℕ → List SyntaxTheory → StateTree → SourceFault → Type 0
AreEmbeddedFaultyIn path =
    FirstFault (IsEmbedded path) (λ (t : SyntaxTheory). IsNewFault path t.name.at t.decls)

abbrev pub AreEmbeddedBy : (SyntaxDeclarations → StateTree → StateTree → Type 0)
    → List (List ℕ × File) → StateTree → StateTree → Type 0
AreEmbeddedBy T = Steps (λ (f : List ℕ × File). AreEmbeddedInBy T f.0 (file_of f.1))

abbrev pub AreEmbeddedFaulty : List (List ℕ × File) → StateTree → SourceFault → Type 0
AreEmbeddedFaulty = FirstFault (λ (f : List ℕ × File). AreEmbeddedIn f.0 (file_of f.1))
    (λ (f : List ℕ × File). AreEmbeddedFaultyIn f.0 (file_of f.1))

-- ---- a source
-- with `int` alone
abbrev pub nothing_known : StateTree
nothing_known = record {
  symbols = int_symbol ∷ [];
  decls = [];
  known = [];
  opened =
      opened_empty [];
  number = 0;
}

-- the theories of the library are known
pub record IsLibraryTypedBy (T : SyntaxDeclarations → StateTree → StateTree → Type 0)
    (c : StateTree) : Type 0 where
  pub files : List (List ℕ × File)
  pub are : AreFilesOf library files
  pub typed : AreEmbeddedBy T files nothing_known c

abbrev pub IsLibraryTyped : StateTree → Type 0
IsLibraryTyped = IsLibraryTypedBy AreDeclarationsTyped

abbrev pub visible_theory : StateTree → KnownTree → KnownTheoryTree
visible_theory c t = record { path = t.path; decls = at_places c.decls t.visible; goals = t.goals }

abbrev pub theories_of : ℕ → StateTree → TheoriesTree
theories_of embedded c = record {
  symbols = c.symbols;
  ints = Some int_entries;
  embedded =
      embedded;
  list = map (visible_theory c) c.known;
}

-- the theories of a source, after those of the library
pub record TheoriesBy (T : SyntaxDeclarations → StateTree → StateTree → Type 0)
    (source : List SyntaxTheory) (all : TheoriesTree) : Type 0 where
  pub before : StateTree
  pub library : IsLibraryTypedBy T before
  pub after : StateTree
  pub typed : AreTypedInBy T source before after
  pub are : all ≡ theories_of (length before.known) after

abbrev pub TheoriesOf : List SyntaxTheory → TheoriesTree → Type 0
TheoriesOf = TheoriesBy AreDeclarationsTyped

-- the first fault: one of the library, which as rows show has none, or one of the source
pub record IsLibraryFault (f : SourceFault) : Type 0 where
  pub files : List (List ℕ × File)
  pub are : AreFilesOf library files
  pub fault : AreEmbeddedFaulty files nothing_known f

pub record IsSourceFault (source : List SyntaxTheory) (f : SourceFault) : Type 0 where
  pub before : StateTree
  pub library : IsLibraryTyped before
  pub fault : AreFaultyIn source before f

abbrev pub IsFirstSourceFault : List SyntaxTheory → SourceFault → Type 0
IsFirstSourceFault source f = IsLibraryFault f ⊎ IsSourceFault source f
