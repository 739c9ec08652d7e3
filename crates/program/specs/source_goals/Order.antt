-- From a source's bytes to the task of a goal and the driver that it goes through, or what is first
-- in the way: the bytes' tokens, their file, its theories; the driver; then the theory and the goal
-- by their names.
use Rattle.std.specs.Prelude.{◌≡◌, ℕ, List, Option, Some, None, Result, Ok, Err}
use Rattle.tasks.specs.Task.{TaskTree}
use Rattle.tasks.specs.declared.signature.SymbolInfo.{SymbolInfo}
use Rattle.surface.specs.tokens_why.declared.token.Token.{Token}
use Rattle.surface.specs.tokens_why.Tokens.{AreTokens, LexicalAt, BigLiteralAt}
use Rattle.surface.specs.Lexeme.{Lexeme, rest, terminals}
use Rattle.surface.specs.Declarations.{SyntaxTheory}
use Rattle.parser.specs.grammar.recognise.Depth.{IsTooDeep, IsShallow}
use Rattle.parser.specs.grammar.recognise.Sources.{IsFileFault, IsOnlyFile, IsProgramDecl}
use Rattle.drivers.specs.driver_items.Symbols.{NamedTheories as NamedTheories}
use Rattle.drivers.specs.declared.driver_parts.driver.Driver.{Driver}
use Rattle.drivers.specs.declared.driver_parts.fault.DriverFault.TheVariants as driver_fault
use Rattle.drivers.specs.driver_files.Reading.{DriverStop, driver_named}
use Rattle.drivers.specs.driver_files.Reading as driver
use Rattle.theories.specs.theory_states.goal_tasks.Theories.{GoalTree, KnownTheoryTree, TheoriesTree, theory_named, goal_named}
use Rattle.theories.specs.theory_states.goal_tasks.Tasks.{task_for}
use Rattle.theories.specs.theory_states.declared.fault.SourceFault.TheVariants as source_fault
use Rattle.theories.specs.Files.{TheoriesOf, IsFirstSourceFault}
use Rattle.statuses.specs.declared.fault_order.faults.Fault.TheVariants as fault
use Rattle.statuses.specs.fault_order.Order.{RunStop, refused, absent, unread, Stage, Answer, After, HasOneAnswer, StageMeaning, ShortFile}
use Rattle.program.specs.source_goals.Known.{KnownByDriver, known_of, IsKnownAs}

-- ---- the theories of a source
-- why bytes have no tokens: 10 or 11, at a byte
abbrev pub HasNoTokens : List ℕ → RunStop → Type 0
HasNoTokens text (refused (fault.Lexical byte)) = LexicalAt text byte
HasNoTokens text (refused (fault.BigLiteral byte)) = BigLiteralAt text byte
HasNoTokens text _ = ⊥

-- the tokens of the bytes
abbrev pub Lexes : List ℕ → Stage (List Token)
Lexes text (Ok tokens) = AreTokens text tokens
Lexes text (Err stop) = HasNoTokens text stop

-- why tokens are no source: 13 at the first one that is nested too deep, else 14 or 12 at the least
-- with which none begins
abbrev pub IsNoFile : List Lexeme → RunStop → Type 0
IsNoFile xs (refused (fault.TooDeep token)) = IsTooDeep (terminals xs) token
IsNoFile xs (refused (fault.ProgramDecl token)) =
    IsShallow (terminals xs) × IsFileFault xs token × IsProgramDecl xs token
IsNoFile xs (refused (fault.Syntax token)) =
    IsShallow (terminals xs) × IsFileFault xs token × (IsProgramDecl xs token → ⊥)
IsNoFile xs _ = ⊥

-- the file of the tokens
abbrev pub Parses : List Lexeme → Stage (List SyntaxTheory)
Parses xs (Ok file) = IsShallow (terminals xs) × IsOnlyFile xs file
Parses xs (Err stop) = IsNoFile xs stop

-- why a file has no theories: 20 to 40, at its first fault
abbrev pub HasNoTheories : List SyntaxTheory → RunStop → Type 0
HasNoTheories file (refused (fault.Unknown decl token)) =
    IsFirstSourceFault file (source_fault.Unknown decl token)
HasNoTheories file (refused (fault.Duplicate decl token)) =
    IsFirstSourceFault file (source_fault.Duplicate decl token)
HasNoTheories file (refused (fault.WrongKind decl token)) =
    IsFirstSourceFault file (source_fault.WrongKind decl token)
HasNoTheories file (refused (fault.Arity decl token)) =
    IsFirstSourceFault file (source_fault.Arity decl token)
HasNoTheories file (refused (fault.Clash decl k)) =
    IsFirstSourceFault file (source_fault.Clash decl k)
HasNoTheories file (refused (fault.Undetermined decl token)) =
    IsFirstSourceFault file (source_fault.Undetermined decl token)
HasNoTheories file (refused (fault.NotExhaustive decl token)) =
    IsFirstSourceFault file (source_fault.NotExhaustive decl token)
HasNoTheories file (refused (fault.BadClause decl clause)) =
    IsFirstSourceFault file (source_fault.BadClause decl clause)
HasNoTheories file (refused (fault.NotPositive decl clause)) =
    IsFirstSourceFault file (source_fault.NotPositive decl clause)
HasNoTheories file (refused (fault.NotStructural decl)) =
    IsFirstSourceFault file (source_fault.NotStructural decl)
HasNoTheories file (refused (fault.GroupTooWide decl)) =
    IsFirstSourceFault file (source_fault.GroupTooWide decl)
HasNoTheories file (refused (fault.Uninhabited decl)) =
    IsFirstSourceFault file (source_fault.Uninhabited decl)
HasNoTheories file (refused (fault.BadSubstitution decl token)) =
    IsFirstSourceFault file (source_fault.BadSubstitution decl token)
HasNoTheories file _ = ⊥

-- the theories of a file
abbrev pub Declares : List SyntaxTheory → Stage TheoriesTree
Declares file (Ok all) = TheoriesOf file all
Declares file (Err stop) = HasNoTheories file stop

-- the theories of each file, or its first fault, are one
abbrev pub AreDetermined : Type 0
AreDetermined = (file : List SyntaxTheory) → HasOneAnswer (Declares file)

-- the theories of tokens
abbrev pub FileTheories : List ℕ → List Token → Stage TheoriesTree
FileTheories text tokens = After (Parses (rest text tokens 0)) Declares

-- the theories of a text
abbrev pub SourceTheories : List ℕ → Stage TheoriesTree
SourceTheories text = After (Lexes text) (FileTheories text)

-- the theories of a source, which is the first file
abbrev pub SourceTheoriesOf : List ℕ → StageMeaning TheoriesTree
SourceTheoriesOf src files limit = After (ShortFile 0 src files limit) SourceTheories

-- ---- the task of a goal
abbrev pub goal_task : TheoriesTree → KnownTheoryTree → Option GoalTree → Result TaskTree RunStop
goal_task all t None = Err (refused fault.NoGoal)
goal_task all t (Some g) = Ok (task_for all t g)

abbrev pub theory_task : TheoriesTree → List ℕ → Option KnownTheoryTree → Result TaskTree RunStop
theory_task all goal None = Err (refused fault.NoTheory)
theory_task all goal (Some t) = goal_task all t (goal_named t goal)

-- the task of a goal of theories: 60 and 61
abbrev pub TaskOf : List ℕ → List ℕ → TheoriesTree → Stage TaskTree
TaskOf theory goal all = Answer (theory_task all goal (theory_named all theory))

-- the goal's task
abbrev pub Goal : List ℕ → List ℕ → List ℕ → StageMeaning TaskTree
Goal src theory goal files limit = After (SourceTheoriesOf src files limit) (TaskOf theory goal)

-- ---- the driver
-- what the reading of a driver's files gives is the driver, or why there is none: a file that is
-- absent or can't be read, or 15 and 50 to 55
abbrev pub IsDriverOr : Result Driver DriverStop → Stage Driver
IsDriverOr found (Ok d) = found ≡ Ok d
IsDriverOr found (Err (absent file)) = found ≡ Err (driver.file_absent file)
IsDriverOr found (Err (unread file name)) = found ≡ Err (driver.file_unread file name)
IsDriverOr found (Err (refused (fault.TooLong file))) =
    found ≡ Err (driver.file_refused (driver_fault.TooLong file))
IsDriverOr found (Err (refused (fault.DriverSyntax file byte))) =
    found ≡ Err (driver.file_refused (driver_fault.DriverSyntax file byte))
IsDriverOr found (Err (refused (fault.UnknownTransformation file byte))) =
    found ≡ Err (driver.file_refused (driver_fault.UnknownTransformation file byte))
IsDriverOr found (Err (refused (fault.BadTemplate file byte))) =
    found ≡ Err (driver.file_refused (driver_fault.BadTemplate file byte))
IsDriverOr found (Err (refused (fault.UnknownSymbol file byte))) =
    found ≡ Err (driver.file_refused (driver_fault.UnknownSymbol file byte))
IsDriverOr found (Err (refused (fault.ImportCycle file byte))) =
    found ≡ Err (driver.file_refused (driver_fault.ImportCycle file byte))
IsDriverOr found (Err (refused (fault.UnknownPrinter file byte))) =
    found ≡ Err (driver.file_refused (driver_fault.UnknownPrinter file byte))
IsDriverOr found (Err _) = ⊥

-- the driver of a file, whose number is 1, over what is known
abbrev pub DriverOf : KnownByDriver → List ℕ → StageMeaning Driver
DriverOf known drv files limit r =
    (symbols : List SymbolInfo) × (theories : NamedTheories) × IsKnownAs known symbols theories
    × IsDriverOr (driver_named symbols theories drv files limit) r

-- ---- a goal under a driver
-- a goal's task, and the driver that it goes through
pub record GoalSettingTree : Type 0 where
  pub driver : Driver
  pub task : TaskTree

abbrev pub setting_of : Driver → TaskTree → GoalSettingTree
setting_of d t = record { driver = d; task = t }

-- the task of the goal under a driver, which is read before the goal is looked for
abbrev pub TaskUnder : List ℕ → List ℕ → TheoriesTree → Driver → Stage GoalSettingTree
TaskUnder theory goal all d = After (TaskOf theory goal all) (λ t. Answer (Ok (setting_of d t)))

abbrev pub Driven : List ℕ → List ℕ → List ℕ → TheoriesTree → StageMeaning GoalSettingTree
Driven drv theory goal all files limit =
    After (DriverOf (known_of all) drv files limit) (TaskUnder theory goal all)

abbrev pub GoalUnder : List ℕ → List ℕ → List ℕ → List ℕ → StageMeaning GoalSettingTree
GoalUnder src drv theory goal files limit =
    After (SourceTheoriesOf src files limit) (λ all. Driven drv theory goal all files limit)
