-- What a refusal of a step says, at the fault that is told.
use Rattle.std.proofs.Common.{◌≡◌, ◌≢◌, ◌↔◌, ℕ, List, Result, Err, refl, subst}
use Rattle.surface.specs.tokens_why.Tokens.{LexicalAt, BigLiteralAt, UnlessMemory}
use Rattle.surface.specs.tokens_why.declared.fault.LexFault.{LexFault}
use Rattle.surface.specs.tokens_why.declared.fault.LexFault.TheVariants.{Lexical, BigLiteral}
use Rattle.surface.specs.Declarations.{SyntaxTheory}
use Rattle.theories.specs.theory_states.declared.fault.SourceFault.{SourceFault}
use Rattle.theories.specs.theory_states.declared.fault.SourceFault.TheVariants as of_source
use Rattle.theories.specs.theory_states.Uses.{OrMemory}
use Rattle.theories.specs.Files.{IsFirstSourceFault}
use Rattle.statuses.specs.fault_order.Answers.{IsStageAnswer}
use Rattle.statuses.specs.fault_order.Order.{RunStop, refused, misused}
use Rattle.statuses.specs.declared.fault_order.faults.Fault.TheVariants as of_run
use Rattle.program.specs.source_goals.Order.{HasNoTheories, Declares}
use Rattle.program.specs.source_goals.Values.{source_fault}

abbrev refusal : (V : Type 0) → LexFault → Result V LexFault
refusal V fault = Err fault

-- what `lex` says of a byte, by its fault
abbrev SaysLexical : Type 0 → List ℕ → LexFault → Type 0
SaysLexical V bytes fault = UnlessMemory (refusal V fault) ((b : ℕ) → (refusal V fault ≡ Err (Lexical b)) ↔ LexicalAt bytes b)

abbrev SaysBig : Type 0 → List ℕ → LexFault → Type 0
SaysBig V bytes fault = UnlessMemory (refusal V fault) ((b : ℕ) → (refusal V fault ≡ Err (BigLiteral b)) ↔ BigLiteralAt bytes b)

pub lexical_at : (V : Type 0) (bytes : List ℕ) (fault : LexFault) (byte : ℕ) → fault ≡ Lexical byte → SaysLexical V bytes fault → LexicalAt bytes byte
lexical_at V bytes fault byte is says = let at : SaysLexical V bytes (Lexical byte) = subst (SaysLexical V bytes) is says in (at byte).0 refl

pub big_literal_at : (V : Type 0) (bytes : List ℕ) (fault : LexFault) (byte : ℕ) → fault ≡ BigLiteral byte → SaysBig V bytes fault → BigLiteralAt bytes byte
big_literal_at V bytes fault byte is says = let at : SaysBig V bytes (BigLiteral byte) = subst (SaysBig V bytes) is says in (at byte).0 refl

-- the first fault of a file's theories
pub no_theories : (file : List SyntaxTheory) (f : SourceFault) → OrMemory (IsFirstSourceFault file) f → IsStageAnswer (Declares file) (Err (source_fault f))
no_theories file of_source.Memory h = tt
no_theories file (of_source.Unknown decl token) h = h
no_theories file (of_source.Duplicate decl token) h = h
no_theories file (of_source.WrongKind decl token) h = h
no_theories file (of_source.Arity decl token) h = h
no_theories file (of_source.Clash decl k) h = h
no_theories file (of_source.Undetermined decl token) h = h
no_theories file (of_source.NotExhaustive decl token) h = h
no_theories file (of_source.BadClause decl clause) h = h
no_theories file (of_source.NotPositive decl clause) h = h
no_theories file (of_source.NotStructural decl) h = h
no_theories file (of_source.GroupTooWide decl) h = h
no_theories file (of_source.Uninhabited decl) h = h
no_theories file (of_source.BadSubstitution decl token) h = h

-- the stop of a run that a fault of a source is; none is want of memory
abbrev pub source_stop : SourceFault → RunStop
source_stop of_source.Memory = misused
source_stop (of_source.Unknown decl token) = refused (of_run.Unknown decl token)
source_stop (of_source.Duplicate decl token) = refused (of_run.Duplicate decl token)
source_stop (of_source.WrongKind decl token) = refused (of_run.WrongKind decl token)
source_stop (of_source.Arity decl token) = refused (of_run.Arity decl token)
source_stop (of_source.Clash decl k) = refused (of_run.Clash decl k)
source_stop (of_source.Undetermined decl token) = refused (of_run.Undetermined decl token)
source_stop (of_source.NotExhaustive decl token) = refused (of_run.NotExhaustive decl token)
source_stop (of_source.BadClause decl clause) = refused (of_run.BadClause decl clause)
source_stop (of_source.NotPositive decl clause) = refused (of_run.NotPositive decl clause)
source_stop (of_source.NotStructural decl) = refused (of_run.NotStructural decl)
source_stop (of_source.GroupTooWide decl) = refused (of_run.GroupTooWide decl)
source_stop (of_source.Uninhabited decl) = refused (of_run.Uninhabited decl)
source_stop (of_source.BadSubstitution decl token) = refused (of_run.BadSubstitution decl token)

-- a first fault, told as a stop of a run
pub record FirstStop (file : List SyntaxTheory) (stop : RunStop) : Type 0 where
  pub its : SourceFault
  pub told : its ≢ of_source.Memory
  pub first : IsFirstSourceFault file its
  pub is : stop ≡ source_stop its

pub first_stop : (file : List SyntaxTheory) (stop : RunStop) → HasNoTheories file stop → FirstStop file stop
first_stop file (refused (of_run.Unknown decl token)) h = record { its = of_source.Unknown decl token; told = λ e. cc; first = h; is = refl }
first_stop file (refused (of_run.Duplicate decl token)) h = record { its = of_source.Duplicate decl token; told = λ e. cc; first = h; is = refl }
first_stop file (refused (of_run.WrongKind decl token)) h = record { its = of_source.WrongKind decl token; told = λ e. cc; first = h; is = refl }
first_stop file (refused (of_run.Arity decl token)) h = record { its = of_source.Arity decl token; told = λ e. cc; first = h; is = refl }
first_stop file (refused (of_run.Clash decl k)) h = record { its = of_source.Clash decl k; told = λ e. cc; first = h; is = refl }
first_stop file (refused (of_run.Undetermined decl token)) h = record { its = of_source.Undetermined decl token; told = λ e. cc; first = h; is = refl }
first_stop file (refused (of_run.NotExhaustive decl token)) h = record { its = of_source.NotExhaustive decl token; told = λ e. cc; first = h; is = refl }
first_stop file (refused (of_run.BadClause decl clause)) h = record { its = of_source.BadClause decl clause; told = λ e. cc; first = h; is = refl }
first_stop file (refused (of_run.NotPositive decl clause)) h = record { its = of_source.NotPositive decl clause; told = λ e. cc; first = h; is = refl }
first_stop file (refused (of_run.NotStructural decl)) h = record { its = of_source.NotStructural decl; told = λ e. cc; first = h; is = refl }
first_stop file (refused (of_run.GroupTooWide decl)) h = record { its = of_source.GroupTooWide decl; told = λ e. cc; first = h; is = refl }
first_stop file (refused (of_run.Uninhabited decl)) h = record { its = of_source.Uninhabited decl; told = λ e. cc; first = h; is = refl }
first_stop file (refused (of_run.BadSubstitution decl token)) h = record { its = of_source.BadSubstitution decl token; told = λ e. cc; first = h; is = refl }
first_stop file _ h = absurd h
