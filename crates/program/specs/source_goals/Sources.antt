-- Theories and tasks that come from a source.
use Rattle.std.specs.Prelude.{ℕ, List}
use Rattle.tasks.specs.Task.{TaskTree}
use Rattle.surface.specs.tokens_why.declared.token.Token.{Token}
use Rattle.surface.specs.tokens_why.Tokens.{AreTokens}
use Rattle.surface.specs.Lexeme.{rest}
use Rattle.surface.specs.Declarations.{SyntaxTheory}
use Rattle.parser.specs.grammar.recognise.Sources.{IsOnlyFile}
use Rattle.theories.specs.theory_states.goal_tasks.Theories.{TheoriesTree}
use Rattle.theories.specs.theory_states.goal_tasks.Tasks.{IsTaskOf}
use Rattle.theories.specs.Sound.{SoundTheoriesOf}

-- some text has these theories
pub record AreSourceTheories (all : TheoriesTree) : Type 0 where
  pub text : List ℕ
  pub tokens : List Token
  pub file : List SyntaxTheory
  pub lexes : AreTokens text tokens
  pub parses : IsOnlyFile (rest text tokens 0) file
  pub typed : SoundTheoriesOf file all

-- the task is that of a goal of some text
pub record IsSourceTask (t : TaskTree) : Type 0 where
  pub all : TheoriesTree
  pub theories : AreSourceTheories all
  pub theory : List ℕ
  pub goal : List ℕ
  pub is : IsTaskOf all theory goal t
