-- The theories of a source, typed so that what is known stays sound: for the laws, which know of
-- one declaration what its typing ensures.
use Rattle.std.specs.Prelude.{List, All}
use Rattle.surface.specs.Declarations.{SyntaxDeclaration, SyntaxDeclarations, SyntaxTheory, write_decl}
use Rattle.elaboration_laws.specs.Lists.{IsGroupWhole}
use Rattle.elaboration_laws.specs.Quoted.{IsQuotedLexeme}
use Rattle.elaboration_laws.specs.theory_states.goal_tasks.Theories.{TheoriesTree}
use Rattle.theory_states.specs.States.{StateTree}
use Rattle.elaboration_laws.specs.TypedStates.{IsTypedState}
use Rattle.elaboration_laws.specs.Sound.{IsSoundState}
use Rattle.theories.specs.declaring.Declared.{IsDeclared}
use Rattle.theories.specs.Typing.{IsTypedBy, AreTypedBy}
use Rattle.theories.specs.Files.{TheoriesBy}

-- a declaration that is no use, clone or scope: what is known then is typed, and sound where it was
-- and the declaration is one of a text
pub record IsSoundlyDeclared (d : SyntaxDeclaration) (c c' : StateTree) : Type 0 where
  pub declared : IsDeclared d c c'
  pub typed : IsTypedState c'
  pub sound : IsGroupWhole d → All IsQuotedLexeme (write_decl d) → IsSoundState c → IsSoundState c'

abbrev pub IsSoundlyTyped : SyntaxDeclaration → StateTree → StateTree → Type 0
IsSoundlyTyped = IsTypedBy IsSoundlyDeclared

abbrev pub AreSoundlyTyped : SyntaxDeclarations → StateTree → StateTree → Type 0
AreSoundlyTyped = AreTypedBy IsSoundlyDeclared

abbrev pub SoundTheoriesOf : List SyntaxTheory → TheoriesTree → Type 0
SoundTheoriesOf = TheoriesBy AreSoundlyTyped
