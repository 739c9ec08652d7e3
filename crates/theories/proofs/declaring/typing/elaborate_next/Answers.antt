use Rattle.std.proofs.Common.{refl}
use Rattle.surface.specs.SurfaceDeclarations.{decl_of}
use Rattle.elab_groups.specs.parts.Declarations.{declaration}
use Rattle.theories.proofs.declaring.typing.elaborate_next.Goals as goal
use Rattle.tasks.proofs.plain_laws.Options.{if_some as some_weaker}

pub returns-in-Err-clause-err : goal.returns-in-Err-clause-err
returns-in-Err-clause-err c = some_weaker (declaration (decl_of c.args.decl.now)) _ _ (λ x r. (c.in-Err.fault, r, c.elaboration_fault.ensures)) (rw (c.as_slice-path.ensures, c.as_slice-within.ensures.value) at c.in-Err.ensures.err)

pub elaborate-requires-clause-signature : goal.elaborate-requires-clause-signature
elaborate-requires-clause-signature c = c.requires.signature

pub elaborate-requires-clause-scopes : goal.elaborate-requires-clause-scopes
elaborate-requires-clause-scopes c = c.requires.scopes

pub elaborate-requires-clause-logical : goal.elaborate-requires-clause-logical
elaborate-requires-clause-logical c = c.requires.logical

pub returns-in-Ok-clause-ok : goal.returns-in-Ok-clause-ok
returns-in-Ok-clause-ok c = rw (c.as_slice-path.ensures, c.as_slice-within.ensures.value) at c.in-Ok.ensures.ok

pub returns-in-Ok-clause-kept : goal.returns-in-Ok-clause-kept
returns-in-Ok-clause-kept c = c.in-Ok.ensures.kept

pub returns-in-Ok-clause-err : goal.returns-in-Ok-clause-err
returns-in-Ok-clause-err c = tt

pub returns-in-Ok-clause-opened : goal.returns-in-Ok-clause-opened
returns-in-Ok-clause-opened c = refl

pub returns-in-Ok-clause-grows : goal.returns-in-Ok-clause-grows
returns-in-Ok-clause-grows c = c.elaborate.ensures.grows

pub returns-in-Err-clause-ok : goal.returns-in-Err-clause-ok
returns-in-Err-clause-ok c = tt

pub returns-in-Err-clause-kept : goal.returns-in-Err-clause-kept
returns-in-Err-clause-kept c = tt

pub returns-in-Err-clause-opened : goal.returns-in-Err-clause-opened
returns-in-Err-clause-opened c = refl

pub returns-in-Err-clause-grows : goal.returns-in-Err-clause-grows
returns-in-Err-clause-grows c = c.elaborate.ensures.grows
