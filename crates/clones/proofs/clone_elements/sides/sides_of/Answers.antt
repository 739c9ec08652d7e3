use Rattle.clones.proofs.clone_elements.sides.sides_of.Goals as goal
use Rattle.tasks.proofs.outside.Passed.{no_ok, no_value}

pub returns-in_err-push_sides-clause-entries : goal.returns-in_err-push_sides-clause-entries
returns-in_err-push_sides-clause-entries c = no_ok _ _ c.from_residual.result c.from_residual.ensures.1

pub returns-in_err-push_sides-clause-held : goal.returns-in_err-push_sides-clause-held
returns-in_err-push_sides-clause-held c = no_value _ _ c.from_residual.result c.from_residual.ensures.1

pub returns-in_err-push_sides-clause-sides : goal.returns-in_err-push_sides-clause-sides
returns-in_err-push_sides-clause-sides c = no_value _ _ c.from_residual.result c.from_residual.ensures.1

pub returns-in_err-push_sides-clause-free : goal.returns-in_err-push_sides-clause-free
returns-in_err-push_sides-clause-free c = no_ok _ _ c.from_residual.result c.from_residual.ensures.1

pub push_sides-requires-clause-signature : goal.push_sides-requires-clause-signature
push_sides-requires-clause-signature c = c.requires.signature

pub push_sides-requires-clause-scopes : goal.push_sides-requires-clause-scopes
push_sides-requires-clause-scopes c = c.requires.scopes

pub returns-in_err-push_sides-clause-grows : goal.returns-in_err-push_sides-clause-grows
returns-in_err-push_sides-clause-grows c = c.push_sides.ensures.grows

pub returns-clause-entries : goal.returns-clause-entries
returns-clause-entries c = c.in_ok-push_sides.ensures.entries

pub returns-clause-held : goal.returns-clause-held
returns-clause-held c = c.in_ok-push_sides.ensures.held

pub returns-clause-free : goal.returns-clause-free
returns-clause-free c = c.in_ok-push_sides.ensures.told

pub returns-clause-err : goal.returns-clause-err
returns-clause-err c = tt

pub returns-clause-grows : goal.returns-clause-grows
returns-clause-grows c = c.push_sides.ensures.grows
