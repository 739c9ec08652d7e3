use Rattle.trees.proofs.Nodes.{Grows_refl}
use Rattle.clones.proofs.copies.copy_decl.Goals as goal
use Rattle.tasks.proofs.outside.Passed.{no_ok, no_value}

pub copy_body-requires-clause-map_held : goal.copy_body-requires-clause-map_held
copy_body-requires-clause-map_held c = c.requires.map_held

pub copy_body-requires-clause-known : goal.copy_body-requires-clause-known
copy_body-requires-clause-known c = c.requires.known

pub copy_body-requires-clause-held : goal.copy_body-requires-clause-held
copy_body-requires-clause-held c = c.requires.held

pub returns-clause-tree : goal.returns-clause-tree
returns-clause-tree c = λ i. record { theory = c.in_ok-theory.ensures i; name = c.in_ok-name.ensures i; vars = c.args.decl.now.vars; body = c.in_ok-body.ensures.tree i }

pub returns-clause-new_held : goal.returns-clause-new_held
returns-clause-new_held c = c.in_ok-body.ensures.new_held

pub returns-clause-new_known : goal.returns-clause-new_known
returns-clause-new_known c = c.in_ok-body.ensures.new_known

pub returns-clause-grows : goal.returns-clause-grows
returns-clause-grows c = c.copy_body.ensures.grows

pub returns-in_err-theory-clause-tree : goal.returns-in_err-theory-clause-tree
returns-in_err-theory-clause-tree c = no_value _ _ c.from_residual.result c.from_residual.ensures.1

pub returns-in_err-theory-clause-new_held : goal.returns-in_err-theory-clause-new_held
returns-in_err-theory-clause-new_held c = no_value _ _ c.from_residual.result c.from_residual.ensures.1

pub returns-in_err-theory-clause-new_known : goal.returns-in_err-theory-clause-new_known
returns-in_err-theory-clause-new_known c = no_ok _ _ c.from_residual.result c.from_residual.ensures.1

pub returns-in_err-theory-clause-grows : goal.returns-in_err-theory-clause-grows
returns-in_err-theory-clause-grows c = Grows_refl c.args.store.now

pub returns-in_err-name-clause-tree : goal.returns-in_err-name-clause-tree
returns-in_err-name-clause-tree c = no_value _ _ c.from_residual-in_err-name.result c.from_residual-in_err-name.ensures.1

pub returns-in_err-name-clause-new_held : goal.returns-in_err-name-clause-new_held
returns-in_err-name-clause-new_held c = no_value _ _ c.from_residual-in_err-name.result c.from_residual-in_err-name.ensures.1

pub returns-in_err-name-clause-new_known : goal.returns-in_err-name-clause-new_known
returns-in_err-name-clause-new_known c = no_ok _ _ c.from_residual-in_err-name.result c.from_residual-in_err-name.ensures.1

pub returns-in_err-name-clause-grows : goal.returns-in_err-name-clause-grows
returns-in_err-name-clause-grows c = Grows_refl c.args.store.now

pub returns-in_err-body-clause-tree : goal.returns-in_err-body-clause-tree
returns-in_err-body-clause-tree c = no_value _ _ c.from_residual-in_err-body.result c.from_residual-in_err-body.ensures.1

pub returns-in_err-body-clause-new_held : goal.returns-in_err-body-clause-new_held
returns-in_err-body-clause-new_held c = no_value _ _ c.from_residual-in_err-body.result c.from_residual-in_err-body.ensures.1

pub returns-in_err-body-clause-new_known : goal.returns-in_err-body-clause-new_known
returns-in_err-body-clause-new_known c = no_ok _ _ c.from_residual-in_err-body.result c.from_residual-in_err-body.ensures.1

pub returns-in_err-body-clause-grows : goal.returns-in_err-body-clause-grows
returns-in_err-body-clause-grows c = c.copy_body.ensures.grows
