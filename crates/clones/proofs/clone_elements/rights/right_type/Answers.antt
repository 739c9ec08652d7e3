use Rattle.tasks.proofs.trees.Nodes.{Grows_refl}
use Rattle.clones.proofs.clone_elements.rights.right_type.Goals as goal
use Rattle.tasks.proofs.outside.Passed.{no_ok, no_value}

pub returns-in_err-vars-clause-entries : goal.returns-in_err-vars-clause-entries
returns-in_err-vars-clause-entries c = no_ok _ _ c.from_residual.result c.from_residual.ensures.1

pub returns-in_err-vars-clause-held : goal.returns-in_err-vars-clause-held
returns-in_err-vars-clause-held c = no_value _ _ c.from_residual.result c.from_residual.ensures.1

pub returns-in_err-vars-clause-tree : goal.returns-in_err-vars-clause-tree
returns-in_err-vars-clause-tree c = no_value _ _ c.from_residual.result c.from_residual.ensures.1

pub returns-in_err-vars-clause-below : goal.returns-in_err-vars-clause-below
returns-in_err-vars-clause-below c = no_value _ _ c.from_residual.result c.from_residual.ensures.1

pub returns-in_err-vars-clause-free : goal.returns-in_err-vars-clause-free
returns-in_err-vars-clause-free c = no_ok _ _ c.from_residual.result c.from_residual.ensures.1

pub returns-in_err-check_type-clause-entries : goal.returns-in_err-check_type-clause-entries
returns-in_err-check_type-clause-entries c = no_ok _ _ c.from_residual-in_err-check_type.result c.from_residual-in_err-check_type.ensures.1

pub returns-in_err-check_type-clause-held : goal.returns-in_err-check_type-clause-held
returns-in_err-check_type-clause-held c = no_value _ _ c.from_residual-in_err-check_type.result c.from_residual-in_err-check_type.ensures.1

pub returns-in_err-check_type-clause-tree : goal.returns-in_err-check_type-clause-tree
returns-in_err-check_type-clause-tree c = no_value _ _ c.from_residual-in_err-check_type.result c.from_residual-in_err-check_type.ensures.1

pub returns-in_err-check_type-clause-below : goal.returns-in_err-check_type-clause-below
returns-in_err-check_type-clause-below c = no_value _ _ c.from_residual-in_err-check_type.result c.from_residual-in_err-check_type.ensures.1

pub returns-in_err-check_type-clause-free : goal.returns-in_err-check_type-clause-free
returns-in_err-check_type-clause-free c = no_ok _ _ c.from_residual-in_err-check_type.result c.from_residual-in_err-check_type.ensures.1

pub returns-in_err-id-clause-entries : goal.returns-in_err-id-clause-entries
returns-in_err-id-clause-entries c = no_ok _ _ c.from_residual-in_err-id.result c.from_residual-in_err-id.ensures.1

pub returns-in_err-id-clause-held : goal.returns-in_err-id-clause-held
returns-in_err-id-clause-held c = no_value _ _ c.from_residual-in_err-id.result c.from_residual-in_err-id.ensures.1

pub returns-in_err-id-clause-tree : goal.returns-in_err-id-clause-tree
returns-in_err-id-clause-tree c = no_value _ _ c.from_residual-in_err-id.result c.from_residual-in_err-id.ensures.1

pub returns-in_err-id-clause-below : goal.returns-in_err-id-clause-below
returns-in_err-id-clause-below c = no_value _ _ c.from_residual-in_err-id.result c.from_residual-in_err-id.ensures.1

pub returns-in_err-id-clause-free : goal.returns-in_err-id-clause-free
returns-in_err-id-clause-free c = no_ok _ _ c.from_residual-in_err-id.result c.from_residual-in_err-id.ensures.1

pub returns-in_err-vars-clause-grows : goal.returns-in_err-vars-clause-grows
returns-in_err-vars-clause-grows c = Grows_refl c.args.store.now

pub returns-in_err-check_type-clause-grows : goal.returns-in_err-check_type-clause-grows
returns-in_err-check_type-clause-grows c = Grows_refl c.args.store.now

pub make_type-requires-clause-signature : goal.make_type-requires-clause-signature
make_type-requires-clause-signature c = c.requires.signature

pub make_type-requires-clause-scopes : goal.make_type-requires-clause-scopes
make_type-requires-clause-scopes c = c.requires.scopes

pub returns-in_err-id-clause-grows : goal.returns-in_err-id-clause-grows
returns-in_err-id-clause-grows c = c.make_type.ensures.grows

pub returns-clause-entries : goal.returns-clause-entries
returns-clause-entries c = c.in_ok-id.ensures.entries

pub returns-clause-held : goal.returns-clause-held
returns-clause-held c = c.in_ok-id.ensures.held

pub returns-clause-err : goal.returns-clause-err
returns-clause-err c = tt

pub returns-clause-grows : goal.returns-clause-grows
returns-clause-grows c = c.make_type.ensures.grows
