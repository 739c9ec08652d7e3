use Rattle.std.proofs.Common.{◌++◌, ◌∙◌}
use Rattle.std.proofs.lemmas.Result.{IfOk-weaker}
use Rattle.trees.specs.Node.{tree_at}
use Rattle.tasks.specs.Meaning.{symbols_at, declarations_at}
use Rattle.theory_states.specs.goal_tasks.Named.{named, declarations_named}
use Rattle.theory_states.proofs.goal_tasks.TuplesMade.{tuples_same}
use Rattle.theory_states.proofs.goal_tasks.making.tuple_decls.Goals as goal
use Rattle.tasks.proofs.outside.Passed.{no_value}

pub named_in-requires-clause-symbols_held : goal.named_in-requires-clause-symbols_held
named_in-requires-clause-symbols_held c = c.requires.symbols_held

pub named_in-requires-clause-held : goal.named_in-requires-clause-held
named_in-requires-clause-held c = c.requires.held

pub named_in-requires-clause-goal_held : goal.named_in-requires-clause-goal_held
named_in-requires-clause-goal_held c = c.requires.goal_held

pub returns-in_err-found-clause-tree : goal.returns-in_err-found-clause-tree
returns-in_err-found-clause-tree c = no_value _ _ c.from_residual.result c.from_residual.ensures.1

pub returns-in_err-found-clause-new_held : goal.returns-in_err-found-clause-new_held
returns-in_err-found-clause-new_held c = no_value _ _ c.from_residual.result c.from_residual.ensures.1

pub tuples_in-requires-clause-symbols_held : goal.tuples_in-requires-clause-symbols_held
tuples_in-requires-clause-symbols_held c = c.requires.symbols_held

pub tuples_in-requires-clause-tuples : goal.tuples_in-requires-clause-tuples
tuples_in-requires-clause-tuples c = c.requires.tuples

pub returns-clause-tree : goal.returns-clause-tree
returns-clause-tree c =
    let s = c.args.store.now in
    let symbols = symbols_at s c.args.sig.now.symbols in
    let ks = declarations_named symbols (declarations_at s c.args.own.now) ++ named (tree_at s c.args.goal) in
    IfOk-weaker c.tuples_in.result _ _ (λ v q. q ∙ tuples_same symbols c.in_ok-found.found.keys ks c.in_ok-found.ensures) c.tuples_in.ensures.tree

pub returns-clause-new_held : goal.returns-clause-new_held
returns-clause-new_held c = c.tuples_in.ensures.held
