use Rattle.std.proofs.Common.{subst}
use Rattle.tasks.proofs.trees.Nodes.{Grows_refl}
use Rattle.tasks.specs.Meaning.{BodyHeld}
use Rattle.clones.proofs.clone_copies.places.push_goal.Goals as goal

pub push_goal_of-requires-clause-held : goal.push_goal_of-requires-clause-held
push_goal_of-requires-clause-held c = c.requires.held

pub push_goal_of-requires-clause-formula_held : goal.push_goal_of-requires-clause-formula_held
push_goal_of-requires-clause-formula_held c = subst (BodyHeld c.args.store.now) c.in-Prop.is c.requires.copy_held

pub returns-in-Prop-clause-held : goal.returns-in-Prop-clause-held
returns-in-Prop-clause-held c = c.push_goal_of.ensures.held

pub returns-in-Prop-clause-grows : goal.returns-in-Prop-clause-grows
returns-in-Prop-clause-grows c = c.push_goal_of.ensures.grows

pub returns-in-TypeSymbol-clause-held : goal.returns-in-TypeSymbol-clause-held
returns-in-TypeSymbol-clause-held c = c.requires.held

pub returns-in-TypeSymbol-clause-grows : goal.returns-in-TypeSymbol-clause-grows
returns-in-TypeSymbol-clause-grows c = Grows_refl c.args.store.now

pub returns-in-Symbol-clause-held : goal.returns-in-Symbol-clause-held
returns-in-Symbol-clause-held c = c.requires.held

pub returns-in-Symbol-clause-grows : goal.returns-in-Symbol-clause-grows
returns-in-Symbol-clause-grows c = Grows_refl c.args.store.now

pub returns-in-Defs-clause-held : goal.returns-in-Defs-clause-held
returns-in-Defs-clause-held c = c.requires.held

pub returns-in-Defs-clause-grows : goal.returns-in-Defs-clause-grows
returns-in-Defs-clause-grows c = Grows_refl c.args.store.now

pub returns-in-Inductives-clause-held : goal.returns-in-Inductives-clause-held
returns-in-Inductives-clause-held c = c.requires.held

pub returns-in-Inductives-clause-grows : goal.returns-in-Inductives-clause-grows
returns-in-Inductives-clause-grows c = Grows_refl c.args.store.now

pub returns-in-Algebraics-clause-held : goal.returns-in-Algebraics-clause-held
returns-in-Algebraics-clause-held c = c.requires.held

pub returns-in-Algebraics-clause-grows : goal.returns-in-Algebraics-clause-grows
returns-in-Algebraics-clause-grows c = Grows_refl c.args.store.now
