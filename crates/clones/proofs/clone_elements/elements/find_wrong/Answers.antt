use Rattle.clones.proofs.clone_elements.elements.find_wrong.Goals as goal

pub check_sides-requires-clause-trial : goal.check_sides-requires-clause-trial
check_sides-requires-clause-trial c = c.requires.trial

pub check_sides-requires-clause-known : goal.check_sides-requires-clause-known
check_sides-requires-clause-known c = c.no_trees-known.ensures _ c.args.store.now

pub check_sides-requires-clause-sides : goal.check_sides-requires-clause-sides
check_sides-requires-clause-sides c = c.requires.sides

pub returns-clause-told : goal.returns-clause-told
returns-clause-told c = c.check_sides.ensures.told

pub returns-clause-effects : goal.returns-clause-effects
returns-clause-effects c = c.check_sides.ensures.effects

pub returns-clause-grows : goal.returns-clause-grows
returns-clause-grows c = c.check_sides.ensures.grows
