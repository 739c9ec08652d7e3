use Rattle.std.proofs.Common.{map}
use Rattle.tasks.specs.Rigid.{rigid_symbol}
use Rattle.elab_groups.specs.parts.Entries.{IsExtended}
use Rattle.elab_groups.proofs.parts.Entering.{extended_grows}
use Rattle.elab_groups.proofs.parts.Putting.{matches_stay}
use Rattle.elab_declarations.specs.Outcomes.{rigid_names}
use Rattle.elab_declarations.proofs.propositions.make_proposition.Goals as goal

pub returns-clause-entries : goal.returns-clause-entries
returns-clause-entries c =
    let h : IsExtended c.args.store.now c.args.sig.now c.args.store.now c.push_rigid.new.sig (map rigid_symbol (rigid_names c.args.kind c.args.vars.now)) = rw c.rigid_vars.ensures at c.in_ok-push_rigid.ensures.entries in
    extended_grows (map rigid_symbol (rigid_names c.args.kind c.args.vars.now)) c.in_ok-said.ensures.grows h

pub returns-clause-matches : goal.returns-clause-matches
returns-clause-matches c = matches_stay c.args.store.now c.say.new.store c.in_ok-said.ensures.grows c.args.it.matches c.requires.held.matches
