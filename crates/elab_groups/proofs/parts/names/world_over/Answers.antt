use Rattle.std.proofs.Common.{refl}
use Rattle.name_resolution.specs.declared.world.World.{World}
use Rattle.elab_groups.proofs.parts.Overs.{world_is, world_held, world_scoped}
use Rattle.elab_groups.proofs.parts.names.world_over.Goals as goal

pub returns-clause-names : goal.returns-clause-names
returns-clause-names c = λ s.
    let w : World = record { symbols = c.as_slice.result; scope = c.args.scope; vars = c.args.vars; new_vars = c.args.new_vars } in
    world_is s c.args.sig.now.symbols c.args.scope.now w c.as_slice.ensures refl c.args.vars.now refl

pub returns-clause-held : goal.returns-clause-held
returns-clause-held c s h k =
    let w : World = record { symbols = c.as_slice.result; scope = c.args.scope; vars = c.args.vars; new_vars = c.args.new_vars } in
    world_held s c.args.sig.now.symbols c.args.scope.now w c.as_slice.ensures refl h k

pub returns-clause-scoped : goal.returns-clause-scoped
returns-clause-scoped c s h k =
    let w : World = record { symbols = c.as_slice.result; scope = c.args.scope; vars = c.args.vars; new_vars = c.args.new_vars } in
    world_scoped s c.args.sig.now.symbols c.args.scope.now w c.as_slice.ensures refl c.args.vars.now refl h k
