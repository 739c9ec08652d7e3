use Rattle.std.proofs.Common.{false, refl}
use Rattle.name_resolution.specs.declared.world.World.{World}
use Rattle.elab_groups.proofs.parts.Overs.{world_is}
use Rattle.elab_declarations.proofs.type_declarations.Placed.{placed_held}
use Rattle.elab_declarations.proofs.type_declarations.fields.world_of.Goals as goal

pub returns-clause-names : goal.returns-clause-names
returns-clause-names c s =
    let w : World = record { symbols = c.as_slice.result; scope = c.args.scope; vars = c.args.vars; new_vars = false } in
    world_is s c.args.sig.now.symbols c.args.scope.now w c.as_slice.ensures refl c.args.vars.now refl

pub returns-clause-held : goal.returns-clause-held
returns-clause-held c = λ s sig h. placed_held s h.0 c.args.scope.now h.1 c.args.sig.now.symbols _ sig c.as_slice.ensures refl
