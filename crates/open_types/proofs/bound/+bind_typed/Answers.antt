use Rattle.std.proofs.Common.{length, ap, arith}
use Rattle.trees.proofs.Nodes.{Grows_refl}
use Rattle.open_types.proofs.Binding.{held_more}
use Rattle.open_types.proofs.bound.+bind_typed.Goals as goal

pub bind_typed-requires : goal.bind_typed-requires
bind_typed-requires t c =
    (omega (arith, ap length c.in-Some.ensures.cases.0), (c.requires.ty, (c.requires.ready, rw c.in_ok-push.ensures.items (held_more c.args.store.now c.args.store.now (Grows_refl c.args.store.now) c.args.locals.now.items _ c.requires.held c.requires.ty))))
