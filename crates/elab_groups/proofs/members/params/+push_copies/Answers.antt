use Rattle.std.proofs.lemmas.Result.{on_ok_weaker}
use Rattle.trees.proofs.Nodes.{Grows_refl}
use Rattle.open_types.proofs.Growing.{types_more}
use Rattle.elab_groups.proofs.members.params.+push_copies.Goals as goal

pub returns-in-None-clause-held : goal.returns-in-None-clause-held
returns-in-None-clause-held t c s ty held = rw c.in_ok-push.ensures.items (types_more s s (Grows_refl s) c.args.types.now.items c.args.ty held ty)

pub returns-then-is_empty-clause-held : goal.returns-then-is_empty-clause-held
returns-then-is_empty-clause-held t c s ty held = rw c.in_ok-push.ensures.items (types_more s s (Grows_refl s) c.args.types.now.items c.args.ty held ty)

pub returns-else-is_empty-clause-held : goal.returns-else-is_empty-clause-held
returns-else-is_empty-clause-held t c =
    on_ok_weaker c.push_copies.result (λ k s ty held. k s ty (rw c.in_ok-push.ensures.items (types_more s s (Grows_refl s) c.args.types.now.items c.args.ty held ty))) c.push_copies.ensures.held
