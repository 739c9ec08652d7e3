use Rattle.std.proofs.Common.{length, ap, arith}
use Rattle.elab_groups.proofs.parts.Putting.{all_first, all_rest}
use Rattle.elab_declarations.specs.type_declarations.Held.{ConTyped}
use Rattle.elab_declarations.proofs.type_declarations.entries.+push_constructor_entries.Goals as goal

pub push_with_fields-requires-clause-typed : goal.push_with_fields-requires-clause-typed
push_with_fields-requires-clause-typed t c = all_first (ConTyped c.args.store.now) c.args.cons.now c.in-Some-split_first.con.now c.in-Some-split_first.others.now c.in-Some-split_first.ensures.cases.0 c.requires.typed

pub push_with_fields-requires-clause-below : goal.push_with_fields-requires-clause-below
push_with_fields-requires-clause-below t c = let below = rw c.in-Some-split_first.ensures.cases.0 at c.requires.below in below.0

pub push_constructor_entries-requires : goal.push_constructor_entries-requires
push_constructor_entries-requires t c =
    let below = rw c.in-Some-split_first.ensures.cases.0 at c.requires.below in (
      omega (arith, ap length c.in-Some.ensures.cases.0),
      (
        c.in_ok-push_with_fields.ensures.signature,
        (
          c.requires.ty,
          (
            c.requires.ty_below,
            (all_rest (ConTyped c.args.store.now) c.args.cons.now c.in-Some-split_first.con.now c.in-Some-split_first.others.now c.in-Some-split_first.ensures.cases.0 c.requires.typed, below.1),
          ),
        ),
      ),
    )
