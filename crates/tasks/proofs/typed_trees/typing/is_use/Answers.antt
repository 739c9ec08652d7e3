use Rattle.tasks.proofs.typed_trees.typing.is_use.Goals as goal

pub returns-then-has_members : goal.returns-then-has_members
returns-then-has_members c =
    let fit = rw c.as_slice.ensures at c.arguments_fit.ensures in
    (λ t. record { as_many = c.has_members.ensures.0 c.if-has_members.true; fit = fit.0 t }, λ u. fit.1 u.fit)
