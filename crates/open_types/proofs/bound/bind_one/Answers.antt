use Rattle.std.proofs.lemmas.Result.{on_ok_weaker}
use Rattle.open_types.proofs.Binding.{bound_after}
use Rattle.open_types.proofs.bound.bind_one.Goals as goal

pub returns-in_ok-ty-in-Some-clause-bound : goal.returns-in_ok-ty-in-Some-clause-bound
returns-in_ok-ty-in-Some-clause-bound c =
    let b = rw (c.as_slice-names.ensures, c.in_ok-ty-in-Some.ensures.tree) at c.bind_typed.ensures in
    rw c.in-Some.is (on_ok_weaker c.bind_typed.result (λ h. bound_after c.args.token c.type_of_form.ensures.grows c.requires.ready c.requires.held h) b)
