use Rattle.std.proofs.lemmas.Result.{IfOk-weaker, IfErr-weaker}
use Rattle.open_types.specs.unify_types.Value.{value_of}
use Rattle.open_types.proofs.unify_types.Bridge.{principal, fixed_as, least_prefix}
use Rattle.open_types.proofs.unify_types.solve.Goals as goal

pub returns-clause-general : goal.returns-clause-general
returns-clause-general c = IfOk-weaker c.solve_types.result _ _ (λ _ g. principal c.args.rigid_vars c.args.store.now c.args.equations.now g) c.solve_types.ensures.general

pub returns-clause-values : goal.returns-clause-values
returns-clause-values c =
    IfOk-weaker c.solve_types.result _ _ (λ solution v u l. fixed_as c.args.rigid_vars c.args.store.now c.args.equations.now c.solve_types.new.store u (value_of solution u) (v u l)) c.solve_types.ensures.values

pub returns-clause-clash : goal.returns-clause-clash
returns-clause-clash c = IfErr-weaker c.solve_types.result _ _ (λ fault g. least_prefix c.args.rigid_vars c.args.store.now c.args.equations.now fault g) c.solve_types.ensures.clash
