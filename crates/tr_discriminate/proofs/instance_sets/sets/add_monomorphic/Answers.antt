use Rattle.std.proofs.Common.{ap, subst}
use Rattle.std.proofs.lemmas.Result.{on_ok_weaker}
use Rattle.name_tables.specs.Seen.{GainsKeys}
use Rattle.name_tables.proofs.Steps.{gains_none}
use Rattle.tr_discriminate.specs.instance_sets.Made.{option_instances}
use Rattle.tr_discriminate.proofs.instance_sets.sets.add_monomorphic.Goals as goal

pub returns-in-Some : goal.returns-in-Some
returns-in-Some c =
    let s = c.args.store.now in
    let keys = c.args.keys.now.keys in
    on_ok_weaker c.gather.result (λ k. subst (λ os. GainsKeys s keys os c.gather.new.keys.keys) (ap option_instances c.in-Some.ensures.formula) k) c.gather.ensures

pub returns-in-None : goal.returns-in-None
returns-in-None c =
    let s = c.args.store.now in
    let keys = c.args.keys.now.keys in
    subst (λ os. GainsKeys s keys os keys) (ap option_instances c.in-None.ensures.formula) (gains_none s keys c.requires.keys_held)
