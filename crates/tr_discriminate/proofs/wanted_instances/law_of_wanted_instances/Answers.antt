use Rattle.tr_discriminate.proofs.wanted_instances.Growing.{wanted_more}
use Rattle.tr_discriminate.proofs.wanted_instances.Nodes.{task_more, first_goes_on, second_goes_on}
use Rattle.tr_discriminate.proofs.wanted_instances.Searching.{found_more, found_none, found_one}
use Rattle.tr_discriminate.specs.wanted_instances.lemmas.Kept.{last_good, body_valid}
use Rattle.std.proofs.Common.{refl}
use Rattle.tr_discriminate.specs.wanted_instances.Discriminated.{last_set}
use Rattle.tr_discriminate.proofs.wanted_instances.law_of_wanted_instances.Goals as goal

pub returns : goal.returns
returns c = record {
  stays = wanted_more;
  nodes = task_more;
  sets = λ t. (first_goes_on t, second_goes_on t);
  finds = λ s types a known. (found_more s types a known, found_none s types a known, found_one s types a known);
  valid = λ t valid d h. body_valid t valid (last_set t) (last_good t valid) d d.body refl h;
}
