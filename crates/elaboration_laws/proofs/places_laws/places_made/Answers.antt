use Rattle.elaboration_laws.proofs.Distinct.{pairs_distinct}
use Rattle.elaboration_laws.proofs.PlaceSteps as steps
use Rattle.elaboration_laws.proofs.places_laws.places_made.Goals as goal

pub returns : goal.returns
returns u = record {
  made = λ x c ks whole below once low apart. steps.places_made x c whole below (pairs_distinct c.opened.visible once) ks low (pairs_distinct ks apart);
  places = λ x c t same whole below once low apart. steps.cloned_places x c t same whole below (pairs_distinct c.opened.visible once) low (pairs_distinct t.visible apart);
}
