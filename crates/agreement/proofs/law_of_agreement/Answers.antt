-- All are lemmas.
use Rattle.agreement.proofs.PartLists.{parts_once, by_parts, more_levels, more_pairs}
use Rattle.agreement.proofs.law_of_agreement.Goals as goal

pub returns-clause-one : goal.returns-clause-one
returns-clause-one c = parts_once

pub returns-clause-parts : goal.returns-clause-parts
returns-clause-parts c = by_parts

pub returns-clause-levels : goal.returns-clause-levels
returns-clause-levels c = more_levels

pub returns-clause-pairs : goal.returns-clause-pairs
returns-clause-pairs c = more_pairs
