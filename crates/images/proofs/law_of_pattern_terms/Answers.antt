-- All are lemmas.
use Rattle.images.proofs.PatternLaws.{matches_typed, matches_closed, matches_parts}
use Rattle.images.proofs.law_of_pattern_terms.Goals as goal

pub returns-clause-typed : goal.returns-clause-typed
returns-clause-typed c = matches_typed

pub returns-clause-closed : goal.returns-clause-closed
returns-clause-closed c = matches_closed

pub returns-clause-parts : goal.returns-clause-parts
returns-clause-parts c = matches_parts
