-- All are lemmas.
use Rattle.part_texts.proofs.smt_law.Whole.{law}
use Rattle.part_texts.proofs.smt_law.Shipped.{plain}
use Rattle.part_texts.proofs.smt_law.ShippedRead.{shipped_are_read}
use Rattle.part_texts.proofs.smt_law.Spelt.{names_are_spelt}
use Rattle.part_texts.proofs.smt_law.Scoped.{scoped_names_are_spelt}
use Rattle.part_texts.proofs.smt_law.law_of_texts.Goals as goal

pub returns-clause-law : goal.returns-clause-law
returns-clause-law c = law

pub returns-clause-shipped : goal.returns-clause-shipped
returns-clause-shipped c = plain

pub returns-clause-read : goal.returns-clause-read
returns-clause-read c = shipped_are_read

pub returns-clause-spelt : goal.returns-clause-spelt
returns-clause-spelt c = names_are_spelt

pub returns-clause-scoped : goal.returns-clause-scoped
returns-clause-scoped c = scoped_names_are_spelt
