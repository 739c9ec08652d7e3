use Rattle.evidence.proofs.proof_scripts.Connectives.{place_tree, formula_at}
use Rattle.evidence.proofs.proof_scripts.making.at_place.Goals as goal

pub returns-clause-is : goal.returns-clause-is
returns-clause-is c = λ s. place_tree s c.args.tail.now c.args.place _ c.requires

pub returns-clause-formula : goal.returns-clause-formula
returns-clause-formula c = λ d f. formula_at d c.args.tail.now c.args.place _ c.requires f
