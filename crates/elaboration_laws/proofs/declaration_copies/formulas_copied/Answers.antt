use Rattle.elaboration_laws.proofs.Trees.{formula_mapped}
use Rattle.elaboration_laws.proofs.declaration_copies.formulas_copied.Goals as goal

pub returns : goal.returns
returns k = λ v w m vars e morphism sound h. formula_mapped v w m morphism sound vars e h
