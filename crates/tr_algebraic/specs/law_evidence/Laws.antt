-- The shape of a law of each kind.
use Rattle.std.specs.Prelude.{ℕ}
use Rattle.tasks.specs.trees.Tree.{Tree}
use Rattle.tasks.specs.Task.{TaskTree}
use Rattle.tr_algebraic.specs.declared.algebraic_forms.origins.LawKind.{LawKind}
use Rattle.tr_algebraic.specs.declared.algebraic_forms.origins.LawKind.TheVariants.{Projection, Distinctness, Exhaustion}
use Rattle.tr_algebraic.specs.law_evidence.Shapes.{Quantified, IsProjected, AreApart, AreCases}

abbrev pub IsLawOf : TaskTree → LawKind → Tree → Type 0
IsLawOf t Projection e = (n : ℕ) × Quantified (IsProjected t) n e
IsLawOf t Distinctness e = (n : ℕ) × Quantified (AreApart t) n e
IsLawOf t Exhaustion e = AreCases t e
