use Rattle.std.proofs.Common.{ℕ, inl, inr, subst}
use Rattle.tasks.specs.trees.Node.{tree_at}
use Rattle.tr_algebraic.specs.declared.algebraic_forms.origins.LawKind.{LawKind}
use Rattle.tr_algebraic.specs.law_evidence.Shapes.{Quantified, IsProjected, AreApart, IsProjectedOrApart}
use Rattle.tr_algebraic.specs.law_evidence.Laws.{IsLawOf}
use Rattle.tr_algebraic.proofs.law_evidence.Shapes.{quantified_more}
use Rattle.tr_algebraic.proofs.law_evidence.laws.refute_law.Goals as goal

pub refute_open_law-requires-clause-shape : goal.refute_open_law-requires-clause-shape
refute_open_law-requires-clause-shape c =
    let t = c.args.draft.now.task in
    let e = tree_at c.args.draft.now.trees c.args.formula in
    let h : (n : ℕ) × Quantified (IsProjected t) n e = subst (λ (k : LawKind). IsLawOf t k e) c.in-Projection.is c.requires.shape in
    (h.0, quantified_more (IsProjected t) (IsProjectedOrApart t) (λ x p. inl p) h.0 e h.1)

pub refute_open_law-requires-in-Distinctness-clause-shape : goal.refute_open_law-requires-in-Distinctness-clause-shape
refute_open_law-requires-in-Distinctness-clause-shape c =
    let t = c.args.draft.now.task in
    let e = tree_at c.args.draft.now.trees c.args.formula in
    let h : (n : ℕ) × Quantified (AreApart t) n e = subst (λ (k : LawKind). IsLawOf t k e) c.in-Distinctness.is c.requires.shape in
    (h.0, quantified_more (AreApart t) (IsProjectedOrApart t) (λ x p. inr p) h.0 e h.1)
