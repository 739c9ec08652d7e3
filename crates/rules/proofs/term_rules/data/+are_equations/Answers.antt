use Rattle.std.proofs.Common.{rules, arith, ◌≡◌, List, ◌∷◌, suc, subst}
use Rattle.std.specs.Prelude.{All}
use Rattle.trees.specs.declared.TermId.{TermId}
use Rattle.trees.specs.Node.{Holds}
use Rattle.rules.proofs.term_rules.data.+are_equations.Goals as goal

all_rest : (P : TermId → Type 0) (xs ys : List TermId) (x : TermId) → xs ≡ x ∷ ys → All P xs → All P ys
all_rest P xs ys x e h = let g : All P (x ∷ ys) = subst (λ (l : List TermId). All P l) e h in λ k d l. g (suc k) d (omega arith)

pub are_equations-requires : goal.are_equations-requires
are_equations-requires t c = (
  search rules,
  (
    all_rest (Holds c.args.store.now) c.args.formulas.now c.in-Some-split_first.rest.now c.in-Some-split_first.first.now c.in-Some-split_first.ensures.cases.0 c.requires.formulas_held,
    (search rules, search rules),
  ),
)
