use Rattle.std.proofs.Common.{All, sym, subst}
use Rattle.tasks.specs.declared.declaration.Body.{Body}
use Rattle.tasks.specs.Meaning.{InductiveHeld}
use Rattle.tasks.proofs.Lists.{inductives_held}
use Rattle.declarations.specs.spelled_groups.Making.{MemberIsFit, IsFit}
use Rattle.declarations.proofs.spelled_groups.Fit.{valid_fit}
use Rattle.declarations.proofs.spelled_groups.inductives.inductives_said.Goals as goal

pub push_all_clauses-requires-clause-inductives : goal.push_all_clauses-requires-clause-inductives
push_all_clauses-requires-clause-inductives c =
    let s = c.args.store.now in
    subst (All (InductiveHeld s)) (sym c.as_slice.ensures) (inductives_held s c.args.decl.now.body c.in-Inductives.inductives c.in-Inductives.is c.requires.valid.held)

pub push_inversions-requires-clause-fit : goal.push_inversions-requires-clause-fit
push_inversions-requires-clause-fit c =
    let s = c.args.store.now in
    let infos = c.args.sig.now.symbols in
    let fit = valid_fit s infos c.args.decl.now c.requires.valid in
    subst (All (MemberIsFit s infos)) (sym c.as_slice-in-Inductives.ensures) (subst (λ (b : Body). IsFit s infos b) c.in-Inductives.is fit)
