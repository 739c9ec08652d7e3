use Rattle.std.proofs.Common.{List, map, All, refl, subst}
use Rattle.tasks.specs.Meaning.{symbols_at}
use Rattle.elab_groups.specs.open_types.declared.draft.MatchAt.{MatchAt}
use Rattle.elab_groups.specs.open_types.Drafts.{match_at}
use Rattle.theories.specs.side_conditions.Sides.{IsCovered}
use Rattle.theories.proofs.declaring.typing.check_made.Goals as goal

pub returns-in-Ok-clause-covered : goal.returns-in-Ok-clause-covered
returns-in-Ok-clause-covered c =
    let s = c.args.store.now in
    let P : List MatchAt → Type 0 = λ ms. All (IsCovered (symbols_at s c.args.sig.now.symbols)) (map (match_at s) ms) in
    subst P c.as_slice.ensures c.in-Ok.ensures.covered

pub returns-in-Ok-clause-same : goal.returns-in-Ok-clause-same
returns-in-Ok-clause-same c = refl
