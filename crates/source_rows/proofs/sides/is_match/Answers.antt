use Rattle.std.proofs.Common.{All, subst}
use Rattle.tasks.specs.trees.Node.{Holds, tree_at}
use Rattle.tasks.specs.Meaning.{symbols_at, trees_at}
use Rattle.theories.specs.checks.match_cover.Shapes.{IsPattern, HaveType}
use Rattle.source_rows.proofs.sides.is_match.Goals as goal

pub returns-in-Some : goal.returns-in-Some
returns-in-Some c = λ yes.
    let s = c.args.store.now in
    let e = c.as_slice.ensures in
    let ty = tree_at s c.in-Some.ty in
    record {
      held = subst (All (Holds s)) e (c.are_patterns.ensures.held yes);
      patterns = subst (λ ids. All (IsPattern (symbols_at s c.args.sig.now.symbols)) (trees_at s ids)) e (c.are_patterns.ensures.are yes);
      one_type = record { type = ty; have = subst (λ ids. HaveType (trees_at s ids) ty) e (c.are_patterns.ensures.have yes) };
    }
