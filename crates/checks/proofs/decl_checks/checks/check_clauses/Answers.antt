use Rattle.std.proofs.Common.{◌≡◌, ◌++◌, ap, ◌∙◌}
use Rattle.tasks.specs.Meaning.{symbols_at, inductives_at}
use Rattle.checks.specs.decl_checks.Checks.{group_of, all_clauses}
use Rattle.checks.specs.decl_checks.Meaning.{own_clauses_at}
use Rattle.checks.proofs.decl_checks.Exact.{moved}
use Rattle.checks.proofs.decl_checks.checks.check_clauses.Goals as goal

pub returns : goal.returns
returns c =
    let s = c.args.store.now in
    let is = inductives_at s c.args.inductives.now in
    let group : c.as_slice.result.now ≡ group_of is = c.as_slice.ensures.value ∙ c.in_ok-push_group.ensures ∙ ap (λ y. y ++ group_of is) c.new-group.ensures.items in
    let clauses : own_clauses_at s c.as_slice-2.result.now ≡ all_clauses is =
    ap (own_clauses_at s) c.as_slice-2.ensures.value ∙ c.in_ok-push_all.ensures.tree ∙ ap (λ y. own_clauses_at s y ++ all_clauses is) c.new-clauses.ensures.items in
    moved (symbols_at s c.args.sig.now.symbols) c.as_slice.result.now (group_of is) (own_clauses_at s c.as_slice-2.result.now) (all_clauses is) c.check_listed.result group clauses c.check_listed.ensures
