use Rattle.std.proofs.Common.{◌++◌, ◌∷◌, [], ℕ, rules}
use Rattle.std.proofs.lemmas.List.Elements.{All-rest, All-same, All-push}
use Rattle.trees.specs.declared.TermId.{TermId}
use Rattle.trees.specs.Node.{Holds}
use Rattle.checks.proofs.decl_checks.Firsts.{first_has}
use Rattle.checks.proofs.decl_checks.checks.+push_own.Goals as goal

pub push_own-requires : goal.push_own-requires
push_own-requires t c =
    let s = c.args.store.now in
    let first = c.in-Some.first.now in
    let apart = c.in-Some.ensures.cases.0 in
    let P = λ (q : ℕ × TermId). Holds s q.1 in (
      search rules,
      (
        All-rest (Holds s) first c.in-Some.rest.now c.args.clauses.now apart c.requires.held,
        All-same P c.push.new.self.items (c.args.out.now.items ++ (c.args.symbol, first) ∷ []) c.in_ok-push-in-Some.ensures.items
            (All-push P c.args.out.now.items (c.args.symbol, first) c.requires.out_held (first_has (Holds s) first c.in-Some.rest.now c.args.clauses.now apart c.requires.held)),
      ),
    )
