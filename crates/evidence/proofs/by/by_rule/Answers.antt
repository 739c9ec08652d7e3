use Rattle.std.proofs.Common.{◌≡◌, ◌∙◌, ◌++◌, All, sym, subst}
use Rattle.std.proofs.lemmas.List.Elements.{All-append}
use Rattle.trees.specs.Node.{Holds}
use Rattle.evidence.proofs.Kept.{pushed_last}
use Rattle.evidence.proofs.Rules.{step_right}
use Rattle.evidence.proofs.by.by_rule.Goals as goal

pub push-requires-clause-held : goal.push-requires-clause-held
push-requires-clause-held c =
    let s = c.args.draft.now.trees in
    let e : c.from_vec-sequent.result ≡ c.args.front.now ++ c.args.tail.now = c.from_vec-sequent.ensures ∙ c.in_ok-join_lists.ensures in
    record { sequent = subst (All (Holds s)) (sym e) (All-append (Holds s) c.args.front.now c.args.tail.now c.requires.front.held c.requires.tail.held); rule = c.requires.held }

pub push-requires-clause-right : goal.push-requires-clause-right
push-requires-clause-right c =
    step_right c.args.draft.now c.args.front.now c.args.tail.now c.from_vec-sequent.result c.args.rule c.in_ok-premises.premises c.args.premises.now
    (c.from_vec-sequent.ensures ∙ c.in_ok-join_lists.ensures) c.in_ok-premises.ensures c.requires.front c.requires.tail c.requires.names c.requires.added

pub returns-clause-last : goal.returns-clause-last
returns-clause-last c = pushed_last c.push.result c.args.draft.now c.push.new.self _ c.push.ensures.number c.push.ensures.pushed
