use Rattle.std.proofs.Common.{◌≡◌, ◌∙◌, ◌++◌, length, ap, rules}
use Rattle.std.proofs.lemmas.List.{length-append}
use Rattle.tasks.specs.Looking.{stored_said_in, fact_names}
use Rattle.tasks.proofs.Listed.{props_step, facts_step}
use Rattle.tasks.proofs.lookup.list_propositions.Goals as goal

pub loop-decl-preserved : goal.loop-decl-preserved
loop-decl-preserved c =
    let i = c.loop-decl.decl-index in
    let ds = c.args.decls.now in
    let d = c.decl-item.result in
    let new = c.in_ok-push_said.ensures in
    let more : c.push_facts.new.facts.items ≡ c.loop-decl.facts.items ++ fact_names (length c.loop-decl.props.items) d.body = search rules in (
      props_step ds i d c.loop-decl.props.items _ c.loop-decl-test.true c.decl-item.is new c.loop-decl.invariant.0,
      facts_step ds i (length c.loop-decl.props.items) _ d c.loop-decl.facts.items _ c.loop-decl-test.true c.decl-item.is more (ap length new ∙ length-append c.loop-decl.props.items (stored_said_in d d.body)) c.loop-decl.invariant.1,
    )
