use Rattle.std.proofs.Common.{get_or}
use Rattle.std.proofs.lemmas.List.{get_or_default}
use Rattle.trees.proofs.Nodes.{Grows_trans}
use Rattle.tasks.specs.declared.declaration.Def.{Def}
use Rattle.tr_inline.proofs.full_bodies.MadeBodies.{def_held, def_defined, rule_more, rule_all}
use Rattle.tr_inline.proofs.full_bodies.making.make_bodies.Goals as goal

abbrev none : Def
none = record { symbol = 0; equation = record { 0 = 0 } }

pub push_full_body-requires-clause-held : goal.push_full_body-requires-clause-held
push_full_body-requires-clause-held c =
    let xs = c.args.defs.now in
    let i = c.loop-def.def-index in
    let d = get_or xs i none in
    def_held c.args.store.now c.loop-def.store c.loop-def.invariant.grows c.args.task.now c.requires.held xs c.requires.defs_held i d c.loop-def-test.true (get_or_default xs i none d c.loop-def-test.true)

pub push_full_body-requires-clause-defined : goal.push_full_body-requires-clause-defined
push_full_body-requires-clause-defined c =
    let xs = c.args.defs.now in
    let i = c.loop-def.def-index in
    let d = get_or xs i none in
    def_defined c.args.store.now c.loop-def.store c.loop-def.invariant.grows c.args.task.now c.requires.held xs c.requires.defs_held i d c.loop-def-test.true (get_or_default xs i none d c.loop-def-test.true) c.requires.defined

pub loop-def-preserved : goal.loop-def-preserved
loop-def-preserved c =
    let xs = c.args.defs.now in
    let i = c.loop-def.def-index in
    let d = get_or xs i none in
    record {
      grows = Grows_trans c.args.store.now c.loop-def.store c.push_full_body.new.store c.loop-def.invariant.grows c.in_ok-push_full_body.ensures.grows;
      ready = c.in_ok-push_full_body.ensures.ready;
      rule = rule_more c.args.store.now c.loop-def.store c.loop-def.invariant.grows c.args.task.now c.requires.held xs c.requires.defs_held i d c.loop-def-test.true (get_or_default xs i none d c.loop-def-test.true) _ _ _ c.loop-def.invariant.rule c.in_ok-push_full_body.ensures.rule;
    }

pub returns-clause-rule : goal.returns-clause-rule
returns-clause-rule c = rule_all c.args.store.now c.args.defs.now c.loop-def.def-index _ _ c.loop-def-test.false c.loop-def.invariant.rule
