use Rattle.std.proofs.Common.{rules, ◌≡◌, [], List, length, subst, sym, ap, ◌∙◌}
use Rattle.trees.specs.Node.{tree_at}
use Rattle.tasks.specs.declared.declaration.Def.{Def}
use Rattle.congruence.specs.declared.alike.AlikeBy.TheVariants as alike
use Rattle.evidence.specs.Laws.{Extends_trans}
use Rattle.evidence.proofs.Formulas.{formula_later}
use Rattle.walking.specs.declared.linked.Linked.{Linked}
use Rattle.walking.specs.Places.{IsLinkOf}
use Rattle.tr_inline.proofs.PartlyInlined.{link_start, link_same, extends_itself, passed_none, passed_all, passed_more, last_defined, next_defined}
use Rattle.tr_inline.proofs.passes.inline_link.Goals as goal

pub loop-def-init : goal.loop-def-init
loop-def-init c =
    let d = c.args.draft.now in
    passed_none d c.args.formula c.args.fresh c.args.defs.items (extends_itself d) (record { image = c.args.formula; right = c.args.formula; alike = alike.Same }) (link_start d c.args.formula c.args.fresh c.requires.formula c.requires.below c.requires.fresh)

pub unfold_link-requires-clause-formula : goal.unfold_link-requires-clause-formula
unfold_link-requires-clause-formula c = formula_later c.args.draft.now c.loop-def.draft c.loop-def.invariant.grows c.args.formula c.requires.formula

pub unfold_link-requires-clause-so_far : goal.unfold_link-requires-clause-so_far
unfold_link-requires-clause-so_far c = link_same c.loop-def.draft c.args.formula c.args.fresh _ c.loop-def.made c.loop-def.invariant.link

pub unfold_link-requires-clause-defined : goal.unfold_link-requires-clause-defined
unfold_link-requires-clause-defined c =
    next_defined c.args.draft.now c.args.formula c.args.fresh c.args.defs.items c.loop-def.draft c.loop-def.left.items c.loop-def.made c.loop-def.invariant c.pop.new.self.items c.in-Some.def c.in-Some.ensures.items c.requires.defined

pub loop-def-preserved : goal.loop-def-preserved
loop-def-preserved c =
    let d = c.args.draft.now in
    let d1 = c.loop-def.draft in
    let r = last_defined d c.args.formula c.args.fresh c.args.defs.items d1 c.loop-def.left.items c.loop-def.made c.loop-def.invariant c.pop.new.self.items c.in-Some.def c.in-Some.ensures.items c.requires.defined in
    passed_more d c.args.formula c.args.fresh c.args.defs.items d1 c.loop-def.left.items c.loop-def.made c.loop-def.invariant c.pop.new.self.items c.in-Some.def c.in-Some.ensures.items r c.unfold_link.new.draft c.in_ok-made.ensures.grows _ c.in_ok-made.ensures.link

pub returns-clause-grows : goal.returns-clause-grows
returns-clause-grows c = c.loop-def.invariant.grows

pub returns-in_err-made-clause-grows : goal.returns-in_err-made-clause-grows
returns-in_err-made-clause-grows c = Extends_trans _ _ _ c.loop-def.invariant.grows c.unfold_link.ensures.grows

pub returns-clause-link : goal.returns-clause-link
returns-clause-link c =
    let none : length c.loop-def.left.items ≡ 0 = search rules in
    passed_all c.args.draft.now c.args.formula c.args.fresh c.args.defs.items c.loop-def.draft c.loop-def.left.items c.loop-def.made c.loop-def.invariant none
