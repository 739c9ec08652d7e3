use Rattle.std.proofs.Common.{◌≡◌, ap, subst, ◌∙◌}
use Rattle.tasks.specs.trees.Tree.{Tree}
use Rattle.tasks.specs.trees.Node.{tree_at}
use Rattle.tasks.specs.trees.Sorts.{sort_of}
use Rattle.evidence.specs.Laws.{Extends_trans}
use Rattle.congruence.proofs.Later.{tree_later}
use Rattle.congruence.proofs.CaseParts.{parts_later}
use Rattle.tr_if.specs.conditionals.Conditionals.{implications}
use Rattle.walking.specs.Places.{IsLinkOf}
use Rattle.tr_if.specs.Atoms.{atom_cases}
use Rattle.tr_if.proofs.Cases.{case_conditional}
use Rattle.tr_if.proofs.Links.{parts_linked_later}
use Rattle.tr_if.proofs.linking.link_first.Goals as goal

pub link_cases-requires : goal.link_cases-requires
link_cases-requires c =
    let d = c.args.draft.now in
    let d1 = c.first_values.new.draft in
    let x = c.in_ok-values.ensures.grows in
    let r = c.requires in
    let a = c.args.atom in
    let k = atom_cases a c.args.case in
    let i = case_conditional d c.args.env.now a c.args.fresh c.args.case r.case in
    let f = r.case.then_placed.left in
    record {
      left = parts_later d d1 x k i;
      formula = ap sort_of (tree_later d d1 x a.left f.held) ∙ f.ground.sort;
      values = c.in_ok-values.ensures.values;
      parts = parts_linked_later d c.args.env.now k c.args.parts c.args.fresh i f.ground.sort r.parts d1 x;
    }

pub returns-in_err-made-clause-grows : goal.returns-in_err-made-clause-grows
returns-in_err-made-clause-grows c = Extends_trans _ _ _ c.in_ok-values.ensures.grows c.in_err-made.ensures.grows

pub returns-clause-grows : goal.returns-clause-grows
returns-clause-grows c = Extends_trans _ _ _ c.in_ok-values.ensures.grows c.in_ok-made.ensures.grows

pub returns-clause-link : goal.returns-clause-link
returns-clause-link c =
    let d = c.args.draft.now in
    let d1 = c.first_values.new.draft in
    let d2 = c.link_cases.new.draft in
    let x = c.in_ok-values.ensures.grows in
    let p = c.args.parts in
    let r = c.requires.parts in
    let w : implications (tree_at d1.trees p.condition) (tree_at d1.trees p.one.image) (tree_at d1.trees p.two.image) ≡ implications (tree_at d.trees p.condition) (tree_at d.trees p.one.image) (tree_at d.trees p.two.image) =
    cc (tree_later d d1 x p.condition r.condition.open_held, tree_later d d1 x p.one.image r.one.place.open_held, tree_later d d1 x p.two.image r.two.place.open_held) in
    subst (λ (z : Tree). IsLinkOf d2 c.args.env.now c.args.atom.left c.args.fresh z c.in_ok-made.made) w c.in_ok-made.ensures.link
