use Rattle.std.proofs.Common.{sym, subst, ◌∙◌}
use Rattle.tasks.specs.trees.Tree.{head_of}
use Rattle.evidence.specs.Laws.{AddsTrees_extends}
use Rattle.congruence.proofs.Later.{tree_later}
use Rattle.tr_if.specs.conditionals.Laws.{is_atom_head}
use Rattle.tr_if.proofs.Placing.{can_put, put_at, put_head}
use Rattle.tr_if.proofs.places.put_part.Goals as goal

pub replace_first-requires : goal.replace_first-requires
replace_first-requires c =
    let r = c.requires in
    can_put c.args.draft.now c.args.env.now c.args.atom c.args.whole c.args.part c.args.fresh r.atom r.first r.part

pub place_at-requires : goal.place_at-requires
place_at-requires c =
    let d = c.args.draft.now in
    let d1 = c.replace_first.new.g in
    let r = c.requires in
    put_at d c.args.env.now c.args.atom c.args.whole c.args.part c.args.fresh r.atom r.first r.part d1 (AddsTrees_extends d d1 c.in_ok-formula.ensures.grows) c.in_ok-formula.formula c.in_ok-formula.ensures.placed.held c.in_ok-formula.ensures.placed.is

pub returns-clause-atom : goal.returns-clause-atom
returns-clause-atom c =
    let d = c.args.draft.now in
    let d1 = c.replace_first.new.g in
    let d2 = c.place_at.new.draft in
    let y = AddsTrees_extends d1 d2 c.in_ok-left.ensures.grows in
    let formula = c.in_ok-formula.formula in
    let r = c.requires in
    record {
      place = c.in_ok-left.ensures.place;
      atom = subst (λ z. is_atom_head (head_of z)) (sym (tree_later d1 d2 y formula c.in_ok-formula.ensures.placed.held ∙ c.in_ok-formula.ensures.placed.is)) (put_head d c.args.env.now c.args.atom c.args.whole c.args.part c.args.fresh r.atom r.first r.part);
    }

pub returns-clause-formula : goal.returns-clause-formula
returns-clause-formula c =
    let d1 = c.replace_first.new.g in
    let d2 = c.place_at.new.draft in
    let y = AddsTrees_extends d1 d2 c.in_ok-left.ensures.grows in
    tree_later d1 d2 y c.in_ok-formula.formula c.in_ok-formula.ensures.placed.held ∙ c.in_ok-formula.ensures.placed.is
