use Rattle.std.proofs.Common.{◌≡◌, [], subst, sym, ap, ◌∙◌}
use Rattle.trees.specs.Tree.{Tree}
use Rattle.trees.specs.Node.{tree_at}
use Rattle.tasks.specs.Meaning.{definition_at}
use Rattle.evidence.specs.Laws.{Extends_trans}
use Rattle.evidence.proofs.Formulas.{formula_later}
use Rattle.congruence.proofs.Later.{pair_later}
use Rattle.inlining.specs.Inlining.{with_uses_unfolded}
use Rattle.walking.specs.declared.linked.Linked.{Linked}
use Rattle.walking.specs.Places.{IsLinkOf}
use Rattle.walking.proofs.Binders.{formula_pair}
use Rattle.walking.proofs.Places.{place_closed, link_pair, chain_link}
use Rattle.walking.proofs.PlacesLater.{place_later, link_later}
use Rattle.tr_inline.proofs.PartlyInlined.{same_image}
use Rattle.tr_inline.proofs.passes.unfold_link.Goals as goal

pub walk-requires-clause-place : goal.walk-requires-clause-place
walk-requires-clause-place c = c.requires.so_far.place

pub chain-requires-clause-left : goal.chain-requires-clause-left
chain-requires-clause-left c =
    let d = c.args.draft.now in
    let d1 = c.walk.new.draft in
    let x = c.in_ok-made.ensures.grows in
    pair_later d d1 x c.args.formula c.args.so_far.right (formula_pair d [] c.args.formula c.args.fresh (tree_at d.trees c.args.so_far.image) c.args.so_far c.requires.formula c.requires.so_far)

pub chain-requires-clause-right : goal.chain-requires-clause-right
chain-requires-clause-right c =
    let d = c.args.draft.now in
    let d1 = c.walk.new.draft in
    let x = c.in_ok-made.ensures.grows in
    let n = c.args.fresh in
    let m = c.in_ok-made.ensures.link in
    let p = place_later d d1 x [] c.args.so_far.image c.args.so_far.right n c.requires.so_far.place in
    link_pair d1 [] c.args.so_far.image c.args.so_far.right n p _ c.in_ok-made.made m (place_closed d1 [] c.in_ok-made.made.image c.in_ok-made.made.right n m.place)

pub chain-requires-clause-first : goal.chain-requires-clause-first
chain-requires-clause-first c =
    let d = c.args.draft.now in
    let d1 = c.walk.new.draft in
    (link_later d d1 c.in_ok-made.ensures.grows [] c.args.formula c.args.fresh (tree_at d.trees c.args.so_far.image) c.args.so_far c.requires.formula.held c.requires.so_far).shows

pub chain-requires-clause-second : goal.chain-requires-clause-second
chain-requires-clause-second c = c.in_ok-made.ensures.link.shows

pub returns-in_err-alike-clause-grows : goal.returns-in_err-alike-clause-grows
returns-in_err-alike-clause-grows c = Extends_trans _ _ _ c.in_ok-made.ensures.grows c.in_err-alike.ensures.grows

pub returns-clause-grows : goal.returns-clause-grows
returns-clause-grows c = Extends_trans _ _ _ c.in_ok-made.ensures.grows c.in_ok-alike.ensures.grows

pub returns-clause-link : goal.returns-clause-link
returns-clause-link c =
    let d = c.args.draft.now in
    let d1 = c.walk.new.draft in
    let d2 = c.chain.new.draft in
    let n = c.args.fresh in
    let made = c.in_ok-made.made in
    let all = chain_link d d1 d2 c.in_ok-made.ensures.grows c.in_ok-alike.ensures.grows [] c.args.formula n (tree_at d.trees c.args.so_far.image) _ c.args.so_far made c.in_ok-alike.alike c.requires.formula.held c.requires.so_far c.in_ok-made.ensures.link c.in_ok-alike.ensures.shows in
    subst (λ (z : Tree). IsLinkOf d2 [] c.args.formula n z (record { image = made.image; right = made.right; alike = c.in_ok-alike.alike })) (same_image d c.args.def c.requires.defined (tree_at d.trees c.args.so_far.image)) all
