use Rattle.std.proofs.Common.{◌≡◌, ◌+◌, All, List, [], ◌∷◌, ◌++◌, IfOk, refl, sym, ap, subst, ◌∙◌, arith}
use Rattle.trees.specs.declared.TermId.{TermId}
use Rattle.trees.specs.Tree.{Tree, Leaf, One, Two, Three, HEnd, HCell, HArm, HCase, HNot, HLet, HIf, HBound, HParam, head_of}
use Rattle.trees.specs.Node.{tree_at, trees_at, Holds}
use Rattle.trees.specs.Sorts.{sort_of, IsExpression}
use Rattle.tasks.specs.Task.{TaskTree}
use Rattle.evidence.specs.Laws.{Extends_trans, AddsTrees_extends}
use Rattle.evidence.proofs.Formulas.{formula_later}
use Rattle.images.specs.Images.{image}
use Rattle.walking.specs.Places.{IsInstanceAt, IsLinkOf, over_images}
use Rattle.congruence.specs.Quantifiers.{quantifier_head}
use Rattle.walking.proofs.Binders.{under_image}
use Rattle.congruence.proofs.Later.{held_later, tree_later, closed_later, pair_later, node_later, shows_at}
use Rattle.walking.proofs.PlacesLater.{all_later, trees_later, place_later, link_later}
use Rattle.walking.proofs.Places.{first_place, second_place, joined_instance, place_closed, place_sort, link_pair, not_place, image_over, chain_link}
use Rattle.congruence.proofs.CaseParts.{closed_formula}
use Rattle.images.specs.Templates.{listed}
use Rattle.congruence.specs.Alike.{IsClosedAt, Shows}
use Rattle.walking.specs.Arguments.{AreLinksOf}
use Rattle.congruence.specs.Applications.{applied}
use Rattle.std.proofs.lemmas.Result.{IfOk-weaker}
use Rattle.trees.specs.Binding.{inst_many}
use Rattle.tasks.specs.Vocabulary.{of_task}
use Rattle.walking.specs.Places.{types_for}
use Rattle.walking.proofs.PatternShapes.{arms_image}
use Rattle.walking.proofs.CasePlaces.{case_scrutinee, case_term}
use Rattle.walking.proofs.OpenedBranches.{opened_later, branch_later}
use Rattle.walking.proofs.RestPlaces.{case_branch, others_list, pattern_typed}
use Rattle.walking.proofs.PartNodes.{part_node}
use Rattle.walking.proofs.IfPlaces.{if_first, if_second, if_third, if_later}
use Rattle.congruence.proofs.ApplicationHoles.{symbol_later, applied_later}
use Rattle.walking.proofs.ArgumentPlaces.{application_left, application_places, application_later, application_over, links_again, links_later, one_pair, one_more_held, list_first, list_first_term, list_others, arguments_after, cell_image, no_arguments}
use Rattle.walking.proofs.LetPlaces.{let_value_place, let_value_term, let_body_place, link_again}
use Rattle.walking.proofs.EqualPlaces.{equal_first_place, equal_second_place, bound_link, param_link}
use Rattle.walking.proofs.VisiblePlaces.{place_near, link_whole}
use Rattle.walking.proofs.RememberedLinks.{if_ok, remembered_later, remembered_more, remembered_link, seen_enough, seen_are_terms}
use Rattle.walking.proofs.walking.+walk.Goals as goal

pub walk_node-returns-in_err-made-clause-grows : goal.walk_node-returns-in_err-made-clause-grows
walk_node-returns-in_err-made-clause-grows g t c = Extends_trans _ _ _ c.in_ok-parts.ensures.grows c.in_err-made.ensures.grows

pub walk_node-chain-requires-clause-left : goal.walk_node-chain-requires-clause-left
walk_node-chain-requires-clause-left g t c =
    let d = c.args.draft.now in
    let d1 = c.walk_parts.new.draft in
    let k = c.in_ok-parts.ensures.link in
    let env = c.args.env.now in
    let n = c.args.fresh in
    let parts = c.in_ok-parts.parts in
    let p = place_later d d1 c.in_ok-parts.ensures.grows env c.args.e c.args.left n c.requires.place in
    pair_later d1 c.link.new.draft c.in_ok-made.ensures.grows c.args.left parts.right (link_pair d1 env c.args.e c.args.left n p _ parts k (place_closed d1 env parts.image parts.right n k.place))

pub walk_node-chain-requires-clause-right : goal.walk_node-chain-requires-clause-right
walk_node-chain-requires-clause-right g t c =
    let d1 = c.walk_parts.new.draft in
    let d2 = c.link.new.draft in
    let k = c.in_ok-parts.ensures.link in
    let m = c.in_ok-made.ensures.link in
    let env = c.args.env.now in
    let n = c.args.fresh in
    let parts = c.in_ok-parts.parts in
    let made = c.in_ok-made.made in
    let p = place_later d1 d2 c.in_ok-made.ensures.grows env parts.image parts.right n k.place in
    link_pair d2 env parts.image parts.right n p _ made m (place_closed d2 env made.image made.right n m.place)

pub walk_node-chain-requires-clause-first : goal.walk_node-chain-requires-clause-first
walk_node-chain-requires-clause-first g t c =
    let d1 = c.walk_parts.new.draft in
    let p = place_later c.args.draft.now d1 c.in_ok-parts.ensures.grows c.args.env.now c.args.e c.args.left c.args.fresh c.requires.place in
    (link_later d1 c.link.new.draft c.in_ok-made.ensures.grows c.args.env.now c.args.left c.args.fresh _ c.in_ok-parts.parts p.left_held c.in_ok-parts.ensures.link).shows

pub walk_node-returns-in_err-alike-clause-grows : goal.walk_node-returns-in_err-alike-clause-grows
walk_node-returns-in_err-alike-clause-grows g t c = Extends_trans _ _ _ (Extends_trans _ _ _ c.in_ok-parts.ensures.grows c.in_ok-made.ensures.grows) c.in_err-alike.ensures.grows

pub walk_node-returns-clause-link : goal.walk_node-returns-clause-link
walk_node-returns-clause-link g t c =
    let d = c.args.draft.now in
    let d1 = c.walk_parts.new.draft in
    let d2 = c.link.new.draft in
    let d3 = c.chain.new.draft in
    let env = c.args.env.now in
    let n = c.args.fresh in
    let parts = c.in_ok-parts.parts in
    let made = c.in_ok-made.made in
    let rule : TaskTree → Tree → Tree = g.R.Rewrite.rule c.args.rewrite.now in
    let e : Tree = tree_at d.trees c.args.e in
    let p = place_later d d1 c.in_ok-parts.ensures.grows env c.args.e c.args.left n c.requires.place in
    let k = c.in_ok-parts.ensures.link in
    let q : rule d1.task (tree_at d1.trees parts.image) ≡ image (rule d.task) e =
    ap (λ (T : TaskTree). rule T (tree_at d1.trees parts.image)) c.in_ok-parts.ensures.grows.task ∙ ap (rule d.task) k.is ∙ sym (image_over (rule d.task) e) in
    subst (λ (z : Tree). IsLinkOf d3 env c.args.left n z (record { image = made.image; right = made.right; alike = c.in_ok-alike.alike })) q
    (chain_link d1 d2 d3 c.in_ok-made.ensures.grows c.in_ok-alike.ensures.grows env c.args.left n _ _ parts made c.in_ok-alike.alike p.left_held k c.in_ok-made.ensures.link c.in_ok-alike.ensures.shows)

pub walk_node-returns-clause-grows : goal.walk_node-returns-clause-grows
walk_node-returns-clause-grows g t c = Extends_trans _ _ _ (Extends_trans _ _ _ c.in_ok-parts.ensures.grows c.in_ok-made.ensures.grows) c.in_ok-alike.ensures.grows

pub walk_parts-link_not-requires-clause-left : goal.walk_parts-link_not-requires-clause-left
walk_parts-link_not-requires-clause-left g t c =
    let d = c.args.draft.now in
    formula_later d c.walk_tree.new.draft c.in_ok-part-in-Not.ensures.grows c.args.left
    (closed_formula d c.args.left (place_closed d c.args.env.now c.args.e c.args.left c.args.fresh c.requires.place) (ap sort_of c.under_not-under.ensures.tree))

pub walk_parts-link_not-requires-clause-right : goal.walk_parts-link_not-requires-clause-right
walk_parts-link_not-requires-clause-right g t c =
    let k = c.in_ok-part-in-Not.ensures.link in
    let part = c.in_ok-part-in-Not.part in
    place_closed c.walk_tree.new.draft c.args.env.now part.image part.right c.args.fresh k.place

pub walk_parts-returns-in_ok-part-in-Not-clause-grows : goal.walk_parts-returns-in_ok-part-in-Not-clause-grows
walk_parts-returns-in_ok-part-in-Not-clause-grows g t c = Extends_trans _ _ _ c.in_ok-part-in-Not.ensures.grows c.link_not.ensures.grows

pub walk_node-link-requires-clause-ready : goal.walk_node-link-requires-clause-ready
walk_node-link-requires-clause-ready g t c = g.R.Rewrite.stays_ready c.args.rewrite.now c.args.draft.now c.walk_parts.new.draft c.in_ok-parts.ensures.grows c.requires.ready

pub walk_parts-link_not-requires-clause-under : goal.walk_parts-link_not-requires-clause-under
walk_parts-link_not-requires-clause-under g t c =
    let d = c.args.draft.now in
    let a = c.in-Not.a in
    let u = c.under_not-under.result in
    let q : tree_at d.trees c.args.e ≡ One HNot (tree_at d.trees a) = subst (λ (s : List Tree). tree_at s c.args.e ≡ One HNot (tree_at s a)) c.store.ensures c.in-Not.ensures.tree in
    let h : Holds d.trees a = omega (arith, c.in-Not.ensures.below, c.requires.place.open_held) in
    closed_later d c.walk_tree.new.draft c.in_ok-part-in-Not.ensures.grows u
    (place_closed d c.args.env.now a u c.args.fresh (not_place d c.args.env.now c.args.e c.args.left c.args.fresh c.requires.place a u q h c.under_not-under.ensures.tree c.under_not-under.ensures.held))

pub walk_join-walk_tree-requires-2 : goal.walk_join-walk_tree-requires-2
walk_join-walk_tree-requires-2 g t c =
    let d = c.args.draft.now in
    let d1 = c.walk_tree.new.draft in
    let x = c.in_ok-one.ensures.grows in
    let env = c.args.env.now in
    let sides = c.joined_sides-sides.result in
    let p = c.requires.place in
    let r = c.joined_sides-sides.ensures.tree c.args.op _ _ (joined_instance d env c.args.e c.args.left c.args.fresh c.args.op c.args.a c.args.b p c.requires.node) in
    let hb : Holds d.trees c.args.b = omega (arith, c.requires.second_below, p.open_held) in
    let place = place_later d d1 x env c.args.b sides.second c.args.fresh (second_place d env c.args.e c.args.left c.args.fresh p c.args.op c.args.a c.args.b sides.first sides.second c.requires.node r hb c.joined_sides-sides.ensures.second_held) in
    let ready = g.R.Rewrite.stays_ready c.args.rewrite.now d d1 x c.requires.ready in
    let links = c.in_ok-one.ensures.remembered in
    λ κs h. (omega (arith, c.requires.second_below), (h, (ready, (links, place))))

pub walk_join-returns-in_err-two-clause-grows : goal.walk_join-returns-in_err-two-clause-grows
walk_join-returns-in_err-two-clause-grows g t c = Extends_trans _ _ _ c.in_ok-one.ensures.grows c.in_err-two.ensures.grows

pub walk_join-link_join-requires-clause-left : goal.walk_join-link_join-requires-clause-left
walk_join-link_join-requires-clause-left g t c =
    let d = c.args.draft.now in
    let x = Extends_trans d c.walk_tree.new.draft c.walk_tree-2.new.draft c.in_ok-one.ensures.grows c.in_ok-two.ensures.grows in
    formula_later d c.walk_tree-2.new.draft x c.args.left
    (closed_formula d c.args.left (place_closed d c.args.env.now c.args.e c.args.left c.args.fresh c.requires.place) (place_sort d c.args.env.now c.args.e c.args.left c.args.fresh c.requires.place ∙ ap sort_of c.requires.node))

pub walk_join-link_join-requires-clause-first : goal.walk_join-link_join-requires-clause-first
walk_join-link_join-requires-clause-first g t c =
    let d = c.args.draft.now in
    let x = Extends_trans d c.walk_tree.new.draft c.walk_tree-2.new.draft c.in_ok-one.ensures.grows c.in_ok-two.ensures.grows in
    let env = c.args.env.now in
    let sides = c.joined_sides-sides.result in
    let p = c.requires.place in
    let r = c.joined_sides-sides.ensures.tree c.args.op _ _ (joined_instance d env c.args.e c.args.left c.args.fresh c.args.op c.args.a c.args.b p c.requires.node) in
    let h : Holds d.trees c.args.a = omega (arith, c.requires.first_below, p.open_held) in
    closed_later d c.walk_tree-2.new.draft x sides.first
    (place_closed d env c.args.a sides.first c.args.fresh (first_place d env c.args.e c.args.left c.args.fresh p c.args.op c.args.a c.args.b sides.first sides.second c.requires.node r h c.joined_sides-sides.ensures.first_held))

pub walk_join-link_join-requires-clause-second : goal.walk_join-link_join-requires-clause-second
walk_join-link_join-requires-clause-second g t c =
    let d = c.args.draft.now in
    let x = Extends_trans d c.walk_tree.new.draft c.walk_tree-2.new.draft c.in_ok-one.ensures.grows c.in_ok-two.ensures.grows in
    let env = c.args.env.now in
    let sides = c.joined_sides-sides.result in
    let p = c.requires.place in
    let r = c.joined_sides-sides.ensures.tree c.args.op _ _ (joined_instance d env c.args.e c.args.left c.args.fresh c.args.op c.args.a c.args.b p c.requires.node) in
    let h : Holds d.trees c.args.b = omega (arith, c.requires.second_below, p.open_held) in
    closed_later d c.walk_tree-2.new.draft x sides.second
    (place_closed d env c.args.b sides.second c.args.fresh (second_place d env c.args.e c.args.left c.args.fresh p c.args.op c.args.a c.args.b sides.first sides.second c.requires.node r h c.joined_sides-sides.ensures.second_held))

pub walk_join-link_join-requires-clause-one_right : goal.walk_join-link_join-requires-clause-one_right
walk_join-link_join-requires-clause-one_right g t c =
    let d1 = c.walk_tree.new.draft in
    let one = c.in_ok-one.one in
    closed_later d1 c.walk_tree-2.new.draft c.in_ok-two.ensures.grows one.right (place_closed d1 c.args.env.now one.image one.right c.args.fresh c.in_ok-one.ensures.link.place)

pub walk_join-link_join-requires-clause-two_right : goal.walk_join-link_join-requires-clause-two_right
walk_join-link_join-requires-clause-two_right g t c =
    let two = c.in_ok-two.two in
    place_closed c.walk_tree-2.new.draft c.args.env.now two.image two.right c.args.fresh c.in_ok-two.ensures.link.place

pub walk_join-link_join-requires-clause-one : goal.walk_join-link_join-requires-clause-one
walk_join-link_join-requires-clause-one g t c =
    let d = c.args.draft.now in
    let d1 = c.walk_tree.new.draft in
    let d2 = c.walk_tree-2.new.draft in
    let one = c.in_ok-one.one in
    let k = c.in_ok-one.ensures.link in
    let h = held_later d d1 c.in_ok-one.ensures.grows c.joined_sides-sides.result.first c.joined_sides-sides.ensures.first_held in
    let m = link_later d1 d2 c.in_ok-two.ensures.grows c.args.env.now c.joined_sides-sides.result.first c.args.fresh _ one h k in
    record { is = refl; place = m.place; sort = m.sort; type = m.type; shows = m.shows }

pub walk_join-returns-clause-grows : goal.walk_join-returns-clause-grows
walk_join-returns-clause-grows g t c = Extends_trans _ _ _ (Extends_trans _ _ _ c.in_ok-one.ensures.grows c.in_ok-two.ensures.grows) c.link_join.ensures.grows

pub walk_under-walk_tree-requires : goal.walk_under-walk_tree-requires
walk_under-walk_tree-requires g t c =
    let d = c.args.draft.now in
    let d1 = c.open_quantified.new.draft in
    let x = AddsTrees_extends d d1 c.in_ok-o.ensures.grows in
    let hb : Holds d.trees c.args.body = omega (arith, c.requires.below, c.requires.place.open_held) in
    let ready = g.R.Rewrite.stays_ready c.args.rewrite.now d d1 x c.requires.ready in
    let longer : c.deref.result.now ≡ c.args.env.now ++ c.in_ok-o.o.term ∷ [] = c.deref.ensures.value ∙ c.in_ok-longer.ensures in
    let place : IsInstanceAt d1 c.deref.result.now c.args.body c.in_ok-o.o.inner (c.args.fresh + 1) = subst (λ (z : List TermId). IsInstanceAt d1 z c.args.body c.in_ok-o.o.inner (c.args.fresh + 1)) (sym longer) c.in_ok-o.ensures.place in
    let links = remembered_later d d1 x (g.R.Rewrite.rule c.args.rewrite.now) c.args.links.now c.requires.remembered in
    λ κs h. (omega (arith, c.requires.below), (h, (ready, (links, place))))

pub walk_under-link_quantified-requires-clause-place : goal.walk_under-link_quantified-requires-clause-place
walk_under-link_quantified-requires-clause-place g t c =
    let d = c.args.draft.now in
    let d1 = c.open_quantified.new.draft in
    let d2 = c.walk_tree.new.draft in
    place_later d d2 (Extends_trans d d1 d2 (AddsTrees_extends d d1 c.in_ok-o.ensures.grows) c.in_ok-part.ensures.grows) c.args.env.now c.args.e c.args.left c.args.fresh c.requires.place

pub walk_under-returns-clause-grows : goal.walk_under-returns-clause-grows
walk_under-returns-clause-grows g t c =
    let d = c.args.draft.now in
    let d1 = c.open_quantified.new.draft in
    let d2 = c.walk_tree.new.draft in
    Extends_trans d d2 c.link_quantified.new.draft (Extends_trans d d1 d2 (AddsTrees_extends d d1 c.in_ok-o.ensures.grows) c.in_ok-part.ensures.grows) c.link_quantified.ensures.grows

pub walk_under-returns-clause-link : goal.walk_under-returns-clause-link
walk_under-returns-clause-link g t c =
    let d = c.args.draft.now in
    let d1 = c.open_quantified.new.draft in
    let d2 = c.walk_tree.new.draft in
    let d3 = c.link_quantified.new.draft in
    let u = c.args.universal in
    let x = AddsTrees_extends d d1 c.in_ok-o.ensures.grows in
    let y = c.in_ok-part.ensures.grows in
    let p = c.requires.place in
    let hb : Holds d.trees c.args.body = omega (arith, c.requires.below, p.open_held) in
    let rule : TaskTree → Tree → Tree = g.R.Rewrite.rule c.args.rewrite.now in
    let T : Tree = tree_at d.trees c.args.ty in
    let B : Tree = tree_at d.trees c.args.body in
    let part = c.in_ok-part.part in
    let b : tree_at d2.trees part.image ≡ image (rule d.task) B =
    c.in_ok-part.ensures.link.is ∙ ap (λ (s : TaskTree). image (rule s) (tree_at d1.trees c.args.body)) x.task ∙ ap (image (rule d.task)) (tree_later d d1 x c.args.body hb) in
    let ty : tree_at d2.trees c.args.ty ≡ T = tree_later d d2 (Extends_trans d d1 d2 x y) c.args.ty c.requires.ty_held in
    let q : Two (quantifier_head u) (tree_at d2.trees c.args.ty) (tree_at d2.trees part.image) ≡ over_images (rule d.task) (tree_at d.trees c.args.e) =
    ap (λ (z : Tree). Two (quantifier_head u) z (tree_at d2.trees part.image)) ty ∙ ap (Two (quantifier_head u) T) b
    ∙ sym (under_image u d c.args.env.now c.args.e c.args.left c.args.fresh T B p c.requires.node (rule d.task) (g.R.Rewrite.others c.args.rewrite.now d.task)) in
    subst (λ (z : Tree). IfOk c.link_quantified.result (IsLinkOf d3 c.args.env.now c.args.left c.args.fresh z)) q c.link_quantified.ensures.link

pub walk_equal-walk_tree-requires-2 : goal.walk_equal-walk_tree-requires-2
walk_equal-walk_tree-requires-2 g t c =
    let d = c.args.draft.now in
    let d1 = c.walk_tree.new.draft in
    let x = c.in_ok-one.ensures.grows in
    let env = c.args.env.now in
    let sides = c.equal_sides-sides.result in
    let p = c.requires.place in
    let r = c.equal_sides-sides.ensures.tree in
    let hb : Holds d.trees c.args.b = omega (arith, c.requires.second_below, p.open_held) in
    let place = place_later d d1 x env c.args.b sides.second c.args.fresh (equal_second_place d env c.args.e c.args.left c.args.fresh p c.args.a c.args.b sides.first sides.second c.requires.node r hb c.equal_sides-sides.ensures.second_held) in
    let ready = g.R.Rewrite.stays_ready c.args.rewrite.now d d1 x c.requires.ready in
    let links = c.in_ok-one.ensures.remembered in
    λ κs h. (omega (arith, c.requires.second_below), (h, (ready, (links, place))))

pub walk_equal-returns-in_err-two-clause-grows : goal.walk_equal-returns-in_err-two-clause-grows
walk_equal-returns-in_err-two-clause-grows g t c = Extends_trans _ _ _ c.in_ok-one.ensures.grows c.in_err-two.ensures.grows

pub walk_equal-link_equal-requires-clause-left : goal.walk_equal-link_equal-requires-clause-left
walk_equal-link_equal-requires-clause-left g t c =
    let d = c.args.draft.now in
    let x = Extends_trans d c.walk_tree.new.draft c.walk_tree-2.new.draft c.in_ok-one.ensures.grows c.in_ok-two.ensures.grows in
    formula_later d c.walk_tree-2.new.draft x c.args.left
    (closed_formula d c.args.left (place_closed d c.args.env.now c.args.e c.args.left c.args.fresh c.requires.place) (place_sort d c.args.env.now c.args.e c.args.left c.args.fresh c.requires.place ∙ ap sort_of c.requires.node))

pub walk_equal-link_equal-requires-clause-first : goal.walk_equal-link_equal-requires-clause-first
walk_equal-link_equal-requires-clause-first g t c =
    let d = c.args.draft.now in
    let x = Extends_trans d c.walk_tree.new.draft c.walk_tree-2.new.draft c.in_ok-one.ensures.grows c.in_ok-two.ensures.grows in
    let env = c.args.env.now in
    let sides = c.equal_sides-sides.result in
    let p = c.requires.place in
    let r = c.equal_sides-sides.ensures.tree in
    let h : Holds d.trees c.args.a = omega (arith, c.requires.first_below, p.open_held) in
    closed_later d c.walk_tree-2.new.draft x sides.first
    (place_closed d env c.args.a sides.first c.args.fresh (equal_first_place d env c.args.e c.args.left c.args.fresh p c.args.a c.args.b sides.first sides.second c.requires.node r h c.equal_sides-sides.ensures.first_held))

pub walk_equal-link_equal-requires-clause-second : goal.walk_equal-link_equal-requires-clause-second
walk_equal-link_equal-requires-clause-second g t c =
    let d = c.args.draft.now in
    let x = Extends_trans d c.walk_tree.new.draft c.walk_tree-2.new.draft c.in_ok-one.ensures.grows c.in_ok-two.ensures.grows in
    let env = c.args.env.now in
    let sides = c.equal_sides-sides.result in
    let p = c.requires.place in
    let r = c.equal_sides-sides.ensures.tree in
    let h : Holds d.trees c.args.b = omega (arith, c.requires.second_below, p.open_held) in
    closed_later d c.walk_tree-2.new.draft x sides.second
    (place_closed d env c.args.b sides.second c.args.fresh (equal_second_place d env c.args.e c.args.left c.args.fresh p c.args.a c.args.b sides.first sides.second c.requires.node r h c.equal_sides-sides.ensures.second_held))

pub walk_equal-link_equal-requires-clause-one_right : goal.walk_equal-link_equal-requires-clause-one_right
walk_equal-link_equal-requires-clause-one_right g t c =
    let d1 = c.walk_tree.new.draft in
    let one = c.in_ok-one.one in
    closed_later d1 c.walk_tree-2.new.draft c.in_ok-two.ensures.grows one.right (place_closed d1 c.args.env.now one.image one.right c.args.fresh c.in_ok-one.ensures.link.place)

pub walk_equal-link_equal-requires-clause-two_right : goal.walk_equal-link_equal-requires-clause-two_right
walk_equal-link_equal-requires-clause-two_right g t c =
    let two = c.in_ok-two.two in
    place_closed c.walk_tree-2.new.draft c.args.env.now two.image two.right c.args.fresh c.in_ok-two.ensures.link.place

pub walk_equal-link_equal-requires-clause-one : goal.walk_equal-link_equal-requires-clause-one
walk_equal-link_equal-requires-clause-one g t c =
    let d = c.args.draft.now in
    let d1 = c.walk_tree.new.draft in
    let d2 = c.walk_tree-2.new.draft in
    let one = c.in_ok-one.one in
    let k = c.in_ok-one.ensures.link in
    let h = held_later d d1 c.in_ok-one.ensures.grows c.equal_sides-sides.result.first c.equal_sides-sides.ensures.first_held in
    let m = link_later d1 d2 c.in_ok-two.ensures.grows c.args.env.now c.equal_sides-sides.result.first c.args.fresh _ one h k in
    record { is = refl; place = m.place; sort = m.sort; type = m.type; shows = m.shows }

pub walk_equal-returns-clause-grows : goal.walk_equal-returns-clause-grows
walk_equal-returns-clause-grows g t c = Extends_trans _ _ _ (Extends_trans _ _ _ c.in_ok-one.ensures.grows c.in_ok-two.ensures.grows) c.link_equal.ensures.grows

pub walk_parts-returns-in-Bound-clause-link : goal.walk_parts-returns-in-Bound-clause-link
walk_parts-returns-in-Bound-clause-link g t c =
    let d = c.args.draft.now in
    let a = c.in-Bound.field-1 in
    let q : tree_at d.trees c.args.e ≡ One (HBound c.in-Bound.field-0) (tree_at d.trees a) = subst (λ (s : List Tree). tree_at s c.args.e ≡ One (HBound c.in-Bound.field-0) (tree_at s a)) c.store.ensures c.in-Bound.ensures.tree in
    bound_link (g.R.Rewrite.rule c.args.rewrite.now d.task) (g.R.Rewrite.others c.args.rewrite.now d.task) d c.args.env.now c.args.e c.args.left c.args.fresh c.requires.place c.in-Bound.field-0 (tree_at d.trees a) q

pub walk_parts-returns-in-Param-clause-link : goal.walk_parts-returns-in-Param-clause-link
walk_parts-returns-in-Param-clause-link g t c =
    let d = c.args.draft.now in
    let a = c.in-Param.field-1 in
    let q : tree_at d.trees c.args.e ≡ One (HParam c.in-Param.field-0) (tree_at d.trees a) = subst (λ (s : List Tree). tree_at s c.args.e ≡ One (HParam c.in-Param.field-0) (tree_at s a)) c.store.ensures c.in-Param.ensures.tree in
    param_link (g.R.Rewrite.rule c.args.rewrite.now d.task) (g.R.Rewrite.others c.args.rewrite.now d.task) d c.args.env.now c.args.e c.args.left c.args.fresh c.requires.place c.in-Param.field-0 (tree_at d.trees a) q

pub walk_symbol-walk_arguments-requires : goal.walk_symbol-walk_arguments-requires
walk_symbol-walk_arguments-requires g t c =
    let d = c.args.draft.now in
    let env = c.args.env.now in
    let n = c.args.fresh in
    let p = c.requires.place in
    let from = c.arguments_of-from.result in
    let q = c.arguments_of-from.ensures.tree _ (application_left d env c.args.e c.args.left c.args.arguments c.args.symbol n p c.requires.node) in
    let ha : Holds d.trees c.args.arguments = omega (arith, c.requires.below, p.open_held) in
    let places = application_places d env c.args.e c.args.left c.args.arguments c.args.symbol n p c.requires.node from ha c.arguments_of-from.ensures.held q in
    let links = c.requires.remembered in
    λ κs h. (omega (arith, c.requires.below), (h, (c.requires.ready, (links, ((places, (c.requires.symbol_held, ((λ k z l. absurd (omega (arith, l))), (place_closed d env c.args.e c.args.left n p, q)))))))))

pub walk_symbol-link_symbol-requires-clause-place : goal.walk_symbol-link_symbol-requires-clause-place
walk_symbol-link_symbol-requires-clause-place g t c = place_later c.args.draft.now c.walk_arguments.new.draft c.in_ok-made.ensures.grows c.args.env.now c.args.e c.args.left c.args.fresh c.requires.place

pub walk_symbol-link_symbol-requires-clause-symbol_held : goal.walk_symbol-link_symbol-requires-clause-symbol_held
walk_symbol-link_symbol-requires-clause-symbol_held g t c = symbol_later c.args.draft.now c.walk_arguments.new.draft c.in_ok-made.ensures.grows c.args.symbol c.requires.symbol_held

pub walk_symbol-link_symbol-requires-clause-e_is : goal.walk_symbol-link_symbol-requires-clause-e_is
walk_symbol-link_symbol-requires-clause-e_is g t c =
    let d = c.args.draft.now in
    let ha : Holds d.trees c.args.arguments = omega (arith, c.requires.below, c.requires.place.open_held) in
    application_later d c.walk_arguments.new.draft c.in_ok-made.ensures.grows c.args.symbol c.args.e c.args.arguments c.requires.symbol_held c.requires.place.open_held ha c.requires.node

pub walk_symbol-link_symbol-requires-clause-made : goal.walk_symbol-link_symbol-requires-clause-made
walk_symbol-link_symbol-requires-clause-made g t c = links_again c.walk_arguments.new.draft c.args.env.now c.args.symbol [] c.args.left c.args.fresh _ c.in_ok-made.made c.in_ok-made.ensures.links

pub walk_symbol-returns-clause-grows : goal.walk_symbol-returns-clause-grows
walk_symbol-returns-clause-grows g t c = Extends_trans _ _ _ c.in_ok-made.ensures.grows c.link_symbol.ensures.grows

pub walk_symbol-returns-clause-link : goal.walk_symbol-returns-clause-link
walk_symbol-returns-clause-link g t c =
    let d = c.args.draft.now in
    let d1 = c.walk_arguments.new.draft in
    let d2 = c.link_symbol.new.draft in
    let k = c.args.symbol in
    let rule : TaskTree → Tree → Tree = g.R.Rewrite.rule c.args.rewrite.now in
    let q : applied d1.trees k (tree_at d1.trees c.in_ok-made.made.image) ≡ over_images (rule d.task) (tree_at d.trees c.args.e) =
    applied_later d d1 c.in_ok-made.ensures.grows k c.requires.symbol_held (tree_at d1.trees c.in_ok-made.made.image) ∙ ap (applied d.trees k) c.in_ok-made.ensures.links.is
    ∙ sym (application_over d c.args.env.now c.args.e c.args.left c.args.arguments k c.args.fresh c.requires.place c.requires.node (rule d.task) (g.R.Rewrite.others c.args.rewrite.now d.task)) in
    subst (λ (z : Tree). IfOk c.link_symbol.result (IsLinkOf d2 c.args.env.now c.args.left c.args.fresh z)) q c.link_symbol.ensures.link

pub walk_let-walk_tree-requires : goal.walk_let-walk_tree-requires
walk_let-walk_tree-requires g t c =
    let d = c.args.draft.now in
    let p = c.requires.place in
    let parts = c.let_parts-parts.result in
    let hv : Holds d.trees c.args.value = omega (arith, c.requires.value_below, p.open_held) in
    let place = let_value_place d c.args.env.now c.args.e c.args.left c.args.fresh p c.args.value c.args.body parts.value parts.body c.requires.node c.let_parts-parts.ensures.tree hv c.let_parts-parts.ensures.value_held in
    let links = c.requires.remembered in
    λ κs h. (omega (arith, c.requires.value_below), (h, (c.requires.ready, (links, place))))

pub walk_let-open_let-requires-clause-left : goal.walk_let-open_let-requires-clause-left
walk_let-open_let-requires-clause-left g t c =
    let d = c.args.draft.now in
    closed_later d c.walk_tree.new.draft c.in_ok-one.ensures.grows c.args.left (place_closed d c.args.env.now c.args.e c.args.left c.args.fresh c.requires.place)

pub walk_let-open_let-requires-clause-left_is : goal.walk_let-open_let-requires-clause-left_is
walk_let-open_let-requires-clause-left_is g t c =
    let d = c.args.draft.now in
    let parts = c.let_parts-parts.result in
    let e = c.let_parts-parts.ensures in
    node_later d c.walk_tree.new.draft c.in_ok-one.ensures.grows HLet c.args.left parts.value parts.body c.requires.place.left_held e.value_held e.body_held e.tree

pub walk_let-open_let-requires-clause-pair : goal.walk_let-open_let-requires-clause-pair
walk_let-open_let-requires-clause-pair g t c =
    let d = c.args.draft.now in
    let d1 = c.walk_tree.new.draft in
    let p = c.requires.place in
    let parts = c.let_parts-parts.result in
    let hv : Holds d.trees c.args.value = omega (arith, c.requires.value_below, p.open_held) in
    let w = let_value_place d c.args.env.now c.args.e c.args.left c.args.fresh p c.args.value c.args.body parts.value parts.body c.requires.node c.let_parts-parts.ensures.tree hv c.let_parts-parts.ensures.value_held in
    one_pair d1 c.args.env.now parts.value c.args.fresh c.in_ok-one.one (closed_later d d1 c.in_ok-one.ensures.grows parts.value (place_closed d c.args.env.now c.args.value parts.value c.args.fresh w)) (link_again d1 c.args.env.now parts.value c.args.fresh _ c.in_ok-one.one c.in_ok-one.ensures.link)

pub walk_let-open_let-requires-clause-term : goal.walk_let-open_let-requires-clause-term
walk_let-open_let-requires-clause-term g t c =
    let d = c.args.draft.now in
    let p = c.requires.place in
    let parts = c.let_parts-parts.result in
    let e = c.let_parts-parts.ensures in
    let hv : Holds d.trees c.args.value = omega (arith, c.requires.value_below, p.open_held) in
    ap sort_of (tree_later d c.walk_tree.new.draft c.in_ok-one.ensures.grows parts.value e.value_held) ∙ let_value_term d c.args.env.now c.args.e c.args.left c.args.fresh p c.args.value c.args.body parts.value parts.body c.requires.node e.tree hv e.value_held

pub walk_let-open_let-requires-clause-shows : goal.walk_let-open_let-requires-clause-shows
walk_let-open_let-requires-clause-shows g t c = c.in_ok-one.ensures.link.shows

pub walk_let-walk_tree-requires-2 : goal.walk_let-walk_tree-requires-2
walk_let-walk_tree-requires-2 g t c =
    let d = c.args.draft.now in
    let d1 = c.walk_tree.new.draft in
    let d2 = c.open_let.new.draft in
    let x = c.in_ok-one.ensures.grows in
    let y = c.in_ok-opened.ensures.grows in
    let xy = Extends_trans d d1 d2 x y in
    let env = c.args.env.now in
    let n = c.args.fresh in
    let one = c.in_ok-one.one in
    let p = c.requires.place in
    let parts = c.let_parts-parts.result in
    let e = c.let_parts-parts.ensures in
    let inner = c.in_ok-opened.opened.inner in
    let hv : Holds d.trees c.args.value = omega (arith, c.requires.value_below, p.open_held) in
    let hb : Holds d.trees c.args.body = omega (arith, c.requires.body_below, p.open_held) in
    let k = link_again d2 env parts.value n _ one (link_later d1 d2 y env parts.value n _ one (held_later d d1 x parts.value e.value_held) c.in_ok-one.ensures.link) in
    let ei = c.in_ok-opened.ensures.inner_is ∙ sym (cc (tree_later d1 d2 y parts.body (held_later d d1 x parts.body e.body_held), tree_later d1 d2 y one.right c.in_ok-one.ensures.link.place.left_held)) in
    let m = let_body_place d2 env c.args.e c.args.left n (place_later d d2 xy env c.args.e c.args.left n p) c.args.value c.args.body parts.value parts.body (node_later d d2 xy HLet c.args.e c.args.value c.args.body p.open_held hv hb c.requires.node)
    (node_later d d2 xy HLet c.args.left parts.value parts.body p.left_held e.value_held e.body_held e.tree) (held_later d d2 xy c.args.value hv) (held_later d d2 xy parts.value e.value_held) (held_later d d2 xy c.args.body hb) one k inner c.in_ok-opened.ensures.pair.right.held ei in
    let longer : c.deref.result.now ≡ env ++ one.right ∷ [] = c.deref.ensures.value ∙ c.in_ok-longer.ensures in
    let place : IsInstanceAt d2 c.deref.result.now c.args.body inner n = subst (λ (z : List TermId). IsInstanceAt d2 z c.args.body inner n) (sym longer) m in
    let ready = g.R.Rewrite.stays_ready c.args.rewrite.now d d2 xy c.requires.ready in
    let links = remembered_later d1 d2 y (g.R.Rewrite.rule c.args.rewrite.now) c.walk_tree.new.links c.in_ok-one.ensures.remembered in
    λ κs h. (omega (arith, c.requires.body_below), (h, (ready, (links, place))))

pub walk_symbol-arguments_of-from-requires-clause-application : goal.walk_symbol-arguments_of-from-requires-clause-application
walk_symbol-arguments_of-from-requires-clause-application g t c =
    (_, application_left c.args.draft.now c.args.env.now c.args.e c.args.left c.args.arguments c.args.symbol c.args.fresh c.requires.place c.requires.node)

pub walk_arguments-walk_arguments-requires : goal.walk_arguments-walk_arguments-requires
walk_arguments-walk_arguments-requires g t c =
    let d = c.args.draft.now in
    let r = c.requires in
    let env = c.args.env.now in
    let n = c.args.fresh in
    let open' = c.in-Some.open in
    let some = c.in-Some.ensures in
    let parts = c.member_parts-parts.result in
    let m = c.member_parts-parts.ensures in
    let ho : Holds d.trees open'.others = omega (arith, some.others_below, r.places.open_held) in
    let places = list_others d env c.args.list c.args.from open'.first open'.others parts.first parts.others n r.places some.some m.tree ho m.others_held in
    let longer : c.deref.result.now ≡ c.args.before.now ++ parts.first ∷ [] = c.deref.ensures.value ∙ c.in_ok-longer-in-Some.ensures in
    let held : All (Holds d.trees) c.deref.result.now = subst (All (Holds d.trees)) (sym longer) (one_more_held d c.args.before.now parts.first r.before_held m.first_held) in
    let left_is : tree_at d.trees c.args.left ≡ applied d.trees c.args.symbol (listed (trees_at d.trees c.deref.result.now) (tree_at d.trees parts.others)) =
    subst (λ (z : List TermId). tree_at d.trees c.args.left ≡ applied d.trees c.args.symbol (listed (trees_at d.trees z) (tree_at d.trees parts.others))) (sym longer) (arguments_after d c.args.symbol c.args.before.now c.args.left c.args.from parts.first parts.others r.left_is m.tree) in
    let links = c.requires.remembered in
    λ κs h. (omega (arith, some.others_below), (h, (r.ready, (links, ((places, (r.symbol_held, (held, (r.left, left_is)))))))))

pub walk_arguments-walk_tree-requires : goal.walk_arguments-walk_tree-requires
walk_arguments-walk_tree-requires g t c =
    let d = c.args.draft.now in
    let d1 = c.walk_arguments.new.draft in
    let x = c.in_ok-after-in-Some.ensures.grows in
    let r = c.requires in
    let env = c.args.env.now in
    let n = c.args.fresh in
    let open' = c.in-Some.open in
    let some = c.in-Some.ensures in
    let parts = c.member_parts-parts.result in
    let m = c.member_parts-parts.ensures in
    let hf : Holds d.trees open'.first = omega (arith, some.first_below, r.places.open_held) in
    let place = place_later d d1 x env open'.first parts.first n (list_first d env c.args.list c.args.from open'.first open'.others parts.first parts.others n r.places some.some m.tree hf m.first_held) in
    let ready = g.R.Rewrite.stays_ready c.args.rewrite.now d d1 x r.ready in
    let links = c.in_ok-after-in-Some.ensures.remembered in
    λ κs h. (omega (arith, some.first_below), (h, (ready, (links, place))))

pub walk_arguments-returns-in_err-one-in-Some-clause-grows : goal.walk_arguments-returns-in_err-one-in-Some-clause-grows
walk_arguments-returns-in_err-one-in-Some-clause-grows g t c = Extends_trans _ _ _ c.in_ok-after-in-Some.ensures.grows c.in_err-one-in-Some.ensures.grows

pub walk_arguments-link_argument-requires-clause-symbol_held : goal.walk_arguments-link_argument-requires-clause-symbol_held
walk_arguments-link_argument-requires-clause-symbol_held g t c =
    symbol_later c.args.draft.now c.walk_tree.new.draft (Extends_trans _ c.walk_arguments.new.draft _ c.in_ok-after-in-Some.ensures.grows c.in_ok-one-in-Some.ensures.grows) c.args.symbol c.requires.symbol_held

pub walk_arguments-link_argument-requires-clause-first : goal.walk_arguments-link_argument-requires-clause-first
walk_arguments-link_argument-requires-clause-first g t c =
    let d = c.args.draft.now in
    let x = Extends_trans d c.walk_arguments.new.draft c.walk_tree.new.draft c.in_ok-after-in-Some.ensures.grows c.in_ok-one-in-Some.ensures.grows in
    let r = c.requires in
    let env = c.args.env.now in
    let n = c.args.fresh in
    let open' = c.in-Some.open in
    let some = c.in-Some.ensures in
    let parts = c.member_parts-parts.result in
    let m = c.member_parts-parts.ensures in
    let hf : Holds d.trees open'.first = omega (arith, some.first_below, r.places.open_held) in
    closed_later d c.walk_tree.new.draft x parts.first (place_closed d env open'.first parts.first n (list_first d env c.args.list c.args.from open'.first open'.others parts.first parts.others n r.places some.some m.tree hf m.first_held))

pub walk_arguments-link_argument-requires-clause-term : goal.walk_arguments-link_argument-requires-clause-term
walk_arguments-link_argument-requires-clause-term g t c =
    let d = c.args.draft.now in
    let x = Extends_trans d c.walk_arguments.new.draft c.walk_tree.new.draft c.in_ok-after-in-Some.ensures.grows c.in_ok-one-in-Some.ensures.grows in
    let r = c.requires in
    let open' = c.in-Some.open in
    let some = c.in-Some.ensures in
    let parts = c.member_parts-parts.result in
    let m = c.member_parts-parts.ensures in
    let hf : Holds d.trees open'.first = omega (arith, some.first_below, r.places.open_held) in
    ap sort_of (tree_later d c.walk_tree.new.draft x parts.first m.first_held) ∙ list_first_term d c.args.env.now c.args.list c.args.from open'.first open'.others parts.first parts.others c.args.fresh r.places some.some m.tree hf m.first_held

pub walk_arguments-link_argument-requires-clause-one : goal.walk_arguments-link_argument-requires-clause-one
walk_arguments-link_argument-requires-clause-one g t c = link_again c.walk_tree.new.draft c.args.env.now c.member_parts-parts.result.first c.args.fresh _ c.in_ok-one-in-Some.one c.in_ok-one-in-Some.ensures.link

pub walk_arguments-link_argument-requires-clause-after : goal.walk_arguments-link_argument-requires-clause-after
walk_arguments-link_argument-requires-clause-after g t c =
    let d = c.args.draft.now in
    let d1 = c.walk_arguments.new.draft in
    let d2 = c.walk_tree.new.draft in
    let x = c.in_ok-after-in-Some.ensures.grows in
    let y = c.in_ok-one-in-Some.ensures.grows in
    let r = c.requires in
    let env = c.args.env.now in
    let n = c.args.fresh in
    let parts = c.member_parts-parts.result in
    let m = c.member_parts-parts.ensures in
    let before = c.args.before.now ++ parts.first ∷ [] in
    let longer : c.deref.result.now ≡ before = c.deref.ensures.value ∙ c.in_ok-longer-in-Some.ensures in
    let held : All (Holds d1.trees) before = all_later d d1 x before (one_more_held d c.args.before.now parts.first r.before_held m.first_held) in
    let rule : TaskTree → Tree → Tree = g.R.Rewrite.rule c.args.rewrite.now in
    let w = subst (λ (z : List TermId). AreLinksOf d1 env c.args.symbol z c.args.left n (image (rule d.task) (tree_at d.trees c.in-Some.open.others)) c.in_ok-after-in-Some.after) longer c.in_ok-after-in-Some.ensures.links in
    links_again d2 env c.args.symbol before c.args.left n _ c.in_ok-after-in-Some.after (links_later d1 d2 y env c.args.symbol before c.args.left n _ c.in_ok-after-in-Some.after (symbol_later d d1 x c.args.symbol r.symbol_held) held w)

pub walk_arguments-returns-in_ok-one-in-Some-clause-grows : goal.walk_arguments-returns-in_ok-one-in-Some-clause-grows
walk_arguments-returns-in_ok-one-in-Some-clause-grows g t c = Extends_trans _ _ _ (Extends_trans _ _ _ c.in_ok-after-in-Some.ensures.grows c.in_ok-one-in-Some.ensures.grows) c.link_argument.ensures.grows

pub walk_arguments-returns-in_ok-one-in-Some-clause-links : goal.walk_arguments-returns-in_ok-one-in-Some-clause-links
walk_arguments-returns-in_ok-one-in-Some-clause-links g t c =
    let d = c.args.draft.now in
    let d1 = c.walk_arguments.new.draft in
    let d2 = c.walk_tree.new.draft in
    let d3 = c.link_argument.new.draft in
    let x = c.in_ok-after-in-Some.ensures.grows in
    let y = c.in_ok-one-in-Some.ensures.grows in
    let r = c.requires in
    let open' = c.in-Some.open in
    let some = c.in-Some.ensures in
    let rule : TaskTree → Tree → Tree = g.R.Rewrite.rule c.args.rewrite.now in
    let hf : Holds d.trees open'.first = omega (arith, some.first_below, r.places.open_held) in
    let after = c.in_ok-after-in-Some.after in
    let one = c.in_ok-one-in-Some.one in
    let qb : tree_at d2.trees after.image ≡ image (rule d.task) (tree_at d.trees open'.others) = tree_later d1 d2 y after.image c.in_ok-after-in-Some.ensures.links.places.open_held ∙ c.in_ok-after-in-Some.ensures.links.is in
    let qa : tree_at d2.trees one.image ≡ image (rule d.task) (tree_at d.trees open'.first) =
    c.in_ok-one-in-Some.ensures.link.is ∙ ap (λ (s : TaskTree). image (rule s) (tree_at d1.trees open'.first)) x.task ∙ ap (image (rule d.task)) (tree_later d d1 x open'.first hf) in
    let q = cell_image (rule d.task) (g.R.Rewrite.others c.args.rewrite.now d.task) (tree_at d.trees c.args.list) (tree_at d.trees open'.first) (tree_at d.trees open'.others) (tree_at d2.trees one.image) (tree_at d2.trees after.image) some.some qa qb in
    subst (λ (z : Tree). IfOk c.link_argument.result (AreLinksOf d3 c.args.env.now c.args.symbol c.args.before.now c.args.left c.args.fresh z)) q c.link_argument.ensures.links

pub walk_arguments-returns-in-None-clause-links : goal.walk_arguments-returns-in-None-clause-links
walk_arguments-returns-in-None-clause-links g t c =
    let d = c.args.draft.now in
    let rule : TaskTree → Tree → Tree = g.R.Rewrite.rule c.args.rewrite.now in
    no_arguments d c.args.env.now c.args.symbol c.args.before.now c.args.left c.args.list c.args.from c.args.fresh (rule d.task) (g.R.Rewrite.others c.args.rewrite.now d.task) c.requires.places c.requires.left c.requires.left_is (c.in-None.ensures.none refl)

pub walk_let-returns-in_err-opened-clause-grows : goal.walk_let-returns-in_err-opened-clause-grows
walk_let-returns-in_err-opened-clause-grows g t c = Extends_trans _ _ _ c.in_ok-one.ensures.grows c.in_err-opened.ensures.grows

pub walk_let-returns-in_err-longer-clause-grows : goal.walk_let-returns-in_err-longer-clause-grows
walk_let-returns-in_err-longer-clause-grows g t c = Extends_trans _ _ _ c.in_ok-one.ensures.grows c.in_ok-opened.ensures.grows

pub walk_let-returns-in_err-part-clause-grows : goal.walk_let-returns-in_err-part-clause-grows
walk_let-returns-in_err-part-clause-grows g t c = Extends_trans _ _ _ (Extends_trans _ _ _ c.in_ok-one.ensures.grows c.in_ok-opened.ensures.grows) c.in_err-part.ensures.grows

pub walk_let-returns-clause-grows : goal.walk_let-returns-clause-grows
walk_let-returns-clause-grows g t c = Extends_trans _ _ _ (Extends_trans _ _ _ (Extends_trans _ _ _ c.in_ok-one.ensures.grows c.in_ok-opened.ensures.grows) c.in_ok-part.ensures.grows) c.link_let.ensures.grows

pub walk_let-link_let-requires-clause-pair : goal.walk_let-link_let-requires-clause-pair
walk_let-link_let-requires-clause-pair g t c = pair_later c.open_let.new.draft c.walk_tree-2.new.draft c.in_ok-part.ensures.grows c.args.left c.in_ok-opened.opened.inner c.in_ok-opened.ensures.pair

pub walk_let-link_let-requires-clause-shows : goal.walk_let-link_let-requires-clause-shows
walk_let-link_let-requires-clause-shows g t c =
    let d1 = c.walk_tree.new.draft in
    let d2 = c.open_let.new.draft in
    let d3 = c.walk_tree-2.new.draft in
    let y = c.in_ok-opened.ensures.grows in
    let z = c.in_ok-part.ensures.grows in
    let p = c.in_ok-opened.ensures.pair in
    let left = c.args.left in
    let o = c.in_ok-opened.opened in
    let hl = held_later c.args.draft.now d1 c.in_ok-one.ensures.grows left c.requires.place.left_held in
    let s = subst (λ (u : Tree). Shows d2 o.alike u (tree_at d2.trees o.inner)) (sym (tree_later d1 d2 y left hl)) c.in_ok-opened.ensures.shows in
    shows_at d2 d3 z o.alike left o.inner p.left.held p.right.held s

pub walk_let-link_let-requires-clause-value_held : goal.walk_let-link_let-requires-clause-value_held
walk_let-link_let-requires-clause-value_held g t c =
    let d = c.args.draft.now in
    let x = Extends_trans d c.open_let.new.draft c.walk_tree-2.new.draft (Extends_trans d c.walk_tree.new.draft c.open_let.new.draft c.in_ok-one.ensures.grows c.in_ok-opened.ensures.grows) c.in_ok-part.ensures.grows in
    held_later d c.walk_tree-2.new.draft x c.let_parts-parts.result.value c.let_parts-parts.ensures.value_held

pub walk_let-link_let-requires-clause-one : goal.walk_let-link_let-requires-clause-one
walk_let-link_let-requires-clause-one g t c =
    let d = c.args.draft.now in
    let d1 = c.walk_tree.new.draft in
    let d2 = c.open_let.new.draft in
    let d3 = c.walk_tree-2.new.draft in
    let yz = Extends_trans d1 d2 d3 c.in_ok-opened.ensures.grows c.in_ok-part.ensures.grows in
    let parts = c.let_parts-parts.result in
    let h = held_later d d1 c.in_ok-one.ensures.grows parts.value c.let_parts-parts.ensures.value_held in
    link_again d3 c.args.env.now parts.value c.args.fresh _ c.in_ok-one.one (link_later d1 d3 yz c.args.env.now parts.value c.args.fresh _ c.in_ok-one.one h c.in_ok-one.ensures.link)

pub walk_let-link_let-requires-clause-term : goal.walk_let-link_let-requires-clause-term
walk_let-link_let-requires-clause-term g t c =
    let d = c.args.draft.now in
    let d3 = c.walk_tree-2.new.draft in
    let x = Extends_trans d c.open_let.new.draft d3 (Extends_trans d c.walk_tree.new.draft c.open_let.new.draft c.in_ok-one.ensures.grows c.in_ok-opened.ensures.grows) c.in_ok-part.ensures.grows in
    let p = c.requires.place in
    let parts = c.let_parts-parts.result in
    let e = c.let_parts-parts.ensures in
    let hv : Holds d.trees c.args.value = omega (arith, c.requires.value_below, p.open_held) in
    ap sort_of (tree_later d d3 x parts.value e.value_held) ∙ let_value_term d c.args.env.now c.args.e c.args.left c.args.fresh p c.args.value c.args.body parts.value parts.body c.requires.node e.tree hv e.value_held

pub walk_let-link_let-requires-clause-part : goal.walk_let-link_let-requires-clause-part
walk_let-link_let-requires-clause-part g t c =
    let d3 = c.walk_tree-2.new.draft in
    let n = c.args.fresh in
    let longer : c.deref.result.now ≡ c.args.env.now ++ c.in_ok-one.one.right ∷ [] = c.deref.ensures.value ∙ c.in_ok-longer.ensures in
    let d2 = c.open_let.new.draft in
    let rule : TaskTree → Tree → Tree = g.R.Rewrite.rule c.args.rewrite.now in
    let k = subst (λ (z : List TermId). IsLinkOf d3 z c.in_ok-opened.opened.inner n (image (rule d2.task) (tree_at d2.trees c.args.body)) c.in_ok-part.part) longer c.in_ok-part.ensures.link in
    link_again d3 (c.args.env.now ++ c.in_ok-one.one.right ∷ []) c.in_ok-opened.opened.inner n _ c.in_ok-part.part k

pub walk_let-returns-clause-link : goal.walk_let-returns-clause-link
walk_let-returns-clause-link g t c =
    let d = c.args.draft.now in
    let d1 = c.walk_tree.new.draft in
    let d2 = c.open_let.new.draft in
    let d3 = c.walk_tree-2.new.draft in
    let d4 = c.link_let.new.draft in
    let x = c.in_ok-one.ensures.grows in
    let xy = Extends_trans d d1 d2 x c.in_ok-opened.ensures.grows in
    let yz = Extends_trans d1 d2 d3 c.in_ok-opened.ensures.grows c.in_ok-part.ensures.grows in
    let p = c.requires.place in
    let hb : Holds d.trees c.args.body = omega (arith, c.requires.body_below, p.open_held) in
    let rule : TaskTree → Tree → Tree = g.R.Rewrite.rule c.args.rewrite.now in
    let one = c.in_ok-one.one in
    let part = c.in_ok-part.part in
    let a : tree_at d3.trees one.image ≡ image (rule d.task) (tree_at d.trees c.args.value) = tree_later d1 d3 yz one.image c.in_ok-one.ensures.link.place.open_held ∙ c.in_ok-one.ensures.link.is in
    let b : tree_at d3.trees part.image ≡ image (rule d.task) (tree_at d.trees c.args.body) =
    c.in_ok-part.ensures.link.is ∙ ap (λ (s : TaskTree). image (rule s) (tree_at d2.trees c.args.body)) xy.task ∙ ap (image (rule d.task)) (tree_later d d2 xy c.args.body hb) in
    let q : Two HLet (tree_at d3.trees one.image) (tree_at d3.trees part.image) ≡ over_images (rule d.task) (tree_at d.trees c.args.e) = cc (a, b) ∙ ap (over_images (rule d.task)) (sym c.requires.node) in
    subst (λ (z : Tree). IfOk c.link_let.result (IsLinkOf d4 c.args.env.now c.args.left c.args.fresh z)) q c.link_let.ensures.link

pub walk_if-walk_tree-requires : goal.walk_if-walk_tree-requires
walk_if-walk_tree-requires g t c =
    let d = c.args.draft.now in
    let r = c.requires in
    let s = c.if_of-parts.result in
    let e = c.if_of-parts.ensures in
    let h1 : Holds d.trees c.args.condition = omega (arith, r.condition_below, r.place.open_held) in
    let place = if_first d c.args.env.now c.args.e c.args.left c.args.fresh r.place c.args.condition c.args.then_part c.args.else_part s.condition s.then_part s.else_part r.node e.tree h1 e.condition_held in
    let links = c.requires.remembered in
    λ κs h. (omega (arith, r.condition_below), (h, (r.ready, (links, place))))

pub walk_if-walk_tree-requires-2 : goal.walk_if-walk_tree-requires-2
walk_if-walk_tree-requires-2 g t c =
    let d = c.args.draft.now in
    let d1 = c.walk_tree.new.draft in
    let x = c.in_ok-one.ensures.grows in
    let r = c.requires in
    let s = c.if_of-parts.result in
    let e = c.if_of-parts.ensures in
    let h2 : Holds d.trees c.args.then_part = omega (arith, r.then_below, r.place.open_held) in
    let place = place_later d d1 x c.args.env.now c.args.then_part s.then_part c.args.fresh (if_second d c.args.env.now c.args.e c.args.left c.args.fresh r.place c.args.condition c.args.then_part c.args.else_part s.condition s.then_part s.else_part r.node e.tree h2 e.then_held) in
    let ready = g.R.Rewrite.stays_ready c.args.rewrite.now d d1 x r.ready in
    let links = c.in_ok-one.ensures.remembered in
    λ κs h. (omega (arith, r.then_below), (h, (ready, (links, place))))

pub walk_if-walk_tree-requires-3 : goal.walk_if-walk_tree-requires-3
walk_if-walk_tree-requires-3 g t c =
    let d = c.args.draft.now in
    let d1 = c.walk_tree.new.draft in
    let d2 = c.walk_tree-2.new.draft in
    let x = Extends_trans d d1 d2 c.in_ok-one.ensures.grows c.in_ok-two.ensures.grows in
    let r = c.requires in
    let s = c.if_of-parts.result in
    let e = c.if_of-parts.ensures in
    let h3 : Holds d.trees c.args.else_part = omega (arith, r.else_below, r.place.open_held) in
    let place = place_later d d2 x c.args.env.now c.args.else_part s.else_part c.args.fresh (if_third d c.args.env.now c.args.e c.args.left c.args.fresh r.place c.args.condition c.args.then_part c.args.else_part s.condition s.then_part s.else_part r.node e.tree h3 e.else_held) in
    let ready = g.R.Rewrite.stays_ready c.args.rewrite.now d d2 x r.ready in
    let links = c.in_ok-two.ensures.remembered in
    λ κs h. (omega (arith, r.else_below), (h, (ready, (links, place))))

pub walk_if-returns-in_err-two-clause-grows : goal.walk_if-returns-in_err-two-clause-grows
walk_if-returns-in_err-two-clause-grows g t c = Extends_trans _ _ _ c.in_ok-one.ensures.grows c.in_err-two.ensures.grows

pub walk_if-returns-in_err-three-clause-grows : goal.walk_if-returns-in_err-three-clause-grows
walk_if-returns-in_err-three-clause-grows g t c = Extends_trans _ _ _ (Extends_trans _ _ _ c.in_ok-one.ensures.grows c.in_ok-two.ensures.grows) c.in_err-three.ensures.grows

pub walk_if-returns-clause-grows : goal.walk_if-returns-clause-grows
walk_if-returns-clause-grows g t c = Extends_trans _ _ _ (Extends_trans _ _ _ (Extends_trans _ _ _ c.in_ok-one.ensures.grows c.in_ok-two.ensures.grows) c.in_ok-three.ensures.grows) c.link_if.ensures.grows

pub walk_if-link_if-requires-clause-left : goal.walk_if-link_if-requires-clause-left
walk_if-link_if-requires-clause-left g t c =
    let d = c.args.draft.now in
    let d1 = c.walk_tree.new.draft in
    let d2 = c.walk_tree-2.new.draft in
    let d3 = c.walk_tree-3.new.draft in
    let x = c.in_ok-one.ensures.grows in
    let y = c.in_ok-two.ensures.grows in
    let z = c.in_ok-three.ensures.grows in
    let all = Extends_trans d d2 d3 (Extends_trans d d1 d2 x y) z in
    let r = c.requires in
    let e = c.if_of-parts.ensures in
    subst (IsClosedAt d3) (sym e.whole) (closed_later d d3 all c.args.left (place_closed d c.args.env.now c.args.e c.args.left c.args.fresh r.place))

pub walk_if-link_if-requires-clause-left_is : goal.walk_if-link_if-requires-clause-left_is
walk_if-link_if-requires-clause-left_is g t c =
    let d = c.args.draft.now in
    let d1 = c.walk_tree.new.draft in
    let d2 = c.walk_tree-2.new.draft in
    let d3 = c.walk_tree-3.new.draft in
    let x = c.in_ok-one.ensures.grows in
    let y = c.in_ok-two.ensures.grows in
    let z = c.in_ok-three.ensures.grows in
    let all = Extends_trans d d2 d3 (Extends_trans d d1 d2 x y) z in
    let r = c.requires in
    let s = c.if_of-parts.result in
    let e = c.if_of-parts.ensures in
    subst (λ (id : TermId). tree_at d3.trees id ≡ Three HIf (tree_at d3.trees s.condition) (tree_at d3.trees s.then_part) (tree_at d3.trees s.else_part)) (sym e.whole)
    (if_later d d3 all c.args.left s.condition s.then_part s.else_part r.place.left_held e.condition_held e.then_held e.else_held e.tree)

pub walk_if-link_if-requires-clause-condition_held : goal.walk_if-link_if-requires-clause-condition_held
walk_if-link_if-requires-clause-condition_held g t c =
    let d = c.args.draft.now in
    let d1 = c.walk_tree.new.draft in
    let d2 = c.walk_tree-2.new.draft in
    let d3 = c.walk_tree-3.new.draft in
    let x = c.in_ok-one.ensures.grows in
    let y = c.in_ok-two.ensures.grows in
    let z = c.in_ok-three.ensures.grows in
    let all = Extends_trans d d2 d3 (Extends_trans d d1 d2 x y) z in
    let s = c.if_of-parts.result in
    let e = c.if_of-parts.ensures in
    held_later d d3 all s.condition e.condition_held

pub walk_if-link_if-requires-clause-then_held : goal.walk_if-link_if-requires-clause-then_held
walk_if-link_if-requires-clause-then_held g t c =
    let d = c.args.draft.now in
    let d1 = c.walk_tree.new.draft in
    let d2 = c.walk_tree-2.new.draft in
    let d3 = c.walk_tree-3.new.draft in
    let x = c.in_ok-one.ensures.grows in
    let y = c.in_ok-two.ensures.grows in
    let z = c.in_ok-three.ensures.grows in
    let all = Extends_trans d d2 d3 (Extends_trans d d1 d2 x y) z in
    let s = c.if_of-parts.result in
    let e = c.if_of-parts.ensures in
    held_later d d3 all s.then_part e.then_held

pub walk_if-link_if-requires-clause-else_held : goal.walk_if-link_if-requires-clause-else_held
walk_if-link_if-requires-clause-else_held g t c =
    let d = c.args.draft.now in
    let d1 = c.walk_tree.new.draft in
    let d2 = c.walk_tree-2.new.draft in
    let d3 = c.walk_tree-3.new.draft in
    let x = c.in_ok-one.ensures.grows in
    let y = c.in_ok-two.ensures.grows in
    let z = c.in_ok-three.ensures.grows in
    let all = Extends_trans d d2 d3 (Extends_trans d d1 d2 x y) z in
    let s = c.if_of-parts.result in
    let e = c.if_of-parts.ensures in
    held_later d d3 all s.else_part e.else_held

pub walk_if-link_if-requires-clause-one : goal.walk_if-link_if-requires-clause-one
walk_if-link_if-requires-clause-one g t c =
    let d = c.args.draft.now in
    let d1 = c.walk_tree.new.draft in
    let d2 = c.walk_tree-2.new.draft in
    let d3 = c.walk_tree-3.new.draft in
    let x = c.in_ok-one.ensures.grows in
    let y = c.in_ok-two.ensures.grows in
    let z = c.in_ok-three.ensures.grows in
    let s = c.if_of-parts.result in
    let e = c.if_of-parts.ensures in
    link_again d3 c.args.env.now s.condition c.args.fresh _ c.in_ok-one.one (link_later d1 d3 (Extends_trans d1 d2 d3 y z) c.args.env.now s.condition c.args.fresh _ c.in_ok-one.one (held_later d d1 x s.condition e.condition_held) c.in_ok-one.ensures.link)

pub walk_if-link_if-requires-clause-two : goal.walk_if-link_if-requires-clause-two
walk_if-link_if-requires-clause-two g t c =
    let d = c.args.draft.now in
    let d1 = c.walk_tree.new.draft in
    let d2 = c.walk_tree-2.new.draft in
    let d3 = c.walk_tree-3.new.draft in
    let x = c.in_ok-one.ensures.grows in
    let y = c.in_ok-two.ensures.grows in
    let z = c.in_ok-three.ensures.grows in
    let s = c.if_of-parts.result in
    let e = c.if_of-parts.ensures in
    link_again d3 c.args.env.now s.then_part c.args.fresh _ c.in_ok-two.two (link_later d2 d3 z c.args.env.now s.then_part c.args.fresh _ c.in_ok-two.two (held_later d d2 (Extends_trans d d1 d2 x y) s.then_part e.then_held) c.in_ok-two.ensures.link)

pub walk_if-link_if-requires-clause-three : goal.walk_if-link_if-requires-clause-three
walk_if-link_if-requires-clause-three g t c = link_again c.walk_tree-3.new.draft c.args.env.now c.if_of-parts.result.else_part c.args.fresh _ c.in_ok-three.three c.in_ok-three.ensures.link

pub walk_if-returns-clause-link : goal.walk_if-returns-clause-link
walk_if-returns-clause-link g t c =
    let d = c.args.draft.now in
    let d1 = c.walk_tree.new.draft in
    let d2 = c.walk_tree-2.new.draft in
    let d3 = c.walk_tree-3.new.draft in
    let x = c.in_ok-one.ensures.grows in
    let y = c.in_ok-two.ensures.grows in
    let z = c.in_ok-three.ensures.grows in
    let all = Extends_trans d d2 d3 (Extends_trans d d1 d2 x y) z in
    let r = c.requires in
    let s = c.if_of-parts.result in
    let e = c.if_of-parts.ensures in
    let d4 = c.link_if.new.draft in
    let rule : TaskTree → Tree → Tree = g.R.Rewrite.rule c.args.rewrite.now in
    let h2 : Holds d.trees c.args.then_part = omega (arith, r.then_below, r.place.open_held) in
    let h3 : Holds d.trees c.args.else_part = omega (arith, r.else_below, r.place.open_held) in
    let one = c.in_ok-one.one in
    let two = c.in_ok-two.two in
    let three = c.in_ok-three.three in
    let a : tree_at d3.trees one.image ≡ image (rule d.task) (tree_at d.trees c.args.condition) = tree_later d1 d3 (Extends_trans d1 d2 d3 y z) one.image c.in_ok-one.ensures.link.place.open_held ∙ c.in_ok-one.ensures.link.is in
    let b : tree_at d3.trees two.image ≡ image (rule d.task) (tree_at d.trees c.args.then_part) =
    tree_later d2 d3 z two.image c.in_ok-two.ensures.link.place.open_held ∙ c.in_ok-two.ensures.link.is ∙ ap (λ (u : TaskTree). image (rule u) (tree_at d1.trees c.args.then_part)) x.task ∙ ap (image (rule d.task)) (tree_later d d1 x c.args.then_part h2) in
    let xy = Extends_trans d d1 d2 x y in
    let k : tree_at d3.trees three.image ≡ image (rule d.task) (tree_at d.trees c.args.else_part) =
    c.in_ok-three.ensures.link.is ∙ ap (λ (u : TaskTree). image (rule u) (tree_at d2.trees c.args.else_part)) xy.task ∙ ap (image (rule d.task)) (tree_later d d2 xy c.args.else_part h3) in
    let q : Three HIf (tree_at d3.trees one.image) (tree_at d3.trees two.image) (tree_at d3.trees three.image) ≡ over_images (rule d.task) (tree_at d.trees c.args.e) = cc (a, b, k) ∙ ap (over_images (rule d.task)) (sym r.node) in
    subst (λ (u : Tree). IfOk c.link_if.result (IsLinkOf d4 c.args.env.now c.args.left c.args.fresh u)) q
    (subst (λ (id : TermId). IfOk c.link_if.result (IsLinkOf d4 c.args.env.now id c.args.fresh (Three HIf (tree_at d3.trees one.image) (tree_at d3.trees two.image) (tree_at d3.trees three.image)))) e.whole c.link_if.ensures.link)

pub walk_parts-unreachable-requires : goal.walk_parts-unreachable-requires
walk_parts-unreachable-requires g t c =
    let s = c.store.result.now in
    let n = c.in_default in
    let k : IsExpression (sort_of (tree_at s c.args.e)) = subst (λ (z : List Tree). IsExpression (sort_of (tree_at z c.args.e))) (sym c.store.ensures) c.requires.place.sort in
    part_node s c.node.result (subst (λ (z : Tree). IsExpression (sort_of z)) c.node.ensures.tree k) n.not-Not n.not-Join n.not-Forall n.not-Exists n.not-Eq n.not-Fun n.not-Pred n.not-Let n.not-If n.not-Bound n.not-Param n.not-Num n.not-True n.not-False n.not-Case

pub walk_case-case_parts-parts-requires-clause-case_node : goal.walk_case-case_parts-parts-requires-clause-case_node
walk_case-case_parts-parts-requires-clause-case_node g t c = (_, (_, c.requires.place.at.is ∙ ap (λ (z : Tree). inst_many z (trees_at c.args.draft.now.trees c.args.env.now)) c.requires.node))

pub walk_case-walk_tree-requires : goal.walk_case-walk_tree-requires
walk_case-walk_tree-requires g t c =
    let d = c.args.draft.now in
    let env = c.args.env.now in
    let n = c.args.fresh in
    let p = c.requires.place in
    let a = c.args.scrutinee in
    let b = c.args.arms in
    let s = c.case_parts-parts.result in
    let e = c.case_parts-parts.ensures in
    let ha : Holds d.trees a = omega (arith, c.requires.scrutinee_below, p.open_held) in
    let hb : Holds d.trees b = omega (arith, c.requires.arms_below, p.open_held) in
    let place = case_scrutinee d env c.args.e c.args.left n p a b s.scrutinee s.arms c.requires.node e.tree ha e.scrutinee_held in
    let links = c.requires.remembered in
    λ κs h. (omega (arith, c.requires.scrutinee_below), (h, (c.requires.ready, (links, place))))

pub walk_case-mix_case-requires-clause-place : goal.walk_case-mix_case-requires-clause-place
walk_case-mix_case-requires-clause-place g t c = place_later c.args.draft.now c.walk_tree.new.draft c.in_ok-one.ensures.grows c.args.env.now c.args.e c.args.left c.args.fresh c.requires.place

pub walk_case-mix_case-requires-clause-node : goal.walk_case-mix_case-requires-clause-node
walk_case-mix_case-requires-clause-node g t c =
    let d = c.args.draft.now in
    let env = c.args.env.now in
    let n = c.args.fresh in
    let p = c.requires.place in
    let a = c.args.scrutinee in
    let b = c.args.arms in
    let s = c.case_parts-parts.result in
    let e = c.case_parts-parts.ensures in
    let ha : Holds d.trees a = omega (arith, c.requires.scrutinee_below, p.open_held) in
    let hb : Holds d.trees b = omega (arith, c.requires.arms_below, p.open_held) in
    node_later d c.walk_tree.new.draft c.in_ok-one.ensures.grows HCase c.args.e a b p.open_held ha hb c.requires.node

pub walk_case-mix_case-requires-clause-left_is : goal.walk_case-mix_case-requires-clause-left_is
walk_case-mix_case-requires-clause-left_is g t c =
    let d = c.args.draft.now in
    let p = c.requires.place in
    let s = c.case_parts-parts.result in
    let e = c.case_parts-parts.ensures in
    node_later d c.walk_tree.new.draft c.in_ok-one.ensures.grows HCase c.args.left s.scrutinee s.arms p.left_held e.scrutinee_held e.arms_held e.tree

pub walk_case-mix_case-requires-clause-open_held : goal.walk_case-mix_case-requires-clause-open_held
walk_case-mix_case-requires-clause-open_held g t c =
    let d = c.args.draft.now in
    let env = c.args.env.now in
    let n = c.args.fresh in
    let p = c.requires.place in
    let a = c.args.scrutinee in
    let b = c.args.arms in
    let s = c.case_parts-parts.result in
    let e = c.case_parts-parts.ensures in
    let ha : Holds d.trees a = omega (arith, c.requires.scrutinee_below, p.open_held) in
    held_later d c.walk_tree.new.draft c.in_ok-one.ensures.grows a ha

pub walk_case-mix_case-requires-clause-open_arms_held : goal.walk_case-mix_case-requires-clause-open_arms_held
walk_case-mix_case-requires-clause-open_arms_held g t c =
    let d = c.args.draft.now in
    let env = c.args.env.now in
    let n = c.args.fresh in
    let p = c.requires.place in
    let a = c.args.scrutinee in
    let b = c.args.arms in
    let s = c.case_parts-parts.result in
    let e = c.case_parts-parts.ensures in
    let ha : Holds d.trees a = omega (arith, c.requires.scrutinee_below, p.open_held) in
    let hb : Holds d.trees b = omega (arith, c.requires.arms_below, p.open_held) in
    held_later d c.walk_tree.new.draft c.in_ok-one.ensures.grows b hb

pub walk_case-mix_case-requires-clause-arms_held : goal.walk_case-mix_case-requires-clause-arms_held
walk_case-mix_case-requires-clause-arms_held g t c =
    let d = c.args.draft.now in
    let s = c.case_parts-parts.result in
    let e = c.case_parts-parts.ensures in
    held_later d c.walk_tree.new.draft c.in_ok-one.ensures.grows s.arms e.arms_held

pub walk_case-mix_case-requires-clause-pair : goal.walk_case-mix_case-requires-clause-pair
walk_case-mix_case-requires-clause-pair g t c =
    let d = c.args.draft.now in
    let env = c.args.env.now in
    let n = c.args.fresh in
    let p = c.requires.place in
    let a = c.args.scrutinee in
    let b = c.args.arms in
    let s = c.case_parts-parts.result in
    let e = c.case_parts-parts.ensures in
    let ha : Holds d.trees a = omega (arith, c.requires.scrutinee_below, p.open_held) in
    let d1 = c.walk_tree.new.draft in
    let w = case_scrutinee d env c.args.e c.args.left n p a b s.scrutinee s.arms c.requires.node e.tree ha e.scrutinee_held in
    one_pair d1 env s.scrutinee n c.in_ok-one.one (closed_later d d1 c.in_ok-one.ensures.grows s.scrutinee (place_closed d env a s.scrutinee n w)) (link_again d1 env s.scrutinee n _ c.in_ok-one.one c.in_ok-one.ensures.link)

pub walk_case-mix_case-requires-clause-term : goal.walk_case-mix_case-requires-clause-term
walk_case-mix_case-requires-clause-term g t c =
    let d = c.args.draft.now in
    let env = c.args.env.now in
    let n = c.args.fresh in
    let p = c.requires.place in
    let a = c.args.scrutinee in
    let b = c.args.arms in
    let s = c.case_parts-parts.result in
    let e = c.case_parts-parts.ensures in
    let ha : Holds d.trees a = omega (arith, c.requires.scrutinee_below, p.open_held) in
    ap sort_of (tree_later d c.walk_tree.new.draft c.in_ok-one.ensures.grows s.scrutinee e.scrutinee_held) ∙ case_term d env c.args.e c.args.left n p a b s.scrutinee s.arms c.requires.node e.tree ha e.scrutinee_held

pub walk_case-mix_case-requires-clause-one : goal.walk_case-mix_case-requires-clause-one
walk_case-mix_case-requires-clause-one g t c = link_again c.walk_tree.new.draft c.args.env.now c.case_parts-parts.result.scrutinee c.args.fresh _ c.in_ok-one.one c.in_ok-one.ensures.link

pub walk_case-walk_arms-requires : goal.walk_case-walk_arms-requires
walk_case-walk_arms-requires g t c =
    let d = c.args.draft.now in
    let env = c.args.env.now in
    let n = c.args.fresh in
    let p = c.requires.place in
    let a = c.args.scrutinee in
    let b = c.args.arms in
    let s = c.case_parts-parts.result in
    let e = c.case_parts-parts.ensures in
    let ha : Holds d.trees a = omega (arith, c.requires.scrutinee_below, p.open_held) in
    let hb : Holds d.trees b = omega (arith, c.requires.arms_below, p.open_held) in
    let d1 = c.walk_tree.new.draft in
    let d2 = c.mix_case.new.draft in
    let x = Extends_trans d d1 d2 c.in_ok-one.ensures.grows c.in_ok-m.ensures.grows in
    let ready = g.R.Rewrite.stays_ready c.args.rewrite.now d d2 x c.requires.ready in
    let h1 = held_later d1 d2 c.in_ok-m.ensures.grows c.in_ok-one.one.image c.in_ok-one.ensures.link.place.open_held in
    let links = remembered_later d1 d2 c.in_ok-m.ensures.grows (g.R.Rewrite.rule c.args.rewrite.now) c.walk_tree.new.links c.in_ok-one.ensures.remembered in
    λ κs h. (omega (arith, c.requires.arms_below), (h, (ready, (links, (c.in_ok-m.ensures.place, (c.in_ok-m.ensures.node, (h1, held_later d d2 x b hb)))))))

pub walk_case-returns-in_err-m-clause-grows : goal.walk_case-returns-in_err-m-clause-grows
walk_case-returns-in_err-m-clause-grows g t c = Extends_trans _ _ _ c.in_ok-one.ensures.grows c.in_err-m.ensures.grows

pub walk_case-returns-in_err-made-clause-grows : goal.walk_case-returns-in_err-made-clause-grows
walk_case-returns-in_err-made-clause-grows g t c = Extends_trans _ _ _ (Extends_trans _ _ _ c.in_ok-one.ensures.grows c.in_ok-m.ensures.grows) c.in_err-made.ensures.grows

pub walk_case-returns-clause-grows : goal.walk_case-returns-clause-grows
walk_case-returns-clause-grows g t c = Extends_trans _ _ _ (Extends_trans _ _ _ (Extends_trans _ _ _ c.in_ok-one.ensures.grows c.in_ok-m.ensures.grows) c.in_ok-made.ensures.grows) c.link_case.ensures.grows

pub walk_case-link_case-requires-clause-pair : goal.walk_case-link_case-requires-clause-pair
walk_case-link_case-requires-clause-pair g t c = pair_later c.mix_case.new.draft c.walk_arms.new.draft c.in_ok-made.ensures.grows c.args.left c.in_ok-m.m.left c.in_ok-m.ensures.pair

pub walk_case-link_case-requires-clause-shows : goal.walk_case-link_case-requires-clause-shows
walk_case-link_case-requires-clause-shows g t c =
    let q = c.in_ok-m.ensures.pair in
    shows_at c.mix_case.new.draft c.walk_arms.new.draft c.in_ok-made.ensures.grows c.in_ok-m.m.alike c.args.left c.in_ok-m.m.left q.left.held q.right.held c.in_ok-m.ensures.shows

pub walk_case-link_case-requires-clause-made : goal.walk_case-link_case-requires-clause-made
walk_case-link_case-requires-clause-made g t c = link_again c.walk_arms.new.draft c.args.env.now c.in_ok-m.m.left c.args.fresh _ c.in_ok-made.made c.in_ok-made.ensures.link

pub walk_case-returns-clause-link : goal.walk_case-returns-clause-link
walk_case-returns-clause-link g t c =
    let d = c.args.draft.now in
    let env = c.args.env.now in
    let n = c.args.fresh in
    let p = c.requires.place in
    let a = c.args.scrutinee in
    let b = c.args.arms in
    let s = c.case_parts-parts.result in
    let e = c.case_parts-parts.ensures in
    let ha : Holds d.trees a = omega (arith, c.requires.scrutinee_below, p.open_held) in
    let hb : Holds d.trees b = omega (arith, c.requires.arms_below, p.open_held) in
    let d1 = c.walk_tree.new.draft in
    let d2 = c.mix_case.new.draft in
    let d3 = c.walk_arms.new.draft in
    let d4 = c.link_case.new.draft in
    let y = c.in_ok-m.ensures.grows in
    let x = Extends_trans d d1 d2 c.in_ok-one.ensures.grows y in
    let rule : TaskTree → Tree → Tree = g.R.Rewrite.rule c.args.rewrite.now in
    let one = c.in_ok-one.one in
    let qa : tree_at d2.trees one.image ≡ image (rule d.task) (tree_at d.trees a) = tree_later d1 d2 y one.image c.in_ok-one.ensures.link.place.open_held ∙ c.in_ok-one.ensures.link.is in
    let qb : image (rule d2.task) (tree_at d2.trees b) ≡ image (rule d.task) (tree_at d.trees b) = ap (λ (u : TaskTree). image (rule u) (tree_at d2.trees b)) x.task ∙ ap (image (rule d.task)) (tree_later d d2 x b hb) in
    let q : tree_at d3.trees c.in_ok-made.made.image ≡ over_images (rule d.task) (tree_at d.trees c.args.e) = c.in_ok-made.ensures.link.is ∙ cc (qa, qb) ∙ ap (over_images (rule d.task)) (sym c.requires.node) in
    subst (λ (u : Tree). IfOk c.link_case.result (IsLinkOf d4 env c.args.left n u)) q c.link_case.ensures.link

pub walk_arms-first_branch-open-requires-clause-branches : goal.walk_arms-first_branch-open-requires-clause-branches
walk_arms-first_branch-open-requires-clause-branches g t c =
    let d = c.args.draft.now in
    let k = case_branch d c.args.env.now c.args.e c.args.left c.args.fresh c.requires.place c.args.scrutinee c.args.arms c.requires.node in
    (k.pattern, (k.body, (k.others, k.is)))

pub walk_arms-open_branch-requires-clause-node : goal.walk_arms-open_branch-requires-clause-node
walk_arms-open_branch-requires-clause-node g t c =
    let d = c.args.draft.now in
    let e = c.first_branch-open.ensures in
    let node = c.requires.node ∙ ap (Two HCase (tree_at d.trees c.args.scrutinee)) e.tree in
    node

pub walk_arms-walk_tree-requires : goal.walk_arms-walk_tree-requires
walk_arms-walk_tree-requires g t c =
    let d = c.args.draft.now in
    let env = c.args.env.now in
    let n = c.args.fresh in
    let p = c.requires.place in
    let o = c.first_branch-open.result in
    let e = c.first_branch-open.ensures in
    let node = c.requires.node ∙ ap (Two HCase (tree_at d.trees c.args.scrutinee)) e.tree in
    let d1 = c.open_branch.new.draft in
    let x = AddsTrees_extends d d1 c.in_ok-opened.ensures.grows in
    let w = c.in_ok-opened.opened in
    let longer : c.deref-2.result.now ≡ env ++ w.terms.items = c.deref-2.ensures.value ∙ c.in_ok-longer.ensures ∙ ap (λ (z : List TermId). env ++ z) c.deref.ensures.value in
    let place : IsInstanceAt d1 c.deref-2.result.now o.body w.inner n = subst (λ (z : List TermId). IsInstanceAt d1 z o.body w.inner n) (sym longer) c.in_ok-opened.ensures.opened.place in
    let ready = g.R.Rewrite.stays_ready c.args.rewrite.now d d1 x c.requires.ready in
    let links = remembered_later d d1 x (g.R.Rewrite.rule c.args.rewrite.now) c.args.links.now c.requires.remembered in
    λ κs h. (omega (arith, e.body_below), (h, (ready, (links, place))))

pub walk_arms-cells_of-requires-clause-sort : goal.walk_arms-cells_of-requires-clause-sort
walk_arms-cells_of-requires-clause-sort g t c =
    let d = c.args.draft.now in
    let env = c.args.env.now in
    let n = c.args.fresh in
    let p = c.requires.place in
    let o = c.first_branch-open.result in
    let e = c.first_branch-open.ensures in
    let s = c.args.scrutinee in
    let node = c.requires.node ∙ ap (Two HCase (tree_at d.trees s)) e.tree in
    let d1 = c.open_branch.new.draft in
    let d2 = c.walk_tree.new.draft in
    let x = AddsTrees_extends d d1 c.in_ok-opened.ensures.grows in
    let y = c.in_ok-part.ensures.grows in
    let xy = Extends_trans d d1 d2 x y in
    ap sort_of (tree_later d d2 xy o.others e.others_held) ∙ others_list d env c.args.e c.args.left n p (tree_at d.trees s) (tree_at d.trees o.pattern) (tree_at d.trees o.body) (tree_at d.trees o.others) node

pub walk_arms-link_last-requires-clause-place : goal.walk_arms-link_last-requires-clause-place
walk_arms-link_last-requires-clause-place g t c =
    let d = c.args.draft.now in
    let env = c.args.env.now in
    let n = c.args.fresh in
    let p = c.requires.place in
    let d1 = c.open_branch.new.draft in
    let d2 = c.walk_tree.new.draft in
    let x = AddsTrees_extends d d1 c.in_ok-opened.ensures.grows in
    let y = c.in_ok-part.ensures.grows in
    let xy = Extends_trans d d1 d2 x y in
    place_later d d2 xy env c.args.e c.args.left n p

pub walk_arms-link_last-requires-clause-node : goal.walk_arms-link_last-requires-clause-node
walk_arms-link_last-requires-clause-node g t c =
    let d = c.args.draft.now in
    let p = c.requires.place in
    let o = c.first_branch-open.result in
    let e = c.first_branch-open.ensures in
    let s = c.args.scrutinee in
    let hs = c.requires.scrutinee_held in
    let node = c.requires.node ∙ ap (Two HCase (tree_at d.trees s)) e.tree in
    let d1 = c.open_branch.new.draft in
    let d2 = c.walk_tree.new.draft in
    let x = AddsTrees_extends d d1 c.in_ok-opened.ensures.grows in
    let y = c.in_ok-part.ensures.grows in
    let xy = Extends_trans d d1 d2 x y in
    branch_later d d2 xy c.args.e s o.pattern o.body o.others p.open_held hs e.pattern_held e.body_held e.others_held node

pub walk_arms-link_last-requires-clause-scrutinee_held : goal.walk_arms-link_last-requires-clause-scrutinee_held
walk_arms-link_last-requires-clause-scrutinee_held g t c =
    let d = c.args.draft.now in
    let s = c.args.scrutinee in
    let hs = c.requires.scrutinee_held in
    let d1 = c.open_branch.new.draft in
    let d2 = c.walk_tree.new.draft in
    let x = AddsTrees_extends d d1 c.in_ok-opened.ensures.grows in
    let y = c.in_ok-part.ensures.grows in
    let xy = Extends_trans d d1 d2 x y in
    held_later d d2 xy s hs

pub walk_arms-link_last-requires-clause-pattern_held : goal.walk_arms-link_last-requires-clause-pattern_held
walk_arms-link_last-requires-clause-pattern_held g t c =
    let d = c.args.draft.now in
    let o = c.first_branch-open.result in
    let e = c.first_branch-open.ensures in
    let d1 = c.open_branch.new.draft in
    let d2 = c.walk_tree.new.draft in
    let x = AddsTrees_extends d d1 c.in_ok-opened.ensures.grows in
    let y = c.in_ok-part.ensures.grows in
    let xy = Extends_trans d d1 d2 x y in
    held_later d d2 xy o.pattern e.pattern_held

pub walk_arms-link_last-requires-clause-others_held : goal.walk_arms-link_last-requires-clause-others_held
walk_arms-link_last-requires-clause-others_held g t c =
    let d = c.args.draft.now in
    let o = c.first_branch-open.result in
    let e = c.first_branch-open.ensures in
    let d1 = c.open_branch.new.draft in
    let d2 = c.walk_tree.new.draft in
    let x = AddsTrees_extends d d1 c.in_ok-opened.ensures.grows in
    let y = c.in_ok-part.ensures.grows in
    let xy = Extends_trans d d1 d2 x y in
    held_later d d2 xy o.others e.others_held

pub walk_arms-link_last-requires-clause-opened : goal.walk_arms-link_last-requires-clause-opened
walk_arms-link_last-requires-clause-opened g t c =
    let d = c.args.draft.now in
    let env = c.args.env.now in
    let n = c.args.fresh in
    let o = c.first_branch-open.result in
    let e = c.first_branch-open.ensures in
    let d1 = c.open_branch.new.draft in
    let d2 = c.walk_tree.new.draft in
    let x = AddsTrees_extends d d1 c.in_ok-opened.ensures.grows in
    let y = c.in_ok-part.ensures.grows in
    let w = c.in_ok-opened.opened in
    let opened = opened_later d1 d2 y env c.args.left o.pattern o.body n w (held_later d d1 x o.pattern e.pattern_held) c.in_ok-opened.ensures.opened in
    opened

pub walk_arms-rest_trees-requires-clause-place : goal.walk_arms-rest_trees-requires-clause-place
walk_arms-rest_trees-requires-clause-place g t c =
    let d = c.args.draft.now in
    let env = c.args.env.now in
    let n = c.args.fresh in
    let p = c.requires.place in
    let d1 = c.open_branch.new.draft in
    let d2 = c.walk_tree.new.draft in
    let x = AddsTrees_extends d d1 c.in_ok-opened.ensures.grows in
    let y = c.in_ok-part.ensures.grows in
    let xy = Extends_trans d d1 d2 x y in
    place_later d d2 xy env c.args.e c.args.left n p

pub walk_arms-rest_trees-requires-clause-node : goal.walk_arms-rest_trees-requires-clause-node
walk_arms-rest_trees-requires-clause-node g t c =
    let d = c.args.draft.now in
    let p = c.requires.place in
    let o = c.first_branch-open.result in
    let e = c.first_branch-open.ensures in
    let s = c.args.scrutinee in
    let hs = c.requires.scrutinee_held in
    let node = c.requires.node ∙ ap (Two HCase (tree_at d.trees s)) e.tree in
    let d1 = c.open_branch.new.draft in
    let d2 = c.walk_tree.new.draft in
    let x = AddsTrees_extends d d1 c.in_ok-opened.ensures.grows in
    let y = c.in_ok-part.ensures.grows in
    let xy = Extends_trans d d1 d2 x y in
    branch_later d d2 xy c.args.e s o.pattern o.body o.others p.open_held hs e.pattern_held e.body_held e.others_held node

pub walk_arms-rest_trees-requires-clause-scrutinee_held : goal.walk_arms-rest_trees-requires-clause-scrutinee_held
walk_arms-rest_trees-requires-clause-scrutinee_held g t c =
    let d = c.args.draft.now in
    let s = c.args.scrutinee in
    let hs = c.requires.scrutinee_held in
    let d1 = c.open_branch.new.draft in
    let d2 = c.walk_tree.new.draft in
    let x = AddsTrees_extends d d1 c.in_ok-opened.ensures.grows in
    let y = c.in_ok-part.ensures.grows in
    let xy = Extends_trans d d1 d2 x y in
    held_later d d2 xy s hs

pub walk_arms-rest_trees-requires-clause-pattern_held : goal.walk_arms-rest_trees-requires-clause-pattern_held
walk_arms-rest_trees-requires-clause-pattern_held g t c =
    let d = c.args.draft.now in
    let o = c.first_branch-open.result in
    let e = c.first_branch-open.ensures in
    let d1 = c.open_branch.new.draft in
    let d2 = c.walk_tree.new.draft in
    let x = AddsTrees_extends d d1 c.in_ok-opened.ensures.grows in
    let y = c.in_ok-part.ensures.grows in
    let xy = Extends_trans d d1 d2 x y in
    held_later d d2 xy o.pattern e.pattern_held

pub walk_arms-rest_trees-requires-clause-others_held : goal.walk_arms-rest_trees-requires-clause-others_held
walk_arms-rest_trees-requires-clause-others_held g t c =
    let d = c.args.draft.now in
    let o = c.first_branch-open.result in
    let e = c.first_branch-open.ensures in
    let d1 = c.open_branch.new.draft in
    let d2 = c.walk_tree.new.draft in
    let x = AddsTrees_extends d d1 c.in_ok-opened.ensures.grows in
    let y = c.in_ok-part.ensures.grows in
    let xy = Extends_trans d d1 d2 x y in
    held_later d d2 xy o.others e.others_held

pub walk_arms-rest_trees-requires-clause-opened : goal.walk_arms-rest_trees-requires-clause-opened
walk_arms-rest_trees-requires-clause-opened g t c =
    let d = c.args.draft.now in
    let env = c.args.env.now in
    let n = c.args.fresh in
    let o = c.first_branch-open.result in
    let e = c.first_branch-open.ensures in
    let d1 = c.open_branch.new.draft in
    let d2 = c.walk_tree.new.draft in
    let x = AddsTrees_extends d d1 c.in_ok-opened.ensures.grows in
    let y = c.in_ok-part.ensures.grows in
    let w = c.in_ok-opened.opened in
    let opened = opened_later d1 d2 y env c.args.left o.pattern o.body n w (held_later d d1 x o.pattern e.pattern_held) c.in_ok-opened.ensures.opened in
    opened

pub walk_arms-rest_trees-requires-clause-body_held : goal.walk_arms-rest_trees-requires-clause-body_held
walk_arms-rest_trees-requires-clause-body_held g t c =
    let d = c.args.draft.now in
    let o = c.first_branch-open.result in
    let e = c.first_branch-open.ensures in
    let d1 = c.open_branch.new.draft in
    let d2 = c.walk_tree.new.draft in
    let x = AddsTrees_extends d d1 c.in_ok-opened.ensures.grows in
    let y = c.in_ok-part.ensures.grows in
    let xy = Extends_trans d d1 d2 x y in
    held_later d d2 xy o.body e.body_held

pub walk_arms-rest_trees-requires-clause-more : goal.walk_arms-rest_trees-requires-clause-more
walk_arms-rest_trees-requires-clause-more g t c =
    ap head_of c.in-Some.ensures.some

pub walk_arms-link_last-requires-clause-last : goal.walk_arms-link_last-requires-clause-last
walk_arms-link_last-requires-clause-last g t c =
    c.in-None.ensures.none refl

pub walk_arms-link_last-requires-clause-part : goal.walk_arms-link_last-requires-clause-part
walk_arms-link_last-requires-clause-part g t c =
    let env = c.args.env.now in
    let n = c.args.fresh in
    let o = c.first_branch-open.result in
    let d1 = c.open_branch.new.draft in
    let d2 = c.walk_tree.new.draft in
    let w = c.in_ok-opened.opened in
    let longer : c.deref-2.result.now ≡ env ++ w.terms.items = c.deref-2.ensures.value ∙ c.in_ok-longer.ensures ∙ ap (λ (z : List TermId). env ++ z) c.deref.ensures.value in
    let part = c.in_ok-part.part in
    let k : IsLinkOf d2 (env ++ w.terms.items) w.inner n (tree_at d2.trees part.image) part = link_again d2 (env ++ w.terms.items) w.inner n _ part (subst (λ (z : List TermId). IsLinkOf d2 z w.inner n (image (g.R.Rewrite.rule c.args.rewrite.now d1.task) (tree_at d1.trees o.body)) part) longer c.in_ok-part.ensures.link) in
    k

pub walk_arms-walk_arms-requires : goal.walk_arms-walk_arms-requires
walk_arms-walk_arms-requires g t c =
    let d = c.args.draft.now in
    let env = c.args.env.now in
    let n = c.args.fresh in
    let p = c.requires.place in
    let o = c.first_branch-open.result in
    let e = c.first_branch-open.ensures in
    let s = c.args.scrutinee in
    let hs = c.requires.scrutinee_held in
    let node = c.requires.node ∙ ap (Two HCase (tree_at d.trees s)) e.tree in
    let d1 = c.open_branch.new.draft in
    let d2 = c.walk_tree.new.draft in
    let x = AddsTrees_extends d d1 c.in_ok-opened.ensures.grows in
    let y = c.in_ok-part.ensures.grows in
    let xy = Extends_trans d d1 d2 x y in
    let w = c.in_ok-opened.opened in
    let opened = opened_later d1 d2 y env c.args.left o.pattern o.body n w (held_later d d1 x o.pattern e.pattern_held) c.in_ok-opened.ensures.opened in
    let longer : c.deref-2.result.now ≡ env ++ w.terms.items = c.deref-2.ensures.value ∙ c.in_ok-longer.ensures ∙ ap (λ (z : List TermId). env ++ z) c.deref.ensures.value in
    let part = c.in_ok-part.part in
    let k : IsLinkOf d2 (env ++ w.terms.items) w.inner n (tree_at d2.trees part.image) part = link_again d2 (env ++ w.terms.items) w.inner n _ part (subst (λ (z : List TermId). IsLinkOf d2 z w.inner n (image (g.R.Rewrite.rule c.args.rewrite.now d1.task) (tree_at d1.trees o.body)) part) longer c.in_ok-part.ensures.link) in
    let d3 = c.rest_trees.new.draft in
    let z = AddsTrees_extends d2 d3 c.in_ok-rest-in-Some.ensures.grows in
    let xz = Extends_trans d d2 d3 xy z in
    let rest = c.in_ok-rest-in-Some.rest in
    let re = c.in_ok-rest-in-Some.ensures in
    let ready = g.R.Rewrite.stays_ready c.args.rewrite.now d d3 xz c.requires.ready in
    let rest_node : tree_at d3.trees rest.e ≡ Two HCase (tree_at d3.trees s) (tree_at d3.trees o.others) = re.node ∙ sym (cc (tree_later d2 d3 z s (held_later d d2 xy s hs), tree_later d2 d3 z o.others (held_later d d2 xy o.others e.others_held))) in
    let links = remembered_later d2 d3 z (g.R.Rewrite.rule c.args.rewrite.now) c.walk_tree.new.links c.in_ok-part.ensures.remembered in
    λ κs h. (omega (arith, e.others_below), (h, (ready, (links, (re.place, (rest_node, (held_later d d3 xz s hs, held_later d d3 xz o.others e.others_held)))))))

pub walk_arms-link_more-requires-clause-place : goal.walk_arms-link_more-requires-clause-place
walk_arms-link_more-requires-clause-place g t c =
    let d = c.args.draft.now in
    let env = c.args.env.now in
    let n = c.args.fresh in
    let p = c.requires.place in
    let d1 = c.open_branch.new.draft in
    let d2 = c.walk_tree.new.draft in
    let x = AddsTrees_extends d d1 c.in_ok-opened.ensures.grows in
    let y = c.in_ok-part.ensures.grows in
    let xy = Extends_trans d d1 d2 x y in
    let d3 = c.rest_trees.new.draft in
    let z = AddsTrees_extends d2 d3 c.in_ok-rest-in-Some.ensures.grows in
    let d4 = c.walk_arms.new.draft in
    let u = c.in_ok-more-in-Some.ensures.grows in
    let zu = Extends_trans d2 d3 d4 z u in
    let all = Extends_trans d d2 d4 xy zu in
    place_later d d4 all env c.args.e c.args.left n p

pub walk_arms-link_more-requires-clause-node : goal.walk_arms-link_more-requires-clause-node
walk_arms-link_more-requires-clause-node g t c =
    let d = c.args.draft.now in
    let p = c.requires.place in
    let o = c.first_branch-open.result in
    let e = c.first_branch-open.ensures in
    let s = c.args.scrutinee in
    let hs = c.requires.scrutinee_held in
    let node = c.requires.node ∙ ap (Two HCase (tree_at d.trees s)) e.tree in
    let d1 = c.open_branch.new.draft in
    let d2 = c.walk_tree.new.draft in
    let x = AddsTrees_extends d d1 c.in_ok-opened.ensures.grows in
    let y = c.in_ok-part.ensures.grows in
    let xy = Extends_trans d d1 d2 x y in
    let d3 = c.rest_trees.new.draft in
    let z = AddsTrees_extends d2 d3 c.in_ok-rest-in-Some.ensures.grows in
    let d4 = c.walk_arms.new.draft in
    let u = c.in_ok-more-in-Some.ensures.grows in
    let zu = Extends_trans d2 d3 d4 z u in
    let all = Extends_trans d d2 d4 xy zu in
    branch_later d d4 all c.args.e s o.pattern o.body o.others p.open_held hs e.pattern_held e.body_held e.others_held node

pub walk_arms-link_more-requires-clause-scrutinee_held : goal.walk_arms-link_more-requires-clause-scrutinee_held
walk_arms-link_more-requires-clause-scrutinee_held g t c =
    let d = c.args.draft.now in
    let s = c.args.scrutinee in
    let hs = c.requires.scrutinee_held in
    let d1 = c.open_branch.new.draft in
    let d2 = c.walk_tree.new.draft in
    let x = AddsTrees_extends d d1 c.in_ok-opened.ensures.grows in
    let y = c.in_ok-part.ensures.grows in
    let xy = Extends_trans d d1 d2 x y in
    let d3 = c.rest_trees.new.draft in
    let z = AddsTrees_extends d2 d3 c.in_ok-rest-in-Some.ensures.grows in
    let d4 = c.walk_arms.new.draft in
    let u = c.in_ok-more-in-Some.ensures.grows in
    let zu = Extends_trans d2 d3 d4 z u in
    let all = Extends_trans d d2 d4 xy zu in
    held_later d d4 all s hs

pub walk_arms-link_more-requires-clause-pattern_held : goal.walk_arms-link_more-requires-clause-pattern_held
walk_arms-link_more-requires-clause-pattern_held g t c =
    let d = c.args.draft.now in
    let o = c.first_branch-open.result in
    let e = c.first_branch-open.ensures in
    let d1 = c.open_branch.new.draft in
    let d2 = c.walk_tree.new.draft in
    let x = AddsTrees_extends d d1 c.in_ok-opened.ensures.grows in
    let y = c.in_ok-part.ensures.grows in
    let xy = Extends_trans d d1 d2 x y in
    let d3 = c.rest_trees.new.draft in
    let z = AddsTrees_extends d2 d3 c.in_ok-rest-in-Some.ensures.grows in
    let d4 = c.walk_arms.new.draft in
    let u = c.in_ok-more-in-Some.ensures.grows in
    let zu = Extends_trans d2 d3 d4 z u in
    let all = Extends_trans d d2 d4 xy zu in
    held_later d d4 all o.pattern e.pattern_held

pub walk_arms-link_more-requires-clause-opened : goal.walk_arms-link_more-requires-clause-opened
walk_arms-link_more-requires-clause-opened g t c =
    let d = c.args.draft.now in
    let env = c.args.env.now in
    let n = c.args.fresh in
    let o = c.first_branch-open.result in
    let e = c.first_branch-open.ensures in
    let d1 = c.open_branch.new.draft in
    let d2 = c.walk_tree.new.draft in
    let x = AddsTrees_extends d d1 c.in_ok-opened.ensures.grows in
    let y = c.in_ok-part.ensures.grows in
    let xy = Extends_trans d d1 d2 x y in
    let w = c.in_ok-opened.opened in
    let opened = opened_later d1 d2 y env c.args.left o.pattern o.body n w (held_later d d1 x o.pattern e.pattern_held) c.in_ok-opened.ensures.opened in
    let d3 = c.rest_trees.new.draft in
    let z = AddsTrees_extends d2 d3 c.in_ok-rest-in-Some.ensures.grows in
    let d4 = c.walk_arms.new.draft in
    let u = c.in_ok-more-in-Some.ensures.grows in
    let zu = Extends_trans d2 d3 d4 z u in
    opened_later d2 d4 zu env c.args.left o.pattern o.body n w (held_later d d2 xy o.pattern e.pattern_held) opened

pub walk_arms-link_more-requires-clause-part : goal.walk_arms-link_more-requires-clause-part
walk_arms-link_more-requires-clause-part g t c =
    let d = c.args.draft.now in
    let env = c.args.env.now in
    let n = c.args.fresh in
    let o = c.first_branch-open.result in
    let e = c.first_branch-open.ensures in
    let d1 = c.open_branch.new.draft in
    let d2 = c.walk_tree.new.draft in
    let x = AddsTrees_extends d d1 c.in_ok-opened.ensures.grows in
    let y = c.in_ok-part.ensures.grows in
    let w = c.in_ok-opened.opened in
    let opened = opened_later d1 d2 y env c.args.left o.pattern o.body n w (held_later d d1 x o.pattern e.pattern_held) c.in_ok-opened.ensures.opened in
    let longer : c.deref-2.result.now ≡ env ++ w.terms.items = c.deref-2.ensures.value ∙ c.in_ok-longer.ensures ∙ ap (λ (z : List TermId). env ++ z) c.deref.ensures.value in
    let part = c.in_ok-part.part in
    let k : IsLinkOf d2 (env ++ w.terms.items) w.inner n (tree_at d2.trees part.image) part = link_again d2 (env ++ w.terms.items) w.inner n _ part (subst (λ (z : List TermId). IsLinkOf d2 z w.inner n (image (g.R.Rewrite.rule c.args.rewrite.now d1.task) (tree_at d1.trees o.body)) part) longer c.in_ok-part.ensures.link) in
    let d3 = c.rest_trees.new.draft in
    let z = AddsTrees_extends d2 d3 c.in_ok-rest-in-Some.ensures.grows in
    let d4 = c.walk_arms.new.draft in
    let u = c.in_ok-more-in-Some.ensures.grows in
    let zu = Extends_trans d2 d3 d4 z u in
    link_again d4 (env ++ w.terms.items) w.inner n _ part (link_later d2 d4 zu (env ++ w.terms.items) w.inner n _ part opened.pair.right.held k)

pub walk_arms-link_more-requires-clause-rest : goal.walk_arms-link_more-requires-clause-rest
walk_arms-link_more-requires-clause-rest g t c =
    let d3 = c.rest_trees.new.draft in
    let rest = c.in_ok-rest-in-Some.rest in
    let re = c.in_ok-rest-in-Some.ensures in
    let d4 = c.walk_arms.new.draft in
    let u = c.in_ok-more-in-Some.ensures.grows in
    pair_later d3 d4 u c.args.left rest.left re.pair

pub walk_arms-link_more-requires-clause-rest_is : goal.walk_arms-link_more-requires-clause-rest_is
walk_arms-link_more-requires-clause-rest_is g t c =
    let d = c.args.draft.now in
    let env = c.args.env.now in
    let n = c.args.fresh in
    let p = c.requires.place in
    let o = c.first_branch-open.result in
    let e = c.first_branch-open.ensures in
    let s = c.args.scrutinee in
    let hs = c.requires.scrutinee_held in
    let node = c.requires.node ∙ ap (Two HCase (tree_at d.trees s)) e.tree in
    let d1 = c.open_branch.new.draft in
    let d2 = c.walk_tree.new.draft in
    let x = AddsTrees_extends d d1 c.in_ok-opened.ensures.grows in
    let y = c.in_ok-part.ensures.grows in
    let xy = Extends_trans d d1 d2 x y in
    let w = c.in_ok-opened.opened in
    let opened = opened_later d1 d2 y env c.args.left o.pattern o.body n w (held_later d d1 x o.pattern e.pattern_held) c.in_ok-opened.ensures.opened in
    let longer : c.deref-2.result.now ≡ env ++ w.terms.items = c.deref-2.ensures.value ∙ c.in_ok-longer.ensures ∙ ap (λ (z : List TermId). env ++ z) c.deref.ensures.value in
    let part = c.in_ok-part.part in
    let k : IsLinkOf d2 (env ++ w.terms.items) w.inner n (tree_at d2.trees part.image) part = link_again d2 (env ++ w.terms.items) w.inner n _ part (subst (λ (z : List TermId). IsLinkOf d2 z w.inner n (image (g.R.Rewrite.rule c.args.rewrite.now d1.task) (tree_at d1.trees o.body)) part) longer c.in_ok-part.ensures.link) in
    let d3 = c.rest_trees.new.draft in
    let z = AddsTrees_extends d2 d3 c.in_ok-rest-in-Some.ensures.grows in
    let xz = Extends_trans d d2 d3 xy z in
    let rest = c.in_ok-rest-in-Some.rest in
    let re = c.in_ok-rest-in-Some.ensures in
    let d4 = c.walk_arms.new.draft in
    let u = c.in_ok-more-in-Some.ensures.grows in
    let zu = Extends_trans d2 d3 d4 z u in
    let all = Extends_trans d d2 d4 xy zu in
    let more = c.in_ok-more-in-Some.more in
    tree_later d3 d4 u rest.left re.pair.right.held ∙ re.left_is ∙ sym (cc (tree_later d2 d4 zu w.by opened.by.held, tree_later d2 d4 zu w.others opened.others_held))

pub walk_arms-link_more-requires-clause-branches : goal.walk_arms-link_more-requires-clause-branches
walk_arms-link_more-requires-clause-branches g t c =
    let d = c.args.draft.now in
    let env = c.args.env.now in
    let n = c.args.fresh in
    let o = c.first_branch-open.result in
    let e = c.first_branch-open.ensures in
    let d1 = c.open_branch.new.draft in
    let d2 = c.walk_tree.new.draft in
    let x = AddsTrees_extends d d1 c.in_ok-opened.ensures.grows in
    let y = c.in_ok-part.ensures.grows in
    let w = c.in_ok-opened.opened in
    let opened = opened_later d1 d2 y env c.args.left o.pattern o.body n w (held_later d d1 x o.pattern e.pattern_held) c.in_ok-opened.ensures.opened in
    let d3 = c.rest_trees.new.draft in
    let z = AddsTrees_extends d2 d3 c.in_ok-rest-in-Some.ensures.grows in
    let re = c.in_ok-rest-in-Some.ensures in
    let d4 = c.walk_arms.new.draft in
    let u = c.in_ok-more-in-Some.ensures.grows in
    ap head_of (tree_later d3 d4 u w.others (held_later d2 d3 z w.others opened.others_held)) ∙ re.branches

pub walk_arms-link_more-requires-clause-more : goal.walk_arms-link_more-requires-clause-more
walk_arms-link_more-requires-clause-more g t c =
    let env = c.args.env.now in
    let n = c.args.fresh in
    let rest = c.in_ok-rest-in-Some.rest in
    let d4 = c.walk_arms.new.draft in
    let more = c.in_ok-more-in-Some.more in
    link_again d4 env rest.left n _ more c.in_ok-more-in-Some.ensures.link

pub walk_arms-link_more-requires-clause-more_is : goal.walk_arms-link_more-requires-clause-more_is
walk_arms-link_more-requires-clause-more_is g t c =
    let d = c.args.draft.now in
    let o = c.first_branch-open.result in
    let s = c.args.scrutinee in
    let hs = c.requires.scrutinee_held in
    let d1 = c.open_branch.new.draft in
    let d2 = c.walk_tree.new.draft in
    let x = AddsTrees_extends d d1 c.in_ok-opened.ensures.grows in
    let y = c.in_ok-part.ensures.grows in
    let xy = Extends_trans d d1 d2 x y in
    let d3 = c.rest_trees.new.draft in
    let z = AddsTrees_extends d2 d3 c.in_ok-rest-in-Some.ensures.grows in
    let xz = Extends_trans d d2 d3 xy z in
    let d4 = c.walk_arms.new.draft in
    let u = c.in_ok-more-in-Some.ensures.grows in
    ((image (g.R.Rewrite.rule c.args.rewrite.now d3.task) (tree_at d3.trees o.others)), c.in_ok-more-in-Some.ensures.link.is ∙ ap (λ (v : Tree). Two HCase v (image (g.R.Rewrite.rule c.args.rewrite.now d3.task) (tree_at d3.trees o.others))) (sym (tree_later d3 d4 u s (held_later d d3 xz s hs))))

pub walk_arms-returns-in_err-part-clause-grows : goal.walk_arms-returns-in_err-part-clause-grows
walk_arms-returns-in_err-part-clause-grows g t c = Extends_trans _ _ _ (AddsTrees_extends _ _ c.in_ok-opened.ensures.grows) c.in_err-part.ensures.grows

pub walk_arms-returns-in-None-clause-grows : goal.walk_arms-returns-in-None-clause-grows
walk_arms-returns-in-None-clause-grows g t c = Extends_trans _ _ _ (Extends_trans _ _ _ (AddsTrees_extends _ _ c.in_ok-opened.ensures.grows) c.in_ok-part.ensures.grows) c.link_last.ensures.grows

pub walk_arms-returns-in_err-rest-in-Some-clause-grows : goal.walk_arms-returns-in_err-rest-in-Some-clause-grows
walk_arms-returns-in_err-rest-in-Some-clause-grows g t c = Extends_trans _ _ _ (Extends_trans _ _ _ (AddsTrees_extends _ _ c.in_ok-opened.ensures.grows) c.in_ok-part.ensures.grows) (AddsTrees_extends _ _ c.in_err-rest-in-Some.ensures.grows)

pub walk_arms-returns-in_err-more-in-Some-clause-grows : goal.walk_arms-returns-in_err-more-in-Some-clause-grows
walk_arms-returns-in_err-more-in-Some-clause-grows g t c =
    Extends_trans _ _ _ (Extends_trans _ _ _ (Extends_trans _ _ _ (AddsTrees_extends _ _ c.in_ok-opened.ensures.grows) c.in_ok-part.ensures.grows) (AddsTrees_extends _ _ c.in_ok-rest-in-Some.ensures.grows)) c.in_err-more-in-Some.ensures.grows

pub walk_arms-returns-clause-grows : goal.walk_arms-returns-clause-grows
walk_arms-returns-clause-grows g t c =
    Extends_trans _ _ _ (Extends_trans _ _ _ (Extends_trans _ _ _ (Extends_trans _ _ _ (AddsTrees_extends _ _ c.in_ok-opened.ensures.grows) c.in_ok-part.ensures.grows) (AddsTrees_extends _ _ c.in_ok-rest-in-Some.ensures.grows)) c.in_ok-more-in-Some.ensures.grows) c.link_more.ensures.grows

pub walk_arms-returns-in-None-clause-link : goal.walk_arms-returns-in-None-clause-link
walk_arms-returns-in-None-clause-link g t c =
    let d = c.args.draft.now in
    let env = c.args.env.now in
    let n = c.args.fresh in
    let p = c.requires.place in
    let o = c.first_branch-open.result in
    let e = c.first_branch-open.ensures in
    let s = c.args.scrutinee in
    let hs = c.requires.scrutinee_held in
    let node = c.requires.node ∙ ap (Two HCase (tree_at d.trees s)) e.tree in
    let d1 = c.open_branch.new.draft in
    let d2 = c.walk_tree.new.draft in
    let x = AddsTrees_extends d d1 c.in_ok-opened.ensures.grows in
    let y = c.in_ok-part.ensures.grows in
    let xy = Extends_trans d d1 d2 x y in
    let w = c.in_ok-opened.opened in
    let opened = opened_later d1 d2 y env c.args.left o.pattern o.body n w (held_later d d1 x o.pattern e.pattern_held) c.in_ok-opened.ensures.opened in
    let longer : c.deref-2.result.now ≡ env ++ w.terms.items = c.deref-2.ensures.value ∙ c.in_ok-longer.ensures ∙ ap (λ (z : List TermId). env ++ z) c.deref.ensures.value in
    let part = c.in_ok-part.part in
    let k : IsLinkOf d2 (env ++ w.terms.items) w.inner n (tree_at d2.trees part.image) part = link_again d2 (env ++ w.terms.items) w.inner n _ part (subst (λ (z : List TermId). IsLinkOf d2 z w.inner n (image (g.R.Rewrite.rule c.args.rewrite.now d1.task) (tree_at d1.trees o.body)) part) longer c.in_ok-part.ensures.link) in
    let rule : TaskTree → Tree → Tree = g.R.Rewrite.rule c.args.rewrite.now in
    let others = g.R.Rewrite.others c.args.rewrite.now d.task in
    let b = c.args.arms in
    let E = types_for (trees_at d.trees env) in
    let pt = pattern_typed d env c.args.e c.args.left n p (tree_at d.trees s) (tree_at d.trees o.pattern) (tree_at d.trees o.body) (tree_at d.trees o.others) node in
    let qb : tree_at d2.trees part.image ≡ image (rule d.task) (tree_at d.trees o.body) = c.in_ok-part.ensures.link.is ∙ ap (λ (v : TaskTree). image (rule v) (tree_at d1.trees o.body)) x.task ∙ ap (image (rule d.task)) (tree_later d d1 x o.body e.body_held) in
    let qe : tree_at d2.trees o.others ≡ image (rule d.task) (tree_at d.trees o.others) = c.in-None.ensures.none refl ∙ sym (others (Leaf HEnd) tt) ∙ ap (image (rule d.task)) (sym (sym (tree_later d d2 xy o.others e.others_held) ∙ c.in-None.ensures.none refl)) in
    let q : Two HCase (tree_at d2.trees s) (Two HCell (Two HArm (tree_at d2.trees o.pattern) (tree_at d2.trees part.image)) (tree_at d2.trees o.others)) ≡ Two HCase (tree_at d.trees s) (image (rule d.task) (tree_at d.trees b)) =
    cc (
      tree_later d d2 xy s hs,
      ap (λ (v : Tree). Two HCell (Two HArm v (tree_at d2.trees part.image)) (tree_at d2.trees o.others)) (tree_later d d2 xy o.pattern e.pattern_held)
          ∙ arms_image (rule d.task) others (of_task d.task) E (tree_at d.trees o.pattern) (tree_at d.trees o.body) (tree_at d.trees o.others) (tree_at d2.trees part.image) (tree_at d2.trees o.others) pt.0 pt.1 qb qe ∙ ap (image (rule d.task)) (sym e.tree),
    ) in
    subst (λ (v : Tree). IfOk c.link_last.result (IsLinkOf c.link_last.new.draft env c.args.left n v)) q c.link_last.ensures.link

pub walk_arms-returns-clause-link : goal.walk_arms-returns-clause-link
walk_arms-returns-clause-link g t c =
    let d = c.args.draft.now in
    let env = c.args.env.now in
    let n = c.args.fresh in
    let p = c.requires.place in
    let o = c.first_branch-open.result in
    let e = c.first_branch-open.ensures in
    let s = c.args.scrutinee in
    let hs = c.requires.scrutinee_held in
    let node = c.requires.node ∙ ap (Two HCase (tree_at d.trees s)) e.tree in
    let d1 = c.open_branch.new.draft in
    let d2 = c.walk_tree.new.draft in
    let x = AddsTrees_extends d d1 c.in_ok-opened.ensures.grows in
    let y = c.in_ok-part.ensures.grows in
    let xy = Extends_trans d d1 d2 x y in
    let w = c.in_ok-opened.opened in
    let opened = opened_later d1 d2 y env c.args.left o.pattern o.body n w (held_later d d1 x o.pattern e.pattern_held) c.in_ok-opened.ensures.opened in
    let longer : c.deref-2.result.now ≡ env ++ w.terms.items = c.deref-2.ensures.value ∙ c.in_ok-longer.ensures ∙ ap (λ (z : List TermId). env ++ z) c.deref.ensures.value in
    let part = c.in_ok-part.part in
    let k : IsLinkOf d2 (env ++ w.terms.items) w.inner n (tree_at d2.trees part.image) part = link_again d2 (env ++ w.terms.items) w.inner n _ part (subst (λ (z : List TermId). IsLinkOf d2 z w.inner n (image (g.R.Rewrite.rule c.args.rewrite.now d1.task) (tree_at d1.trees o.body)) part) longer c.in_ok-part.ensures.link) in
    let d3 = c.rest_trees.new.draft in
    let z = AddsTrees_extends d2 d3 c.in_ok-rest-in-Some.ensures.grows in
    let xz = Extends_trans d d2 d3 xy z in
    let rest = c.in_ok-rest-in-Some.rest in
    let re = c.in_ok-rest-in-Some.ensures in
    let d4 = c.walk_arms.new.draft in
    let u = c.in_ok-more-in-Some.ensures.grows in
    let zu = Extends_trans d2 d3 d4 z u in
    let all = Extends_trans d d2 d4 xy zu in
    let more = c.in_ok-more-in-Some.more in
    let rule : TaskTree → Tree → Tree = g.R.Rewrite.rule c.args.rewrite.now in
    let others = g.R.Rewrite.others c.args.rewrite.now d.task in
    let b = c.args.arms in
    let E = types_for (trees_at d.trees env) in
    let pt = pattern_typed d env c.args.e c.args.left n p (tree_at d.trees s) (tree_at d.trees o.pattern) (tree_at d.trees o.body) (tree_at d.trees o.others) node in
    let qb : tree_at d2.trees part.image ≡ image (rule d.task) (tree_at d.trees o.body) = c.in_ok-part.ensures.link.is ∙ ap (λ (v : TaskTree). image (rule v) (tree_at d1.trees o.body)) x.task ∙ ap (image (rule d.task)) (tree_later d d1 x o.body e.body_held) in
    let O = image (rule d3.task) (tree_at d3.trees o.others) in
    let qm : tree_at d4.trees more.image ≡ Two HCase (tree_at d4.trees s) O = c.in_ok-more-in-Some.ensures.link.is ∙ ap (λ (v : Tree). Two HCase v O) (sym (tree_later d3 d4 u s (held_later d d3 xz s hs))) in
    let qo : O ≡ image (rule d.task) (tree_at d.trees o.others) = ap (λ (v : TaskTree). image (rule v) (tree_at d3.trees o.others)) xz.task ∙ ap (image (rule d.task)) (tree_later d d3 xz o.others e.others_held) in
    let qp : tree_at d4.trees part.image ≡ image (rule d.task) (tree_at d.trees o.body) = tree_later d2 d4 zu part.image k.place.open_held ∙ qb in
    let q : Two HCase (tree_at d4.trees s) (Two HCell (Two HArm (tree_at d4.trees o.pattern) (tree_at d4.trees part.image)) O) ≡ Two HCase (tree_at d.trees s) (image (rule d.task) (tree_at d.trees b)) =
    cc (
      tree_later d d4 all s hs,
      ap (λ (v : Tree). Two HCell (Two HArm v (tree_at d4.trees part.image)) O) (tree_later d d4 all o.pattern e.pattern_held)
          ∙ arms_image (rule d.task) others (of_task d.task) E (tree_at d.trees o.pattern) (tree_at d.trees o.body) (tree_at d.trees o.others) (tree_at d4.trees part.image) O pt.0 pt.1 qp qo ∙ ap (image (rule d.task)) (sym e.tree),
    ) in
    IfOk-weaker c.link_more.result _ _ (λ m h. subst (λ (v : Tree). IsLinkOf c.link_more.new.draft env c.args.left n v m) q (h _ qm)) c.link_more.ensures.link

pub walk_node-returns-clause-remembered : goal.walk_node-returns-clause-remembered
walk_node-returns-clause-remembered g t c = remembered_later c.walk_parts.new.draft c.chain.new.draft (Extends_trans _ _ _ c.in_ok-made.ensures.grows c.in_ok-alike.ensures.grows) (g.R.Rewrite.rule c.args.rewrite.now) c.walk_parts.new.links c.in_ok-parts.ensures.remembered

pub walk_parts-returns-in_ok-part-in-Not-clause-remembered : goal.walk_parts-returns-in_ok-part-in-Not-clause-remembered
walk_parts-returns-in_ok-part-in-Not-clause-remembered g t c = if_ok _ c.link_not.result (remembered_later c.walk_tree.new.draft c.link_not.new.draft c.link_not.ensures.grows (g.R.Rewrite.rule c.args.rewrite.now) c.walk_tree.new.links c.in_ok-part-in-Not.ensures.remembered)

pub walk_join-returns-clause-remembered : goal.walk_join-returns-clause-remembered
walk_join-returns-clause-remembered g t c = if_ok _ c.link_join.result (remembered_later c.walk_tree-2.new.draft c.link_join.new.draft c.link_join.ensures.grows (g.R.Rewrite.rule c.args.rewrite.now) c.walk_tree-2.new.links c.in_ok-two.ensures.remembered)

pub walk_equal-returns-clause-remembered : goal.walk_equal-returns-clause-remembered
walk_equal-returns-clause-remembered g t c = if_ok _ c.link_equal.result (remembered_later c.walk_tree-2.new.draft c.link_equal.new.draft c.link_equal.ensures.grows (g.R.Rewrite.rule c.args.rewrite.now) c.walk_tree-2.new.links c.in_ok-two.ensures.remembered)

pub walk_under-returns-clause-remembered : goal.walk_under-returns-clause-remembered
walk_under-returns-clause-remembered g t c = if_ok _ c.link_quantified.result (remembered_later c.walk_tree.new.draft c.link_quantified.new.draft c.link_quantified.ensures.grows (g.R.Rewrite.rule c.args.rewrite.now) c.walk_tree.new.links c.in_ok-part.ensures.remembered)

pub walk_symbol-returns-clause-remembered : goal.walk_symbol-returns-clause-remembered
walk_symbol-returns-clause-remembered g t c = if_ok _ c.link_symbol.result (remembered_later c.walk_arguments.new.draft c.link_symbol.new.draft c.link_symbol.ensures.grows (g.R.Rewrite.rule c.args.rewrite.now) c.walk_arguments.new.links c.in_ok-made.ensures.remembered)

pub walk_arguments-returns-in_ok-one-in-Some-clause-remembered : goal.walk_arguments-returns-in_ok-one-in-Some-clause-remembered
walk_arguments-returns-in_ok-one-in-Some-clause-remembered g t c = if_ok _ c.link_argument.result (remembered_later c.walk_tree.new.draft c.link_argument.new.draft c.link_argument.ensures.grows (g.R.Rewrite.rule c.args.rewrite.now) c.walk_tree.new.links c.in_ok-one-in-Some.ensures.remembered)

pub walk_let-returns-clause-remembered : goal.walk_let-returns-clause-remembered
walk_let-returns-clause-remembered g t c = if_ok _ c.link_let.result (remembered_later c.walk_tree-2.new.draft c.link_let.new.draft c.link_let.ensures.grows (g.R.Rewrite.rule c.args.rewrite.now) c.walk_tree-2.new.links c.in_ok-part.ensures.remembered)

pub walk_if-returns-clause-remembered : goal.walk_if-returns-clause-remembered
walk_if-returns-clause-remembered g t c = if_ok _ c.link_if.result (remembered_later c.walk_tree-3.new.draft c.link_if.new.draft c.link_if.ensures.grows (g.R.Rewrite.rule c.args.rewrite.now) c.walk_tree-3.new.links c.in_ok-three.ensures.remembered)

pub walk_case-returns-clause-remembered : goal.walk_case-returns-clause-remembered
walk_case-returns-clause-remembered g t c = if_ok _ c.link_case.result (remembered_later c.walk_arms.new.draft c.link_case.new.draft c.link_case.ensures.grows (g.R.Rewrite.rule c.args.rewrite.now) c.walk_arms.new.links c.in_ok-made.ensures.remembered)

pub walk_arms-returns-in-None-clause-remembered : goal.walk_arms-returns-in-None-clause-remembered
walk_arms-returns-in-None-clause-remembered g t c = if_ok _ c.link_last.result (remembered_later c.walk_tree.new.draft c.link_last.new.draft c.link_last.ensures.grows (g.R.Rewrite.rule c.args.rewrite.now) c.walk_tree.new.links c.in_ok-part.ensures.remembered)

pub walk_arms-returns-clause-remembered : goal.walk_arms-returns-clause-remembered
walk_arms-returns-clause-remembered g t c = if_ok _ c.link_more.result (remembered_later c.walk_arms.new.draft c.link_more.new.draft c.link_more.ensures.grows (g.R.Rewrite.rule c.args.rewrite.now) c.walk_arms.new.links c.in_ok-more-in-Some.ensures.remembered)

pub walk_tree-term_list-requires-clause-held : goal.walk_tree-term_list-requires-clause-held
walk_tree-term_list-requires-clause-held g t c =
    let d = c.args.draft.now in
    let p = c.requires.place in
    let env = c.args.env.now in
    let near = c.seen_terms-near.result.now in
    let far = c.seen_terms-near.ensures.last.0 in
    let q : env ≡ far ++ near = c.seen_terms-near.ensures.last.1 in
    let whole : IsInstanceAt d (far ++ near) c.args.e c.args.left c.args.fresh = subst (λ (z : List TermId). IsInstanceAt d z c.args.e c.args.left c.args.fresh) q p in
    let place = place_near d far near c.args.e c.args.left c.args.fresh whole (c.seen_terms-near.ensures.enough (seen_enough d env c.args.e c.args.left c.args.fresh p)) in
    place.env_held

pub walk_tree-term_list-requires-clause-terms : goal.walk_tree-term_list-requires-clause-terms
walk_tree-term_list-requires-clause-terms g t c =
    let d = c.args.draft.now in
    let p = c.requires.place in
    let env = c.args.env.now in
    let near = c.seen_terms-near.result.now in
    let far = c.seen_terms-near.ensures.last.0 in
    let q : env ≡ far ++ near = c.seen_terms-near.ensures.last.1 in
    let whole : IsInstanceAt d (far ++ near) c.args.e c.args.left c.args.fresh = subst (λ (z : List TermId). IsInstanceAt d z c.args.e c.args.left c.args.fresh) q p in
    let place = place_near d far near c.args.e c.args.left c.args.fresh whole (c.seen_terms-near.ensures.enough (seen_enough d env c.args.e c.args.left c.args.fresh p)) in
    seen_are_terms d near c.args.e c.args.left c.args.fresh place

pub walk_tree-returns-in-Some-clause-link : goal.walk_tree-returns-in-Some-clause-link
walk_tree-returns-in-Some-clause-link g t c =
    let d = c.args.draft.now in
    let d1 = c.term_list.new.draft in
    let x = AddsTrees_extends d d1 c.in_ok-list.ensures.grows in
    let p = c.requires.place in
    let env = c.args.env.now in
    let near = c.seen_terms-near.result.now in
    let far = c.seen_terms-near.ensures.last.0 in
    let q : env ≡ far ++ near = c.seen_terms-near.ensures.last.1 in
    let whole : IsInstanceAt d (far ++ near) c.args.e c.args.left c.args.fresh = subst (λ (z : List TermId). IsInstanceAt d z c.args.e c.args.left c.args.fresh) q p in
    let place = place_near d far near c.args.e c.args.left c.args.fresh whole (c.seen_terms-near.ensures.enough (seen_enough d env c.args.e c.args.left c.args.fresh p)) in
    let k = remembered_later d d1 x (g.R.Rewrite.rule c.args.rewrite.now) c.args.links.now c.requires.remembered c.args.e.0 c.in_ok-list.list.0 c.in-Some.made.now (sym c.in-Some.ensures.value) in
    let rule : TaskTree → Tree → Tree = g.R.Rewrite.rule c.args.rewrite.now in
    let terms = c.in_ok-list.ensures.tree ∙ ap (λ (z : List Tree). listed z (Leaf HEnd)) (sym (trees_later d d1 x near place.env_held)) in
    let made = remembered_link d1 (rule d1.task) far near c.args.e c.args.left c.in_ok-list.list c.args.fresh c.in-Some.made.now (place_later d d1 x (far ++ near) c.args.e c.args.left c.args.fresh whole) (place_later d d1 x near c.args.e c.args.left c.args.fresh place) terms k.2 in
    let i : image (rule d1.task) (tree_at d1.trees c.args.e) ≡ image (rule d.task) (tree_at d.trees c.args.e) = ap (λ (s : TaskTree). image (rule s) (tree_at d1.trees c.args.e)) x.task ∙ ap (image (rule d.task)) (tree_later d d1 x c.args.e p.open_held) in
    subst (λ (z : List TermId). IsLinkOf d1 z c.args.left c.args.fresh (image (rule d.task) (tree_at d.trees c.args.e)) c.in-Some.made.now) (sym q) (subst (λ (z : Tree). IsLinkOf d1 (far ++ near) c.args.left c.args.fresh z c.in-Some.made.now) i made)

pub walk_tree-returns-in-Some-clause-remembered : goal.walk_tree-returns-in-Some-clause-remembered
walk_tree-returns-in-Some-clause-remembered g t c = remembered_later c.args.draft.now c.term_list.new.draft (AddsTrees_extends _ _ c.in_ok-list.ensures.grows) (g.R.Rewrite.rule c.args.rewrite.now) c.args.links.now c.requires.remembered

pub walk_tree-walk_node-requires : goal.walk_tree-walk_node-requires
walk_tree-walk_node-requires g t c =
    let d = c.args.draft.now in
    let d1 = c.term_list.new.draft in
    let x = AddsTrees_extends d d1 c.in_ok-list.ensures.grows in
    let p = c.requires.place in
    let env = c.args.env.now in
    let near = c.seen_terms-near.result.now in
    let far = c.seen_terms-near.ensures.last.0 in
    let q : env ≡ far ++ near = c.seen_terms-near.ensures.last.1 in
    let whole : IsInstanceAt d (far ++ near) c.args.e c.args.left c.args.fresh = subst (λ (z : List TermId). IsInstanceAt d z c.args.e c.args.left c.args.fresh) q p in
    let place = place_near d far near c.args.e c.args.left c.args.fresh whole (c.seen_terms-near.ensures.enough (seen_enough d env c.args.e c.args.left c.args.fresh p)) in
    let ready = g.R.Rewrite.stays_ready c.args.rewrite.now d d1 x c.requires.ready in
    let links = remembered_later d d1 x (g.R.Rewrite.rule c.args.rewrite.now) c.args.links.now c.requires.remembered in
    λ κs h. (omega arith, (h, (ready, (links, place_later d d1 x near c.args.e c.args.left c.args.fresh place))))

pub walk_tree-returns-clause-link : goal.walk_tree-returns-clause-link
walk_tree-returns-clause-link g t c =
    let d = c.args.draft.now in
    let d1 = c.term_list.new.draft in
    let x = AddsTrees_extends d d1 c.in_ok-list.ensures.grows in
    let p = c.requires.place in
    let env = c.args.env.now in
    let near = c.seen_terms-near.result.now in
    let far = c.seen_terms-near.ensures.last.0 in
    let q : env ≡ far ++ near = c.seen_terms-near.ensures.last.1 in
    let whole : IsInstanceAt d (far ++ near) c.args.e c.args.left c.args.fresh = subst (λ (z : List TermId). IsInstanceAt d z c.args.e c.args.left c.args.fresh) q p in
    let place = place_near d far near c.args.e c.args.left c.args.fresh whole (c.seen_terms-near.ensures.enough (seen_enough d env c.args.e c.args.left c.args.fresh p)) in
    let d2 = c.walk_node.new.draft in
    let y = c.in_ok-made.ensures.grows in
    let xy = Extends_trans d d1 d2 x y in
    let rule : TaskTree → Tree → Tree = g.R.Rewrite.rule c.args.rewrite.now in
    let e = c.args.e in
    let i : image (rule d1.task) (tree_at d1.trees e) ≡ image (rule d.task) (tree_at d.trees e) = ap (λ (s : TaskTree). image (rule s) (tree_at d1.trees e)) x.task ∙ ap (image (rule d.task)) (tree_later d d1 x e p.open_held) in
    let whole2 = place_later d d2 xy (far ++ near) e c.args.left c.args.fresh whole in
    let made = link_whole d2 far near e c.args.left c.args.left c.args.fresh c.args.fresh (image (rule d1.task) (tree_at d1.trees e)) c.in_ok-made.made whole2 refl c.in_ok-made.ensures.link in
    subst (λ (z : List TermId). IsLinkOf d2 z c.args.left c.args.fresh (image (rule d.task) (tree_at d.trees e)) c.in_ok-made.made) (sym q) (subst (λ (z : Tree). IsLinkOf d2 (far ++ near) c.args.left c.args.fresh z c.in_ok-made.made) i made)

pub walk_tree-returns-clause-remembered : goal.walk_tree-returns-clause-remembered
walk_tree-returns-clause-remembered g t c =
    let d = c.args.draft.now in
    let d1 = c.term_list.new.draft in
    let x = AddsTrees_extends d d1 c.in_ok-list.ensures.grows in
    let p = c.requires.place in
    let env = c.args.env.now in
    let near = c.seen_terms-near.result.now in
    let far = c.seen_terms-near.ensures.last.0 in
    let q : env ≡ far ++ near = c.seen_terms-near.ensures.last.1 in
    let whole : IsInstanceAt d (far ++ near) c.args.e c.args.left c.args.fresh = subst (λ (z : List TermId). IsInstanceAt d z c.args.e c.args.left c.args.fresh) q p in
    let place = place_near d far near c.args.e c.args.left c.args.fresh whole (c.seen_terms-near.ensures.enough (seen_enough d env c.args.e c.args.left c.args.fresh p)) in
    let d2 = c.walk_node.new.draft in
    let y = c.in_ok-made.ensures.grows in
    let xy = Extends_trans d d1 d2 x y in
    let rule : TaskTree → Tree → Tree = g.R.Rewrite.rule c.args.rewrite.now in
    let e = c.args.e in
    let i : image (rule d1.task) (tree_at d1.trees e) ≡ image (rule d.task) (tree_at d.trees e) = ap (λ (s : TaskTree). image (rule s) (tree_at d1.trees e)) x.task ∙ ap (image (rule d.task)) (tree_later d d1 x e p.open_held) in
    let e2 : tree_at d2.trees e ≡ tree_at d.trees e = tree_later d d2 xy e p.open_held in
    let list = c.in_ok-list.list in
    let hl : Holds d2.trees list = held_later d1 d2 y list c.in_ok-list.ensures.held in
    let near2 = place_later d d2 xy near e c.args.left c.args.fresh place in
    let i2 : image (rule d1.task) (tree_at d1.trees e) ≡ image (rule d2.task) (tree_at d2.trees e) = i ∙ sym (ap (λ (s : TaskTree). image (rule s) (tree_at d2.trees e)) xy.task ∙ ap (image (rule d.task)) e2) in
    let terms : tree_at d2.trees list ≡ listed (trees_at d2.trees near) (Leaf HEnd) = tree_later d1 d2 y list c.in_ok-list.ensures.held ∙ c.in_ok-list.ensures.tree ∙ ap (λ (z : List Tree). listed z (Leaf HEnd)) (sym (trees_later d d2 xy near place.env_held)) in
    remembered_more d2 rule c.walk_node.new.links c.insert.new.self e list c.in_ok-made.made c.in_ok-made.ensures.remembered near2.open_held hl
    (record { env = near; left = c.args.left; fresh = c.args.fresh; terms = terms; left_held = near2.left_held; left_is = near2.at.is; link = subst (λ (z : Tree). IsLinkOf d2 near c.args.left c.args.fresh z c.in_ok-made.made) i2 c.in_ok-made.ensures.link }) c.in_ok-insert.ensures.updates.0

pub walk_tree-returns-in-Some-clause-grows : goal.walk_tree-returns-in-Some-clause-grows
walk_tree-returns-in-Some-clause-grows g t c = AddsTrees_extends _ _ c.in_ok-list.ensures.grows

pub walk_tree-returns-in_err-list-clause-grows : goal.walk_tree-returns-in_err-list-clause-grows
walk_tree-returns-in_err-list-clause-grows g t c = AddsTrees_extends _ _ c.in_err-list.ensures.grows

pub walk_tree-returns-in_err-made-clause-grows : goal.walk_tree-returns-in_err-made-clause-grows
walk_tree-returns-in_err-made-clause-grows g t c = Extends_trans _ _ _ (AddsTrees_extends _ _ c.in_ok-list.ensures.grows) c.in_err-made.ensures.grows

pub walk_tree-returns-in_err-insert-clause-grows : goal.walk_tree-returns-in_err-insert-clause-grows
walk_tree-returns-in_err-insert-clause-grows g t c = Extends_trans _ _ _ (AddsTrees_extends _ _ c.in_ok-list.ensures.grows) c.in_ok-made.ensures.grows

pub walk_tree-returns-clause-grows : goal.walk_tree-returns-clause-grows
walk_tree-returns-clause-grows g t c = Extends_trans _ _ _ (AddsTrees_extends _ _ c.in_ok-list.ensures.grows) c.in_ok-made.ensures.grows
