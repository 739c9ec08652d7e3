use Rattle.std.proofs.Common.{◌≡◌, List, [], map, length, sym, ap, ◌∙◌}
use Rattle.std.proofs.Math.ListN.{length-map}
use Rattle.std.proofs.lemmas.Result.{IfOk-weaker, IfErr-weaker}
use Rattle.tasks.specs.trees.Sorts.{sort_of}
use Rattle.tasks.specs.Meaning.{trees_at}
use Rattle.name_resolution.specs.Naming.{where_at}
use Rattle.open_types.specs.Pieces.{NotedTree}
use Rattle.open_types.specs.Drafts.{match_at, notes_at}
use Rattle.elab_groups.specs.parts.Elaborated.{IsTypingFault}
use Rattle.elab_groups.specs.parts.Values.{notes_after}
use Rattle.elab_groups.proofs.parts.Solving.{begun_after, begun_ready, few_takers}
use Rattle.elab_groups.specs.members.Members.{SignatureTree}
use Rattle.elab_groups.specs.members.Sources.{member_at, members_at, signed_at}
use Rattle.elab_groups.specs.declared.solving.Bodies.{Bodies}
use Rattle.elab_groups.specs.Groups.{most_variables, bodies_pieces, pieces_notes, pieces_trees, BodiesSolved}
use Rattle.elab_groups.specs.Bodies.{AreDefined, AreBodies, AreBodiesWalked, BodiesHeld}
use Rattle.elab_groups.proofs.BodiesBelow.{bodies_bounded}
use Rattle.elab_groups.proofs.BodiesSolved.{solved_moved, fault_moved, bounded_moved}
use Rattle.elab_groups.proofs.solving.solve_group.Goals as goal
use Rattle.tasks.proofs.plain_laws.Results.{if_ok_both}

pub walk_bodies-requires-clause-ready : goal.walk_bodies-requires-clause-ready
walk_bodies-requires-clause-ready c = begun_ready c.args.store.now c.in_ok-draft.draft c.in_ok-draft.ensures.equations c.in_ok-draft.ensures.matches

pub solve_bodies-requires-clause-ready : goal.solve_bodies-requires-clause-ready
solve_bodies-requires-clause-ready c =
    let s = c.args.store.now in
    let s1 = c.walk_bodies.new.store in
    let d0 = c.in_ok-draft.draft in
    let d1 = c.walk_bodies.new.draft in
    let ids = c.walk_bodies.new.ids.items in
    let w = where_at s c.args.world.now in
    let ms = members_at c.args.members.now in
    let its = c.args.signed.now in
    let gs : List SignatureTree = map (signed_at s) its in
    let ps : List NotedTree = bodies_pieces w ms gs in
    let k = c.most_variables-rigid.result in
    let rigid : k ≡ most_variables gs = c.most_variables-rigid.ensures s in
    let takers : length d0.takers ≡ most_variables gs = c.in_ok-draft.ensures.takers ∙ rigid in
    let a : AreBodiesWalked ps ms its s d0 [] s1 d1 ids = rw (takers, c.new-ids.ensures.items) at c.in_ok-walk_bodies.ensures.walked in
    a.noted.ready

pub solve_bodies-requires-clause-own : goal.solve_bodies-requires-clause-own
solve_bodies-requires-clause-own c =
    let s = c.args.store.now in
    let s1 = c.walk_bodies.new.store in
    let d0 = c.in_ok-draft.draft in
    let d1 = c.walk_bodies.new.draft in
    let ids = c.walk_bodies.new.ids.items in
    let w = where_at s c.args.world.now in
    let ms = members_at c.args.members.now in
    let its = c.args.signed.now in
    let gs : List SignatureTree = map (signed_at s) its in
    let ps : List NotedTree = bodies_pieces w ms gs in
    let k = c.most_variables-rigid.result in
    let rigid : k ≡ most_variables gs = c.most_variables-rigid.ensures s in
    let takers : length d0.takers ≡ most_variables gs = c.in_ok-draft.ensures.takers ∙ rigid in
    let a : AreBodiesWalked ps ms its s d0 [] s1 d1 ids = rw (takers, c.new-ids.ensures.items) at c.in_ok-walk_bodies.ensures.walked in
    few_takers k c.in_ok-draft.ensures.takers a.noted

pub solve_bodies-requires-clause-ids : goal.solve_bodies-requires-clause-ids
solve_bodies-requires-clause-ids c =
    let s = c.args.store.now in
    let s1 = c.walk_bodies.new.store in
    let d0 = c.in_ok-draft.draft in
    let d1 = c.walk_bodies.new.draft in
    let ids = c.walk_bodies.new.ids.items in
    let w = where_at s c.args.world.now in
    let ms = members_at c.args.members.now in
    let its = c.args.signed.now in
    let gs : List SignatureTree = map (signed_at s) its in
    let ps : List NotedTree = bodies_pieces w ms gs in
    let k = c.most_variables-rigid.result in
    let rigid : k ≡ most_variables gs = c.most_variables-rigid.ensures s in
    let takers : length d0.takers ≡ most_variables gs = c.in_ok-draft.ensures.takers ∙ rigid in
    let a : AreBodiesWalked ps ms its s d0 [] s1 d1 ids = rw (takers, c.new-ids.ensures.items) at c.in_ok-walk_bodies.ensures.walked in
    rw c.as_slice.ensures.value a.held

pub solve_bodies-requires-clause-bounded : goal.solve_bodies-requires-clause-bounded
solve_bodies-requires-clause-bounded c =
    let s = c.args.store.now in
    let s1 = c.walk_bodies.new.store in
    let d0 = c.in_ok-draft.draft in
    let d1 = c.walk_bodies.new.draft in
    let ids = c.walk_bodies.new.ids.items in
    let w = where_at s c.args.world.now in
    let ms = members_at c.args.members.now in
    let its = c.args.signed.now in
    let gs : List SignatureTree = map (signed_at s) its in
    let ps : List NotedTree = bodies_pieces w ms gs in
    let k = c.most_variables-rigid.result in
    let rigid : k ≡ most_variables gs = c.most_variables-rigid.ensures s in
    let takers : length d0.takers ≡ most_variables gs = c.in_ok-draft.ensures.takers ∙ rigid in
    let a : AreBodiesWalked ps ms its s d0 [] s1 d1 ids = rw (takers, c.new-ids.ensures.items) at c.in_ok-walk_bodies.ensures.walked in
    let e : notes_after (most_variables gs) (notes_at s1 d1) ≡ pieces_notes ps = begun_after (most_variables gs) c.in_ok-draft.ensures.equations takers c.in_ok-draft.ensures.matches a.noted in
    let trees : trees_at s1 c.as_slice.result.now ≡ pieces_trees ps = ap (trees_at s1) c.as_slice.ensures.value ∙ a.trees in
    bounded_moved k (most_variables gs) (notes_at s1 d1) (pieces_notes ps) (trees_at s1 c.as_slice.result.now) (pieces_trees ps) rigid e trees (bodies_bounded w c.requires.scoped ms gs c.requires.resolved c.requires.own)

pub returns-clause-bodies : goal.returns-clause-bodies
returns-clause-bodies c =
    let s = c.args.store.now in
    let s1 = c.walk_bodies.new.store in
    let d0 = c.in_ok-draft.draft in
    let d1 = c.walk_bodies.new.draft in
    let ids = c.walk_bodies.new.ids.items in
    let w = where_at s c.args.world.now in
    let ms = members_at c.args.members.now in
    let its = c.args.signed.now in
    let gs : List SignatureTree = map (signed_at s) its in
    let ps : List NotedTree = bodies_pieces w ms gs in
    let k = c.most_variables-rigid.result in
    let rigid : k ≡ most_variables gs = c.most_variables-rigid.ensures s in
    let takers : length d0.takers ≡ most_variables gs = c.in_ok-draft.ensures.takers ∙ rigid in
    let a : AreBodiesWalked ps ms its s d0 [] s1 d1 ids = rw (takers, c.new-ids.ensures.items) at c.in_ok-walk_bodies.ensures.walked in
    let trees : trees_at s1 c.as_slice.result.now ≡ pieces_trees ps = ap (trees_at s1) c.as_slice.ensures.value ∙ a.trees in
    let s2 = c.solve_bodies.new.store in
    let each : length ms ≡ length its = length-map c.args.members.now member_at ∙ sym c.requires.each in
    if_ok_both c.solve_bodies.result (BodiesHeld s2) (λ (it : Bodies). map sort_of (trees_at s2 it.trees.items) ≡ map sort_of (trees_at s1 c.as_slice.result.now)) (λ (it : Bodies). AreDefined ms → AreBodies s2 its it.trees.items)
    (λ it h q defined. record { held = h.trees; sorts = q ∙ (ap (map sort_of) trees ∙ a.sorts each defined) }) c.solve_bodies.ensures.held c.solve_bodies.ensures.sorts

pub returns-clause-ok : goal.returns-clause-ok
returns-clause-ok c =
    let s = c.args.store.now in
    let s1 = c.walk_bodies.new.store in
    let d0 = c.in_ok-draft.draft in
    let d1 = c.walk_bodies.new.draft in
    let ids = c.walk_bodies.new.ids.items in
    let w = where_at s c.args.world.now in
    let ms = members_at c.args.members.now in
    let its = c.args.signed.now in
    let gs : List SignatureTree = map (signed_at s) its in
    let ps : List NotedTree = bodies_pieces w ms gs in
    let k = c.most_variables-rigid.result in
    let rigid : k ≡ most_variables gs = c.most_variables-rigid.ensures s in
    let takers : length d0.takers ≡ most_variables gs = c.in_ok-draft.ensures.takers ∙ rigid in
    let a : AreBodiesWalked ps ms its s d0 [] s1 d1 ids = rw (takers, c.new-ids.ensures.items) at c.in_ok-walk_bodies.ensures.walked in
    let e : notes_after (most_variables gs) (notes_at s1 d1) ≡ pieces_notes ps = begun_after (most_variables gs) c.in_ok-draft.ensures.equations takers c.in_ok-draft.ensures.matches a.noted in
    let trees : trees_at s1 c.as_slice.result.now ≡ pieces_trees ps = ap (trees_at s1) c.as_slice.ensures.value ∙ a.trees in
    let s2 = c.solve_bodies.new.store in
    IfOk-weaker c.solve_bodies.result _ (λ (it : Bodies). BodiesSolved w ms gs (trees_at s2 it.trees.items) (map (match_at s2) it.matches))
    (λ it h. solved_moved k (most_variables gs) (notes_at s1 d1) (pieces_notes ps) (trees_at s1 c.as_slice.result.now) (pieces_trees ps) (trees_at s2 it.trees.items) (map (match_at s2) it.matches) rigid e trees h) c.solve_bodies.ensures.ok

pub returns-clause-err : goal.returns-clause-err
returns-clause-err c =
    let s = c.args.store.now in
    let s1 = c.walk_bodies.new.store in
    let d0 = c.in_ok-draft.draft in
    let d1 = c.walk_bodies.new.draft in
    let ids = c.walk_bodies.new.ids.items in
    let w = where_at s c.args.world.now in
    let ms = members_at c.args.members.now in
    let its = c.args.signed.now in
    let gs : List SignatureTree = map (signed_at s) its in
    let ps : List NotedTree = bodies_pieces w ms gs in
    let k = c.most_variables-rigid.result in
    let rigid : k ≡ most_variables gs = c.most_variables-rigid.ensures s in
    let takers : length d0.takers ≡ most_variables gs = c.in_ok-draft.ensures.takers ∙ rigid in
    let a : AreBodiesWalked ps ms its s d0 [] s1 d1 ids = rw (takers, c.new-ids.ensures.items) at c.in_ok-walk_bodies.ensures.walked in
    let e : notes_after (most_variables gs) (notes_at s1 d1) ≡ pieces_notes ps = begun_after (most_variables gs) c.in_ok-draft.ensures.equations takers c.in_ok-draft.ensures.matches a.noted in
    IfErr-weaker c.solve_bodies.result _ (IsTypingFault (most_variables gs) (pieces_notes ps)) (λ f h. fault_moved k (most_variables gs) (notes_at s1 d1) (pieces_notes ps) f rigid e h) c.solve_bodies.ensures.err
