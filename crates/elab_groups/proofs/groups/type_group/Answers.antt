use Rattle.std.proofs.Common.{◌≡◌, List, map, sym, ap, subst, ◌∙◌}
use Rattle.tasks.specs.trees.Tree.{Tree}
use Rattle.tasks.specs.Meaning.{trees_at}
use Rattle.name_resolution.specs.Naming.{where_at}
use Rattle.open_types.specs.Drafts.{match_at}
use Rattle.elab_groups.specs.parts.Elaborated.{IsTypingFault}
use Rattle.elab_groups.proofs.parts.Putting.{matches_stay, matches_grow}
use Rattle.elab_groups.proofs.parts.Solving.{if_err}
use Rattle.elab_groups.specs.declared.members.signing.Signed.{Signed}
use Rattle.elab_groups.specs.members.Members.{SignatureTree}
use Rattle.elab_groups.specs.members.Sources.{members_at, signed_at}
use Rattle.elab_groups.proofs.members.SignaturesHeld.{all_signed_stay, all_signed_grow}
use Rattle.elab_groups.specs.Groups.{most_variables, bodies_pieces, pieces_notes, BodiesSolved, group_decls}
use Rattle.elab_groups.proofs.groups.type_group.Goals as goal

pub returns-in_err-it-clause-err : goal.returns-in_err-it-clause-err
returns-in_err-it-clause-err c =
    let s = c.args.store.now in
    let w = where_at s c.args.world.now in
    let ms = members_at c.args.members.now in
    let gs : List SignatureTree = map (signed_at s) c.args.entered.now.list.items in
    let k = rw c.as_slice-signed.ensures.value at c.in_err-it.ensures.err in
    if_err c.from_residual.result _ (IsTypingFault (most_variables gs) (pieces_notes (bodies_pieces w ms gs))) c.from_residual.ensures.1 (λ f h. rw h k)

pub group_decls-requires-clause-signed : goal.group_decls-requires-clause-signed
group_decls-requires-clause-signed c =
    rw c.as_slice-signed.ensures.value (all_signed_grow c.args.store.now c.solve_group.new.store c.in_ok-it.ensures.grows c.args.entered.now.list.items c.requires.signed)

pub group_decls-requires-clause-bodies : goal.group_decls-requires-clause-bodies
group_decls-requires-clause-bodies c = λ h. rw c.as_slice-bodies.ensures.value (c.in_ok-it.ensures.bodies h)

pub returns-clause-ok : goal.returns-clause-ok
returns-clause-ok c =
    let s = c.args.store.now in
    let s1 = c.solve_group.new.store in
    let s2 = c.group_decls.new.store in
    let p = c.args.place.now in
    let w = where_at s c.args.world.now in
    let ms = members_at c.args.members.now in
    let items = c.args.entered.now.list.items in
    let gs : List SignatureTree = map (signed_at s) items in
    let it = c.in_ok-it.it in
    let bodies : List Tree = trees_at s1 it.trees.items in
    let ok : BodiesSolved w ms gs bodies (map (match_at s1) it.matches) =
    subst (λ (xs : List Signed). BodiesSolved w ms (map (signed_at s) xs) bodies (map (match_at s1) it.matches)) c.as_slice-signed.ensures.value c.in_ok-it.ensures.ok in
    let signed : map (signed_at s1) c.as_slice-signed.result.now ≡ gs = ap (map (signed_at s1)) c.as_slice-signed.ensures.value ∙ all_signed_stay s s1 c.in_ok-it.ensures.grows items c.requires.signed in
    record {
      bodies = bodies;
      solved = subst (BodiesSolved w ms gs bodies) (sym (matches_stay s1 s2 c.in_ok-decls.ensures.grows it.matches c.in_ok-it.ensures.held.matches)) ok;
      decls = c.in_ok-decls.ensures.decls ∙ (ap (λ (xs : List SignatureTree). group_decls p.theory.now p.within.now ms c.args.entered.now.number xs (trees_at s1 c.as_slice-bodies.result.now)) signed
          ∙ ap (λ (xs : List Tree). group_decls p.theory.now p.within.now ms c.args.entered.now.number gs xs) (ap (trees_at s1) c.as_slice-bodies.ensures.value));
      rigid = c.new.ensures;
      decls_held = c.in_ok-decls.ensures.held;
      matches_held = matches_grow s1 s2 c.in_ok-decls.ensures.grows it.matches c.in_ok-it.ensures.held.matches;
    }
