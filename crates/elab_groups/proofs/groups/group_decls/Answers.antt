use Rattle.std.proofs.Common.{◌≡◌, ◌++◌, ◌∷◌, List, map, length, sym, ap, subst, ◌∙◌}
use Rattle.tasks.specs.Task.{DeclarationTree}
use Rattle.tasks.specs.Meaning.{trees_at, declarations_at}
use Rattle.name_resolution.specs.surface.Lexeme.{Word}
use Rattle.open_types.proofs.Noting.{no_elements}
use Rattle.elab_groups.specs.declared.members.sources.MemberSource.{MemberSource}
use Rattle.elab_groups.specs.declared.members.signing.Signed.{Signed}
use Rattle.elab_groups.specs.members.Sources.{member_at, members_at, signed_at}
use Rattle.elab_groups.specs.Groups.{group_body, group_decls}
use Rattle.elab_groups.specs.Bodies.{AreDefined, AllHaveBodies}
use Rattle.elab_groups.proofs.Defining.{whole_defined, one_held, one_made}
use Rattle.elab_groups.proofs.groups.group_decls.Goals as goal

pub body_of_group-requires-clause-bodies : goal.body_of_group-requires-clause-bodies
body_of_group-requires-clause-bodies c = λ h.
    let m = member_at c.in-Some.first.now in
    let ms = members_at c.in-Some.field-0-1.now in
    let e = c.in-Some.ensures.cases.0 in
    let whole : AllHaveBodies (m ∷ ms) = subst (λ (xs : List MemberSource). AllHaveBodies (members_at xs)) e c.requires.whole in
    let defined : AreDefined (members_at c.args.members.now) = subst (λ (xs : List MemberSource). AreDefined (members_at xs)) (sym e) (whole_defined m ms whole h) in
    c.requires.bodies defined

pub returns-in_default-clause-decls : goal.returns-in_default-clause-decls
returns-in_default-clause-decls c =
    let s = c.args.store.now in
    let p = c.args.place.now in
    let gs = map (signed_at s) c.args.signed.now in
    let e = no_elements c.args.members.now c.in_default.ensures.cases in
    ap (declarations_at s) c.new-decls.ensures ∙ sym (ap (λ (xs : List MemberSource). group_decls p.theory.now p.within.now (members_at xs) c.args.number gs (trees_at s c.args.bodies.now)) e)

pub returns-in_default-split_first-clause-decls : goal.returns-in_default-split_first-clause-decls
returns-in_default-split_first-clause-decls c =
    let s = c.args.store.now in
    let p = c.args.place.now in
    let bs = trees_at s c.args.bodies.now in
    let ms = members_at (c.in-Some.first.now ∷ c.in-Some.field-0-1.now) in
    let e = c.in-Some.ensures.cases.0 in
    let f = no_elements c.args.signed.now c.in_default-split_first.ensures.cases in
    ap (declarations_at s) c.new-decls.ensures
    ∙ sym (ap (λ (xs : List MemberSource). group_decls p.theory.now p.within.now (members_at xs) c.args.number (map (signed_at s) c.args.signed.now) bs) e
    ∙ ap (λ (its : List Signed). group_decls p.theory.now p.within.now ms c.args.number (map (signed_at s) its) bs) f)

pub returns-clause-held : goal.returns-clause-held
returns-clause-held c = rw c.in_ok-push.ensures.ok (one_held c.body_of_group.new.store c.new-decls.result _ c.new-decls.ensures c.in_ok-body.ensures.held)

same_declaration : (a b : DeclarationTree) → a.theory ≡ b.theory → a.name ≡ b.name → a.vars ≡ b.vars → a.body ≡ b.body → a ≡ b
same_declaration a b t n v y =
    let parts : DeclarationTree = record { theory = a.theory; name = a.name; vars = a.vars; body = a.body } in
    let z : parts ≡ record { theory = b.theory; name = b.name; vars = b.vars; body = b.body } = cc (t, n, v, y) in
    z

pub returns-clause-decls : goal.returns-clause-decls
returns-clause-decls c =
    let s = c.args.store.now in
    let s1 = c.body_of_group.new.store in
    let p = c.args.place.now in
    let bs = trees_at s c.args.bodies.now in
    let m = member_at c.in-Some.first.now in
    let ms = members_at c.in-Some.field-0-1.now in
    let g = signed_at s c.in-Some-split_first.one.now in
    let gs = map (signed_at s) c.in-Some-split_first.field-0-1.now in
    let e = c.in-Some.ensures.cases.0 in
    let f = c.in-Some-split_first.ensures.cases.0 in
    let own : c.in_ok-own.own ≡ m.called.name = rw c.as_slice.ensures at c.in_ok-own.ensures in
    let name : c.in_ok-join_words.field-0 ≡ p.within.now ++ m.called.name = c.in_ok-join_words.ensures ∙ ap (λ (w : Word). p.within.now ++ w) (c.as_slice-2.ensures ∙ own) in
    let body = c.in_ok-body.ensures.body ∙ ap (λ (its : List Signed). group_body m.body c.args.number (map (signed_at s) its) bs) f in
    let theory = c.in_ok-from_slice.ensures in
    let vars = c.len.ensures in
    let x : DeclarationTree = record { theory = p.theory.now; name = p.within.now ++ m.called.name; vars = length g.vars; body = group_body m.body c.args.number (g ∷ gs) bs } in
    rw c.in_ok-push.ensures.ok (one_made s1 c.new-decls.result _ x c.new-decls.ensures (same_declaration _ x theory name vars body)
    ∙ sym (ap (λ (xs : List MemberSource). group_decls p.theory.now p.within.now (members_at xs) c.args.number (map (signed_at s) c.args.signed.now) bs) e
    ∙ ap (λ (its : List Signed). group_decls p.theory.now p.within.now (m ∷ ms) c.args.number (map (signed_at s) its) bs) f))
