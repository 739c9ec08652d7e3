use Rattle.std.proofs.Common.{◌≡◌, ◌++◌, ◌∷◌, [], None}
use Rattle.scopes.specs.declared.Table.TheVariants.{Symbols}
use Rattle.scopes.specs.declared.Referent.TheVariants as stands
use Rattle.name_resolution.specs.Naming.{Tells}
use Rattle.name_resolution.proofs.Told.{of_rest}
use Rattle.elab_groups.specs.parts.Outcomes.{declared_in}
use Rattle.elab_groups.specs.members.Members.{member_made, members_made}
use Rattle.elab_groups.specs.members.Sources.{member_at, members_at}
use Rattle.elab_groups.proofs.members.NamesMade.{made_next}
use Rattle.elab_groups.proofs.members.naming.+declare_members.Goals as goal

pub returns-in-Some-checked_add-clause-told : goal.returns-in-Some-checked_add-clause-told
returns-in-Some-checked_add-clause-told t c =
    let names = c.args.scope.now in
    let m = member_at c.in-Some.first.now in
    let ms = members_at c.in-Some.rest.now in
    let ws = c.args.before.now.items in
    let own : c.in_ok-own.own ≡ m.called.name = rw c.as_slice.ensures at c.in_ok-own.ensures in
    let none : member_made (declared_in names Symbols) ws m.called m.params ≡ None = rw (c.as_slice-2.ensures.value, c.as_slice-3.ensures, own) at c.in_ok-declare_member.ensures.told in
    let told : Tells c.declare_members.result (members_made (declared_in names Symbols) (ws ++ m.called.name ∷ []) ms) = rw (c.in_ok-declare_member.ensures.ok, c.in_ok-push.ensures.items, c.as_slice-3.ensures, own, made_next names m.called.name (stands.Entry c.args.number) ws ms) at c.declare_members.ensures.told in
    rw c.in-Some.ensures.cases.0 (of_rest c.declare_members.result (member_made (declared_in names Symbols) ws m.called m.params) (members_made (declared_in names Symbols) (ws ++ m.called.name ∷ []) ms) none told)
