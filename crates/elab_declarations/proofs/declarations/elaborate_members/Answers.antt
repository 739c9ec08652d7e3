use Rattle.std.proofs.Common.{◌≡◌, List, ◌∷◌, IfOk, IfErr, sym, ap, subst, ◌∙◌}
use Rattle.elab_groups.specs.parts.Declarations.{GroupMember, member_group}
use Rattle.elab_groups.specs.parts.Outcomes.{setting}
use Rattle.elab_groups.specs.members.Sources.{member_at, members_at}
use Rattle.elab_groups.specs.Bodies.{AllHaveBodies}
use Rattle.elab_declarations.specs.Heads.{later_members}
use Rattle.elab_declarations.specs.Outcomes.{IsElaborated, IsRefusal}
use Rattle.elab_declarations.proofs.Heads.{others_defined}
use Rattle.elab_declarations.proofs.declarations.elaborate_members.Goals as goal

pub elaborate_group-requires-clause-whole : goal.elaborate_group-requires-clause-whole
elaborate_group-requires-clause-whole c =
    let heads : List GroupMember = member_at c.args.first ∷ later_members c.args.others.now in
    let q : members_at c.as_slice.result.now ≡ heads = ap members_at c.as_slice.ensures.value ∙ (rw (c.in_ok-push.ensures.items, c.new-list.ensures.items) at c.in_ok-gather_members.ensures) in
    subst AllHaveBodies (sym q) (λ h. others_defined c.args.others.now)

pub returns-clause-ok : goal.returns-clause-ok
returns-clause-ok c =
    let heads : List GroupMember = member_at c.args.first ∷ later_members c.args.others.now in
    let q : members_at c.as_slice.result.now ≡ heads = ap members_at c.as_slice.ensures.value ∙ (rw (c.in_ok-push.ensures.items, c.new-list.ensures.items) at c.in_ok-gather_members.ensures) in
    let st = setting c.args.place.now c.args.store.now c.args.sig.now c.args.scope.now in
    let P : List GroupMember → Type 0 = λ ms. IfOk c.elaborate_group.result (IsElaborated st (member_group ms) c.args.sig.now c.elaborate_group.new.store c.elaborate_group.new.sig c.elaborate_group.new.scope) in
    subst P q c.elaborate_group.ensures.ok

pub returns-clause-err : goal.returns-clause-err
returns-clause-err c =
    let heads : List GroupMember = member_at c.args.first ∷ later_members c.args.others.now in
    let q : members_at c.as_slice.result.now ≡ heads = ap members_at c.as_slice.ensures.value ∙ (rw (c.in_ok-push.ensures.items, c.new-list.ensures.items) at c.in_ok-gather_members.ensures) in
    let st = setting c.args.place.now c.args.store.now c.args.sig.now c.args.scope.now in
    let P : List GroupMember → Type 0 = λ ms. IfErr c.elaborate_group.result (IsRefusal st (member_group ms)) in
    subst P q c.elaborate_group.ensures.err
