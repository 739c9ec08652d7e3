use Rattle.std.proofs.Common.{◌≡◌, map, true, sym, ap, ◌∙◌}
use Rattle.std.specs.Option.{is_some}
use Rattle.tasks.specs.Task.{Defines}
use Rattle.tasks.specs.Meaning.{trees_at}
use Rattle.elab_groups.specs.members.Sources.{member_at, signed_at}
use Rattle.elab_groups.specs.Groups.{group_body}
use Rattle.elab_groups.proofs.Defining.{body_given, body_lacking, group_defined}
use Rattle.elab_groups.proofs.groups.body_of_group.Goals as goal

pub push_definitions-requires-clause-bodies : goal.push_definitions-requires-clause-bodies
push_definitions-requires-clause-bodies c = c.requires.bodies (body_given c.args.first.now.body c.is_none.result c.is_none.ensures c.if-is_none.false)

pub returns-then-is_none-clause-body : goal.returns-then-is_none-clause-body
returns-then-is_none-clause-body c =
    let s = c.args.store.now in
    sym (ap (λ b. group_body b c.args.number (map (signed_at s) c.args.signed.now) (trees_at s c.args.bodies.now)) (body_lacking c.args.first.now.body c.is_none.result c.is_none.ensures c.if-is_none.true))

pub returns-clause-body : goal.returns-clause-body
returns-clause-body c =
    let s = c.args.store.now in
    let some : is_some (member_at c.args.first.now).body ≡ true = body_given c.args.first.now.body c.is_none.result c.is_none.ensures c.if-is_none.false in
    ap Defines (rw c.new-defs.ensures at c.in_ok-push_definitions.ensures.defined) ∙ sym (group_defined (member_at c.args.first.now).body c.args.number (map (signed_at s) c.args.signed.now) (trees_at s c.args.bodies.now) some)
