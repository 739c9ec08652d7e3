use Rattle.std.proofs.Common.{refl, arith}
use Rattle.std.proofs.lemmas.Result.{IfOk-weaker}
use Rattle.agreement.proofs.MemberParts.{other_cell, others_lists, more_added, none_added}
use Rattle.agreement.proofs.members.+push_members.Goals as goal

pub member_parts-two-requires-clause-cell : goal.member_parts-two-requires-clause-cell
member_parts-two-requires-clause-cell t c = other_cell c.args.draft.now c.args.q c.args.list c.args.other c.requires.lists c.in-Some.one.first c.in-Some.one.others c.in-Some.ensures.some

pub push_members-requires : goal.push_members-requires
push_members-requires t c =
    let one = c.in-Some.one in
    let some = c.in-Some.ensures in
    let two = c.member_parts-two.result in
    let m = c.member_parts-two.ensures in
    let lists = others_lists c.args.draft.now c.args.q c.args.list c.args.other c.requires.lists one.first one.others some.some two.first two.others m.tree some.first_below some.others_below m.first_held m.others_held in
    (omega (arith, some.others_below), lists)

pub returns-in-None : goal.returns-in-None
returns-in-None t c = record { adds = none_added c.args.draft.now c.args.q c.args.list c.args.other c.requires.lists c.args.questions.now.items (c.in-None.ensures.none refl) }

pub returns-in_ok-push-in-Some : goal.returns-in_ok-push-in-Some
returns-in_ok-push-in-Some t c =
    let one = c.in-Some.one in
    let some = c.in-Some.ensures in
    let two = c.member_parts-two.result in
    let m = c.member_parts-two.ensures in
    record {
      adds = IfOk-weaker c.push_members.result _ _
          (λ u a. more_added c.args.draft.now c.args.q c.args.list c.args.other c.requires.lists one.first one.others some.some two.first two.others m.tree some.first_below some.others_below m.first_held m.others_held
          c.args.questions.now.items c.push.new.self.items c.push_members.new.questions.items c.in_ok-push-in-Some.ensures.items a)
          c.push_members.ensures.adds;
    }
