use Rattle.std.proofs.Common.{refl, sym}
use Rattle.surface.specs.Surface as code
use Rattle.surface.specs.Surface.{op_of}
use Rattle.name_resolution.specs.Abstract.{operator_meaning, expression_of, let_name}
use Rattle.name_resolution.proofs.Nodes.{expression_at-Apply, expression_at-Int, expression_at-True, expression_at-False, expression_at-Group, expression_at-Cast, expression_at-Prefix, expression_at-Dot, expression_at-Fields, expression_at-Not, expression_at-Binary, expression_at-If, expression_at-Let, expression_at-Match, expression_at-Quant}
use Rattle.name_resolution.proofs.Told.{group_many, operated_head, operated_token, let_head, let_token}
use Rattle.name_resolution.proofs.triggers.+heads.Goals as goal

pub group_trigger-returns-else-list-eq1-clause-head : goal.group_trigger-returns-else-list-eq1-clause-head
group_trigger-returns-else-list-eq1-clause-head t c = rw (group_many c.args.token c.args.list.now c.if-list-eq1.false) c.no_head.ensures.head

pub group_trigger-returns-else-list-eq1-clause-token : goal.group_trigger-returns-else-list-eq1-clause-token
group_trigger-returns-else-list-eq1-clause-token t c = rw (group_many c.args.token c.args.list.now c.if-list-eq1.false) c.no_head.ensures.token

pub trigger_of-returns-in-Apply-clause-head : goal.trigger_of-returns-in-Apply-clause-head
trigger_of-returns-in-Apply-clause-head t c = let is = expression_at-Apply c.args.e.now c.in-Apply.name c.in-Apply.field-1 c.in-Apply.is in rw is refl

pub trigger_of-returns-in-Apply-clause-token : goal.trigger_of-returns-in-Apply-clause-token
trigger_of-returns-in-Apply-clause-token t c = let is = expression_at-Apply c.args.e.now c.in-Apply.name c.in-Apply.field-1 c.in-Apply.is in rw is refl

pub trigger_of-returns-in-Prefix-clause-head : goal.trigger_of-returns-in-Prefix-clause-head
trigger_of-returns-in-Prefix-clause-head t c = let is = expression_at-Prefix c.args.e.now c.in-Prefix.op c.in-Prefix.field-1 c.in-Prefix.is in rw is refl

pub trigger_of-returns-in-Prefix-clause-token : goal.trigger_of-returns-in-Prefix-clause-token
trigger_of-returns-in-Prefix-clause-token t c = let is = expression_at-Prefix c.args.e.now c.in-Prefix.op c.in-Prefix.field-1 c.in-Prefix.is in rw is refl

pub trigger_of-returns-in-Int-clause-head : goal.trigger_of-returns-in-Int-clause-head
trigger_of-returns-in-Int-clause-head t c = let is = expression_at-Int c.args.e.now c.in-Int.field-0 c.in-Int.is in rw is c.no_head.ensures.head

pub trigger_of-returns-in-Int-clause-token : goal.trigger_of-returns-in-Int-clause-token
trigger_of-returns-in-Int-clause-token t c = let is = expression_at-Int c.args.e.now c.in-Int.field-0 c.in-Int.is in rw is c.no_head.ensures.token

pub trigger_of-returns-in-True-clause-head : goal.trigger_of-returns-in-True-clause-head
trigger_of-returns-in-True-clause-head t c = let is = expression_at-True c.args.e.now c.in-True.is in rw is c.no_head-in-True.ensures.head

pub trigger_of-returns-in-True-clause-token : goal.trigger_of-returns-in-True-clause-token
trigger_of-returns-in-True-clause-token t c = let is = expression_at-True c.args.e.now c.in-True.is in rw is c.no_head-in-True.ensures.token

pub trigger_of-returns-in-False-clause-head : goal.trigger_of-returns-in-False-clause-head
trigger_of-returns-in-False-clause-head t c = let is = expression_at-False c.args.e.now c.in-False.is in rw is c.no_head-in-False.ensures.head

pub trigger_of-returns-in-False-clause-token : goal.trigger_of-returns-in-False-clause-token
trigger_of-returns-in-False-clause-token t c = let is = expression_at-False c.args.e.now c.in-False.is in rw is c.no_head-in-False.ensures.token

pub trigger_of-returns-in-Cast-clause-head : goal.trigger_of-returns-in-Cast-clause-head
trigger_of-returns-in-Cast-clause-head t c = let is = expression_at-Cast c.args.e.now c.in-Cast.field-0 c.in-Cast.field-1 c.in-Cast.is in rw is c.no_head-in-Cast.ensures.head

pub trigger_of-returns-in-Cast-clause-token : goal.trigger_of-returns-in-Cast-clause-token
trigger_of-returns-in-Cast-clause-token t c = let is = expression_at-Cast c.args.e.now c.in-Cast.field-0 c.in-Cast.field-1 c.in-Cast.is in rw is c.no_head-in-Cast.ensures.token

pub trigger_of-returns-in-Match-clause-head : goal.trigger_of-returns-in-Match-clause-head
trigger_of-returns-in-Match-clause-head t c = let is = expression_at-Match c.args.e.now c.in-Match.field-0 c.in-Match.field-1 c.in-Match.field-2 c.in-Match.is in rw is c.no_head-in-Match.ensures.head

pub trigger_of-returns-in-Match-clause-token : goal.trigger_of-returns-in-Match-clause-token
trigger_of-returns-in-Match-clause-token t c = let is = expression_at-Match c.args.e.now c.in-Match.field-0 c.in-Match.field-1 c.in-Match.field-2 c.in-Match.is in rw is c.no_head-in-Match.ensures.token

pub trigger_of-returns-in-Dot-clause-head : goal.trigger_of-returns-in-Dot-clause-head
trigger_of-returns-in-Dot-clause-head t c = let is = expression_at-Dot c.args.e.now c.in-Dot.field-0 c.in-Dot.field-1 c.in-Dot.is in rw is c.no_head-in-Dot.ensures.head

pub trigger_of-returns-in-Dot-clause-token : goal.trigger_of-returns-in-Dot-clause-token
trigger_of-returns-in-Dot-clause-token t c = let is = expression_at-Dot c.args.e.now c.in-Dot.field-0 c.in-Dot.field-1 c.in-Dot.is in rw is c.no_head-in-Dot.ensures.token

pub trigger_of-returns-in-Not-clause-head : goal.trigger_of-returns-in-Not-clause-head
trigger_of-returns-in-Not-clause-head t c = let is = expression_at-Not c.args.e.now c.in-Not.field-0 c.in-Not.is in rw is c.no_head-in-Not.ensures.head

pub trigger_of-returns-in-Not-clause-token : goal.trigger_of-returns-in-Not-clause-token
trigger_of-returns-in-Not-clause-token t c = let is = expression_at-Not c.args.e.now c.in-Not.field-0 c.in-Not.is in rw is c.no_head-in-Not.ensures.token

pub trigger_of-returns-in-If-clause-head : goal.trigger_of-returns-in-If-clause-head
trigger_of-returns-in-If-clause-head t c = let is = expression_at-If c.args.e.now c.in-If.field-0 c.in-If.field-1 c.in-If.field-2 c.in-If.is in rw is c.no_head-in-If.ensures.head

pub trigger_of-returns-in-If-clause-token : goal.trigger_of-returns-in-If-clause-token
trigger_of-returns-in-If-clause-token t c = let is = expression_at-If c.args.e.now c.in-If.field-0 c.in-If.field-1 c.in-If.field-2 c.in-If.is in rw is c.no_head-in-If.ensures.token

pub trigger_of-returns-in-Quant-clause-head : goal.trigger_of-returns-in-Quant-clause-head
trigger_of-returns-in-Quant-clause-head t c = let is = expression_at-Quant c.args.e.now c.in-Quant.field-0 c.in-Quant.field-1 c.in-Quant.field-2 c.in-Quant.field-3 c.in-Quant.is in rw is c.no_head-in-Quant.ensures.head

pub trigger_of-returns-in-Quant-clause-token : goal.trigger_of-returns-in-Quant-clause-token
trigger_of-returns-in-Quant-clause-token t c = let is = expression_at-Quant c.args.e.now c.in-Quant.field-0 c.in-Quant.field-1 c.in-Quant.field-2 c.in-Quant.field-3 c.in-Quant.is in rw is c.no_head-in-Quant.ensures.token

pub trigger_of-returns-in-Group-clause-head : goal.trigger_of-returns-in-Group-clause-head
trigger_of-returns-in-Group-clause-head t c = let is = expression_at-Group c.args.e.now c.in-Group.parts c.in-Group.is in rw is (rw c.as_slice.ensures at c.group_trigger.ensures.head)

pub trigger_of-returns-in-Group-clause-token : goal.trigger_of-returns-in-Group-clause-token
trigger_of-returns-in-Group-clause-token t c = let is = expression_at-Group c.args.e.now c.in-Group.parts c.in-Group.is in rw is (rw c.as_slice.ensures at c.group_trigger.ensures.token)

pub trigger_of-returns-in-Binary-clause-head : goal.trigger_of-returns-in-Binary-clause-head
trigger_of-returns-in-Binary-clause-head t c =
    let is = expression_at-Binary c.args.e.now c.in-Binary.field-0 c.in-Binary.op c.in-Binary.field-2 c.in-Binary.is in
    let o = operated_head c.args.e.now.at.main (expression_of c.in-Binary.field-0) (operator_meaning (op_of c.in-Binary.op).terminal (op_of c.in-Binary.op).text) (expression_of c.in-Binary.field-2) in
    rw (is, o) c.infix_head.ensures

pub trigger_of-returns-in-Binary-clause-token : goal.trigger_of-returns-in-Binary-clause-token
trigger_of-returns-in-Binary-clause-token t c =
    let is = expression_at-Binary c.args.e.now c.in-Binary.field-0 c.in-Binary.op c.in-Binary.field-2 c.in-Binary.is in
    rw is (sym (operated_token c.args.e.now.at.main (expression_of c.in-Binary.field-0) (operator_meaning (op_of c.in-Binary.op).terminal (op_of c.in-Binary.op).text) (expression_of c.in-Binary.field-2)))

pub trigger_of-returns-in-Let-clause-head : goal.trigger_of-returns-in-Let-clause-head
trigger_of-returns-in-Let-clause-head t c =
    let is = expression_at-Let c.args.e.now c.in-Let.field-0 c.in-Let.field-1 c.in-Let.field-2 c.in-Let.is in
    let o = let_head (let_name (code.patterns c.in-Let.field-0)) c.args.e.now.at.main (code.patterns c.in-Let.field-0) (expression_of c.in-Let.field-1) (expression_of c.in-Let.field-2) in
    rw (is, o) c.no_head-in-Let.ensures.head

pub trigger_of-returns-in-Let-clause-token : goal.trigger_of-returns-in-Let-clause-token
trigger_of-returns-in-Let-clause-token t c =
    let is = expression_at-Let c.args.e.now c.in-Let.field-0 c.in-Let.field-1 c.in-Let.field-2 c.in-Let.is in
    let o = let_token (let_name (code.patterns c.in-Let.field-0)) c.args.e.now.at.main (code.patterns c.in-Let.field-0) (expression_of c.in-Let.field-1) (expression_of c.in-Let.field-2) in
    rw (is, o) c.no_head-in-Let.ensures.token

pub trigger_of-returns-in-Fields-clause-head : goal.trigger_of-returns-in-Fields-clause-head
trigger_of-returns-in-Fields-clause-head t c = let is = expression_at-Fields c.args.e.now c.in-Fields.field-0 c.in-Fields.field-1 c.in-Fields.is in rw is c.no_head-in-Fields.ensures.head

pub trigger_of-returns-in-Fields-clause-token : goal.trigger_of-returns-in-Fields-clause-token
trigger_of-returns-in-Fields-clause-token t c = let is = expression_at-Fields c.args.e.now c.in-Fields.field-0 c.in-Fields.field-1 c.in-Fields.is in rw is c.no_head-in-Fields.ensures.token
