use Rattle.std.proofs.Common.{◌++◌, codes}
use Rattle.part_texts.proofs.tff_texts.Joins.{last_piece}
use Rattle.part_texts.proofs.tff_texts.lines.push_typed.Goals as goal
use Rattle.tasks.proofs.plain_laws.Lists.{then_piece}
use Rattle.tasks.proofs.plain_laws.Results.{ok_items}
use Rattle.tasks.proofs.outside.Passed.{no_ok}

pub returns : goal.returns
returns c =
    let o = c.args.out.now.items in
    let name = c.args.name.now in
    last_piece c.extend_from_slice-5.result o _ _ (codes "tff(" ++ name ++ codes ", type, " ++ name) (codes ": ")
    (then_piece o _ _ (codes "tff(" ++ name ++ codes ", type, ") name
    (then_piece o _ _ (codes "tff(" ++ name) (codes ", type, ")
    (then_piece o _ _ (codes "tff(") name c.in_ok-extend_from_slice.ensures.items c.in_ok-extend_from_slice-2.ensures.items)
    c.in_ok-extend_from_slice-3.ensures.items) c.in_ok-extend_from_slice-4.ensures.items) (ok_items c.extend_from_slice-5.result _ _ _ c.extend_from_slice-5.ensures.items)

pub returns-in_err-extend_from_slice : goal.returns-in_err-extend_from_slice
returns-in_err-extend_from_slice c = no_ok _ _ c.from_residual.result c.from_residual.ensures.1

pub returns-in_err-extend_from_slice-2 : goal.returns-in_err-extend_from_slice-2
returns-in_err-extend_from_slice-2 c = no_ok _ _ c.from_residual-in_err-extend_from_slice-2.result c.from_residual-in_err-extend_from_slice-2.ensures.1

pub returns-in_err-extend_from_slice-3 : goal.returns-in_err-extend_from_slice-3
returns-in_err-extend_from_slice-3 c = no_ok _ _ c.from_residual-in_err-extend_from_slice-3.result c.from_residual-in_err-extend_from_slice-3.ensures.1

pub returns-in_err-extend_from_slice-4 : goal.returns-in_err-extend_from_slice-4
returns-in_err-extend_from_slice-4 c = no_ok _ _ c.from_residual-in_err-extend_from_slice-4.result c.from_residual-in_err-extend_from_slice-4.ensures.1
