use Rattle.std.proofs.Common.{◌≡◌, ◌<◌, get_or, length, Some, slice_get, arith}
use Rattle.std.proofs.lemmas.Option.{slice_get-get_or}
use Rattle.tasks.proofs.trees.Nodes.{tree_at-grows, Grows_trans}
use Rattle.elab_groups.proofs.parts.Determining.{values_more, first_open}
use Rattle.elab_groups.proofs.parts.solution.determine_types.Goals as goal

pub type_numbered-requires : goal.type_numbered-requires
type_numbered-requires c u id l v =
    let k = c.requires u id l v in
    let g = c.loop-number.invariant.0 in
    let e = tree_at-grows _ _ id g k.0 in
    (omega (arith, k.0, g.longer), rw e k.1)

pub returns-in-None-clause-err : goal.returns-in-None-clause-err
returns-in-None-clause-err c =
    let a = rw c.in-None.is at c.in_ok-ty.ensures.answer in
    let n : c.loop-number.number < length c.args.takers.now = c.loop-number-test.true in
    let t : slice_get c.args.takers.now c.loop-number.number ≡ Some (get_or c.args.takers.now c.loop-number.number 0) = slice_get-get_or c.args.takers.now c.loop-number.number 0 n in
    first_open _ c.args.rigid c.args.solution.now c.loop-number.number _ c.args.takers.now _ c.loop-number.invariant.1 a.0 a.1 t

pub loop-number-preserved : goal.loop-number-preserved
loop-number-preserved c =
    let a = rw c.in-Some.is at c.in_ok-ty.ensures.answer in (
      Grows_trans _ _ _ c.loop-number.invariant.0 c.type_numbered.ensures.grows,
      rw c.in_ok-push-in-Some.ensures.items (values_more _ _ c.type_numbered.ensures.grows c.args.rigid c.args.solution.now c.loop-number.number c.loop-number.types.items c.loop-number.invariant.1 c.in-Some.ty a.0 a.1),
    )
