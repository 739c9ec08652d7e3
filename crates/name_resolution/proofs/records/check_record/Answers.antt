use Rattle.std.proofs.Common.{refl, Err}
use Rattle.name_resolution.specs.Naming.{fields_at, where_at}
use Rattle.name_resolution.proofs.Told.{of_first, of_rest, passed, tells}
use Rattle.name_resolution.proofs.Fielded.{record_told}
use Rattle.name_resolution.proofs.records.check_record.Goals as goal

pub returns-in_err-check_all_named : goal.returns-in_err-check_all_named
returns-in_err-check_all_named c s =
    let told = record_told (where_at s c.args.world.now) c.args.whole c.args.token (fields_at c.args.fields) c.in_ok-owner.owner c.in_ok-named.named _ (c.in_ok-owner.ensures s) (c.in_ok-named.ensures s) refl in
    let e = c.in_err-check_all_named.field-0.0 in
    passed c.from_residual-in_err-check_all_named.result e _ c.from_residual-in_err-check_all_named.ensures.1 (rw told (of_first e _ _ (c.in_err-check_all_named.ensures.fault s)))

pub returns-in_err-refuse_if : goal.returns-in_err-refuse_if
returns-in_err-refuse_if c s =
    let told = record_told (where_at s c.args.world.now) c.args.whole c.args.token (fields_at c.args.fields) c.in_ok-owner.owner c.in_ok-named.named _ (c.in_ok-owner.ensures s) (c.in_ok-named.ensures s) refl in
    let e = c.in_err-refuse_if.field-0.0 in
    passed c.from_residual-in_err-refuse_if.result e _ c.from_residual-in_err-refuse_if.ensures.1
    (rw told (of_rest (Err e) _ _ (c.in_ok-check_all_named.ensures.fault s) (of_first e _ _ (tells _ _ (rw (c.is_record_at-is_other.ensures s) at c.in_err-refuse_if.ensures)))))

pub returns : goal.returns
returns c s =
    let told = record_told (where_at s c.args.world.now) c.args.whole c.args.token (fields_at c.args.fields) c.in_ok-owner.owner c.in_ok-named.named _ (c.in_ok-owner.ensures s) (c.in_ok-named.ensures s) (c.in_ok-check_all_named.ensures.named s) in
    rw told (of_rest c.refuse_if-2.result _ _ (c.in_ok-check_all_named.ensures.fault s) (of_rest c.refuse_if-2.result _ _ (tells _ _ (rw (c.is_record_at-is_other.ensures s) at c.in_ok-refuse_if.ensures)) (tells _ _ (rw (c.is_missing-missing.ensures, c.as_slice.ensures) at c.refuse_if-2.ensures))))
