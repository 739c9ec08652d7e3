use Rattle.std.proofs.Common.{[], sym, ◌∙◌, arith}
use Rattle.tasks.specs.Meaning.{symbol_at}
use Rattle.name_resolution.proofs.Fielded.{after_later}
use Rattle.name_resolution.proofs.records.place_in.Goals as goal

pub overflow_sub-result : goal.overflow_sub-result
overflow_sub-result c = let l = after_later (symbol_at [] c.in_ok-info.info.now) c.args.owner c.args.number (sym (c.is_field_of.ensures []) ∙ c.if-is_field_of.true) in omega (arith, l)

pub overflow_sub-result-then-is_field_of : goal.overflow_sub-result-then-is_field_of
overflow_sub-result-then-is_field_of c = let l = after_later (symbol_at [] c.in_ok-info.info.now) c.args.owner c.args.number (sym (c.is_field_of.ensures []) ∙ c.if-is_field_of.true) in omega (arith, l)
