use Rattle.std.proofs.Common.{List, ℕ, subst}
use Rattle.step_writing.specs.tree_writing.Referring.{words_of, PushesNumbers}
use Rattle.step_writing.proofs.tree_writing.Reading.{on_ok}
use Rattle.step_writing.proofs.tree_writing.used.push_parts.Goals as goal

pub returns : goal.returns
returns c =
    on_ok c.push_numbers.result c.push_numbers.ensures
    (λ h. let p = subst (λ (ns : List ℕ). PushesNumbers (words_of c.args.words.now.items) (words_of c.push_numbers.new.words.items) ns) c.deref.ensures.value h in
    record { more = p.more; ns = c.in_ok-numbers.numbers.items; is = p.is; numbers = p.numbers; refer = c.in_ok-numbers.ensures })
