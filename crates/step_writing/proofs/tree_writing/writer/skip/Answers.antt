use Rattle.std.proofs.Common.{refl}
use Rattle.step_writing.proofs.tree_writing.Whole.{writing_past}
use Rattle.step_writing.proofs.tree_writing.writer.skip.Goals as goal

pub returns-clause-writing : goal.returns-clause-writing
returns-clause-writing c =
    let w = c.args.w.now in
    writing_past c.args.x.now w (record { text = w.text; numbers = c.push.new.self; types = w.types; patterns = w.patterns; expressions = w.expressions }) refl c.in_ok-push.ensures.items refl refl refl c.requires.none c.requires.writing
