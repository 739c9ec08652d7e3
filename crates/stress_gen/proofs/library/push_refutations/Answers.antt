use Rattle.stress_gen.specs.Files.{files_of}
use Rattle.stress_gen.proofs.Files.{file_more, lines_more}
use Rattle.stress_gen.proofs.library.push_refutations.Goals as goal

pub loop-k-preserved : goal.loop-k-preserved
loop-k-preserved c =
    let k = c.loop-k.k in (
      file_more (files_of c.args.files.now.items) (files_of c.loop-k.files.items) (files_of c.push_refutation.new.files.items) k c.loop-k.invariant.0 c.in_ok-more.ensures.files,
      lines_more c.loop-k.lines c.in_ok-more.more c.in_ok-lines.lines k c.loop-k.invariant.1 c.in_ok-more.ensures.lines c.in_ok-lines.ensures,
    )
