use Rattle.std.proofs.Common.{◌≡◌, Some, None, sym, ap, ◌∙◌}
use Rattle.step_writing.specs.tree_writing.Referring.{line_at}
use Rattle.step_writing.proofs.tree_writing.referring.line_number.Goals as goal

pub unreachable-requires : goal.unreachable-requires
unreachable-requires c =
    let h = c.requires.line in
    let e : Some h.number ≡ None = sym h.line ∙ ap (line_at c.args.lines.now) (c.laws.ensures.apart h.id c.args.id h.held c.requires.held h.is) ∙ sym c.in-None.ensures in
    absurd (cc)
