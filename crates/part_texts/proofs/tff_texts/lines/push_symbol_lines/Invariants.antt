use Rattle.std.proofs.Common.{◌≡◌, ◌++◌, drop}
use Rattle.std.specs.List.{flat_map}
use Rattle.tasks.specs.Meaning.{symbols_at}
use Rattle.printed_problems.specs.printed_terms.Meaning.{printing}
use Rattle.part_texts.specs.tff_texts.Text.{tff_symbol_line}
use Rattle.part_texts.proofs.tff_texts.lines.push_symbol_lines.Given as goal

abbrev pub invariant-loop-place : goal.invariant-loop-place
invariant-loop-place l =
    l.out.items ++ flat_map (tff_symbol_line (printing l.c) (symbols_at l.c.store.now l.symbols)) (drop l.place-index l.places) ≡ l.initial.out.items ++ flat_map (tff_symbol_line (printing l.c) (symbols_at l.c.store.now l.symbols)) l.places
