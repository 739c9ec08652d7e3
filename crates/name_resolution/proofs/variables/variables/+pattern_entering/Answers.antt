use Rattle.std.proofs.Common.{refl}
use Rattle.name_resolution.specs.variables.Entered.{seen_at}
use Rattle.name_resolution.proofs.Nodes.{pattern_at-Wild, pattern_at-Var, pattern_at-Con, pattern_at-Group, pattern_at-Alias, pattern_at-Fields}
use Rattle.name_resolution.proofs.variables.Widened.{patterns_widened}
use Rattle.name_resolution.proofs.variables.variables.+pattern_entering.Goals as goal

pub enter_pattern-returns-in-Wild : goal.enter_pattern-returns-in-Wild
enter_pattern-returns-in-Wild t c = rw (pattern_at-Wild c.args.p.now c.in-Wild.is) refl

pub enter_pattern-returns-in-Var : goal.enter_pattern-returns-in-Var
enter_pattern-returns-in-Var t c = rw (pattern_at-Var c.args.p.now c.in-Var.field-0 c.in-Var.is) refl

pub enter_pattern-returns-in-Con : goal.enter_pattern-returns-in-Con
enter_pattern-returns-in-Con t c = let is = pattern_at-Con c.args.p.now c.in-Con.field-0 c.in-Con.parts c.in-Con.is in rw is (rw c.as_slice.ensures at c.enter_all_patterns.ensures)

pub enter_pattern-returns-in_ok-enter_tuple-in-Group : goal.enter_pattern-returns-in_ok-enter_tuple-in-Group
enter_pattern-returns-in_ok-enter_tuple-in-Group t c =
    let is = pattern_at-Group c.args.p.now c.in-Group.parts c.in-Group.is in
    let a = rw c.len.ensures at c.in_ok-enter_tuple-in-Group.ensures in
    rw is (rw (c.as_slice-in-Group.ensures, a, patterns_widened c.args.p.now.at.main c.in-Group.parts (seen_at c.args.seen.now)) at c.enter_all_patterns-in-Group.ensures)

pub enter_pattern-returns-in-Alias : goal.enter_pattern-returns-in-Alias
enter_pattern-returns-in-Alias t c = let is = pattern_at-Alias c.args.p.now c.in-Alias.inner c.in-Alias.field-1 c.in-Alias.is in rw is (rw c.get.ensures at c.enter_pattern.ensures)

pub enter_pattern-returns-in-Fields : goal.enter_pattern-returns-in-Fields
enter_pattern-returns-in-Fields t c = let is = pattern_at-Fields c.args.p.now c.in-Fields.fields c.in-Fields.field-1 c.in-Fields.is in rw is (rw c.as_slice-in-Fields.ensures at c.enter_field_patterns.ensures)
