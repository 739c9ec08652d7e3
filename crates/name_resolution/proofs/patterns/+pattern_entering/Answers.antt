use Rattle.std.proofs.Common.{[], ◌∷◌, append_assoc, sym}
use Rattle.name_resolution.specs.Abstract.{abstract_pattern_of}
use Rattle.name_resolution.specs.Faults.{pattern_names}
use mathlib.Core.List.{append-nil}
use Rattle.name_resolution.proofs.Nodes.{pattern_at-Wild, pattern_at-Var, pattern_at-Con, pattern_at-Group, pattern_at-Alias, pattern_at-Fields}
use Rattle.name_resolution.proofs.Told.{enclosed_names}
use Rattle.name_resolution.proofs.patterns.+pattern_entering.Goals as goal

pub enter_names-returns-in-Wild : goal.enter_names-returns-in-Wild
enter_names-returns-in-Wild t c = rw (pattern_at-Wild c.args.p.now c.in-Wild.is) (sym (append-nil c.args.names.now))

pub enter_names-returns-in-Var : goal.enter_names-returns-in-Var
enter_names-returns-in-Var t c = rw (pattern_at-Var c.args.p.now c.in-Var.name c.in-Var.is) (rw c.as_slice.ensures at c.enter_name.ensures)

pub enter_names-returns-in-Con : goal.enter_names-returns-in-Con
enter_names-returns-in-Con t c = rw (pattern_at-Con c.args.p.now c.in-Con.field-0 c.in-Con.parts c.in-Con.is) (rw c.as_slice-in-Con.ensures at c.enter_all_names.ensures)

pub enter_names-returns-in-Group : goal.enter_names-returns-in-Group
enter_names-returns-in-Group t c =
    rw (pattern_at-Group c.args.p.now c.in-Group.parts c.in-Group.is) (rw (c.as_slice-in-Group.ensures, enclosed_names c.args.p.now.at.main c.in-Group.parts) at c.enter_all_names-in-Group.ensures)

pub enter_names-returns-in_ok-enter_names-in-Alias : goal.enter_names-returns-in_ok-enter_names-in-Alias
enter_names-returns-in_ok-enter_names-in-Alias t c =
    let seen = rw c.get.ensures at c.in_ok-enter_names-in-Alias.ensures in
    rw (pattern_at-Alias c.args.p.now c.in-Alias.inner c.in-Alias.name c.in-Alias.is) (rw (c.as_slice-in-Alias.ensures, seen, append_assoc c.args.names.now (pattern_names (abstract_pattern_of c.in-Alias.inner)) (c.in-Alias.name.text ∷ [])) at c.enter_name-in-Alias.ensures)

pub enter_names-returns-in-Fields : goal.enter_names-returns-in-Fields
enter_names-returns-in-Fields t c = rw (pattern_at-Fields c.args.p.now c.in-Fields.fields c.in-Fields.field-1 c.in-Fields.is) (rw c.as_slice-in-Fields.ensures at c.enter_field_names.ensures)
