use Rattle.std.proofs.Common.{◌≡◌, ◌-◌, ◌<◌, length, sym, ap, ◌∙◌, arith}
use Rattle.name_tables.specs.declared.name_entries.names.NameEntry.{NameEntry}
use Rattle.step_lines.proofs.tree_lines.Places.{entry_more}
use Rattle.step_lines.proofs.tree_lines.names.TableNames.new.Goals as goal

pub loop-i-preserved : goal.loop-i-preserved
loop-i-preserved c =
    let within : c.loop-i.i - 1 < length c.args.table.now = omega (arith, c.loop-i.invariant.within, c.loop-i-test.true) in
    let is : c.in_ok-name.name.items ≡ c.index-table-i.result.name = c.in_ok-name.ensures.items ∙ c.as_slice.ensures ∙ ap (λ (n : NameEntry). n.name) (sym c.index-table-i.is) in
    record {
      within = omega arith;
      found = λ q. entry_more c.args.table.now c.loop-i.i c.index-table-i.result c.loop-i.places c.insert.new.self c.in_ok-name.name.items (omega (arith, c.loop-i-test.true)) c.loop-i.invariant.within c.index-table-i.is is c.in_ok-insert.ensures.updates q (c.loop-i.invariant.found q);
    }
