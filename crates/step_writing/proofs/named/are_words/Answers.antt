use Rattle.std.proofs.Common.{subst, refl, arith}
use Rattle.name_tables.specs.declared.name_entries.names.NameEntry.{NameEntry}
use Rattle.step_writing.specs.Named.{IsName}
use Rattle.step_writing.proofs.Naming.{all_more, all_done}
use Rattle.step_writing.proofs.named.are_words.Goals as goal

abbrev Named : NameEntry → Type 0
Named n = IsName n.name

pub loop-entry-preserved : goal.loop-entry-preserved
loop-entry-preserved c =
    let table = c.args.table.now in
    let i = c.loop-entry.entry-index in
    let e = c.entry-item.result in
    let name : IsName e.name = subst IsName c.as_slice.ensures (c.is_name.ensures.0 c.if-not-is_name.false) in
    all_more Named table i e (omega (arith, c.loop-entry-test.true)) c.loop-entry.invariant (subst Named c.entry-item.is name)

pub returns : goal.returns
returns c = (λ t. all_done Named c.args.table.now c.loop-entry.entry-index (omega (arith, c.loop-entry-test.false)) c.loop-entry.invariant, λ a. refl)
