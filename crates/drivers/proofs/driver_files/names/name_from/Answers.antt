use Rattle.std.proofs.Common.{◌≡◌, ◌++◌, ◌∙◌, ℕ, List, IfOk, string_bytes, ap, subst}
use Rattle.std.specs.Str.Lossy.{utf8_lossy}
use Rattle.drivers.specs.driver_files.Reading.{folder}
use Rattle.drivers.proofs.driver_files.Naming.{folder-range}
use Rattle.drivers.proofs.driver_files.names.name_from.Goals as goal

pub returns : goal.returns
returns c =
    let front = folder-range c.args.importer.now c.folder_end.result c.folder_end.ensures in
    let items : c.deref.result.now ≡ folder c.args.importer.now ++ c.args.string.now =
    c.deref.ensures.value ∙ c.in_ok-extend_from_slice.ensures.items ∙ ap (λ (v : List ℕ). v ++ c.args.string.now) (c.in_ok-bytes.ensures.items ∙ c.part.ensures ∙ front) in
    subst (λ (v : List ℕ). IfOk c.from_utf8_lossy.result (λ name. string_bytes name ≡ utf8_lossy v)) items c.from_utf8_lossy.ensures.lossy
