use Rattle.std.proofs.Common.{◌≡◌, ◌==◌, ℕ, List, Bool, false, if◌then◌else◌, sym, ap, ◌∙◌, arith}
use Rattle.std.specs.List.{list_any}
use Rattle.std.specs.Option.{is_some}
use Rattle.std.proofs.lemmas.Bool.Decides.{nat_tests}
use Rattle.drivers.specs.declared.driver_items.kinds.Piece.{Piece}
use Rattle.printed_problems.specs.Templates.{bytes_alone, template_in}
use Rattle.printed_problems.proofs.FactList.{any_template}
use Rattle.printed_problems.proofs.templates.has_template.Goals as goal

pub returns : goal.returns
returns c =
    let k = c.args.symbol in
    let d = c.args.driver.now in
    let off : (k == 0) ≡ false = grind (arith, nat_tests) in
    c.has_entry.ensures ∙ ap (λ (ts : List (ℕ × List Piece)). list_any (λ (t : ℕ × List Piece). t.0 == k) ts) c.as_slice.ensures ∙ any_template d.templates k
    ∙ sym (ap (λ (b : Bool). is_some (if b then bytes_alone d.int_template else template_in d.templates k)) off)
