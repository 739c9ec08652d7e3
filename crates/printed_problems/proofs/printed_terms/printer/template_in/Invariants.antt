use Rattle.std.proofs.Common.{◌≡◌, drop}
use Rattle.printed_problems.specs.Templates.{template_in}
use Rattle.printed_problems.proofs.printed_terms.printer.template_in.Given as goal

abbrev pub invariant-loop-template : goal.invariant-loop-template
invariant-loop-template l = template_in (drop l.template-index l.templates) l.symbol ≡ template_in l.templates l.symbol
