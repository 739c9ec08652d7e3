use Rattle.printed_problems.specs.declared.fault.PrintFault.TheVariants.{Memory}
use Rattle.printed_problems.proofs.First.{meets_fault}
use Rattle.printed_problems.proofs.Faultless.{found_none, marked_none}
use Rattle.printed_problems.proofs.checks.check_once.Goals as goal
use Rattle.std.proofs.Common.{sym, ◌∙◌}
use Rattle.tasks.proofs.outside.Passed.{no_ok}

pub returns-then-contains : goal.returns-then-contains
returns-then-contains c = record {
  due = found_none c.args.c.now c.requires.can c.args.checked.now c.requires.checked c.args.e.0 c.args.number (sym c.contains.ensures ∙ c.if-contains.true);
  checked = c.requires.checked;
}

pub returns-in_err-check_formula : goal.returns-in_err-check_formula
returns-in_err-check_formula c =
    let r = c.from_residual in
    record { due = meets_fault r.result _ _ r.ensures.1 c.in_err-check_formula.ensures.due; checked = no_ok _ _ r.result r.ensures.1 }

pub returns-in_err-insert : goal.returns-in_err-insert
returns-in_err-insert c =
    let r = c.from_residual-in_err-insert in
    record { due = meets_fault r.result _ Memory r.ensures.1 tt; checked = no_ok _ _ r.result r.ensures.1 }

pub returns : goal.returns
returns c = record {
  due = c.in_ok-check_formula.ensures.due;
  checked = record {
    is = record {
      formed = c.in_ok-check_formula.ensures.done;
      faultless = marked_none c.args.c.now c.requires.can c.args.checked.now c.requires.checked c.args.e.0 c.args.number c.insert.new.self.keys c.in_ok-check_formula.ensures.due c.in_ok-insert.ensures.keys;
    };
    bare = c.requires.checked.bare;
  };
}
