use Rattle.std.proofs.Common.{subst, ◌∙◌}
use Rattle.parser.specs.std_theories.Library.{IsFileOfText}
use Rattle.parser.proofs.std_theories.library.push_file.Goals as goal
use Rattle.outside.proofs.Passed.{no_ok}

pub returns : goal.returns
returns c = record {
  file = (c.in_ok-path.path, c.in_ok-file.file);
  is = c.in_ok-push.ensures.items;
  path = c.in_ok-path.ensures ∙ c.as_bytes.ensures.value;
  written = subst (λ v. IsFileOfText v c.in_ok-file.file) c.as_bytes-2.ensures.value c.in_ok-file.ensures;
}

pub returns-in_err-path : goal.returns-in_err-path
returns-in_err-path c = no_ok _ _ c.from_residual.result c.from_residual.ensures.1

pub returns-in_err-file : goal.returns-in_err-file
returns-in_err-file c = no_ok _ _ c.from_residual-in_err-file.result c.from_residual-in_err-file.ensures.1

pub returns-in_err-push : goal.returns-in_err-push
returns-in_err-push c = no_ok _ _ c.from_residual-in_err-push.result c.from_residual-in_err-push.ensures.1
