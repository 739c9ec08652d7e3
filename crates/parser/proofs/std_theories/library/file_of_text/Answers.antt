use Rattle.std.proofs.Common.{sym, subst}
use Rattle.tokens_why.specs.Tokens.{AreTokens}
use Rattle.parser.proofs.std_theories.Sources.{memory_alone}
use Rattle.parser.proofs.std_theories.library.file_of_text.Goals as goal

pub memory_error-requires : goal.memory_error-requires
memory_error-requires c =
    memory_alone c.args.text.now c.requires c.as_slice.result.now (subst (AreTokens c.args.text.now) (sym c.as_slice.ensures.value) c.in_ok-tokens.ensures) c.in-Err.fault c.in-Err.ensures.refused
