use Rattle.std.proofs.Common.{List, Ok, subst}
use Rattle.surface.specs.tokens_why.declared.token.Token.{Token}
use Rattle.surface.specs.Lexeme.{rest}
use Rattle.surface.specs.SurfaceDeclarations.{file_of}
use Rattle.statuses.proofs.fault_order.Stages.{gives_then}
use Rattle.program.specs.source_goals.Order.{Lexes, Parses, FileTheories, Declares}
use Rattle.program.specs.source_goals.Values.{theories_in}
use Rattle.program.proofs.source_goals.source.read_source.Goals as goal

pub returns-clause-theories : goal.returns-clause-theories
returns-clause-theories c =
    let text = c.args.text.now in
    let tokens = c.in_ok-tokens.tokens.items in
    let file = file_of c.in_ok-file.file in
    let r = theories_in c.theories_of-found.new.store c.theories_of-found.result in
    let parsed = subst (λ (ts : List Token). Parses (rest text ts 0) (Ok file)) c.deref.ensures.value c.in_ok-file.ensures in
    gives_then (Lexes text) (FileTheories text) tokens r c.in_ok-tokens.ensures
    (gives_then (Parses (rest text tokens 0)) Declares file r parsed c.theories_of-found.ensures.declares)
