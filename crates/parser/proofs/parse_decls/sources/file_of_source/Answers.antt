use Rattle.parser.proofs.parse_decls.Cited.{has_texts, is_file, only_file}
use Rattle.parser.proofs.parse_decls.sources.file_of_source.Goals as goal

pub invariant_of-source : goal.invariant_of-source
invariant_of-source c = record { texts = has_texts c.args.text.now c.args.tokens.now c.requires.tokens }

pub whole_file-requires : goal.whole_file-requires
whole_file-requires c = is_file c.args.text.now c.args.tokens.now c.requires.source

pub returns : goal.returns
returns c = only_file c.args.text.now c.args.tokens.now c.requires.source _ c.in_ok-whole.ensures
