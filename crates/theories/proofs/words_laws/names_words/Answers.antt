use Rattle.theories.proofs.WordSources.{names_words, names_scoped}
use Rattle.theories.proofs.words_laws.names_words.Goals as goal

pub returns : goal.returns
returns u = record {
  words = λ text ts file all theory g t h only of task. names_words text ts file all theory g t h only of task;
  scoped = λ text ts file all theory g t h only of task. names_scoped text ts file all theory g t h only of task;
}
