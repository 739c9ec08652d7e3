-- What the laws of sources say of the task of a source's goal.
use Rattle.tasks.specs.Task.{TaskTree}
use Rattle.tasks.specs.Valid.{IsValid}
use Rattle.tasks.specs.Words.{NamesAreWords}
use Rattle.theories.proofs.Forgetting.{forgotten}
use Rattle.theories.proofs.Sources.{source_sound}
use Rattle.theories.proofs.SourceGoals.{task_valid}
use Rattle.theories.proofs.WordSources.{names_words}
use Rattle.program.specs.source_goals.Sources.{IsSourceTask}

pub valid_task : (t : TaskTree) → IsSourceTask t → IsValid t
valid_task t h =
    let s = h.theories in
    task_valid h.all h.theory h.goal t (source_sound s.text s.tokens s.file h.all s.lexes s.parses s.typed) h.is

pub word_task : (t : TaskTree) → IsSourceTask t → NamesAreWords t
word_task t h =
    let s = h.theories in
    names_words s.text s.tokens s.file h.all h.theory h.goal t s.lexes s.parses (forgotten s.file h.all s.typed) h.is
