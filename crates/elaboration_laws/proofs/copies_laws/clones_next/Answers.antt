use Rattle.elab_groups.specs.tasks.Task.{made_by}
use Rattle.elaboration_laws.proofs.Distinct.{pairs_distinct}
use Rattle.elaboration_laws.proofs.Copied.{cloning_copied}
use Rattle.elaboration_laws.proofs.Taken.{cloning_left, cloning_taken, cloning_entries}
use Rattle.elaboration_laws.proofs.copies_laws.clones_next.Goals as goal

pub returns : goal.returns
returns u = record {
  copied = λ xs pre m symbols now d theory within h whole named source news apart numbers. cloning_copied xs pre m symbols now h d whole theory within named source news apart numbers;
  left = λ xs pre m symbols now d h whole images. cloning_left xs pre m symbols now h d whole images;
  taken = λ xs pre m symbols now d h whole valid own theory records distinct apart images. cloning_taken xs pre m symbols now h d whole valid own theory records (pairs_distinct (made_by d.body) distinct) apart images;
  entries = λ xs pre m symbols more now h b. cloning_entries xs pre m symbols more now h b;
}
