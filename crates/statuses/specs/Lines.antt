-- The lines for the second sink.
use Rattle.std.specs.Prelude.{ℕ, List, [], ◌∷◌, ◌++◌, codes, decimal}
use Rattle.statuses.specs.declared.status.Status.{Status}
use Rattle.statuses.specs.declared.status.Status.TheVariants as status
use Rattle.statuses.specs.Faults.{numbers}

-- each after a blank
abbrev pub spaced_numbers : List ℕ → List ℕ
spaced_numbers [] = []
spaced_numbers (n ∷ ns) = 32 ∷ decimal n ++ spaced_numbers ns

-- the line that a status asks for
abbrev pub status_line : Status → List ℕ
status_line (status.Refused fault) = codes "refused:" ++ spaced_numbers (numbers fault) ++ 10 ∷ []
status_line (status.Absent file) = codes "absent:" ++ spaced_numbers (file ∷ []) ++ 10 ∷ []
status_line (status.ReadFault file) = codes "read fault:" ++ spaced_numbers (file ∷ []) ++ 10 ∷ []
status_line status.Usage = codes "usage: why3lift print|names SRC DRV THEORY GOAL"
    ++ codes " | lift SRC DRV THEORY GOAL REF... | check SRC THEORY GOAL DER | stress N" ++ 10 ∷ []
status_line status.Done = []
status_line status.Memory = []
status_line status.WriteFault = []
