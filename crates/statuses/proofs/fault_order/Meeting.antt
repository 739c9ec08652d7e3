-- How the answers of parts, one after another, meet the meaning of the whole.
use Rattle.std.proofs.Common.{◌≡◌, ◌≤◌, ◌+◌, ◌∙◌, ℕ, List, Option, Some, None, Result, Ok, Err, true, false, IfSome, inl, inr, length, sym, ap, subst, arith, refl, ◌==◌}
use Rattle.std.proofs.lemmas.Bool.Decides.{nat_tests}
use Rattle.outside.specs.State.{Files, LibraryState, IsFront}
use Rattle.statuses.specs.fault_order.Answers.{IsPartAnswer, Answers, IsWholeAnswer, EndsAs, Reaches, Still, OneAbsent, OneFault, StopsAt}
use Rattle.statuses.specs.fault_order.Order.{RunStop, refused, absent, unread, After, StageMeaning, reads, if_there, fetched, if_short, ShortFile}
use Rattle.statuses.specs.declared.fault_order.faults.Fault.{Fault}
use Rattle.statuses.specs.declared.fault_order.faults.Fault.TheVariants.{TooLong}
use Rattle.statuses.specs.declared.fault_order.faults.RunFault.{RunFault}
use Rattle.statuses.specs.declared.fault_order.faults.RunFault.TheVariants as run_fault
use Rattle.plain_laws.proofs.Options.{if_some as told}

pub told_both : {A : Type 0} (o : Option A) (P Q R : A → Type 0) → ((x : A) → P x → Q x → R x) → IfSome o P → IfSome o Q → IfSome o R
told_both None P Q R f p q = tt
told_both (Some x) P Q R f p q = f x p q

pub told_all : {A : Type 0} (o : Option A) (P : A → Type 0) → ((x : A) → P x) → IfSome o P
told_all None P f = tt
told_all (Some x) P f = f x

pub reads-reached : (limit : Option ℕ) (file : ℕ) → Reaches limit (file + 1) → reads limit file ≡ true
reads-reached None file reached = refl
reads-reached (Some n) file reached = grind (arith, nat_tests)

pub reads-at : (file : ℕ) → reads (Some file) file ≡ false
reads-at file = grind (arith, nat_tests)

pub if_there-front : (file most : ℕ) (there : Option (List ℕ)) (bytes : List ℕ) → IsFront there most bytes → if_there file most there ≡ Ok bytes
if_there-front file most None bytes front = absurd front
if_there-front file most (Some whole) bytes front = ap (λ x. Ok x) (sym front)

pub if_short-fits : (file : ℕ) (bytes : List ℕ) → (length bytes == 67108865) ≡ false → if_short file bytes ≡ Ok bytes
if_short-fits file bytes fits = rw fits refl

pub fetched-front : (file : ℕ) (name bytes : List ℕ) (files : Files) (limit : Option ℕ) → IsFront (files name) 67108865 bytes → Reaches limit (file + 1)
    → Ok bytes ≡ fetched file name 67108865 files limit
fetched-front file name bytes files limit front reached =
    let r = reads-reached limit file reached in
    rw r (sym (if_there-front file 67108865 (files name) bytes front))

-- a file that was fetched and isn't too long
pub short_file-ok : (file : ℕ) (name bytes : List ℕ) (files : Files) (limit : Option ℕ)
    → IsFront (files name) 67108865 bytes → (length bytes == 67108865) ≡ false → Reaches limit (file + 1) → ShortFile file name files limit (Ok bytes)
short_file-ok file name bytes files limit front fits reached =
    inr (bytes, fetched-front file name bytes files limit front reached, sym (if_short-fits file bytes fits))

pub if_short-long : (file : ℕ) (bytes : List ℕ) → (length bytes == 67108865) ≡ true → if_short file bytes ≡ Err (refused (TooLong file))
if_short-long file bytes long = rw long refl

-- one that is too long
pub short_file-long : (file : ℕ) (name bytes : List ℕ) (files : Files) → IsFront (files name) 67108865 bytes
    → (r : Result (List ℕ) RunStop) → if_short file bytes ≡ r → ShortFile file name files None r
short_file-long file name bytes files front r is = inr (bytes, fetched-front file name bytes files None front tt, sym is)

-- one that stops at once
pub short_file-stop : (file : ℕ) (name : List ℕ) (files : Files) (limit : Option ℕ) (stop : RunStop) → fetched file name 67108865 files limit ≡ Err stop → ShortFile file name files limit (Err stop)
short_file-stop file name files limit stop is = inl (stop, sym is, refl)

pub still_twice : (s0 s1 s2 : LibraryState) → Still s0 s1 → Still s1 s2 → Still s0 s2
still_twice s0 s1 s2 a b = record { faults = b.faults ∙ a.faults; absents = b.absents ∙ a.absents }

pub absent_later : (s0 s1 s2 : LibraryState) → Still s0 s1 → OneAbsent s1 s2 → OneAbsent s0 s2
absent_later s0 s1 s2 a b = let f = a.absents in record { faults = b.faults ∙ a.faults; later = omega arith; rose = rw (← f) b.rose }

pub fault_later : (s0 s1 s2 : LibraryState) → Still s0 s1 → OneFault s1 s2 → OneFault s0 s2
fault_later s0 s1 s2 a b = let f = a.faults in record { absents = b.absents ∙ a.absents; later = omega arith; rose = rw (← f) b.rose }

pub reaches_less : (limit : Option ℕ) (m n : ℕ) → m ≤ n → Reaches limit n → Reaches limit m
reaches_less None m n less reached = tt
reaches_less (Some k) m n less reached = omega arith

-- two parts, one after the other
abbrev pub chained : {A B : Type 0} → StageMeaning A → (A → StageMeaning B) → StageMeaning B
chained first second files limit = After (first files limit) (λ value. second value files limit)

meets_then : {A B : Type 0} (first : StageMeaning A) (second : A → StageMeaning B) (start : ℕ) (between : A → ℕ) (next : B → ℕ) (s0 s1 s2 : LibraryState) (a : A) (r : Result B RunFault)
    → s1.files ≡ s0.files → IsPartAnswer first start between s0 s1 (Ok a) → IsPartAnswer (second a) (between a) next s1 s2 r → IsPartAnswer (chained first second) start next s0 s2 r
meets_then first second start between next s0 s1 s2 a (Ok b) same one two = (
  still_twice s0 s1 s2 one.0 two.0,
  omega arith,
  told_both s0.files _ _ _ (λ files p q limit reached.
      inr (a, p limit (reaches_less limit (between a) (next b) two.1 reached), q limit reached)) one.2
      (subst (λ o. IfSome o (λ files. (limit : Option ℕ) → Reaches limit (next b) → second a files limit (Ok b))) same two.2),
)
meets_then first second start between next s0 s1 s2 a (Err run_fault.Memory) same one two = still_twice s0 s1 s2 one.0 two
meets_then first second start between next s0 s1 s2 a (Err (run_fault.Refused fault)) same one two = (
  still_twice s0 s1 s2 one.0 two.0,
  told_both s0.files _ _ _ (λ files p q. inr (a, p None tt, q)) one.2
      (subst (λ o. IfSome o (λ files. second a files None (Err (refused fault)))) same two.1),
)
meets_then first second start between next s0 s1 s2 a (Err (run_fault.Absent file)) same one two = (
  absent_later s0 s1 s2 one.0 two.0,
  told_both s0.files _ _ _ (λ files p q. inr (a, p None tt, q)) one.2
      (subst (λ o. IfSome o (λ files. second a files None (Err (absent file)))) same two.1),
)
meets_then first second start between next s0 s1 s2 a (Err (run_fault.ReadFault file)) same one two = (
  fault_later s0 s1 s2 one.0 two.0,
  omega arith,
  told_both s0.files _ _ _ (λ files p q.
      (q.0, inr (a, p (Some file) two.1, q.1), q.2)) one.2
      (subst (λ o. IfSome o (StopsAt (second a) file s2.refused_name)) same two.2),
)

meets_stop : {A B : Type 0} (first : StageMeaning A) (second : A → StageMeaning B) (start : ℕ) (between : A → ℕ) (next : B → ℕ) (s0 s1 : LibraryState) (e : RunFault)
    → IsPartAnswer first start between s0 s1 (Err e) → IsPartAnswer (chained first second) start next s0 s1 (Err e)
meets_stop first second start between next s0 s1 run_fault.Memory one = one
meets_stop first second start between next s0 s1 (run_fault.Refused fault) one =
    (one.0, told s0.files _ _ (λ files p. inl (refused fault, p, refl)) one.1)
meets_stop first second start between next s0 s1 (run_fault.Absent file) one =
    (one.0, told s0.files _ _ (λ files p. inl (absent file, p, refl)) one.1)
meets_stop first second start between next s0 s1 (run_fault.ReadFault file) one =
    (one.0, one.1, told s0.files _ _ (λ files p. (p.0, inl (unread file p.0, p.1, refl), p.2)) one.2)

-- a step that fetches nothing
meets_value : {A : Type 0} (meaning : StageMeaning A) (start : ℕ) (next : A → ℕ) (s : LibraryState) (a : A)
    → start ≤ next a → ((files : Files) (limit : Option ℕ) → meaning files limit (Ok a)) → IsPartAnswer meaning start next s s (Ok a)
meets_value meaning start next s a less same =
    (record { faults = refl; absents = refl }, less, told_all s.files _ (λ files limit reached. same files limit))

meets_refused : {A : Type 0} (meaning : StageMeaning A) (start : ℕ) (next : A → ℕ) (s : LibraryState) (fault : Fault)
    → ((files : Files) → meaning files None (Err (refused fault))) → IsPartAnswer meaning start next s s (Err (run_fault.Refused fault))
meets_refused meaning start next s fault same =
    (record { faults = refl; absents = refl }, told_all s.files _ (λ files. same files))

pub answers_then : {A B : Type 0} {first : StageMeaning A} (second : A → StageMeaning B) {start : ℕ} {between : A → ℕ} {next : B → ℕ} {s0 s1 s2 : LibraryState} {a : A} {r : Result B RunFault}
    → Answers first start between s0 s1 (Ok a) → Answers (second a) (between a) next s1 s2 r → Answers (chained first second) start next s0 s2 r
answers_then {first = first} second {start = start} {between = between} {next = next} {s0 = s0} {s1 = s1} {s2 = s2} {a = a} {r = r} one two =
    record { files = two.files ∙ one.files; meets = meets_then first second start between next s0 s1 s2 a r one.files one.meets two.meets }

pub answers_stop : {A B : Type 0} {first : StageMeaning A} (second : A → StageMeaning B) {start : ℕ} {between : A → ℕ} (next : B → ℕ) {s0 s1 : LibraryState} {e : RunFault}
    → Answers first start between s0 s1 (Err e) → Answers (chained first second) start next s0 s1 (Err e)
answers_stop {first = first} second {start = start} {between = between} next {s0 = s0} {s1 = s1} {e = e} one = record { files = one.files; meets = meets_stop first second start between next s0 s1 e one.meets }

pub answers_value : {A : Type 0} {meaning : StageMeaning A} {start : ℕ} {next : A → ℕ} {s : LibraryState} {a : A}
    → start ≤ next a → ((files : Files) (limit : Option ℕ) → meaning files limit (Ok a)) → Answers meaning start next s s (Ok a)
answers_value {meaning = meaning} {start = start} {next = next} {s = s} {a = a} less same = record { files = refl; meets = meets_value meaning start next s a less same }

pub answers_refused : {A : Type 0} {meaning : StageMeaning A} {start : ℕ} {next : A → ℕ} {s : LibraryState} {fault : Fault}
    → ((files : Files) → meaning files None (Err (refused fault))) → Answers meaning start next s s (Err (run_fault.Refused fault))
answers_refused {meaning = meaning} {start = start} {next = next} {s = s} {fault = fault} same = record { files = refl; meets = meets_refused meaning start next s fault same }

-- want of memory, where no fetch was made since
pub answers_memory : {A : Type 0} {meaning : StageMeaning A} {start : ℕ} {next : A → ℕ} {s : LibraryState} → Answers meaning start next s s (Err run_fault.Memory)
answers_memory = record { files = refl; meets = record { faults = refl; absents = refl } }

gives_from : {A : Type 0} (meaning : StageMeaning A) (start : ℕ) (next : A → ℕ) (s0 s1 : LibraryState) (r : Result A RunFault) → IsPartAnswer meaning start next s0 s1 r → IsWholeAnswer meaning s0 s1 r
gives_from meaning start next s0 s1 (Ok a) one = (one.0, told s0.files _ _ (λ files p. p None tt) one.2)
gives_from meaning start next s0 s1 (Err run_fault.Memory) one = one
gives_from meaning start next s0 s1 (Err (run_fault.Refused fault)) one = one
gives_from meaning start next s0 s1 (Err (run_fault.Absent file)) one = one
gives_from meaning start next s0 s1 (Err (run_fault.ReadFault file)) one = (one.0, one.2)

-- a part that is whole
pub ends : {A : Type 0} {meaning : StageMeaning A} {start : ℕ} {next : A → ℕ} {s0 s1 : LibraryState} {r : Result A RunFault} → Answers meaning start next s0 s1 r → EndsAs meaning s0 s1 r
ends {meaning = meaning} {start = start} {next = next} {s0 = s0} {s1 = s1} {r = r} one = record { files = one.files; gives = gives_from meaning start next s0 s1 r one.meets }
