-- Parts that are read one after another over a library, and their answers.
use Rattle.std.proofs.Common.{◌≡◌, ◌≤◌, ℕ, List, Option, Some, None, Result, Ok, Err, IfSome, refl, ap, ◌∙◌, subst, arith}
use Rattle.outside.specs.State.{Files, LibraryState, Rose}
use Rattle.drivers.specs.declared.driver_parts.fault.DriverFault.{DriverFault}
use Rattle.drivers.specs.declared.driver_parts.fault.DriverFault.TheVariants as f
use Rattle.drivers.specs.driver_files.Calls.{both_meanings}
use Rattle.drivers.specs.driver_files.Reading.{DriverStop, file_refused, file_absent, file_unread, DriverOutcome, ◌then◌, CallMeaning, ReachesReading, StaysSame, OneFileAbsent, OneFileFault, StopsReadingAt, IsReadAs, ReadsAs}

-- What is left of a meaning after some of it was read: the files stay, no count rose, and where all fetches so far can be read
-- the whole comes to what is left.
pub record Goes {A : Type 0} (whole left : CallMeaning A) (start next : ℕ) (old new : LibraryState) : Type 0 where
  pub files : new.files ≡ old.files
  pub still : StaysSame old new
  pub later : start ≤ next
  pub same : IfSome old.files (λ files. (limit : Option ℕ) → ReachesReading limit next → whole files limit ≡ left files limit)

still_on : {a b c : LibraryState} → StaysSame a b → StaysSame b c → StaysSame a c
still_on s t = record { faults = t.faults ∙ s.faults; absents = t.absents ∙ s.absents }

-- an answer of what is left is one of the whole
told2 : (files : Option Files) (p q r : Files → Type 0) → ((g : Files) → p g → q g → r g) → IfSome files p → IfSome files q → IfSome files r
told2 (Some g) p q r h x y = h g x y
told2 None p q r h x y = tt

moved : (a b : LibraryState) (p : Files → Type 0) → b.files ≡ a.files → IfSome b.files p → IfSome a.files p
moved a b p e h = subst (λ v. IfSome v p) e h

ends_faulty : {A : Type 0} (whole left : CallMeaning A) (start next : ℕ) (old mid new : LibraryState) (stop : DriverStop) → Goes whole left start next old mid → IfSome mid.files (λ files. left files None ≡ Err stop) → IfSome old.files (λ files. whole files None ≡ Err stop)
ends_faulty whole left start next old mid new stop g h =
    told2 old.files _ _ _ (λ files s e. s None tt ∙ e) g.same (moved old mid _ g.files h)

unread_at : {A : Type 0} (whole left : CallMeaning A) (start next file : ℕ) (old mid : LibraryState) (name : Option (List ℕ)) → Goes whole left start next old mid → next ≤ file → IfSome mid.files (StopsReadingAt left file name) → IfSome old.files (StopsReadingAt whole file name)
unread_at whole left start next file old mid name g le h =
    told2 old.files _ _ _ (λ files s e. (e.0, s (Some file) le ∙ e.1, e.2)) g.same (moved old mid _ g.files h)

absent_on : {a b c : LibraryState} → StaysSame a b → OneFileAbsent b c → OneFileAbsent a c
absent_on {a} {b} {c} s t = record {
  faults = t.faults ∙ s.faults;
  later = subst (λ v. v ≤ c.absents) s.absents t.later;
  rose = subst (λ v. Rose v c.absents) s.absents t.rose;
}

fault_on : {a b c : LibraryState} → StaysSame a b → OneFileFault b c → OneFileFault a c
fault_on {a} {b} {c} s t = record {
  absents = t.absents ∙ s.absents;
  later = subst (λ v. v ≤ c.faults) s.faults t.later;
  rose = subst (λ v. Rose v c.faults) s.faults t.rose;
}

before : (limit : Option ℕ) (a b : ℕ) → ReachesReading limit b → a ≤ b → ReachesReading limit a
before None a b r le = tt
before (Some n) a b r le = omega arith

by_answer : {A : Type 0} (whole left : CallMeaning A) (start next : ℕ) (after : A → ℕ) (old mid new : LibraryState) → Goes whole left start next old mid → (r : Result A DriverFault) → IsReadAs left next after mid new r → IsReadAs whole start after old new r
by_answer whole left start next after old mid new g (Ok value) m = (still_on g.still m.0, omega (arith, g.later, m.1), told2 old.files _ _ _ (λ files s e limit reach. s limit (before limit next (after value) reach m.1) ∙ e limit reach) g.same (moved old mid _ g.files m.2))
by_answer whole left start next after old mid new g (Err f.Memory) m = still_on g.still m
by_answer whole left start next after old mid new g (Err (f.Absent file)) m = (absent_on g.still m.0, ends_faulty whole left start next old mid new (file_absent file) g m.1)
by_answer whole left start next after old mid new g (Err (f.ReadFault file)) m = (fault_on g.still m.0, omega (arith, g.later, m.1), unread_at whole left start next file old mid new.refused_name g m.1 m.2)
by_answer whole left start next after old mid new g (Err (f.TooLong file)) m = (still_on g.still m.0, ends_faulty whole left start next old mid new (file_refused (f.TooLong file)) g m.1)
by_answer whole left start next after old mid new g (Err (f.DriverSyntax file byte)) m = (still_on g.still m.0, ends_faulty whole left start next old mid new (file_refused (f.DriverSyntax file byte)) g m.1)
by_answer whole left start next after old mid new g (Err (f.UnknownTransformation file byte)) m = (still_on g.still m.0, ends_faulty whole left start next old mid new (file_refused (f.UnknownTransformation file byte)) g m.1)
by_answer whole left start next after old mid new g (Err (f.BadTemplate file byte)) m = (still_on g.still m.0, ends_faulty whole left start next old mid new (file_refused (f.BadTemplate file byte)) g m.1)
by_answer whole left start next after old mid new g (Err (f.UnknownSymbol file byte)) m = (still_on g.still m.0, ends_faulty whole left start next old mid new (file_refused (f.UnknownSymbol file byte)) g m.1)
by_answer whole left start next after old mid new g (Err (f.ImportCycle file byte)) m = (still_on g.still m.0, ends_faulty whole left start next old mid new (file_refused (f.ImportCycle file byte)) g m.1)
by_answer whole left start next after old mid new g (Err (f.UnknownPrinter file byte)) m = (still_on g.still m.0, ends_faulty whole left start next old mid new (file_refused (f.UnknownPrinter file byte)) g m.1)

-- what is left is answered, and so the whole is
pub ends : {A : Type 0} (whole left : CallMeaning A) (start next : ℕ) (after : A → ℕ) (old mid new : LibraryState) (r : Result A DriverFault) → Goes whole left start next old mid → ReadsAs left next after mid new r → ReadsAs whole start after old new r
ends whole left start next after old mid new r g h = record { files = h.files ∙ g.files; meets = by_answer whole left start next after old mid new g r h.meets }

-- the first of two parts is refused, and so are both
and_then_err : {A B : Type 0} (stop : DriverStop) (r : DriverOutcome A) (g : A → DriverOutcome B) → r ≡ Err stop → (r then g) ≡ Err stop
and_then_err stop (Ok a) g e = cc
and_then_err stop (Err s) g e = let h : s ≡ stop = cc in ap Err h

and_then_ok : {A B : Type 0} (a : A) (r : DriverOutcome A) (g : A → DriverOutcome B) → r ≡ Ok a → (r then g) ≡ g a
and_then_ok a (Ok b) g e = let h : b ≡ a = cc in ap g h
and_then_ok a (Err s) g e = cc

pub told1 : (files : Option Files) (p q : Files → Type 0) → ((g : Files) → p g → q g) → IfSome files p → IfSome files q
told1 (Some g) p q h x = h g x
told1 None p q h x = tt

pub first_err : {A B : Type 0} (first : CallMeaning A) (second : A → CallMeaning B) (start : ℕ) (next : A → ℕ) (after : B → ℕ) (old new : LibraryState) (e : DriverFault) → ReadsAs first start next old new (Err e) → ReadsAs (both_meanings first second) start after old new (Err e)
first_err first second start next after old new e h = record { files = h.files; meets = by_fault e h.meets }
  where
    stops : (stop : DriverStop) → IfSome old.files (λ files. first files None ≡ Err stop) → IfSome old.files (λ files. both_meanings first second files None ≡ Err stop)
    stops stop m = told1 old.files _ _ (λ files x. and_then_err stop (first files None) (λ a. second a files None) x) m

    by_fault : (e : DriverFault) → IsReadAs first start next old new (Err e) → IsReadAs (both_meanings first second) start after old new (Err e)
    by_fault f.Memory m = m
    by_fault (f.Absent file) m = (m.0, stops (file_absent file) m.1)
    by_fault (f.ReadFault file) m = (m.0, m.1, told1 old.files _ _ (λ files x. (x.0, and_then_err (file_unread file x.0) (first files (Some file)) (λ a. second a files (Some file)) x.1, x.2)) m.2)
    by_fault (f.TooLong file) m = (m.0, stops (file_refused (f.TooLong file)) m.1)
    by_fault (f.DriverSyntax file byte) m = (m.0, stops (file_refused (f.DriverSyntax file byte)) m.1)
    by_fault (f.UnknownTransformation file byte) m = (m.0, stops (file_refused (f.UnknownTransformation file byte)) m.1)
    by_fault (f.BadTemplate file byte) m = (m.0, stops (file_refused (f.BadTemplate file byte)) m.1)
    by_fault (f.UnknownSymbol file byte) m = (m.0, stops (file_refused (f.UnknownSymbol file byte)) m.1)
    by_fault (f.ImportCycle file byte) m = (m.0, stops (file_refused (f.ImportCycle file byte)) m.1)
    by_fault (f.UnknownPrinter file byte) m = (m.0, stops (file_refused (f.UnknownPrinter file byte)) m.1)

-- the first of two parts has a value, and the second is left
pub first_ok : {A B : Type 0} (first : CallMeaning A) (second : A → CallMeaning B) (start : ℕ) (next : A → ℕ) (old new : LibraryState) (a : A) → ReadsAs first start next old new (Ok a) → Goes (both_meanings first second) (second a) start (next a) old new
first_ok first second start next old new a h = record {
  files = h.files;
  still = h.meets.0;
  later = h.meets.1;
  same = told1 old.files _ _ (λ files x limit reach. and_then_ok a (first files limit) (λ b. second b files limit) (x limit reach)) h.meets.2;
}

-- what is left is told in steps
pub goes_on : {A : Type 0} (whole left rest : CallMeaning A) (start next later : ℕ) (old mid new : LibraryState) → Goes whole left start next old mid → Goes left rest next later mid new → Goes whole rest start later old new
goes_on whole left rest start next later old mid new g h = record {
  files = h.files ∙ g.files;
  still = still_on g.still h.still;
  later = omega (arith, g.later, h.later);
  same = told2 old.files _ _ _ (λ files s e limit reach. s limit (before limit next later reach h.later) ∙ e limit reach) g.same (moved old mid _ g.files h.same);
}

-- ---- answers without a file
each : (files : Option Files) (p : Files → Type 0) → ((g : Files) → p g) → IfSome files p
each (Some g) p h = h g
each None p h = tt

unmoved : (s : LibraryState) → StaysSame s s
unmoved s = record { faults = refl; absents = refl }

pub told_memory : {A : Type 0} (m : CallMeaning A) (start : ℕ) (next : A → ℕ) (s : LibraryState) → ReadsAs m start next s s (Err f.Memory)
told_memory m start next s = record { files = refl; meets = unmoved s }

pub told_value : {A : Type 0} (m : CallMeaning A) (start : ℕ) (next : A → ℕ) (s : LibraryState) (a : A) → ((g : Files) (limit : Option ℕ) → m g limit ≡ Ok a) → start ≤ next a → ReadsAs m start next s s (Ok a)
told_value m start next s a h le = record { files = refl; meets = (unmoved s, le, each s.files _ (λ g limit reach. h g limit)) }

-- a fault that isn't one of memory or of a file
abbrev pub IsPlain : DriverFault → Type 0
IsPlain f.Memory = ⊥
IsPlain (f.Absent file) = ⊥
IsPlain (f.ReadFault file) = ⊥
IsPlain _ = Unit {0}

plain_meets : {A : Type 0} (m : CallMeaning A) (start : ℕ) (next : A → ℕ) (s : LibraryState) (e : DriverFault) → IsPlain e → ((g : Files) → m g None ≡ Err (file_refused e)) → IsReadAs m start next s s (Err e)
plain_meets m start next s f.Memory p h = absurd p
plain_meets m start next s (f.Absent file) p h = absurd p
plain_meets m start next s (f.ReadFault file) p h = absurd p
plain_meets m start next s (f.TooLong file) p h = (unmoved s, each s.files _ h)
plain_meets m start next s (f.DriverSyntax file byte) p h = (unmoved s, each s.files _ h)
plain_meets m start next s (f.UnknownTransformation file byte) p h = (unmoved s, each s.files _ h)
plain_meets m start next s (f.BadTemplate file byte) p h = (unmoved s, each s.files _ h)
plain_meets m start next s (f.UnknownSymbol file byte) p h = (unmoved s, each s.files _ h)
plain_meets m start next s (f.ImportCycle file byte) p h = (unmoved s, each s.files _ h)
plain_meets m start next s (f.UnknownPrinter file byte) p h = (unmoved s, each s.files _ h)

pub told_fault : {A : Type 0} (m : CallMeaning A) (start : ℕ) (next : A → ℕ) (s : LibraryState) (e : DriverFault) → IsPlain e → ((g : Files) → m g None ≡ Err (file_refused e)) → ReadsAs m start next s s (Err e)
told_fault m start next s e p h = record { files = refl; meets = plain_meets m start next s e p h }

-- a meaning in other words
pub same_goes : {A : Type 0} (m n : CallMeaning A) (start : ℕ) (s : LibraryState) → ((g : Files) (limit : Option ℕ) → m g limit ≡ n g limit) → Goes m n start start s s
same_goes m n start s h = record { files = refl; still = unmoved s; later = omega arith; same = each s.files _ (λ g limit reach. h g limit) }

pub reworded : {A : Type 0} (m n : CallMeaning A) (start : ℕ) (next : A → ℕ) (old new : LibraryState) (r : Result A DriverFault) → ((g : Files) (limit : Option ℕ) → m g limit ≡ n g limit) → ReadsAs n start next old new r → ReadsAs m start next old new r
reworded m n start next old new r h x = ends m n start start next old old new r (same_goes m n start old h) x
