-- A run has one answer: each stage has at most one. Where a derivation is lifted it is one stop, or none.
use Rattle.std.proofs.Common.{◌≡◌, ◌⊎◌, ◌+◌, ◌++◌, ◌∷◌, [], ◌∙◌, ℕ, zero, suc, length, map, drop, List, Option, Some, None, IfSome, Result, Ok, Err, inl, inr, refl, sym, ap, subst}
use Rattle.statuses.specs.outside.State.{Files, LibraryState}
use Rattle.tasks.specs.Task.{TaskTree}
use Rattle.rules.specs.Trees.{StepTree}
use Rattle.stages.specs.evidence.Stages.{task_or}
use Rattle.step_writing.specs.name_tables.declared.name_entries.names.NameEntry.{NameEntry}
use Rattle.step_writing.specs.name_tables.Tables.{task_names}
use Rattle.part_texts.specs.drivers.declared.driver_parts.driver.Driver.{Driver}
use Rattle.part_texts.specs.printed_problems.Problems.{problem_of}
use Rattle.part_texts.specs.declared.fault.PartFault.{PartFault}
use Rattle.part_texts.specs.declared.fault.PartFault.TheVariants as part_fault
use Rattle.part_texts.specs.Problems.{first_fault}
use Rattle.stages.specs.transformations.Transformations.{equation_of}
use Rattle.stages.specs.Carried.{carried_task}
use Rattle.stages.specs.Listing.{stages_of}
use Rattle.part_texts.specs.Texts.{part_texts}
use Rattle.part_texts.specs.Names.{name_texts}
use Rattle.statuses.specs.fault_order.Answers.{IsWholeAnswer, EndsAs}
use Rattle.statuses.specs.declared.fault_order.faults.RunFault.{RunFault}
use Rattle.statuses.specs.declared.fault_order.faults.RunFault.TheVariants as run_fault
use Rattle.statuses.specs.fault_order.Order.{RunStop, refused, absent, misused, Stage, StageMeaning, Answer, After, fetched, if_short, ShortFile, WholeFile, HasOneAnswer}
use Rattle.program.specs.source_goals.Order.{Goal, GoalSettingTree, GoalUnder, AreDetermined}
use Rattle.program.specs.Order.{or_stage_refused, Carried, Printable, PrintableParts, ProblemTexts, ProblemTables, PrintText, NamesText, accepted, AreSteps, Checks, Derivation, CheckText, if_counted, RefutesPart, PartFile, name_with_number, FirstFiles, Lifts, Handed, RefutationsRead, Lifting, LiftText, StressText, word_with_number, TextOf, AnswerBy, AnswerOf}
use Rattle.statuses.proofs.fault_order.OneStage.{one_answer, one_after}
use Rattle.program.specs.Only.{IsDueAlone, IsOnlyAnswer, IsOnlyStop}
use Rattle.program.proofs.source_goals.OneSource.{one_goal, one_short_file}
use Rattle.program.proofs.source_goals.OneSetting.{one_setting}
use Rattle.program.proofs.Checking.{one_outcome, one_wrong, one_list}
use Rattle.statuses.specs.Words.{command_of}
use Rattle.statuses.specs.declared.fault_order.faults.Fault.TheVariants.{Polymorphic, Unprintable, NoSyntax, WrongLine}
use Rattle.statuses.specs.declared.words.Command.{Command}
use Rattle.statuses.specs.declared.words.Command.TheVariants.{Print, Names, Check, Lift, Stress}
use Rattle.tasks.proofs.plain_laws.Options.{if_some as told}

one_carried : (g : GoalSettingTree) → HasOneAnswer (Carried g)
one_carried g = one_answer _

-- where a part can't be printed
abbrev part_stop : PartFault → RunStop
part_stop part_fault.Memory = misused
part_stop (part_fault.Polymorphic part decl) = refused (Polymorphic part decl)
part_stop (part_fault.Unprintable part decl) = refused (Unprintable part decl)
part_stop (part_fault.NoSyntax part symbol) = refused (NoSyntax part symbol)

abbrev unless_fault : List TaskTree → Option PartFault → Result (List TaskTree) RunStop
unless_fault ts None = Ok ts
unless_fault ts (Some fault) = Err (part_stop fault)

as_printable : (d : Driver) (ts : List TaskTree) (r : Result (List TaskTree) RunStop) → Printable d ts r → r ≡ unless_fault ts (first_fault d 1 ts)
as_printable d ts (Ok us) h = ap (λ (z : List TaskTree). Ok z) h.1 ∙ sym (ap (unless_fault ts) h.0)
as_printable d ts (Err (refused (Polymorphic part decl))) h = sym (ap (unless_fault ts) h)
as_printable d ts (Err (refused (Unprintable part decl))) h = sym (ap (unless_fault ts) h)
as_printable d ts (Err (refused (NoSyntax part symbol))) h = sym (ap (unless_fault ts) h)
as_printable d ts (Err _) h = absurd h

one_printable : (d : Driver) (ts : List TaskTree) → HasOneAnswer (Printable d ts)
one_printable d ts r q a b = as_printable d ts r a ∙ sym (as_printable d ts q b)

one_parts : (g : GoalSettingTree) → HasOneAnswer (PrintableParts g)
one_parts g = one_after (Carried g) (Printable g.driver) (one_carried g) (one_printable g.driver)

one_printed : (g : GoalSettingTree) → HasOneAnswer (ProblemTexts g)
one_printed g = one_after (PrintableParts g) (λ ts. Answer (Ok (part_texts g.driver ts))) (one_parts g) (λ ts. one_answer _)

one_named : (g : GoalSettingTree) → HasOneAnswer (ProblemTables g)
one_named g = one_after (PrintableParts g) (λ ts. Answer (Ok (name_texts g.driver ts))) (one_parts g) (λ ts. one_answer _)

pub one_print : (determined : AreDetermined) → (src drv theory goal : List ℕ) (files : Files) (limit : Option ℕ) → HasOneAnswer (PrintText src drv theory goal files limit)
one_print determined src drv theory goal files limit = one_after (GoalUnder src drv theory goal files limit) ProblemTexts (one_setting determined src drv theory goal files limit) one_printed

pub one_names : (determined : AreDetermined) → (src drv theory goal : List ℕ) (files : Files) (limit : Option ℕ) → HasOneAnswer (NamesText src drv theory goal files limit)
one_names determined src drv theory goal files limit = one_after (GoalUnder src drv theory goal files limit) ProblemTables (one_setting determined src drv theory goal files limit) one_named

one_steps : (t : TaskTree) (names : List NameEntry) (tallest : Option ℕ) (part : ℕ) (bytes : List ℕ) → HasOneAnswer (AreSteps t names tallest part bytes)
one_steps t names tallest part bytes (Ok a) (Ok b) x y = ap (λ (z : List StepTree). Ok z) (one_list t names tallest bytes a b x y)
one_steps t names tallest part bytes (Ok a) (Err stop) x y = absurd (one_outcome t names tallest bytes a y.0 x y.1)
one_steps t names tallest part bytes (Err stop) (Ok b) x y = absurd (one_outcome t names tallest bytes b x.0 y x.1)
one_steps t names tallest part bytes (Err stop) (Err other) x y =
    let line : x.0 ≡ y.0 = one_wrong t names tallest bytes x.0 y.0 x.1 y.1 in
    ap (λ (z : RunStop). Err z) (x.2 ∙ ap (λ (n : ℕ). refused (WrongLine part n)) line ∙ sym y.2)

one_checks : (t : TaskTree) (bytes : List ℕ) → HasOneAnswer (Checks t bytes)
one_checks t bytes = one_after (AreSteps t (task_names t) None 1 bytes) (λ steps. Answer (Ok accepted)) (one_steps t (task_names t) None 1 bytes) (λ steps. one_answer _)

one_derivation : (der : List ℕ) (t : TaskTree) (files : Files) (limit : Option ℕ) → HasOneAnswer (Derivation der t files limit)
one_derivation der t files limit = one_after (WholeFile 1 der files limit) (Checks t) (one_answer _) (one_checks t)

pub one_check : (determined : AreDetermined) → (src theory goal der : List ℕ) (files : Files) (limit : Option ℕ) → HasOneAnswer (CheckText src theory goal der files limit)
one_check determined src theory goal der files limit =
    one_after (Goal src theory goal files limit) (λ t. Derivation der t files limit) (one_goal determined src theory goal files limit) (λ t. one_derivation der t files limit)

one_refutes : (d : Driver) (number : ℕ) (part : TaskTree) (bytes : List ℕ) → HasOneAnswer (RefutesPart d number part bytes)
one_refutes d number part bytes = one_steps part (problem_of d part).names (Some 2000) number bytes

one_part_file : (d : Driver) (k : ℕ) (part : TaskTree) (name : List ℕ) (files : Files) (limit : Option ℕ) → HasOneAnswer (PartFile d k part name files limit)
one_part_file d k part name files limit = one_after (ShortFile (k + d.next_file) name files limit) (RefutesPart d (k + 1) part) (one_short_file (k + d.next_file) name files limit) (one_refutes d (k + 1) part)

one_first_files : (d : Driver) (parts : List TaskTree) (names : List (List ℕ)) (n : ℕ) (files : Files) (limit : Option ℕ) → HasOneAnswer (FirstFiles d parts names n files limit)
one_first_files d parts names zero files limit = one_answer (Ok [])
one_first_files d parts names (suc n) files limit =
    one_after (FirstFiles d parts names n files limit) (λ handed. After (PartFile d n (task_or parts n) (name_with_number names n) files limit) (λ steps. Answer (Ok (handed ++ steps ∷ [])))) (one_first_files d parts names n files limit)
    (λ handed. one_after (PartFile d n (task_or parts n) (name_with_number names n) files limit) (λ steps. Answer (Ok (handed ++ steps ∷ []))) (one_part_file d n (task_or parts n) (name_with_number names n) files limit) (λ steps. one_answer _))

one_handed : (d : Driver) (names : List (List ℕ)) (parts : List TaskTree) (files : Files) (limit : Option ℕ) → HasOneAnswer (Handed d names parts files limit)
one_handed d names parts files limit =
    one_after (Answer (if_counted parts (length names))) (λ counted. FirstFiles d counted names (length names) files limit) (one_answer _) (λ counted. one_first_files d counted names (length names) files limit)

one_reading : (names : List (List ℕ)) (g : GoalSettingTree) (files : Files) (limit : Option ℕ) → HasOneAnswer (RefutationsRead names g files limit)
one_reading names g files limit =
    one_after (PrintableParts g) (λ parts. Handed g.driver names parts files limit) (one_parts g) (λ parts. one_handed g.driver names parts files limit)

module _ {A : Type 0} (meaning : StageMeaning A) (old new : LibraryState) (one : (files : Files) → HasOneAnswer (meaning files None)) where
  alone : (its : Result A RunStop) → IfSome old.files (λ files. meaning files None its) → IfSome old.files (IsDueAlone meaning its)
  alone its h = told old.files _ _ (λ files p r a. one files r its a p) h

  only_by : (r : Result A RunFault) → IsWholeAnswer meaning old new r → IsOnlyAnswer meaning old r
  only_by (Ok value) h = alone (Ok value) h.1
  only_by (Err run_fault.Memory) h = tt
  only_by (Err (run_fault.Refused fault)) h = alone (Err (refused fault)) h.1
  only_by (Err (run_fault.Absent file)) h = alone (Err (absent file)) h.1
  only_by (Err (run_fault.ReadFault file)) h = tt

-- where a meaning has one answer, what a part of a run answers is the only one that is due
pub only : {A : Type 0} {meaning : StageMeaning A} {old new : LibraryState} {r : Result A RunFault} → ((files : Files) → HasOneAnswer (meaning files None)) → EndsAs meaning old new r → IsOnlyAnswer meaning old r
only {meaning = meaning} {old = old} {new = new} {r = r} one ends = only_by meaning old new one r ends.gives

-- both have a value, or both have this stop
abbrev pub Alike : {A : Type 0} → Result A RunStop → Result A RunStop → Type 0
Alike (Ok a) (Ok b) = Unit {0}
Alike (Err stop) (Err other) = stop ≡ other
Alike _ _ = ⊥

-- a stage has values alone, or one stop at most
abbrev pub OneStop : {A : Type 0} → Stage A → Type 0
OneStop {A} stage = (r q : Result A RunStop) → stage r → stage q → Alike r q

alike_self : {A : Type 0} (r : Result A RunStop) → Alike r r
alike_self (Ok a) = tt
alike_self (Err stop) = refl

alike_stop : {A : Type 0} (r : Result A RunStop) (stop : RunStop) → Alike r (Err stop) → r ≡ Err stop
alike_stop (Ok a) stop h = absurd h
alike_stop (Err other) stop h = ap (λ (z : RunStop). Err z) h

module _ {A : Type 0} (meaning : StageMeaning A) (old new : LibraryState) (one : (files : Files) → OneStop (meaning files None)) where
  stop_alone : (stop : RunStop) → IfSome old.files (λ files. meaning files None (Err stop)) → IfSome old.files (IsDueAlone meaning (Err stop))
  stop_alone stop h = told old.files _ _ (λ files p r a. alike_stop r stop (one files r (Err stop) a p)) h

  only_stop_by : (r : Result A RunFault) → IsWholeAnswer meaning old new r → IsOnlyStop meaning old r
  only_stop_by (Ok value) h = told old.files _ _ (λ files p stop a. one files (Err stop) (Ok value) a p) h.1
  only_stop_by (Err run_fault.Memory) h = tt
  only_stop_by (Err (run_fault.Refused fault)) h = stop_alone (refused fault) h.1
  only_stop_by (Err (run_fault.Absent file)) h = stop_alone (absent file) h.1
  only_stop_by (Err (run_fault.ReadFault file)) h = tt

-- and where it has values alone, or one stop at most
pub only_stop : {A : Type 0} {meaning : StageMeaning A} {old new : LibraryState} {r : Result A RunFault} → ((files : Files) → OneStop (meaning files None)) → EndsAs meaning old new r → IsOnlyStop meaning old r
only_stop {meaning = meaning} {old = old} {new = new} {r = r} one ends = only_stop_by meaning old new one r ends.gives

one_stop : {A : Type 0} (stage : Stage A) → HasOneAnswer stage → OneStop stage
one_stop stage one r q a b = subst (λ z. Alike r z) (one r q a b) (alike_self r)

stop_both : {A B : Type 0} (first : Stage A) (second : A → Stage B) → HasOneAnswer first → ((a : A) → OneStop (second a)) → (r q : Result B RunStop)
    → ((stop : RunStop) × first (Err stop) × (r ≡ Err stop)) ⊎ ((a : A) × first (Ok a) × second a r)
    → ((stop : RunStop) × first (Err stop) × (q ≡ Err stop)) ⊎ ((a : A) × first (Ok a) × second a q) → Alike r q
stop_both first second one each r q (inl x) (inl y) =
    let e : Err x.0 ≡ Err y.0 = one (Err x.0) (Err y.0) x.1 y.1 in
    let same : r ≡ q = x.2 ∙ cc (e, y.2) in
    subst (λ z. Alike r z) same (alike_self r)
stop_both first second one each r q (inl x) (inr y) = let e = one (Err x.0) (Ok y.0) x.1 y.1 in absurd (cc)
stop_both first second one each r q (inr x) (inl y) = let e = one (Ok x.0) (Err y.0) x.1 y.1 in absurd (cc)
stop_both first second one each r q (inr x) (inr y) =
    let e : Ok x.0 ≡ Ok y.0 = one (Ok x.0) (Ok y.0) x.1 y.1 in
    let same : x.0 ≡ y.0 = cc in
    each y.0 r q (subst (λ a. second a r) same x.2) y.2

stop_after : {A B : Type 0} (first : Stage A) (second : A → Stage B) → HasOneAnswer first → ((a : A) → OneStop (second a)) → OneStop (After first second)
stop_after first second one each r q x y = stop_both first second one each r q x y

stop_lifts : (t : TaskTree) (handed : List (List StepTree)) → OneStop (Lifts t handed)
stop_lifts t handed (Ok a) (Ok b) x y = tt
stop_lifts t handed (Ok a) (Err stop) x y = absurd y
stop_lifts t handed (Err stop) q x y = absurd x

stop_lifting : (names : List (List ℕ)) (g : GoalSettingTree) (files : Files) (limit : Option ℕ) → OneStop (Lifting names g files limit)
stop_lifting names g files limit = stop_after (RefutationsRead names g files limit) (Lifts g.task) (one_reading names g files limit) (stop_lifts g.task)

pub stop_lift : (determined : AreDetermined) → (src drv theory goal : List ℕ) (names : List (List ℕ)) (files : Files) (limit : Option ℕ) → OneStop (LiftText src drv theory goal names files limit)
stop_lift determined src drv theory goal names files limit =
    stop_after (GoalUnder src drv theory goal files limit) (λ g. Lifting names g files limit) (one_setting determined src drv theory goal files limit) (λ g. stop_lifting names g files limit)

stop_stress : (n : ℕ) (files : Files) (limit : Option ℕ) → OneStop (StressText n files limit)
stop_stress n files limit (Ok a) (Ok b) x y = tt
stop_stress n files limit (Ok a) (Err stop) x y = absurd y
stop_stress n files limit (Err stop) q x y = absurd x

stop_text : (determined : AreDetermined) → (command : Command) (words : List (List ℕ)) (files : Files) (limit : Option ℕ) → OneStop (TextOf command words files limit)
stop_text determined Print words files limit = one_stop (TextOf Print words files limit) (one_print determined (word_with_number words 2) (word_with_number words 3) (word_with_number words 4) (word_with_number words 5) files limit)
stop_text determined Names words files limit = one_stop (TextOf Names words files limit) (one_names determined (word_with_number words 2) (word_with_number words 3) (word_with_number words 4) (word_with_number words 5) files limit)
stop_text determined Check words files limit = one_stop (TextOf Check words files limit) (one_check determined (word_with_number words 2) (word_with_number words 3) (word_with_number words 4) (word_with_number words 5) files limit)
stop_text determined Lift words files limit = stop_lift determined (word_with_number words 2) (word_with_number words 3) (word_with_number words 4) (word_with_number words 5) (drop 6 words) files limit
stop_text determined (Stress n) words files limit = stop_stress n files limit

stop_by : (determined : AreDetermined) → (command : Option Command) (words : List (List ℕ)) (files : Files) (limit : Option ℕ) → OneStop (AnswerBy command words files limit)
stop_by determined None words files limit = one_stop (Answer (Err misused)) (one_answer (Err misused))
stop_by determined (Some command) words files limit = stop_text determined command words files limit

pub stop_of_all : (determined : AreDetermined) → (words : List (List ℕ)) (files : Files) (limit : Option ℕ) → OneStop (AnswerOf words files limit)
stop_of_all determined words files limit = stop_by determined (command_of words) words files limit
