use Rattle.std.proofs.Common.{◌≡◌, ◌∙◌, List, String, Global, map, string_bytes, ap}
use Rattle.std.proofs.lemmas.Result.{IfOk-weaker}
use Rattle.statuses.specs.outside.State.{LibraryState}
use Rattle.stress_gen.specs.Files.{refutation_names}
use Rattle.program.proofs.Stressing.{text_lifted, text_refused, text_absent}
use Rattle.program.proofs.stress_command.stress.Goals as goal

pub returns-in-Ok : goal.returns-in-Ok
returns-in-Ok c =
    let same : map string_bytes c.deref.result.now ≡ refutation_names c.args.parts = ap (λ (l : List (String Global)). map string_bytes l) c.deref.ensures.value ∙ c.in_ok-names.ensures in
    let is = ap (λ (s : LibraryState). s.files) c.in_ok-lib.ensures.state in
    IfOk-weaker c.accepted_text.result _ _ (λ v w. text_lifted c.args.parts _ same _ _ is _ v.items c.in-Ok.ensures.answers w) c.accepted_text.ensures

pub returns-in-Err-Refused : goal.returns-in-Err-Refused
returns-in-Err-Refused c =
    let same : map string_bytes c.deref.result.now ≡ refutation_names c.args.parts = ap (λ (l : List (String Global)). map string_bytes l) c.deref.ensures.value ∙ c.in_ok-names.ensures in
    let is = ap (λ (s : LibraryState). s.files) c.in_ok-lib.ensures.state in
    IfOk-weaker c.line_of.result _ _ (λ v w. text_refused c.args.parts _ same _ _ is c.in-Err-Refused.fault v.items (rw c.in-Err-Refused.field-0-is at c.in-Err-Refused.ensures.answers) w) c.line_of.ensures

pub returns-in-Err-Absent : goal.returns-in-Err-Absent
returns-in-Err-Absent c =
    let same : map string_bytes c.deref.result.now ≡ refutation_names c.args.parts = ap (λ (l : List (String Global)). map string_bytes l) c.deref.ensures.value ∙ c.in_ok-names.ensures in
    let is = ap (λ (s : LibraryState). s.files) c.in_ok-lib.ensures.state in
    IfOk-weaker c.line_of-in-Err-Absent.result _ _ (λ v w. text_absent c.args.parts _ same _ _ is c.in-Err-Absent.file v.items (rw c.in-Err-Absent.field-0-is at c.in-Err-Absent.ensures.answers) w) c.line_of-in-Err-Absent.ensures
