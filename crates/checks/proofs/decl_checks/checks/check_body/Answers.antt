use Rattle.std.proofs.Common.{List, All, subst, sym}
use Rattle.std.proofs.lemmas.List.Elements.{All-same}
use Rattle.tasks.specs.declared.declaration.Body.{Body}
use Rattle.tasks.specs.declared.declaration.Alg.{Alg}
use Rattle.tasks.specs.Task.{Constructs}
use Rattle.tasks.specs.Meaning.{symbols_at, algebraics_at, body_at, InductiveHeld, AlgebraicHeld, BodyHeld}
use Rattle.checks.specs.decl_checks.Checks.{IsAnswerTo}
use Rattle.checks.proofs.decl_checks.checks.check_body.Goals as goal

pub check_clauses-requires : goal.check_clauses-requires
check_clauses-requires c =
    let s = c.args.store.now in
    let held : All (InductiveHeld s) c.in-Inductives.inductives = subst (BodyHeld s) c.in-Inductives.is c.requires in
    All-same (InductiveHeld s) c.as_slice.result.now c.in-Inductives.inductives c.as_slice.ensures held

pub check_types-requires : goal.check_types-requires
check_types-requires c =
    let s = c.args.store.now in
    let held : All (AlgebraicHeld s) c.in-Algebraics.types = subst (BodyHeld s) c.in-Algebraics.is c.requires in
    All-same (AlgebraicHeld s) c.as_slice-in-Algebraics.result.now c.in-Algebraics.types c.as_slice-in-Algebraics.ensures held

pub returns-in-Algebraics : goal.returns-in-Algebraics
returns-in-Algebraics c =
    let s = c.args.store.now in
    let symbols = symbols_at s c.args.sig.now.symbols in
    let answer : IsAnswerTo symbols (Constructs (algebraics_at s c.in-Algebraics.types)) c.check_types.result =
    subst (λ (ts : List Alg). IsAnswerTo symbols (Constructs (algebraics_at s ts)) c.check_types.result) c.as_slice-in-Algebraics.ensures c.check_types.ensures in
    subst (λ (b : Body). IsAnswerTo symbols (body_at s b) c.check_types.result) (sym c.in-Algebraics.is) answer
