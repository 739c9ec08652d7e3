use Rattle.std.proofs.Common.{List, All, sym, subst}
use Rattle.tasks.specs.declared.declaration.Ind.{Ind}
use Rattle.tasks.specs.declared.declaration.Body.TheVariants.{Inductives}
use Rattle.tasks.specs.Meaning.{InductiveHeld, BodyHeld}
use Rattle.theory_states.proofs.goal_tasks.declarations.note_said.Goals as goal

pub note_clauses-requires-clause-held : goal.note_clauses-requires-clause-held
note_clauses-requires-clause-held c =
    let s = c.args.store.now in
    let h : BodyHeld s (Inductives c.in-Inductives.inductives) = subst (BodyHeld s) c.in-Inductives.is c.requires.held in
    subst (λ (z : List Ind). All (InductiveHeld s) z) (sym c.as_slice-in-Inductives.ensures) h
