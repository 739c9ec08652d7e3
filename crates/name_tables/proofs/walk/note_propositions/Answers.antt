use Rattle.std.proofs.Common.{subst, get_or}
use Rattle.tasks.specs.declared.declaration.Decl.{Decl}
use Rattle.tasks.specs.Meaning.{body_at}
use Rattle.name_tables.specs.Own.{said_occurrences}
use Rattle.name_tables.specs.Seen.{WalksTerms}
use Rattle.name_tables.proofs.Loops.{propositions_more, walks_step}
use Rattle.name_tables.proofs.walk.note_propositions.Goals as goal

pub loop-decl-preserved : goal.loop-decl-preserved
loop-decl-preserved c =
    let s = c.args.store.now in
    let d = c.decl-item.result in
    let one : WalksTerms s c.loop-decl.seen.keys (said_occurrences (body_at s (get_or c.args.decls.now c.loop-decl.decl-index d).body)) c.note_body.new.seen.keys c.note_body.new.done.keys =
    subst (λ (z : Decl). WalksTerms s c.loop-decl.seen.keys (said_occurrences (body_at s z.body)) c.note_body.new.seen.keys c.note_body.new.done.keys) c.decl-item.is c.in_ok-note_body.ensures in
    walks_step s _ _ _ _ _ _ _ _ (propositions_more s c.args.decls.now c.loop-decl.decl-index d c.loop-decl-test.true) c.loop-decl.invariant one
