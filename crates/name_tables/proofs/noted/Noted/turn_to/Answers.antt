use Rattle.std.proofs.Common.{List, All, sym, subst}
use Rattle.tasks.specs.declared.declaration.Decl.{Decl}
use Rattle.tasks.specs.Meaning.{DeclHeld}
use Rattle.name_tables.specs.Seen.{KeysHeld}
use Rattle.name_tables.proofs.Fronts.{noted_made, noted_for}
use Rattle.name_tables.proofs.noted.Noted.turn_to.Goals as goal

pub returns-then-is_for : goal.returns-then-is_for
returns-then-is_for c = record { noted = c.requires.noted; this = noted_for c.args.store.now c.args.self.now c.args.task.now c.requires.noted (c.is_for.ensures c.if-is_for.true) }

pub seen_in_declarations-requires : goal.seen_in_declarations-requires
seen_in_declarations-requires c = subst (λ (ds : List Decl). All (DeclHeld c.args.store.now) ds) (sym c.as_slice.ensures) c.requires.held.decls

pub of_seen-requires : goal.of_seen-requires
of_seen-requires c = subst (KeysHeld c.args.store.now) (sym c.as_slice-2.ensures.keys) c.in_ok-seen.ensures.seen.held

pub returns : goal.returns
returns c = record {
  noted = noted_made c.args.store.now c.args.task.now _ c.as_slice.result.now c.as_slice-2.result.now c.as_slice.ensures c.as_slice-2.ensures.keys c.in_ok-seen.ensures c.in_ok-things.ensures.held c.in_ok-things.ensures.things;
  this = noted_made c.args.store.now c.args.task.now _ c.as_slice.result.now c.as_slice-2.result.now c.as_slice.ensures c.as_slice-2.ensures.keys c.in_ok-seen.ensures c.in_ok-things.ensures.held c.in_ok-things.ensures.things;
}
