use Rattle.std.proofs.Common.{◌∷◌, [], List, get_or, refl}
use Rattle.tasks.specs.declared.declaration.Def.{Def}
use Rattle.tasks.specs.Meaning.{definition_at, definitions_at}
use Rattle.tr_inline.specs.full_bodies.Chosen.{chosen}
use Rattle.tr_inline.proofs.full_bodies.Listed.{listed_more, listed_all, definition_step}
use Rattle.tr_inline.proofs.full_bodies.listing.push_definitions.Goals as goal

abbrev none : Def
none = record { symbol = 0; equation = record { 0 = 0 } }

pub push_definition-requires-clause-held : goal.push_definition-requires-clause-held
push_definition-requires-clause-held c = c.requires.held c.loop-def.def-index none c.loop-def-test.true

pub loop-def-preserved : goal.loop-def-preserved
loop-def-preserved c =
    let s = c.args.store.now in
    let m = c.args.mode in
    let xs = c.args.defs.now in
    let a = c.in_ok-push_definition.ensures in
    record {
      held = a.held;
      made = listed_more s m (λ (ys : List Def). chosen m (definitions_at s ys)) (λ (x : Def). chosen m (definition_at s x ∷ [])) (definition_step s m) xs c.loop-def.def-index none c.loop-def-test.true c.loop-def.listed.items c.push_definition.new.listed.items _ a.are c.loop-def.invariant.made;
    }

pub returns : goal.returns
returns c =
    let s = c.args.store.now in
    let m = c.args.mode in
    record {
      held = c.loop-def.invariant.held;
      are = listed_all s m (λ (ys : List Def). chosen m (definitions_at s ys)) refl c.args.defs.now c.loop-def.def-index c.loop-def-test.false c.loop-def.listed.items _ c.loop-def.invariant.made;
    }
