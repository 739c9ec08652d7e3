use Rattle.std.proofs.Common.{◌≡◌, List, true, false, subst, sym, ap, ◌∙◌}
use Rattle.tasks.specs.declared.declaration.Def.{Def}
use Rattle.tasks.specs.Task.{Defines}
use Rattle.tasks.specs.Meaning.{definitions_at, body_at, BodyHeld}
use Rattle.checks.specs.recursive_groups.Groups.{is_recursive}
use Rattle.tr_inline.specs.full_bodies.Chosen.{chosen}
use Rattle.tr_inline.specs.full_bodies.Listed.{AreDefsHeld, AreAppended}
use Rattle.tr_inline.proofs.full_bodies.Listed.{group_appended, recursive_left, other_left}
use Rattle.tr_inline.proofs.full_bodies.listing.push_group.Goals as goal

pub returns-then-is_recursive : goal.returns-then-is_recursive
returns-then-is_recursive c =
    let s = c.args.store.now in
    let ds = c.in-Defs.defs in
    let r : is_recursive (definitions_at s ds) ≡ true = ap (λ (z : List Def). is_recursive (definitions_at s z)) (sym c.as_slice-group.ensures) ∙ sym c.is_recursive.ensures.test ∙ c.if-is_recursive.true in
    recursive_left s c.args.mode ds (body_at s c.args.body.now) c.args.listed.now.items (ap (body_at s) c.in-Defs.is) r c.requires.listed

pub returns-in_ok-push_definitions-in-Defs : goal.returns-in_ok-push_definitions-in-Defs
returns-in_ok-push_definitions-in-Defs c =
    let s = c.args.store.now in
    let m = c.args.mode in
    let ds = c.in-Defs.defs in
    let old = c.args.listed.now.items in
    let new = c.push_definitions.new.listed.items in
    let r : is_recursive (definitions_at s ds) ≡ false = ap (λ (z : List Def). is_recursive (definitions_at s z)) (sym c.as_slice-group.ensures) ∙ sym c.is_recursive.ensures.test ∙ c.if-is_recursive.false in
    let a : AreAppended s (chosen m (definitions_at s ds)) old new = subst (λ (z : List Def). AreAppended s (chosen m (definitions_at s z)) old new) c.as_slice-group.ensures c.in_ok-push_definitions-in-Defs.ensures in
    group_appended s m ds (body_at s c.args.body.now) old new (ap (body_at s) c.in-Defs.is) r a

pub returns-in_default : goal.returns-in_default
returns-in_default c = other_left c.args.store.now c.args.mode c.args.body.now c.in_default.not-Defs c.args.listed.now.items c.requires.listed
