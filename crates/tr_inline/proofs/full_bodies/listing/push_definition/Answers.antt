use Rattle.std.proofs.Common.{◌≡◌, true, false, sym, ap, ◌∙◌}
use Rattle.tasks.specs.Meaning.{definition_at}
use Rattle.checks.specs.decl_checks.Structure.{defining_body}
use Rattle.tr_inline.specs.full_bodies.Chosen.{is_chosen}
use Rattle.tr_inline.proofs.full_bodies.Listed.{appended_one, appended_no}
use Rattle.tr_inline.proofs.full_bodies.listing.push_definition.Goals as goal

pub returns-then-taken : goal.returns-then-taken
returns-then-taken c =
    let s = c.args.store.now in
    let d = c.args.def in
    let is : is_chosen c.args.mode (defining_body (definition_at s d).equation) ≡ true = ap (is_chosen c.args.mode) (sym c.defining_body-body.ensures.tree) ∙ sym c.in_ok-taken.ensures ∙ c.if-taken.true in
    appended_one s c.args.mode d c.args.listed.now.items c.push.new.self.items c.in_ok-push.ensures.items c.requires.held c.requires.listed is

pub returns : goal.returns
returns c =
    let s = c.args.store.now in
    let d = c.args.def in
    let is : is_chosen c.args.mode (defining_body (definition_at s d).equation) ≡ false = ap (is_chosen c.args.mode) (sym c.defining_body-body.ensures.tree) ∙ sym c.in_ok-taken.ensures ∙ c.if-taken.false in
    appended_no s c.args.mode d c.args.listed.now.items c.requires.listed is
