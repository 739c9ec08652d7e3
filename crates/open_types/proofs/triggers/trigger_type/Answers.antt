use Rattle.std.proofs.Common.{◌≡◌, List, Some, true, false, refl, sym, ap, ◌∙◌}
use Rattle.surface.specs.Lexeme.{Word}
use Rattle.name_resolution.specs.Abstract.{expression_of}
use Rattle.name_resolution.specs.Faults.{is_formula_trigger, is_formula_head, trigger_head}
use Rattle.name_resolution.specs.Naming.{where_at}
use Rattle.open_types.specs.Pieces.{names}
use Rattle.open_types.specs.Drafts.{locals_at, names_of_locals}
use Rattle.open_types.proofs.Noting.{nothing_noted}
use Rattle.open_types.proofs.Arguments.{names_locals}
use Rattle.open_types.proofs.triggers.trigger_type.Goals as goal

pub returns-then-branch-clause-wanted : goal.returns-then-branch-clause-wanted
returns-then-branch-clause-wanted c =
    let s = c.args.store.now in
    let w = where_at s c.args.world.now in
    let f : is_formula_trigger w (names (locals_at s c.args.locals.now)) (expression_of c.args.e.now) ≡ true =
    ap (λ (ns : List Word). is_formula_head w ns (trigger_head (expression_of c.args.e.now))) (names_locals s c.args.locals.now) ∙ (ap (is_formula_head w (names_of_locals c.args.locals.now)) (sym c.trigger_of-found.ensures.head) ∙ (sym (c.in_ok-is_formula_head.ensures s) ∙ c.if-branch.true)) in
    rw f refl

pub returns-then-branch-clause-noted : goal.returns-then-branch-clause-noted
returns-then-branch-clause-noted c =
    let s = c.args.store.now in
    let w = where_at s c.args.world.now in
    let f : is_formula_trigger w (names (locals_at s c.args.locals.now)) (expression_of c.args.e.now) ≡ true =
    ap (λ (ns : List Word). is_formula_head w ns (trigger_head (expression_of c.args.e.now))) (names_locals s c.args.locals.now) ∙ (ap (is_formula_head w (names_of_locals c.args.locals.now)) (sym c.trigger_of-found.ensures.head) ∙ (sym (c.in_ok-is_formula_head.ensures s) ∙ c.if-branch.true)) in
    rw f (nothing_noted s c.args.draft.now c.requires.ready)

pub returns-clause-wanted : goal.returns-clause-wanted
returns-clause-wanted c =
    let s = c.args.store.now in
    let w = where_at s c.args.world.now in
    let f : is_formula_trigger w (names (locals_at s c.args.locals.now)) (expression_of c.args.e.now) ≡ false =
    ap (λ (ns : List Word). is_formula_head w ns (trigger_head (expression_of c.args.e.now))) (names_locals s c.args.locals.now) ∙ (ap (is_formula_head w (names_of_locals c.args.locals.now)) (sym c.trigger_of-found.ensures.head) ∙ (sym (c.in_ok-is_formula_head.ensures s) ∙ c.if-branch.false)) in
    rw f (ap Some c.in_ok-ty.ensures.tree)

pub returns-clause-noted : goal.returns-clause-noted
returns-clause-noted c =
    let s = c.args.store.now in
    let w = where_at s c.args.world.now in
    let f : is_formula_trigger w (names (locals_at s c.args.locals.now)) (expression_of c.args.e.now) ≡ false =
    ap (λ (ns : List Word). is_formula_head w ns (trigger_head (expression_of c.args.e.now))) (names_locals s c.args.locals.now) ∙ (ap (is_formula_head w (names_of_locals c.args.locals.now)) (sym c.trigger_of-found.ensures.head) ∙ (sym (c.in_ok-is_formula_head.ensures s) ∙ c.if-branch.false)) in
    rw f (rw c.trigger_of-found.ensures.token at c.in_ok-ty.ensures.noted)
