use Rattle.std.proofs.Common.{◌-◌, ◌++◌, List, take, drop, length, sym, ap, subst, ◌∙◌}
use Rattle.trees.specs.declared.TermId.{TermId}
use Rattle.trees.specs.declared.Sort.TheVariants.{Kind}
use Rattle.trees.specs.binders.Visits.{HoldTypes}
use Rattle.tr_recursion.specs.recursion_forms.Read.{constructor_branch_at}
use Rattle.tr_recursion.proofs.recursion_forms.Numbers.{held_append, held_take, held_drop}
use Rattle.tr_recursion.proofs.recursion_forms.Making.{types_made}
use Rattle.tr_recursion.proofs.recursion_forms.equations.branch_types.Goals as goal

pub push_field_types-requires-clause-types : goal.push_field_types-requires-clause-types
push_field_types-requires-clause-types c =
    let s = c.args.store.now in
    let args = c.args.args.now in
    subst (HoldTypes s) (sym (c.in_ok-types.ensures.items ∙ c.before-2.ensures)) (held_take Kind s (length args - 1 - c.args.index) args c.requires.args)

pub returns-clause-held : goal.returns-clause-held
returns-clause-held c =
    let s = c.args.store.now in
    let args = c.args.args.now in
    let two = c.push_field_types.new.types.items in
    subst (HoldTypes s) (sym (c.in_ok-extend_from_slice.ensures.items ∙ ap (λ (z : List TermId). two ++ z) c.after.ensures))
    (held_append Kind s two (drop (length args - c.args.index) args) c.in_ok-push_field_types.ensures.held (held_drop Kind s (length args - c.args.index) args c.requires.args))

pub returns-clause-trees : goal.returns-clause-trees
returns-clause-trees c =
    let s = c.args.store.now in
    let two = c.push_field_types.new.types.items in
    types_made s c.args.args.now c.args.index (constructor_branch_at s c.args.branch) c.in_ok-types.types.items two c.extend_from_slice.new.self.items (c.in_ok-types.ensures.items ∙ c.before-2.ensures) c.in_ok-push_field_types.ensures.trees
    (c.in_ok-extend_from_slice.ensures.items ∙ ap (λ (z : List TermId). two ++ z) c.after.ensures)
