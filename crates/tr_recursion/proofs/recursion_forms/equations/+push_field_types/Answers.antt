use Rattle.std.proofs.Common.{◌≡◌, true, [], ◌∷◌, sym, ap, subst, ◌∙◌, arith}
use Rattle.std.specs.List.{list_all}
use Rattle.tasks.proofs.plain_laws.Bools.{and_second}
use Rattle.trees.specs.declared.Sort.TheVariants.{Kind}
use Rattle.trees.specs.Tree.{Tree, Two, HCell}
use Rattle.trees.specs.Node.{tree_at}
use Rattle.trees.specs.binders.Visits.{HoldTypes}
use Rattle.tasks.specs.Typing.{members}
use Rattle.tr_inline.specs.inlining.branch_equations.Branches.{is_plain_field}
use Rattle.tr_recursion.proofs.recursion_forms.Numbers.{held_append}
use Rattle.tr_recursion.proofs.recursion_forms.equations.+push_field_types.Goals as goal

pub push_field_types-requires : goal.push_field_types-requires
push_field_types-requires t c =
    let s = c.args.store.now in
    let n = c.in-Cell.ensures in
    let first = tree_at s c.in-Cell.first in
    let rest = tree_at s c.in-Cell.rest in
    let f = c.field_type.ensures in
    let plain : list_all is_plain_field (members (Two HCell first rest)) ≡ true = ap (λ (z : Tree). list_all is_plain_field (members z)) (sym n.tree) ∙ c.requires.plain in
    let types = subst (HoldTypes s) (sym c.in_ok-push-in-Cell.ensures.items) (held_append Kind s c.args.types.now.items (c.field_type.result ∷ []) c.requires.types ((f.held, f.kind), tt)) in
    (omega (arith, n.below.1), (omega (arith, n.below.1, c.requires.fields), (and_second (is_plain_field first) (list_all is_plain_field (members rest)) plain, types)))
