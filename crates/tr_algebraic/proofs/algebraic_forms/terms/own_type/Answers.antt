use Rattle.std.proofs.Common.{refl, sym, ap, subst, ◌∙◌}
use Rattle.trees.specs.declared.Sort.TheVariants.{Kind}
use Rattle.trees.specs.Tree.{One, HTyApp}
use Rattle.trees.specs.Sorts.{sort_of, IsList}
use Rattle.tasks.proofs.Growth.{held_later, tree_later}
use Rattle.tr_algebraic.proofs.algebraic_forms.terms.own_type.Goals as goal

pub returns-clause-own : goal.returns-clause-own
returns-clause-own c =
    let s1 = c.type_variables.new.store in
    let s2 = c.add.new.self in
    let list = c.in_ok-list.list in
    let l = c.in_ok-list.ensures in
    let t = c.in_ok-ty.ensures in
    let same = tree_later s1 s2 t.grows list l.held in
    record {
      symbol_is = refl;
      vars_are = refl;
      list_held = held_later s1 s2 t.grows list l.held;
      list = subst (IsList Kind) (sym same) l.list;
      list_is = same ∙ l.tree;
      type = record { held = t.held; kind = ap sort_of t.tree };
      type_is = t.tree ∙ ap (One (HTyApp c.args.symbol)) l.tree;
    }
