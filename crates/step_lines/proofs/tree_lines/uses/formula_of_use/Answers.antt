use Rattle.std.proofs.Common.{Some, List, Option, IfOk, ap, subst, ◌∙◌}
use Rattle.trees.specs.declared.TermId.{TermId}
use Rattle.trees.specs.Tree.{Tree}
use Rattle.tasks.specs.Meaning.{trees_at}
use Rattle.step_lines.specs.tree_lines.Named.{cells}
use Rattle.step_lines.specs.tree_lines.Made.{IsTreeMade}
use Rattle.step_lines.proofs.tree_lines.Applying.{formula_made, formula_refused}
use Rattle.step_lines.proofs.tree_lines.uses.formula_of_use.Goals as goal

pub returns-in-Some-clause-made : goal.returns-in-Some-clause-made
returns-in-Some-clause-made c =
    let s0 = c.args.store.now in
    let s1 = c.type_list.new.store in
    let s2 = c.cell_list.new.store in
    let tree = c.in_ok-types.ensures.tree ∙ ap (λ (l : List TermId). cells (trees_at s0 l)) c.deref.ensures.value in
    let made = subst (λ (l : List TermId). IsTreeMade s2 (Some (cells (trees_at s1 l))) c.in_ok-args.field-0) c.deref-2.ensures.value c.in_ok-args.ensures.made in
    let e = formula_made s0 s1 s2 c.in_ok-types.ensures.grows c.in_ok-args.ensures.grows c.args.used.now.types.items c.args.used.now.parts.items c.in_ok-types.types c.in_ok-args.field-0 c.requires.parts c.in_ok-types.ensures.held tree made c.args.used.now.symbol c.in-Some.args c.in-Some.is in
    subst (λ (m : Option Tree). IfOk c.add_node.result (IsTreeMade c.add_node.new.store m)) e c.add_node.ensures.made

pub returns-in-None-clause-made : goal.returns-in-None-clause-made
returns-in-None-clause-made c =
    let s0 = c.args.store.now in
    let s1 = c.type_list.new.store in
    let s2 = c.cell_list.new.store in
    let tree = c.in_ok-types.ensures.tree ∙ ap (λ (l : List TermId). cells (trees_at s0 l)) c.deref.ensures.value in
    let made = subst (λ (l : List TermId). IsTreeMade s2 (Some (cells (trees_at s1 l))) c.in_ok-args.field-0) c.deref-2.ensures.value c.in_ok-args.ensures.made in
    formula_refused s0 s1 s2 c.in_ok-types.ensures.grows c.in_ok-args.ensures.grows c.args.used.now.types.items c.args.used.now.parts.items c.in_ok-types.types c.in_ok-args.field-0 c.requires.parts c.in_ok-types.ensures.held tree made c.args.used.now.symbol c.in-None.is
