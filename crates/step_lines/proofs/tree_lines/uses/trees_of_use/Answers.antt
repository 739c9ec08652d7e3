use Rattle.std.proofs.Common.{Some, List, ap, sym, subst, ◌∙◌}
use Rattle.trees.specs.declared.TermId.{TermId}
use Rattle.trees.specs.Node.{tree_at}
use Rattle.trees.specs.Binding.{inst_types}
use Rattle.trees.specs.binders.Visits.{HoldTypes, typing_stays_ready}
use Rattle.tasks.specs.Meaning.{trees_at}
use Rattle.step_lines.specs.tree_lines.Named.{cells}
use Rattle.step_lines.specs.tree_lines.Made.{IsTreeMade}
use Rattle.step_lines.proofs.tree_lines.Applying.{use_made, use_refused}
use Rattle.step_lines.proofs.tree_lines.uses.trees_of_use.Goals as goal

pub type_list-requires : goal.type_list-requires
type_list-requires c = subst (HoldTypes c.inst_types.new.g) (sym c.deref-2.ensures.value) (typing_stays_ready c.args.store.now c.inst_types.new.g c.args.used.now.types.items c.in_ok-ty.ensures.grows c.requires.types)

pub returns-in-Some-2-clause-trees : goal.returns-in-Some-2-clause-trees
returns-in-Some-2-clause-trees c =
    let s0 = c.args.store.now in
    let s1 = c.inst_types.new.g in
    let s2 = c.type_list.new.store in
    let s3 = c.cell_list.new.store in
    let ty = c.in_ok-ty.ensures.tree ∙ ap (λ (l : List TermId). inst_types (tree_at s0 c.in-Some.result) (trees_at s0 l)) c.deref.ensures.value in
    let tree = c.in_ok-types.ensures.tree ∙ ap (λ (l : List TermId). cells (trees_at s1 l)) c.deref-2.ensures.value in
    let made = subst (λ (l : List TermId). IsTreeMade s3 (Some (cells (trees_at s2 l))) c.in_ok-parts.field-0) c.deref-3.ensures.value c.in_ok-parts.ensures.made in
    use_made s0 s1 s2 s3 c.in_ok-ty.ensures.grows c.in_ok-types.ensures.grows c.in_ok-parts.ensures.grows c.args.used.now.types.items c.args.used.now.parts.items c.args.used.now.info.now.result c.in-Some.result c.in_ok-ty.ty c.in_ok-types.types c.in_ok-parts.field-0
    c.requires.types c.requires.parts c.in-Some.is c.in_ok-ty.ensures.held ty c.in_ok-types.ensures.held tree made c.in-Some-2.parts c.in-Some-2.is

pub returns-in-None-clause-trees : goal.returns-in-None-clause-trees
returns-in-None-clause-trees c =
    let s0 = c.args.store.now in
    let s1 = c.inst_types.new.g in
    let s2 = c.type_list.new.store in
    let s3 = c.cell_list.new.store in
    let ty = c.in_ok-ty.ensures.tree ∙ ap (λ (l : List TermId). inst_types (tree_at s0 c.in-Some.result) (trees_at s0 l)) c.deref.ensures.value in
    let tree = c.in_ok-types.ensures.tree ∙ ap (λ (l : List TermId). cells (trees_at s1 l)) c.deref-2.ensures.value in
    let made = subst (λ (l : List TermId). IsTreeMade s3 (Some (cells (trees_at s2 l))) c.in_ok-parts.field-0) c.deref-3.ensures.value c.in_ok-parts.ensures.made in
    use_refused s0 s1 s2 s3 c.in_ok-ty.ensures.grows c.in_ok-types.ensures.grows c.in_ok-parts.ensures.grows c.args.used.now.types.items c.args.used.now.parts.items c.args.used.now.info.now.result c.in-Some.result c.in_ok-ty.ty c.in_ok-types.types c.in_ok-parts.field-0
    c.requires.types c.requires.parts c.in-Some.is c.in_ok-ty.ensures.held ty c.in_ok-types.ensures.held tree made c.in-None.is
