use Rattle.std.proofs.Common.{◌≡◌, ap, ◌∙◌, get_or}
use Rattle.std.proofs.lemmas.Result.{IfOk-weaker}
use Rattle.trees.proofs.Nodes.{Grows_trans}
use Rattle.tasks.specs.Meaning.{trees_at}
use Rattle.surface.specs.Lexeme.{Word}
use Rattle.surface.specs.Surface.{own_of}
use Rattle.surface.specs.declared.types.TypeTree.{TypeTree}
use Rattle.name_resolution.specs.Abstract.{text_of_own, type_expression_of, forms_of}
use Rattle.name_resolution.specs.Naming.{where_at}
use Rattle.name_resolution.specs.Where.{Where}
use Rattle.name_resolution.proofs.Nodes.{form_at-Var, form_at-Named, form_at-Group}
use Rattle.open_types.specs.Pieces.{type_at, group_type}
use Rattle.open_types.proofs.Growing.{types_more, world_grows, world_stays}
use Rattle.open_types.proofs.Forming.{form_step, group_of, named_same}
use Rattle.open_types.proofs.types.+type_forming.Goals as goal

pub type_of_form-returns-in-Var-clause-tree : goal.type_of_form-returns-in-Var-clause-tree
type_of_form-returns-in-Var-clause-tree t c = let is = form_at-Var c.args.ty.now c.in-Var.name c.in-Var.is in rw is (rw c.as_slice.ensures at c.type_variable.ensures.tree)

pub type_of_form-returns-in_ok-types-in-Named-clause-tree : goal.type_of_form-returns-in_ok-types-in-Named-clause-tree
type_of_form-returns-in_ok-types-in-Named-clause-tree t c =
    let is = form_at-Named c.args.ty.now c.in-Named.name c.in-Named.args c.in-Named.is in
    let w = world_stays _ _ c.types_of_forms.ensures.grows c.args.world.now c.requires in
    let ts = rw c.as_slice-in-Named-2.ensures at c.in_ok-types-in-Named.ensures.trees in
    let own = c.as_slice-in-Named-3.ensures ∙ c.in_ok-own-in-Named.ensures ∙ ap (λ (x : Word). text_of_own (own_of c.in-Named.name.style x)) c.as_slice-in-Named.ensures in
    let h = rw c.as_slice-in-Named-4.ensures.value at c.named_type.ensures.tree in
    rw is (IfOk-weaker c.named_type.result _ _ (λ id e. e ∙ named_same c.args.store.now c.types_of_forms.new.store c.args.world.now w c.as_slice-scopes.ensures own ts) h)

pub type_of_form-returns-in_ok-types-in-Group-clause-tree : goal.type_of_form-returns-in_ok-types-in-Group-clause-tree
type_of_form-returns-in_ok-types-in-Group-clause-tree t c =
    let is = form_at-Group c.args.ty.now c.in-Group.parts c.in-Group.is in
    let v = where_at c.args.store.now c.args.world.now in
    let w = world_stays _ _ c.types_of_forms-in-Group.ensures.grows c.args.world.now c.requires in
    let ts = rw c.as_slice-in-Group.ensures at c.in_ok-types-in-Group.ensures.trees in
    let h = rw c.as_slice-in-Group-2.ensures.value at c.group_type.ensures.tree in
    rw (is, group_of v c.args.ty.now.at.main (forms_of c.in-Group.parts)) (IfOk-weaker c.group_type.result _ _ (λ id e. e ∙ (ap (λ (u : Where). group_type u (trees_at c.types_of_forms-in-Group.new.store c.in_ok-types-in-Group.types.items)) w ∙ ap (group_type v) ts)) h)

pub types_of_forms-loop-ty-preserved : goal.types_of_forms-loop-ty-preserved
types_of_forms-loop-ty-preserved t c =
    let i = c.loop-ty.invariant in
    let g = c.type_of_form.ensures.grows in
    let w = world_stays _ _ i.0 c.args.world.now c.requires in
    let item : c.ty-item.result ≡ get_or c.args.list.now c.loop-ty.ty-index c.ty-item.result = c.ty-item.is in
    let tree = rw w at c.in_ok-id.ensures.tree in (
      Grows_trans _ _ _ i.0 g,
      world_grows _ _ g c.args.world.now i.1,
      rw c.in_ok-push.ensures.items (types_more _ _ g c.loop-ty.types.items c.in_ok-id.id i.2 c.in_ok-id.ensures.held),
      rw c.in_ok-push.ensures.items (form_step c.loop-ty.store c.type_of_form.new.store g (where_at c.args.store.now c.args.world.now) c.loop-ty.types.items c.in_ok-id.id i.2 c.args.list.now c.loop-ty.ty-index c.ty-item.result c.loop-ty-test.true (tree ∙ ap (λ (u : TypeTree). type_at (where_at c.args.store.now c.args.world.now) (type_expression_of u)) item) _ i.3),
    )
