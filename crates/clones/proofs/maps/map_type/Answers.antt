use Rattle.std.proofs.Common.{◌≡◌, ◌++◌, List, Option, sym, ap, subst, ◌∙◌}
use Rattle.std.specs.Option.{option_map}
use Rattle.std.proofs.lemmas.Result.{IfOk-weaker}
use Rattle.trees.specs.declared.TermId.{TermId}
use Rattle.trees.specs.Binding.{inst_types}
use Rattle.trees.specs.Node.{tree_at}
use Rattle.trees.proofs.Nodes.{Grows_refl}
use Rattle.trees.specs.binders.Visits.{HoldTypes, trees_at}
use Rattle.tasks.specs.Typing.{members}
use Rattle.clones.specs.Mapped.{type_mapped}
use Rattle.clones.specs.Meaning.{map_at}
use Rattle.clones.proofs.maps.map_type.Goals as goal
use Rattle.tasks.proofs.outside.Passed.{no_value}

pub push_members-requires-clause-out_held : goal.push_members-requires-clause-out_held
push_members-requires-clause-out_held c = subst (HoldTypes c.args.store.now) (sym c.new-types.ensures.items) tt

pub inst_types-requires-clause-e_held : goal.inst_types-requires-clause-e_held
inst_types-requires-clause-e_held c = (c.requires.map_held.types c.args.symbol c.in-Some.ty.now (sym c.in-Some.ensures.value)).0

pub inst_types-requires-clause-types : goal.inst_types-requires-clause-types
inst_types-requires-clause-types c = subst (HoldTypes c.args.store.now) (sym c.as_slice.ensures.value) c.in_ok-push_members-in-Some.ensures.new_held

pub returns-in_ok-push_members-in-Some-clause-tree : goal.returns-in_ok-push_members-in-Some-clause-tree
returns-in_ok-push_members-in-Some-clause-tree c =
    let s = c.args.store.now in
    let a = tree_at s c.args.args in
    let new = (map_at s c.args.map.now).symbols c.args.symbol in
    let types : trees_at s c.as_slice.result.now ≡ members a = ap (trees_at s) c.as_slice.ensures.value ∙ c.in_ok-push_members-in-Some.ensures.tree ∙ ap (λ (z : List TermId). trees_at s z ++ members a) c.new-types.ensures.items in
    let is : inst_types (tree_at s c.in-Some.ty.now) (trees_at s c.as_slice.result.now) ≡ type_mapped ((map_at s c.args.map.now).types c.args.symbol) new a =
    ap (inst_types (tree_at s c.in-Some.ty.now)) types ∙ ap (λ (o : Option TermId). type_mapped (option_map (tree_at s) o) new a) c.in-Some.ensures.value in
    IfOk-weaker c.inst_types.result _ _ (λ id e. e ∙ is) c.inst_types.ensures.tree

pub returns-in_ok-push_members-in-Some-clause-kind : goal.returns-in_ok-push_members-in-Some-clause-kind
returns-in_ok-push_members-in-Some-clause-kind c =
    let there = c.requires.map_held.types c.args.symbol c.in-Some.ty.now (sym c.in-Some.ensures.value) in
    IfOk-weaker c.inst_types.result _ _ (λ id e. e ∙ there.1) c.inst_types.ensures.sort

pub returns-in_ok-push_members-in-Some-clause-held : goal.returns-in_ok-push_members-in-Some-clause-held
returns-in_ok-push_members-in-Some-clause-held c = c.inst_types.ensures.held

pub returns-in_err-push_members-in-Some-clause-held : goal.returns-in_err-push_members-in-Some-clause-held
returns-in_err-push_members-in-Some-clause-held c = no_value _ _ c.from_residual.result c.from_residual.ensures.1

pub returns-in_err-push_members-in-Some-clause-tree : goal.returns-in_err-push_members-in-Some-clause-tree
returns-in_err-push_members-in-Some-clause-tree c = no_value _ _ c.from_residual.result c.from_residual.ensures.1

pub returns-in_err-push_members-in-Some-clause-kind : goal.returns-in_err-push_members-in-Some-clause-kind
returns-in_err-push_members-in-Some-clause-kind c = no_value _ _ c.from_residual.result c.from_residual.ensures.1

pub returns-in_err-push_members-in-Some-clause-grows : goal.returns-in_err-push_members-in-Some-clause-grows
returns-in_err-push_members-in-Some-clause-grows c = Grows_refl c.args.store.now
