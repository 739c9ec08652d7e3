use Rattle.std.proofs.Common.{◌≡◌, ◌++◌, List, length, sym, ap, subst, ◌∙◌}
use Rattle.std.proofs.lemmas.Result.{IfOk-weaker}
use Rattle.tasks.proofs.trees.Nodes.{Grows_trans}
use Rattle.tasks.specs.trees.Facts.{TyVarsBelow}
use Rattle.tasks.specs.Task.{SymbolTree}
use Rattle.tasks.specs.Meaning.{symbols_at}
use Rattle.name_resolution.specs.Abstract.{type_expression_of}
use Rattle.name_resolution.specs.Naming.{where_at, scope_at}
use Rattle.name_resolution.specs.Where.{Where}
use Rattle.open_types.specs.Pieces.{type_at}
use Rattle.elab_groups.specs.parts.Outcomes.{over}
use Rattle.elab_groups.proofs.parts.Entering.{extended_grows}
use Rattle.elab_groups.proofs.parts.Tupled.{over_extended, form_within, scopes_extended}
use Rattle.clones.specs.clone_elements.Rights.{type_tuples}
use Rattle.clones.proofs.clone_elements.rights.make_type.Goals as goal
use Rattle.tasks.proofs.plain_laws.Results.{ok_any as always}
use Rattle.tasks.proofs.outside.Passed.{no_ok, no_value}

pub enter_tuples-requires : goal.enter_tuples-requires
enter_tuples-requires c = c.requires.signature

pub returns-clause-entries : goal.returns-clause-entries
returns-clause-entries c = always c.type_of_form.result (extended_grows (type_tuples (symbols_at c.args.store.now c.args.sig.now.symbols) (type_expression_of c.args.ty.now)) c.type_of_form.ensures.grows c.in_ok-enter_tuples.ensures.entries)

pub returns-clause-tree : goal.returns-clause-tree
returns-clause-tree c =
    let s = c.args.store.now in
    let s1 = c.enter_tuples.new.store in
    let g = c.args.sig.now in
    let names = c.args.scope.now in
    let vars = c.args.vars.now in
    let f = type_expression_of c.args.ty.now in
    let more : List SymbolTree = type_tuples (symbols_at s g.symbols) f in
    let is : where_at s1 c.world_over-world.result ≡ over (symbols_at s g.symbols ++ more) (scope_at s names) vars =
    c.world_over-world.ensures.names s1 ∙ over_extended s s1 c.enter_tuples.ensures.grows g c.enter_tuples.new.sig more names c.requires.signature c.requires.scopes c.in_ok-enter_tuples.ensures.entries vars in
    IfOk-weaker c.type_of_form.result _ _ (λ id h. h ∙ ap (λ (v : Where). type_at v f) is) c.type_of_form.ensures.tree

pub returns-clause-below : goal.returns-clause-below
returns-clause-below c =
    let s = c.args.store.now in
    let s1 = c.enter_tuples.new.store in
    let g = c.args.sig.now in
    let g1 = c.enter_tuples.new.sig in
    let names = c.args.scope.now in
    let vars = c.args.vars.now in
    let f = type_expression_of c.args.ty.now in
    let more : List SymbolTree = type_tuples (symbols_at s g.symbols) f in
    let ext = c.in_ok-enter_tuples.ensures.entries in
    let is : where_at s1 c.world_over-world.result ≡ over (symbols_at s g.symbols ++ more) (scope_at s names) vars = c.world_over-world.ensures.names s1 ∙ over_extended s s1 c.enter_tuples.ensures.grows g g1 more names c.requires.signature c.requires.scopes ext vars in
    IfOk-weaker c.type_of_form.result _ _ (λ id h right. subst (TyVarsBelow (length vars)) (sym (h ∙ ap (λ (v : Where). type_at v f) is)) (form_within s s1 c.enter_tuples.ensures.grows g g1 more names c.requires.signature c.requires.scopes ext vars f right)) c.type_of_form.ensures.tree

pub type_of_form-requires : goal.type_of_form-requires
type_of_form-requires c =
    let s = c.args.store.now in
    let s1 = c.enter_tuples.new.store in
    let ext = c.in_ok-enter_tuples.ensures.entries in
    c.world_over-world.ensures.held s1 ext.signature (scopes_extended s s1 c.enter_tuples.ensures.grows c.args.sig.now c.enter_tuples.new.sig _ c.args.scope.now c.requires.signature c.requires.scopes ext)

pub returns-clause-held : goal.returns-clause-held
returns-clause-held c = c.type_of_form.ensures.held

pub returns-clause-grows : goal.returns-clause-grows
returns-clause-grows c = Grows_trans c.args.store.now c.enter_tuples.new.store c.type_of_form.new.store c.enter_tuples.ensures.grows c.type_of_form.ensures.grows

pub returns-in_err-enter_tuples-clause-entries : goal.returns-in_err-enter_tuples-clause-entries
returns-in_err-enter_tuples-clause-entries c = no_ok _ _ c.from_residual.result c.from_residual.ensures.1

pub returns-in_err-enter_tuples-clause-held : goal.returns-in_err-enter_tuples-clause-held
returns-in_err-enter_tuples-clause-held c = no_value _ _ c.from_residual.result c.from_residual.ensures.1

pub returns-in_err-enter_tuples-clause-tree : goal.returns-in_err-enter_tuples-clause-tree
returns-in_err-enter_tuples-clause-tree c = no_value _ _ c.from_residual.result c.from_residual.ensures.1

pub returns-in_err-enter_tuples-clause-below : goal.returns-in_err-enter_tuples-clause-below
returns-in_err-enter_tuples-clause-below c = no_value _ _ c.from_residual.result c.from_residual.ensures.1

pub returns-in_err-enter_tuples-clause-grows : goal.returns-in_err-enter_tuples-clause-grows
returns-in_err-enter_tuples-clause-grows c = c.enter_tuples.ensures.grows
