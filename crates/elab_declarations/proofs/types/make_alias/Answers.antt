use Rattle.std.proofs.Common.{◌≡◌, ℕ, ◌++◌, List, length, sym, ap, subst, ◌∙◌}
use Rattle.std.proofs.lemmas.Result.{IfOk-weaker}
use Rattle.tasks.specs.trees.Facts.{TyVarsBelow}
use Rattle.tasks.specs.Task.{SymbolTree}
use Rattle.tasks.specs.Meaning.{symbols_at}
use Rattle.name_resolution.specs.Abstract.{type_expression_of}
use Rattle.name_resolution.specs.Naming.{where_at, scope_at}
use Rattle.name_resolution.specs.Where.{Where}
use Rattle.elab_groups.specs.name_resolution.variables.Seen.{SeenTree}
use Rattle.elab_groups.specs.name_resolution.variables.Entered.{seen_at}
use Rattle.elab_groups.specs.open_types.Pieces.{type_at}
use Rattle.elab_groups.specs.parts.Entries.{wanting_tuples, IsExtended}
use Rattle.elab_groups.specs.parts.Outcomes.{over}
use Rattle.elab_groups.proofs.parts.Entering.{extended_grows}
use Rattle.elab_groups.proofs.parts.Tupled.{over_extended, form_within}
use Rattle.elab_declarations.specs.Outcomes.{alias_seen}
use Rattle.elab_declarations.proofs.types.make_alias.Goals as goal
use Rattle.tasks.proofs.plain_laws.Results.{ok_any as always}

pub returns-clause-entries : goal.returns-clause-entries
returns-clause-entries c =
    let s = c.args.store.now in
    let g = c.args.sig.now in
    let f = type_expression_of c.args.ty.now in
    let q : seen_at c.enter_form.new.seen ≡ alias_seen f = rw (c.new.ensures, c.new-2.ensures) at c.in_ok-enter_form.ensures in
    let ext = subst (λ (ws : List ℕ). IsExtended s g c.push_tuples.new.store c.push_tuples.new.sig (wanting_tuples (symbols_at s g.symbols) ws)) (c.as_slice.ensures ∙ ap (λ (v : SeenTree). v.widths) q) c.in_ok-push_tuples.ensures.entries in
    always c.type_of_form.result (extended_grows (wanting_tuples (symbols_at s g.symbols) (alias_seen f).widths) c.type_of_form.ensures.grows ext)

pub returns-clause-tree : goal.returns-clause-tree
returns-clause-tree c =
    let s = c.args.store.now in
    let s1 = c.push_tuples.new.store in
    let g = c.args.sig.now in
    let g1 = c.push_tuples.new.sig in
    let names = c.args.scope.now in
    let vars = c.args.vars.now in
    let f = type_expression_of c.args.ty.now in
    let more : List SymbolTree = wanting_tuples (symbols_at s g.symbols) (alias_seen f).widths in
    let q : seen_at c.enter_form.new.seen ≡ alias_seen f = rw (c.new.ensures, c.new-2.ensures) at c.in_ok-enter_form.ensures in
    let ext : IsExtended s g s1 g1 more = subst (λ (ws : List ℕ). IsExtended s g s1 g1 (wanting_tuples (symbols_at s g.symbols) ws)) (c.as_slice.ensures ∙ ap (λ (v : SeenTree). v.widths) q) c.in_ok-push_tuples.ensures.entries in
    let is : where_at s1 c.world_over-world.result ≡ over (symbols_at s g.symbols ++ more) (scope_at s names) vars = c.world_over-world.ensures.names s1 ∙ over_extended s s1 c.push_tuples.ensures.grows g g1 more names c.requires.signature c.requires.scopes ext vars in
    IfOk-weaker c.type_of_form.result _ _ (λ id h. h ∙ ap (λ (v : Where). type_at v f) is) c.type_of_form.ensures.tree

pub returns-clause-below : goal.returns-clause-below
returns-clause-below c =
    let s = c.args.store.now in
    let s1 = c.push_tuples.new.store in
    let g = c.args.sig.now in
    let g1 = c.push_tuples.new.sig in
    let names = c.args.scope.now in
    let vars = c.args.vars.now in
    let f = type_expression_of c.args.ty.now in
    let more : List SymbolTree = wanting_tuples (symbols_at s g.symbols) (alias_seen f).widths in
    let q : seen_at c.enter_form.new.seen ≡ alias_seen f = rw (c.new.ensures, c.new-2.ensures) at c.in_ok-enter_form.ensures in
    let ext : IsExtended s g s1 g1 more = subst (λ (ws : List ℕ). IsExtended s g s1 g1 (wanting_tuples (symbols_at s g.symbols) ws)) (c.as_slice.ensures ∙ ap (λ (v : SeenTree). v.widths) q) c.in_ok-push_tuples.ensures.entries in
    let is : where_at s1 c.world_over-world.result ≡ over (symbols_at s g.symbols ++ more) (scope_at s names) vars = c.world_over-world.ensures.names s1 ∙ over_extended s s1 c.push_tuples.ensures.grows g g1 more names c.requires.signature c.requires.scopes ext vars in
    IfOk-weaker c.type_of_form.result _ _ (λ id h right. subst (TyVarsBelow (length vars)) (sym (h ∙ ap (λ (v : Where). type_at v f) is)) (form_within s s1 c.push_tuples.ensures.grows g g1 more names c.requires.signature c.requires.scopes ext vars f right)) c.type_of_form.ensures.tree
