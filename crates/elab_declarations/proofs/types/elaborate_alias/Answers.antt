use Rattle.std.proofs.Common.{◌≡◌, ℕ, ◌++◌, [], List, true, false, None, map, length, sym, ap, subst, ◌∙◌, Err}
use Rattle.std.proofs.Math.ListN.{length-map}
use Rattle.tasks.specs.trees.Node.{tree_at}
use Rattle.tasks.specs.trees.Facts.{TyVarsBelow}
use Rattle.tasks.specs.Meaning.{symbols_at}
use Rattle.name_resolution.specs.scopes.declared.Table.TheVariants.{Types}
use Rattle.name_resolution.specs.scopes.declared.Referent.TheVariants as stands
use Rattle.name_resolution.specs.scopes.Names.{ScopeNames, with_name}
use Rattle.surface.specs.Lexeme.{Word}
use Rattle.name_resolution.specs.Abstract.{type_expression_of}
use Rattle.name_resolution.specs.Faults.{form_fault}
use Rattle.name_resolution.specs.Naming.{Tells, scope_at}
use Rattle.elab_groups.specs.open_types.Patterns.{no_notes}
use Rattle.elab_groups.specs.open_types.Pieces.{type_at}
use Rattle.elab_groups.specs.declared.parts.made.Elaborated.{Elaborated}
use Rattle.elab_groups.specs.parts.Declarations.{word, words, alias, made_names, made_fault}
use Rattle.elab_groups.specs.parts.Entries.{wanting_tuples}
use Rattle.elab_groups.specs.parts.Outcomes.{over, setting, declared_in, IsKept}
use Rattle.elab_groups.proofs.parts.Refused.{made_refusal, used_refusal}
use Rattle.elab_declarations.specs.Outcomes.{alias_seen, aliased_type, IsElaborated, IsRefusal}
use Rattle.elab_declarations.proofs.Over.{made_at, told_at}
use Rattle.elab_declarations.proofs.TypesMade.{alias_elaborated, alias_kept}
use Rattle.elab_declarations.proofs.types.elaborate_alias.Goals as goal
use Rattle.elab_declarations.proofs.type_declarations.Counted.{words_texts}

pub returns-in-Ok-used-clause-ok : goal.returns-in-Ok-used-clause-ok
returns-in-Ok-used-clause-ok c =
    let p = c.args.place.now in
    let s = c.args.store.now in
    let s1 = c.make_alias.new.store in
    let g = c.args.sig.now in
    let g1 = c.make_alias.new.sig in
    let names = c.args.scope.now in
    let x = word c.args.name.now in
    let vs = map word c.args.vars.now in
    let f = type_expression_of c.args.ty.now in
    let id = c.in_ok-id.id in
    let made : Elaborated = record { decls = c.new.result; rigid = c.new-in-Ok-used.result; matches = c.new-in-Ok-used-2.result } in
    let vars : c.as_slice.result.now ≡ words vs = c.as_slice.ensures.value ∙ (c.in_ok-texts.ensures ∙ sym (words_texts c.args.vars.now)) in
    let vars2 : c.as_slice-2.result.now ≡ words vs = c.as_slice-2.ensures.value ∙ (c.in_ok-texts.ensures ∙ sym (words_texts c.args.vars.now)) in
    let right : form_fault (over (symbols_at s g.symbols) (scope_at s names) (words vs)) false f ≡ None = subst (λ (ws : List Word). form_fault (over (symbols_at s g.symbols) (scope_at s names) ws) false f ≡ None) vars (c.in-Ok-used.ensures s) in
    let tree : tree_at s1 id ≡ aliased_type (setting p s g names) vs f = c.in_ok-id.ensures.tree ∙ ap (λ (ws : List Word). type_at (over (symbols_at s g.symbols ++ wanting_tuples (symbols_at s g.symbols) (alias_seen f).widths) (scope_at s names) ws) f) vars2 in
    let scope : c.declare_type.new.scope ≡ with_name Types x.name (stands.Alias (length vs) id.0) true names = c.in-Ok.ensures.ok ∙ ap (λ (n : ℕ). with_name Types x.name (stands.Alias n id.0) true names) (sym (length-map c.args.vars.now word)) in
    subst (λ (ns : ScopeNames). IsElaborated (setting p s g names) (alias x vs f) g s1 g1 ns made) (sym scope)
    (alias_elaborated p s s1 c.make_alias.ensures.grows g g1 names x vs f made id c.in-Ok.ensures.told right c.requires.scopes c.in_ok-id.ensures.entries tree c.new.ensures c.new-in-Ok-used.ensures c.new-in-Ok-used-2.ensures)

pub returns-in-Ok-used-clause-kept : goal.returns-in-Ok-used-clause-kept
returns-in-Ok-used-clause-kept c =
    let p = c.args.place.now in
    let s = c.args.store.now in
    let s1 = c.make_alias.new.store in
    let g = c.args.sig.now in
    let g1 = c.make_alias.new.sig in
    let names = c.args.scope.now in
    let x = word c.args.name.now in
    let vs = map word c.args.vars.now in
    let f = type_expression_of c.args.ty.now in
    let id = c.in_ok-id.id in
    let made : Elaborated = record { decls = c.new.result; rigid = c.new-in-Ok-used.result; matches = c.new-in-Ok-used-2.result } in
    let vars : c.as_slice.result.now ≡ words vs = c.as_slice.ensures.value ∙ (c.in_ok-texts.ensures ∙ sym (words_texts c.args.vars.now)) in
    let vars2 : c.as_slice-2.result.now ≡ words vs = c.as_slice-2.ensures.value ∙ (c.in_ok-texts.ensures ∙ sym (words_texts c.args.vars.now)) in
    let right : form_fault (over (symbols_at s g.symbols) (scope_at s names) c.as_slice-2.result.now) false f ≡ None = subst (λ (ws : List Word). form_fault (over (symbols_at s g.symbols) (scope_at s names) ws) false f ≡ None) (vars ∙ sym vars2) (c.in-Ok-used.ensures s) in
    let n : length c.as_slice-2.result.now ≡ length vs = ap length vars2 ∙ length-map vs (λ c. c.name) in
    let below : TyVarsBelow (length vs) (tree_at s1 id) = subst (λ (k : ℕ). TyVarsBelow k (tree_at s1 id)) n (c.in_ok-id.ensures.below right) in
    let scope : c.declare_type.new.scope ≡ with_name Types x.name (stands.Alias (length vs) id.0) true names = c.in-Ok.ensures.ok ∙ ap (λ (k : ℕ). with_name Types x.name (stands.Alias k id.0) true names) (sym (length-map c.args.vars.now word)) in
    subst (λ (ns : ScopeNames). IsKept s1 g1 ns made) (sym scope)
    (alias_kept p s s1 c.make_alias.ensures.grows g g1 names x vs f made id c.in_ok-id.ensures.entries c.requires.scopes c.in_ok-id.ensures.held below c.new.ensures c.new-in-Ok-used-2.ensures)

pub returns-in-Ok-clause-err : goal.returns-in-Ok-clause-err
returns-in-Ok-clause-err c =
    let p = c.args.place.now in
    let s = c.args.store.now in
    let g = c.args.sig.now in
    let names = c.args.scope.now in
    let x = word c.args.name.now in
    let vs = map word c.args.vars.now in
    let f = type_expression_of c.args.ty.now in
    let vars : c.as_slice.result.now ≡ words vs = c.as_slice.ensures.value ∙ (c.in_ok-texts.ensures ∙ sym (words_texts c.args.vars.now)) in
    let told = subst (λ (ws : List Word). Tells (Err c.in-Err-used.fault) (form_fault (over (symbols_at s g.symbols) (scope_at s names) ws) false f)) vars (c.in-Err-used.ensures s) in
    subst (IsRefusal (setting p s g names) (alias x vs f)) (sym c.naming_fault.ensures)
    (used_refusal p.decl 0 no_notes (made_fault (declared_in (scope_at s names)) [] (made_names (alias x vs f))) (form_fault (over (symbols_at s g.symbols) (scope_at s names) (words vs)) false f) c.in-Err-used.fault (made_at s names (made_names (alias x vs f)) ∙ c.in-Ok.ensures.told) told)

pub returns-clause-err : goal.returns-clause-err
returns-clause-err c =
    let p = c.args.place.now in
    let s = c.args.store.now in
    let g = c.args.sig.now in
    let names = c.args.scope.now in
    let x = word c.args.name.now in
    let vs = map word c.args.vars.now in
    let f = type_expression_of c.args.ty.now in
    subst (IsRefusal (setting p s g names) (alias x vs f)) (sym c.naming_fault-in-Err.ensures)
    (made_refusal p.decl 0 no_notes (made_fault (declared_in (scope_at s names)) [] (made_names (alias x vs f))) (form_fault (over (symbols_at s g.symbols) (scope_at s names) (words vs)) false f) c.in-Err.fault (told_at s names (made_names (alias x vs f)) c.in-Err.fault c.in-Err.ensures.told))
