use Rattle.std.proofs.Common.{◌≡◌, ℕ, ◌++◌, ◌∷◌, [], true, None, map, length, sym, ap, subst, ◌∙◌}
use Rattle.std.proofs.Math.ListN.{length-map}
use Rattle.tasks.specs.Task.{MakesType}
use Rattle.tasks.specs.Meaning.{declarations_at}
use Rattle.name_resolution.specs.scopes.declared.Table.TheVariants.{Types}
use Rattle.name_resolution.specs.scopes.declared.Referent.TheVariants as stands
use Rattle.name_resolution.specs.scopes.Names.{ScopeNames, with_name}
use Rattle.name_resolution.specs.Naming.{scope_at}
use Rattle.elab_groups.specs.open_types.Patterns.{no_notes}
use Rattle.elab_groups.specs.parts.Declarations.{word, abstract_type, made_names, made_fault}
use Rattle.elab_groups.specs.parts.Entries.{type_entry, IsExtended}
use Rattle.elab_groups.specs.parts.Outcomes.{setting, declared_in, IsKept}
use Rattle.elab_groups.proofs.parts.Refused.{made_refusal}
use Rattle.elab_declarations.specs.Outcomes.{IsElaborated, IsRefusal}
use Rattle.elab_declarations.proofs.Over.{told_at}
use Rattle.elab_declarations.proofs.TypesMade.{type_elaborated, type_kept, types_held}
use Rattle.elab_declarations.proofs.types.elaborate_type.Goals as goal

pub returns-in_ok-made-in-Ok-clause-ok : goal.returns-in_ok-made-in-Ok-clause-ok
returns-in_ok-made-in-Ok-clause-ok c =
    let p = c.args.place.now in
    let s = c.args.store.now in
    let g = c.args.sig.now in
    let g1 = c.make_type.new.sig in
    let names = c.args.scope.now in
    let x = word c.args.name.now in
    let vs = map word c.args.vars.now in
    let made = c.in_ok-made-in-Ok.made in
    let n : length c.args.vars.now ≡ length vs = sym (length-map c.args.vars.now word) in
    let ext : IsExtended s g s g1 (type_entry p.theory.now (p.within.now ++ x.name) (length vs) ∷ []) = rw (c.as_slice.ensures, n) at c.in_ok-made-in-Ok.ensures.entry in
    let decls : declarations_at s made.decls ≡ record { theory = p.theory.now; name = p.within.now ++ x.name; vars = length vs; body = MakesType (length g.symbols) } ∷ [] = rw (c.as_slice.ensures, n) at c.in_ok-made-in-Ok.ensures.decls in
    let scope : c.declare_type.new.scope ≡ with_name Types x.name (stands.Entry (length g.symbols)) true names = c.in-Ok.ensures.ok ∙ ap (λ (k : ℕ). with_name Types x.name (stands.Entry k) true names) c.len.ensures in
    subst (λ (ns : ScopeNames). IsElaborated (setting p s g names) (abstract_type x vs) g s g1 ns made) (sym scope)
    (type_elaborated p s g g1 names x vs made c.in-Ok.ensures.told ext decls c.in_ok-made-in-Ok.ensures.rigid c.in_ok-made-in-Ok.ensures.matches)

pub returns-in_ok-made-in-Ok-clause-kept : goal.returns-in_ok-made-in-Ok-clause-kept
returns-in_ok-made-in-Ok-clause-kept c =
    let p = c.args.place.now in
    let s = c.args.store.now in
    let g = c.args.sig.now in
    let g1 = c.make_type.new.sig in
    let names = c.args.scope.now in
    let x = word c.args.name.now in
    let vs = map word c.args.vars.now in
    let made = c.in_ok-made-in-Ok.made in
    let n : length c.args.vars.now ≡ length vs = sym (length-map c.args.vars.now word) in
    let ext : IsExtended s g s g1 (type_entry p.theory.now (p.within.now ++ x.name) (length vs) ∷ []) = rw (c.as_slice.ensures, n) at c.in_ok-made-in-Ok.ensures.entry in
    let scope : c.declare_type.new.scope ≡ with_name Types x.name (stands.Entry (length g.symbols)) true names = c.in-Ok.ensures.ok ∙ ap (λ (k : ℕ). with_name Types x.name (stands.Entry k) true names) c.len.ensures in
    subst (λ (ns : ScopeNames). IsKept s g1 ns made) (sym scope)
    (type_kept p s g g1 names x vs made ext c.requires.scopes c.in_ok-made-in-Ok.ensures.matches (types_held s made.decls _ _ _ _ c.in_ok-made-in-Ok.ensures.decls))

pub returns-in-Err-clause-err : goal.returns-in-Err-clause-err
returns-in-Err-clause-err c =
    let p = c.args.place.now in
    let s = c.args.store.now in
    let g = c.args.sig.now in
    let names = c.args.scope.now in
    let x = word c.args.name.now in
    let vs = map word c.args.vars.now in
    subst (IsRefusal (setting p s g names) (abstract_type x vs)) (sym c.naming_fault.ensures)
    (made_refusal p.decl 0 no_notes (made_fault (declared_in (scope_at s names)) [] (made_names (abstract_type x vs))) None c.in-Err.fault (told_at s names (made_names (abstract_type x vs)) c.in-Err.fault c.in-Err.ensures.told))
