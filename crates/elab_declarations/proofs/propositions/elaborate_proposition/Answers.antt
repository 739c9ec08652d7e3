use Rattle.std.proofs.Common.{◌≡◌, [], true, false, None, length, sym, ap, subst, ◌∙◌, Err}
use Rattle.name_resolution.specs.scopes.declared.Table.TheVariants.{Propositions}
use Rattle.name_resolution.specs.scopes.Names.{ScopeNames}
use Rattle.surface.specs.Lexeme.{Word}
use Rattle.surface.specs.SurfaceDeclarations.{plain_name}
use Rattle.name_resolution.specs.Abstract.{expression_of}
use Rattle.name_resolution.specs.Faults.{fault}
use Rattle.name_resolution.specs.Naming.{Tells}
use Rattle.elab_groups.specs.parts.Declarations.{symbol, proposition_declaration}
use Rattle.elab_groups.specs.parts.Elaborated.{IsTypingFault}
use Rattle.elab_groups.specs.parts.Outcomes.{around, setting, declared_in, IsNameRefused, IsKept}
use Rattle.elab_declarations.specs.Outcomes.{proposition_seen, proposition_piece, IsTypedProposition, IsElaborated, IsRefusal}
use Rattle.elab_declarations.proofs.Proposed.{named_after, name_refusal, use_refusal, type_refusal, elaborated, kept}
use Rattle.elab_declarations.proofs.propositions.elaborate_proposition.Goals as goal

pub returns-in-Ok-type_proposition-clause-ok : goal.returns-in-Ok-type_proposition-clause-ok
returns-in-Ok-type_proposition-clause-ok c =
    let p = c.args.place.now in
    let s = c.args.store.now in
    let g = c.args.sig.now in
    let names = c.args.scope.now in
    let k = c.args.kind in
    let x = symbol (plain_name c.args.name.now) in
    let e = expression_of c.args.e.now in
    let own : c.as_slice-2.result.now ≡ x.name = c.as_slice-2.ensures ∙ (rw c.as_slice.ensures at c.in_ok-own.ensures) in
    let free : declared_in names Propositions x.name ≡ false = subst (λ (y : Word). declared_in names Propositions y ≡ false) own c.in-Ok.ensures.free in
    let scope : c.declare.new.scope ≡ named_after p names x.name = c.in-Ok.ensures.ok ∙ ap (named_after p names) own in
    let right : fault (around (setting p s g (named_after p names x.name)) []) true [] true e ≡ None = subst (λ (ns : ScopeNames). fault (around (setting p s g ns) []) true [] true e ≡ None) scope (c.in-Ok-check_formula.ensures s) in
    let made = c.in-Ok-type_proposition.made in
    let s1 = c.type_proposition.new.store in
    let g1 = c.type_proposition.new.sig in
    let mine : c.as_slice-in-Ok-check_formula.result.now ≡ x.name = c.as_slice-in-Ok-check_formula.ensures ∙ (rw c.as_slice.ensures at c.in_ok-own.ensures) in
    let typed = subst (λ (y : Word). IsTypedProposition p s g c.declare.new.scope k y e s1 g1 made) mine c.in-Ok-type_proposition.ensures.ok in
    let done = subst (λ (ns : ScopeNames). IsTypedProposition p s g ns k x.name e s1 g1 made) scope typed in
    subst (λ (ns : ScopeNames). IsElaborated (setting p s g names) (proposition_declaration k x e) g s1 g1 ns made) (sym scope) (elaborated p s g names k x e free right s1 g1 made c.type_proposition.ensures.grows c.requires.scopes done)

pub returns-in-Ok-type_proposition-clause-kept : goal.returns-in-Ok-type_proposition-clause-kept
returns-in-Ok-type_proposition-clause-kept c =
    let p = c.args.place.now in
    let s = c.args.store.now in
    let g = c.args.sig.now in
    let names = c.args.scope.now in
    let k = c.args.kind in
    let x = symbol (plain_name c.args.name.now) in
    let e = expression_of c.args.e.now in
    let own : c.as_slice-2.result.now ≡ x.name = c.as_slice-2.ensures ∙ (rw c.as_slice.ensures at c.in_ok-own.ensures) in
    let scope : c.declare.new.scope ≡ named_after p names x.name = c.in-Ok.ensures.ok ∙ ap (named_after p names) own in
    let made = c.in-Ok-type_proposition.made in
    let s1 = c.type_proposition.new.store in
    let g1 = c.type_proposition.new.sig in
    let mine : c.as_slice-in-Ok-check_formula.result.now ≡ x.name = c.as_slice-in-Ok-check_formula.ensures ∙ (rw c.as_slice.ensures at c.in_ok-own.ensures) in
    let typed = subst (λ (y : Word). IsTypedProposition p s g c.declare.new.scope k y e s1 g1 made) mine c.in-Ok-type_proposition.ensures.ok in
    let done = subst (λ (ns : ScopeNames). IsTypedProposition p s g ns k x.name e s1 g1 made) scope typed in
    subst (λ (ns : ScopeNames). IsKept s1 g1 ns made) (sym scope) (kept p s g names k x e s1 g1 made c.type_proposition.ensures.grows c.requires.scopes done)

pub returns-in-Ok-check_formula-clause-err : goal.returns-in-Ok-check_formula-clause-err
returns-in-Ok-check_formula-clause-err c =
    let p = c.args.place.now in
    let s = c.args.store.now in
    let g = c.args.sig.now in
    let names = c.args.scope.now in
    let k = c.args.kind in
    let x = symbol (plain_name c.args.name.now) in
    let e = expression_of c.args.e.now in
    let own : c.as_slice-2.result.now ≡ x.name = c.as_slice-2.ensures ∙ (rw c.as_slice.ensures at c.in_ok-own.ensures) in
    let free : declared_in names Propositions x.name ≡ false = subst (λ (y : Word). declared_in names Propositions y ≡ false) own c.in-Ok.ensures.free in
    let scope : c.declare.new.scope ≡ named_after p names x.name = c.in-Ok.ensures.ok ∙ ap (named_after p names) own in
    let right : fault (around (setting p s g (named_after p names x.name)) []) true [] true e ≡ None = subst (λ (ns : ScopeNames). fault (around (setting p s g ns) []) true [] true e ≡ None) scope (c.in-Ok-check_formula.ensures s) in
    let told = subst (λ (ns : ScopeNames). IsTypingFault (length (proposition_seen e).vars) (proposition_piece (setting p s g ns) e).notes c.in-Err-type_proposition.fault) scope c.in-Err-type_proposition.ensures.err in
    subst (IsRefusal (setting p s g names) (proposition_declaration k x e)) (sym c.typing_fault.ensures) (type_refusal p s g names k x e free right c.in-Err-type_proposition.fault told)

pub returns-in-Ok-clause-err : goal.returns-in-Ok-clause-err
returns-in-Ok-clause-err c =
    let p = c.args.place.now in
    let s = c.args.store.now in
    let g = c.args.sig.now in
    let names = c.args.scope.now in
    let k = c.args.kind in
    let x = symbol (plain_name c.args.name.now) in
    let e = expression_of c.args.e.now in
    let own : c.as_slice-2.result.now ≡ x.name = c.as_slice-2.ensures ∙ (rw c.as_slice.ensures at c.in_ok-own.ensures) in
    let free : declared_in names Propositions x.name ≡ false = subst (λ (y : Word). declared_in names Propositions y ≡ false) own c.in-Ok.ensures.free in
    let scope : c.declare.new.scope ≡ named_after p names x.name = c.in-Ok.ensures.ok ∙ ap (named_after p names) own in
    let told = subst (λ (ns : ScopeNames). Tells (Err c.in-Err-check_formula.fault) (fault (around (setting p s g ns) []) true [] true e)) scope (c.in-Err-check_formula.ensures s) in
    subst (IsRefusal (setting p s g names) (proposition_declaration k x e)) (sym c.naming_fault.ensures) (use_refusal p s g names k x e free c.in-Err-check_formula.fault told)

pub returns-clause-err : goal.returns-clause-err
returns-clause-err c =
    let p = c.args.place.now in
    let s = c.args.store.now in
    let g = c.args.sig.now in
    let names = c.args.scope.now in
    let k = c.args.kind in
    let x = symbol (plain_name c.args.name.now) in
    let e = expression_of c.args.e.now in
    let own : c.as_slice-2.result.now ≡ x.name = c.as_slice-2.ensures ∙ (rw c.as_slice.ensures at c.in_ok-own.ensures) in
    let told = subst (λ (y : Word). IsNameRefused (declared_in names Propositions y) c.args.name.now.at c.in-Err.fault) own c.in-Err.ensures.err in
    subst (IsRefusal (setting p s g names) (proposition_declaration k x e)) (sym c.naming_fault-in-Err.ensures) (name_refusal p s g names k x e c.in-Err.fault told)
