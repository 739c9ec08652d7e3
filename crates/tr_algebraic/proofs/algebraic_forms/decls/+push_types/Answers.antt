use Rattle.std.proofs.Common.{map, ap, sym, subst}
use Rattle.std.proofs.lemmas.Result.{on_ok_weaker}
use Rattle.std.proofs.lemmas.List.Elements.{All-push}
use Rattle.tasks.specs.declared.declaration.Body.TheVariants.{TypeSymbol}
use Rattle.tasks.specs.Task.{made_by_cons}
use Rattle.tasks.specs.Meaning.{symbols_at, cons_at, algebraics_at, declaration_at, declarations_at, BodyHeld, DeclHeld}
use Rattle.declarations.specs.spelled_groups.Spelled.{as_symbol}
use Rattle.tr_algebraic.specs.algebraic_forms.Groups.{as_type, group_symbols}
use Rattle.tr_algebraic.proofs.algebraic_forms.Placing.{declared_one, types_pushed}
use Rattle.tr_algebraic.proofs.algebraic_forms.decls.+push_types.Goals as goal

pub push_constructors-requires : goal.push_constructors-requires
push_constructors-requires t c =
    let s = c.args.store.now in
    record { held = rw c.in_ok-push-in-Some.ensures.items (All-push (DeclHeld s) c.args.decls.now.items _ c.requires.held (subst (BodyHeld s) (sym c.in_ok-declared_as-in-Some.ensures.says) tt)) }

pub returns-in_ok-push_constructors-in-Some-clause-decls : goal.returns-in_ok-push_constructors-in-Some-clause-decls
returns-in_ok-push_constructors-in-Some-clause-decls t c =
    let s = c.args.store.now in
    let a = c.in-Some.first.now in
    let d = declaration_at s c.args.decl.now in
    let symbols = symbols_at s c.args.sig.now.symbols in
    rw c.in-Some.ensures.cases.0 (on_ok_weaker c.push_types.result (λ h.
    types_pushed (as_type symbols d a.symbol) (map (as_symbol symbols d) (made_by_cons (cons_at s a.cons))) (group_symbols symbols d (algebraics_at s c.in-Some.rest.now)) (declarations_at s c.args.decls.now.items) (declarations_at s c.push.new.self.items) (declarations_at s c.push_constructors.new.decls.items) _
    (declared_one s c.args.decl.now _ c.vars_of-vars.result (TypeSymbol a.symbol) c.in_ok-declared_as-in-Some.ensures c.args.decls.now.items c.push.new.self.items c.in_ok-push-in-Some.ensures.items (as_type symbols d a.symbol) (ap (λ n. record (as_type symbols d a.symbol) { vars = n }) c.vars_of-vars.ensures))
    (rw c.as_slice.ensures at c.in_ok-push_constructors-in-Some.ensures.decls) h) c.push_types.ensures.decls)
