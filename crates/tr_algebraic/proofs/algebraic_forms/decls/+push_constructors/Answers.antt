use Rattle.std.proofs.lemmas.Result.{on_ok_weaker}
use Rattle.tasks.specs.Task.{made_by_cons}
use Rattle.tasks.specs.Meaning.{symbols_at, cons_at, declaration_at, declarations_at}
use Rattle.declarations.specs.spelled_groups.Spelled.{as_symbol}
use Rattle.tr_algebraic.proofs.algebraic_forms.Placing.{cons_pushed}
use Rattle.tr_algebraic.proofs.algebraic_forms.decls.+push_constructors.Goals as goal

pub returns-in_ok-push_symbols-in-Some-2-clause-decls : goal.returns-in_ok-push_symbols-in-Some-2-clause-decls
returns-in_ok-push_symbols-in-Some-2-clause-decls t c =
    let s = c.args.store.now in
    let con = c.in-Some.first.now in
    rw c.in-Some.ensures.cases.0 (on_ok_weaker c.push_constructors.result (λ h.
    cons_pushed (as_symbol (symbols_at s c.args.sig.now.symbols) (declaration_at s c.args.decl.now)) con.symbol con.projections (made_by_cons (cons_at s c.in-Some.rest.now)) (declarations_at s c.args.decls.now.items) (declarations_at s c.push_symbols.new.decls.items)
    (declarations_at s c.push_symbols-in-Some.new.decls.items) _ c.in_ok-push_symbols-in-Some.ensures.decls (rw c.as_slice.ensures at c.in_ok-push_symbols-in-Some-2.ensures.decls) h) c.push_constructors.ensures.decls)
