use Rattle.std.proofs.Common.{length, ap, arith}
use Rattle.std.proofs.lemmas.Result.{on_ok_weaker}
use Rattle.std.proofs.lemmas.List.Elements.{All-weaker}
use Rattle.trees.specs.Node.{trees_at}
use Rattle.tasks.specs.Meaning.{declarations_at, SymbolHeld}
use Rattle.tasks.proofs.Growth.{symbol_held_later, decl_held_later}
use Rattle.tasks.proofs.Lists.{split_all}
use Rattle.tr_algebraic.specs.algebraic_forms.Making.{AlgIsFit}
use Rattle.tr_algebraic.proofs.algebraic_forms.Making.{algs_fit_later}
use Rattle.tr_algebraic.proofs.algebraic_forms.Placing.{decls_held, laws_pushed}
use Rattle.tr_algebraic.proofs.algebraic_forms.decls.+push_laws.Goals as goal

pub type_laws-requires : goal.type_laws-requires
type_laws-requires t c = record { alg = (split_all (AlgIsFit c.args.store.now) c.args.types.now c.in-Some.first.now c.in-Some.rest.now c.in-Some.ensures.cases.0 c.requires.types).0 }

pub push_formulas-requires-clause-held : goal.push_formulas-requires-clause-held
push_formulas-requires-clause-held t c = decls_held c.args.store.now c.type_laws.new.store c.in_ok-laws-in-Some.ensures.grows c.args.decls.now.items c.requires.held

pub push_laws-requires : goal.push_laws-requires
push_laws-requires t c =
    let s = c.args.store.now in
    let s1 = c.type_laws.new.store in
    let g = c.in_ok-laws-in-Some.ensures.grows in
    let infos = c.args.sig.now.symbols in
    let both = split_all (AlgIsFit s) c.args.types.now c.in-Some.first.now c.in-Some.rest.now c.in-Some.ensures.cases.0 c.requires.types in (
      omega (arith, ap length c.in-Some.ensures.cases.0),
      (All-weaker (SymbolHeld s) (SymbolHeld s1) (symbol_held_later s s1 g) infos c.requires.symbols, (decl_held_later s s1 g c.args.decl.now c.requires.decl, (algs_fit_later s s1 g c.in-Some.rest.now both.1, c.in_ok-push_formulas-in-Some.ensures.held))),
    )

pub returns-in_ok-push_formulas-in-Some-clause-decls : goal.returns-in_ok-push_formulas-in-Some-clause-decls
returns-in_ok-push_formulas-in-Some-clause-decls t c =
    let s = c.args.store.now in
    let s1 = c.type_laws.new.store in
    let both = split_all (AlgIsFit s) c.args.types.now c.in-Some.first.now c.in-Some.rest.now c.in-Some.ensures.cases.0 c.requires.types in
    rw c.in-Some.ensures.cases.0 (on_ok_weaker c.push_laws.result (λ h.
    laws_pushed s s1 c.in_ok-laws-in-Some.ensures.grows c.args.sig.now.symbols c.requires.symbols c.args.decl.now c.requires.decl c.in-Some.first.now c.in-Some.rest.now both.1 c.vars_of-vars.result c.vars_of-vars.ensures (trees_at s1 c.in_ok-laws-in-Some.laws.items) c.in_ok-laws-in-Some.ensures.laws
    c.args.decls.now.items c.requires.held (declarations_at s1 c.push_formulas.new.decls.items) _ (rw c.deref.ensures.value at c.in_ok-push_formulas-in-Some.ensures.decls) h) c.push_laws.ensures.decls)
