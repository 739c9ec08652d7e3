use Rattle.std.proofs.lemmas.Result.{on_ok_weaker}
use Rattle.tasks.specs.Meaning.{symbols_at, algebraics_at, declaration_at, declarations_at}
use Rattle.tr_algebraic.specs.algebraic_forms.Groups.{as_law, group_laws, group_symbols}
use Rattle.std.proofs.Common.{map}
use Rattle.tr_algebraic.proofs.algebraic_forms.Making.{then_others}
use Rattle.tr_algebraic.proofs.algebraic_forms.Placing.{types_stay, types_fit}
use Rattle.tr_algebraic.proofs.algebraic_forms.decls.push_in_place.Goals as goal

pub push_laws-requires-clause-types : goal.push_laws-requires-clause-types
push_laws-requires-clause-types c = rw c.as_slice-in-Algebraics.ensures (types_fit c.args.store.now c.args.sig.now.symbols c.args.decl.now c.in-Algebraics.types c.in-Algebraics.is c.requires.valid)

pub returns-in_ok-push_types-in-Algebraics-clause-decls : goal.returns-in_ok-push_types-in-Algebraics-clause-decls
returns-in_ok-push_types-in-Algebraics-clause-decls c =
    let s = c.args.store.now in
    let d = declaration_at s c.args.decl.now in
    let symbols = symbols_at s c.args.sig.now.symbols in
    let ts = algebraics_at s c.in-Algebraics.types in
    rw (types_stay s symbols d c.args.decl.now.body c.in-Algebraics.types c.in-Algebraics.is) (on_ok_weaker c.push_laws.result (λ h.
    then_others (declarations_at s c.args.decls.now.items) (declarations_at s c.push_types.new.decls.items) _ (group_symbols symbols d ts) (map (as_law d) (group_laws symbols ts)) (rw c.as_slice.ensures at c.in_ok-push_types-in-Algebraics.ensures.decls) (rw c.as_slice-in-Algebraics.ensures at h)) c.push_laws.ensures.decls)
