use Rattle.std.proofs.Common.{◌≡◌, Option, None, sym, ap, subst}
use Rattle.tasks.specs.declared.declaration.Body.{Body}
use Rattle.tasks.specs.Task.{SymbolTree, int_symbol}
use Rattle.tasks.specs.Meaning.{symbol_at, symbols_at, body_at}
use Rattle.clones.specs.declared.clone_elements.left.Abstract.{Abstract}
use Rattle.clones.specs.clone_elements.Left.{kind_of_symbol, kind_of_body}
use Rattle.clones.proofs.clone_elements.left.kind_of_body.Goals as goal
use Rattle.tasks.proofs.plain_laws.Lists.{got_none}

pub returns-in-None : goal.returns-in-None
returns-in-None c = λ s.
    let is = c.args.sig.now.symbols in
    let here = got_none (symbol_at s) is c.in-Symbol.symbol int_symbol (sym c.in-None.ensures.value) in
    subst (λ (b : Body). ◌≡◌ {A = Option Abstract} None (kind_of_body (symbols_at s is) c.args.assumed (body_at s b))) (sym c.in-Symbol.is) (ap (λ (e : SymbolTree). kind_of_symbol e.kind) (sym here))
