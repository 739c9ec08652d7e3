use Rattle.std.proofs.Common.{◌≡◌, ℕ, ◌+◌, ◌++◌, ◌∷◌, [], List, map, true, ap, subst, ◌∙◌, arith, Option}
use Rattle.std.proofs.lemmas.Result.{on_ok_weaker}
use Rattle.scopes.specs.declared.Table.TheVariants.{Symbols}
use Rattle.scopes.specs.Names.{ScopeNames, with_entry}
use Rattle.surface.specs.Lexeme.{Word}
use Rattle.name_resolution.specs.Naming.{Tells}
use Rattle.name_resolution.specs.declared.NamingFault.{NamingFault}
use Rattle.name_resolution.proofs.Told.{of_rest}
use Rattle.elab_groups.specs.parts.Declarations.{word}
use Rattle.elab_groups.specs.parts.Outcomes.{declared_in}
use Rattle.elab_declarations.specs.NewNames.{indexed_names, name_made}
use Rattle.elab_declarations.specs.type_declarations.Algebraics.{numbered_names, with_numbered, symbols_made}
use Rattle.elab_declarations.proofs.type_declarations.Declared.{symbol_entered, symbols_same}
use Rattle.elab_declarations.proofs.type_declarations.naming.+declare_symbols.Goals as goal

pub returns-clause-scope : goal.returns-clause-scope
returns-clause-scope t c =
    let cs = map word c.in-Some.rest.now in
    let n = c.args.number.now in
    rw c.in-Some.ensures.cases.0 (on_ok_weaker c.declare_symbols.result (λ h. h ∙ (ap (λ (k : ℕ). with_numbered (numbered_names k cs) c.declare_name.new.scope) c.in_ok-number.ensures.next ∙ ap (with_numbered (numbered_names (n + 1) cs)) c.in_ok-declare_name.ensures.scope)) c.declare_symbols.ensures.scope)

pub returns-clause-number : goal.returns-clause-number
returns-clause-number t c =
    rw c.in-Some.ensures.cases.0 (on_ok_weaker c.declare_symbols.result (λ h. omega (arith, h, c.in_ok-number.ensures.next)) c.declare_symbols.ensures.number)

pub returns-clause-told : goal.returns-clause-told
returns-clause-told t c =
    let first = c.in-Some.first.now in
    let x = first.text in
    let cs = map word c.in-Some.rest.now in
    let n = c.args.number.now in
    let names = c.args.scope.now in
    let before = indexed_names c.args.before.now in
    let named = with_entry Symbols x n true names in
    let same : symbols_made (declared_in c.declare_name.new.scope Symbols) (indexed_names c.declare_name.new.before) cs ≡ symbols_made (declared_in names Symbols) (before ++ x ∷ []) cs =
    ap (λ (ns : ScopeNames). symbols_made (declared_in ns Symbols) (indexed_names c.declare_name.new.before) cs) c.in_ok-declare_name.ensures.scope
    ∙ (ap (λ (ws : List Word). symbols_made (declared_in named Symbols) ws cs) c.in_ok-declare_name.ensures.before
    ∙ symbols_same (declared_in names Symbols) (declared_in named Symbols) (before ++ x ∷ []) cs (symbol_entered names x n before)) in
    let told = subst (λ (f : Option NamingFault). Tells c.declare_symbols.result f) same c.declare_symbols.ensures.told in
    rw c.in-Some.ensures.cases.0 (of_rest c.declare_symbols.result (name_made (declared_in names Symbols x) before (word first)) (symbols_made (declared_in names Symbols) (before ++ x ∷ []) cs) c.in_ok-declare_name.ensures.told told)
