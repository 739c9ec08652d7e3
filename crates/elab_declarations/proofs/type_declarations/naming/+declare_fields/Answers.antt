use Rattle.std.proofs.Common.{◌≡◌, ℕ, ◌+◌, ◌++◌, List, map, length, length-append, sym, ap, subst, ◌∙◌, arith, append_assoc, Option, Err}
use Rattle.std.proofs.lemmas.List.{map-append}
use Rattle.std.proofs.lemmas.Result.{on_ok_weaker}
use Rattle.scopes.specs.declared.Table.TheVariants.{Symbols}
use Rattle.scopes.specs.Names.{ScopeNames}
use Rattle.surface.specs.Lexeme.{Word}
use Rattle.surface.specs.declared.names.Name.{Name}
use Rattle.name_resolution.specs.Naming.{Tells}
use Rattle.name_resolution.specs.declared.NamingFault.{NamingFault}
use Rattle.name_resolution.proofs.Told.{of_first, of_rest, passed}
use Rattle.elab_groups.specs.parts.Declarations.{TokenName, word, words, names_of_parameters}
use Rattle.elab_groups.specs.members.Members.{parameter_words, words_of_parameters}
use Rattle.elab_groups.specs.members.Sources.{parameters_of}
use Rattle.elab_groups.specs.parts.Outcomes.{declared_in}
use Rattle.elab_declarations.specs.NewNames.{indexed_names}
use Rattle.elab_declarations.specs.type_declarations.Algebraics.{numbered_names, numbered_fields, with_numbered, symbols_made}
use Rattle.elab_declarations.proofs.type_declarations.Declared.{named_words, with_both, symbols_append, symbols_after}
use Rattle.elab_declarations.proofs.type_declarations.naming.+declare_fields.Goals as goal

pub returns-clause-scope : goal.returns-clause-scope
returns-clause-scope t c =
    let ns = c.in-Some.first.now.names in
    let ps = parameters_of c.in-Some.rest.now in
    let n = c.args.number.now in
    let m = n + length (parameter_words (map word ns)) in
    let xs = numbered_names n (map word ns) in
    let number : c.declare_parameter.new.number ≡ m = c.in_ok-declare_parameter.ensures.number ∙ ap (λ (vs : List Name). n + length (parameter_words (map word vs))) c.as_slice.ensures in
    let scope : c.declare_parameter.new.scope ≡ with_numbered xs c.args.scope.now = c.in_ok-declare_parameter.ensures.scope ∙ ap (λ (vs : List Name). with_numbered (numbered_names n (map word vs)) c.args.scope.now) c.as_slice.ensures in
    rw c.in-Some.ensures.cases.0 (on_ok_weaker c.declare_fields.result (λ h. h ∙ (ap (λ (k : ℕ). with_numbered (numbered_fields k ps) c.declare_parameter.new.scope) number ∙ (ap (with_numbered (numbered_fields m ps)) scope ∙ sym (with_both xs (numbered_fields m ps) c.args.scope.now)))) c.declare_fields.ensures.scope)

pub returns-clause-before : goal.returns-clause-before
returns-clause-before t c =
    let ns = c.in-Some.first.now.names in
    let ps = parameters_of c.in-Some.rest.now in
    let before = indexed_names c.args.before.now in
    let here : indexed_names c.declare_parameter.new.before ≡ before ++ words (map word ns) = c.in_ok-declare_parameter.ensures.before ∙ ap (λ (vs : List Name). before ++ words (map word vs)) c.as_slice.ensures in
    let more = words (names_of_parameters ps) in
    rw c.in-Some.ensures.cases.0 (on_ok_weaker c.declare_fields.result (λ h. h ∙ (ap (λ (ws : List Word). ws ++ more) here ∙ (append_assoc before (words (map word ns)) more ∙ ap (λ (ws : List Word). before ++ ws) (sym (map-append (λ (x : TokenName). x.name) (map word ns) (names_of_parameters ps)))))) c.declare_fields.ensures.before)

pub returns-clause-number : goal.returns-clause-number
returns-clause-number t c =
    let ns = c.in-Some.first.now.names in
    let ps = parameters_of c.in-Some.rest.now in
    let n = c.args.number.now in
    let number : c.declare_parameter.new.number ≡ n + length (parameter_words (map word ns)) = c.in_ok-declare_parameter.ensures.number ∙ ap (λ (vs : List Name). n + length (parameter_words (map word vs))) c.as_slice.ensures in
    let l = length-append (parameter_words (map word ns)) (words_of_parameters ps) in
    rw c.in-Some.ensures.cases.0 (on_ok_weaker c.declare_fields.result (λ h. omega (arith, h, number, l)) c.declare_fields.ensures.number)

pub returns-clause-told : goal.returns-clause-told
returns-clause-told t c =
    let ns = c.in-Some.first.now.names in
    let cs = map word ns in
    let ds = names_of_parameters (parameters_of c.in-Some.rest.now) in
    let n = c.args.number.now in
    let names = c.args.scope.now in
    let before = indexed_names c.args.before.now in
    let xs = numbered_names n cs in
    let d = declared_in names Symbols in
    let scope : c.declare_parameter.new.scope ≡ with_numbered xs names = c.in_ok-declare_parameter.ensures.scope ∙ ap (λ (vs : List Name). with_numbered (numbered_names n (map word vs)) names) c.as_slice.ensures in
    let here : indexed_names c.declare_parameter.new.before ≡ before ++ words cs = c.in_ok-declare_parameter.ensures.before ∙ ap (λ (vs : List Name). before ++ words (map word vs)) c.as_slice.ensures in
    let none = ap (λ (vs : List Name). symbols_made d before (map word vs)) (sym c.as_slice.ensures) ∙ c.in_ok-declare_parameter.ensures.told in
    let same : symbols_made (declared_in c.declare_parameter.new.scope Symbols) (indexed_names c.declare_parameter.new.before) ds ≡ symbols_made d (before ++ words cs) ds =
    ap (λ (ns : ScopeNames). symbols_made (declared_in ns Symbols) (indexed_names c.declare_parameter.new.before) ds) scope
    ∙ (ap (λ (ws : List Word). symbols_made (declared_in (with_numbered xs names) Symbols) ws ds) here
    ∙ symbols_after names xs before (words cs) ds (named_words n cs)) in
    let told = subst (λ (f : Option NamingFault). Tells c.declare_fields.result f) same c.declare_fields.ensures.told in
    rw c.in-Some.ensures.cases.0 (subst (λ (f : Option NamingFault). Tells c.declare_fields.result f) (sym (symbols_append d before cs ds)) (of_rest c.declare_fields.result (symbols_made d before cs) (symbols_made d (before ++ words cs) ds) none told))

pub returns-in_err-declare_parameter-clause-told : goal.returns-in_err-declare_parameter-clause-told
returns-in_err-declare_parameter-clause-told t c =
    let f = c.in_err-declare_parameter.field-0.0 in
    let cs = map word c.in-Some.first.now.names in
    let ds = names_of_parameters (parameters_of c.in-Some.rest.now) in
    let before = indexed_names c.args.before.now in
    let d = declared_in c.args.scope.now Symbols in
    let told = subst (λ (vs : List Name). Tells (Err f) (symbols_made d before (map word vs))) c.as_slice.ensures c.in_err-declare_parameter.ensures.told in
    rw c.in-Some.ensures.cases.0 (passed c.from_residual.result f _ c.from_residual.ensures.1 (subst (λ (g : Option NamingFault). Tells (Err f) g) (sym (symbols_append d before cs ds)) (of_first f (symbols_made d before cs) (symbols_made d (before ++ words cs) ds) told)))
