use Rattle.std.proofs.Common.{◌≡◌, ℕ, ◌+◌, ◌++◌, ◌∷◌, [], List, true, sym, ap, subst, ◌∙◌, arith, append_assoc, Option, Err}
use Rattle.std.proofs.lemmas.List.{map-append}
use Rattle.std.proofs.lemmas.Result.{on_ok_weaker}
use Rattle.scopes.specs.declared.Table.TheVariants.{Symbols}
use Rattle.scopes.specs.Names.{ScopeNames, with_entry}
use Rattle.surface.specs.Lexeme.{Word}
use Rattle.surface.specs.declared.declarations.ParamTree.{ParamTree}
use Rattle.name_resolution.specs.Naming.{Tells}
use Rattle.name_resolution.specs.declared.NamingFault.{NamingFault}
use Rattle.name_resolution.proofs.Told.{of_first, of_rest, passed}
use Rattle.elab_groups.specs.parts.Declarations.{TokenName, word, words, names_of_parameters, constructor_names}
use Rattle.elab_groups.specs.members.Sources.{parameters_of}
use Rattle.elab_groups.specs.parts.Outcomes.{declared_in}
use Rattle.elab_declarations.specs.NewNames.{indexed_names, name_made}
use Rattle.elab_declarations.specs.type_declarations.Algebraics.{constructors_of, count_fields, numbered_fields, numbered_constructors, with_numbered, symbols_made, constructor_words}
use Rattle.elab_declarations.proofs.type_declarations.Declared.{agrees_more, symbol_entered, fields_words, with_both, symbols_same, symbols_append, symbols_after}
use Rattle.elab_declarations.proofs.type_declarations.naming.+declare_constructors.Goals as goal

pub returns-clause-scope : goal.returns-clause-scope
returns-clause-scope t c =
    let first = c.in-Some.first.now in
    let ps = parameters_of first.fields in
    let ks = constructors_of c.in-Some.rest.now in
    let n = c.args.number.now in
    let m = n + (count_fields ps + 1) in
    let named = with_entry Symbols first.name.text n true c.args.scope.now in
    let xs = numbered_fields (n + 1) ps in
    let number : c.declare_fields.new.number ≡ m =
    let p = c.in_ok-declare_fields.ensures.number ∙ ap (λ (ts : List ParamTree). c.in_ok-number.field-0 + count_fields (parameters_of ts)) c.as_slice.ensures in omega (arith, p, c.in_ok-number.ensures.next) in
    let scope : c.declare_fields.new.scope ≡ with_numbered xs named =
    c.in_ok-declare_fields.ensures.scope
    ∙ (ap (λ (ts : List ParamTree). with_numbered (numbered_fields c.in_ok-number.field-0 (parameters_of ts)) c.declare_name.new.scope) c.as_slice.ensures
    ∙ (ap (λ (k : ℕ). with_numbered (numbered_fields k ps) c.declare_name.new.scope) c.in_ok-number.ensures.next
    ∙ ap (with_numbered xs) c.in_ok-declare_name.ensures.scope)) in
    rw c.in-Some.ensures.cases.0 (on_ok_weaker c.declare_constructors.result (λ h. h ∙ (ap (λ (k : ℕ). with_numbered (numbered_constructors k ks) c.declare_fields.new.scope) number ∙ (ap (with_numbered (numbered_constructors m ks)) scope ∙ sym (with_both xs (numbered_constructors m ks) named)))) c.declare_constructors.ensures.scope)

pub returns-clause-before : goal.returns-clause-before
returns-clause-before t c =
    let first = c.in-Some.first.now in
    let x = first.name.text in
    let ds = names_of_parameters (parameters_of first.fields) in
    let ks = constructors_of c.in-Some.rest.now in
    let before = indexed_names c.args.before.now in
    let here : indexed_names c.declare_fields.new.before ≡ (before ++ x ∷ []) ++ words ds =
    c.in_ok-declare_fields.ensures.before
    ∙ (ap (λ (ts : List ParamTree). indexed_names c.declare_name.new.before ++ words (names_of_parameters (parameters_of ts))) c.as_slice.ensures
    ∙ ap (λ (ws : List Word). ws ++ words ds) c.in_ok-declare_name.ensures.before) in
    let more = constructor_words ks in
    let whole : ((before ++ x ∷ []) ++ words ds) ++ more ≡ before ++ x ∷ words (ds ++ constructor_names ks) =
    ap (λ (ws : List Word). ws ++ more) (append_assoc before (x ∷ []) (words ds))
    ∙ (append_assoc before (x ∷ words ds) more ∙ ap (λ (ws : List Word). before ++ x ∷ ws) (sym (map-append (λ (q : TokenName). q.name) ds (constructor_names ks)))) in
    rw c.in-Some.ensures.cases.0 (on_ok_weaker c.declare_constructors.result (λ h. h ∙ (ap (λ (ws : List Word). ws ++ more) here ∙ whole)) c.declare_constructors.ensures.before)

pub returns-clause-number : goal.returns-clause-number
returns-clause-number t c =
    let p = c.in_ok-declare_fields.ensures.number ∙ ap (λ (ts : List ParamTree). c.in_ok-number.field-0 + count_fields (parameters_of ts)) c.as_slice.ensures in
    rw c.in-Some.ensures.cases.0 (on_ok_weaker c.declare_constructors.result (λ h. omega (arith, h, p, c.in_ok-number.ensures.next)) c.declare_constructors.ensures.number)

pub returns-clause-told : goal.returns-clause-told
returns-clause-told t c =
    let first = c.in-Some.first.now in
    let x = first.name.text in
    let ps = parameters_of first.fields in
    let cs = names_of_parameters ps in
    let ds = constructor_names (constructors_of c.in-Some.rest.now) in
    let n = c.args.number.now in
    let names = c.args.scope.now in
    let before = indexed_names c.args.before.now in
    let next = before ++ x ∷ [] in
    let named = with_entry Symbols x n true names in
    let xs = numbered_fields (n + 1) ps in
    let d = declared_in names Symbols in
    let e = declared_in named Symbols in
    let entered = symbol_entered names x n before in
    let scope : c.declare_fields.new.scope ≡ with_numbered xs named =
    c.in_ok-declare_fields.ensures.scope
    ∙ (ap (λ (ts : List ParamTree). with_numbered (numbered_fields c.in_ok-number.field-0 (parameters_of ts)) c.declare_name.new.scope) c.as_slice.ensures
    ∙ (ap (λ (k : ℕ). with_numbered (numbered_fields k ps) c.declare_name.new.scope) c.in_ok-number.ensures.next
    ∙ ap (with_numbered xs) c.in_ok-declare_name.ensures.scope)) in
    let here : indexed_names c.declare_fields.new.before ≡ next ++ words cs =
    c.in_ok-declare_fields.ensures.before
    ∙ (ap (λ (ts : List ParamTree). indexed_names c.declare_name.new.before ++ words (names_of_parameters (parameters_of ts))) c.as_slice.ensures
    ∙ ap (λ (ws : List Word). ws ++ words cs) c.in_ok-declare_name.ensures.before) in
    -- the fields
    let fields : symbols_made (declared_in c.declare_name.new.scope Symbols) (indexed_names c.declare_name.new.before) (names_of_parameters (parameters_of c.as_slice.result.now)) ≡ symbols_made d next cs =
    ap (λ (ts : List ParamTree). symbols_made (declared_in c.declare_name.new.scope Symbols) (indexed_names c.declare_name.new.before) (names_of_parameters (parameters_of ts))) c.as_slice.ensures
    ∙ (ap (λ (ns : ScopeNames). symbols_made (declared_in ns Symbols) (indexed_names c.declare_name.new.before) cs) c.in_ok-declare_name.ensures.scope
    ∙ (ap (λ (ws : List Word). symbols_made e ws cs) c.in_ok-declare_name.ensures.before ∙ symbols_same d e next cs entered)) in
    let none = sym fields ∙ c.in_ok-declare_fields.ensures.told in
    -- the other constructors
    let same : symbols_made (declared_in c.declare_fields.new.scope Symbols) (indexed_names c.declare_fields.new.before) ds ≡ symbols_made d (next ++ words cs) ds =
    ap (λ (ns : ScopeNames). symbols_made (declared_in ns Symbols) (indexed_names c.declare_fields.new.before) ds) scope
    ∙ (ap (λ (ws : List Word). symbols_made (declared_in (with_numbered xs named) Symbols) ws ds) here
    ∙ (symbols_after named xs next (words cs) ds (fields_words (n + 1) ps) ∙ symbols_same d e (next ++ words cs) ds (agrees_more next (words cs) d e entered))) in
    let told = subst (λ (f : Option NamingFault). Tells c.declare_constructors.result f) same c.declare_constructors.ensures.told in
    let rest = subst (λ (f : Option NamingFault). Tells c.declare_constructors.result f) (sym (symbols_append d next cs ds)) (of_rest c.declare_constructors.result (symbols_made d next cs) (symbols_made d (next ++ words cs) ds) none told) in
    rw c.in-Some.ensures.cases.0 (of_rest c.declare_constructors.result (name_made (d x) before (word first.name)) (symbols_made d next (cs ++ ds)) c.in_ok-declare_name.ensures.told rest)

pub returns-in_err-declare_fields-clause-told : goal.returns-in_err-declare_fields-clause-told
returns-in_err-declare_fields-clause-told t c =
    let f = c.in_err-declare_fields.field-0.0 in
    let first = c.in-Some.first.now in
    let x = first.name.text in
    let cs = names_of_parameters (parameters_of first.fields) in
    let ds = constructor_names (constructors_of c.in-Some.rest.now) in
    let names = c.args.scope.now in
    let before = indexed_names c.args.before.now in
    let next = before ++ x ∷ [] in
    let named = with_entry Symbols x c.args.number.now true names in
    let d = declared_in names Symbols in
    let e = declared_in named Symbols in
    let fields : symbols_made (declared_in c.declare_name.new.scope Symbols) (indexed_names c.declare_name.new.before) (names_of_parameters (parameters_of c.as_slice.result.now)) ≡ symbols_made d next cs =
    ap (λ (ts : List ParamTree). symbols_made (declared_in c.declare_name.new.scope Symbols) (indexed_names c.declare_name.new.before) (names_of_parameters (parameters_of ts))) c.as_slice.ensures
    ∙ (ap (λ (ns : ScopeNames). symbols_made (declared_in ns Symbols) (indexed_names c.declare_name.new.before) cs) c.in_ok-declare_name.ensures.scope
    ∙ (ap (λ (ws : List Word). symbols_made e ws cs) c.in_ok-declare_name.ensures.before ∙ symbols_same d e next cs (symbol_entered names x c.args.number.now before))) in
    let told = subst (λ (g : Option NamingFault). Tells (Err f) g) fields c.in_err-declare_fields.ensures.told in
    let rest = subst (λ (g : Option NamingFault). Tells (Err f) g) (sym (symbols_append d next cs ds)) (of_first f (symbols_made d next cs) (symbols_made d (next ++ words cs) ds) told) in
    rw c.in-Some.ensures.cases.0 (passed c.from_residual-in_err-declare_fields.result f _ c.from_residual-in_err-declare_fields.ensures.1 (of_rest (Err f) (name_made (d x) before (word first.name)) (symbols_made d next (cs ++ ds)) c.in_ok-declare_name.ensures.told rest))
