use Rattle.std.proofs.Common.{◌≡◌, ◌++◌, ◌∷◌, [], List, map, true, None, sym, ap, subst, ◌∙◌, Option, Err}
use Rattle.scopes.specs.declared.Table.TheVariants.{Types, Symbols}
use Rattle.scopes.specs.Names.{ScopeNames, with_entry}
use Rattle.surface.specs.Lexeme.{Word}
use Rattle.surface.specs.SurfaceDeclarations.{algebraic_of}
use Rattle.surface.specs.declared.names.Name.{Name}
use Rattle.name_resolution.specs.Naming.{Tells}
use Rattle.name_resolution.specs.declared.NamingFault.{NamingFault}
use Rattle.name_resolution.proofs.Told.{of_first, of_rest, passed}
use Rattle.elab_groups.specs.parts.Declarations.{word, algebraic_type, list_fault}
use Rattle.elab_groups.specs.parts.Outcomes.{declared_in}
use Rattle.elab_declarations.specs.NewNames.{indexed_names}
use Rattle.elab_declarations.specs.type_declarations.Algebraics.{algebraics_of, with_constructors, constructors_made, constructor_words, types_made}
use Rattle.elab_declarations.proofs.type_declarations.Declared.{first_constructors, rest_types}
use Rattle.elab_declarations.proofs.type_declarations.naming.+declare_types.Goals as goal

pub returns-in_err-declare_alternatives-clause-told : goal.returns-in_err-declare_alternatives-clause-told
returns-in_err-declare_alternatives-clause-told t c =
    let f = c.in_err-declare_alternatives.field-0.0 in
    let a = algebraic_type (algebraic_of c.in-Some.first.now) in
    let names = c.args.scope.now in
    let us = indexed_names c.args.before.now.types in
    let vs = indexed_names c.args.before.now.constructors in
    let named = with_entry Types a.called.name c.args.symbol true names in
    let list : list_fault [] a.vars ≡ None = ap (λ (ns : List Name). list_fault [] (map word ns)) (sym c.as_slice.ensures) ∙ c.in_ok-check_variables.ensures in
    let same : constructors_made (declared_in c.declare_name.new.scope Symbols) vs a.constructors ≡ constructors_made (declared_in names Symbols) vs a.constructors =
    ap (λ (ns : ScopeNames). constructors_made (declared_in ns Symbols) vs a.constructors) c.in_ok-declare_name.ensures.scope ∙ first_constructors names us vs a c.args.symbol 0 in
    let told = subst (λ (g : Option NamingFault). Tells (Err f) g) same c.in_err-declare_alternatives.ensures.told in
    rw c.in-Some.ensures.cases.0 (passed c.from_residual-in_err-declare_alternatives.result f _ c.from_residual-in_err-declare_alternatives.ensures.1 (of_rest (Err f) _ _ c.in_ok-declare_name.ensures.told (of_rest (Err f) _ _ list (of_first f _ _ told))))

pub returns-clause-told : goal.returns-clause-told
returns-clause-told t c =
    let a = algebraic_type (algebraic_of c.in-Some.first.now) in
    let ts = algebraics_of c.in-Some.rest.now in
    let names = c.args.scope.now in
    let i = c.args.symbol in
    let n = c.args.number.now in
    let us = indexed_names c.args.before.now.types in
    let vs = indexed_names c.args.before.now.constructors in
    let us' = us ++ a.called.name ∷ [] in
    let vs' = vs ++ constructor_words a.constructors in
    let named = with_entry Types a.called.name i true names in
    let after = with_constructors n a.constructors named in
    let list : list_fault [] a.vars ≡ None = ap (λ (ns : List Name). list_fault [] (map word ns)) (sym c.as_slice.ensures) ∙ c.in_ok-check_variables.ensures in
    let same : constructors_made (declared_in c.declare_name.new.scope Symbols) vs a.constructors ≡ constructors_made (declared_in names Symbols) vs a.constructors =
    ap (λ (ns : ScopeNames). constructors_made (declared_in ns Symbols) vs a.constructors) c.in_ok-declare_name.ensures.scope ∙ first_constructors names us vs a i n in
    let made : constructors_made (declared_in names Symbols) vs a.constructors ≡ None = sym same ∙ c.in_ok-declare_alternatives.ensures.told in
    let scope : c.declare_alternatives.new.scope ≡ after = c.in_ok-declare_alternatives.ensures.scope ∙ ap (with_constructors n a.constructors) c.in_ok-declare_name.ensures.scope in
    let words : indexed_names c.declare_alternatives.new.before ≡ vs' = c.in_ok-declare_alternatives.ensures.before in
    let rest : types_made (declared_in c.declare_alternatives.new.scope) (indexed_names c.declare_name.new.before) (indexed_names c.declare_alternatives.new.before) ts ≡ types_made (declared_in names) us' vs' ts =
    ap (λ (ns : ScopeNames). types_made (declared_in ns) (indexed_names c.declare_name.new.before) (indexed_names c.declare_alternatives.new.before) ts) scope
    ∙ (ap (λ (ws : List Word). types_made (declared_in after) ws (indexed_names c.declare_alternatives.new.before) ts) c.in_ok-declare_name.ensures.before
    ∙ (ap (λ (ws : List Word). types_made (declared_in after) us' ws ts) words ∙ rest_types names us vs a i n ts)) in
    let told = subst (λ (g : Option NamingFault). Tells c.declare_types.result g) rest c.declare_types.ensures.told in
    rw c.in-Some.ensures.cases.0 (of_rest c.declare_types.result _ _ c.in_ok-declare_name.ensures.told (of_rest c.declare_types.result _ _ list (of_rest c.declare_types.result _ _ made told)))
