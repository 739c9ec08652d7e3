use Rattle.std.proofs.Common.{◌≡◌, ℕ, ◌+◌, ◌++◌, ◌∷◌, [], List, length, ap, subst, ◌∙◌, arith, append_assoc}
use Rattle.std.proofs.lemmas.Result.{on_ok_weaker}
use Rattle.tasks.specs.Task.{ConstructorTree, AlgebraicTree}
use Rattle.tasks.specs.Meaning.{symbols_at, algebraic_at, algebraics_at}
use Rattle.tasks.specs.declared.declaration.Alg.{Alg}
use Rattle.surface.specs.SurfaceDeclarations.{algebraic_of}
use Rattle.name_resolution.specs.Naming.{Tells, scope_at}
use Rattle.name_resolution.specs.Where.{Where}
use Rattle.name_resolution.proofs.Told.{of_rest}
use Rattle.elab_groups.specs.parts.Declarations.{algebraic_type, words, with_vars, constructors_fault, types_fault}
use Rattle.elab_groups.specs.parts.Outcomes.{over}
use Rattle.elab_groups.proofs.parts.Entering.{signature_grows}
use Rattle.elab_declarations.specs.type_declarations.Algebraics.{algebraics_of, entry_count, constructor_trees, algebraic_trees}
use Rattle.elab_declarations.proofs.type_declarations.Placed.{things_grow, over_grows}
use Rattle.elab_declarations.proofs.type_declarations.Typed.{algs_more, algs_are}
use Rattle.elab_declarations.proofs.type_declarations.fields.+push_types.Goals as goal

pub push_types-requires : goal.push_types-requires
push_types-requires t c =
    let s = c.args.store.now in
    let s1 = c.make_constructors.new.store in
    let g = c.make_constructors.ensures.grows in
    let alg : Alg = record { symbol = c.args.symbol; cons = c.in_ok-cons.cons } in
    let l = ap length c.in-Some.ensures.cases.0 in
    let f = rw c.in-Some.ensures.cases.0 at c.requires.fits in (
      omega (arith, l),
      (
        signature_grows s s1 g c.args.sig.now.symbols c.requires.signature,
        (
          things_grow s s1 g c.args.scope.now c.requires.scopes,
          (rw c.in_ok-push.ensures.ok (algs_more s s1 g c.args.made.now alg c.requires.made (record { cons = c.in_ok-cons.ensures.typed })), (omega (arith, l, c.requires.symbols), omega (arith, f, c.in_ok-cons.ensures.number))),
        ),
      ),
    )

pub returns-clause-types : goal.returns-clause-types
returns-clause-types t c =
    let s = c.args.store.now in
    let s1 = c.make_constructors.new.store in
    let g = c.make_constructors.ensures.grows in
    let is = c.args.sig.now.symbols in
    let names = c.args.scope.now in
    let w = over (symbols_at s is) (scope_at s names) [] in
    let i = c.args.symbol in
    let n = c.args.number.now in
    let a = algebraic_type (algebraic_of c.in-Some.first.now) in
    let ts = algebraics_of c.in-Some.rest.now in
    let alg : Alg = record { symbol = i; cons = c.in_ok-cons.cons } in
    let old = algebraics_at s c.args.made.now in
    let made = algebraics_at s1 c.push.new.self in
    let here : AlgebraicTree = record { symbol = i; cons = constructor_trees (with_vars w (words a.vars)) n a.constructors } in
    let one : algebraic_at s1 alg ≡ here = ap (λ (cs : List ConstructorTree). record { symbol = i; cons = cs }) c.in_ok-cons.ensures.cons in
    let more : made ≡ old ++ here ∷ [] = ap (algebraics_at s1) c.in_ok-push.ensures.ok ∙ (algs_are s s1 g c.args.made.now alg c.requires.made ∙ ap (λ (x : AlgebraicTree). old ++ x ∷ []) one) in
    let same : over (symbols_at s1 is) (scope_at s1 names) [] ≡ w = over_grows s s1 g is names [] c.requires.signature c.requires.scopes in
    let rest = algebraic_trees w (i + 1) (n + entry_count a.constructors) ts in
    rw c.in-Some.ensures.cases.0 (on_ok_weaker c.push_types.result (λ h. h ∙ (ap (λ (v : Where). made ++ algebraic_trees v (i + 1) c.make_constructors.new.number ts) same ∙ (ap (λ (k : ℕ). made ++ algebraic_trees w (i + 1) k ts) c.in_ok-cons.ensures.number ∙ (ap (λ (ys : List AlgebraicTree). ys ++ rest) more ∙ append_assoc old (here ∷ []) rest)))) c.push_types.ensures.types)

pub returns-clause-told : goal.returns-clause-told
returns-clause-told t c =
    let s = c.args.store.now in
    let s1 = c.make_constructors.new.store in
    let is = c.args.sig.now.symbols in
    let names = c.args.scope.now in
    let w = over (symbols_at s is) (scope_at s names) [] in
    let a = algebraic_type (algebraic_of c.in-Some.first.now) in
    let ts = algebraics_of c.in-Some.rest.now in
    let same : over (symbols_at s1 is) (scope_at s1 names) [] ≡ w = over_grows s s1 c.make_constructors.ensures.grows is names [] c.requires.signature c.requires.scopes in
    let told = subst (λ (v : Where). Tells c.push_types.result (types_fault v ts)) same c.push_types.ensures.told in
    rw c.in-Some.ensures.cases.0 (of_rest c.push_types.result (constructors_fault (with_vars w (words a.vars)) a.constructors) (types_fault w ts) c.in_ok-cons.ensures.free told)
