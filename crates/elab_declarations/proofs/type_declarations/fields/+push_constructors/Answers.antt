use Rattle.std.proofs.Common.{◌≡◌, ℕ, ◌+◌, ◌++◌, ◌∷◌, [], None, List, length, false, sym, ap, subst, ◌∙◌, arith, append_assoc}
use Rattle.std.proofs.lemmas.Result.{on_ok_weaker}
use Rattle.tasks.specs.Task.{ConstructorTree}
use Rattle.tasks.specs.Meaning.{con_at, cons_at}
use Rattle.surface.specs.declared.declarations.ParamTree.{ParamTree}
use Rattle.name_resolution.specs.Naming.{where_at, Tells}
use Rattle.name_resolution.specs.Where.{Where}
use Rattle.name_resolution.proofs.Told.{of_rest}
use Rattle.open_types.proofs.Growing.{world_stays, world_grows}
use Rattle.elab_groups.specs.parts.Declarations.{params_fault, constructors_fault}
use Rattle.elab_groups.specs.members.Members.{parameter_types}
use Rattle.elab_groups.specs.members.Sources.{parameters_of}
use Rattle.elab_declarations.specs.type_declarations.Algebraics.{count_fields, constructors_of, numbering_from, constructor_trees}
use Rattle.elab_declarations.proofs.type_declarations.Typed.{cons_more, cons_are}
use Rattle.elab_declarations.proofs.type_declarations.fields.+push_constructors.Goals as goal

pub make_constructor-requires-clause-fits : goal.make_constructor-requires-clause-fits
make_constructor-requires-clause-fits t c =
    let first = c.in-Some.first.now in
    let f = rw c.in-Some.ensures.cases.0 at c.requires.fits in
    let l : count_fields (parameters_of c.as_slice.result.now) ≡ count_fields (parameters_of first.fields) = ap (λ (ts : List ParamTree). count_fields (parameters_of ts)) c.as_slice.ensures in
    omega (arith, f, l)

pub overflow_add-number-2 : goal.overflow_add-number-2
overflow_add-number-2 t c =
    let first = c.in-Some.first.now in
    let f = rw c.in-Some.ensures.cases.0 at c.requires.fits in
    let l : c.len.result ≡ count_fields (parameters_of first.fields) = c.len.ensures ∙ (c.in_ok-con.ensures.count ∙ ap (λ (ts : List ParamTree). count_fields (parameters_of ts)) c.as_slice.ensures) in
    omega (arith, f, l)

pub push_constructors-requires : goal.push_constructors-requires
push_constructors-requires t c =
    let s = c.args.store.now in
    let s1 = c.make_constructor.new.store in
    let g = c.make_constructor.ensures.grows in
    let first = c.in-Some.first.now in
    let f = rw c.in-Some.ensures.cases.0 at c.requires.fits in
    let l : c.len.result ≡ count_fields (parameters_of first.fields) = c.len.ensures ∙ (c.in_ok-con.ensures.count ∙ ap (λ (ts : List ParamTree). count_fields (parameters_of ts)) c.as_slice.ensures) in (
      omega (arith, ap length c.in-Some.ensures.cases.0),
      (
        world_grows s s1 g c.args.world.now c.requires.world,
        (c.requires.closed, (rw c.in_ok-push.ensures.ok (cons_more s s1 g c.args.made.now c.in_ok-con.con c.requires.made c.in_ok-con.ensures.typed), omega (arith, f, l))),
      ),
    )

pub returns-clause-cons : goal.returns-clause-cons
returns-clause-cons t c =
    let s = c.args.store.now in
    let s1 = c.make_constructor.new.store in
    let g = c.make_constructor.ensures.grows in
    let w = where_at s c.args.world.now in
    let n = c.args.number.now in
    let first = c.in-Some.first.now in
    let ks = constructors_of c.in-Some.rest.now in
    let m = count_fields (parameters_of first.fields) + 1 in
    let old = cons_at s c.args.made.now in
    let made = cons_at s1 c.push.new.self in
    let here : ConstructorTree = record { symbol = n; fields = parameter_types w (parameters_of first.fields); projections = numbering_from (n + 1) (parameter_types w (parameters_of first.fields)) } in
    let next : n + (c.len.result + 1) ≡ n + m = ap (λ (k : ℕ). n + (k + 1)) (c.len.ensures ∙ (c.in_ok-con.ensures.count ∙ ap (λ (ts : List ParamTree). count_fields (parameters_of ts)) c.as_slice.ensures)) in
    let one : con_at s1 c.in_ok-con.con ≡ here = c.in_ok-con.ensures.con ∙ ap (λ (ts : List ParamTree). record { symbol = n; fields = parameter_types w (parameters_of ts); projections = numbering_from (n + 1) (parameter_types w (parameters_of ts)) }) c.as_slice.ensures in
    let more : made ≡ old ++ here ∷ [] = ap (cons_at s1) c.in_ok-push.ensures.ok ∙ (cons_are s s1 g c.args.made.now c.in_ok-con.con c.requires.made ∙ ap (λ (x : ConstructorTree). old ++ x ∷ []) one) in
    let same : where_at s1 c.args.world.now ≡ w = world_stays s s1 g c.args.world.now c.requires.world in
    let rest = constructor_trees w (n + m) ks in
    rw c.in-Some.ensures.cases.0 (on_ok_weaker c.push_constructors.result (λ h. h ∙ (ap (λ (v : Where). made ++ constructor_trees v (n + (c.len.result + 1)) ks) same ∙ (ap (λ (k : ℕ). made ++ constructor_trees w k ks) next ∙ (ap (λ (ts : List ConstructorTree). ts ++ rest) more ∙ append_assoc old (here ∷ []) rest)))) c.push_constructors.ensures.cons)

pub returns-clause-number : goal.returns-clause-number
returns-clause-number t c =
    let first = c.in-Some.first.now in
    let l : c.len.result ≡ count_fields (parameters_of first.fields) = c.len.ensures ∙ (c.in_ok-con.ensures.count ∙ ap (λ (ts : List ParamTree). count_fields (parameters_of ts)) c.as_slice.ensures) in
    rw c.in-Some.ensures.cases.0 (on_ok_weaker c.push_constructors.result (λ h. omega (arith, h, l)) c.push_constructors.ensures.number)

pub returns-clause-told : goal.returns-clause-told
returns-clause-told t c =
    let s = c.args.store.now in
    let s1 = c.make_constructor.new.store in
    let w = where_at s c.args.world.now in
    let first = c.in-Some.first.now in
    let ks = constructors_of c.in-Some.rest.now in
    let same : where_at s1 c.args.world.now ≡ w = world_stays s s1 c.make_constructor.ensures.grows c.args.world.now c.requires.world in
    let none : params_fault w false (parameters_of first.fields) ≡ None = ap (λ (ts : List ParamTree). params_fault w false (parameters_of ts)) (sym c.as_slice.ensures) ∙ c.in_ok-con.ensures.free in
    let told = subst (λ (v : Where). Tells c.push_constructors.result (constructors_fault v ks)) same c.push_constructors.ensures.told in
    rw c.in-Some.ensures.cases.0 (of_rest c.push_constructors.result (params_fault w false (parameters_of first.fields)) (constructors_fault w ks) none told)
