use Rattle.std.proofs.Common.{◌≡◌, ℕ, ◌+◌, ◌≤◌, ◌++◌, ◌∷◌, [], List, map, length, sym, ap, subst, ◌∙◌}
use Rattle.tasks.specs.Task.{ConstructorTree}
use Rattle.tasks.specs.Meaning.{con_at, cons_at}
use Rattle.surface.specs.SurfaceDeclarations.{constructor_of}
use Rattle.surface.specs.declared.declarations.ParamTree.{ParamTree}
use Rattle.name_resolution.specs.Naming.{where_at}
use Rattle.elab_groups.specs.parts.Declarations.{AlgebraicConstructor}
use Rattle.elab_groups.specs.members.Members.{parameter_types}
use Rattle.elab_groups.specs.members.Sources.{parameters_of}
use Rattle.elab_declarations.specs.type_declarations.Algebraics.{numbering_from, constructor_trees}
use Rattle.elab_declarations.proofs.type_declarations.Records.{record_alone}
use Rattle.elab_declarations.proofs.type_declarations.Typed.{cons_more, cons_are}
use Rattle.elab_declarations.proofs.type_declarations.fields.push_alternatives.Goals as goal

pub returns-in-len1-up-clause-typed : goal.returns-in-len1-up-clause-typed
returns-in-len1-up-clause-typed c = rw c.in_ok-push.ensures.ok (cons_more c.args.store.now c.make_constructor.new.store c.make_constructor.ensures.grows c.args.made.now c.in_ok-con.con c.requires.made c.in_ok-con.ensures.typed)

pub returns-in-len1-up-clause-cons : goal.returns-in-len1-up-clause-cons
returns-in-len1-up-clause-cons c =
    let s = c.args.store.now in
    let s1 = c.make_constructor.new.store in
    let w = where_at s c.args.world.now in
    let n = c.args.number.now in
    let of = c.args.of.now in
    let old = cons_at s c.args.made.now in
    let tree : List ParamTree → ConstructorTree = λ ps. record { symbol = n; fields = parameter_types w (parameters_of ps); projections = numbering_from (n + 1) (parameter_types w (parameters_of ps)) } in
    let one : con_at s1 c.in_ok-con.con ≡ tree of.fields = c.in_ok-con.ensures.con ∙ ap tree c.as_slice-fields.ensures in
    let more : cons_at s1 c.push.new.self ≡ old ++ tree of.fields ∷ [] =
    ap (cons_at s1) c.in_ok-push.ensures.ok ∙ (cons_are s s1 c.make_constructor.ensures.grows c.args.made.now c.in_ok-con.con c.requires.made ∙ ap (λ (x : ConstructorTree). old ++ x ∷ []) one) in
    more ∙ ap (λ (ks : List AlgebraicConstructor). old ++ constructor_trees w n ks) (sym (record_alone of.name.text (map constructor_of of.cons) of.fields (subst (λ (ps : List ParamTree). 1 ≤ length ps) c.as_slice-fields.ensures c.in-len1-up.len_at_least)))
