use Rattle.std.proofs.Common.{◌≡◌, length, sym, ap, ◌∙◌, arith}
use Rattle.std.proofs.Math.ListN.{length-map}
use Rattle.trees.specs.Node.{tree_at}
use Rattle.tasks.specs.Meaning.{trees_at}
use Rattle.name_resolution.specs.Naming.{where_at}
use Rattle.elab_groups.specs.members.Members.{parameter_types}
use Rattle.elab_groups.specs.members.Sources.{parameters_of}
use Rattle.elab_groups.proofs.members.MembersScoped.{types_count}
use Rattle.elab_declarations.specs.type_declarations.Algebraics.{count_fields}
use Rattle.elab_declarations.proofs.type_declarations.fields.make_constructor.Goals as goal

pub returns-clause-count : goal.returns-clause-count
returns-clause-count c =
    let s1 = c.push_params.new.store in
    let w = where_at c.args.store.now c.args.world.now in
    let ps = parameters_of c.args.fields.now in
    let ids = c.push_params.new.types.items in
    let trees : trees_at s1 ids ≡ parameter_types w ps = rw c.new-types.ensures.items at c.in_ok-push_params.ensures.types in
    ap length c.from_vec.ensures ∙ (sym (length-map ids (tree_at s1)) ∙ (ap length trees ∙ types_count w ps))

pub push_numbers-requires : goal.push_numbers-requires
push_numbers-requires c =
    let s1 = c.push_params.new.store in
    let w = where_at c.args.store.now c.args.world.now in
    let ps = parameters_of c.args.fields.now in
    let ids = c.push_params.new.types.items in
    let trees : trees_at s1 ids ≡ parameter_types w ps = rw c.new-types.ensures.items at c.in_ok-push_params.ensures.types in
    let l : length c.as_slice.result.now ≡ count_fields ps = ap length c.as_slice.ensures.value ∙ (sym (length-map ids (tree_at s1)) ∙ (ap length trees ∙ types_count w ps)) in
    omega (arith, l, c.requires.fits)
