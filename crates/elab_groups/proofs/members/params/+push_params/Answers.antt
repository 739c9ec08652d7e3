use Rattle.std.proofs.Common.{◌≡◌, ◌++◌, List, map, length, ap, ◌∙◌, arith, append_assoc}
use Rattle.std.proofs.lemmas.Result.{on_ok_weaker}
use Rattle.trees.specs.Tree.{Tree}
use Rattle.tasks.specs.Meaning.{trees_at}
use Rattle.name_resolution.specs.Abstract.{type_expression_of}
use Rattle.name_resolution.specs.Naming.{where_at}
use Rattle.name_resolution.specs.Where.{Where}
use Rattle.open_types.specs.Pieces.{type_at}
use Rattle.open_types.proofs.Growing.{types_grow, types_stay, world_stays, world_grows}
use Rattle.elab_groups.specs.parts.Declarations.{word}
use Rattle.elab_groups.specs.members.Members.{parameter_types, type_copies}
use Rattle.elab_groups.specs.members.Sources.{parameters_of}
use Rattle.elab_groups.proofs.members.params.+push_params.Goals as goal

pub push_params-requires : goal.push_params-requires
push_params-requires t c =
    let s = c.args.store.now in
    let s1 = c.type_of_form.new.store in
    let g = c.type_of_form.ensures.grows in
    (omega (arith, ap length c.in-Some.ensures.cases.0), (world_grows s s1 g c.args.world.now c.requires.world, c.in_ok-push_copies.ensures.held s1 c.in_ok-ty.ensures.held (types_grow s s1 g c.args.types.now.items c.requires.held)))

pub returns-clause-types : goal.returns-clause-types
returns-clause-types t c =
    let s = c.args.store.now in
    let s1 = c.type_of_form.new.store in
    let g = c.type_of_form.ensures.grows in
    let w = where_at s c.args.world.now in
    let old = trees_at s c.args.types.now.items in
    let first = c.in-Some.first.now in
    let rest = parameters_of c.in-Some.rest.now in
    let here = type_copies (type_at w (type_expression_of first.ty)) (map word first.names) in
    let more : trees_at s1 c.push_copies.new.types.items ≡ old ++ here = rw (c.as_slice.ensures, types_stay s s1 g c.args.types.now.items c.requires.held, c.in_ok-ty.ensures.tree) at (c.in_ok-push_copies.ensures.trees s1) in
    let same : where_at s1 c.args.world.now ≡ w = world_stays s s1 g c.args.world.now c.requires.world in
    rw c.in-Some.ensures.cases.0 (on_ok_weaker c.push_params.result (λ h. h ∙ (ap (λ (v : Where). trees_at s1 c.push_copies.new.types.items ++ parameter_types v rest) same ∙ (ap (λ (ts : List Tree). ts ++ parameter_types w rest) more ∙ append_assoc old here (parameter_types w rest)))) c.push_params.ensures.types)
