use Rattle.std.proofs.Common.{◌≡◌, Some, None, option_map, refl, sym, ap, ◌∙◌}
use Rattle.trees.specs.Node.{tree_at}
use Rattle.tasks.specs.Meaning.{trees_at}
use Rattle.name_resolution.specs.Abstract.{type_expression_of}
use Rattle.name_resolution.specs.Naming.{where_at}
use Rattle.name_resolution.specs.Where.{Where}
use Rattle.name_resolution.specs.variables.Seen.{SeenTree}
use Rattle.open_types.specs.Pieces.{type_at}
use Rattle.open_types.proofs.Growing.{types_stay, world_stays, world_grows}
use Rattle.elab_groups.specs.parts.Declarations.{own_variables, with_vars}
use Rattle.elab_groups.specs.members.Members.{parameter_types}
use Rattle.elab_groups.specs.members.Sources.{member_at}
use Rattle.elab_groups.proofs.members.SignaturesHeld.{signed_same}
use Rattle.elab_groups.proofs.members.signing.sign.Goals.{in-Some+in_ok-type_of_form-in-Some, in-None}
use Rattle.elab_groups.proofs.members.signing.sign.Goals as goal

pub push_params-requires-clause-world : goal.push_params-requires-clause-world
push_params-requires-clause-world c = c.over_vars-own.ensures.held c.args.store.now c.requires

pub type_of_form-requires : goal.type_of_form-requires
type_of_form-requires c = world_grows c.args.store.now c.push_params.new.store c.push_params.ensures.grows c.over_vars-own.result (c.over_vars-own.ensures.held c.args.store.now c.requires)

pub returns-clause-signed : goal.returns-clause-signed
returns-clause-signed c =
    let s = c.args.store.now in
    let s1 = c.push_params.new.store in
    let m = member_at c.args.m.now in
    let w = where_at s c.args.world.now in
    let own = c.over_vars-own.result in
    let v = with_vars w (own_variables m) in
    let ids = c.push_params.new.types.items in
    let vars : c.in_ok-vars.field-0.vars ≡ own_variables m = ap (λ (x : SeenTree). x.vars) c.in_ok-vars.ensures in
    let is : where_at s own ≡ v = c.over_vars-own.ensures.names s ∙ ap (with_vars w) (c.as_slice.ensures ∙ vars) in
    let later : where_at s1 own ≡ v = world_stays s s1 c.push_params.ensures.grows own (c.over_vars-own.ensures.held s c.requires) ∙ is in
    let args : trees_at s1 ids ≡ parameter_types v m.params = rw (c.new-args.ensures.items, is) at c.in_ok-push_params.ensures.types in
    elim c.match-m.branch [
      | in-Some+in_ok-type_of_form-in-Some b ↦
          let s2 = b.type_of_form.new.store in
          let one = b.in_ok-type_of_form-in-Some.ensures in
          let further : trees_at s2 ids ≡ parameter_types v m.params = types_stay s1 s2 one.grows ids c.in_ok-push_params.ensures.held ∙ args in
          let e : m.result ≡ Some (type_expression_of b.in-Some.ty.now) = rw b.in-Some.is refl in
          let tree : option_map (tree_at s2) c.match-m.result ≡ Some (type_at v (type_expression_of b.in-Some.ty.now)) = rw b.result-is (ap Some (one.tree ∙ ap (λ (x : Where). type_at x (type_expression_of b.in-Some.ty.now)) later)) in
          let r : option_map (tree_at s2) c.match-m.result ≡ option_map (type_at v) m.result = tree ∙ sym (ap (option_map (type_at v)) e) in
          rw (b.store-is, c.from_vec.ensures) (signed_same w m s2 c.in_ok-vars.field-0.vars ids c.match-m.result vars further r)
      | in-None b ↦
          let e : m.result ≡ None = rw b.in-None.is refl in
          let none : option_map (tree_at s1) c.match-m.result ≡ None = rw b.result-is refl in
          let r : option_map (tree_at s1) c.match-m.result ≡ option_map (type_at v) m.result = none ∙ sym (ap (option_map (type_at v)) e) in
          rw (b.store-is, c.from_vec.ensures) (signed_same w m s1 c.in_ok-vars.field-0.vars ids c.match-m.result vars args r)
    ]
