use Rattle.std.proofs.Common.{◌≡◌, ◌++◌, [], List, suc, map, length, sym, ap, ◌∙◌, arith, append-nil}
use Rattle.std.proofs.lemmas.Result.{on_ok_weaker}
use Rattle.tasks.specs.trees.Tree.{Tree}
use Rattle.tasks.specs.trees.Node.{tree_at}
use Rattle.tasks.specs.Task.{DefinitionTree}
use Rattle.tasks.specs.Meaning.{trees_at, definition_at}
use Rattle.tasks.specs.Equations.{for_all}
use Rattle.open_types.proofs.Noting.{no_elements}
use Rattle.elab_groups.proofs.parts.Putting.{all_first, all_rest}
use Rattle.elab_groups.specs.members.Sources.{signed_at, SignedHeld}
use Rattle.elab_groups.proofs.members.SignaturesHeld.{all_signed_grow}
use Rattle.elab_groups.specs.Groups.{inner_equation, definitions}
use Rattle.elab_groups.proofs.Defining.{first_body, other_bodies, bodies_stay, defs_more, defined_step, definitions_none}
use Rattle.elab_groups.proofs.equations.+push_definitions.Goals as goal

pub equation-requires-clause-signed : goal.equation-requires-clause-signed
equation-requires-clause-signed t c = all_first (SignedHeld c.args.store.now) c.args.signed.now c.in-Some.first.now c.in-Some.rest.now c.in-Some.ensures.cases.0 c.requires.signed

pub equation-requires-clause-body : goal.equation-requires-clause-body
equation-requires-clause-body t c =
    let both = rw (c.in-Some.ensures.cases.0, c.in-Some-split_first.ensures.cases.0) at c.requires.bodies in
    first_body c.args.store.now c.in-Some.first.now c.in-Some.rest.now c.in-Some-split_first.body.now c.in-Some-split_first.others.now both

pub push_definitions-requires : goal.push_definitions-requires
push_definitions-requires t c =
    let s = c.args.store.now in
    let s1 = c.equation.new.store in
    let g = c.equation.ensures.grows in
    let its = c.in-Some.rest.now in
    let ids = c.in-Some-split_first.others.now in
    let both = rw (c.in-Some.ensures.cases.0, c.in-Some-split_first.ensures.cases.0) at c.requires.bodies in
    let rest = all_rest (SignedHeld s) c.args.signed.now c.in-Some.first.now its c.in-Some.ensures.cases.0 c.requires.signed in (
      omega (arith, ap length c.in-Some.ensures.cases.0),
      (
        rw c.in_ok-push.ensures.ok (defs_more s s1 g c.args.defs.now _ c.requires.held c.in_ok-equation.ensures.held),
        (all_signed_grow s s1 g its rest, bodies_stay s s1 g its ids (other_bodies s c.in-Some.first.now its c.in-Some-split_first.body.now ids both)),
      ),
    )

pub returns-in_default-split_first-clause-defined : goal.returns-in_default-split_first-clause-defined
returns-in_default-split_first-clause-defined t c =
    let s = c.args.store.now in
    let old = map (definition_at s) c.args.defs.now in
    let gs = map (signed_at s) c.args.signed.now in
    let e : trees_at s c.args.bodies.now ≡ [] = ap (trees_at s) (no_elements c.args.bodies.now c.in_default-split_first.ensures.cases) in
    sym (ap (λ (bs : List Tree). old ++ definitions c.args.number gs bs) e ∙ (ap (λ (ds : List DefinitionTree). old ++ ds) (definitions_none c.args.number gs) ∙ append-nil old))

pub returns-in-Some-checked_add-clause-defined : goal.returns-in-Some-checked_add-clause-defined
returns-in-Some-checked_add-clause-defined t c =
    let s = c.args.store.now in
    let s1 = c.equation.new.store in
    let g = c.equation.ensures.grows in
    let first = c.in-Some.first.now in
    let its = c.in-Some.rest.now in
    let ids = c.in-Some-split_first.others.now in
    let both = rw (c.in-Some.ensures.cases.0, c.in-Some-split_first.ensures.cases.0) at c.requires.bodies in
    let rest = all_rest (SignedHeld s) c.args.signed.now first its c.in-Some.ensures.cases.0 c.requires.signed in
    let bodies = other_bodies s first its c.in-Some-split_first.body.now ids both in
    let one : DefinitionTree = record { symbol = c.args.number; equation = for_all (signed_at s first).args (inner_equation c.args.number (signed_at s first) (signed_at s first).result (tree_at s c.in-Some-split_first.body.now)) } in
    let is : ◌≡◌ {A = DefinitionTree} (record { symbol = c.args.number; equation = tree_at s1 c.in_ok-equation.equation }) one = ap (λ (x : Tree). record { symbol = c.args.number; equation = x }) c.in_ok-equation.ensures.tree in
    let n : c.in-Some-checked_add.next ≡ suc c.args.number = omega (arith, c.in-Some-checked_add.ensures) in
    rw (c.in-Some.ensures.cases.0, c.in-Some-split_first.ensures.cases.0) (on_ok_weaker c.push_definitions.result
    (λ h. defined_step s s1 c.push_definitions.new.store g c.args.defs.now c.push_definitions.new.defs (record { symbol = c.args.number; equation = c.in_ok-equation.equation }) its ids (suc c.args.number) one c.requires.held rest bodies.held is h)
    (rw (c.in_ok-push.ensures.ok, n) at c.push_definitions.ensures.defined))
