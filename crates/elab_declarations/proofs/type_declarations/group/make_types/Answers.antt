use Rattle.std.proofs.Common.{◌≡◌, [], sym, subst}
use Rattle.tasks.specs.Meaning.{symbols_at, algebraics_at}
use Rattle.name_resolution.specs.Naming.{scope_at}
use Rattle.elab_groups.specs.parts.Outcomes.{over}
use Rattle.elab_declarations.specs.type_declarations.Algebraics.{algebraics_of, algebraic_trees}
use Rattle.elab_declarations.specs.type_declarations.Held.{AreWithin}
use Rattle.elab_declarations.proofs.type_declarations.Placed.{placed_scoped}
use Rattle.elab_declarations.proofs.type_declarations.Typed.{types_within}
use Rattle.elab_declarations.proofs.type_declarations.group.make_types.Goals as goal

pub returns-clause-within : goal.returns-clause-within
returns-clause-within c =
    let s = c.args.store.now in
    let is = c.args.sig.now.symbols in
    let names = c.args.scope.now in
    let ts = algebraics_of c.args.types.now in
    let w = over (symbols_at s is) (scope_at s names) [] in
    let trees : algebraics_at c.push_types.new.store c.push_types.new.made ≡ algebraic_trees w c.args.symbol c.args.number ts = rw c.new-made.ensures at c.in_ok-push_types.ensures.types in
    subst (AreWithin ts) (sym trees) (types_within w (placed_scoped s c.requires.scopes.0 names c.requires.scopes.1 is [] c.requires.signature) c.args.symbol c.args.number ts c.in_ok-push_types.ensures.told)
