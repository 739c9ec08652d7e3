use Rattle.std.proofs.Common.{◌≡◌, ℕ, Option, None, map, sym, ap, subst, ◌∙◌}
use Rattle.tasks.specs.Meaning.{symbols_at}
use Rattle.elab_groups.specs.name_resolution.Naming.{scope_at}
use Rattle.surface.specs.Lexeme.{Word}
use Rattle.surface.specs.SurfaceDeclarations.{element_of}
use Rattle.theory_states.specs.Uses.{OrMemory}
use Rattle.clones.specs.clone_elements.Left.{last_place}
use Rattle.clones.specs.clone_elements.Rights.{rights_fault}
use Rattle.clones.specs.clone_elements.Replacements.{sides_made}
use Rattle.clones.specs.clone_elements.Origins.{origin_at, place_at}
use Rattle.theories.specs.cloning.Cloned.{IsNamesFault}
use Rattle.theories.proofs.cloning.Faults.{names_fault}
use Rattle.theories.proofs.cloning.reading.read_sides.Goals as goal
use Rattle.tasks.proofs.outside.Passed.{no_ok, no_value}

pub returns-in-Ok-clause-sides : goal.returns-in-Ok-clause-sides
returns-in-Ok-clause-sides c =
    let s = c.args.store.now in
    let symbols = symbols_at s c.args.sig.now.symbols in
    let o = origin_at s c.args.source.now in
    let places : place_at c.in_ok-names.names ≡ (λ x. last_place symbols o x None o.own) = λ i x. c.in_ok-names.ensures s x i in
    c.in-Ok.ensures.sides ∙ ap (λ (f : Word → Option ℕ). sides_made f symbols (scope_at s c.args.scope.now) (map element_of c.args.elements.now)) places

pub returns-clause-err : goal.returns-clause-err
returns-clause-err c =
    let s = c.args.store.now in
    let found = rights_fault (symbols_at s c.args.sig.now.symbols) (scope_at s c.args.scope.now) (map element_of c.args.elements.now) in
    subst (OrMemory (IsNamesFault c.args.number found)) (sym c.naming.ensures) (names_fault c.args.number c.in-Err.fault found c.in-Err.ensures.err)

pub returns-in_err-names-clause-entries : goal.returns-in_err-names-clause-entries
returns-in_err-names-clause-entries c = no_ok _ _ c.from_residual.result c.from_residual.ensures.1

pub returns-in_err-names-clause-held : goal.returns-in_err-names-clause-held
returns-in_err-names-clause-held c = no_value _ _ c.from_residual.result c.from_residual.ensures.1

pub returns-in_err-names-clause-sides : goal.returns-in_err-names-clause-sides
returns-in_err-names-clause-sides c = no_value _ _ c.from_residual.result c.from_residual.ensures.1

pub returns-in_err-names-clause-free : goal.returns-in_err-names-clause-free
returns-in_err-names-clause-free c = no_ok _ _ c.from_residual.result c.from_residual.ensures.1
