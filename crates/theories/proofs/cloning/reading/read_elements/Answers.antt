use Rattle.std.proofs.Common.{◌≡◌, List, map, get_or, ap, ◌∙◌}
use Rattle.std.proofs.lemmas.Result.{MatchResult-weaker}
use Rattle.tasks.specs.Task.{DeclarationTree}
use Rattle.tasks.specs.Meaning.{symbols_at}
use Rattle.elab_groups.specs.name_resolution.Naming.{scope_at}
use Rattle.tasks.proofs.Growth.{decl_held_later, declarations_later}
use Rattle.surface.specs.SurfaceDeclarations.{element_of}
use Rattle.clones.proofs.Steps.{ok_any}
use Rattle.elab_groups.proofs.parts.Entering.{extended_grows}
use Rattle.clones.specs.clone_elements.Left.{Origin}
use Rattle.clones.specs.clone_elements.Rights.{rights_tuples}
use Rattle.clones.specs.clone_elements.Origins.{origin_at}
use Rattle.clones.specs.clone_elements.Meaning.{sides_at}
use Rattle.theories.proofs.cloning.Faults.{or_weaker}
use Rattle.theories.proofs.cloning.Told.{is_read, is_read_fault}
use Rattle.theories.proofs.cloning.reading.read_elements.Goals as goal
use Rattle.tasks.proofs.plain_laws.Results.{if_ok_both as ok_both}
use Rattle.tasks.proofs.outside.Passed.{no_ok, no_value}

pub replacement_of-requires-clause-decls : goal.replacement_of-requires-clause-decls
replacement_of-requires-clause-decls c = λ k d l. decl_held_later c.args.store.now c.read_sides.new.store c.read_sides.ensures.grows (get_or c.args.source.now.decls.now k d) (c.requires.decls k d l)

pub returns-clause-entries : goal.returns-clause-entries
returns-clause-entries c = ok_any c.replacement_of.result (extended_grows (rights_tuples (symbols_at c.args.store.now c.args.sig.now.symbols) (map element_of c.args.elements.now)) c.replacement_of.ensures.grows c.in_ok-sides.ensures.entries)

pub returns-clause-read : goal.returns-clause-read
returns-clause-read c =
    let s = c.args.store.now in
    let s1 = c.read_sides.new.store in
    let source = c.args.source.now in
    let o = origin_at s source in
    let here : origin_at s1 source ≡ o = ap (λ (ds : List DeclarationTree). let it : Origin = record { decls = ds; own = source.own.now; axioms = o.axioms } in it) (declarations_later s s1 c.read_sides.ensures.grows source.decls.now c.requires.decls) in
    let told = is_read (symbols_at s c.args.sig.now.symbols) (scope_at s c.args.scope.now) o (map element_of c.args.elements.now) c.in_ok-sides.ensures.free
    _ _ _ c.in_ok-sides.ensures.entries.symbols here (ap (sides_at s1) c.as_slice.ensures.value ∙ c.in_ok-sides.ensures.sides) c.replacement_of.new.store in
    ok_both c.replacement_of.result _ _ _ (λ replacement right is. told replacement right is) c.replacement_of.ensures.right c.replacement_of.ensures.replacement

pub returns-clause-err : goal.returns-clause-err
returns-clause-err c =
    let s = c.args.store.now in
    let s1 = c.read_sides.new.store in
    let source = c.args.source.now in
    let o = origin_at s source in
    let here : origin_at s1 source ≡ o = ap (λ (ds : List DeclarationTree). let it : Origin = record { decls = ds; own = source.own.now; axioms = o.axioms } in it) (declarations_later s s1 c.read_sides.ensures.grows source.decls.now c.requires.decls) in
    let told = is_read_fault (symbols_at s c.args.sig.now.symbols) (scope_at s c.args.scope.now) o (map element_of c.args.elements.now) c.in_ok-sides.ensures.free
    _ _ _ c.in_ok-sides.ensures.entries.symbols here (ap (sides_at s1) c.as_slice.ensures.value ∙ c.in_ok-sides.ensures.sides) c.args.number in
    MatchResult-weaker c.replacement_of.result c.replacement_of.ensures.err (λ x h. h) (or_weaker _ _ told)

pub returns-in_err-sides-clause-entries : goal.returns-in_err-sides-clause-entries
returns-in_err-sides-clause-entries c = no_ok _ _ c.from_residual.result c.from_residual.ensures.1

pub returns-in_err-sides-clause-read : goal.returns-in_err-sides-clause-read
returns-in_err-sides-clause-read c = no_value _ _ c.from_residual.result c.from_residual.ensures.1
