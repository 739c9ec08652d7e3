use Rattle.std.proofs.Common.{◌≡◌, ◌++◌, [], List, true, false, length, ap, ◌∙◌}
use Rattle.std.proofs.lemmas.Result.{IfOk-weaker, IfErr-weaker}
use Rattle.tasks.specs.Task.{SymbolTree}
use Rattle.tasks.specs.Meaning.{symbols_at}
use Rattle.name_resolution.specs.Abstract.{expression_of}
use Rattle.name_resolution.specs.Faults.{fault}
use Rattle.name_resolution.specs.Naming.{where_at, scope_at}
use Rattle.name_resolution.specs.Where.{Where}
use Rattle.elab_groups.specs.parts.Entries.{wanting_tuples, IsExtended}
use Rattle.elab_groups.specs.parts.Outcomes.{over}
use Rattle.elab_groups.proofs.parts.Entering.{extended_grows}
use Rattle.elab_groups.proofs.parts.Tupled.{over_extended, formula_resolved}
use Rattle.elab_declarations.proofs.Over.{solved_over, fault_over}
use Rattle.elab_declarations.proofs.propositions.solve_proposition.Goals as goal
use Rattle.tasks.proofs.plain_laws.Results.{ok_any as always}

pub solve_formula-requires-clause-resolved : goal.solve_formula-requires-clause-resolved
solve_formula-requires-clause-resolved c =
    let s = c.args.store.now in
    let s1 = c.push_tuples.new.store in
    let g = c.args.sig.now in
    let g1 = c.push_tuples.new.sig in
    let names = c.args.scope.now in
    let e = expression_of c.args.e.now in
    let vars = c.args.seen.now.vars in
    let more : List SymbolTree = wanting_tuples (symbols_at s g.symbols) c.args.seen.now.widths in
    let ext : IsExtended s g s1 g1 more = rw c.as_slice.ensures at c.in_ok-push_tuples.ensures.entries in
    let is : where_at s1 c.world_over-world.result ≡ over (symbols_at s g.symbols ++ more) (scope_at s names) vars = c.world_over-world.ensures.names s1 ∙ (ap (over (symbols_at s1 g1.symbols) (scope_at s1 names)) c.as_slice-2.ensures ∙ over_extended s s1 c.push_tuples.ensures.grows g g1 more names c.requires.signature c.requires.scopes ext vars) in
    ap (λ (v : Where). fault v false [] true e) (is ∙ ap (λ sn. over (symbols_at s g.symbols ++ more) (scope_at s names) sn.vars) c.requires.seen)
    ∙ formula_resolved s s1 c.push_tuples.ensures.grows g g1 more names c.requires.signature c.requires.scopes ext e c.requires.resolved

pub returns-clause-entries : goal.returns-clause-entries
returns-clause-entries c =
    let s = c.args.store.now in
    let g = c.args.sig.now in
    let more : List SymbolTree = wanting_tuples (symbols_at s g.symbols) c.args.seen.now.widths in
    let ext : IsExtended s g c.push_tuples.new.store c.push_tuples.new.sig more = rw c.as_slice.ensures at c.in_ok-push_tuples.ensures.entries in
    always c.solve_formula.result (extended_grows more c.solve_formula.ensures.grows ext)

pub returns-clause-ok : goal.returns-clause-ok
returns-clause-ok c =
    let s = c.args.store.now in
    let s1 = c.push_tuples.new.store in
    let g = c.args.sig.now in
    let g1 = c.push_tuples.new.sig in
    let names = c.args.scope.now in
    let vars = c.args.seen.now.vars in
    let more : List SymbolTree = wanting_tuples (symbols_at s g.symbols) c.args.seen.now.widths in
    let ext : IsExtended s g s1 g1 more = rw c.as_slice.ensures at c.in_ok-push_tuples.ensures.entries in
    let world = c.world_over-world.result in
    let is : where_at s1 world ≡ over (symbols_at s g.symbols ++ more) (scope_at s names) vars = c.world_over-world.ensures.names s1 ∙ (ap (over (symbols_at s1 g1.symbols) (scope_at s1 names)) c.as_slice-2.ensures ∙ over_extended s s1 c.push_tuples.ensures.grows g g1 more names c.requires.signature c.requires.scopes ext vars) in
    let n : length world.vars.now ≡ length vars = ap length (c.world_over-world.ensures.vars ∙ c.as_slice-2.ensures) in
    IfOk-weaker c.solve_formula.result _ _ (λ it h. solved_over (where_at s1 world) (over (symbols_at s g.symbols ++ more) (scope_at s names) vars) (length world.vars.now) (length vars) (expression_of c.args.e.now) _ _ is n h) c.solve_formula.ensures.ok

pub returns-clause-err : goal.returns-clause-err
returns-clause-err c =
    let s = c.args.store.now in
    let s1 = c.push_tuples.new.store in
    let g = c.args.sig.now in
    let g1 = c.push_tuples.new.sig in
    let names = c.args.scope.now in
    let vars = c.args.seen.now.vars in
    let more : List SymbolTree = wanting_tuples (symbols_at s g.symbols) c.args.seen.now.widths in
    let ext : IsExtended s g s1 g1 more = rw c.as_slice.ensures at c.in_ok-push_tuples.ensures.entries in
    let world = c.world_over-world.result in
    let is : where_at s1 world ≡ over (symbols_at s g.symbols ++ more) (scope_at s names) vars = c.world_over-world.ensures.names s1 ∙ (ap (over (symbols_at s1 g1.symbols) (scope_at s1 names)) c.as_slice-2.ensures ∙ over_extended s s1 c.push_tuples.ensures.grows g g1 more names c.requires.signature c.requires.scopes ext vars) in
    let n : length world.vars.now ≡ length vars = ap length (c.world_over-world.ensures.vars ∙ c.as_slice-2.ensures) in
    IfErr-weaker c.solve_formula.result _ _ (λ f h. fault_over (where_at s1 world) (over (symbols_at s g.symbols ++ more) (scope_at s names) vars) (length world.vars.now) (length vars) (expression_of c.args.e.now) f is n h) c.solve_formula.ensures.err
