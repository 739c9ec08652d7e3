use Rattle.std.proofs.Common.{◌≡◌, ◌+◌, true, None, [], length, map, ap, subst, arith}
use Rattle.tasks.specs.trees.declared.Sort.TheVariants.{Formula}
use Rattle.tasks.specs.trees.Binding.{inst_types}
use Rattle.tasks.specs.trees.Facts.{TyVarsBelow}
use Rattle.tasks.specs.trees.Node.{tree_at}
use Rattle.name_resolution.specs.Abstract.{expression_of}
use Rattle.name_resolution.specs.Naming.{where_at}
use Rattle.open_types.specs.Patterns.{Notes, taken}
use Rattle.open_types.specs.Pieces.{NotedTree, piece}
use Rattle.open_types.specs.Drafts.{IsWalked, match_at, notes_at}
use Rattle.open_types.proofs.Bounded.{bounded}
use Rattle.tasks.specs.Meaning.{trees_at}
use Rattle.elab_groups.specs.parts.Elaborated.{IsTypingFault}
use Rattle.elab_groups.specs.parts.Values.{AreSolvedTypes, notes_after, match_instance}
use Rattle.elab_groups.proofs.parts.MatchesBelow.{MatchesBelow, matches_bounded}
use Rattle.elab_groups.proofs.parts.Solving.{begun_after, begun_ready, formula_solved, if_err}
use Rattle.elab_groups.proofs.parts.solution.solve_formula.Goals as goal
use Rattle.open_types.proofs.Forming.{hold_types}

pub walk-requires : goal.walk-requires
walk-requires c = record {
  set = record { world = c.requires.world; locals = tt; ready = begun_ready c.args.store.now c.in_ok-draft.draft c.in_ok-draft.ensures.equations c.in_ok-draft.ensures.matches };
  wanted = tt;
  resolved = c.requires.resolved;
}

pub returns-in_err-types-clause-err : goal.returns-in_err-types-clause-err
returns-in_err-types-clause-err c =
    let r = length c.args.world.now.vars.now in
    let p : NotedTree = piece (where_at c.args.store.now c.args.world.now) [] r None (expression_of c.args.e.now) in
    let a : IsWalked p Formula c.args.store.now c.in_ok-draft.draft c.walk.new.store c.walk.new.draft c.in_ok-tree.tree = rw c.in_ok-draft.ensures.takers at c.in_ok-tree.ensures.walked in
    let e : notes_after r (notes_at c.walk.new.store c.walk.new.draft) ≡ p.notes = begun_after r c.in_ok-draft.ensures.equations c.in_ok-draft.ensures.takers c.in_ok-draft.ensures.matches a.noted in
    let k = rw e at c.in_err-types.ensures.err in
    if_err c.from_residual-in_err-types.result _ (IsTypingFault r p.notes) c.from_residual-in_err-types.ensures.1 (λ f h. rw h k)

pub inst_types-requires-clause-types : goal.inst_types-requires-clause-types
inst_types-requires-clause-types c = rw c.as_slice.ensures.value (hold_types c.solve_draft.new.store c.in_ok-types.types.items c.in_ok-types.ensures.ok.held)

pub returns-clause-ok : goal.returns-clause-ok
returns-clause-ok c =
    let r = length c.args.world.now.vars.now in
    let w = where_at c.args.store.now c.args.world.now in
    let p : NotedTree = piece w [] r None (expression_of c.args.e.now) in
    let s1 = c.walk.new.store in
    let s2 = c.solve_draft.new.store in
    let s3 = c.inst_types.new.g in
    let s4 = c.put_matches.new.store in
    let types = c.in_ok-types.types.items in
    let a : IsWalked p Formula c.args.store.now c.in_ok-draft.draft s1 c.walk.new.draft c.in_ok-tree.tree = rw c.in_ok-draft.ensures.takers at c.in_ok-tree.ensures.walked in
    let e : notes_after r (notes_at s1 c.walk.new.draft) ≡ p.notes = begun_after r c.in_ok-draft.ensures.equations c.in_ok-draft.ensures.takers c.in_ok-draft.ensures.matches a.noted in
    let t : AreSolvedTypes s2 r p.notes types = subst (λ (ns : Notes). AreSolvedTypes s2 r ns types) e c.in_ok-types.ensures.ok in
    let below : TyVarsBelow (r + taken p.notes) p.tree = bounded w c.requires.scoped (expression_of c.args.e.now) [] r None [] true tt tt (omega arith) c.requires.resolved in
    let within : MatchesBelow (r + taken p.notes) p.notes.matches = matches_bounded w c.requires.scoped (expression_of c.args.e.now) [] r None in
    let ms : map (match_at s1) c.walk.new.draft.matches ≡ p.notes.matches = ap (λ (ns : Notes). ns.matches) e in
    let id : tree_at s3 c.in_ok-tree-2.tree ≡ inst_types (tree_at s2 c.in_ok-tree.tree) (trees_at s2 types) = rw c.as_slice.ensures.value at c.in_ok-tree-2.ensures.tree in
    let out : map (match_at s4) c.put_matches.new.them.items ≡ map (match_instance (trees_at s3 types)) (map (match_at s3) c.walk.new.draft.matches) = rw (c.new-matches.ensures.items, c.as_slice-2.ensures, c.as_slice-3.ensures.value) at c.in_ok-put_matches.ensures.patterns in
    rw c.from_vec.ensures (formula_solved s1 s2 s3 s4 c.solve_draft.ensures.grows c.in_ok-tree-2.ensures.grows c.in_ok-put_matches.ensures.grows r p types t c.in_ok-tree.tree c.in_ok-tree-2.tree a.held a.tree below within c.in_ok-tree-2.ensures.held id
    c.walk.new.draft.matches c.put_matches.new.them.items a.noted.ready.matches ms out)
