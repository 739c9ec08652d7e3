use Rattle.std.proofs.Common.{◌≡◌, length, option_map, refl, ◌∙◌}
use Rattle.trees.specs.Node.{tree_at}
use Rattle.trees.proofs.Nodes.{Grows_trans}
use Rattle.std.specs.Option.{option_copied}
use Rattle.open_types.specs.Drafts.{symbol_got}
use Rattle.open_types.specs.Patterns.{at_unknowns, result_or_int}
use Rattle.open_types.proofs.Growing.{type_stays, wanted_grows, wanted_stays}
use Rattle.open_types.proofs.Using.{begun_use}
use Rattle.open_types.proofs.uses.begin_use.Goals as goal

pub equate-requires-clause-wanted : goal.equate-requires-clause-wanted
equate-requires-clause-wanted c = wanted_grows _ _ (Grows_trans _ _ _ c.unknowns.ensures.grows c.put_types.ensures.grows) c.args.wanted c.requires.wanted

pub returns-clause-begun : goal.returns-clause-begun
returns-clause-begun c =
    let g = Grows_trans _ _ _ c.unknowns.ensures.grows c.put_types.ensures.grows in
    let e = symbol_got c.args.store.now (option_copied c.args.info) in
    let taken = rw (c.entry_vars.ensures c.args.store.now) at c.in_ok-types.ensures.taken in
    let r : tree_at c.unknowns.new.store c.result_type-result.result ≡ result_or_int e.result = type_stays _ _ c.unknowns.ensures.grows c.result_type-result.result c.result_type-result.ensures.held ∙ c.result_type-result.ensures.tree in
    let h : tree_at c.put_types.new.store c.in_ok-ty.ty ≡ at_unknowns (length c.args.draft.now.takers) e (result_or_int e.result) = rw (c.in_ok-ty.ensures.tree, c.as_slice.ensures.value, taken.trees) (rw r refl) in
    begun_use e c.in_ok-ty.ty (option_map (tree_at c.args.store.now) c.args.wanted) (option_map (tree_at c.put_types.new.store) c.args.wanted) taken c.put_types.ensures.grows c.in_ok-equate.ensures.noted h (wanted_stays _ _ g c.args.wanted c.requires.wanted)
