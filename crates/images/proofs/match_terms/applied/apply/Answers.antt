use Rattle.std.proofs.Common.{◌≡◌, List, Some, sym, ap, subst, ◌∙◌, arith}
use Rattle.trees.specs.Tree.{Tree}
use Rattle.trees.specs.Node.{tree_at, Holds, Grows}
use Rattle.trees.specs.Sorts.{sort_of}
use Rattle.tasks.specs.Task.{symbol_or}
use Rattle.tasks.specs.Looking.{LookupHeld}
use Rattle.images.specs.PatternTerms.{HasClosedResult}
use Rattle.tasks.proofs.outside.Passed.{no_value}
use Rattle.images.specs.match_terms.Asking.{task_under}
use Rattle.images.proofs.match_terms.Growing.{result_kind, applied_fits, applied_is}
use Rattle.images.proofs.match_terms.applied.apply.Goals as goal

pub result_of-result-requires-clause-look : goal.result_of-result-requires-clause-look
result_of-result-requires-clause-look g c = subst (λ (z : List Tree). LookupHeld z c.args.at.look) (sym c.store.ensures) c.requires.at.look

pub result_of-result-requires-clause-result : goal.result_of-result-requires-clause-result
result_of-result-requires-clause-result g c = subst (λ (z : List Tree). HasClosedResult (task_under z c.args.at.look) c.args.function) (sym c.store.ensures) c.requires.result

pub inst_types-requires-clause-e_held : goal.inst_types-requires-clause-e_held
inst_types-requires-clause-e_held g c = subst (λ (z : List Tree). Holds z c.result_of-result.result) c.store.ensures c.result_of-result.ensures.held

pub inst_types-requires-clause-types : goal.inst_types-requires-clause-types
inst_types-requires-clause-types g c = c.requires.at.each

pub returns-in_err-ty-clause-term : goal.returns-in_err-ty-clause-term
returns-in_err-ty-clause-term g c = no_value _ _ c.from_residual.result c.from_residual.ensures.1

pub returns-in_err-ty-clause-tree : goal.returns-in_err-ty-clause-tree
returns-in_err-ty-clause-tree g c = no_value _ _ c.from_residual.result c.from_residual.ensures.1

pub returns-in_err-ty-clause-grows : goal.returns-in_err-ty-clause-grows
returns-in_err-ty-clause-grows g c = c.in_err-ty.ensures.grows

pub add-requires-clause-held : goal.add-requires-clause-held
add-requires-clause-held g c =
    let s = g.G.Grow.trees c.args.g.now in
    let s1 = g.G.Grow.trees c.inst_types.new.g in
    let k : Grows s s1 = g.met.G.Grow.keeps_trees _ _ c.in_ok-ty.ensures.grows in
    let types : Holds s1 c.args.at.types = omega (arith, c.requires.at.types, k.longer) in
    let args : Holds s1 c.args.args = omega (arith, c.requires.args_held, k.longer) in
    (types, args, c.in_ok-ty.ensures.held)

pub add-requires-clause-fits : goal.add-requires-clause-fits
add-requires-clause-fits g c =
    let s = g.G.Grow.trees c.args.g.now in
    let s1 = g.G.Grow.trees c.inst_types.new.g in
    let k : Grows s s1 = g.met.G.Grow.keeps_trees _ _ c.in_ok-ty.ensures.grows in
    let r = c.result_of-result.result in
    let is = subst (λ (z : List Tree). (symbol_or (task_under z c.args.at.look).symbols c.args.function).result ≡ Some (tree_at z r)) c.store.ensures c.result_of-result.ensures.is in
    applied_fits c.args.function s s1 k c.args.at.types c.args.args (tree_at s1 c.in_ok-ty.ty) c.requires.at.types c.requires.at.kinds c.requires.args_held c.requires.args
    (c.in_ok-ty.ensures.sort ∙ result_kind (task_under s c.args.at.look) c.args.function (tree_at s r) c.requires.result is)

pub returns-in_err-made-clause-term : goal.returns-in_err-made-clause-term
returns-in_err-made-clause-term g c = no_value _ _ c.from_residual-in_err-made.result c.from_residual-in_err-made.ensures.1

pub returns-in_err-made-clause-tree : goal.returns-in_err-made-clause-tree
returns-in_err-made-clause-tree g c = no_value _ _ c.from_residual-in_err-made.result c.from_residual-in_err-made.ensures.1

pub returns-in_err-made-clause-grows : goal.returns-in_err-made-clause-grows
returns-in_err-made-clause-grows g c = g.met.G.Grow.grows_trans _ _ _ c.in_ok-ty.ensures.grows c.in_err-made.ensures.grows

pub returns-clause-term : goal.returns-clause-term
returns-clause-term g c = (c.in_ok-made.ensures.held, ap sort_of c.in_ok-made.ensures.tree)

pub returns-clause-tree : goal.returns-clause-tree
returns-clause-tree g c =
    let s = g.G.Grow.trees c.args.g.now in
    let s1 = g.G.Grow.trees c.inst_types.new.g in
    let k : Grows s s1 = g.met.G.Grow.keeps_trees _ _ c.in_ok-ty.ensures.grows in
    let r = c.result_of-result.result in
    let is = subst (λ (z : List Tree). (symbol_or (task_under z c.args.at.look).symbols c.args.function).result ≡ Some (tree_at z r)) c.store.ensures c.result_of-result.ensures.is in
    applied_is (task_under s c.args.at.look) c.args.function s s1 k c.args.at c.args.args (tree_at (g.G.Grow.trees c.add.new.self) c.in_ok-made.made) (tree_at s r) (tree_at s1 c.in_ok-ty.ty) c.requires.at c.requires.result c.requires.args_held c.in_ok-made.ensures.tree c.in_ok-ty.ensures.tree is

pub returns-clause-grows : goal.returns-clause-grows
returns-clause-grows g c = g.met.G.Grow.grows_trans _ _ _ c.in_ok-ty.ensures.grows c.in_ok-made.ensures.grows
