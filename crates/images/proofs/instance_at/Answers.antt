use Rattle.std.proofs.Common.{◌≡◌, subst, sym, ap, ◌∙◌}
use Rattle.trees.specs.declared.TermId.{TermId}
use Rattle.trees.specs.declared.Sort.TheVariants.{Term}
use Rattle.trees.specs.Node.{tree_at, trees_at, Holds, Grows}
use Rattle.trees.specs.Sorts.{WellSorted, sort_of}
use Rattle.trees.specs.Facts.{IndicesFit}
use Rattle.trees.specs.Binding.{inst_many, inst_types}
use Rattle.trees.specs.binders.Visits.{held_stays, trees_stay}
use Rattle.images.specs.Instances.{IsInstanceAtTypes}
use Rattle.images.proofs.AtTypes.{is_at_types, env_fits, env_sort}
use Rattle.images.proofs.instance_at.Goals as goal

pub inst_many-requires-clause-terms : goal.inst_many-requires-clause-terms
inst_many-requires-clause-terms g c =
    let k : Grows (g.G.Grow.trees c.args.g.now) (g.G.Grow.trees c.inst_types.new.g) = g.met.G.Grow.keeps_trees _ _ c.in_ok-at_types.ensures.grows in
    held_stays Term (g.G.Grow.trees c.args.g.now) (g.G.Grow.trees c.inst_types.new.g) c.args.env.now k c.requires.env

pub inst_many-requires-clause-fits : goal.inst_many-requires-clause-fits
inst_many-requires-clause-fits g c =
    let s = g.G.Grow.trees c.args.g.now in
    let s1 = g.G.Grow.trees c.inst_types.new.g in
    let k : Grows s s1 = g.met.G.Grow.keeps_trees _ _ c.in_ok-at_types.ensures.grows in
    let w : (id : TermId) → Holds s id → WellSorted (tree_at s id) = rw c.store.ensures at c.laws.ensures.sorted in
    let f = env_fits s c.args.env.now (tree_at s1 c.in_ok-at_types.at_types) w c.requires.env c.requires.closed c.in_ok-at_types.ensures.sorted in
    subst (λ ts. IndicesFit (inst_many (tree_at s1 c.in_ok-at_types.at_types) ts)) (sym (trees_stay Term s s1 c.args.env.now k c.requires.env)) f

pub returns-clause-tree : goal.returns-clause-tree
returns-clause-tree g c =
    let s = g.G.Grow.trees c.args.g.now in
    let s1 = g.G.Grow.trees c.inst_types.new.g in
    let k : Grows s s1 = g.met.G.Grow.keeps_trees _ _ c.in_ok-at_types.ensures.grows in
    c.in_ok-made.ensures.tree ∙ ap (inst_many (tree_at s1 c.in_ok-at_types.at_types)) (trees_stay Term s s1 c.args.env.now k c.requires.env)
    ∙ ap (λ e. inst_many e (trees_at s c.args.env.now)) c.in_ok-at_types.ensures.tree

pub returns-clause-keeps : goal.returns-clause-keeps
returns-clause-keeps g c =
    let s = g.G.Grow.trees c.args.g.now in
    let s1 = g.G.Grow.trees c.inst_types.new.g in
    let k : Grows s s1 = g.met.G.Grow.keeps_trees _ _ c.in_ok-at_types.ensures.grows in
    let tys = trees_at s c.args.types.now in
    let env = trees_at s c.args.env.now in
    let e = tree_at s c.args.e in
    let q = c.in_ok-made.ensures.tree ∙ ap (inst_many (tree_at s1 c.in_ok-at_types.at_types)) (trees_stay Term s s1 c.args.env.now k c.requires.env) ∙ ap (λ z. inst_many z env) c.in_ok-at_types.ensures.tree in
    let sorts : sort_of (inst_many (inst_types e tys) env) ≡ sort_of e = env_sort s c.args.env.now (inst_types e tys) c.requires.env ∙ ap sort_of (sym c.in_ok-at_types.ensures.tree) ∙ c.in_ok-at_types.ensures.sort in
    subst (IsInstanceAtTypes tys env e) (sym q) (is_at_types tys env e sorts)
