use Rattle.std.proofs.Common.{◌≡◌, false, List, refl, sym, subst, ◌∙◌}
use Rattle.trees.specs.Tree.{Tree}
use Rattle.trees.specs.Node.{tree_at}
use Rattle.tr_simplify.specs.Laws.{has_laws}
use Rattle.tr_simplify.proofs.Nodes.{lawless_stays}
use Rattle.tr_simplify.proofs.simplify.SimplifiedFormulasRewrite.link.Goals as goal

pub returns-clause-link : goal.returns-clause-link
returns-clause-link c =
    let d = c.args.draft.now in
    let e = tree_at d.trees c.args.e in
    let q : has_laws e ≡ false = subst (λ (s : List Tree). has_laws (tree_at s c.args.e) ≡ false) c.store.ensures (sym c.has_laws.ensures ∙ c.if-has_laws.false) in
    record { is = lawless_stays e q; place = c.requires.place; sort = refl; type = refl; shows = refl }
