use Rattle.std.proofs.Common.{refl, ap, ◌∙◌}
use Rattle.tasks.specs.trees.Node.{tree_at, trees_at}
use Rattle.tasks.specs.trees.Sorts.{sort_of}
use Rattle.tasks.specs.Vocabulary.{of_task}
use Rattle.walking.specs.Places.{types_for}
use Rattle.tr_if.proofs.Rules.{term_rule}
use Rattle.tr_if.proofs.linking.link_conditional.Goals as goal

pub returns-in_default-clause-link : goal.returns-in_default-clause-link
returns-in_default-clause-link c =
    let d = c.args.draft.now in
    let e = tree_at d.trees c.args.e in
    let n = c.requires.node in
    record {
      is = term_rule (of_task d.task) (types_for (trees_at d.trees c.args.env.now)) e n.0 n.1.0 n.1.1.0 n.1.1.1 c.requires.place.at.shape.typed c.requires.place.sort (λ s. c.in_default.not-Formula (c.sort.ensures ∙ ap (λ t. sort_of (tree_at t c.args.e)) c.store.ensures ∙ s));
      place = c.requires.place;
      sort = refl;
      type = refl;
      shows = refl;
    }
