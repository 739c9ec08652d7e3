use Rattle.std.proofs.Common.{List, All, sym, ap, subst, ◌∙◌}
use Rattle.std.proofs.lemmas.List.Elements.{All-nil}
use Rattle.trees.specs.declared.TermId.{TermId}
use Rattle.trees.specs.Node.{tree_at, trees_at, Holds}
use Rattle.images.specs.Templates.{listed}
use Rattle.congruence.specs.Applications.{applied}
use Rattle.congruence.specs.Alike.{Shows}
use Rattle.agreement.specs.Questions.{links_at}
use Rattle.agreement.proofs.MemberParts.{symbol_right, symbol_paired}
use Rattle.agreement.proofs.members.answer_symbol.Goals as goal

pub arguments_of-other-requires-clause-application : goal.arguments_of-other-requires-clause-application
arguments_of-other-requires-clause-application c =
    let d = c.args.draft.now in
    let s = symbol_right d c.args.q c.requires.linked.asked (tree_at d.trees c.args.arguments) c.args.symbol (links_at d.trees c.args.links.now) c.requires.left c.requires.linked.parts in
    (s.0, s.1.0)

pub replace_members-requires : goal.replace_members-requires
replace_members-requires c =
    let d = c.args.draft.now in
    let q = c.args.q in
    let i = c.requires.linked.asked in
    let k = c.args.symbol in
    let a = tree_at d.trees c.args.arguments in
    let ls = links_at d.trees c.args.links.now in
    let s = symbol_right d q i a k ls c.requires.left c.requires.linked.parts in
    let f = c.arguments_of-other.ensures.tree s.0 s.1.0 in
    let none = c.new-before.ensures.items in
    record {
      can = record {
        symbol_held = c.requires.symbol_held;
        before_held = subst (All (Holds d.trees)) (sym none) (All-nil (Holds d.trees));
        whole = i.pair.left;
        list_held = c.requires.arguments_held;
        other_held = c.arguments_of-other.ensures.held;
        is = c.requires.left ∙ sym (ap (λ (z : List TermId). applied d.trees k (listed (trees_at d.trees z) a)) none);
        linked = c.requires.linked.linked;
        paired = symbol_paired d q i a k ls (tree_at d.trees c.arguments_of-other.result) c.requires.left f c.requires.linked.parts;
      };
    }

pub returns-clause-shows : goal.returns-clause-shows
returns-clause-shows c =
    let d = c.args.draft.now in
    let k = c.args.symbol in
    let a = tree_at d.trees c.args.arguments in
    let ls = links_at d.trees c.args.links.now in
    let s = symbol_right d c.args.q c.requires.linked.asked a k ls c.requires.left c.requires.linked.parts in
    let f = c.arguments_of-other.ensures.tree s.0 s.1.0 in
    let e = c.in_ok-made.ensures in
    let none = ap (λ (z : List TermId). applied d.trees k (listed (trees_at d.trees z) (tree_at d.trees c.arguments_of-other.result))) c.new-before.ensures.items in
    subst (Shows c.replace_members.new.draft c.in_ok-made.made.alike (tree_at d.trees c.args.q.left)) (e.right_is ∙ none ∙ sym f) e.shows
