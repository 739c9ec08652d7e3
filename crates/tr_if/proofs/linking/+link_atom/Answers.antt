use Rattle.std.proofs.Common.{◌≡◌, Some, refl, sym, ap, subst, ◌∙◌, arith}
use Rattle.tasks.specs.trees.Tree.{Tree, size}
use Rattle.tasks.specs.trees.Node.{tree_at, Holds}
use Rattle.evidence.specs.Laws.{Extends_trans, AddsTrees_extends}
use Rattle.congruence.proofs.Later.{held_later, tree_later}
use Rattle.tr_if.specs.conditionals.Conditionals.{first_if, implications, cases_over}
use Rattle.tr_if.specs.conditionals.lemmas.Cases.{no_first}
use Rattle.walking.specs.Places.{IsLinkOf}
use Rattle.tr_if.proofs.Placing.{atom_later}
use Rattle.tr_if.proofs.Cases.{case_later}
use Rattle.tr_if.proofs.Links.{linked_twice}
use Rattle.tr_if.proofs.linking.+link_atom.Goals as goal

pub returns-in-None-clause-link : goal.returns-in-None-clause-link
returns-in-None-clause-link t c =
    let d = c.args.draft.now in
    let a = c.args.atom in
    let q = ap first_if (sym (ap (λ s. tree_at s a.formula) c.store.ensures)) ∙ c.in-None.ensures in
    record { is = sym (no_first (tree_at d.trees a.formula) (λ u. u) q); place = c.requires.place; sort = refl; type = refl; shows = refl }

pub first_case-requires : goal.first_case-requires
first_case-requires t c =
    let a = c.args.atom in
    let w = c.in-Some.whole in
    let h = subst (λ s. Holds s w × (first_if (tree_at s a.formula) ≡ Some (tree_at s w))) c.store.ensures c.in-Some.ensures in
    record { atom = c.requires; first = record { held = h.0; first = h.1 } }

pub link_atom-requires : goal.link_atom-requires
link_atom-requires t c =
    let d = c.args.draft.now in
    let d1 = c.first_case.new.draft in
    let x = AddsTrees_extends d d1 c.in_ok-case-in-Some.ensures.grows in
    let q : size (tree_at d1.trees c.args.atom.formula) ≡ size (tree_at d.trees c.args.atom.formula) = ap size (tree_later d d1 x c.args.atom.formula c.requires.place.open_held) in
    let k = c.in_ok-case-in-Some.ensures.case in
    (omega (arith, q, k.first_smaller), k.first)

pub link_atom-requires-in-Some : goal.link_atom-requires-in-Some
link_atom-requires-in-Some t c =
    let d = c.args.draft.now in
    let d1 = c.first_case.new.draft in
    let d2 = c.link_atom.new.draft in
    let x = AddsTrees_extends d d1 c.in_ok-case-in-Some.ensures.grows in
    let y = c.in_ok-one-in-Some.ensures.grows in
    let k = c.in_ok-case-in-Some.ensures.case in
    let e = c.in_ok-case-in-Some.case.second.formula in
    let q : size (tree_at d1.trees c.args.atom.formula) ≡ size (tree_at d.trees c.args.atom.formula) = ap size (tree_later d d1 x c.args.atom.formula c.requires.place.open_held) in
    let s : size (tree_at d2.trees e) ≡ size (tree_at d1.trees e) = ap size (tree_later d1 d2 y e k.second.place.open_held) in
    (omega (arith, q, s, k.second_smaller), atom_later d1 d2 y c.args.env.now c.in_ok-case-in-Some.case.second c.args.fresh k.second)

pub link_first-requires : goal.link_first-requires
link_first-requires t c =
    let d = c.args.draft.now in
    let d1 = c.first_case.new.draft in
    let d2 = c.link_atom.new.draft in
    let d3 = c.link_atom-in-Some.new.draft in
    let x = AddsTrees_extends d d1 c.in_ok-case-in-Some.ensures.grows in
    let y = c.in_ok-one-in-Some.ensures.grows in
    let z = c.in_ok-two-in-Some.ensures.grows in
    let yz = Extends_trans d1 d2 d3 y z in
    let k = c.in_ok-case-in-Some.ensures.case in
    let case = c.in_ok-case-in-Some.case in
    let env = c.args.env.now in
    let n = c.args.fresh in
    let ha = held_later d d1 x c.args.atom.formula c.requires.place.open_held in
    record {
      held = held_later d1 d3 yz c.args.atom.formula ha;
      case = case_later d1 env c.args.atom n case k d3 yz ha;
      parts = linked_twice d1 d2 d3 y z env c.args.atom n case k c.in_ok-one-in-Some.one c.in_ok-two-in-Some.two _ _ c.in_ok-one-in-Some.ensures.link c.in_ok-two-in-Some.ensures.link;
    }

pub returns-in_err-one-in-Some-clause-grows : goal.returns-in_err-one-in-Some-clause-grows
returns-in_err-one-in-Some-clause-grows t c = Extends_trans _ _ _ (AddsTrees_extends _ _ c.in_ok-case-in-Some.ensures.grows) c.in_err-one-in-Some.ensures.grows

pub returns-in_err-two-in-Some-clause-grows : goal.returns-in_err-two-in-Some-clause-grows
returns-in_err-two-in-Some-clause-grows t c = Extends_trans _ _ _ (Extends_trans _ _ _ (AddsTrees_extends _ _ c.in_ok-case-in-Some.ensures.grows) c.in_ok-one-in-Some.ensures.grows) c.in_err-two-in-Some.ensures.grows

pub returns-in_err-made-in-Some-clause-grows : goal.returns-in_err-made-in-Some-clause-grows
returns-in_err-made-in-Some-clause-grows t c =
    Extends_trans _ _ _ (Extends_trans _ _ _ (Extends_trans _ _ _ (AddsTrees_extends _ _ c.in_ok-case-in-Some.ensures.grows) c.in_ok-one-in-Some.ensures.grows) c.in_ok-two-in-Some.ensures.grows) c.in_err-made-in-Some.ensures.grows

pub returns-in_ok-made-in-Some-clause-grows : goal.returns-in_ok-made-in-Some-clause-grows
returns-in_ok-made-in-Some-clause-grows t c =
    Extends_trans _ _ _ (Extends_trans _ _ _ (Extends_trans _ _ _ (AddsTrees_extends _ _ c.in_ok-case-in-Some.ensures.grows) c.in_ok-one-in-Some.ensures.grows) c.in_ok-two-in-Some.ensures.grows) c.in_ok-made-in-Some.ensures.grows

pub returns-in_ok-made-in-Some-clause-link : goal.returns-in_ok-made-in-Some-clause-link
returns-in_ok-made-in-Some-clause-link t c =
    let d = c.args.draft.now in
    let d1 = c.first_case.new.draft in
    let d2 = c.link_atom.new.draft in
    let d3 = c.link_atom-in-Some.new.draft in
    let d4 = c.link_first.new.draft in
    let x = AddsTrees_extends d d1 c.in_ok-case-in-Some.ensures.grows in
    let y = c.in_ok-one-in-Some.ensures.grows in
    let z = c.in_ok-two-in-Some.ensures.grows in
    let yz = Extends_trans d1 d2 d3 y z in
    let k = c.in_ok-case-in-Some.ensures.case in
    let case = c.in_ok-case-in-Some.case in
    let l1 = c.in_ok-one-in-Some.ensures.link in
    let l2 = c.in_ok-two-in-Some.ensures.link in
    let A : Tree = tree_at d.trees c.args.atom.formula in
    let m : implications (tree_at d3.trees case.condition) (tree_at d3.trees c.in_ok-one-in-Some.one.image) (tree_at d3.trees c.in_ok-two-in-Some.two.image) ≡ cases_over A (λ u. u) =
    cc (
      tree_later d1 d3 yz case.condition k.condition.open_held,
      tree_later d2 d3 z c.in_ok-one-in-Some.one.image l1.place.open_held ∙ l1.is,
      l2.is ∙ ap (λ (w : Tree). cases_over w (λ u. u)) (tree_later d1 d2 y case.second.formula k.second.place.open_held),
    )
    ∙ sym k.cases ∙ ap (λ (w : Tree). cases_over w (λ u. u)) (tree_later d d1 x c.args.atom.formula c.requires.place.open_held) in
    subst (λ (w : Tree). IsLinkOf d4 c.args.env.now c.args.atom.left c.args.fresh w c.in_ok-made-in-Some.made) m c.in_ok-made-in-Some.ensures.link
