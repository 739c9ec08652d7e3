use Rattle.std.proofs.Common.{◌≡◌, true, false, ap, ◌∙◌, arith}
use Rattle.tasks.specs.trees.declared.Op.TheVariants.{Or}
use Rattle.tasks.specs.trees.Tree.{Tree, Two, HJoin}
use Rattle.tasks.specs.trees.Node.{tree_at}
use Rattle.evidence.specs.Laws.{Extends_trans}
use Rattle.tr_algebraic.proofs.law_evidence.CaseLists.{rest_formula, among_rest}
use Rattle.tr_algebraic.proofs.law_evidence.cases.+refute_case.Goals as goal

pub refute_first-requires-clause-is : goal.refute_first-requires-clause-is
refute_first-requires-clause-is t c =
    let d = c.args.draft.now in
    let p = rw c.store.ensures at c.in-Parts.ensures in
    let both = rw c.store-in-Parts.ensures at c.same.ensures.trees in
    (tree_at d.trees c.in-Parts.rest, p.is ∙ ap (λ (z : Tree). Two (HJoin Or) z (tree_at d.trees c.in-Parts.rest)) (both.0 c.if-same.true))

pub refute_case-requires : goal.refute_case-requires
refute_case-requires t c =
    let d = c.args.draft.now in
    let p = rw c.store.ensures at c.in-Parts.ensures in
    let both = rw c.store-in-Parts.ensures at c.same.ensures.trees in
    let other : tree_at d.trees c.in-Parts.first ≡ tree_at d.trees c.args.case → ⊥ = λ q. let k : c.same.result ≡ true = both.1 q in let m : c.same.result ≡ false = c.if-same.false in cc in
    (omega (arith, p.below, c.decreases), (rest_formula d c.args.whole c.in-Parts.first c.in-Parts.rest c.requires.whole p, (c.requires.case, among_rest d.trees c.args.whole c.in-Parts.first c.in-Parts.rest p (tree_at d.trees c.args.case) c.requires.among other)))

pub returns-in_err-made-in-Parts-2-clause-grows : goal.returns-in_err-made-in-Parts-2-clause-grows
returns-in_err-made-in-Parts-2-clause-grows t c =
    Extends_trans c.args.draft.now c.refute_case.new.draft c.refute_later.new.draft c.in_ok-inner-in-Parts.ensures.grows c.in_err-made-in-Parts-2.ensures.grows

pub returns-in_ok-made-in-Parts-2-clause-grows : goal.returns-in_ok-made-in-Parts-2-clause-grows
returns-in_ok-made-in-Parts-2-clause-grows t c =
    Extends_trans c.args.draft.now c.refute_case.new.draft c.refute_later.new.draft c.in_ok-inner-in-Parts.ensures.grows c.in_ok-made-in-Parts-2.ensures.grows
