use Rattle.std.proofs.Common.{ap, ◌∙◌}
use Rattle.std.proofs.lemmas.Result.{IfOk-weaker}
use Rattle.trees.specs.Sorts.{sort_of}
use Rattle.evidence.specs.Laws.{Extends_trans, AddsTrees_extends}
use Rattle.congruence.proofs.Later.{tree_later, pair_later}
use Rattle.congruence.proofs.CaseParts.{pair_through}
use Rattle.congruence.proofs.HoleTemplates.{equal_later, lemma_later}
use Rattle.congruence.proofs.PlainScripts.{one_same}
use Rattle.congruence.proofs.replacing.chain_terms.Goals as goal

pub open_hole-requires : goal.open_hole-requires
open_hole-requires c = record { pair = c.requires.left; term = c.requires.term }

pub by_hole-requires : goal.by_hole-requires
by_hole-requires c =
    let d = c.args.draft.now in
    let d1 = c.open_hole.new.draft in
    let n = c.in_ok-hole in
    let x = AddsTrees_extends d d1 n.ensures.grows in
    let r = c.requires in
    let k = c.args in
    let p = pair_later d d1 x k.l k.m r.left in
    let q = pair_later d d1 x k.m k.r r.right in
    let s = ap sort_of (tree_later d d1 x k.l r.left.left.held) ∙ r.term in
    record {
      terms = record { pair = p; term = s; step = lemma_later d d1 x k.first k.l k.m r.left.left.held r.left.right.held r.first };
      hole = n.ensures.hole;
      sides = pair_through d1 k.l k.m k.r p q;
      after = q;
      left_term = s;
      middle_term = p.sort ∙ s;
      step = lemma_later d d1 x k.second k.m k.r r.right.left.held r.right.right.held r.second;
    }

pub returns : goal.returns
returns c =
    let d = c.args.draft.now in
    let d1 = c.open_hole.new.draft in
    let x = AddsTrees_extends d d1 c.in_ok-hole.ensures.grows in
    let r = c.requires in
    record {
      refutes = IfOk-weaker c.by_hole.result _ _ (λ k h. one_same c.by_hole.new.draft k _ _ (equal_later d d1 x c.args.l c.args.r r.left.left.held r.right.right.held) h) c.by_hole.ensures.refutes;
      grows = Extends_trans d d1 c.by_hole.new.draft x c.by_hole.ensures.grows;
    }
