use Rattle.std.proofs.Common.{sym, subst, get_or}
use Rattle.trees.specs.declared.TermId.{TermId}
use Rattle.trees.specs.Tree.{Two}
use Rattle.trees.specs.Node.{tree_at, head_of_node}
use Rattle.trees.proofs.Nodes.{Grows_trans}
use Rattle.tr_split.specs.parts.Parts.{IsSentence}
use Rattle.tr_split.proofs.parts.Gained.{sentence_at, gains_wrapped, gains_all}
use Rattle.tr_split.proofs.parts.parts.add_wrapped.Goals as goal

abbrev none : TermId
none = record { 0 = 0 }

pub wrap_part-requires-clause-sentence : goal.wrap_part-requires-clause-sentence
wrap_part-requires-clause-sentence c =
    let at : IsSentence (tree_at c.args.store.now (get_or c.args.formulas.now c.loop-formula.formula-index none)) = sentence_at c.args.store.now c.args.formulas.now c.loop-formula.formula-index none c.requires.sentences c.loop-formula-test.true in
    let e = c.loop-formula.invariant.grows.same _ (c.requires.formulas_held c.loop-formula.formula-index none c.loop-formula-test.true) in
    subst IsSentence (sym e) at

pub loop-formula-preserved : goal.loop-formula-preserved
loop-formula-preserved c =
    let a = c.args.store.now in let b = c.loop-formula.store in let d = c.wrap_part.new.store in
    let p = c.args.parts.now.items in let q = c.loop-formula.parts.items in
    let id = c.in_ok-whole.whole in
    let g = gains_wrapped a b d p q c.push.new.self.items c.args.formulas.now c.loop-formula.formula-index id c.args.first none (head_of_node c.args.node) c.loop-formula.invariant.grows c.in_ok-whole.ensures.grows
    c.requires.first_held c.requires.formulas_held c.requires.sentences c.requires.wraps c.loop-formula-test.true c.loop-formula.invariant.gains c.in_ok-push.ensures.items c.in_ok-whole.ensures.held c.in_ok-whole.ensures.tree in
    record {
      grows = Grows_trans _ _ _ c.loop-formula.invariant.grows c.in_ok-whole.ensures.grows;
      gains = g;
    }

pub returns-clause-gains : goal.returns-clause-gains
returns-clause-gains c = gains_all c.args.store.now c.loop-formula.store c.args.parts.now.items c.loop-formula.parts.items c.args.formulas.now c.loop-formula.formula-index
    (Two (head_of_node c.args.node) (tree_at c.args.store.now c.args.first)) c.loop-formula-test.false c.loop-formula.invariant.gains
