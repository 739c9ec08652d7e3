use Rattle.std.proofs.Common.{◌≡◌, ◌<◌, length, refl, sym, ap, subst, ◌∙◌, arith, rules}
use Rattle.std.proofs.lemmas.Result.{IfOk-weaker}
use Rattle.trees.specs.declared.Op.{Op}
use Rattle.trees.specs.declared.Op.TheVariants.{And, AndThen}
use Rattle.trees.specs.Tree.{Two, Three, HJoin, HForall, HLet, HIf}
use Rattle.trees.specs.Node.{tree_at, head_of_node, Holds, Grows}
use Rattle.trees.specs.Sorts.{Fits}
use Rattle.trees.proofs.Nodes.{Grows_trans}
use Rattle.tasks.specs.Task.{neg}
use Rattle.tasks.proofs.Growth.{all_held_later}
use Rattle.tr_split.specs.parts.Parts.{IsSentence}
use Rattle.tr_split.specs.parts.Split.{split}
use Rattle.tr_split.proofs.parts.Sentences.{sentence_later}
use Rattle.tr_split.specs.parts.Kept.{let_sentence, then_sentence, else_sentence, wraps_imp, wraps_forall, wraps_let}
use Rattle.tr_split.proofs.parts.Gained.{gains_then, gains_grown, gains_under, split_later, imp_later}
use Rattle.tr_split.proofs.parts.parts.+parts.Goals as goal

pub add_branches-add_parts_under-requires : goal.add_branches-add_parts_under-requires
add_branches-add_parts_under-requires t c =
    (search rules, (c.requires.then_held, (c.requires.then, (c.requires.held, (c.requires.test_held, (λ a b. tt, wraps_imp _ c.requires.test))))))

pub add_branches-add_parts_under-requires-2 : goal.add_branches-add_parts_under-requires-2
add_branches-add_parts_under-requires-2 t c =
    let s = c.args.store.now in
    let s1 = c.add_parts_under.new.store in
    let s2 = c.add.new.self in
    let g = c.in_ok-add_parts_under.ensures.grows in
    let h = c.in_ok-negation.ensures.grows in
    let k : Grows s s2 = Grows_trans s s1 s2 g h in
    let n : IsSentence (tree_at s2 c.in_ok-negation.negation) = subst IsSentence (sym c.in_ok-negation.ensures.tree) refl in (
      search rules,
      (
        omega (arith, k.longer, c.requires.other_held),
        (
          sentence_later s s2 c.args.other k c.requires.other_held c.requires.other,
          (all_held_later s1 s2 h c.add_parts_under.new.parts.items c.in_ok-add_parts_under.ensures.gains.held, (c.in_ok-negation.ensures.held, (λ a b. tt, wraps_imp _ n))),
        ),
      ),
    )

pub add_branches-returns-clause-gains : goal.add_branches-returns-clause-gains
add_branches-returns-clause-gains t c =
    let s = c.args.store.now in
    let s1 = c.add_parts_under.new.store in
    let s2 = c.add.new.self in
    let g = c.in_ok-add_parts_under.ensures.grows in
    let h = c.in_ok-negation.ensures.grows in
    let k : Grows s s2 = Grows_trans s s1 s2 g h in
    let n : tree_at s2 c.in_ok-negation.negation ≡ neg (tree_at s c.args.test) = c.in_ok-negation.ensures.tree ∙ ap neg (g.same c.args.test.0 c.requires.test_held) in
    let first = gains_grown s s1 s2 _ _ _ c.in_ok-add_parts_under.ensures.gains h in
    IfOk-weaker c.add_parts_under-2.result _ _ (λ u r. gains_then s s2 _ _ _ _ _ _ _ _ first r (imp_later s s2 c.args.other _ _ n k c.requires.other_held) refl) c.add_parts_under-2.ensures.gains

pub add_parts-add_parts_under-requires :
    goal.add_parts-add_parts_under-requires
add_parts-add_parts_under-requires t c =
    let m = c.in-Forall in
    let s = c.args.store.now in
    let f : Fits (Two HForall (tree_at s m.ty) (tree_at s m.a)) = subst Fits m.ensures.tree m.ensures.fits in
    let l : m.ty.0 < c.args.formula.0 = m.ensures.below.0 in
    let k : m.a.0 < c.args.formula.0 = m.ensures.below.1 in
    (search rules, (omega arith, (f.0.1, (c.requires.held, (omega arith, (λ a b. tt, wraps_forall _ f.0.0))))))

pub add_parts-add_parts_under-requires-in-Let : goal.add_parts-add_parts_under-requires-in-Let
add_parts-add_parts_under-requires-in-Let t c =
    let m = c.in-Let in
    let s = c.args.store.now in
    let f : Fits (Two HLet (tree_at s m.value) (tree_at s m.a)) = subst Fits m.ensures.tree m.ensures.fits in
    let l : m.value.0 < c.args.formula.0 = m.ensures.below.0 in
    let k : m.a.0 < c.args.formula.0 = m.ensures.below.1 in
    (search rules, (omega arith, (let_sentence (tree_at s m.value) (tree_at s m.a) f (subst IsSentence m.ensures.tree c.requires.sentence), (c.requires.held, (omega arith, (λ a b. tt, wraps_let _ f.0.0))))))

pub add_parts-add_branches-requires : goal.add_parts-add_branches-requires
add_parts-add_branches-requires t c =
    let m = c.in-If in
    let s = c.args.store.now in
    let f : Fits (Three HIf (tree_at s m.c) (tree_at s m.a) (tree_at s m.b)) = subst Fits m.ensures.tree m.ensures.fits in
    let whole : IsSentence (Three HIf (tree_at s m.c) (tree_at s m.a) (tree_at s m.b)) = subst IsSentence m.ensures.tree c.requires.sentence in
    let i : m.c.0 < c.args.formula.0 = m.ensures.below.0 in
    let l : m.a.0 < c.args.formula.0 = m.ensures.below.1 in
    let k : m.b.0 < c.args.formula.0 = m.ensures.below.2 in
    (search rules, (omega arith, (f.0, (omega arith, (then_sentence (tree_at s m.c) (tree_at s m.a) (tree_at s m.b) f whole, (omega arith, (else_sentence (tree_at s m.c) (tree_at s m.a) (tree_at s m.b) f whole, c.requires.held)))))))

pub add_parts_under-add_parts-requires : goal.add_parts_under-add_parts-requires
add_parts_under-add_parts-requires t c =
    let none = ap length c.new-inner.ensures.items in
    (search rules, (c.requires.formula_held, (c.requires.sentence, λ k d h. absurd (omega (arith, none, h)))))

pub add_parts_under-returns-clause-gains : goal.add_parts_under-returns-clause-gains
add_parts_under-returns-clause-gains t c =
    let s = c.args.store.now in
    IfOk-weaker c.add_wrapped.result _ _ (λ u r. gains_under s _ _ _ _ _ _ _ c.args.first (head_of_node c.args.node) _ c.in_ok-add_parts.ensures.grows c.requires.held c.requires.first_held
    c.new-inner.ensures.items c.in_ok-add_parts.ensures.gains c.deref.ensures.value r) c.add_wrapped.ensures.gains

pub add_joined-returns-in_ok-add_parts-in-And-clause-gains : goal.add_joined-returns-in_ok-add_parts-in-And-clause-gains
add_joined-returns-in_ok-add_parts-in-And-clause-gains t c =
    let s = c.args.store.now in
    let j = c.requires.joins in
    let tree : tree_at s c.args.formula ≡ Two (HJoin And) (tree_at s c.args.a) (tree_at s c.args.b) = j.tree ∙ ap (λ (o : Op). Two (HJoin o) (tree_at s c.args.a) (tree_at s c.args.b)) c.in-And.is in
    let below : c.args.b.0 < c.args.formula.0 = j.below.1 in
    let held : Holds s c.args.b = omega arith in
    IfOk-weaker c.add_parts-in-And.result _ _ (λ u r. gains_then s _ _ _ _ _ _ _ _ _ c.in_ok-add_parts-in-And.ensures.gains r (split_later s _ c.args.b c.in_ok-add_parts-in-And.ensures.grows held) (ap split tree)) c.add_parts-in-And.ensures.gains

pub add_joined-returns-in_ok-add_parts-in-AndThen-clause-gains : goal.add_joined-returns-in_ok-add_parts-in-AndThen-clause-gains
add_joined-returns-in_ok-add_parts-in-AndThen-clause-gains t c =
    let s = c.args.store.now in
    let j = c.requires.joins in
    let tree : tree_at s c.args.formula ≡ Two (HJoin AndThen) (tree_at s c.args.a) (tree_at s c.args.b) = j.tree ∙ ap (λ (o : Op). Two (HJoin o) (tree_at s c.args.a) (tree_at s c.args.b)) c.in-AndThen.is in
    let below_a : c.args.a.0 < c.args.formula.0 = j.below.0 in
    let below_b : c.args.b.0 < c.args.formula.0 = j.below.1 in
    let held_a : Holds s c.args.a = omega arith in
    let held_b : Holds s c.args.b = omega arith in
    let g = c.in_ok-add_parts-in-AndThen.ensures.grows in
    IfOk-weaker c.add_parts_under.result _ _ (λ u r. gains_then s _ _ _ _ _ _ _ _ _ c.in_ok-add_parts-in-AndThen.ensures.gains r
    (imp_later s _ c.args.b _ _ (g.same c.args.a.0 held_a) g held_b) (ap split tree)) c.add_parts_under.ensures.gains
