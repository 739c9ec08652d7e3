use Rattle.std.proofs.Common.{◌≡◌, ◌++◌, ◌∷◌, [], List, refl, sym, subst, ap, ◌∙◌}
use Rattle.trees.specs.declared.TermId.{TermId}
use Rattle.trees.specs.Node.{tree_at}
use Rattle.tr_split.specs.parts.Parts.{GainsFormulas}
use Rattle.tr_split.specs.parts.Split.{imp}
use Rattle.tr_split.proofs.parts.Gained.{gains_one, gains_both}
use Rattle.tr_split.proofs.parts.parts.add_both_ways.Goals as goal

pub returns-clause-gains : goal.returns-clause-gains
returns-clause-gains c =
    let s = c.args.store.now in
    let s1 = c.add.new.self in
    let s2 = c.add-2.new.self in
    let p = c.args.parts.now.items in
    let x = c.in_ok-right.right in
    let y = c.in_ok-left.left in
    let a = c.args.a in
    let b = c.args.b in
    let g = c.in_ok-right.ensures.grows in
    let u : tree_at s1 a ≡ tree_at s a = g.same a.0 c.requires.a_held in
    let v : tree_at s1 b ≡ tree_at s b = g.same b.0 c.requires.b_held in
    let t : tree_at s2 y ≡ imp (tree_at s b) (tree_at s a) = c.in_ok-left.ensures.tree ∙ cc (u, v) in
    let one = gains_one s s1 p x (imp (tree_at s a) (tree_at s b)) g c.requires.held c.in_ok-right.ensures.held c.in_ok-right.ensures.tree refl in
    let two = gains_one s1 s2 (p ++ x ∷ []) y (imp (tree_at s b) (tree_at s a)) c.in_ok-left.ensures.grows one.held c.in_ok-left.ensures.held t refl in
    let e : c.push-2.new.self.items ≡ (p ++ x ∷ []) ++ y ∷ [] = c.in_ok-push-2.ensures.items ∙ ap (λ (z : List TermId). z ++ y ∷ []) c.in_ok-push.ensures.items in
    let both : GainsFormulas s s2 p ((p ++ x ∷ []) ++ y ∷ []) (imp (tree_at s a) (tree_at s b) ∷ imp (tree_at s b) (tree_at s a) ∷ []) = gains_both s s1 s2 p (p ++ x ∷ []) ((p ++ x ∷ []) ++ y ∷ []) _ _ one two in
    subst (λ (z : List TermId). GainsFormulas s s2 p z (imp (tree_at s a) (tree_at s b) ∷ imp (tree_at s b) (tree_at s a) ∷ [])) (sym e) both
