use Rattle.std.proofs.Common.{◌≡◌, true, false, List, drop, map, get_or, Some, All, sym, ap, subst, ◌∙◌}
use Rattle.std.specs.List.{find}
use Rattle.theory_states.specs.declared.goal_tasks.theories.Theory.{Theory}
use Rattle.theory_states.specs.goal_tasks.Theories.{has_path}
use Rattle.theory_states.specs.goal_tasks.Meaning.{theory_at, TheoryHeld}
use Rattle.theory_states.proofs.goal_tasks.Placed.{find_none, find_here, find_past, drop-map}
use Rattle.theory_states.proofs.goal_tasks.theories.find_theory.Goals as goal

pub returns-then-has_path-clause-tree : goal.returns-then-has_path-clause-tree
returns-then-has_path-clause-tree c =
    let all = c.args.all.now in
    let f = theory_at c.args.store.now all.decls in
    let p = has_path c.args.path.now in
    let xs = c.as_slice-list.result.now in
    let i = c.loop-at.at in
    let d = c.index-list-at.result in
    let here : p (f (get_or xs i d)) ≡ true = ap (λ (t : Theory). p (f t)) (sym c.index-list-at.is) ∙ sym c.has_path.ensures ∙ c.if-has_path.true in
    ap (λ (t : Theory). Some (f t)) c.index-list-at.is ∙ sym (find_here p f xs i d c.loop-at-test.true here) ∙ c.loop-at.invariant ∙ ap (find p) (sym (drop-map f all.embedded xs))
    ∙ ap (λ (ts : List Theory). find p (drop all.embedded (map f ts))) c.as_slice-list.ensures

pub returns-then-has_path-clause-held : goal.returns-then-has_path-clause-held
returns-then-has_path-clause-held c =
    let P = TheoryHeld c.args.store.now c.args.all.now.decls in
    let a = subst (λ (ts : List Theory). All P ts) (sym c.as_slice-list.ensures) c.requires in
    subst P (sym c.index-list-at.is) (a c.loop-at.at c.index-list-at.result c.loop-at-test.true)

pub loop-at-preserved : goal.loop-at-preserved
loop-at-preserved c =
    let f = theory_at c.args.store.now c.args.all.now.decls in
    let p = has_path c.args.path.now in
    let xs = c.as_slice-list.result.now in
    let i = c.loop-at.at in
    let d = c.index-list-at.result in
    let past : p (f (get_or xs i d)) ≡ false = ap (λ (t : Theory). p (f t)) (sym c.index-list-at.is) ∙ sym c.has_path.ensures ∙ c.if-has_path.false in
    sym (find_none p f xs i d c.loop-at-test.true past) ∙ c.loop-at.invariant

pub returns-clause-tree : goal.returns-clause-tree
returns-clause-tree c =
    let all = c.args.all.now in
    let f = theory_at c.args.store.now all.decls in
    let p = has_path c.args.path.now in
    let xs = c.as_slice-list.result.now in
    find_past p f xs c.loop-at.at c.loop-at-test.false ∙ c.loop-at.invariant ∙ ap (find p) (sym (drop-map f all.embedded xs))
    ∙ ap (λ (ts : List Theory). find p (drop all.embedded (map f ts))) c.as_slice-list.ensures
