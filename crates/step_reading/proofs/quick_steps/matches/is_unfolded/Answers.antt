use Rattle.std.proofs.Common.{◌≡◌, [], ◌∷◌, ◌++◌, refl, sym, subst, ap, ◌∙◌, arith}
use Rattle.trees.specs.declared.Sort.TheVariants.{Formula}
use Rattle.trees.specs.Tree.{Tree, loose}
use Rattle.trees.specs.Node.{tree_at, trees_at, Grows}
use Rattle.trees.specs.Binding.{inst_many}
use Rattle.trees.specs.binders.Visits.{AreHeldOfSort, held_stays, trees_stay}
use Rattle.tasks.specs.Conjunctions.{conjunction}
use Rattle.tasks.specs.MatchTests.{test, tests, bind}
use Rattle.tasks.proofs.trees.Nodes.{Grows_trans}
use Rattle.step_reading.specs.quick_steps.Places.{task_here}
use Rattle.step_reading.proofs.quick_steps.Places.{place_later}
use Rattle.step_reading.proofs.quick_steps.Told.{match_told, kernel_told}
use Rattle.step_reading.proofs.quick_steps.matches.is_unfolded.Goals as goal

pub is_kernel_row-requires-then-not-asked-clause-place : goal.is_kernel_row-requires-then-not-asked-clause-place
is_kernel_row-requires-then-not-asked-clause-place c = place_later c.args.store.now c.ask_all.new.store c.in_ok-asked.ensures.grows c.args.place.now c.requires.place

pub is_kernel_row-requires-then-not-asked-clause-closed : goal.is_kernel_row-requires-then-not-asked-clause-closed
is_kernel_row-requires-then-not-asked-clause-closed c = ap loose (c.in_ok-asked.ensures.grows.same c.args.e.0 c.requires.held) ∙ c.requires.closed

pub returns-then-not-asked-clause-told : goal.returns-then-not-asked-clause-told
returns-then-not-asked-clause-told c =
    let s = c.args.store.now in
    let s' = c.ask_all.new.store in
    let g = c.in_ok-asked.ensures.grows in
    kernel_told s s' g c.args.place.now c.requires.place (tree_at s c.args.e) (tree_at s' c.args.e) c.is_kernel_row-then-not-asked.result (g.same c.args.e.0 c.requires.held) c.is_kernel_row-then-not-asked.ensures

pub adds_unfolded-requires-clause-place : goal.adds_unfolded-requires-clause-place
adds_unfolded-requires-clause-place c =
    place_later c.args.store.now c.put_terms.new.g (Grows_trans c.args.store.now c.ask_all.new.store c.put_terms.new.g c.in_ok-asked.ensures.grows c.in_ok-made.ensures.grows) c.args.place.now c.requires.place

pub returns-clause-told : goal.returns-clause-told
returns-clause-told c =
    let s = c.args.store.now in
    let s1 = c.ask_all.new.store in
    let s2 = c.put_terms.new.g in
    let g1 = c.in_ok-asked.ensures.grows in
    let g2 = c.in_ok-made.ensures.grows in
    let g : Grows s s2 = Grows_trans s s1 s2 g1 g2 in
    let t = task_here s c.args.place.now in
    let term = tree_at s c.args.parts.0 in
    let pattern = tree_at s c.args.parts.1 in
    let body = tree_at s c.args.parts.2 in
    let rest = tree_at s c.args.parts.3 in
    let h = c.requires.parts_held in
    let asked = c.in_ok-asked.ensures in
    let yes = c.if-not-asked.false in
    let found : trees_at s1 c.ask_all.new.made.items ≡ tests t pattern (term ∷ []) = asked.tests yes ∙ ap (λ is. trees_at s is ++ tests t pattern (term ∷ [])) c.new-tests.ensures.items in
    let bound : trees_at s1 c.ask_all.new.bound.items ≡ bind t pattern term = asked.terms yes ∙ ap (λ is. trees_at s is ++ bind t pattern term) c.new-terms.ensures.items in
    let image : tree_at s2 c.in_ok-made.made ≡ inst_many body (bind t pattern term) =
    c.in_ok-made.ensures.tree ∙ ap (λ (x : Tree). inst_many x (trees_at s1 c.as_slice.result.now)) (g1.same c.args.parts.2.0 h.2) ∙ ap (inst_many body) (ap (trees_at s1) c.as_slice.ensures.value ∙ bound) in
    let condition : conjunction (trees_at s2 c.as_slice-2.result.now) ≡ test t pattern term =
    ap conjunction (ap (trees_at s2) c.as_slice-2.ensures.value ∙ trees_stay Formula s1 s2 c.ask_all.new.made.items g2 asked.held.tests ∙ found) in
    match_told s s2 g c.args.place.now c.requires.place (tree_at s c.args.e) term pattern body rest (conjunction (trees_at s2 c.as_slice-2.result.now)) (tree_at s2 c.args.e) (tree_at s2 c.args.parts.0) (tree_at s2 c.args.parts.3) (bind t pattern term) c.adds_unfolded.result
    c.requires.parts condition refl (g.same c.args.e.0 c.requires.held) (g.same c.args.parts.0.0 h.0) (g.same c.args.parts.3.0 h.3) (c.adds_unfolded.ensures body (bind t pattern term) image)

pub adds_unfolded-requires-clause-tests : goal.adds_unfolded-requires-clause-tests
adds_unfolded-requires-clause-tests c =
    let s2 = c.put_terms.new.g in
    subst (AreHeldOfSort Formula s2) (sym c.as_slice-2.ensures.value) (held_stays Formula c.ask_all.new.store s2 c.ask_all.new.made.items c.in_ok-made.ensures.grows c.in_ok-asked.ensures.held.tests)
