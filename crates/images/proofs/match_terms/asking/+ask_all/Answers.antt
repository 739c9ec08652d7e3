use Rattle.std.proofs.Common.{◌≡◌, List, ◌∷◌, ◌++◌, length, subst, sym, ap, ◌∙◌, arith}
use Rattle.std.proofs.lemmas.Result.{on_ok_weaker}
use Rattle.trees.specs.declared.Sort.TheVariants.{Term, Formula}
use Rattle.trees.specs.Tree.{Tree, One, Two, Three, HCell, HPatVar, HPatAlias, HPatCon}
use Rattle.trees.specs.Node.{tree_at, trees_at, node_tree, Holds, Grows}
use Rattle.trees.specs.Sorts.{sort_of}
use Rattle.trees.specs.binders.Visits.{HoldTerms, AreHeldOfSort, held_stays}
use Rattle.tasks.specs.MatchTests.{constructor_projections, tests, pattern_terms}
use Rattle.tasks.proofs.outside.Passed.{no_ok}
use Rattle.images.specs.match_terms.Asking.{task_under}
use Rattle.images.proofs.match_terms.Growing.{under_later, ask_later, held_after, in_alias, in_first, con_results, con_single, con_kinds, in_parts, fields_length, var_single, cell_some, no_part, first_held, nothing_made, variable_made, alias_made, cell_made, con_made, on_ok_both}
use Rattle.images.proofs.match_terms.asking.+ask_all.Goals as goal

pub ask_all-requires-in-Cell-2 : goal.ask_all-requires-in-Cell-2
ask_all-requires-in-Cell-2 g t c κs within =
    let s = g.G.Grow.trees c.args.g.now in
    let s1 = g.G.Grow.trees c.ask_all-in-Cell.new.g in
    let e : tree_at s c.args.pattern ≡ Two HCell (tree_at s c.in-Cell.first) (tree_at s c.in-Cell.more) = rw c.store.ensures at c.in-Cell.ensures.tree in
    let n = c.in-Cell.ensures.below in
    let r = c.in_ok-ask_all-in-Cell.ensures in
    let k : Grows s s1 = g.met.G.Grow.keeps_trees _ _ r.grows in
    let h = c.requires.ready.pattern_held in
    let both = in_first s c.args.look c.args.pattern c.args.terms.now c.requires.ready c.in-Cell.first c.in-Cell.more c.first_term-head.result c.other_terms-tail.result.now (omega (arith, n.0, h)) (omega (arith, n.1, h)) e
    (c.other_terms-tail.ensures c.first_term-head.result ∙ ap (λ i. i ∷ c.other_terms-tail.result.now) (sym c.first_term-head.ensures)) in
    (omega (arith, n.1), (within, (ask_later s s1 k c.args.look c.in-Cell.more c.other_terms-tail.result.now both.1, r.held)))

pub returns-in_ok-ask_all-in-Cell-clause-tests : goal.returns-in_ok-ask_all-in-Cell-clause-tests
returns-in_ok-ask_all-in-Cell-clause-tests g t c =
    let s = g.G.Grow.trees c.args.g.now in
    let s1 = g.G.Grow.trees c.ask_all-in-Cell.new.g in
    let e : tree_at s c.args.pattern ≡ Two HCell (tree_at s c.in-Cell.first) (tree_at s c.in-Cell.more) = rw c.store.ensures at c.in-Cell.ensures.tree in
    let n = c.in-Cell.ensures.below in
    let r = c.in_ok-ask_all-in-Cell.ensures in
    let k : Grows s s1 = g.met.G.Grow.keeps_trees _ _ r.grows in
    let y = c.requires.ready in
    let q = c.other_terms-tail.ensures c.first_term-head.result ∙ ap (λ i. i ∷ c.other_terms-tail.result.now) (sym c.first_term-head.ensures) in
    let hr = (subst (HoldTerms s) q y.terms_held).1 in
    on_ok_weaker c.ask_all-in-Cell-2.result (λ h.
    (cell_made s c.args.look c.args.made.now.items c.args.bound.now.items s1 (g.G.Grow.trees c.ask_all-in-Cell-2.new.g) k (tree_at s c.args.pattern) c.in-Cell.first c.in-Cell.more c.first_term-head.result c.args.terms.now c.other_terms-tail.result.now
    c.ask_all-in-Cell.new.made.items c.ask_all-in-Cell.new.bound.items c.ask_all-in-Cell-2.new.made.items c.ask_all-in-Cell-2.new.bound.items y.look_held (omega (arith, n.1, y.pattern_held)) hr e q (record { tests = r.tests; terms = r.terms }) (record { tests = h.0; terms = h.1 })).tests)
    (on_ok_both _ _ c.ask_all-in-Cell-2.result c.ask_all-in-Cell-2.ensures.tests c.ask_all-in-Cell-2.ensures.terms)

pub returns-in_ok-ask_all-in-Cell-clause-terms : goal.returns-in_ok-ask_all-in-Cell-clause-terms
returns-in_ok-ask_all-in-Cell-clause-terms g t c =
    let s = g.G.Grow.trees c.args.g.now in
    let s1 = g.G.Grow.trees c.ask_all-in-Cell.new.g in
    let e : tree_at s c.args.pattern ≡ Two HCell (tree_at s c.in-Cell.first) (tree_at s c.in-Cell.more) = rw c.store.ensures at c.in-Cell.ensures.tree in
    let n = c.in-Cell.ensures.below in
    let r = c.in_ok-ask_all-in-Cell.ensures in
    let k : Grows s s1 = g.met.G.Grow.keeps_trees _ _ r.grows in
    let y = c.requires.ready in
    let q = c.other_terms-tail.ensures c.first_term-head.result ∙ ap (λ i. i ∷ c.other_terms-tail.result.now) (sym c.first_term-head.ensures) in
    let hr = (subst (HoldTerms s) q y.terms_held).1 in
    on_ok_weaker c.ask_all-in-Cell-2.result (λ h.
    (cell_made s c.args.look c.args.made.now.items c.args.bound.now.items s1 (g.G.Grow.trees c.ask_all-in-Cell-2.new.g) k (tree_at s c.args.pattern) c.in-Cell.first c.in-Cell.more c.first_term-head.result c.args.terms.now c.other_terms-tail.result.now
    c.ask_all-in-Cell.new.made.items c.ask_all-in-Cell.new.bound.items c.ask_all-in-Cell-2.new.made.items c.ask_all-in-Cell-2.new.bound.items y.look_held (omega (arith, n.1, y.pattern_held)) hr e q (record { tests = r.tests; terms = r.terms }) (record { tests = h.0; terms = h.1 })).terms)
    (on_ok_both _ _ c.ask_all-in-Cell-2.result c.ask_all-in-Cell-2.ensures.tests c.ask_all-in-Cell-2.ensures.terms)

pub open_term-requires-clause-results : goal.open_term-requires-clause-results
open_term-requires-clause-results g t c =
    let s = g.G.Grow.trees c.args.g.now in
    let e : tree_at s c.args.pattern ≡ Three (HPatCon c.in-PatCon.constructor) (tree_at s c.in-PatCon.types) (tree_at s c.in-PatCon.parts) (tree_at s c.in-PatCon.field-3) = rw c.store.ensures at c.in-PatCon.ensures.tree in
    con_results s c.args.look c.args.pattern c.args.terms.now c.requires.ready c.in-PatCon.constructor (tree_at s c.in-PatCon.types) (tree_at s c.in-PatCon.parts) (tree_at s c.in-PatCon.field-3) e

pub ask_all-requires-in-PatCon : goal.ask_all-requires-in-PatCon
ask_all-requires-in-PatCon g t c κs within =
    let s = g.G.Grow.trees c.args.g.now in
    let s1 = g.G.Grow.trees c.open_term.new.g in
    let con = c.in-PatCon.constructor in
    let e : tree_at s c.args.pattern ≡ Three (HPatCon con) (tree_at s c.in-PatCon.types) (tree_at s c.in-PatCon.parts) (tree_at s c.in-PatCon.field-3) = rw c.store.ensures at c.in-PatCon.ensures.tree in
    let n = c.in-PatCon.ensures.below in
    let o = c.in_ok-opened-in-PatCon.ensures in
    let k : Grows s s1 = g.met.G.Grow.keeps_trees _ _ o.grows in
    let y = c.requires.ready in
    let parts_held : Holds s c.in-PatCon.parts = omega (arith, n.1, y.pattern_held) in
    let e1 : tree_at s1 c.args.pattern ≡ Three (HPatCon con) (tree_at s c.in-PatCon.types) (tree_at s c.in-PatCon.parts) (tree_at s c.in-PatCon.field-3) = k.same c.args.pattern.0 y.pattern_held ∙ e in
    let v = c.as_slice-inner.ensures.value in
    let len : length c.as_slice-inner.result.now ≡ length (constructor_projections (task_under s1 c.args.look) con) =
    ap length v ∙ fields_length s s1 c.in_ok-opened-in-PatCon.opened.fields.items (task_under s c.args.look) (constructor_projections (task_under s c.args.look) con) (tree_at s c.in-PatCon.types) (tree_at s c.first_term-term.result) o.fields
    ∙ ap (λ z. length (constructor_projections z con)) (sym (under_later s s1 k c.args.look y.look_held)) in
    let ready = in_parts s1 c.args.look c.args.pattern c.args.terms.now (ask_later s s1 k c.args.look c.args.pattern c.args.terms.now y) con (tree_at s c.in-PatCon.types) (tree_at s c.in-PatCon.parts) (tree_at s c.in-PatCon.field-3) e1 c.in-PatCon.parts c.as_slice-inner.result.now
    (omega (arith, parts_held, k.longer)) (k.same c.in-PatCon.parts.0 parts_held) (subst (HoldTerms s1) (sym v) o.fields_held) len in
    let made = subst (AreHeldOfSort Formula s1) (sym c.in_ok-push-in-PatCon.ensures.items) (held_after Formula s1 c.args.made.now.items c.in_ok-opened-in-PatCon.opened.equation (held_stays Formula s s1 c.args.made.now.items k c.requires.held.tests) o.equation_held.0.0 o.equation_held.0.1) in
    (omega (arith, n.1), (within, (ready, record { tests = made; terms = held_stays Term s s1 c.args.bound.now.items k c.requires.held.terms })))

pub returns-in_ok-push-in-PatCon-clause-tests : goal.returns-in_ok-push-in-PatCon-clause-tests
returns-in_ok-push-in-PatCon-clause-tests g t c =
    let s = g.G.Grow.trees c.args.g.now in
    let s1 = g.G.Grow.trees c.open_term.new.g in
    let con = c.in-PatCon.constructor in
    let e : tree_at s c.args.pattern ≡ Three (HPatCon con) (tree_at s c.in-PatCon.types) (tree_at s c.in-PatCon.parts) (tree_at s c.in-PatCon.field-3) = rw c.store.ensures at c.in-PatCon.ensures.tree in
    let o = c.in_ok-opened-in-PatCon.ensures in
    let k : Grows s s1 = g.met.G.Grow.keeps_trees _ _ o.grows in
    let y = c.requires.ready in
    let one = con_single s c.args.look c.args.pattern c.args.terms.now y con (tree_at s c.in-PatCon.types) (tree_at s c.in-PatCon.parts) (tree_at s c.in-PatCon.field-3) e in
    on_ok_weaker c.ask_all-in-PatCon.result (λ h.
    (con_made s c.args.look c.args.made.now.items c.args.bound.now.items s1 (g.G.Grow.trees c.ask_all-in-PatCon.new.g) k con (tree_at s c.args.pattern) (tree_at s c.in-PatCon.types) (tree_at s c.in-PatCon.field-3) c.in-PatCon.parts c.first_term-term.result c.first_term-term.result
    c.in_ok-opened-in-PatCon.opened.equation c.args.terms.now c.as_slice-inner.result.now c.push-in-PatCon.new.self.items c.ask_all-in-PatCon.new.made.items c.ask_all-in-PatCon.new.bound.items c.requires.held y.look_held (omega (arith, c.in-PatCon.ensures.below.1, y.pattern_held))
    e one c.first_term-term.ensures c.in_ok-push-in-PatCon.ensures.items o.equation (ap (trees_at s1) c.as_slice-inner.ensures.value ∙ o.fields) (record { tests = h.0; terms = h.1 })).tests)
    (on_ok_both _ _ c.ask_all-in-PatCon.result c.ask_all-in-PatCon.ensures.tests c.ask_all-in-PatCon.ensures.terms)

pub returns-in_ok-push-in-PatCon-clause-terms : goal.returns-in_ok-push-in-PatCon-clause-terms
returns-in_ok-push-in-PatCon-clause-terms g t c =
    let s = g.G.Grow.trees c.args.g.now in
    let s1 = g.G.Grow.trees c.open_term.new.g in
    let con = c.in-PatCon.constructor in
    let e : tree_at s c.args.pattern ≡ Three (HPatCon con) (tree_at s c.in-PatCon.types) (tree_at s c.in-PatCon.parts) (tree_at s c.in-PatCon.field-3) = rw c.store.ensures at c.in-PatCon.ensures.tree in
    let o = c.in_ok-opened-in-PatCon.ensures in
    let k : Grows s s1 = g.met.G.Grow.keeps_trees _ _ o.grows in
    let y = c.requires.ready in
    let one = con_single s c.args.look c.args.pattern c.args.terms.now y con (tree_at s c.in-PatCon.types) (tree_at s c.in-PatCon.parts) (tree_at s c.in-PatCon.field-3) e in
    on_ok_weaker c.ask_all-in-PatCon.result (λ h.
    (con_made s c.args.look c.args.made.now.items c.args.bound.now.items s1 (g.G.Grow.trees c.ask_all-in-PatCon.new.g) k con (tree_at s c.args.pattern) (tree_at s c.in-PatCon.types) (tree_at s c.in-PatCon.field-3) c.in-PatCon.parts c.first_term-term.result c.first_term-term.result
    c.in_ok-opened-in-PatCon.opened.equation c.args.terms.now c.as_slice-inner.result.now c.push-in-PatCon.new.self.items c.ask_all-in-PatCon.new.made.items c.ask_all-in-PatCon.new.bound.items c.requires.held y.look_held (omega (arith, c.in-PatCon.ensures.below.1, y.pattern_held))
    e one c.first_term-term.ensures c.in_ok-push-in-PatCon.ensures.items o.equation (ap (trees_at s1) c.as_slice-inner.ensures.value ∙ o.fields) (record { tests = h.0; terms = h.1 })).terms)
    (on_ok_both _ _ c.ask_all-in-PatCon.result c.ask_all-in-PatCon.ensures.tests c.ask_all-in-PatCon.ensures.terms)

pub returns-in_ok-push-in-PatCon-clause-grows : goal.returns-in_ok-push-in-PatCon-clause-grows
returns-in_ok-push-in-PatCon-clause-grows g t c = g.met.G.Grow.grows_trans _ _ _ c.in_ok-opened-in-PatCon.ensures.grows c.ask_all-in-PatCon.ensures.grows

pub returns-in_ok-push-in-PatVar-clause-held : goal.returns-in_ok-push-in-PatVar-clause-held
returns-in_ok-push-in-PatVar-clause-held g t c =
    let s = g.G.Grow.trees c.args.g.now in
    let e : tree_at s c.args.pattern ≡ One HPatVar (tree_at s c.in-PatVar.field-0) = rw c.store.ensures at c.in-PatVar.ensures.tree in
    let y = c.requires.ready in
    let h = first_held Term s c.args.terms.now c.first_term-only.result y.terms_held (var_single s c.args.look c.args.pattern c.args.terms.now (tree_at s c.in-PatVar.field-0) y e) c.first_term-only.ensures in
    record { tests = c.requires.held.tests; terms = subst (HoldTerms s) (sym c.in_ok-push-in-PatVar.ensures.items) (held_after Term s c.args.bound.now.items c.first_term-only.result c.requires.held.terms h.0 h.1) }

pub returns-in_ok-push-in-PatAlias-clause-held : goal.returns-in_ok-push-in-PatAlias-clause-held
returns-in_ok-push-in-PatAlias-clause-held g t c =
    let s = g.G.Grow.trees c.args.g.now in
    let s1 = g.G.Grow.trees c.ask_all.new.g in
    let e : tree_at s c.args.pattern ≡ One HPatAlias (tree_at s c.in-PatAlias.inner) = rw c.store.ensures at c.in-PatAlias.ensures.tree in
    let y = c.requires.ready in
    let r = c.in_ok-ask_all-in-PatAlias.ensures in
    let k : Grows s s1 = g.met.G.Grow.keeps_trees _ _ r.grows in
    let one = (in_alias s c.args.look c.args.pattern c.args.terms.now y c.in-PatAlias.inner (omega (arith, c.in-PatAlias.ensures.below, y.pattern_held)) e).1 in
    let h = first_held Term s c.args.terms.now c.first_term-named.result y.terms_held one c.first_term-named.ensures in
    record {
      tests = r.held.tests;
      terms = subst (HoldTerms s1) (sym c.in_ok-push-in-PatAlias.ensures.items) (held_after Term s1 c.ask_all.new.bound.items c.first_term-named.result r.held.terms (omega (arith, h.0, k.longer)) (ap sort_of (k.same c.first_term-named.result.0 h.0) ∙ h.1));
    }

pub returns-in_ok-push-in-PatAlias-clause-terms : goal.returns-in_ok-push-in-PatAlias-clause-terms
returns-in_ok-push-in-PatAlias-clause-terms g t c =
    let s = g.G.Grow.trees c.args.g.now in
    let s1 = g.G.Grow.trees c.ask_all.new.g in
    let e : tree_at s c.args.pattern ≡ One HPatAlias (tree_at s c.in-PatAlias.inner) = rw c.store.ensures at c.in-PatAlias.ensures.tree in
    let y = c.requires.ready in
    let r = c.in_ok-ask_all-in-PatAlias.ensures in
    let k : Grows s s1 = g.met.G.Grow.keeps_trees _ _ r.grows in
    let one = (in_alias s c.args.look c.args.pattern c.args.terms.now y c.in-PatAlias.inner (omega (arith, c.in-PatAlias.ensures.below, y.pattern_held)) e).1 in
    let h = first_held Term s c.args.terms.now c.first_term-named.result y.terms_held one c.first_term-named.ensures in
    (alias_made s c.args.look c.args.made.now.items c.args.bound.now.items s1 k (tree_at s c.args.pattern) (tree_at s c.in-PatAlias.inner) c.args.terms.now c.ask_all.new.made.items c.ask_all.new.bound.items c.push-in-PatAlias.new.self.items c.first_term-named.result c.first_term-named.result
    r.held h.0 e one c.first_term-named.ensures c.in_ok-push-in-PatAlias.ensures.items (record { tests = r.tests; terms = r.terms })).terms

pub node-requires : goal.node-requires
node-requires g t c = subst (λ (z : List Tree). Holds z c.args.pattern) (sym c.store.ensures) c.requires.ready.pattern_held

pub first_term-only-requires : goal.first_term-only-requires
first_term-only-requires g t c =
    let s = g.G.Grow.trees c.args.g.now in
    let e : tree_at s c.args.pattern ≡ One HPatVar (tree_at s c.in-PatVar.field-0) = rw c.store.ensures at c.in-PatVar.ensures.tree in
    let one = var_single s c.args.look c.args.pattern c.args.terms.now (tree_at s c.in-PatVar.field-0) c.requires.ready e in
    omega (arith, one)

pub returns-in_ok-push-in-PatVar-clause-tests : goal.returns-in_ok-push-in-PatVar-clause-tests
returns-in_ok-push-in-PatVar-clause-tests g t c =
    let s = g.G.Grow.trees c.args.g.now in
    let e : tree_at s c.args.pattern ≡ One HPatVar (tree_at s c.in-PatVar.field-0) = rw c.store.ensures at c.in-PatVar.ensures.tree in
    (variable_made s c.args.look c.args.made.now.items c.args.bound.now.items (tree_at s c.args.pattern) (tree_at s c.in-PatVar.field-0) c.args.terms.now c.push.new.self.items c.first_term-only.result c.first_term-only.result c.requires.held e
    (var_single s c.args.look c.args.pattern c.args.terms.now (tree_at s c.in-PatVar.field-0) c.requires.ready e) c.first_term-only.ensures c.in_ok-push-in-PatVar.ensures.items).tests

pub returns-in_ok-push-in-PatVar-clause-terms : goal.returns-in_ok-push-in-PatVar-clause-terms
returns-in_ok-push-in-PatVar-clause-terms g t c =
    let s = g.G.Grow.trees c.args.g.now in
    let e : tree_at s c.args.pattern ≡ One HPatVar (tree_at s c.in-PatVar.field-0) = rw c.store.ensures at c.in-PatVar.ensures.tree in
    (variable_made s c.args.look c.args.made.now.items c.args.bound.now.items (tree_at s c.args.pattern) (tree_at s c.in-PatVar.field-0) c.args.terms.now c.push.new.self.items c.first_term-only.result c.first_term-only.result c.requires.held e
    (var_single s c.args.look c.args.pattern c.args.terms.now (tree_at s c.in-PatVar.field-0) c.requires.ready e) c.first_term-only.ensures c.in_ok-push-in-PatVar.ensures.items).terms

pub returns-in_ok-push-in-PatVar-clause-grows : goal.returns-in_ok-push-in-PatVar-clause-grows
returns-in_ok-push-in-PatVar-clause-grows g t c = g.met.G.Grow.grows_refl _

pub ask_all-requires : goal.ask_all-requires
ask_all-requires g t c κs within =
    let s = g.G.Grow.trees c.args.g.now in
    let e : tree_at s c.args.pattern ≡ One HPatAlias (tree_at s c.in-PatAlias.inner) = rw c.store.ensures at c.in-PatAlias.ensures.tree in
    (omega (arith, c.in-PatAlias.ensures.below), (within, ((in_alias s c.args.look c.args.pattern c.args.terms.now c.requires.ready c.in-PatAlias.inner (omega (arith, c.in-PatAlias.ensures.below, c.requires.ready.pattern_held)) e).0, c.requires.held)))

pub first_term-named-requires : goal.first_term-named-requires
first_term-named-requires g t c =
    let s = g.G.Grow.trees c.args.g.now in
    let e : tree_at s c.args.pattern ≡ One HPatAlias (tree_at s c.in-PatAlias.inner) = rw c.store.ensures at c.in-PatAlias.ensures.tree in
    let one = (in_alias s c.args.look c.args.pattern c.args.terms.now c.requires.ready c.in-PatAlias.inner (omega (arith, c.in-PatAlias.ensures.below, c.requires.ready.pattern_held)) e).1 in
    omega (arith, one)

pub returns-in_ok-push-in-PatAlias-clause-tests : goal.returns-in_ok-push-in-PatAlias-clause-tests
returns-in_ok-push-in-PatAlias-clause-tests g t c =
    let s = g.G.Grow.trees c.args.g.now in
    let e : tree_at s c.args.pattern ≡ One HPatAlias (tree_at s c.in-PatAlias.inner) = rw c.store.ensures at c.in-PatAlias.ensures.tree in
    c.in_ok-ask_all-in-PatAlias.ensures.tests ∙ ap (λ (z : Tree). trees_at s c.args.made.now.items ++ tests (task_under s c.args.look) z (trees_at s c.args.terms.now)) (sym e)

pub returns-in_ok-push-in-PatAlias-clause-grows : goal.returns-in_ok-push-in-PatAlias-clause-grows
returns-in_ok-push-in-PatAlias-clause-grows g t c = c.in_ok-ask_all-in-PatAlias.ensures.grows

pub first_term-head-requires : goal.first_term-head-requires
first_term-head-requires g t c =
    let s = g.G.Grow.trees c.args.g.now in
    let e : tree_at s c.args.pattern ≡ Two HCell (tree_at s c.in-Cell.first) (tree_at s c.in-Cell.more) = rw c.store.ensures at c.in-Cell.ensures.tree in
    cell_some s c.args.look c.args.pattern c.args.terms.now (tree_at s c.in-Cell.first) (tree_at s c.in-Cell.more) c.requires.ready e

pub other_terms-tail-requires : goal.other_terms-tail-requires
other_terms-tail-requires g t c =
    let s = g.G.Grow.trees c.args.g.now in
    let e : tree_at s c.args.pattern ≡ Two HCell (tree_at s c.in-Cell.first) (tree_at s c.in-Cell.more) = rw c.store.ensures at c.in-Cell.ensures.tree in
    cell_some s c.args.look c.args.pattern c.args.terms.now (tree_at s c.in-Cell.first) (tree_at s c.in-Cell.more) c.requires.ready e

pub ask_all-requires-in-Cell : goal.ask_all-requires-in-Cell
ask_all-requires-in-Cell g t c κs within =
    let s = g.G.Grow.trees c.args.g.now in
    let e : tree_at s c.args.pattern ≡ Two HCell (tree_at s c.in-Cell.first) (tree_at s c.in-Cell.more) = rw c.store.ensures at c.in-Cell.ensures.tree in
    let n = c.in-Cell.ensures.below in
    let h = c.requires.ready.pattern_held in
    let both = in_first s c.args.look c.args.pattern c.args.terms.now c.requires.ready c.in-Cell.first c.in-Cell.more c.first_term-head.result c.other_terms-tail.result.now (omega (arith, n.0, h)) (omega (arith, n.1, h)) e
    (c.other_terms-tail.ensures c.first_term-head.result ∙ ap (λ i. i ∷ c.other_terms-tail.result.now) (sym c.first_term-head.ensures)) in
    (omega (arith, n.0), (within, (both.0, c.requires.held)))

pub returns-in_ok-ask_all-in-Cell-clause-held : goal.returns-in_ok-ask_all-in-Cell-clause-held
returns-in_ok-ask_all-in-Cell-clause-held g t c = c.ask_all-in-Cell-2.ensures.held

pub returns-in_ok-ask_all-in-Cell-clause-grows : goal.returns-in_ok-ask_all-in-Cell-clause-grows
returns-in_ok-ask_all-in-Cell-clause-grows g t c = g.met.G.Grow.grows_trans _ _ _ c.in_ok-ask_all-in-Cell.ensures.grows c.ask_all-in-Cell-2.ensures.grows

pub first_term-term-requires : goal.first_term-term-requires
first_term-term-requires g t c =
    let s = g.G.Grow.trees c.args.g.now in
    let e : tree_at s c.args.pattern ≡ Three (HPatCon c.in-PatCon.constructor) (tree_at s c.in-PatCon.types) (tree_at s c.in-PatCon.parts) (tree_at s c.in-PatCon.field-3) = rw c.store.ensures at c.in-PatCon.ensures.tree in
    let one = con_single s c.args.look c.args.pattern c.args.terms.now c.requires.ready c.in-PatCon.constructor (tree_at s c.in-PatCon.types) (tree_at s c.in-PatCon.parts) (tree_at s c.in-PatCon.field-3) e in
    omega (arith, one)

pub open_term-requires-clause-look : goal.open_term-requires-clause-look
open_term-requires-clause-look g t c = c.requires.ready.look_held

pub open_term-requires-clause-types_held : goal.open_term-requires-clause-types_held
open_term-requires-clause-types_held g t c = omega (arith, c.in-PatCon.ensures.below.0, c.requires.ready.pattern_held)

pub open_term-requires-clause-types : goal.open_term-requires-clause-types
open_term-requires-clause-types g t c =
    let s = g.G.Grow.trees c.args.g.now in
    let e : tree_at s c.args.pattern ≡ Three (HPatCon c.in-PatCon.constructor) (tree_at s c.in-PatCon.types) (tree_at s c.in-PatCon.parts) (tree_at s c.in-PatCon.field-3) = rw c.store.ensures at c.in-PatCon.ensures.tree in
    con_kinds s c.args.look c.args.pattern c.args.terms.now c.requires.ready c.in-PatCon.constructor (tree_at s c.in-PatCon.types) (tree_at s c.in-PatCon.parts) (tree_at s c.in-PatCon.field-3) e

pub open_term-requires-clause-term : goal.open_term-requires-clause-term
open_term-requires-clause-term g t c =
    let s = g.G.Grow.trees c.args.g.now in
    let e : tree_at s c.args.pattern ≡ Three (HPatCon c.in-PatCon.constructor) (tree_at s c.in-PatCon.types) (tree_at s c.in-PatCon.parts) (tree_at s c.in-PatCon.field-3) = rw c.store.ensures at c.in-PatCon.ensures.tree in
    first_held Term s c.args.terms.now c.first_term-term.result c.requires.ready.terms_held (con_single s c.args.look c.args.pattern c.args.terms.now c.requires.ready c.in-PatCon.constructor (tree_at s c.in-PatCon.types) (tree_at s c.in-PatCon.parts) (tree_at s c.in-PatCon.field-3) e) c.first_term-term.ensures

pub returns-in_ok-push-in-PatCon-clause-held : goal.returns-in_ok-push-in-PatCon-clause-held
returns-in_ok-push-in-PatCon-clause-held g t c = c.ask_all-in-PatCon.ensures.held

pub returns-in_default-clause-held : goal.returns-in_default-clause-held
returns-in_default-clause-held g t c = c.requires.held

pub returns-in_default-clause-tests : goal.returns-in_default-clause-tests
returns-in_default-clause-tests g t c =
    let s = g.G.Grow.trees c.args.g.now in
    let e : tree_at s c.args.pattern ≡ node_tree s c.node.result = rw c.store.ensures at c.node.ensures.tree in
    let n = no_part (task_under s c.args.look) s c.node.result (trees_at s c.args.terms.now) c.in_default.not-PatVar c.in_default.not-PatAlias c.in_default.not-Cell c.in_default.not-PatCon in
    (nothing_made s c.args.look c.args.made.now.items c.args.bound.now.items (tree_at s c.args.pattern) (trees_at s c.args.terms.now) (ap (λ (z : Tree). tests (task_under s c.args.look) z (trees_at s c.args.terms.now)) e ∙ n.0)
    (ap (λ (z : Tree). pattern_terms (task_under s c.args.look) z (trees_at s c.args.terms.now)) e ∙ n.1)).tests

pub returns-in_default-clause-terms : goal.returns-in_default-clause-terms
returns-in_default-clause-terms g t c =
    let s = g.G.Grow.trees c.args.g.now in
    let e : tree_at s c.args.pattern ≡ node_tree s c.node.result = rw c.store.ensures at c.node.ensures.tree in
    let n = no_part (task_under s c.args.look) s c.node.result (trees_at s c.args.terms.now) c.in_default.not-PatVar c.in_default.not-PatAlias c.in_default.not-Cell c.in_default.not-PatCon in
    (nothing_made s c.args.look c.args.made.now.items c.args.bound.now.items (tree_at s c.args.pattern) (trees_at s c.args.terms.now) (ap (λ (z : Tree). tests (task_under s c.args.look) z (trees_at s c.args.terms.now)) e ∙ n.0)
    (ap (λ (z : Tree). pattern_terms (task_under s c.args.look) z (trees_at s c.args.terms.now)) e ∙ n.1)).terms

pub returns-in_default-clause-grows : goal.returns-in_default-clause-grows
returns-in_default-clause-grows g t c = g.met.G.Grow.grows_refl _

pub returns-in_err-push-in-PatVar-clause-held : goal.returns-in_err-push-in-PatVar-clause-held
returns-in_err-push-in-PatVar-clause-held g t c = no_ok _ _ c.from_residual.result c.from_residual.ensures.1

pub returns-in_err-push-in-PatVar-clause-tests : goal.returns-in_err-push-in-PatVar-clause-tests
returns-in_err-push-in-PatVar-clause-tests g t c = no_ok _ _ c.from_residual.result c.from_residual.ensures.1

pub returns-in_err-push-in-PatVar-clause-terms : goal.returns-in_err-push-in-PatVar-clause-terms
returns-in_err-push-in-PatVar-clause-terms g t c = no_ok _ _ c.from_residual.result c.from_residual.ensures.1

pub returns-in_err-push-in-PatVar-clause-grows : goal.returns-in_err-push-in-PatVar-clause-grows
returns-in_err-push-in-PatVar-clause-grows g t c = g.met.G.Grow.grows_refl _

pub returns-in_err-ask_all-in-PatAlias-clause-held : goal.returns-in_err-ask_all-in-PatAlias-clause-held
returns-in_err-ask_all-in-PatAlias-clause-held g t c = no_ok _ _ c.from_residual-in_err-ask_all-in-PatAlias.result c.from_residual-in_err-ask_all-in-PatAlias.ensures.1

pub returns-in_err-ask_all-in-PatAlias-clause-tests : goal.returns-in_err-ask_all-in-PatAlias-clause-tests
returns-in_err-ask_all-in-PatAlias-clause-tests g t c = no_ok _ _ c.from_residual-in_err-ask_all-in-PatAlias.result c.from_residual-in_err-ask_all-in-PatAlias.ensures.1

pub returns-in_err-ask_all-in-PatAlias-clause-terms : goal.returns-in_err-ask_all-in-PatAlias-clause-terms
returns-in_err-ask_all-in-PatAlias-clause-terms g t c = no_ok _ _ c.from_residual-in_err-ask_all-in-PatAlias.result c.from_residual-in_err-ask_all-in-PatAlias.ensures.1

pub returns-in_err-ask_all-in-PatAlias-clause-grows : goal.returns-in_err-ask_all-in-PatAlias-clause-grows
returns-in_err-ask_all-in-PatAlias-clause-grows g t c = c.in_err-ask_all-in-PatAlias.ensures.grows

pub returns-in_err-push-in-PatAlias-clause-held : goal.returns-in_err-push-in-PatAlias-clause-held
returns-in_err-push-in-PatAlias-clause-held g t c = no_ok _ _ c.from_residual-in_err-push-in-PatAlias.result c.from_residual-in_err-push-in-PatAlias.ensures.1

pub returns-in_err-push-in-PatAlias-clause-tests : goal.returns-in_err-push-in-PatAlias-clause-tests
returns-in_err-push-in-PatAlias-clause-tests g t c = no_ok _ _ c.from_residual-in_err-push-in-PatAlias.result c.from_residual-in_err-push-in-PatAlias.ensures.1

pub returns-in_err-push-in-PatAlias-clause-terms : goal.returns-in_err-push-in-PatAlias-clause-terms
returns-in_err-push-in-PatAlias-clause-terms g t c = no_ok _ _ c.from_residual-in_err-push-in-PatAlias.result c.from_residual-in_err-push-in-PatAlias.ensures.1

pub returns-in_err-push-in-PatAlias-clause-grows : goal.returns-in_err-push-in-PatAlias-clause-grows
returns-in_err-push-in-PatAlias-clause-grows g t c = c.in_ok-ask_all-in-PatAlias.ensures.grows

pub returns-in_err-ask_all-in-Cell-clause-held : goal.returns-in_err-ask_all-in-Cell-clause-held
returns-in_err-ask_all-in-Cell-clause-held g t c = no_ok _ _ c.from_residual-in_err-ask_all-in-Cell.result c.from_residual-in_err-ask_all-in-Cell.ensures.1

pub returns-in_err-ask_all-in-Cell-clause-tests : goal.returns-in_err-ask_all-in-Cell-clause-tests
returns-in_err-ask_all-in-Cell-clause-tests g t c = no_ok _ _ c.from_residual-in_err-ask_all-in-Cell.result c.from_residual-in_err-ask_all-in-Cell.ensures.1

pub returns-in_err-ask_all-in-Cell-clause-terms : goal.returns-in_err-ask_all-in-Cell-clause-terms
returns-in_err-ask_all-in-Cell-clause-terms g t c = no_ok _ _ c.from_residual-in_err-ask_all-in-Cell.result c.from_residual-in_err-ask_all-in-Cell.ensures.1

pub returns-in_err-ask_all-in-Cell-clause-grows : goal.returns-in_err-ask_all-in-Cell-clause-grows
returns-in_err-ask_all-in-Cell-clause-grows g t c = c.in_err-ask_all-in-Cell.ensures.grows

pub returns-in_err-opened-in-PatCon-clause-held : goal.returns-in_err-opened-in-PatCon-clause-held
returns-in_err-opened-in-PatCon-clause-held g t c = no_ok _ _ c.from_residual-in_err-opened-in-PatCon.result c.from_residual-in_err-opened-in-PatCon.ensures.1

pub returns-in_err-opened-in-PatCon-clause-tests : goal.returns-in_err-opened-in-PatCon-clause-tests
returns-in_err-opened-in-PatCon-clause-tests g t c = no_ok _ _ c.from_residual-in_err-opened-in-PatCon.result c.from_residual-in_err-opened-in-PatCon.ensures.1

pub returns-in_err-opened-in-PatCon-clause-terms : goal.returns-in_err-opened-in-PatCon-clause-terms
returns-in_err-opened-in-PatCon-clause-terms g t c = no_ok _ _ c.from_residual-in_err-opened-in-PatCon.result c.from_residual-in_err-opened-in-PatCon.ensures.1

pub returns-in_err-opened-in-PatCon-clause-grows : goal.returns-in_err-opened-in-PatCon-clause-grows
returns-in_err-opened-in-PatCon-clause-grows g t c = c.in_err-opened-in-PatCon.ensures.grows

pub returns-in_err-push-in-PatCon-clause-held : goal.returns-in_err-push-in-PatCon-clause-held
returns-in_err-push-in-PatCon-clause-held g t c = no_ok _ _ c.from_residual-in_err-push-in-PatCon.result c.from_residual-in_err-push-in-PatCon.ensures.1

pub returns-in_err-push-in-PatCon-clause-tests : goal.returns-in_err-push-in-PatCon-clause-tests
returns-in_err-push-in-PatCon-clause-tests g t c = no_ok _ _ c.from_residual-in_err-push-in-PatCon.result c.from_residual-in_err-push-in-PatCon.ensures.1

pub returns-in_err-push-in-PatCon-clause-terms : goal.returns-in_err-push-in-PatCon-clause-terms
returns-in_err-push-in-PatCon-clause-terms g t c = no_ok _ _ c.from_residual-in_err-push-in-PatCon.result c.from_residual-in_err-push-in-PatCon.ensures.1

pub returns-in_err-push-in-PatCon-clause-grows : goal.returns-in_err-push-in-PatCon-clause-grows
returns-in_err-push-in-PatCon-clause-grows g t c = c.in_ok-opened-in-PatCon.ensures.grows
