use Rattle.std.proofs.Common.{◌≡◌, [], ◌∷◌, subst, sym, ap, ◌∙◌, arith}
use Rattle.trees.specs.declared.Sort.TheVariants.{Kind, Term, Formula}
use Rattle.trees.specs.Tree.{Tree, Three, HPatCon}
use Rattle.trees.specs.Node.{tree_at, trees_at, Grows}
use Rattle.trees.specs.Sorts.{sort_of, Fits}
use Rattle.trees.specs.binders.Visits.{HoldTerms, AreHeldOfSort, held_stays}
use Rattle.images.proofs.match_terms.Growing.{look_later, held_after, IsMadeOf, variable_made, alias_made, cell_made, con_made}
use Rattle.step_reading.proofs.quick_steps.NodeForms.{one_long, one_first}
use Rattle.step_reading.proofs.quick_steps.asking.+ask_all.Goals as goal

pub ask_all-requires-in-Cell-2 : goal.ask_all-requires-in-Cell-2
ask_all-requires-in-Cell-2 t c =
    let s = c.args.store.now in
    let s1 = c.ask_all-in-Cell.new.store in
    let n = c.in-Cell.ensures.below in
    let r = c.in_ok-ask_all-in-Cell.ensures in
    let held = subst (HoldTerms s) c.in-Some-split_first.ensures.cases.0 c.requires.terms in
    (omega (arith, n.1), (look_later s s1 r.grows c.args.look c.requires.look, (omega (arith, n.1, c.requires.pattern, r.grows.longer), (held_stays Term s s1 c.in-Some-split_first.tail.now r.grows held.1, r.held))))

pub ask_all-requires-in-PatCon : goal.ask_all-requires-in-PatCon
ask_all-requires-in-PatCon t c =
    let s = c.args.store.now in
    let s1 = c.open_term.new.store in
    let n = c.in-PatCon.ensures.below in
    let o = c.in_ok-opened-in-PatCon.ensures in
    let k : Grows s s1 = o.grows in
    let made = subst (AreHeldOfSort Formula s1) (sym c.in_ok-push-in-PatCon.ensures.items) (held_after Formula s1 c.args.made.now.items c.in_ok-opened-in-PatCon.opened.equation (held_stays Formula s s1 c.args.made.now.items k c.requires.held.tests) o.equation_held.0.0 o.equation_held.0.1) in
    let terms = subst (HoldTerms s1) (sym c.as_slice.ensures.value) o.fields_held in
    (omega (arith, n.1), (look_later s s1 k c.args.look c.requires.look, (omega (arith, n.1, c.requires.pattern, k.longer), (terms, record { tests = made; terms = held_stays Term s s1 c.args.bound.now.items k c.requires.held.terms }))))

pub returns-in_ok-push-in-PatVar-clause-held : goal.returns-in_ok-push-in-PatVar-clause-held
returns-in_ok-push-in-PatVar-clause-held t c =
    let s = c.args.store.now in
    let h = (subst (HoldTerms s) c.in-Some.ensures c.requires.terms).0 in
    record { tests = c.requires.held.tests; terms = subst (HoldTerms s) (sym c.in_ok-push-in-PatVar.ensures.items) (held_after Term s c.args.bound.now.items c.in-Some.only c.requires.held.terms h.0 h.1) }

pub returns-in_ok-push-in-PatAlias-clause-held : goal.returns-in_ok-push-in-PatAlias-clause-held
returns-in_ok-push-in-PatAlias-clause-held t c =
    let s = c.args.store.now in
    let s1 = c.ask_all.new.store in
    let r = c.in_ok-asked-in-PatAlias.ensures in
    let named = c.in-Some-only_term.named in
    let h = (subst (HoldTerms s) c.in-Some-only_term.ensures c.requires.terms).0 in
    record {
      tests = r.held.tests;
      terms = subst (HoldTerms s1) (sym c.in_ok-push-in-PatAlias.ensures.items) (held_after Term s1 c.ask_all.new.bound.items named r.held.terms (omega (arith, h.0, r.grows.longer)) (ap sort_of (r.grows.same named.0 h.0) ∙ h.1));
    }

pub returns-in_ok-push-in-PatAlias-clause-terms : goal.returns-in_ok-push-in-PatAlias-clause-terms
returns-in_ok-push-in-PatAlias-clause-terms t c = λ yes.
    let s = c.args.store.now in
    let r = c.in_ok-asked-in-PatAlias.ensures in
    let named = c.in-Some-only_term.named in
    let ts = c.args.terms.now in
    let q : ts ≡ named ∷ [] = c.in-Some-only_term.ensures in
    let h = (subst (HoldTerms s) q c.requires.terms).0 in
    (alias_made s c.args.look c.args.made.now.items c.args.bound.now.items c.ask_all.new.store r.grows (tree_at s c.args.pattern) (tree_at s c.in-PatAlias.inner) ts c.ask_all.new.made.items c.ask_all.new.bound.items c.push-in-PatAlias.new.self.items named named
    r.held h.0 c.in-PatAlias.ensures.tree (one_long ts named q) (one_first ts named q) c.in_ok-push-in-PatAlias.ensures.items (record { tests = r.tests yes; terms = r.terms yes })).terms

pub returns-in_ok-asked-in-Cell-clause-tests : goal.returns-in_ok-asked-in-Cell-clause-tests
returns-in_ok-asked-in-Cell-clause-tests t c = λ yes.
    let s = c.args.store.now in
    let r = c.in_ok-ask_all-in-Cell.ensures in
    let b = c.in_ok-asked-in-Cell.ensures in
    let q = c.in-Some-split_first.ensures.cases.0 in
    let held = subst (HoldTerms s) q c.requires.terms in
    (cell_made s c.args.look c.args.made.now.items c.args.bound.now.items c.ask_all-in-Cell.new.store c.ask_all-in-Cell-2.new.store r.grows (tree_at s c.args.pattern) c.in-Cell.first c.in-Cell.more c.in-Some-split_first.head.now c.args.terms.now c.in-Some-split_first.tail.now
    c.ask_all-in-Cell.new.made.items c.ask_all-in-Cell.new.bound.items c.ask_all-in-Cell-2.new.made.items c.ask_all-in-Cell-2.new.bound.items c.requires.look (omega (arith, c.in-Cell.ensures.below.1, c.requires.pattern)) held.1 c.in-Cell.ensures.tree q
    (record { tests = r.tests c.if-not-branch.false; terms = r.terms c.if-not-branch.false }) (record { tests = b.tests yes; terms = b.terms yes })).tests

pub returns-in_ok-asked-in-Cell-clause-terms : goal.returns-in_ok-asked-in-Cell-clause-terms
returns-in_ok-asked-in-Cell-clause-terms t c = λ yes.
    let s = c.args.store.now in
    let r = c.in_ok-ask_all-in-Cell.ensures in
    let b = c.in_ok-asked-in-Cell.ensures in
    let q = c.in-Some-split_first.ensures.cases.0 in
    let held = subst (HoldTerms s) q c.requires.terms in
    (cell_made s c.args.look c.args.made.now.items c.args.bound.now.items c.ask_all-in-Cell.new.store c.ask_all-in-Cell-2.new.store r.grows (tree_at s c.args.pattern) c.in-Cell.first c.in-Cell.more c.in-Some-split_first.head.now c.args.terms.now c.in-Some-split_first.tail.now
    c.ask_all-in-Cell.new.made.items c.ask_all-in-Cell.new.bound.items c.ask_all-in-Cell-2.new.made.items c.ask_all-in-Cell-2.new.bound.items c.requires.look (omega (arith, c.in-Cell.ensures.below.1, c.requires.pattern)) held.1 c.in-Cell.ensures.tree q
    (record { tests = r.tests c.if-not-branch.false; terms = r.terms c.if-not-branch.false }) (record { tests = b.tests yes; terms = b.terms yes })).terms

pub returns-in_ok-asked-in-PatCon-clause-tests : goal.returns-in_ok-asked-in-PatCon-clause-tests
returns-in_ok-asked-in-PatCon-clause-tests t c = λ yes.
    let s = c.args.store.now in
    let s1 = c.open_term.new.store in
    let p = c.in-PatCon in
    let o = c.in_ok-opened-in-PatCon.ensures in
    let b = c.in_ok-asked-in-PatCon.ensures in
    let term = c.in-Some-only_term-2.term in
    let ts = c.args.terms.now in
    let q : ts ≡ term ∷ [] = c.in-Some-only_term-2.ensures in
    (con_made s c.args.look c.args.made.now.items c.args.bound.now.items s1 c.ask_all-in-PatCon.new.store o.grows p.constructor (tree_at s c.args.pattern) (tree_at s p.types) (tree_at s p.field-3) p.parts term term
    c.in_ok-opened-in-PatCon.opened.equation ts c.as_slice.result.now c.push-in-PatCon.new.self.items c.ask_all-in-PatCon.new.made.items c.ask_all-in-PatCon.new.bound.items c.requires.held c.requires.look (omega (arith, p.ensures.below.1, c.requires.pattern))
    p.ensures.tree (one_long ts term q) (one_first ts term q) c.in_ok-push-in-PatCon.ensures.items o.equation (ap (trees_at s1) c.as_slice.ensures.value ∙ o.fields) (record { tests = b.tests yes; terms = b.terms yes })).tests

pub returns-in_ok-asked-in-PatCon-clause-terms : goal.returns-in_ok-asked-in-PatCon-clause-terms
returns-in_ok-asked-in-PatCon-clause-terms t c = λ yes.
    let s = c.args.store.now in
    let s1 = c.open_term.new.store in
    let p = c.in-PatCon in
    let o = c.in_ok-opened-in-PatCon.ensures in
    let b = c.in_ok-asked-in-PatCon.ensures in
    let term = c.in-Some-only_term-2.term in
    let ts = c.args.terms.now in
    let q : ts ≡ term ∷ [] = c.in-Some-only_term-2.ensures in
    (con_made s c.args.look c.args.made.now.items c.args.bound.now.items s1 c.ask_all-in-PatCon.new.store o.grows p.constructor (tree_at s c.args.pattern) (tree_at s p.types) (tree_at s p.field-3) p.parts term term
    c.in_ok-opened-in-PatCon.opened.equation ts c.as_slice.result.now c.push-in-PatCon.new.self.items c.ask_all-in-PatCon.new.made.items c.ask_all-in-PatCon.new.bound.items c.requires.held c.requires.look (omega (arith, p.ensures.below.1, c.requires.pattern))
    p.ensures.tree (one_long ts term q) (one_first ts term q) c.in_ok-push-in-PatCon.ensures.items o.equation (ap (trees_at s1) c.as_slice.ensures.value ∙ o.fields) (record { tests = b.tests yes; terms = b.terms yes })).terms
