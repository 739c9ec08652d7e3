use Rattle.std.proofs.Common.{◌∙◌, ◌++◌, List, sym, subst, ap}
use Rattle.trees.proofs.Nodes.{Grows_trans}
use Rattle.tasks.specs.Task.{DeclarationTree}
use Rattle.tasks.specs.Meaning.{symbols_at, declarations_at, DeclHeld}
use Rattle.declarations.proofs.Stored.{own_valid, rule_later, rewritten_more}
use Rattle.declarations.proofs.rewriting.rewritten_decls.Goals as goal

pub push_in_place-requires-clause-valid : goal.push_in_place-requires-clause-valid
push_in_place-requires-clause-valid g c =
    let l = rw c.as_slice-decl-items.ensures at c.loop-decl-test.true in
    let q = rw c.as_slice-decl-items.ensures at c.decl-item.is in
    rw c.deref.ensures (own_valid c.args.store.now c.loop-decl.store c.loop-decl.invariant.grows c.args.task.now c.loop-decl.decl-index c.decl-item.result l q c.requires.held c.requires.valid)

pub loop-decl-preserved : goal.loop-decl-preserved
loop-decl-preserved g c =
    let s = c.args.store.now in
    let s1 = c.loop-decl.store in
    let s2 = c.push_in_place.new.store in
    let t = c.args.task.now in
    let d = c.decl-item.result in
    let f = g.R.RewriteDeclarations.rule c.args.rule.now in
    let l = rw c.as_slice-decl-items.ensures at c.loop-decl-test.true in
    let q = rw c.as_slice-decl-items.ensures at c.decl-item.is in
    let item = subst (DeclHeld s) (sym q) (c.requires.held.decls c.loop-decl.decl-index d l) in
    record {
      grows = Grows_trans s s1 s2 c.loop-decl.invariant.grows c.in_ok-push_in_place.ensures.grows;
      held = c.in_ok-push_in_place.ensures.held;
      made = rewritten_more (f (symbols_at s t.sig.value.symbols)) s t.decls c.loop-decl.decl-index d (declarations_at s1 c.loop-decl.decls.items) (declarations_at s2 c.push_in_place.new.decls.items) l q
          ((rw c.deref.ensures at c.in_ok-push_in_place.ensures.decls) ∙ ap (λ (z : List DeclarationTree). declarations_at s1 c.loop-decl.decls.items ++ z) (rule_later s s1 c.loop-decl.invariant.grows f t.sig.value.symbols d c.requires.held.symbols item))
          c.loop-decl.invariant.made;
    }
