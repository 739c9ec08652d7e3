use Rattle.std.proofs.Common.{◌≡◌, ◌++◌, [], List, get_or, refl, sym, subst, ap, ◌∙◌}
use Rattle.tasks.specs.declared.declaration.Decl.{Decl}
use Rattle.tasks.specs.Meaning.{definitions_at, body_at, declarations_at, DeclHeld}
use Rattle.inlining.specs.Inlining.{plain_definitions, all_definitions}
use Rattle.tr_inline.specs.full_bodies.Chosen.{chosen}
use Rattle.tr_inline.proofs.full_bodies.Listed.{chosen_inlined, listed_more, listed_all, declaration_step}
use Rattle.tr_inline.proofs.full_bodies.listing.definitions_inlined.Goals as goal

pub push_group-requires-clause-held : goal.push_group-requires-clause-held
push_group-requires-clause-held c =
    let s = c.args.store.now in
    let d = c.decl-item.result in
    let l = rw c.as_slice-decl-items.ensures at c.loop-decl-test.true in
    let q = rw c.as_slice-decl-items.ensures at c.decl-item.is in
    subst (DeclHeld s) (sym q) (c.requires.decls c.loop-decl.decl-index d l)

pub loop-decl-preserved : goal.loop-decl-preserved
loop-decl-preserved c =
    let s = c.args.store.now in
    let m = c.args.mode in
    let xs = c.args.task.now.decls in
    let d = c.decl-item.result in
    let l = rw c.as_slice-decl-items.ensures at c.loop-decl-test.true in
    let q = rw c.as_slice-decl-items.ensures at c.decl-item.is in
    let a = c.in_ok-push_group.ensures in
    let old = c.loop-decl.listed.items in
    record {
      held = a.held;
      made = listed_more s m (λ (ys : List Decl). chosen m (all_definitions (declarations_at s ys))) (λ (x : Decl). chosen m (plain_definitions (body_at s x.body))) (declaration_step s m) xs c.loop-decl.decl-index d l old c.push_group.new.listed.items _
          (a.are ∙ ap (λ (x : Decl). definitions_at s old ++ chosen m (plain_definitions (body_at s x.body))) q) c.loop-decl.invariant.made;
    }

pub returns-clause-are : goal.returns-clause-are
returns-clause-are c =
    let s = c.args.store.now in
    let m = c.args.mode in
    let xs = c.args.task.now.decls in
    let l = rw c.as_slice-decl-items.ensures at c.loop-decl-test.false in
    listed_all s m (λ (ys : List Decl). chosen m (all_definitions (declarations_at s ys))) refl xs c.loop-decl.decl-index l c.loop-decl.listed.items _ c.loop-decl.invariant.made ∙ chosen_inlined m (declarations_at s xs)
