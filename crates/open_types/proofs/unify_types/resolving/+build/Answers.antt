use Rattle.std.proofs.Common.{rules, ◌≡◌, ◌<◌, List, Bool, true, false, length, ◌∙◌, sym, ap, subst}
use Rattle.std.proofs.lemmas.Result.{IfOk-weaker}
use Rattle.trees.specs.Tree.{Tree, Two, HTyApp, HCell}
use Rattle.trees.specs.Node.{tree_at, Holds, Grows}
use Rattle.trees.specs.declared.TermId.{TermId}
use Rattle.open_types.specs.unify_types.Assigned.{assign, IsTypeOrTypes}
use Rattle.open_types.specs.unify_types.Bound.{Binding, resolve, IsTriangular, bound_over, BindingsHeld, AreUnderSubstitution}
use Rattle.open_types.proofs.unify_types.Resolved.{on_ok, tree_grown, held_grown, over_grown, are_held_grown, bound_held, bound_type, assign-bound, assign-free, one_list, two_first, two_rest, resolved_list, resolved_rest, resolved_no_list, resolved_grown, resolved_insert}
use Rattle.open_types.proofs.unify_types.resolving.+build.Goals as goal

pub build-returns-in-Some-clause-held : goal.build-returns-in-Some-clause-held
build-returns-in-Some-clause-held t c = (c.requires.known c.args.e.0 c.in-Some.made.now (sym c.in-Some.ensures.value)).1

pub build-returns-clause-known : goal.build-returns-clause-known
build-returns-clause-known t c =
    resolved_insert c.args.rigid (bound_over c.args.store.now c.args.bindings.now) c.build_node.new.store c.build_node.new.known c.insert.new.self c.args.e c.in_ok-made.made
    c.in_ok-made.ensures.known
    (held_grown c.args.store.now c.build_node.new.store c.args.e c.in_ok-made.ensures.grows c.requires.e_held)
    c.in_ok-made.ensures.held
    (c.in_ok-made.ensures.tree ∙ ap (assign c.args.rigid (resolve c.args.rigid (bound_over c.args.store.now c.args.bindings.now))) (sym (tree_grown c.args.store.now c.build_node.new.store c.args.e c.in_ok-made.ensures.grows c.requires.e_held)))
    c.in_ok-insert.ensures.updates.0

pub build_node-build-requires : goal.build_node-build-requires
build_node-build-requires t c =
    let held : c.in-Some.ty.0 < length c.args.store.now = bound_held c.args.store.now c.in-TyVar.j c.in-Some.ty c.args.bindings.now c.requires.bound (sym c.in-Some.ensures) in
    let typed : (k : Bool) × IsTypeOrTypes k (tree_at c.args.store.now c.in-Some.ty) = (true, bound_type c.args.rigid c.args.store.now c.in-TyVar.j c.in-Some.ty c.args.bindings.now c.requires.triangular (sym c.in-Some.ensures)) in
    search rules

pub build_node-add-requires-clause-fits : goal.build_node-add-requires-clause-fits
build_node-add-requires-clause-fits t c =
    resolved_list c.args.rigid (bound_over c.args.store.now c.args.bindings.now) (tree_at c.args.store.now c.in-TyApp.a) _ c.requires.triangular
    (one_list (tree_at c.args.store.now c.args.e) (HTyApp c.in-TyApp.s) (tree_at c.args.store.now c.in-TyApp.a) c.in-TyApp.ensures.tree c.requires.typed)
    c.in_ok-a-in-TyApp.ensures.tree

pub build_node-build-requires-in-Cell-2 : goal.build_node-build-requires-in-Cell-2
build_node-build-requires-in-Cell-2 t c =
    let s = c.args.store.now in
    let s' = c.build-in-Cell.new.store in
    let grows : Grows s s' = c.in_ok-a-in-Cell.ensures.grows in
    let b_held : Holds s c.in-Cell.b = search rules in
    let same : bound_over s' c.args.bindings.now ≡ bound_over s c.args.bindings.now = over_grown s s' c.args.bindings.now grows c.requires.bound in
    let held : c.in-Cell.b.0 < length s' = held_grown s s' c.in-Cell.b grows b_held in
    let typed : (k : Bool) × IsTypeOrTypes k (tree_at s' c.in-Cell.b) = (false, subst (IsTypeOrTypes false) (sym (tree_grown s s' c.in-Cell.b grows b_held)) (two_rest (tree_at s c.args.e) HCell (tree_at s c.in-Cell.a) (tree_at s c.in-Cell.b) c.in-Cell.ensures.tree c.requires.typed)) in
    let bound : BindingsHeld s' c.args.bindings.now = are_held_grown s s' c.args.bindings.now grows c.requires.bound in
    let triangular : IsTriangular c.args.rigid (bound_over s' c.args.bindings.now) = subst (IsTriangular c.args.rigid) (sym same) c.requires.triangular in
    let known : AreUnderSubstitution c.args.rigid (bound_over s' c.args.bindings.now) s' c.build-in-Cell.new.known = subst (λ (bs : List Binding). AreUnderSubstitution c.args.rigid bs s' c.build-in-Cell.new.known) (sym same) c.in_ok-a-in-Cell.ensures.known in
    search rules

pub build_node-add-requires-in-Cell-clause-fits : goal.build_node-add-requires-in-Cell-clause-fits
build_node-add-requires-in-Cell-clause-fits t c =
    let s = c.args.store.now in
    let s' = c.build-in-Cell.new.store in
    let s'' = c.build-in-Cell-2.new.store in
    let bs = bound_over s c.args.bindings.now in
    let grows : Grows s s' = c.in_ok-a-in-Cell.ensures.grows in
    let more : Grows s' s'' = c.in_ok-b-in-Cell.ensures.grows in
    let b_held : Holds s c.in-Cell.b = search rules in
    let same : bound_over s' c.args.bindings.now ≡ bs = over_grown s s' c.args.bindings.now grows c.requires.bound in
    let first : tree_at s'' c.in_ok-a-in-Cell.a ≡ assign c.args.rigid (resolve c.args.rigid bs) (tree_at s c.in-Cell.a) = tree_grown s' s'' c.in_ok-a-in-Cell.a more c.in_ok-a-in-Cell.ensures.held ∙ c.in_ok-a-in-Cell.ensures.tree in
    let rest : tree_at s'' c.in_ok-b-in-Cell.b ≡ assign c.args.rigid (resolve c.args.rigid bs) (tree_at s c.in-Cell.b) = c.in_ok-b-in-Cell.ensures.tree ∙ ap (λ (l : List Binding). assign c.args.rigid (resolve c.args.rigid l) (tree_at s' c.in-Cell.b)) same ∙ ap (assign c.args.rigid (resolve c.args.rigid bs)) (tree_grown s s' c.in-Cell.b grows b_held) in (
      (
        resolved_no_list c.args.rigid bs (tree_at s c.in-Cell.a) (tree_at s'' c.in_ok-a-in-Cell.a) c.requires.triangular (two_first (tree_at s c.args.e) HCell (tree_at s c.in-Cell.a) (tree_at s c.in-Cell.b) c.in-Cell.ensures.tree c.requires.typed) first,
        resolved_rest c.args.rigid bs (tree_at s c.in-Cell.a) (tree_at s c.in-Cell.b) (tree_at s'' c.in_ok-a-in-Cell.a) (tree_at s'' c.in_ok-b-in-Cell.b) c.requires.triangular
            (two_first (tree_at s c.args.e) HCell (tree_at s c.in-Cell.a) (tree_at s c.in-Cell.b) c.in-Cell.ensures.tree c.requires.typed)
            (two_rest (tree_at s c.args.e) HCell (tree_at s c.in-Cell.a) (tree_at s c.in-Cell.b) c.in-Cell.ensures.tree c.requires.typed)
            first rest,
      ),
      tt,
    )

pub build_node-returns-in-Some-clause-tree : goal.build_node-returns-in-Some-clause-tree
build_node-returns-in-Some-clause-tree t c =
    let is = assign-bound c.args.rigid c.args.store.now c.in-TyVar.j c.in-Some.ty c.args.bindings.now (tree_at c.args.store.now c.args.e) c.requires.triangular c.in-Some.ensures c.in-TyVar.ensures.tree in
    IfOk-weaker c.build.result _ _ (λ (id : TermId) h. h ∙ is) c.build.ensures.tree

pub build_node-returns-in-None-clause-tree : goal.build_node-returns-in-None-clause-tree
build_node-returns-in-None-clause-tree t c = assign-free c.args.rigid c.args.store.now c.in-TyVar.j c.args.bindings.now (tree_at c.args.store.now c.args.e) c.in-None.ensures c.in-TyVar.ensures.tree

pub build_node-returns-in_ok-a-in-TyApp-clause-known : goal.build_node-returns-in_ok-a-in-TyApp-clause-known
build_node-returns-in_ok-a-in-TyApp-clause-known t c =
    on_ok c.add.result _ (resolved_grown c.args.rigid (bound_over c.args.store.now c.args.bindings.now) c.build-in-TyApp.new.store c.add.new.self c.build-in-TyApp.new.known c.add.ensures.grows c.in_ok-a-in-TyApp.ensures.known)

pub build_node-returns-in_ok-b-in-Cell-clause-tree : goal.build_node-returns-in_ok-b-in-Cell-clause-tree
build_node-returns-in_ok-b-in-Cell-clause-tree t c =
    let s = c.args.store.now in
    let s' = c.build-in-Cell.new.store in
    let s'' = c.build-in-Cell-2.new.store in
    let bs = bound_over s c.args.bindings.now in
    let grows : Grows s s' = c.in_ok-a-in-Cell.ensures.grows in
    let more : Grows s' s'' = c.in_ok-b-in-Cell.ensures.grows in
    let b_held : Holds s c.in-Cell.b = search rules in
    let same : bound_over s' c.args.bindings.now ≡ bs = over_grown s s' c.args.bindings.now grows c.requires.bound in
    let first : tree_at s'' c.in_ok-a-in-Cell.a ≡ assign c.args.rigid (resolve c.args.rigid bs) (tree_at s c.in-Cell.a) = tree_grown s' s'' c.in_ok-a-in-Cell.a more c.in_ok-a-in-Cell.ensures.held ∙ c.in_ok-a-in-Cell.ensures.tree in
    let rest : tree_at s'' c.in_ok-b-in-Cell.b ≡ assign c.args.rigid (resolve c.args.rigid bs) (tree_at s c.in-Cell.b) = c.in_ok-b-in-Cell.ensures.tree ∙ ap (λ (l : List Binding). assign c.args.rigid (resolve c.args.rigid l) (tree_at s' c.in-Cell.b)) same ∙ ap (assign c.args.rigid (resolve c.args.rigid bs)) (tree_grown s s' c.in-Cell.b grows b_held) in
    let whole : Two HCell (tree_at s'' c.in_ok-a-in-Cell.a) (tree_at s'' c.in_ok-b-in-Cell.b) ≡ assign c.args.rigid (resolve c.args.rigid bs) (tree_at s c.args.e) =
    ap (λ (x : Tree). Two HCell x (tree_at s'' c.in_ok-b-in-Cell.b)) first ∙ ap (λ (y : Tree). Two HCell (assign c.args.rigid (resolve c.args.rigid bs) (tree_at s c.in-Cell.a)) y) rest ∙ ap (assign c.args.rigid (resolve c.args.rigid bs)) (sym c.in-Cell.ensures.tree) in
    IfOk-weaker c.add-in-Cell.result _ _ (λ (id : TermId) h. h ∙ whole) c.add-in-Cell.ensures.tree

pub build_node-returns-in_ok-b-in-Cell-clause-known : goal.build_node-returns-in_ok-b-in-Cell-clause-known
build_node-returns-in_ok-b-in-Cell-clause-known t c =
    let s = c.args.store.now in
    let s' = c.build-in-Cell.new.store in
    let same : bound_over s' c.args.bindings.now ≡ bound_over s c.args.bindings.now = over_grown s s' c.args.bindings.now c.in_ok-a-in-Cell.ensures.grows c.requires.bound in
    let known : AreUnderSubstitution c.args.rigid (bound_over s c.args.bindings.now) c.build-in-Cell-2.new.store c.build-in-Cell-2.new.known = subst (λ (bs : List Binding). AreUnderSubstitution c.args.rigid bs c.build-in-Cell-2.new.store c.build-in-Cell-2.new.known) same c.in_ok-b-in-Cell.ensures.known in
    on_ok c.add-in-Cell.result _ (resolved_grown c.args.rigid (bound_over s c.args.bindings.now) c.build-in-Cell-2.new.store c.add-in-Cell.new.self c.build-in-Cell-2.new.known c.add-in-Cell.ensures.grows known)
