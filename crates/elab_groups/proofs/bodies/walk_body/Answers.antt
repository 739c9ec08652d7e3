use Rattle.std.proofs.Common.{◌≡◌, ◌++◌, [], List, true, false, None, Some, map, reverse, length, refl, sym, ap, ◌∙◌}
use Rattle.std.specs.List.{All}
use Rattle.std.specs.Option.{is_some, is_none}
use Rattle.std.proofs.lemmas.List.{append-nil}
use Rattle.std.proofs.lemmas.List.Elements.{All-nil}
use Rattle.std.proofs.lemmas.Result.{IfOk-weaker}
use Rattle.tasks.specs.trees.declared.TermId.{TermId}
use Rattle.tasks.specs.trees.Node.{tree_at}
use Rattle.tasks.specs.trees.Sorts.{sort_of}
use Rattle.name_resolution.specs.surface.Lexeme.{Word}
use Rattle.name_resolution.specs.Abstract.{expression_of}
use Rattle.name_resolution.specs.Faults.{fault}
use Rattle.name_resolution.specs.Naming.{where_at}
use Rattle.name_resolution.specs.Where.{Where}
use Rattle.open_types.specs.declared.locals.Local.{Local}
use Rattle.open_types.specs.Patterns.{LocalTree}
use Rattle.open_types.specs.Drafts.{HoldsType, local_at, local_name, is_due, due}
use Rattle.elab_groups.specs.parts.Declarations.{with_vars}
use Rattle.elab_groups.specs.members.Members.{words_of_parameters}
use Rattle.elab_groups.specs.members.Sources.{member_at, signed_at}
use Rattle.elab_groups.specs.Groups.{typed_locals, member_piece}
use Rattle.elab_groups.specs.Bodies.{IsBodyWalked}
use Rattle.elab_groups.proofs.BodyLocals.{names_are, due_kind}
use Rattle.elab_groups.proofs.BodiesWalked.{walked_end, walked_body, body_at}
use Rattle.elab_groups.proofs.bodies.walk_body.Goals as goal

pub returns-in_default-clause-walked : goal.returns-in_default-clause-walked
returns-in_default-clause-walked c =
    let s = c.args.store.now in
    let m = member_at c.args.m.now in
    let none : m.body ≡ None = rw c.in_default.is refl in
    walked_end (where_at s c.args.world.now) (length c.args.draft.now.takers) m (signed_at s c.args.signed.now) s c.add.new.self c.args.draft.now c.in_ok-end.end none c.requires.ready c.in_ok-end.ensures.grows c.in_ok-end.ensures.held c.in_ok-end.ensures.tree

pub returns-in_default-clause-sort : goal.returns-in_default-clause-sort
returns-in_default-clause-sort c = λ h. let k : false ≡ true = rw c.in_default.is at h in absurd (cc)

pub walk-requires : goal.walk-requires
walk-requires c =
    let s = c.args.store.now in
    let m = member_at c.args.m.now in
    let w = where_at s c.args.world.now in
    let g = signed_at s c.args.signed.now in
    let own = c.over_vars-own.result in
    let e = expression_of c.in-Some.e.now in
    let ls = c.push_locals.new.list.items in
    let some : m.body ≡ Some e = rw c.in-Some.is refl in
    let given : c.push_param_names.new.list.items ≡ words_of_parameters m.params = rw c.new-names.ensures.items at c.in_ok-push_param_names.ensures in
    let names : c.as_slice.result.now ≡ words_of_parameters m.params = c.as_slice.ensures.value ∙ given in
    let locals : map (local_at s) ls ≡ typed_locals (words_of_parameters m.params) g.args = rw (c.new-list.ensures.items, c.as_slice-2.ensures, names) at (c.in_ok-push_locals.ensures.locals s) in
    let are : map local_name ls ≡ words_of_parameters m.params = names_are s ls (words_of_parameters m.params) g.args locals c.requires.resolved.count in
    let is : where_at s own ≡ with_vars w g.vars = c.over_vars-own.ensures.names s ∙ ap (with_vars w) c.as_slice-3.ensures in
    let none : All (λ (l : Local). HoldsType s l.ty) c.new-list.result.items = rw c.new-list.ensures.items (All-nil (λ (l : Local). HoldsType s l.ty)) in
    let held : All (λ (l : Local). HoldsType s l.ty) ls = c.in_ok-push_locals.ensures.held s (rw c.as_slice-2.ensures c.requires.signed.args) none in
    let bound : List Word = reverse (map local_name c.as_slice-4.result.now) ++ [] in
    let bound_is : bound ≡ reverse (words_of_parameters m.params) = append-nil (reverse (map local_name c.as_slice-4.result.now)) ∙ ap reverse (ap (map local_name) c.as_slice-4.ensures.value ∙ are) in
    let kind : is_due c.args.signed.now.result ≡ is_none m.result = due_kind s c.args.signed.now.result ∙ sym c.requires.resolved.kind in
    let right : fault (where_at s own) false bound (is_due c.args.signed.now.result) e ≡ None =
    ap (λ (v : Where). fault v false bound (is_due c.args.signed.now.result) e) is
    ∙ (ap (λ (xs : List Word). fault (with_vars w g.vars) false xs (is_due c.args.signed.now.result) e) bound_is
    ∙ (ap (λ b. fault (with_vars w g.vars) false (reverse (words_of_parameters m.params)) b e) kind ∙ body_at w m g.vars e some c.requires.resolved.right)) in
    record {
      set = record { world = c.over_vars-own.ensures.held s c.requires.world; locals = (rw c.as_slice-4.ensures.value held, tt); ready = c.requires.ready };
      wanted = c.requires.signed.result;
      resolved = right;
    }

pub returns-clause-walked : goal.returns-clause-walked
returns-clause-walked c =
    let s = c.args.store.now in
    let s1 = c.walk.new.store in
    let d = c.args.draft.now in
    let d1 = c.walk.new.draft in
    let n = length d.takers in
    let m = member_at c.args.m.now in
    let w = where_at s c.args.world.now in
    let g = signed_at s c.args.signed.now in
    let own = c.over_vars-own.result in
    let e = expression_of c.in-Some.e.now in
    let ls = c.push_locals.new.list.items in
    let some : m.body ≡ Some e = rw c.in-Some.is refl in
    let given : c.push_param_names.new.list.items ≡ words_of_parameters m.params = rw c.new-names.ensures.items at c.in_ok-push_param_names.ensures in
    let names : c.as_slice.result.now ≡ words_of_parameters m.params = c.as_slice.ensures.value ∙ given in
    let locals : map (local_at s) ls ≡ typed_locals (words_of_parameters m.params) g.args = rw (c.new-list.ensures.items, c.as_slice-2.ensures, names) at (c.in_ok-push_locals.ensures.locals s) in
    let is : where_at s own ≡ with_vars w g.vars = c.over_vars-own.ensures.names s ∙ ap (with_vars w) c.as_slice-3.ensures in
    let bound : List LocalTree = reverse (map (local_at s) c.as_slice-4.result.now) ++ [] in
    let bound_is : bound ≡ reverse (typed_locals (words_of_parameters m.params) g.args) = append-nil (reverse (map (local_at s) c.as_slice-4.result.now)) ∙ ap reverse (ap (map (local_at s)) c.as_slice-4.ensures.value ∙ locals) in
    IfOk-weaker c.walk.result _ (IsBodyWalked (member_piece w n m g) s d s1 d1)
    (λ id h. walked_body w (where_at s own) n m g e bound (due c.args.signed.now.result) s s1 d d1 id some is bound_is h) c.walk.ensures.walked

pub returns-clause-sort : goal.returns-clause-sort
returns-clause-sort c =
    let m = member_at c.args.m.now in
    IfOk-weaker c.walk.result _ (λ (id : TermId). is_some m.body ≡ true → sort_of (tree_at c.walk.new.store id) ≡ due c.args.signed.now.result) (λ id h k. h.sort) c.walk.ensures.walked
