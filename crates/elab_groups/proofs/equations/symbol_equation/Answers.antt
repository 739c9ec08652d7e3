use Rattle.std.proofs.Common.{◌≡◌, List, Some, None, option_map, length, refl, sym, ap, ◌∙◌}
use Rattle.std.proofs.lemmas.Result.{IfOk-weaker}
use Rattle.tasks.specs.trees.declared.TermId.{TermId}
use Rattle.tasks.specs.trees.declared.Op.TheVariants.{Iff}
use Rattle.tasks.specs.trees.declared.Sort.TheVariants.{Kind, Term, Formula}
use Rattle.tasks.specs.trees.Tree.{Tree, Two, Three, HFun, HPred, HEq, HJoin}
use Rattle.tasks.specs.trees.Node.{tree_at, Grows}
use Rattle.tasks.specs.trees.Sorts.{sort_of, IsList}
use Rattle.tasks.proofs.trees.Nodes.{tree_at-grows, Grows_trans}
use Rattle.tasks.specs.Meaning.{trees_at}
use Rattle.tasks.specs.Equations.{cells, type_variables, bound_variables}
use Rattle.open_types.specs.Drafts.{HoldsType}
use Rattle.open_types.proofs.Growing.{type_grows, type_stays, types_stay}
use Rattle.elab_groups.specs.members.Sources.{signed_at}
use Rattle.elab_groups.specs.Groups.{inner_equation}
use Rattle.elab_groups.proofs.equations.symbol_equation.Goals as goal

pub add-requires-clause-fits : goal.add-requires-clause-fits
add-requires-clause-fits c =
    let s = c.args.store.now in
    let s1 = c.variables.new.store in
    let s2 = c.list_of.new.store in
    let s3 = c.parameters_list.new.store in
    let g12 : Grows s s2 = Grows_trans s s1 s2 c.in_ok-own.ensures.grows c.in_ok-types.ensures.grows in
    let g13 : Grows s s3 = Grows_trans s s2 s3 g12 c.in_ok-list.ensures.grows in
    let held : HoldsType s c.in-Some.ty = rw c.in-Some.is at c.requires.signed.result in
    let types : IsList Kind (tree_at s3 c.in_ok-types.types) = rw (tree_at-grows s2 s3 c.in_ok-types.types c.in_ok-list.ensures.grows c.in_ok-types.ensures.held) c.in_ok-types.ensures.list in
    (types, c.in_ok-list.ensures.list, (type_grows s s3 g13 c.in-Some.ty held).kind)

pub add-requires-in-Some-clause-fits : goal.add-requires-in-Some-clause-fits
add-requires-in-Some-clause-fits c =
    let s = c.args.store.now in
    let s1 = c.variables.new.store in
    let s2 = c.list_of.new.store in
    let s3 = c.parameters_list.new.store in
    let g12 : Grows s s2 = Grows_trans s s1 s2 c.in_ok-own.ensures.grows c.in_ok-types.ensures.grows in
    let g13 : Grows s s3 = Grows_trans s s2 s3 g12 c.in_ok-list.ensures.grows in
    let s4 = c.add.new.self in
    let left : sort_of (tree_at s4 c.in_ok-left-in-Some.left) ≡ Term = ap sort_of c.in_ok-left-in-Some.ensures.tree in
    let due_term : sort_of (tree_at s c.args.body) ≡ Term = rw c.in-Some.is at c.requires.body.sort in
    let body : sort_of (tree_at s4 c.args.body) ≡ Term = ap sort_of (tree_at-grows s s4 c.args.body (Grows_trans s s3 s4 g13 c.in_ok-left-in-Some.ensures.grows) c.requires.body.held) ∙ due_term in
    ((left, body), tt)

pub add-requires-in-None-clause-fits : goal.add-requires-in-None-clause-fits
add-requires-in-None-clause-fits c =
    let s = c.args.store.now in
    let s1 = c.variables.new.store in
    let s2 = c.list_of.new.store in
    let s3 = c.parameters_list.new.store in
    let g12 : Grows s s2 = Grows_trans s s1 s2 c.in_ok-own.ensures.grows c.in_ok-types.ensures.grows in
    let g13 : Grows s s3 = Grows_trans s s2 s3 g12 c.in_ok-list.ensures.grows in
    let types : IsList Kind (tree_at s3 c.in_ok-types.types) = rw (tree_at-grows s2 s3 c.in_ok-types.types c.in_ok-list.ensures.grows c.in_ok-types.ensures.held) c.in_ok-types.ensures.list in
    ((types, c.in_ok-list.ensures.list), tt)

pub add-requires-in-None-2-clause-fits : goal.add-requires-in-None-2-clause-fits
add-requires-in-None-2-clause-fits c =
    let s = c.args.store.now in
    let s1 = c.variables.new.store in
    let s2 = c.list_of.new.store in
    let s3 = c.parameters_list.new.store in
    let g12 : Grows s s2 = Grows_trans s s1 s2 c.in_ok-own.ensures.grows c.in_ok-types.ensures.grows in
    let g13 : Grows s s3 = Grows_trans s s2 s3 g12 c.in_ok-list.ensures.grows in
    let s4 = c.add-in-None.new.self in
    let left : sort_of (tree_at s4 c.in_ok-left-in-None.left) ≡ Formula = ap sort_of c.in_ok-left-in-None.ensures.tree in
    let due_formula : sort_of (tree_at s c.args.body) ≡ Formula = rw c.in-None.is at c.requires.body.sort in
    let body : sort_of (tree_at s4 c.args.body) ≡ Formula = ap sort_of (tree_at-grows s s4 c.args.body (Grows_trans s s3 s4 g13 c.in_ok-left-in-None.ensures.grows) c.requires.body.held) ∙ due_formula in
    ((left, body), tt)

pub returns-in-Some-clause-tree : goal.returns-in-Some-clause-tree
returns-in-Some-clause-tree c =
    let s = c.args.store.now in
    let s1 = c.variables.new.store in
    let s2 = c.list_of.new.store in
    let s3 = c.parameters_list.new.store in
    let g12 : Grows s s2 = Grows_trans s s1 s2 c.in_ok-own.ensures.grows c.in_ok-types.ensures.grows in
    let g13 : Grows s s3 = Grows_trans s s2 s3 g12 c.in_ok-list.ensures.grows in
    let held : HoldsType s c.in-Some.ty = rw c.in-Some.is at c.requires.signed.result in
    let g = signed_at s c.args.signed.now in
    let own : tree_at s3 c.in_ok-types.types ≡ cells (type_variables 0 (length g.vars)) =
    tree_at-grows s2 s3 c.in_ok-types.types c.in_ok-list.ensures.grows c.in_ok-types.ensures.held ∙ (c.in_ok-types.ensures.tree ∙ ap cells (ap (trees_at s1) c.as_slice.ensures.value ∙ (c.in_ok-own.ensures.trees ∙ ap (type_variables 0) c.len.ensures))) in
    let list : tree_at s3 c.in_ok-list.list ≡ cells (bound_variables g.args) =
    c.in_ok-list.ensures.tree ∙ ap (λ (ts : List Tree). cells (bound_variables ts)) (ap (trees_at s2) c.as_slice-2.ensures ∙ types_stay s s2 g12 c.args.signed.now.args c.requires.signed.args) in
    let s4 = c.add.new.self in
    let ty : tree_at s3 c.in-Some.ty ≡ tree_at s c.in-Some.ty = type_stays s s3 g13 c.in-Some.ty held in
    let here : tree_at s4 c.in_ok-left-in-Some.left ≡ Three (HFun c.args.number) (cells (type_variables 0 (length g.vars))) (cells (bound_variables g.args)) (tree_at s c.in-Some.ty) = c.in_ok-left-in-Some.ensures.tree ∙ cc (own, list, ty) in
    let body : tree_at s4 c.args.body ≡ tree_at s c.args.body = tree_at-grows s s4 c.args.body (Grows_trans s s3 s4 g13 c.in_ok-left-in-Some.ensures.grows) c.requires.body.held in
    let e : option_map (tree_at s) c.args.signed.now.result ≡ Some (tree_at s c.in-Some.ty) = rw c.in-Some.is refl in
    let is : Two HEq (tree_at s4 c.in_ok-left-in-Some.left) (tree_at s4 c.args.body) ≡ inner_equation c.args.number g (Some (tree_at s c.in-Some.ty)) (tree_at s c.args.body) =
    ap (λ (x : Tree). Two HEq x (tree_at s4 c.args.body)) here ∙ ap (Two HEq (Three (HFun c.args.number) (cells (type_variables 0 (length g.vars))) (cells (bound_variables g.args)) (tree_at s c.in-Some.ty))) body in
    IfOk-weaker c.add-in-Some.result _ (λ (id : TermId). tree_at c.add-in-Some.new.self id ≡ inner_equation c.args.number g (option_map (tree_at s) c.args.signed.now.result) (tree_at s c.args.body))
    (λ id h. h ∙ (is ∙ sym (ap (λ r. inner_equation c.args.number g r (tree_at s c.args.body)) e))) c.add-in-Some.ensures.tree

pub returns-clause-tree : goal.returns-clause-tree
returns-clause-tree c =
    let s = c.args.store.now in
    let s1 = c.variables.new.store in
    let s2 = c.list_of.new.store in
    let s3 = c.parameters_list.new.store in
    let g12 : Grows s s2 = Grows_trans s s1 s2 c.in_ok-own.ensures.grows c.in_ok-types.ensures.grows in
    let g13 : Grows s s3 = Grows_trans s s2 s3 g12 c.in_ok-list.ensures.grows in
    let g = signed_at s c.args.signed.now in
    let own : tree_at s3 c.in_ok-types.types ≡ cells (type_variables 0 (length g.vars)) =
    tree_at-grows s2 s3 c.in_ok-types.types c.in_ok-list.ensures.grows c.in_ok-types.ensures.held ∙ (c.in_ok-types.ensures.tree ∙ ap cells (ap (trees_at s1) c.as_slice.ensures.value ∙ (c.in_ok-own.ensures.trees ∙ ap (type_variables 0) c.len.ensures))) in
    let list : tree_at s3 c.in_ok-list.list ≡ cells (bound_variables g.args) =
    c.in_ok-list.ensures.tree ∙ ap (λ (ts : List Tree). cells (bound_variables ts)) (ap (trees_at s2) c.as_slice-2.ensures ∙ types_stay s s2 g12 c.args.signed.now.args c.requires.signed.args) in
    let s4 = c.add-in-None.new.self in
    let here : tree_at s4 c.in_ok-left-in-None.left ≡ Two (HPred c.args.number) (cells (type_variables 0 (length g.vars))) (cells (bound_variables g.args)) = c.in_ok-left-in-None.ensures.tree ∙ cc (own, list) in
    let body : tree_at s4 c.args.body ≡ tree_at s c.args.body = tree_at-grows s s4 c.args.body (Grows_trans s s3 s4 g13 c.in_ok-left-in-None.ensures.grows) c.requires.body.held in
    let e : option_map (tree_at s) c.args.signed.now.result ≡ None = rw c.in-None.is refl in
    let is : Two (HJoin Iff) (tree_at s4 c.in_ok-left-in-None.left) (tree_at s4 c.args.body) ≡ inner_equation c.args.number g None (tree_at s c.args.body) =
    ap (λ (x : Tree). Two (HJoin Iff) x (tree_at s4 c.args.body)) here ∙ ap (Two (HJoin Iff) (Two (HPred c.args.number) (cells (type_variables 0 (length g.vars))) (cells (bound_variables g.args)))) body in
    IfOk-weaker c.add-in-None-2.result _ (λ (id : TermId). tree_at c.add-in-None-2.new.self id ≡ inner_equation c.args.number g (option_map (tree_at s) c.args.signed.now.result) (tree_at s c.args.body))
    (λ id h. h ∙ (is ∙ sym (ap (λ r. inner_equation c.args.number g r (tree_at s c.args.body)) e))) c.add-in-None-2.ensures.tree
