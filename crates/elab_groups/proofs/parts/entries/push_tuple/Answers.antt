use Rattle.std.proofs.Common.{◌≡◌, ℕ, ◌++◌, ◌∷◌, [], codes, length, ap, sym, ◌∙◌, subst}
use Rattle.std.specs.Fmt.{decimal}
use Rattle.std.specs.List.{All}
use Rattle.std.proofs.lemmas.Result.{on_ok_weaker}
use Rattle.tasks.specs.trees.Tree.{Tree, One, HTyApp}
use Rattle.tasks.specs.trees.Node.{tree_at, Grows}
use Rattle.tasks.specs.trees.Facts.{TyVarsBelow}
use Rattle.tasks.proofs.trees.Nodes.{Grows_refl, Grows_trans}
use Rattle.tasks.specs.Meaning.{trees_at}
use Rattle.tasks.specs.Equations.{cells, type_variables}
use Rattle.tasks.specs.Valid.{own_type}
use Rattle.open_types.proofs.Growing.{types_stay}
use Rattle.elab_groups.specs.parts.Entries.{IsExtended, type_entry, builtin}
use Rattle.elab_groups.proofs.parts.Entering.{signature_grows, variables_below, own_below, tuple_extended, unnamed_entries}
use Rattle.elab_groups.proofs.parts.entries.push_tuple.Goals as goal

pub push_constructor-requires-clause-signature : goal.push_constructor-requires-clause-signature
push_constructor-requires-clause-signature c =
    let g = Grows_trans _ _ _ c.in_ok-types.ensures.grows (Grows_trans _ _ _ c.in_ok-list.ensures.grows c.in_ok-ty.ensures.grows) in
    signature_grows c.args.store.now c.add.new.self g c.push_type.new.sig.symbols c.in_ok-push_type.ensures.signature

pub push_constructor-requires-clause-ty_below : goal.push_constructor-requires-clause-ty_below
push_constructor-requires-clause-ty_below c =
    let k = c.len-number.result in
    let n = c.args.width in
    let list : tree_at c.list_of.new.store c.in_ok-list.list ≡ cells (type_variables 0 n) = c.in_ok-list.ensures.tree ∙ (ap (λ ids. cells (trees_at c.variables.new.store ids)) c.as_slice.ensures.value ∙ ap cells c.in_ok-types.ensures.trees) in
    let q : tree_at c.add.new.self c.in_ok-ty.ty ≡ own_type k n = c.in_ok-ty.ensures.tree ∙ ap (One (HTyApp k)) list in
    subst (TyVarsBelow n) (sym q) (own_below k n)

pub push_constructor-requires-clause-fields_below : goal.push_constructor-requires-clause-fields_below
push_constructor-requires-clause-fields_below c =
    let n = c.args.width in
    let g = Grows_trans _ _ _ c.in_ok-list.ensures.grows c.in_ok-ty.ensures.grows in
    let q : trees_at c.add.new.self c.in_ok-types.types.items ≡ type_variables 0 n = types_stay c.variables.new.store c.add.new.self g c.in_ok-types.types.items c.in_ok-types.ensures.held ∙ c.in_ok-types.ensures.trees in
    rw c.as_slice-3.ensures.value (subst (All (TyVarsBelow n)) (sym q) (variables_below n))

pub returns-clause-entries : goal.returns-clause-entries
returns-clause-entries c =
    let k = length c.args.sig.now.symbols in
    let n = c.args.width in
    let s = c.args.store.now in
    let s3 = c.add.new.self in
    let a = c.args.sig.now in
    let b = c.push_type.new.sig in
    let g = Grows_trans _ _ _ c.in_ok-list.ensures.grows c.in_ok-ty.ensures.grows in
    let g3 : Grows s s3 = Grows_trans _ _ _ c.in_ok-types.ensures.grows g in
    let list : tree_at c.list_of.new.store c.in_ok-list.list ≡ cells (type_variables 0 n) = c.in_ok-list.ensures.tree ∙ (ap (λ ids. cells (trees_at c.variables.new.store ids)) c.as_slice.ensures.value ∙ ap cells c.in_ok-types.ensures.trees) in
    let ty : tree_at s3 c.in_ok-ty.ty ≡ own_type k n = c.in_ok-ty.ensures.tree ∙ ap (λ (e : Tree). One (HTyApp c.len-number.result) e) list ∙ ap (λ (j : ℕ). own_type j n) c.len-number.ensures in
    let fields : trees_at s3 c.as_slice-3.result.now ≡ type_variables 0 n = ap (trees_at s3) c.as_slice-3.ensures.value ∙ (types_stay c.variables.new.store s3 g c.in_ok-types.types.items c.in_ok-types.ensures.held ∙ c.in_ok-types.ensures.trees) in
    let h : IsExtended s a s b (type_entry builtin (codes "tuple" ++ decimal n) n ∷ []) = rw c.in_ok-name.ensures at c.in_ok-push_type.ensures in
    on_ok_weaker c.push_constructor.result (λ t. tuple_extended k n g3 (Grows_refl s3) h (rw (unnamed_entries) at (rw (c.as_slice-2.ensures, c.in_ok-name-2.ensures, ty, fields) at t))) c.push_constructor.ensures
