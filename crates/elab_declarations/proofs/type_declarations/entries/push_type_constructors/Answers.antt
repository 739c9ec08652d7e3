use Rattle.std.proofs.Common.{◌≡◌, ℕ, ◌<◌, ◌≤◌, List, [], ◌∷◌, map, length, sym, ap, subst, ◌∙◌}
use Rattle.std.proofs.lemmas.Result.{on_ok_weaker}
use Rattle.trees.specs.Tree.{Tree}
use Rattle.trees.specs.Node.{tree_at}
use Rattle.trees.specs.Facts.{TyVarsBelow}
use Rattle.tasks.specs.Task.{SymbolTree, ConstructorTree}
use Rattle.tasks.specs.Valid.{own_type}
use Rattle.tasks.specs.Meaning.{cons_at}
use Rattle.surface.specs.SurfaceDeclarations.{constructor_of, param_of}
use Rattle.surface.specs.declared.declarations.ParamTree.{ParamTree}
use Rattle.elab_groups.specs.parts.Declarations.{AlgebraicConstructor, record_constructor}
use Rattle.elab_groups.specs.parts.Entries.{IsExtended}
use Rattle.elab_groups.proofs.parts.Entering.{signature_grows, own_below}
use Rattle.elab_declarations.specs.type_declarations.Algebraics.{constructors_in, constructors_of, constructors_entries}
use Rattle.elab_declarations.specs.type_declarations.Held.{AreConsWithin}
use Rattle.elab_declarations.proofs.type_declarations.Placed.{extended_over}
use Rattle.elab_declarations.proofs.type_declarations.Records.{record_alone, no_record}
use Rattle.elab_declarations.proofs.type_declarations.Typed.{cons_grow, cons_stay}
use Rattle.elab_declarations.proofs.type_declarations.entries.push_type_constructors.Goals as goal

-- of a record
pub push_record_entries-requires-clause-signature : goal.push_record_entries-requires-clause-signature
push_record_entries-requires-clause-signature c = signature_grows c.args.store.now c.own_type.new.store c.own_type.ensures.grows c.args.sig.now.symbols c.requires.signature

pub push_record_entries-requires-clause-ty_below : goal.push_record_entries-requires-clause-ty_below
push_record_entries-requires-clause-ty_below c = subst (λ (k : ℕ). TyVarsBelow k (tree_at c.own_type.new.store c.in_ok-ty.ty)) c.len-vars.ensures (subst (TyVarsBelow c.len-vars.result) (sym c.in_ok-ty.ensures.tree) (own_below c.args.alg.now.symbol c.len-vars.result))

pub push_record_entries-requires-clause-typed : goal.push_record_entries-requires-clause-typed
push_record_entries-requires-clause-typed c = rw c.as_slice-cons.ensures (cons_grow c.args.store.now c.own_type.new.store c.own_type.ensures.grows c.args.alg.now.cons c.requires.typed.cons)

pub push_record_entries-requires-clause-below : goal.push_record_entries-requires-clause-below
push_record_entries-requires-clause-below c =
    let s1 = c.own_type.new.store in
    let same = sym (ap (cons_at s1) c.as_slice-cons.ensures ∙ cons_stay c.args.store.now s1 c.own_type.ensures.grows c.args.alg.now.cons c.requires.typed.cons) in
    subst (AreConsWithin (length c.args.source.now.vars)) same c.requires.below

pub returns-in-len1-up-clause-entries : goal.returns-in-len1-up-clause-entries
returns-in-len1-up-clause-entries c =
    let s = c.args.store.now in
    let s1 = c.own_type.new.store in
    let g = c.own_type.ensures.grows in
    let a = c.args.sig.now in
    let b = c.push_record_entries.new.sig in
    let source = c.args.source.now in
    let alg = c.args.alg.now in
    let v = length source.vars in
    let entries : Tree → List AlgebraicConstructor → List ConstructorTree → List SymbolTree = constructors_entries c.args.place.now.theory.now c.args.place.now.within.now v in
    let ks = constructors_in source in
    let ys = cons_at s alg.cons in
    let type : tree_at s1 c.in_ok-ty.ty ≡ own_type alg.symbol v = c.in_ok-ty.ensures.tree ∙ ap (own_type alg.symbol) c.len-vars.ensures in
    let made : record_constructor source.name.text (map param_of source.fields) ∷ [] ≡ ks =
    sym (record_alone source.name.text (map constructor_of source.cons) source.fields (subst (λ (ps : List ParamTree). 1 ≤ length ps) c.as_slice.ensures c.in-len1-up.len_at_least)) in
    let same : cons_at s1 c.as_slice-cons.result.now ≡ ys = ap (cons_at s1) c.as_slice-cons.ensures ∙ cons_stay s s1 g alg.cons c.requires.typed.cons in
    let is : entries (tree_at s1 c.in_ok-ty.ty) (record_constructor source.name.text (map param_of source.fields) ∷ []) (cons_at s1 c.as_slice-cons.result.now) ≡ entries (own_type alg.symbol v) ks ys =
    ap (λ (x : Tree). entries x (record_constructor source.name.text (map param_of source.fields) ∷ []) (cons_at s1 c.as_slice-cons.result.now)) type
    ∙ (ap (λ (us : List AlgebraicConstructor). entries (own_type alg.symbol v) us (cons_at s1 c.as_slice-cons.result.now)) made ∙ ap (entries (own_type alg.symbol v) ks) same) in
    on_ok_weaker c.push_record_entries.result (λ h. extended_over s s1 g a b (entries (own_type alg.symbol v) ks ys) c.requires.signature (subst (IsExtended s1 a s1 b) is h)) c.push_record_entries.ensures

-- of constructors
pub push_constructor_entries-requires-clause-signature : goal.push_constructor_entries-requires-clause-signature
push_constructor_entries-requires-clause-signature c = signature_grows c.args.store.now c.own_type.new.store c.own_type.ensures.grows c.args.sig.now.symbols c.requires.signature

pub push_constructor_entries-requires-clause-ty_below : goal.push_constructor_entries-requires-clause-ty_below
push_constructor_entries-requires-clause-ty_below c = subst (TyVarsBelow c.len-vars.result) (sym c.in_ok-ty.ensures.tree) (own_below c.args.alg.now.symbol c.len-vars.result)

pub push_constructor_entries-requires-clause-typed : goal.push_constructor_entries-requires-clause-typed
push_constructor_entries-requires-clause-typed c = rw c.as_slice-cons.ensures (cons_grow c.args.store.now c.own_type.new.store c.own_type.ensures.grows c.args.alg.now.cons c.requires.typed.cons)

pub push_constructor_entries-requires-clause-below : goal.push_constructor_entries-requires-clause-below
push_constructor_entries-requires-clause-below c =
    let s1 = c.own_type.new.store in
    let same = sym (ap (cons_at s1) c.as_slice-cons.ensures ∙ cons_stay c.args.store.now s1 c.own_type.ensures.grows c.args.alg.now.cons c.requires.typed.cons) in
    subst (λ (k : ℕ). AreConsWithin k (cons_at s1 c.as_slice-cons.result.now)) (sym c.len-vars.ensures) (subst (AreConsWithin (length c.args.source.now.vars)) same c.requires.below)

pub returns-clause-entries : goal.returns-clause-entries
returns-clause-entries c =
    let s = c.args.store.now in
    let s1 = c.own_type.new.store in
    let g = c.own_type.ensures.grows in
    let a = c.args.sig.now in
    let b = c.push_constructor_entries.new.sig in
    let source = c.args.source.now in
    let alg = c.args.alg.now in
    let v = length source.vars in
    let entries : ℕ → Tree → List AlgebraicConstructor → List ConstructorTree → List SymbolTree = constructors_entries c.args.place.now.theory.now c.args.place.now.within.now in
    let n = c.len-vars.result in
    let ks = constructors_in source in
    let cs = constructors_of c.as_slice-sources.result.now in
    let ys = cons_at s alg.cons in
    let ys1 = cons_at s1 c.as_slice-cons.result.now in
    let made : cs ≡ ks =
    ap constructors_of c.as_slice-sources.ensures ∙ sym (no_record source.name.text (map constructor_of source.cons) source.fields (subst (λ (ps : List ParamTree). length ps < 1) c.as_slice.ensures c.in_default.len_below)) in
    let same : ys1 ≡ ys = ap (cons_at s1) c.as_slice-cons.ensures ∙ cons_stay s s1 g alg.cons c.requires.typed.cons in
    let is : entries n (tree_at s1 c.in_ok-ty.ty) cs ys1 ≡ entries v (own_type alg.symbol v) ks ys =
    ap (λ (x : Tree). entries n x cs ys1) c.in_ok-ty.ensures.tree
    ∙ (ap (λ (k : ℕ). entries k (own_type alg.symbol k) cs ys1) c.len-vars.ensures ∙ (ap (λ (us : List AlgebraicConstructor). entries v (own_type alg.symbol v) us ys1) made ∙ ap (entries v (own_type alg.symbol v) ks) same)) in
    on_ok_weaker c.push_constructor_entries.result (λ h. extended_over s s1 g a b (entries v (own_type alg.symbol v) ks ys) c.requires.signature (subst (IsExtended s1 a s1 b) is h)) c.push_constructor_entries.ensures
