use Rattle.std.proofs.Common.{◌≡◌, ℕ, List, map, length, sym, ap, subst, arith}
use Rattle.std.proofs.Math.ListN.{length-map}
use Rattle.std.proofs.lemmas.Result.{on_ok_weaker}
use Rattle.tasks.specs.Task.{SymbolTree}
use Rattle.tasks.specs.Valid.{own_type}
use Rattle.tasks.specs.Meaning.{cons_at, algebraics_at}
use Rattle.elab_groups.specs.parts.Declarations.{word}
use Rattle.elab_groups.specs.parts.Entries.{IsExtended}
use Rattle.elab_groups.proofs.parts.Entering.{extended_both}
use Rattle.elab_groups.proofs.parts.Putting.{all_first, all_rest}
use Rattle.elab_declarations.specs.type_declarations.Algebraics.{constructors_in, algebraics_of, constructors_entries, group_entries}
use Rattle.elab_declarations.specs.type_declarations.Held.{AlgTyped, AreConsWithin, AreWithin}
use Rattle.elab_declarations.proofs.type_declarations.Typed.{algs_grow, algs_stay}
use Rattle.elab_declarations.proofs.type_declarations.entries.+push_entries.Goals as goal

pub push_type_constructors-requires-clause-typed : goal.push_type_constructors-requires-clause-typed
push_type_constructors-requires-clause-typed t c = all_first (AlgTyped c.args.store.now) c.args.types.now c.in-Some-split_first.alg.now c.in-Some-split_first.others.now c.in-Some-split_first.ensures.cases.0 c.requires.typed

pub push_type_constructors-requires-clause-below : goal.push_type_constructors-requires-clause-below
push_type_constructors-requires-clause-below t c =
    let first = c.in-Some.first.now in
    let below = rw (c.in-Some.ensures.cases.0, c.in-Some-split_first.ensures.cases.0) at c.requires.below in
    let here : AreConsWithin (length (map word first.vars)) (cons_at c.args.store.now c.in-Some-split_first.alg.now.cons) = below.0 in
    subst (λ (k : ℕ). AreConsWithin k (cons_at c.args.store.now c.in-Some-split_first.alg.now.cons)) (length-map first.vars word) here

pub push_entries-requires : goal.push_entries-requires
push_entries-requires t c =
    let s = c.args.store.now in
    let s1 = c.push_type_constructors.new.store in
    let g = c.push_type_constructors.ensures.grows in
    let alg = c.in-Some-split_first.alg.now in
    let others = c.in-Some-split_first.others.now in
    let typed = all_rest (AlgTyped s) c.args.types.now alg others c.in-Some-split_first.ensures.cases.0 c.requires.typed in
    let below = rw (c.in-Some.ensures.cases.0, c.in-Some-split_first.ensures.cases.0) at c.requires.below in
    let rest : AreWithin (algebraics_of c.in-Some.rest.now) (algebraics_at s others) = below.1 in
    (omega (arith, ap length c.in-Some.ensures.cases.0), (c.in_ok-push_type_constructors.ensures.entries.signature, (algs_grow s s1 g others typed, subst (AreWithin (algebraics_of c.in-Some.rest.now)) (sym (algs_stay s s1 g others typed)) rest)))

pub returns-clause-entries : goal.returns-clause-entries
returns-clause-entries t c =
    let s = c.args.store.now in
    let s1 = c.push_type_constructors.new.store in
    let g = c.push_type_constructors.ensures.grows in
    let a = c.args.sig.now in
    let b = c.push_type_constructors.new.sig in
    let theory = c.args.place.now.theory.now in
    let within = c.args.place.now.within.now in
    let first = c.in-Some.first.now in
    let alg = c.in-Some-split_first.alg.now in
    let others = c.in-Some-split_first.others.now in
    let typeds = all_rest (AlgTyped s) c.args.types.now alg others c.in-Some-split_first.ensures.cases.0 c.requires.typed in
    let ks = constructors_in first in
    let ys = cons_at s alg.cons in
    let entries : (v : ℕ) → List SymbolTree = λ v. constructors_entries theory within v (own_type alg.symbol v) ks ys in
    let here : List SymbolTree = entries (length (map word first.vars)) in
    let k0 : IsExtended s a s1 b here = subst (λ (v : ℕ). IsExtended s a s1 b (entries v)) (sym (length-map first.vars word)) c.in_ok-push_type_constructors.ensures.entries in
    let rest : List SymbolTree = group_entries theory within (algebraics_of c.in-Some.rest.now) (algebraics_at s others) in
    let e : group_entries theory within (algebraics_of c.in-Some.rest.now) (algebraics_at s1 others) ≡ rest = ap (group_entries theory within (algebraics_of c.in-Some.rest.now)) (algs_stay s s1 g others typeds) in
    rw (c.in-Some.ensures.cases.0, c.in-Some-split_first.ensures.cases.0) (on_ok_weaker c.push_entries.result (λ h. extended_both here rest k0 (subst (IsExtended s1 b c.push_entries.new.store c.push_entries.new.sig) e h)) c.push_entries.ensures.entries)
