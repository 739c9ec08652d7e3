-- What is elaborated keeps declarations sound: the next declaration is after them, and a goal is a sound one.
use Rattle.std.proofs.Common.{◌≡◌, ℕ, ◌<◌, List, [], ◌++◌, length, get_or, All, Some, sym, ap, subst, ◌∙◌, arith}
use Rattle.std.specs.List.{Contains}
use Rattle.std.proofs.lemmas.List.Elements.{All-append, All-contains, Contains-get_or}
use Rattle.elab_groups.specs.trees.Tree.{Tree}
use Rattle.elab_groups.specs.trees.Sorts.{WellSorted}
use Rattle.elab_groups.specs.trees.Node.{tree_at, Holds}
use Rattle.elab_groups.specs.trees.declared.TermId.{TermId}
use Rattle.elab_groups.specs.tasks.Task.{SymbolTree, symbol_or, DeclarationTree, made, made_by}
use Rattle.elab_groups.specs.tasks.Meaning.{symbols_at, declarations_at, DeclHeld}
use Rattle.elab_groups.specs.tasks.declared.signature.Signature.{Signature}
use Rattle.elab_groups.specs.scopes.Names.{ScopeNames}
use Rattle.elab_groups.specs.surface.Declarations as source
use Rattle.elab_groups.specs.declared.parts.made.Elaborated.{Elaborated}
use Rattle.elab_groups.specs.parts.Declarations.{Declaration, declaration}
use Rattle.elab_groups.specs.parts.Outcomes.{Setting}
use Rattle.elab_declarations.specs.Outcomes.{IsElaborated}
use Rattle.elaboration_laws.specs.Valid.{IsTypedSetting, HaveNoFault}
use Rattle.elaboration_laws.specs.Lists.{after, AreValidAfter, IsNoGoal, MakesBelow, IsGroupWhole}
use Rattle.elaboration_laws.proofs.Steps.{next_declaration}
use Rattle.elaboration_laws.specs.Built.{IsBuiltRight}
use Rattle.elaboration_laws.specs.Tasks.{IsOwnSymbol, IsOfTheory, AreSound, HasRecords}
use Rattle.elaboration_laws.proofs.Distinct.{IsDistinct, distinct_pairs, pairs_distinct, distinct_both}
use Rattle.elaboration_laws.proofs.TupleDecls.{made_both}
use Rattle.elaboration_laws.proofs.TaskSound.{each_made}
use Rattle.elaboration_laws.proofs.TaskOutcomes.{elaborated_kept}
use Rattle.elaboration_laws.proofs.MadeRecords.{IsNumbered, valid_records}
use Rattle.elaboration_laws.proofs.Once.{IsOnce, outcome_once}
use Rattle.elaboration_laws.proofs.Grown.{sound_more, then_valid}

module _ (c : Setting) (ds : List DeclarationTree) (x : Declaration) (g : Signature) (s : List Tree) (h : Signature) (names : ScopeNames) (it : Elaborated) (typed : IsTypedSetting (after c.symbols [] ds) c) (below : MakesBelow (length c.symbols) ds) (e : IsElaborated c x g s h names it)
    (sound : AreSound c.symbols ds) where
  abbrev all : List SymbolTree
  all = symbols_at s h.symbols

  abbrev new : List DeclarationTree
  new = declarations_at s it.decls

  once : IsOnce c e.outcome
  once = outcome_once c x e.outcome e.is

  pub front_kept : AreSound all ds
  front_kept = subst (λ (es : List SymbolTree). AreSound es ds) (sym e.symbols_are) (sound_more c.symbols e.outcome.symbols ds sound (subst IsBuiltRight e.symbols_are (elaborated_kept c x g s h names it typed.source e sound.built)))

  own_new : (k : ℕ) → Contains (made new) k → IsOwnSymbol all k
  own_new k i =
      let q : (symbol_or all k).theory ≡ c.theory = ap (λ (es : List SymbolTree). (symbol_or es k).theory) e.symbols_are ∙ once.theory k (subst (λ (xs : List DeclarationTree). Contains (made xs) k) e.decls i) in
      record { stands = rw q typed.theory; other = rw q typed.source }

  theory_new : All (IsOfTheory all) new
  theory_new = λ i d l j k m.
      let x = get_or new i d in
      let n = get_or (made_by x.body) j k in
      let of : All (λ (y : DeclarationTree). y.theory ≡ c.theory) new = subst (All (λ (y : DeclarationTree). y.theory ≡ c.theory)) (sym e.decls) once.of in
      let here : Contains (made new) n = each_made new i d l n (Contains-get_or (made_by x.body) j k m) in
      let q : (symbol_or all n).theory ≡ c.theory = ap (λ (es : List SymbolTree). (symbol_or es n).theory) e.symbols_are ∙ once.theory n (subst (λ (xs : List DeclarationTree). Contains (made xs) n) e.decls here) in
      let z : x.theory ≡ c.theory = of i d l in
      q ∙ sym z

  numbered_new : All (λ (d : DeclarationTree). IsNumbered all d.body) new
  numbered_new =
      subst (λ (zs : List SymbolTree). All (λ (d : DeclarationTree). IsNumbered zs d.body) new) (sym e.symbols_are)
      (subst (All (λ (d : DeclarationTree). IsNumbered (c.symbols ++ e.outcome.symbols) d.body)) (sym e.decls) once.numbered)

  pub both_sound : AreValidAfter all ds new → AreSound all (ds ++ new)
  both_sound valid =
      let q = made_both ds new in
      record {
        built = front_kept.built;
        valid = then_valid all [] ds new front_kept.valid valid;
        once = distinct_pairs (made (ds ++ new)) (subst IsDistinct (sym q) (distinct_both (made ds) (made new) (pairs_distinct (made ds) sound.once) (subst (λ (xs : List DeclarationTree). IsDistinct (made xs)) (sym e.decls) once.distinct) apart));
        own = subst (All (IsOwnSymbol all)) (sym q) (All-append (IsOwnSymbol all) (made ds) (made new) front_kept.own (λ k i l. own_new (get_or (made new) k i) (Contains-get_or (made new) k i l)));
        theories = All-append (IsOfTheory all) ds new front_kept.theories theory_new;
        records = All-append (λ (d : DeclarationTree). HasRecords all (made_by d.body)) ds new front_kept.records (valid_records all ds new valid numbered_new);
      }
    where
      apart : (k : ℕ) → Contains (made ds) k → Contains (made new) k → ⊥
      apart k a b =
          let l : k < length c.symbols = All-contains (λ (j : ℕ). j < length c.symbols) (made ds) k below a in
          let m = once.later k (subst (λ (xs : List DeclarationTree). Contains (made xs) k) e.decls b) in
          omega (arith, l, m)

pub next_sound : (c : Setting) (ds : List DeclarationTree) (d : source.SyntaxDeclaration) (x : Declaration) (g : Signature) (s : List Tree) (h : Signature) (names : ScopeNames) (it : Elaborated) → IsTypedSetting (after c.symbols [] ds) c → MakesBelow (length c.symbols) ds
    → declaration d ≡ Some x → IsGroupWhole d → IsNoGoal d → IsElaborated c x g s h names it → ((id : TermId) → Holds s id → WellSorted (tree_at s id)) → All (DeclHeld s) it.decls → HaveNoFault (symbols_at s h.symbols) (declarations_at s it.decls)
    → AreSound c.symbols ds → AreSound (symbols_at s h.symbols) (ds ++ declarations_at s it.decls)
next_sound c ds d x g s h names it typed below q w p e sorted held passes sound =
    both_sound c ds x g s h names it typed below e sound (next_declaration c ds d x g s h names it typed below q w p e sorted held passes).valid
