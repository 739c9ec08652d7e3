-- What names of a theory that is cloned stand for, under the map of the clone.
use Rattle.std.proofs.Common.{◌≡◌, ◌≢◌, ℕ, ◌<◌, not, false, zero, suc, List, [], ◌∷◌, length, slice_get, Option, Some, None, IsSomeAnd, IsTrue, refl, sym, ap, subst, arith}
use Rattle.elab_groups.specs.trees.Tree.{Tree}
use Rattle.elab_groups.specs.tasks.declared.signature.SymbolKind.TheVariants.{Kind}
use Rattle.elab_groups.specs.tasks.Task.{SymbolTree, symbol_or, int_symbol}
use Rattle.elab_groups.specs.tasks.Vocabulary.{Vocabulary, passes, is_empty, of_signature}
use Rattle.elab_groups.specs.tasks.Typing.{IsTypeSymbol}
use Rattle.elab_groups.specs.tasks.Valid.{IsTypeIn}
use Rattle.clones.specs.Mapped.{Map}
use Rattle.elaboration_laws.specs.Scopes.{IsTypeNumber, IsSymbolNumber}
use Rattle.elaboration_laws.specs.Morphisms.{TypeBecomes, MapsTypes}
use Rattle.std.proofs.lemmas.Option.{slice_get-get_or as some_at}

pub slice_there : (es : List SymbolTree) (k : ℕ) (P : SymbolTree → Type 0) → IsSomeAnd (slice_get es k) P → (k < length es) × P (symbol_or es k)
slice_there [] k P h = absurd h
slice_there (e ∷ es) zero P h = (omega arith, h)
slice_there (e ∷ es) (suc k) P h = let r = slice_there es k P h in (let l = r.0 in omega (arith, l), r.1)

module _ (v w : Vocabulary) (m : Map) (becomes : MapsTypes v w m) (k : ℕ) (h : IsTypeNumber v k) where
  symbol_here : IsTypeSymbol v k (symbol_or v.symbols k).vars
  symbol_here = (h.usable, rw (some_at v.symbols k int_symbol h.there) (h.kind, refl))

  type_here : (o : Option Tree) → m.types k ≡ o → TypeBecomes w (symbol_or v.symbols k).vars (m.symbols k) o
  type_here o q = subst (TypeBecomes w (symbol_or v.symbols k).vars (m.symbols k)) q (becomes.types k (symbol_or v.symbols k).vars symbol_here)

  pub type_kept : m.types k ≡ None → IsTypeNumber w (m.symbols k)
  type_kept q =
      let t : IsTypeSymbol w (m.symbols k) (symbol_or v.symbols k).vars = type_here None q in
      let r = slice_there w.symbols (m.symbols k) (λ e. (e.kind ≡ Kind) × ((symbol_or v.symbols k).vars ≡ e.vars)) t.1 in
      record { there = r.0; usable = t.0; kind = r.1.0 }

  pub type_replaced : (e : Tree) → m.types k ≡ Some e → IsTypeIn w (symbol_or v.symbols k).vars e
  type_replaced e q = type_here (Some e) q

pub symbol_there : (xs : List SymbolTree) (k : ℕ) → k < length xs → is_empty (symbol_or xs k).theory ≡ false → (symbol_or xs k).kind ≢ Kind → IsSymbolNumber (of_signature xs) k
symbol_there xs k l stands kind = record {
  there = l;
  usable = subst (λ (o : Option SymbolTree). IsTrue (passes (λ i. not (is_empty i.theory)) o)) (sym (some_at xs k int_symbol l)) (ap not stands);
  kind = kind;
}
