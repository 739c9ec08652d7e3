-- Signatures to which entries are added.
use Rattle.std.proofs.Common.{◌≡◌, ℕ, suc, List, [], ◌∷◌, ◌++◌, map, slice_get, Option, Some, None, IfSome, option_map, refl, sym, ap, subst, ◌∙◌, arith, append_assoc}
use Rattle.std.specs.Prelude.{codes}
use Rattle.std.specs.List.{All}
use Rattle.std.proofs.lemmas.List.{map-append, append-nil}
use Rattle.std.specs.Fmt.{decimal}
use Rattle.std.proofs.lemmas.List.Elements.{All-append, All-cons, All-nil, All-from_recursion}
use Rattle.tasks.specs.trees.declared.TermId.{TermId}
use Rattle.tasks.specs.trees.Tree.{Tree}
use Rattle.tasks.specs.trees.Node.{tree_at, Grows}
use Rattle.tasks.specs.trees.Facts.{TyVarsBelow}
use Rattle.tasks.specs.declared.signature.SymbolInfo.{SymbolInfo}
use Rattle.tasks.specs.declared.signature.Signature.{Signature}
use Rattle.tasks.specs.declared.signature.SymbolKind.TheVariants.{Constructor}
use Rattle.tasks.specs.Task.{SymbolTree, int_symbol}
use Rattle.tasks.specs.Meaning.{symbol_at, symbols_at}
use Rattle.tasks.specs.Rigid.{rigid_symbol}
use Rattle.tasks.specs.Equations.{type_variables}
use Rattle.open_types.specs.Scoped.{IsScopedEntry}
use Rattle.open_types.specs.Drafts.{HoldsType, SymbolTyped}
use Rattle.open_types.proofs.Growing.{type_grows, types_stay, wanted_stays, wanted_grows}
use Rattle.open_types.proofs.Below.{variables_all, cells_below}
use Rattle.tasks.specs.Valid.{own_type}
use Rattle.elab_groups.specs.parts.Entries.{type_entry, projections, constructor_entries, field_entry, field_entries, named_entries, builtin, tuple_entries, tuple_in, wanting_tuple, wanting_tuples, IsSignature, IsExtended}
use Rattle.tasks.proofs.Growth.{map_agree as map_same}

module _ (s s' : List Tree) (g : Grows s s') where
  entry_stays : (i : SymbolInfo) → SymbolTyped s i → symbol_at s' i ≡ symbol_at s i
  entry_stays i h = cc (types_stay s s' g i.args h.args, wanted_stays s s' g i.result h.result)

  entry_grows : (i : SymbolInfo) → SymbolTyped s i → SymbolTyped s' i
  entry_grows i h = record { args = λ k e l. type_grows s s' g _ (h.args k e l); result = wanted_grows s s' g i.result h.result }

  pub entries_stay : (is : List SymbolInfo) → IsSignature s is → symbols_at s' is ≡ symbols_at s is
  entries_stay is h = map_same (symbol_at s') (symbol_at s) is (λ k e l. entry_stays _ (h.typed k e l))

  pub signature_grows : (is : List SymbolInfo) → IsSignature s is → IsSignature s' is
  signature_grows is h = record {
    int = ap (λ (es : List SymbolTree). slice_get es 0) (entries_stay is h) ∙ h.int;
    typed = λ k e l. entry_grows _ (h.typed k e l);
    scoped = subst (All IsScopedEntry) (sym (entries_stay is h)) h.scoped;
  }

  pub extended_none : (a : Signature) → IsSignature s a.symbols → IsExtended s a s' a []
  extended_none a h = record { symbols = entries_stay a.symbols h ∙ sym (append-nil (symbols_at s a.symbols)); signature = signature_grows a.symbols h; ints = refl }

pub extended_both : {s s1 s2 : List Tree} {a b c : Signature} (xs ys : List SymbolTree) → IsExtended s a s1 b xs → IsExtended s1 b s2 c ys → IsExtended s a s2 c (xs ++ ys)
extended_both {s} {a = a} xs ys h k = record {
  symbols = k.symbols ∙ ap (λ (es : List SymbolTree). es ++ ys) h.symbols ∙ append_assoc (symbols_at s a.symbols) xs ys;
  signature = k.signature;
  ints = k.ints ∙ h.ints;
}

pub first_stays : {A : Type 0} (xs ys : List A) (x : A) → slice_get xs 0 ≡ Some x → slice_get (xs ++ ys) 0 ≡ Some x
first_stays [] ys x h = absurd (cc)
first_stays (z ∷ xs) ys x h = h

pub extended_one : (s : List Tree) (a b : Signature) (i : SymbolInfo) → IsSignature s a.symbols → SymbolTyped s i → IsScopedEntry (symbol_at s i) → b.symbols ≡ a.symbols ++ i ∷ [] → b.ints ≡ a.ints → IsExtended s a s b (symbol_at s i ∷ [])
extended_one s a b i h t c e n =
    let m : symbols_at s b.symbols ≡ symbols_at s a.symbols ++ symbol_at s i ∷ [] = ap (symbols_at s) e ∙ map-append (symbol_at s) a.symbols (i ∷ []) in
    record {
      symbols = m;
      signature = record {
        int = ap (λ (es : List SymbolTree). slice_get es 0) m ∙ first_stays (symbols_at s a.symbols) (symbol_at s i ∷ []) int_symbol h.int;
        typed = subst (All (SymbolTyped s)) (sym e) (All-append (SymbolTyped s) a.symbols (i ∷ []) h.typed (All-cons (SymbolTyped s) i [] t (All-nil (SymbolTyped s))));
        scoped = subst (All IsScopedEntry) (sym m) (All-append IsScopedEntry (symbols_at s a.symbols) (symbol_at s i ∷ []) h.scoped (All-cons IsScopedEntry (symbol_at s i) [] c (All-nil IsScopedEntry)));
      };
      ints = n;
    }

-- over a store that grew
pub extended_grows : {s s1 s2 : List Tree} {a b : Signature} (xs : List SymbolTree) → Grows s1 s2 → IsExtended s a s1 b xs → IsExtended s a s2 b xs
extended_grows {s} {s1} {s2} {a} {b} xs g h = record { symbols = entries_stay s1 s2 g b.symbols h.signature ∙ h.symbols; signature = signature_grows s1 s2 g b.symbols h.signature; ints = h.ints }

-- ---- constructors without names of fields
unnamed_fields : (theory name : List ℕ) (vars : ℕ) (t : Tree) (i : ℕ) (fs : List Tree) → field_entries theory [] name vars t i [] fs ≡ projections theory name vars t i fs
unnamed_fields theory name vars t i [] = refl
unnamed_fields theory name vars t i (f ∷ fs) = ap (λ (es : List SymbolTree). field_entry theory [] name vars t i [] f ∷ es) (unnamed_fields theory name vars t (suc i) fs)

pub unnamed_entries : (theory name : List ℕ) (vars : ℕ) (t : Tree) (fs : List Tree) → named_entries theory [] name vars t [] fs ≡ constructor_entries theory name vars t fs
unnamed_entries theory name vars t fs = ap (λ (es : List SymbolTree). record { theory = theory; name = name; kind = Constructor; vars = vars; args = fs; result = Some t } ∷ es) (unnamed_fields theory name vars t 1 fs)

-- ---- tuples
pub variables_below : (n : ℕ) → All (TyVarsBelow n) (type_variables 0 n)
variables_below n = All-from_recursion (TyVarsBelow n) (type_variables 0 n) (variables_all 0 n n (omega arith))

pub own_below : (k n : ℕ) → TyVarsBelow n (own_type k n)
own_below k n = cells_below n (type_variables 0 n) (variables_all 0 n n (omega arith))

pub tuple_extended : {s s1 s2 : List Tree} {a b c : Signature} (k n : ℕ) → Grows s s1 → Grows s1 s2 → IsExtended s a s b (type_entry builtin (codes "tuple" ++ decimal n) n ∷ [])
    → IsExtended s1 b s2 c (constructor_entries builtin (codes "Tuple" ++ decimal n) n (own_type k n) (type_variables 0 n)) → IsExtended s a s2 c (tuple_entries k n)
tuple_extended {a = a} k n g w h t =
    extended_both (type_entry builtin (codes "tuple" ++ decimal n) n ∷ []) (constructor_entries builtin (codes "Tuple" ++ decimal n) n (own_type k n) (type_variables 0 n)) (extended_grows (type_entry builtin (codes "tuple" ++ decimal n) n ∷ []) g h) t

pub tuples_step : {s s1 s2 : List Tree} {a b c : Signature} (n : ℕ) (ns : List ℕ) → IsExtended s a s1 b (wanting_tuple (symbols_at s a.symbols) n (tuple_in (symbols_at s a.symbols) n))
    → IsExtended s1 b s2 c (wanting_tuples (symbols_at s1 b.symbols) ns) → IsExtended s a s2 c (wanting_tuples (symbols_at s a.symbols) (n ∷ ns))
tuples_step {s} {s1} {s2} {a} {b} {c} n ns h k =
    let more = wanting_tuple (symbols_at s a.symbols) n (tuple_in (symbols_at s a.symbols) n) in
    extended_both more (wanting_tuples (symbols_at s a.symbols ++ more) ns) h (subst (λ (es : List SymbolTree). IsExtended s1 b s2 c (wanting_tuples es ns)) h.symbols k)

-- ---- rigid type variables
map_nil : {A B : Type 0} (f : A → B) (xs : List A) → map f xs ≡ [] → xs ≡ []
map_nil f [] h = refl
map_nil f (x ∷ xs) h = absurd (cc)

no_result : (s : List Tree) (r : Option TermId) → option_map (tree_at s) r ≡ None → IfSome r (HoldsType s)
no_result s None h = tt
no_result s (Some id) h = absurd (cc)

pub rigid_typed : (s : List Tree) (i : SymbolInfo) (v : List ℕ) → symbol_at s i ≡ rigid_symbol v → SymbolTyped s i
rigid_typed s i v h = record {
  args = subst (All (HoldsType s)) (sym (map_nil (tree_at s) i.args (ap (λ (e : SymbolTree). e.args) h))) (All-nil (HoldsType s));
  result = no_result s i.result (ap (λ (e : SymbolTree). e.result) h);
}

pub rigid_scoped : (v : List ℕ) → IsScopedEntry (rigid_symbol v)
rigid_scoped v = record { args = All-nil (TyVarsBelow 0); result = tt }
