-- Declarations of other theories, which a map leaves as they are: what they make may be named where they are.
use Rattle.std.proofs.Common.{◌≡◌, ◌≢◌, ◌⊎◌, inl, inr, ℕ, Bool, true, false, List, [], ◌∷◌, ◌++◌, map, length, slice_get, All, Contains, Option, Some, None, IfSome, option_map, IsSomeAnd, IsTrue, refl, sym, ap, subst, ◌∙◌, arith}
use Rattle.std.proofs.lemmas.List.Elements.{All-tail, All-head}
use Rattle.elab_groups.specs.trees.Tree.{Tree, Leaf, One, Two, Three, HTyApp, HEnd, HCell}
use Rattle.elab_groups.specs.tasks.declared.signature.SymbolKind.TheVariants.{Kind, Constructor}
use Rattle.elab_groups.specs.tasks.Task.{SymbolTree, int_symbol, DeclarationTree, made}
use Rattle.elab_groups.specs.tasks.Vocabulary.{Vocabulary, passes}
use Rattle.elab_groups.specs.tasks.Typing.{members, entry, IsTypeSymbol}
use Rattle.elab_groups.specs.tasks.Valid.{HasTypes, IsTypeIn}
use Rattle.clones.specs.Mapped.{Map, type_mapped, mapped}
use Rattle.elaboration_laws.specs.Scopes.{IsSubvocabulary}
use Rattle.elaboration_laws.proofs.Over.{IsOver, type_over}
use Rattle.elaboration_laws.specs.Lists.{is_built, after}
use Rattle.elaboration_laws.proofs.Lists.{list_part}
use Rattle.elaboration_laws.specs.Built.{IsBuiltRight}
use Rattle.elaboration_laws.specs.Tasks.{AreSound}
use Rattle.elaboration_laws.proofs.Grown.{more_part, none_sound}
use Rattle.elaboration_laws.proofs.Joined.{matched_usable}
use Rattle.elaboration_laws.specs.Morphisms.{TypeBecomes, KindBecomes, HasMappedTypes}
use Rattle.elaboration_laws.specs.Cloning.{IsCloning, IsFixed, KeepsBuilt}
use Rattle.elaboration_laws.proofs.Vocabularies.{usable_cases, typed_list}
use Rattle.elaboration_laws.proofs.Copied.{kinds_become}

-- ---- what a map leaves
module _ (v : Vocabulary) (m : Map) (fixed : (k n : ℕ) → IsTypeSymbol v k n → IsFixed m k) where
  over_fixed : (b : Bool) (e : Tree) → IsOver v b e → mapped m e ≡ e
  over_fixed b (Leaf h) o = refl
  over_fixed true (One (HTyApp s) a) o =
      let f = fixed s (length (members a)) o.0 in
      ap (type_mapped (m.types s) (m.symbols s)) (over_fixed false a o.1) ∙ ap (λ (t : Option Tree). type_mapped t (m.symbols s) a) f.type ∙ ap (λ (j : ℕ). One (HTyApp j) a) f.symbol
  over_fixed true (One _ a) o = absurd o.0
  over_fixed false (One h a) o = absurd o.0
  over_fixed true (Two h a b) o = absurd o.0
  over_fixed false (Two HCell a b) o = cc (over_fixed true a o.1, over_fixed false b o.2)
  over_fixed false (Two _ a b) o = absurd o.0
  over_fixed b (Three h a c d) o = absurd o

  all_fixed : (n : ℕ) (ts : List Tree) → All (IsTypeIn v n) ts → ts ≡ map (mapped m) ts
  all_fixed n [] h = refl
  all_fixed n (t ∷ ts) h = cc (sym (over_fixed true t (type_over v n t (All-head (IsTypeIn v n) t ts h))), all_fixed n ts (All-tail (IsTypeIn v n) t ts h))

  some_fixed : (n : ℕ) (o : Option Tree) → IfSome o (IsTypeIn v n) → o ≡ option_map (mapped m) o
  some_fixed n None h = refl
  some_fixed n (Some t) h = ap (λ (z : Tree). Some z) (sym (over_fixed true t (type_over v n t h)))

  types_fixed : (e : SymbolTree) → HasTypes v e → HasMappedTypes m e e
  types_fixed e h = record { vars = refl; args = all_fixed e.vars e.args h.args; result = some_fixed e.vars e.result h.result }

-- an entry that stays is its own image where it may be named
module _ (v w : Vocabulary) (part : IsSubvocabulary v w) (m : Map) (fixed : (k n : ℕ) → IsTypeSymbol v k n → IsFixed m k) (k : ℕ) (e : SymbolTree) (q : entry v k ≡ Some e) (f : IsFixed m k) where
  there : entry w (m.symbols k) ≡ Some e
  there = ap (entry w) f.symbol ∙ part.entries k e q

  usable_there : IsTrue (v.usable k) → IsTrue (w.usable (m.symbols k))
  usable_there u = subst (λ (j : ℕ). IsTrue (w.usable j)) (sym f.symbol) (part.usable k e q u)

  matched_there : IsTrue (v.matched k) → IsTrue (w.matched (m.symbols k))
  matched_there u = subst (λ (j : ℕ). IsTrue (w.matched j)) (sym f.symbol) (part.matched k e q u)

  pub stays_type : IsTrue (v.usable k) → e.kind ≡ Kind → TypeBecomes w e.vars (m.symbols k) (m.types k)
  stays_type u z = subst (λ (o : Option Tree). TypeBecomes w e.vars (m.symbols k) o) (sym f.type) (usable_there u, rw there (z, refl))

  pub stays_symbol : IsTrue (v.usable k) → HasTypes v e → e.kind ≢ Kind → IsTrue (w.usable (m.symbols k)) × IsSomeAnd (entry w (m.symbols k)) (λ j. KindBecomes e.kind j.kind × HasMappedTypes m e j)
  stays_symbol u h z = (usable_there u, rw there (kinds_become e.kind z, types_fixed v m fixed e h))

  pub stays_pattern : IsTrue (v.matched k) → HasTypes v e → e.kind ≡ Constructor → IsTrue (w.matched (m.symbols k)) × IsSomeAnd (entry w (m.symbols k)) (λ j. (j.kind ≡ Constructor) × HasMappedTypes m e j)
  stays_pattern u h z = (matched_there u, rw there (z, types_fixed v m fixed e h))

-- ---- the beginning
module _ (xs more : List SymbolTree) (now : List DeclarationTree) (m : Map) (built : IsBuiltRight xs) (sound : AreSound (xs ++ more) now) (keeps : KeepsBuilt xs m) where
  abbrev v : Vocabulary
  v = after xs [] []

  abbrev w : Vocabulary
  w = after (xs ++ more) [] now

  begin_part : IsSubvocabulary v w
  begin_part =
      let a = more_part xs more [] [] in
      let b = list_part (xs ++ more) [] [] now in
      record {
        entries = λ k e q. b.entries k e (a.entries k e q);
        rigid = λ k e q h. b.rigid k e (a.entries k e q) (a.rigid k e q h);
        usable = λ k e q h. b.usable k e (a.entries k e q) (a.usable k e q h);
        matched = λ k e q h. b.matched k e (a.entries k e q) (a.matched k e q h);
      }

  built_at : (k : ℕ) (e : SymbolTree) → slice_get xs k ≡ Some e → IsTrue (v.usable k) → is_built e ≡ true
  built_at k e q u = of (usable_cases xs [] k u)
    where
      of : IsTrue (passes is_built (slice_get xs k)) ⊎ Contains (made []) k → is_built e ≡ true
      of (inl b) = subst (λ (o : Option SymbolTree). IsTrue (passes is_built o)) q b
      of (inr c) = absurd (omega (arith, c.1))

  fixed_at : (k n : ℕ) → IsTypeSymbol v k n → IsFixed m k
  fixed_at k n t = of (slice_get xs k) refl t.1
    where
      of : (o : Option SymbolTree) → slice_get xs k ≡ o → IsSomeAnd o (λ e. (e.kind ≡ Kind) × (n ≡ e.vars)) → IsFixed m k
      of None q h = absurd h
      of (Some e) q h = keeps k e q (built_at k e q t.0)

  nothing : AreSound xs []
  nothing = none_sound xs built

  type_begun : (k n : ℕ) → IsTypeSymbol v k n → TypeBecomes w n (m.symbols k) (m.types k)
  type_begun k n t = of (slice_get xs k) refl t.1
    where
      of : (o : Option SymbolTree) → slice_get xs k ≡ o → IsSomeAnd o (λ e. (e.kind ≡ Kind) × (n ≡ e.vars)) → TypeBecomes w n (m.symbols k) (m.types k)
      of None q h = absurd h
      of (Some e) q h = subst (λ (i : ℕ). TypeBecomes w i (m.symbols k) (m.types k)) (sym h.1) (stays_type v w begin_part m fixed_at k e q (keeps k e q (built_at k e q t.0)) t.0 h.0)

  pub cloning_begun : IsCloning xs [] m (xs ++ more) now
  cloning_begun = record {
    source = nothing;
    sound = sound;
    morphism = record {
      int = let f = keeps 0 int_symbol built.int refl in ap (λ (t : Option Tree). type_mapped t (m.symbols 0) (Leaf HEnd)) f.type ∙ ap (λ (j : ℕ). One (HTyApp j) (Leaf HEnd)) f.symbol;
      types = record { rigid = λ k r. absurd (let z : true ≡ false = sym r.0 in cc); types = type_begun };
      symbols = λ k e q u z. stays_symbol v w begin_part m fixed_at k e q (keeps k e q (built_at k e q u)) u (typed_list xs [] nothing k e q (inl u) z) z;
      patterns = λ k e q u z. stays_pattern v w begin_part m fixed_at k e q (keeps k e q (built_at k e q (matched_of k u))) u (typed_list xs [] nothing k e q (inr u) (λ i. let y : Constructor ≡ Kind = sym z ∙ i in cc)) z;
    };
  }
    where
      matched_of : (k : ℕ) → IsTrue (v.matched k) → IsTrue (v.usable k)
      matched_of k u = matched_usable xs [] k u
