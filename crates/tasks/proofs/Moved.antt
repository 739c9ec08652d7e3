-- What is typed over a vocabulary is typed over a larger one.
use Rattle.std.proofs.Common.{◌≡◌, ℕ, List, ◌++◌, slice_get, IsTrue, IsSomeAnd, subst}
use Rattle.trees.specs.Tree.{Tree, Leaf, One, Two, Three, Head, HTyRigid, HTyApp, HPred, HFun, HPatCon}
use Rattle.tasks.specs.Task.{SymbolTree}
use Rattle.tasks.specs.Vocabulary.{Vocabulary}
use Rattle.tasks.specs.Typing.{LeafTyped, OneTyped, TwoTyped, ThreeTyped, TypedUnder, bound_types}

-- it has the same entries, and all that the other may name
pub record IsWithin (v w : Vocabulary) : Type 0 where
  pub symbols : v.symbols ≡ w.symbols
  pub rigid : (k : ℕ) → IsTrue (v.rigid k) → IsTrue (w.rigid k)
  pub usable : (k : ℕ) → IsTrue (v.usable k) → IsTrue (w.usable k)
  pub matched : (k : ℕ) → IsTrue (v.matched k) → IsTrue (w.matched k)

module _ (v w : Vocabulary) (h : IsWithin v w) where
  entry_within : (k : ℕ) (P : SymbolTree → Type 0) → IsSomeAnd (slice_get v.symbols k) P → IsSomeAnd (slice_get w.symbols k) P
  entry_within k P x = subst (λ (z : List SymbolTree). IsSomeAnd (slice_get z k) P) h.symbols x

  leaf_within : (g : Head) → LeafTyped v g → LeafTyped w g
  leaf_within (HTyRigid k) x = (h.rigid k x.0, entry_within k _ x.1)
  leaf_within _ x = x

  one_within : (types : List Tree) (g : Head) (a : Tree) → OneTyped v types g a → OneTyped w types g a
  one_within types (HTyApp k) a x = (h.usable k x.0, entry_within k _ x.1)
  one_within types _ a x = x

  two_within : (g : Head) (a b : Tree) → TwoTyped v g a b → TwoTyped w g a b
  two_within (HPred p) a b x = (h.usable p x.0, entry_within p _ x.1)
  two_within _ a b x = x

  three_within : (g : Head) (a b c : Tree) → ThreeTyped v g a b c → ThreeTyped w g a b c
  three_within (HFun f) a b c x = (h.usable f x.0, entry_within f _ x.1)
  three_within (HPatCon k) a b c x = (h.matched k x.0, entry_within k _ x.1)
  three_within _ a b c x = x

  pub typed_within : (types : List Tree) (e : Tree) → TypedUnder v types e → TypedUnder w types e
  typed_within types (Leaf g) x = (x.0, leaf_within g x.1)
  typed_within types (One g a) x = (x.0, one_within types g a x.1, typed_within types a x.2)
  typed_within types (Two g a b) x = (x.0, two_within g a b x.1, typed_within types a x.2, typed_within (bound_types g a ++ types) b x.3)
  typed_within types (Three g a b c) x = (x.0, three_within g a b c x.1, typed_within types a x.2, typed_within types b x.3, typed_within types c x.4)
