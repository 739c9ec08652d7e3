-- What is typed over a vocabulary, where no pattern names a constructor in it, is typed over one with other constructors.
use Rattle.std.proofs.Common.{ℕ, List, ◌++◌, slice_get, IsSomeAnd, subst}
use Rattle.trees.specs.Tree.{Tree, Leaf, One, Two, Three, Head, HTyRigid, HTyApp, HPred, HFun, HPatCon}
use Rattle.tasks.specs.Task.{SymbolTree}
use Rattle.tasks.specs.Vocabulary.{Vocabulary}
use Rattle.tasks.specs.Typing.{LeafTyped, OneTyped, TwoTyped, ThreeTyped, TypedUnder, bound_types}
use Rattle.tasks.specs.Valid.{IsFormulaOver, IsTypeIn}
use Rattle.declarations.specs.Within.{NamesAll, IsNoPattern, MatchesNone}

module _ (v w : Vocabulary) (h : NamesAll v w) where
  entry_there : (k : ℕ) (P : SymbolTree → Type 0) → IsSomeAnd (slice_get v.symbols k) P → IsSomeAnd (slice_get w.symbols k) P
  entry_there k P x = subst (λ (z : List SymbolTree). IsSomeAnd (slice_get z k) P) h.symbols x

  leaf_there : (g : Head) → LeafTyped v g → LeafTyped w g
  leaf_there (HTyRigid k) x = (h.rigid k x.0, entry_there k _ x.1)
  leaf_there _ x = x

  one_there : (types : List Tree) (g : Head) (a : Tree) → OneTyped v types g a → OneTyped w types g a
  one_there types (HTyApp k) a x = (h.usable k x.0, entry_there k _ x.1)
  one_there types _ a x = x

  two_there : (g : Head) (a b : Tree) → TwoTyped v g a b → TwoTyped w g a b
  two_there (HPred p) a b x = (h.usable p x.0, entry_there p _ x.1)
  two_there _ a b x = x

  three_there : (g : Head) (a b c : Tree) → IsNoPattern g → ThreeTyped v g a b c → ThreeTyped w g a b c
  three_there (HFun f) a b c n x = (h.usable f x.0, entry_there f _ x.1)
  three_there (HPatCon k) a b c n x = absurd n
  three_there _ a b c n x = x

  pub typed_there : (types : List Tree) (e : Tree) → MatchesNone e → TypedUnder v types e → TypedUnder w types e
  typed_there types (Leaf g) n x = (x.0, leaf_there g x.1)
  typed_there types (One g a) n x = (x.0, one_there types g a x.1, typed_there types a n x.2)
  typed_there types (Two g a b) n x = (x.0, two_there g a b x.1, typed_there types a n.0 x.2, typed_there (bound_types g a ++ types) b n.1 x.3)
  typed_there types (Three g a b c) n x = (x.0, three_there g a b c n.0 x.1, typed_there types a n.1 x.2, typed_there types b n.2 x.3, typed_there types c n.3 x.4)

  pub formula_there : (params : List Tree) (vars : ℕ) (e : Tree) → MatchesNone e → IsFormulaOver v params vars e → IsFormulaOver w params vars e
  formula_there params vars e n f = record { sort = f.sort; typed = typed_there _ e n f.typed; parameters = f.parameters; variables = f.variables }

  pub type_there : (vars : ℕ) (e : Tree) → MatchesNone e → IsTypeIn v vars e → IsTypeIn w vars e
  type_there vars e n f = record { sort = f.sort; typed = typed_there _ e n f.typed; variables = f.variables }
