-- Trees with a hole: a variable that is open in one place of a list.
use Rattle.std.specs.Prelude.{◌≡◌, ℕ, ◌≤◌, List, [], ◌∷◌}
use Rattle.trees.specs.declared.Sort.TheVariants.{Kind}
use Rattle.trees.specs.Tree.{Tree, Two, Three, HCell, HLet, HCase, HEq, HFun, HPred, loose}
use Rattle.trees.specs.Binding.{inst, Bound}
use Rattle.trees.specs.Sorts.{sort_of}
use Rattle.tasks.specs.Vocabulary.{Vocabulary}
use Rattle.tasks.specs.Typing.{TypedUnder}

-- a list that begins with these members
abbrev pub listed : List Tree → Tree → Tree
listed [] rest = rest
listed (a ∷ as') rest = Two HCell a (listed as' rest)

-- each is closed
abbrev pub AreAllClosed : List Tree → Type 0
AreAllClosed [] = Unit {0}
AreAllClosed (a ∷ as') = (loose a ≡ 0) × AreAllClosed as'

-- a closed type
abbrev pub IsClosedType : Vocabulary → Tree → Type 0
IsClosedType v ty = (sort_of ty ≡ Kind) × TypedUnder v [] ty

-- each node with the variable 0 in the place of a term is the node with this term there, once the
-- term is put in
pub record FillsNodes (x ty : Tree) : Type 0 where
  pub value : (b : Tree) → loose b ≤ 1 → inst (Two HLet (Bound 0 ty) b) x ≡ Two HLet x b
  pub scrutinee : (arms : Tree) → loose arms ≡ 0
      → inst (Two HCase (Bound 0 ty) arms) x ≡ Two HCase x arms
  pub left : (e : Tree) → loose e ≡ 0 → inst (Two HEq (Bound 0 ty) e) x ≡ Two HEq x e
  pub right : (e : Tree) → loose e ≡ 0 → inst (Two HEq e (Bound 0 ty)) x ≡ Two HEq e x
  pub function : (f : ℕ) (types result : Tree) (before : List Tree) (rest : Tree) → loose types ≡ 0
      → loose result ≡ 0 → AreAllClosed before → loose rest ≡ 0
      → inst (Three (HFun f) types (listed before (Two HCell (Bound 0 ty) rest)) result) x
      ≡ Three (HFun f) types (listed before (Two HCell x rest)) result
  pub predicate : (p : ℕ) (types : Tree) (before : List Tree) (rest : Tree) → loose types ≡ 0
      → AreAllClosed before → loose rest ≡ 0
      → inst (Two (HPred p) types (listed before (Two HCell (Bound 0 ty) rest))) x
      ≡ Two (HPred p) types (listed before (Two HCell x rest))

-- each node that is typed with this term in a place is typed with a variable of the term's type
-- there, under one binder
pub record StaysTypedOpen (v : Vocabulary) (x ty : Tree) : Type 0 where
  pub value : (b : Tree) → TypedUnder v [] (Two HLet x b)
      → TypedUnder v (ty ∷ []) (Two HLet (Bound 0 ty) b)
  pub scrutinee : (arms : Tree) → TypedUnder v [] (Two HCase x arms)
      → TypedUnder v (ty ∷ []) (Two HCase (Bound 0 ty) arms)
  pub left : (e : Tree) → TypedUnder v [] (Two HEq x e)
      → TypedUnder v (ty ∷ []) (Two HEq (Bound 0 ty) e)
  pub right : (e : Tree) → TypedUnder v [] (Two HEq e x)
      → TypedUnder v (ty ∷ []) (Two HEq e (Bound 0 ty))
  pub function : (f : ℕ) (types result : Tree) (before : List Tree) (rest : Tree)
      → TypedUnder v [] (Three (HFun f) types (listed before (Two HCell x rest)) result)
      → TypedUnder v (ty ∷ [])
      (Three (HFun f) types (listed before (Two HCell (Bound 0 ty) rest)) result)
  pub predicate : (p : ℕ) (types : Tree) (before : List Tree) (rest : Tree)
      → TypedUnder v [] (Two (HPred p) types (listed before (Two HCell x rest)))
      → TypedUnder v (ty ∷ []) (Two (HPred p) types (listed before (Two HCell (Bound 0 ty) rest)))
