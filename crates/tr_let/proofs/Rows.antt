-- Worked rows by computation: nested `let`s, under a binder, in a term of an atom, a value that isn't used, and other nodes.
use Rattle.std.proofs.Common.{◌≡◌, ℕ, List, [], ◌∷◌, pos, refl}
use Rattle.trees.specs.declared.Op.TheVariants.{And}
use Rattle.trees.specs.Tree.{Tree, Leaf, Two, Three, HEnd, HNum, HFun, HPred, HEq, HTrue, HJoin, HForall, HLet, HIf}
use Rattle.trees.specs.Binding.{Bound}
use Rattle.trees.specs.Sorts.{int_type}
use Rattle.tasks.specs.Equations.{cells}
use Rattle.walking.specs.images.Images.{image}
use Rattle.tr_let.specs.LetRule.{let_rule}

abbrev bound : ℕ → Tree
bound i = Bound i int_type

abbrev number : ℕ → Tree
number n = Leaf (HNum (pos n))

abbrev function : ℕ → List Tree → Tree
function f args = Three (HFun f) (Leaf HEnd) (cells args) int_type

abbrev predicate : ℕ → List Tree → Tree
predicate p args = Two (HPred p) (Leaf HEnd) (cells args)

abbrev equals : Tree → Tree → Tree
equals a b = Two HEq a b

abbrev let_in : Tree → Tree → Tree
let_in t e = Two HLet t e

abbrev forall_int : Tree → Tree
forall_int a = Two HForall int_type a

-- `let x = 1 in let y = f x x in p x y` is `p 1 (f 1 1)`
nested-row : image let_rule (let_in (number 1) (let_in (function 5 (bound 0 ∷ bound 0 ∷ [])) (predicate 6 (bound 1 ∷ bound 0 ∷ [])))) ≡ predicate 6 (number 1 ∷ function 5 (number 1 ∷ number 1 ∷ []) ∷ [])
nested-row = refl

-- `forall z. let x = f z in forall w. p x w z` is `forall z. forall w. p (f z) w z`
binder-row : image let_rule (forall_int (let_in (function 5 (bound 0 ∷ [])) (forall_int (predicate 6 (bound 1 ∷ bound 0 ∷ bound 2 ∷ []))))) ≡ forall_int (forall_int (predicate 6 (function 5 (bound 1 ∷ []) ∷ bound 0 ∷ bound 1 ∷ [])))
binder-row = refl

-- `forall z. (let x = z in f x) = z` is `forall z. f z = z`
atom-row : image let_rule (forall_int (equals (let_in (bound 0) (function 5 (bound 0 ∷ []))) (bound 0))) ≡ forall_int (equals (function 5 (bound 0 ∷ [])) (bound 0))
atom-row = refl

-- `let x = f 1 in true` is `true`
unused-row : image let_rule (let_in (function 5 (number 1 ∷ [])) (Leaf HTrue)) ≡ Leaf HTrue
unused-row = refl

-- a value that is a `let`: `let x = (let y = 2 in f y) in p x` is `p (f 2)`
value-row : image let_rule (let_in (let_in (number 2) (function 5 (bound 0 ∷ []))) (predicate 6 (bound 0 ∷ []))) ≡ predicate 6 (function 5 (number 2 ∷ []) ∷ [])
value-row = refl

-- a `let` in a condition: `if let x = 1 in p x then true else p 2`
condition-row : image let_rule (Three HIf (let_in (number 1) (predicate 6 (bound 0 ∷ []))) (Leaf HTrue) (predicate 6 (number 2 ∷ []))) ≡ Three HIf (predicate 6 (number 1 ∷ [])) (Leaf HTrue) (predicate 6 (number 2 ∷ []))
condition-row = refl
